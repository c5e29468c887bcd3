-- The rules from the fourth on: a lock is asked for behind the last one of a chain.
use Rattle.std.specs.Prelude.{List, [], ◌∷◌}
use Rattle.wit_model.specs.declared.profiles.Profile.{Profile}
use Rattle.wit_model.specs.declared.locks.Instance.{Instance}
use Rattle.wit_model.specs.declared.calls.TypedRequest.{TypedRequest}
use Rattle.wit_model.specs.Rules.Verdict.{Basis, Rule, compared, holds_it, doubles, follows}
use Rattle.wit_model.specs.Rules.Verdict.{breaks_order, teaches}

abbrev pub over : Profile → Basis → List Instance → TypedRequest → List Rule
over profile g chain q =
    holds_it chain q
    ∷ doubles g (compared profile chain) q
    ∷ follows g (compared profile chain) q
    ∷ breaks_order g chain q
    ∷ teaches profile g (compared profile chain) q
    ∷ []
