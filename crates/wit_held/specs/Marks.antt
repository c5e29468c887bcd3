-- What a mark makes of a list of held locks: that one of them must not be released, or may be
-- again.
use Rattle.std.specs.Prelude.{ℕ, Bool, List}
use Rattle.wit_model.specs.declared.locks.Instance.{Instance}
use Rattle.wit_model.specs.Rules.Chunks.{Chunks, groups_of, set_groups}
use Rattle.wit_held.specs.Chains.{change_lock}

abbrev pub marked : Bool → Instance → Instance
marked norelease i = record i { norelease = norelease }

abbrev pub after_mark : Chunks → ℕ → ℕ → Bool → List (List (List Instance))
after_mark c list l norelease =
    set_groups c list (change_lock l (marked norelease) (groups_of c list))
