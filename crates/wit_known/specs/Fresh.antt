-- A new verifier.
use Rattle.std.specs.Prelude.{String, List}
use Rattle.std.specs.Global.{Vec, Global}
use Rattle.wit_model.specs.declared.profiles.Profile.{Profile}
use Rattle.wit_model.specs.declared.locks.Class.{Class}
use Rattle.wit_model.specs.Rules.Sizes.{Sizes}
use Rattle.wit_model.specs.Rules.State.{Start}
use Rattle.wit_known.specs.Listed.{all_listed, pairs_of}

-- how a verifier of this profile begins
abbrev pub start_of : Profile → Sizes → List (Vec (Class × String Global))
    → List (String Global × String Global) → Start
start_of profile sizes lists blessed =
    record {
      sizes = sizes;
      profile = profile;
      lists = all_listed lists;
      blessed = pairs_of blessed;
    }
