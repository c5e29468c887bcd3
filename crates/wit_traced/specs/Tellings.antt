-- What a line tells.
use Rattle.std.specs.Prelude.{Option}
use Rattle.std.specs.Option.{option_map}
use Rattle.wit_traced.specs.declared.contexts.Context.{Context}
use Rattle.wit_traced.specs.declared.contexts.Masked.{Masked}
use Rattle.wit_traced.specs.declared.contexts.Preemption.{Preemption}
use Rattle.wit_traced.specs.declared.events.Told.{Told}
use Rattle.wit_traced.specs.declared.events.Told.TheVariants as told
use Rattle.wit_traced.specs.Doings.{Doing, doing}

pub data Telling : Type 0 where
  Lost : Telling
  Tells : (context : Context) (masked : Masked) (preemption : Preemption) (doing : Doing) → Telling
  Remark : Telling

abbrev pub telling : Told → Telling
telling told.Lost = Lost
telling (told.Does context masked preemption action) =
    Tells context masked preemption (doing action)
telling told.Remark = Remark

abbrev pub telling_if_any : Option Told → Option Telling
telling_if_any o = option_map telling o
