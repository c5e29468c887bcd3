use Rattle.std.proofs.Common.{◌≡◌, ◌<◌, ℕ, false, String, string_bytes, get_or}
use Rattle.std.specs.Global.{Global}
use Rattle.wit_model.specs.declared.locks.Class.{Class}
use Rattle.wit_known.specs.Listed.{is_back}
use Rattle.wit_known.proofs.known.Known.is_behind.Given as goal

abbrev pub invariant-loop-entry : goal.invariant-loop-entry
invariant-loop-entry l =
    (k : ℕ) (d : Class × String Global) → k < l.entry-index
    → is_back l.self.known.types l.self.known.orders (string_bytes l.first.1)
    (string_bytes (get_or l.list k d).1) ≡ false
