-- What a seat asks for, as its own entries show, newest first.
use Rattle.std.specs.Prelude.{List, [], ◌∷◌, Option, None, Some}
use Rattle.wit_model.specs.declared.locks.Mode.{Mode}
use Rattle.wit_model.specs.declared.calls.Call.{Call}
use Rattle.wit_model.specs.declared.calls.Call.TheVariants.{Check}
use Rattle.wit_model.specs.declared.calls.Entry.{Entry}

-- the mode of the request that a call checks
abbrev pub mode_checked : Call → Option Mode
mode_checked (Check q) = Some q.mode
mode_checked _ = None

-- the mode in which a seat asks for a lock: that of its latest entry, where that is a check
abbrev pub latest_mode_asked : List Entry → Option Mode
latest_mode_asked [] = None
latest_mode_asked (e ∷ own) = mode_checked e.call
