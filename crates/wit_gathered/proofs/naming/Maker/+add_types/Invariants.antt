use Rattle.std.proofs.Common.{◌-◌, length}
use Rattle.wit_gathered.specs.Types.{known}
use Rattle.wit_gathered.proofs.naming.Maker.+add_types.Given as goal

-- what was not looked at
abbrev pub decreases-add_types : goal.decreases-add_types
decreases-add_types l = length (known l.types.now).facts - l.from
