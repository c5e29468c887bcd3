use Rattle.std.proofs.Common.{◌≡◌, take}
use Rattle.wit_model.specs.Trace.Moving.{with_feeds}
use Rattle.wit_migrate.specs.Migrates.{kept_bytes}
use Rattle.wit_migrate.proofs.texts.whole_lines.Given as goal

-- the lines so far
abbrev pub invariant-loop-line : goal.invariant-loop-line
invariant-loop-line l = l.text.items ≡ with_feeds (kept_bytes (take l.line-index l.lines))
