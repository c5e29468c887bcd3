use Rattle.std.proofs.Common.{◌≡◌, ◌++◌, IsUtf8, string_bytes}
use Rattle.std.specs.List.{flat_map}
use Rattle.std.specs.Str.{chars}
use Rattle.std.specs.Str.Iter.{chars_rest}
use Rattle.wit_text.specs.Shown.{shown_char}
use Rattle.wit_text.proofs.shown.put_shown.Given as goal

abbrev pub invariant-loop-each : goal.invariant-loop-each
invariant-loop-each l =
    IsUtf8 (chars_rest l.each-iterator)
    × (string_bytes l.to ++ flat_map shown_char (chars (chars_rest l.each-iterator))
    ≡ string_bytes l.initial.to ++ flat_map shown_char (chars l.text))
