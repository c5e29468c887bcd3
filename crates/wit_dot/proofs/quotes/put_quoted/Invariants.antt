use Rattle.std.proofs.Common.{◌≡◌, ◌++◌, IsUtf8, string_bytes}
use Rattle.std.specs.List.{flat_map}
use Rattle.std.specs.Str.{chars}
use Rattle.std.specs.Str.Iter.{chars_rest}
use Rattle.wit_dot.specs.Quotes.{quoted_char}
use Rattle.wit_dot.proofs.quotes.put_quoted.Given as goal

abbrev pub invariant-loop-each : goal.invariant-loop-each
invariant-loop-each l =
    IsUtf8 (chars_rest l.each-iterator)
    × (string_bytes l.to ++ flat_map quoted_char (chars (chars_rest l.each-iterator))
    ≡ string_bytes l.initial.to ++ flat_map quoted_char (chars l.text))
