use Rattle.std.proofs.Common.{◌≡◌, ◌+◌, ℕ, List, Option, None, Some, length, position, IfSome}
use Rattle.std.proofs.Common.{IfNone, is_some, sym, ap, ◌∙◌}
use Rattle.std.specs.Map.{keys_of}
use Rattle.wit_model.specs.Rules.Types.{is_named, is_enrolled, type_number}
use Rattle.wit_table.specs.declared.types.TypeRow.{TypeRow}
use Rattle.wit_table.specs.Rows.{Text, types_in}
use Rattle.wit_table.proofs.Places.{is_text, first_place, position_or_len-types}
use Rattle.wit_table.proofs.Places.{position_or_len-none, is_some-lookup}
use Rattle.wit_table.proofs.types.place_of.Goals as goal

number_found : (q : List ℕ) (es : List (Text × TypeRow)) (r : Option ℕ)
    → r ≡ position (is_text q) (keys_of es) → IfSome r (λ i. i + 1 ≡ type_number q (types_in es))
number_found q es None at = tt
number_found q es (Some i) at =
    ap (λ n. n + 1) (sym (first_place (is_text q) (keys_of es) i (sym at)).0
    ∙ position_or_len-types q es)

next_number : (q : List ℕ) (es : List (Text × TypeRow)) (r : Option ℕ)
    → is_some r ≡ is_enrolled q (types_in es)
    → IfNone r (type_number q (types_in es) ≡ length (types_in es) + 1)
next_number q es None found =
    ap (λ n. n + 1) (position_or_len-none (is_named q) (types_in es) (sym found))
next_number q es (Some i) found = tt

pub returns-clause-number : goal.returns-clause-number
returns-clause-number c =
    number_found c.args.name.now c.args.types.now.entries _ c.get_index_of.ensures.index

pub returns-clause-found : goal.returns-clause-found
returns-clause-found c =
    c.get_index_of.ensures.found ∙ is_some-lookup c.args.name.now c.args.types.now.entries

pub returns-clause-next : goal.returns-clause-next
returns-clause-next c =
    next_number c.args.name.now c.args.types.now.entries _
    (c.get_index_of.ensures.found ∙ is_some-lookup c.args.name.now c.args.types.now.entries)
