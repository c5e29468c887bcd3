use Rattle.std.proofs.Common.{arith, ℕ, List, Some, refl, sym, ap, ◌∙◌}
use Rattle.wit_recordings.specs.Recordings.{NamedType}
use Rattle.wit_orders.proofs.Types.{type_length, type_parts}
use Rattle.wit_orders.proofs.reading.first_text.Goals as goal

pub overflow_sub-bytes : goal.overflow_sub-bytes
overflow_sub-bytes c = omega (arith, type_length c.args.bytes.now _ c.in_ok-_class.ensures)

pub returns : goal.returns
returns c =
    let t : NamedType = (c.in_ok-_class._class, c.in_ok-_class._name.now) in
    let parts =
    type_parts c.args.bytes.now t c.in_ok-_class.rest.now _ c.in_ok-_class.ensures refl in
    record {
      named = t;
      found =
          c.in_ok-_class.ensures
          ∙ ap (λ (rest : List ℕ). Some (t, rest)) (sym (c.split_at.ensures.back ∙ parts.1));
      written = c.split_at.ensures.front ∙ parts.0;
    }
