use Rattle.std.proofs.Common.{◌≡◌, ◌++◌, ◌∷◌, [], length, cond, is_some, sym, ap, ◌∙◌, arith, ℕ}
use Rattle.std.proofs.Common.{length-append}
use Rattle.std.proofs.lemmas.List.{length-map}
use Rattle.std.specs.Global.{Vec}
use Rattle.wit_orders.specs.Sequence.{written}
use Rattle.wit_orders.proofs.Keys.{insert-written}
use Rattle.wit_against.proofs.entering.number.Goals as goal

longer : (c : goal.In_ok-insert) → written c.insert.new.self.keys
    ≡ written c.args.types.now.keys ++ c.args.text.now ∷ []
longer c =
    ap written c.in_ok-insert.ensures.keys
    ∙ insert-written c.args.types.now.keys c.in_ok-from_slice.field-0 c.args.text.now
    c.in_ok-from_slice.ensures.items (sym c.in_default.ensures)

pub returns-clause-types : goal.returns-clause-types
returns-clause-types c =
    longer c
    ∙ ap (λ p. cond (is_some p) (written c.args.types.now.keys)
    (written c.args.types.now.keys ++ c.args.text.now ∷ [])) c.in_default.ensures

pub returns-clause-within : goal.returns-clause-within
returns-clause-within c =
    let old = length-map c.args.types.now.keys (λ (k : Vec ℕ). k.items) in
    let new = length-map c.insert.new.self.keys (λ (k : Vec ℕ). k.items) in
    omega (
      arith,
      old,
      new,
      c.len-place.ensures.len,
      ap length (longer c),
      length-append (written c.args.types.now.keys) (c.args.text.now ∷ []),
    )
