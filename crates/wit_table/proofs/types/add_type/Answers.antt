use Rattle.std.proofs.Common.{◌≡◌, ◌++◌, ◌∷◌, [], List, ℕ, ap, ◌∙◌}
use Rattle.std.proofs.lemmas.List.{map-append}
use Rattle.wit_model.specs.Rules.Types.{is_enrolled}
use Rattle.wit_table.specs.declared.types.TypeRow.{TypeRow}
use Rattle.wit_table.specs.Rows.{Text, type_in, types_in, live_in}
use Rattle.wit_table.proofs.Places.{entries-new}
use Rattle.wit_table.proofs.types.add_type.Goals as goal

-- the entries with the new one behind them
behind : (c : goal.In_ok-insert) → c.insert.new.self.entries ≡ c.args.types.now.entries
    ++ (c.in_ok-text.text, record { class = c.args.class; live = 0 }) ∷ []
behind c =
    c.in_ok-insert.ensures.entries
    ∙ entries-new c.args.types.now c.in_ok-text.text _
    (ap (λ (n : List ℕ). is_enrolled n (types_in c.args.types.now.entries))
    c.in_ok-text.ensures.ok ∙ c.requires)

pub returns-clause-types : goal.returns-clause-types
returns-clause-types c =
    ap types_in (behind c) ∙ map-append type_in c.args.types.now.entries _
    ∙ ap (λ (n : List ℕ). types_in c.args.types.now.entries
    ++ record { name = n; class = c.args.class } ∷ []) c.in_ok-text.ensures.ok

pub returns-clause-live : goal.returns-clause-live
returns-clause-live c =
    ap live_in (behind c) ∙ map-append (λ (e : Text × TypeRow). e.1.live) c.args.types.now.entries _
