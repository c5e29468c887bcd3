use Rattle.std.proofs.Common.{◌++◌, ◌∷◌, [], List, ℕ, ap, ◌∙◌, string_bytes, if◌then◌else◌}
use Rattle.std.proofs.lemmas.List.{map-append}
use Rattle.wit_model.specs.Rules.Files.{is_known_file}
use Rattle.wit_table.specs.Rows.{Text, texts}
use Rattle.wit_table.proofs.Places.{list_any-texts}
use Rattle.wit_table.proofs.files.add_file.Goals as goal

pub returns-clause-ok : goal.returns-clause-ok
returns-clause-ok c =
    let keys = c.args.files.now.keys in
    let text = c.in_ok-text.text in
    let same = c.in_ok-text.ensures.ok in
    ap texts (c.in_ok-insert.ensures.keys ∙ ap (λ b. if b then keys else keys ++ text ∷ [])
    (list_any-texts (string_bytes text) keys
    ∙ ap (λ (n : List ℕ). is_known_file n (texts keys)) same ∙ c.requires))
    ∙ map-append (λ (k : Text). string_bytes k) keys (text ∷ [])
    ∙ ap (λ (n : List ℕ). texts keys ++ n ∷ []) same
