use Rattle.std.proofs.Common.{◌≡◌, ◌+◌, ℕ, List, Option, None, Some, length, position, IfSome}
use Rattle.std.proofs.Common.{IfNone, is_some, sym, ap, subst, true, ◌∙◌}
use Rattle.std.specs.Str.{bytes_eq}
use Rattle.std.specs.List.{All}
use Rattle.std.proofs.lemmas.List.Folds.{Any-from_list_any}
use Rattle.std.proofs.lemmas.Slice.Eq.{bytes_eq-Decides}
use Rattle.wit_model.specs.Rules.Names.{is_file_name}
use Rattle.wit_model.specs.Rules.Files.{is_known_file, file_number}
use Rattle.wit_table.specs.Rows.{Text, texts}
use Rattle.wit_table.proofs.Places.{is_text, first_place, position_or_len-texts}
use Rattle.wit_table.proofs.Places.{position_or_len-none, list_any-texts}
use Rattle.wit_table.proofs.files.place_of.Goals as goal

number_found : (q : List ℕ) (keys : List Text) (r : Option ℕ) → r ≡ position (is_text q) keys
    → IfSome r (λ i. i + 1 ≡ file_number q (texts keys))
number_found q keys None at = tt
number_found q keys (Some i) at =
    ap (λ n. n + 1) (sym (first_place (is_text q) keys i (sym at)).0 ∙ position_or_len-texts q keys)

next_number : (q : List ℕ) (keys : List Text) (r : Option ℕ)
    → is_some r ≡ is_known_file q (texts keys)
    → IfNone r (file_number q (texts keys) ≡ length (texts keys) + 1)
next_number q keys None found =
    ap (λ n. n + 1) (position_or_len-none (λ (f : List ℕ). bytes_eq f q) (texts keys) (sym found))
next_number q keys (Some i) found = tt

-- a known name is that of a known file
known_good : (P : List ℕ → Type 0) (name : List ℕ) (files : List (List ℕ)) → All P files
    → is_known_file name files ≡ true → P name
known_good P name files all known =
    let (k, f, within, at, same) =
    Any-from_list_any (λ (f : List ℕ). bytes_eq f name) files known in
    subst P ((bytes_eq-Decides f name).0 same) (subst P at (all k f within))

good_where_found : {A : Type 0} (P : List ℕ → Type 0) (name : List ℕ) (files : List (List ℕ))
    (r : Option A) → All P files → is_some r ≡ is_known_file name files → IfSome r (λ _. P name)
good_where_found P name files None all found = tt
good_where_found P name files (Some i) all found = known_good P name files all (sym found)

pub returns-clause-number : goal.returns-clause-number
returns-clause-number c =
    number_found c.args.name.now c.args.files.now.keys _ c.get_index_of.ensures.index

pub returns-clause-found : goal.returns-clause-found
returns-clause-found c =
    c.get_index_of.ensures.found ∙ list_any-texts c.args.name.now c.args.files.now.keys

pub returns-clause-next : goal.returns-clause-next
returns-clause-next c =
    next_number c.args.name.now c.args.files.now.keys _
    (c.get_index_of.ensures.found ∙ list_any-texts c.args.name.now c.args.files.now.keys)

pub returns-clause-good : goal.returns-clause-good
returns-clause-good c =
    good_where_found (λ (f : List ℕ). is_file_name f ≡ true) c.args.name.now
    (texts c.args.files.now.keys) _ c.requires
    (c.get_index_of.ensures.found ∙ list_any-texts c.args.name.now c.args.files.now.keys)
