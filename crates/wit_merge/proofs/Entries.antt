-- Where an order stands, and what a change leaves.
use Rattle.std.proofs.Common.{◌≡◌, ℕ, suc, zero, ◌++◌, List, [], ◌∷◌, None, Some, Option}
use Rattle.std.proofs.Common.{position, nat_eq, unwrap_or, is_some, slice_get, false, true≢false, refl, sym, ap, ◌∙◌}
use Rattle.std.specs.Global.{Vec}
use Rattle.std.specs.Str.{bytes_eq}
use Rattle.std.specs.Map.{keys_of, values_of, lookup}
use Rattle.std.specs.Cmp.Lexicographic.{pointwise}
use Rattle.std.proofs.lemmas.List.{map-append}
use Rattle.indexmap.specs.IndexMap.{insert_entry, set_value_at}
use Rattle.indexmap.proofs.MapLemmas.{absent_from_lookup, insert_entry-absent, some_index}
use Rattle.wit_orders.proofs.Keys.{is_text, position-written}
use Rattle.wit_orders.specs.Sequence.{written}
use Rattle.wit_merge.specs.declared.rows.Note.{Note}
use Rattle.wit_merge.specs.declared.standing.Tally.{Tally}
use Rattle.wit_merge.specs.Rows.{changed, file_at, place_in, row, row_of, rows_of}
use Rattle.wit_merge.specs.Rows.{keys_of as texts_of}

-- ---- places

texts-written : (es : List (Vec ℕ × Note)) → texts_of (rows_of es) ≡ written (keys_of es)
texts-written [] = refl
texts-written (e ∷ es) = ap (λ (ts : List (List ℕ)). e.0.items ∷ ts) (texts-written es)

pub placed : (text : List ℕ) (es : List (Vec ℕ × Note))
    → position (is_text text) (keys_of es) ≡ place_in (rows_of es) text
placed text es =
    position-written text (keys_of es)
    ∙ sym (ap (λ (ts : List (List ℕ)). position (bytes_eq text) ts) (texts-written es))

none_some : {X : Type 0} (r : Option X) → is_some r ≡ false → r ≡ None
none_some None e = refl
none_some (Some x) e = absurd (true≢false e)

-- ---- a new order goes last

pub added : (es : List (Vec ℕ × Note)) (key : Vec ℕ) (note : Note) (text origin : List ℕ)
    (tally : Tally) → key.items ≡ text → note.origin.items ≡ origin → note.tally ≡ tally
    → place_in (rows_of es) text ≡ None
    → rows_of (insert_entry (λ (a b : Vec ℕ). pointwise nat_eq a.items b.items) es key note)
    ≡ rows_of es ++ row text origin tally ∷ []
added es key note text origin tally key-is origin-is tally-is none =
    let absent : lookup (is_text key.items) es ≡ None =
    none_some (lookup (is_text key.items) es)
    (sym (some_index (is_text key.items) es)
    ∙ ap is_some (placed key.items es ∙ (ap (place_in (rows_of es)) key-is ∙ none))) in
    ap rows_of (insert_entry-absent (λ (a b : Vec ℕ). pointwise nat_eq a.items b.items) key note es
    (absent_from_lookup (is_text key.items) es absent))
    ∙ (map-append row_of es ((key, note) ∷ [])
    ∙ ap (λ r. rows_of es ++ r ∷ [])
    (λ i. row (key-is i) (origin-is i) (tally-is i)))

-- ---- a change

pub changed-at : (es : List (Vec ℕ × Note)) (i : ℕ) (old new : Note) (change : Tally → Tally)
    → slice_get (values_of es) i ≡ Some old → new.origin ≡ old.origin
    → new.tally ≡ change old.tally
    → rows_of (set_value_at es i new) ≡ changed (rows_of es) i change
changed-at [] i old new change at origin-is tally-is = refl
changed-at (e ∷ es) zero old new change at origin-is tally-is =
    let is : e.1 ≡ old = ap (λ (r : Option Note). unwrap_or r e.1) at in
    (λ j. row e.0.items
    ((origin-is ∙ sym (ap (λ (n : Note). n.origin) is)) j).items
    ((tally-is ∙ sym (ap (λ (n : Note). change n.tally) is)) j) ∷ rows_of es)
changed-at (e ∷ es) (suc i) old new change at origin-is tally-is =
    ap (λ rows. row_of e ∷ rows) (changed-at es i old new change at origin-is tally-is)

pub file-there : (es : List (Vec ℕ × Note)) (i : ℕ) (note : Note)
    → slice_get (values_of es) i ≡ Some note → file_at (rows_of es) i ≡ note.tally.file
file-there [] i note at = absurd (true≢false (sym (ap is_some at)))
file-there (e ∷ es) zero note at =
    ap (λ (r : Option Note). (unwrap_or r e.1).tally.file) at
file-there (e ∷ es) (suc i) note at = file-there es i note at
