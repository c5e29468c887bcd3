-- What a map's and a set's answers about their keys say of the lists of types and files.
use Rattle.std.proofs.Common.{◌≡◌, ℕ, zero, suc, ◌+◌, ◌-◌, ◌<◌, Bool, true, false, not, cond, ◌&&◌}
use Rattle.std.proofs.Common.{◌||◌, List, [], ◌∷◌, ◌++◌, Option, None, Some, length, position, set}
use Rattle.std.proofs.Common.{slice_get, string_bytes, is_some, refl, sym, ap, subst, ◌∙◌}
use Rattle.std.proofs.Common.{true≢false, arith, nat_lt, unwrap_or, get_or}
use Rattle.std.specs.Str.{bytes_eq}
use Rattle.std.specs.String.{string_eq}
use Rattle.std.specs.Cmp.Lexicographic.{nat_list_eq_equiv, bytes_decides}
use Rattle.std.specs.List.{list_any, position_or_len, All, IsDistinct, AllByRecursion}
use Rattle.std.specs.Option.{option_map}
use Rattle.std.proofs.lemmas.Option.{slice_get-map, slice_get_within, get_or_from_slice_get}
use Rattle.std.specs.Map.{keys_of, values_of, lookup}
use Rattle.wit_model.specs.declared.locks.Class.{Class}
use Rattle.wit_model.specs.declared.locks.LockType.{LockType}
use Rattle.wit_model.specs.Rules.Types.{is_same_class, is_named, is_enrolled, is_otherwise}
use Rattle.wit_model.specs.Rules.Types.{type_number}
use Rattle.wit_model.specs.Rules.Files.{is_known_file, file_number}
use Rattle.indexmap.specs.IndexMap.{IndexMap, set_value_at, insert_entry}
use Rattle.indexmap.proofs.CallerLemmas.{insert_entry-new}
use Rattle.wit_table.specs.declared.types.TypeRow.{TypeRow}
use Rattle.wit_table.specs.Known.{type_names, HasNameAt, HasClassAt}
use Rattle.wit_table.specs.Rows.{Text, type_in, types_in, live_in, texts}

-- the test by which a map or a set finds a text
abbrev pub is_text : List ℕ → Text → Bool
is_text q k = bytes_eq q (string_bytes k)

bytes_symm : (a b : List ℕ) → bytes_eq a b ≡ bytes_eq b a
bytes_symm a b = nat_list_eq_equiv.symm a b

-- an index is found exactly where some item passes, and is the first such place
pub first_place : {X : Type 0} (p : X → Bool) (xs : List X) (i : ℕ) → position p xs ≡ Some i
    → (position_or_len p xs ≡ i) × (i < length xs)
first_place p xs i e = by (position_or_len p xs) (nat_lt (position_or_len p xs) (length xs)) refl e
  where
    by : (n : ℕ) (b : Bool) → nat_lt n (length xs) ≡ b → cond b (Some n) None ≡ Some i
        → (n ≡ i) × (i < length xs)
    by n true within at =
        let same : n ≡ i = ap (λ r. unwrap_or r n) at in
        (same, grind (arith, within, same))
    by n false within at = absurd (true≢false (sym (ap is_some at)))

module _ (q : List ℕ) where
  pub list_any-texts : (keys : List Text) → list_any (is_text q) keys ≡ is_known_file q (texts keys)
  list_any-texts [] = refl
  list_any-texts (k ∷ ks) = λ j. bytes_symm q (string_bytes k) j || list_any-texts ks j

  pub position_or_len-texts : (keys : List Text) → position_or_len (is_text q) keys
      ≡ position_or_len (λ (f : List ℕ). bytes_eq f q) (texts keys)
  position_or_len-texts [] = refl
  position_or_len-texts (k ∷ ks) =
      λ j. cond (not (bytes_symm q (string_bytes k) j)) (1 + position_or_len-texts ks j) 0

  pub position_or_len-types : (es : List (Text × TypeRow))
      → position_or_len (is_text q) (keys_of es) ≡ position_or_len (is_named q) (types_in es)
  position_or_len-types [] = refl
  position_or_len-types (e ∷ es) =
      λ j. cond (not (bytes_symm q (string_bytes e.0) j)) (1 + position_or_len-types es j) 0

  -- no key that differs is found
  lookup-apart : (k : Text) (es : List (Text × TypeRow))
      → AllByRecursion (λ y. string_eq k y ≡ false) (keys_of es)
      → lookup (is_text (string_bytes k)) es ≡ None
  lookup-apart k [] apart = refl
  lookup-apart k (e ∷ es) apart =
      ap (λ b. cond b (Some e.1) (lookup (is_text (string_bytes k)) es)) apart.0
      ∙ lookup-apart k es apart.1

  some_or : {X : Type 0} (b : Bool) (x : X) (r : Option X)
      → is_some (cond b (Some x) r) ≡ (b || is_some r)
  some_or true x r = refl
  some_or false x r = refl

  -- a look-up by a text finds a type exactly where one is enrolled by it
  pub is_some-lookup : (es : List (Text × TypeRow))
      → is_some (lookup (is_text q) es) ≡ is_enrolled q (types_in es)
  is_some-lookup [] = refl
  is_some-lookup (e ∷ es) =
      some_or (is_text q e.0) e.1 (lookup (is_text q) es)
      ∙ (λ j. bytes_symm q (string_bytes e.0) j || is_some-lookup es j)

  module _ (class : Class) where
    other : LockType → Bool
    other t = is_named q t && not (is_same_class t.class class)

    -- no type has a name that isn't found
    pub is_otherwise-none : (es : List (Text × TypeRow)) → lookup (is_text q) es ≡ None
        → is_otherwise q class (types_in es) ≡ false
    is_otherwise-none [] none = refl
    is_otherwise-none (e ∷ es) none =
        by (is_text q e.0) (bytes_symm (string_bytes e.0) q) none (is_otherwise-none es)
      where
        by : (b : Bool) → bytes_eq (string_bytes e.0) q ≡ b
            → cond b (Some e.1) (lookup (is_text q) es) ≡ None
            → (lookup (is_text q) es ≡ None → is_otherwise q class (types_in es) ≡ false)
            → is_otherwise q class (types_in (e ∷ es)) ≡ false
        by true named at rest = absurd (true≢false (ap is_some at))
        by false named at rest = λ j. (named j && not (is_same_class e.1.class class)) || rest at j

    -- a name that stands once has the class that is found
    pub is_otherwise-some : (es : List (Text × TypeRow)) (row : TypeRow)
        → IsDistinct string_eq (keys_of es) → lookup (is_text q) es ≡ Some row
        → is_otherwise q class (types_in es) ≡ not (is_same_class row.class class)
    unfolding IsDistinct
    is_otherwise-some [] row distinct found = absurd (true≢false (sym (ap is_some found)))
    is_otherwise-some (e ∷ es) row distinct found =
        by (is_text q e.0) (bytes_symm (string_bytes e.0) q) refl found
        (is_otherwise-some es row distinct.1)
      where
        or_false : (b : Bool) → (b || false) ≡ b
        or_false true = refl
        or_false false = refl

        by : (b : Bool) → bytes_eq (string_bytes e.0) q ≡ is_text q e.0 → is_text q e.0 ≡ b
            → cond b (Some e.1) (lookup (is_text q) es) ≡ Some row
            → (lookup (is_text q) es ≡ Some row
            → is_otherwise q class (types_in es) ≡ not (is_same_class row.class class))
            → is_otherwise q class (types_in (e ∷ es)) ≡ not (is_same_class row.class class)
        by true flip named at rest =
            let same : q ≡ string_bytes e.0 = (bytes_decides q (string_bytes e.0)).0 named in
            let none : lookup (is_text q) es ≡ None =
            subst (λ x. lookup (is_text x) es ≡ None) (sym same)
            (lookup-apart e.0 es distinct.0) in
            (λ j. ((flip ∙ named) j && not (is_same_class e.1.class class))
            || is_otherwise-none es none j)
            ∙ or_false (not (is_same_class e.1.class class))
            ∙ ap (λ (r : Option TypeRow). not (is_same_class (unwrap_or r e.1).class class)) at
        by false flip named at rest =
            λ j. ((flip ∙ named) j && not (is_same_class e.1.class class)) || rest at j

-- the first place that passes is the length where none does
pub position_or_len-none : {X : Type 0} (p : X → Bool) (xs : List X) → list_any p xs ≡ false
    → position_or_len p xs ≡ length xs
position_or_len-none p [] none = refl
position_or_len-none p (x ∷ xs) none = by (p x) refl none (position_or_len-none p xs)
  where
    by : (b : Bool) → p x ≡ b → (b || list_any p xs) ≡ false
        → (list_any p xs ≡ false → position_or_len p xs ≡ length xs)
        → position_or_len p (x ∷ xs) ≡ suc (length xs)
    by true at none rest = absurd (true≢false none)
    by false at none rest = (λ j. cond (not (at j)) (1 + rest none j) 0) ∙ omega arith

none_some : {X : Type 0} (r : Option X) → is_some r ≡ false → r ≡ None
none_some None e = refl
none_some (Some x) e = absurd (true≢false e)

-- a new name goes last
pub entries-new : {S : Type 0} (m : IndexMap Text TypeRow S) (k : Text) (row : TypeRow)
    → is_enrolled (string_bytes k) (types_in m.entries) ≡ false
    → insert_entry string_eq m.entries k row ≡ m.entries ++ (k, row) ∷ []
entries-new m k row new =
    insert_entry-new string_eq m k row
    (none_some (lookup (is_text (string_bytes k)) m.entries)
    (is_some-lookup (string_bytes k) m.entries ∙ new))

-- a written count changes no type
pub types_in-set_value_at : (es : List (Text × TypeRow)) (i : ℕ) (old new : TypeRow)
    → slice_get (values_of es) i ≡ Some old → new.class ≡ old.class
    → types_in (set_value_at es i new) ≡ types_in es
types_in-set_value_at [] i old new at same = refl
types_in-set_value_at (e ∷ es) zero old new at same =
    ap (λ c. record { name = string_bytes e.0; class = c } ∷ types_in es)
    (same ∙ sym (ap (λ (r : Option TypeRow). (unwrap_or r e.1).class) at))
types_in-set_value_at (e ∷ es) (suc i) old new at same =
    ap (λ ts. type_in e ∷ ts) (types_in-set_value_at es i old new at same)

-- and stands in its place
pub live_in-set_value_at : (es : List (Text × TypeRow)) (i : ℕ) (new : TypeRow)
    → live_in (set_value_at es i new) ≡ set (live_in es) i new.live
live_in-set_value_at [] i new = refl
live_in-set_value_at (e ∷ es) zero new = refl
live_in-set_value_at (e ∷ es) (suc i) new = ap (λ ls. e.1.live ∷ ls) (live_in-set_value_at es i new)

-- the count at a place
pub live_in-at : (es : List (Text × TypeRow)) (i : ℕ) (row : TypeRow)
    → slice_get (values_of es) i ≡ Some row → row.live ≡ get_or (live_in es) i 0
live_in-at [] i row at = absurd (true≢false (sym (ap is_some at)))
live_in-at (e ∷ es) zero row at = sym (ap (λ (r : Option TypeRow). (unwrap_or r e.1).live) at)
live_in-at (e ∷ es) (suc i) row at = live_in-at es i row at

-- the class at a place
pub class-at : (es : List (Text × TypeRow)) (i : ℕ) (row : TypeRow)
    → slice_get (values_of es) i ≡ Some row → HasClassAt (types_in es) i row.class
class-at [] i row at = absurd (true≢false (sym (ap is_some at)))
class-at (e ∷ es) zero row at =
    (type_in e, refl, sym (ap (λ (r : Option TypeRow). (unwrap_or r e.1).class) at))
class-at (e ∷ es) (suc i) row at = class-at es i row at

-- the name at a place
pub name-at : (es : List (Text × TypeRow)) (i : ℕ) (e : Text × TypeRow) → slice_get es i ≡ Some e
    → HasNameAt (types_in es) i (string_bytes e.0)
name-at [] i e at = absurd (true≢false (sym (ap is_some at)))
name-at (x ∷ es) zero e at =
    (type_in x, refl, sym (ap (λ (r : Option (Text × TypeRow)). string_bytes (unwrap_or r x).0) at))
name-at (x ∷ es) (suc i) e at = name-at es i e at

apart-texts : (k : Text) (ks : List Text) → AllByRecursion (λ y. string_eq k y ≡ false) ks
    → AllByRecursion (λ b. bytes_eq (string_bytes k) b ≡ false) (texts ks)
apart-texts k [] h = tt
apart-texts k (x ∷ xs) h = (h.0, apart-texts k xs h.1)

-- keys that differ have texts that differ
pub IsDistinct-texts : (keys : List Text) → IsDistinct string_eq keys
    → IsDistinct bytes_eq (texts keys)
unfolding IsDistinct
IsDistinct-texts [] h = tt
IsDistinct-texts (k ∷ ks) h = (apart-texts k ks h.0, IsDistinct-texts ks h.1)

type_names-texts : (es : List (Text × TypeRow)) → type_names (types_in es) ≡ texts (keys_of es)
type_names-texts [] = refl
type_names-texts (e ∷ es) = ap (λ ns. string_bytes e.0 ∷ ns) (type_names-texts es)

pub IsDistinct-type_names : (es : List (Text × TypeRow)) → IsDistinct string_eq (keys_of es)
    → IsDistinct bytes_eq (type_names (types_in es))
IsDistinct-type_names es h =
    subst (IsDistinct bytes_eq) (sym (type_names-texts es)) (IsDistinct-texts (keys_of es) h)

-- a text that stands once is first found at its place
pub first-distinct : (ns : List (List ℕ)) (i : ℕ) (n : List ℕ) → IsDistinct bytes_eq ns
    → slice_get ns i ≡ Some n → position_or_len (λ (f : List ℕ). bytes_eq f n) ns ≡ i
unfolding IsDistinct
first-distinct [] i n distinct at = absurd (true≢false (sym (ap is_some at)))
first-distinct (x ∷ xs) zero n distinct at =
    let same : bytes_eq x n ≡ true =
    ap (λ (r : Option (List ℕ)). bytes_eq x (unwrap_or r x)) (sym at)
    ∙ nat_list_eq_equiv.refl x in
    ap (λ b. cond (not b) (1 + position_or_len (λ (f : List ℕ). bytes_eq f n) xs) 0) same
first-distinct (x ∷ xs) (suc i) n distinct at =
    (λ j. cond (not (apart_at xs i distinct.0 at j)) (1 + first-distinct xs i n distinct.1 at j) 0)
    ∙ omega arith
  where
    apart_at : (ys : List (List ℕ)) (k : ℕ) → AllByRecursion (λ y. bytes_eq x y ≡ false) ys
        → slice_get ys k ≡ Some n → bytes_eq x n ≡ false
    apart_at [] k h there = absurd (true≢false (sym (ap is_some there)))
    apart_at (y ∷ ys) zero h there =
        ap (λ (r : Option (List ℕ)). bytes_eq x (unwrap_or r y)) (sym there) ∙ h.0
    apart_at (y ∷ ys) (suc k) h there = apart_at ys k h.1 there

position_or_len-type_names : (n : List ℕ) (types : List LockType)
    → position_or_len (is_named n) types
    ≡ position_or_len (λ (f : List ℕ). bytes_eq f n) (type_names types)
position_or_len-type_names n [] = refl
position_or_len-type_names n (t ∷ ts) =
    ap (λ m. cond (not (is_named n t)) (1 + m) 0) (position_or_len-type_names n ts)

-- the type with this number has it as the number of its name
pub type_number-HasName : (types : List LockType) (number : ℕ) (name : List ℕ)
    → IsDistinct bytes_eq (type_names types) → 0 < number → HasNameAt types (number - 1) name
    → type_number name types ≡ number
type_number-HasName types number name distinct given has =
    let at : slice_get (type_names types) (number - 1) ≡ Some name =
    slice_get-map (λ (t : LockType). t.name) types (number - 1)
    ∙ ap (option_map (λ (t : LockType). t.name)) has.1 ∙ ap Some (sym has.2) in
    let place : position_or_len (is_named name) types ≡ number - 1 =
    position_or_len-type_names name types ∙ first-distinct (type_names types)
    (number - 1) name distinct at in
    omega (arith, place, given)

-- so has a file
pub file_number-at : (files : List (List ℕ)) (number : ℕ) (name : List ℕ)
    → IsDistinct bytes_eq files → 0 < number → slice_get files (number - 1) ≡ Some name
    → file_number name files ≡ number
file_number-at files number name distinct given at =
    omega (arith, first-distinct files (number - 1) name distinct at, given)

-- what holds of all holds at a place
pub All-at : {X : Type 0} (P : X → Type 0) (xs : List X) (i : ℕ) (x : X) → All P xs
    → slice_get xs i ≡ Some x → P x
All-at P xs i x all at =
    subst P (get_or_from_slice_get xs i x x at) (all i x (slice_get_within xs i x at))
