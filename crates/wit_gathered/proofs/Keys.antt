-- The keys of a set of texts, as lists of bytes.
use Rattle.std.proofs.Common.{◌≡◌, ℕ, suc, ◌+◌, Bool, true, false, not, cond, ◌||◌, List, [], ◌∷◌, ◌++◌}
use Rattle.std.proofs.Common.{None, Some, length, position, nat_lt, nat_eq, refl}
use Rattle.std.proofs.Common.{ap, ap₂, ◌∙◌}
use Rattle.std.specs.Global.{Vec}
use Rattle.std.specs.Str.{bytes_eq}
use Rattle.std.specs.Cmp.Lexicographic.{pointwise}
use Rattle.std.specs.List.{list_any, position_or_len}
use Rattle.std.proofs.lemmas.List.{map-append}
use Rattle.indexmap.specs.IndexSet.{insert_key}
use Rattle.wit_gathered.specs.Names.{has_name, place_in, with_name}
use Rattle.wit_gathered.specs.Names.{written}

-- the test by which a set finds a text
abbrev pub is_text : List ℕ → Vec ℕ → Bool
is_text text key = pointwise nat_eq text key.items

position_or_len-written : (text : List ℕ) (keys : List (Vec ℕ))
    → position_or_len (is_text text) keys ≡ position_or_len (bytes_eq text) (written keys)
position_or_len-written text [] = refl
position_or_len-written text (key ∷ keys) =
    ap (λ n. cond (not (bytes_eq text key.items)) (1 + n) 0) (position_or_len-written text keys)

pub length-written : (keys : List (Vec ℕ)) → length keys ≡ length (written keys)
length-written [] = refl
length-written (key ∷ keys) = ap suc (length-written keys)

pub position-written : (text : List ℕ) (keys : List (Vec ℕ))
    → position (is_text text) keys ≡ place_in (written keys) text
position-written text keys =
    ap₂ (λ n m. cond (nat_lt n m) (Some n) None) (position_or_len-written text keys)
    (length-written keys)

pub any-written : (text : List ℕ) (keys : List (Vec ℕ))
    → list_any (is_text text) keys ≡ has_name (written keys) text
any-written text [] = refl
any-written text (key ∷ keys) = ap (λ b. bytes_eq text key.items || b) (any-written text keys)

-- a text that isn't there goes last
pub insert-written : (keys : List (Vec ℕ)) (key : Vec ℕ) (text : List ℕ) → key.items ≡ text
    → written (insert_key (λ (a b : Vec ℕ). pointwise nat_eq a.items b.items) keys key)
    ≡ with_name (written keys) text
insert-written keys key text is =
    at (list_any (is_text key.items) keys)
    ∙ ap (λ b. cond b (written keys) (written keys ++ key.items ∷ [])) (any-written key.items keys)
    ∙ ap (with_name (written keys)) is
  where
    at : (b : Bool) → written (cond b keys (keys ++ key ∷ []))
        ≡ cond b (written keys) (written keys ++ key.items ∷ [])
    at true = refl
    at false = map-append (λ (k : Vec ℕ). k.items) keys (key ∷ [])
