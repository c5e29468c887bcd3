-- Lists of deeds that look alike, and how they end.
use Rattle.std.proofs.Common.{◌≡◌}
use Rattle.std.proofs.Common.{List, [], ◌∷◌, ◌++◌, map, length, refl, ap, ap₂}
use Rattle.std.proofs.Common.{arith, length-append}
use Rattle.std.proofs.Common.{◌≤◌}
use Rattle.std.proofs.Common.{sym}
use Rattle.wit_model.specs.World.Deeds.{Deed}
use Rattle.wit_model.specs.World.Reordering.{kept}
use Rattle.std.proofs.lemmas.List.{length-map}
use Rattle.wit_errands.proofs.Moments.{none-longer}

-- of two parts into which a list falls in two ways
pub data Overlap (d f a s : List Deed) : Type 0 where
  Longer : (m : List Deed) → s ≡ m ++ f → d ≡ a ++ m → Overlap d f a s
  Shorter : (m : List Deed) → f ≡ m ++ s → Overlap d f a s

overlap-more : (x y : Deed) (d f a s : List Deed) → x ≡ y → Overlap d f a s
    → Overlap (x ∷ d) f (y ∷ a) s
overlap-more x y d f a s head (Longer m one two) = Longer m one (ap₂ (λ b c. b ∷ c) head two)
overlap-more x y d f a s head (Shorter m one) = Shorter m one

pub overlap : (d f a s : List Deed) → d ++ f ≡ a ++ s → Overlap d f a s
overlap [] f a s same = Shorter a same
overlap (x ∷ d) f [] s same = Longer (x ∷ d) (sym same) refl
overlap (x ∷ d) f (y ∷ a) s same =
    let whole : x ∷ (d ++ f) ≡ y ∷ (a ++ s) = same in
    let head : x ≡ y = cc in
    let tail : d ++ f ≡ a ++ s = cc in overlap-more x y d f a s head (overlap d f a s tail)

pub cancel : (xs ys zs : List Deed) → xs ++ zs ≡ ys ++ zs → xs ≡ ys
cancel [] [] zs same = refl
cancel [] (y ∷ ys) zs same =
    absurd (let long = ap (λ x. length x) same in let more = length-append (y ∷ ys) zs in
    let no : ⊥ = omega (arith, long, more) in no)
cancel (x ∷ xs) [] zs same =
    absurd (let long = ap (λ x. length x) same in let more = length-append (x ∷ xs) zs in
    let no : ⊥ = omega (arith, long, more) in no)
cancel (x ∷ xs) (y ∷ ys) zs same =
    let whole : x ∷ (xs ++ zs) ≡ y ∷ (ys ++ zs) = same in
    let head : x ≡ y = cc in
    let tail : xs ++ zs ≡ ys ++ zs = cc in ap₂ (λ a b. a ∷ b) head (cancel xs ys zs tail)

-- where a list looks like this, it ends in a deed and in deeds that look so
pub record Ends (d : Deed) (o x : List Deed) : Type 0 where
  pub after : List Deed
  pub last : Deed
  pub before : List Deed
  pub whole : x ≡ after ++ (last ∷ before)
  pub looks : kept last ≡ kept d
  pub same : map kept before ≡ map kept o

pub ends : (d : Deed) (o x later : List Deed) → map kept x ≡ later ++ (kept d ∷ map kept o) → Ends d o x
ends d o [] later same = absurd (none-longer later (kept d) (map kept o) same)
ends d o (y ∷ x) [] same =
    let whole : kept y ∷ map kept x ≡ kept d ∷ map kept o = same in
    record {
      after = [];
      last = y;
      before = x;
      whole = refl;
      looks = (let head : kept y ≡ kept d = cc in head);
      same = (let tail : map kept x ≡ map kept o = cc in tail);
    }
ends d o (y ∷ x) (z ∷ later) same =
    let whole : kept y ∷ map kept x ≡ z ∷ (later ++ (kept d ∷ map kept o)) = same in
    let tail : map kept x ≡ later ++ (kept d ∷ map kept o) = cc in
    let e = ends d o x later tail in
    record {
      after = y ∷ e.after;
      last = e.last;
      before = e.before;
      whole = ap (λ a. y ∷ a) e.whole;
      looks = e.looks;
      same = e.same;
    }

-- a list whose later part looks like this one
pub record Splits (v b : List Deed) : Type 0 where
  pub newer : List Deed
  pub older : List Deed
  pub whole : v ≡ newer ++ older
  pub same : map kept older ≡ map kept b

split-at : (v e b : List Deed) → map kept v ≡ map kept (e ++ b) → Splits v b
split-at v [] b same = record { newer = []; older = v; whole = refl; same = same }
split-at [] (x ∷ e) b same = absurd (none-longer [] (kept x) (map kept (e ++ b)) same)
split-at (y ∷ v) (x ∷ e) b same =
    let whole : kept y ∷ map kept v ≡ kept x ∷ map kept (e ++ b) = same in
    let tail : map kept v ≡ map kept (e ++ b) = cc in
    let s = split-at v e b tail in
    record {
      newer = y ∷ s.newer;
      older = s.older;
      whole = ap (λ a. y ∷ a) s.whole;
      same = s.same;
    }

-- so does an older part of it that isn't shorter
pub splits : (x v e b : List Deed) → map kept (x ++ v) ≡ map kept (e ++ b) → length b ≤ length v
    → Splits v b
splits [] v e b same long = split-at v e b same
splits (y ∷ x) v [] b same long =
    absurd (let one = ap (λ a. length a) same in
    let two = length-map (y ∷ (x ++ v)) kept in
    let three = length-map b kept in
    let four = length-append x v in
    let no : ⊥ = omega (arith, one, two, three, four, long) in no)
splits (y ∷ x) v (z ∷ e) b same long =
    let whole : kept y ∷ map kept (x ++ v) ≡ kept z ∷ map kept (e ++ b) = same in
    let tail : map kept (x ++ v) ≡ map kept (e ++ b) = cc in splits x v e b tail long
