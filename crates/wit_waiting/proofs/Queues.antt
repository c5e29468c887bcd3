-- Queues and circles of waiting seats, over any relation of who waits for whom.
use Rattle.std.proofs.Common.{◌≡◌, ℕ, ◌≤◌, true, nat_le, List, [], ◌∷◌, ◌++◌, refl, sym, ap, ◌∙◌}
use Rattle.std.proofs.Common.{subst, inl, inr, arith}
use Rattle.std.specs.List.{list_all}
use Rattle.std.proofs.lemmas.Bool.{and_parts, leb-true, le-leb, cases_lt}
use Rattle.std.proofs.lemmas.List.Folds.{list_all-append}
use Rattle.wit_model.specs.Rules.Circles.{IsQueue, IsCircle}

-- one more behind a queue
pub queue_more : (waits : ℕ → ℕ → Type 0) (t : ℕ) (vs : List ℕ) (u w : ℕ) → IsQueue waits t vs u
    → waits u w → IsQueue waits t (vs ++ u ∷ []) w
queue_more waits t [] u w is next = (is, next)
queue_more waits t (v ∷ vs) u w is next = (is.0, queue_more waits v vs u w is.1 next)

-- two queues, one behind the other
pub queue_joined : (waits : ℕ → ℕ → Type 0) (t : ℕ) (vs : List ℕ) (u : ℕ) (us : List ℕ) (w : ℕ)
    → IsQueue waits t vs u → IsQueue waits u us w → IsQueue waits t (vs ++ u ∷ us) w
queue_joined waits t [] u us w is then = (is, then)
queue_joined waits t (v ∷ vs) u us w is then = (is.0, queue_joined waits v vs u us w is.1 then)

pub queue_parted : (waits : ℕ → ℕ → Type 0) (t : ℕ) (vs : List ℕ) (u : ℕ) (us : List ℕ) (w : ℕ)
    → IsQueue waits t (vs ++ u ∷ us) w → IsQueue waits t vs u × IsQueue waits u us w
queue_parted waits t [] u us w is = is
queue_parted waits t (v ∷ vs) u us w is =
    let parts = queue_parted waits v vs u us w is.1 in
    ((is.0, parts.0), parts.1)

-- where each wait of one relation is one of another
pub queue_likewise : (waits others : ℕ → ℕ → Type 0) → ((t u : ℕ) → waits t u → others t u)
    → (t : ℕ) (vs : List ℕ) (u : ℕ) → IsQueue waits t vs u → IsQueue others t vs u
queue_likewise waits others same t [] u is = same t u is
queue_likewise waits others same t (v ∷ vs) u is =
    (same t v is.0, queue_likewise waits others same v vs u is.1)

pub circle_likewise : (waits others : ℕ → ℕ → Type 0) → ((t u : ℕ) → waits t u → others t u)
    → (seats : List ℕ) → IsCircle waits seats → IsCircle others seats
circle_likewise waits others same [] is = is
circle_likewise waits others same (t ∷ vs) is = queue_likewise waits others same t vs t is

-- ---- the least seat of a circle

-- each is this one or greater
abbrev AllFrom : ℕ → List ℕ → Type 0
AllFrom m vs = list_all (nat_le m) vs ≡ true

all-one : (m v : ℕ) (vs : List ℕ) → m ≤ v → AllFrom m vs → AllFrom m (v ∷ vs)
all-one m v vs le all = rw (le-leb m v le) all

all-joined : (m : ℕ) (vs us : List ℕ) → AllFrom m vs → AllFrom m us → AllFrom m (vs ++ us)
all-joined m vs us a b = list_all-append (nat_le m) vs us ∙ rw (a, b) refl

all-less : (m n : ℕ) → m ≤ n → (vs : List ℕ) → AllFrom n vs → AllFrom m vs
all-less m n le [] all = refl
all-less m n le (v ∷ vs) all =
    let parts = and_parts (nat_le n v) (list_all (nat_le n) vs) all in
    let above = leb-true n v parts.0 in
    all-one m v vs (omega (arith, above)) (all-less m n le vs parts.1)

-- a list parted at its least element
record Least (vs : List ℕ) : Type 0 where
  least : ℕ
  before : List ℕ
  after : List ℕ
  is : vs ≡ before ++ least ∷ after
  all_before : AllFrom least before
  all_after : AllFrom least after

least_of : (v : ℕ) (vs : List ℕ) → Least (v ∷ vs)
least_of v [] =
    record { least = v; before = []; after = []; is = refl; all_before = refl; all_after = refl }
least_of v (w ∷ vs) = by (least_of w vs)
  where
    by : Least (w ∷ vs) → Least (v ∷ w ∷ vs)
    by l = elim (cases_lt v l.least) [
      | inr le ↦ record {
        least = l.least;
        before = v ∷ l.before;
        after = l.after;
        is = ap (λ us. v ∷ us) l.is;
        all_before =
            all-one l.least v l.before le l.all_before;
        all_after = l.all_after;
      }
      | inl lt ↦ record {
        least = v;
        before = [];
        after = w ∷ vs;
        is = refl;
        all_before = refl;
        all_after =
            subst (AllFrom v) (sym l.is)
            (all-joined v l.before (l.least ∷ l.after)
            (all-less v l.least (omega (arith, lt)) l.before l.all_before)
            (all-one v l.least l.after (omega (arith, lt))
            (all-less v l.least (omega (arith, lt)) l.after l.all_after)));
      }
    ]

-- a circle that starts with its least seat
pub record LeastFirst (waits : ℕ → ℕ → Type 0) : Type 0 where
  pub first : ℕ
  pub others : List ℕ
  pub circle : IsQueue waits first others first
  pub all : list_all (nat_le first) others ≡ true

-- each circle can be turned so
pub turned : (waits : ℕ → ℕ → Type 0) (seats : List ℕ) → IsCircle waits seats → LeastFirst waits
turned waits [] is = absurd is
turned waits (t ∷ vs) is = by (least_of t vs)
  where
    from : (m : ℕ) (before after : List ℕ) → t ∷ vs ≡ before ++ m ∷ after → AllFrom m before
        → AllFrom m after → LeastFirst waits
    from m [] after same below above =
        let head : t ≡ m = cc in
        let tail : vs ≡ after = cc in
        record {
          first = m;
          others = after;
          circle = subst (λ x. IsQueue waits x after x) head
              (subst (λ xs. IsQueue waits t xs t) tail is);
          all = above;
        }
    from m (b ∷ before) after same below above =
        let head : t ≡ b = cc in
        let tail : vs ≡ before ++ m ∷ after = cc in
        let parts =
        queue_parted waits t before m after t (subst (λ xs. IsQueue waits t xs t) tail is) in
        let bounds = and_parts (nat_le m b) (list_all (nat_le m) before) below in
        record {
          first = m;
          others = after ++ t ∷ before;
          circle = queue_joined waits m after t before m parts.1 parts.0;
          all =
              all-joined m after (t ∷ before) above
              (subst (λ x. AllFrom m (x ∷ before)) (sym head) below);
        }

    by : Least (t ∷ vs) → LeastFirst waits
    by l = from l.least l.before l.after l.is l.all_before l.all_after

-- where no seat from the first on waits for one that was reached, but others that were reached, the
-- first is in no circle of such seats
pub none_from : (waits : ℕ → ℕ → Type 0) (first : ℕ) (reached : ℕ → Type 0) → reached first
    → ((u t : ℕ) → reached u → waits t u → first ≤ t → (t ≡ first → ⊥) × reached t)
    → (others : List ℕ) → IsQueue waits first others first
    → list_all (nat_le first) others ≡ true → ⊥
none_from waits first reached start closed others is all =
    (back first others first is start (omega arith) all).0 refl
  where
    back : (t : ℕ) (vs : List ℕ) (u : ℕ) → IsQueue waits t vs u → reached u → first ≤ t
        → list_all (nat_le first) vs ≡ true → (t ≡ first → ⊥) × reached t
    back t [] u w goal from all = closed u t goal w from
    back t (v ∷ vs) u w goal from all =
        let parts = and_parts (nat_le first v) (list_all (nat_le first) vs) all in
        closed v t (back v vs u w.1 goal (leb-true first v parts.0) parts.1).1 w.0 from
