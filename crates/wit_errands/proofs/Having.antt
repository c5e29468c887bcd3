-- What a thread has, in two worlds: where each has the same, the locks admit the same.
use Rattle.std.proofs.Common.{◌≡◌, ℕ, ◌<◌, Bool, not, ◌&&◌, ◌||◌, eqb, List, ◌++◌}
use Rattle.std.proofs.Common.{refl, ap, ap₂, sym, ◌∙◌, subst, inl, inr, arith}
use Rattle.std.specs.List.{list_all, range_with_len}
use Rattle.std.proofs.lemmas.Bool.{cases_Bool, or_left, eqb-false}
use Rattle.wit_model.specs.declared.locks.Mode.{Mode}
use Rattle.wit_model.specs.declared.locks.Mode.TheVariants.{Shared, Exclusive}
use Rattle.wit_model.specs.Rules.Verdict.{is_exclusive}
use Rattle.wit_model.specs.World.Deeds.{Deed, Logged, PassedOver, Take, TryTake, Free, RawUp}
use Rattle.wit_model.specs.World.Deeds.{RawDown, own, shares, raw_mode}
use Rattle.wit_model.specs.World.Steps.{admits, is_alone}
use Rattle.wit_model.specs.World.Reordering.{kept}
use Rattle.wit_model.proofs.World.Own.{shares-own}
use Rattle.wit_errands.specs.Settled.{is_free}
use Rattle.wit_errands.proofs.Looks.{Alike, shares-alike, mode-alike, shares-over, mode-over, mode-own}

-- t has the same shares in both, in the same modes
pub record HasSame (t : ℕ) (v w : List Deed) : Type 0 where
  pub counts : (l : ℕ) → shares t l v ≡ shares t l w
  pub modes : (l : ℕ) → 0 < shares t l w → raw_mode t l v ≡ raw_mode t l w

pub has-alike : (t : ℕ) (v w : List Deed) → Alike t v w → HasSame t v w
has-alike t v w same = record {
  counts = λ l. shares-alike t l v w same;
  modes = λ l some. mode-alike t l v w same;
}

-- where its own deeds are these
pub has-own : (t : ℕ) (v o : List Deed) → own t v ≡ o → HasSame t v o
has-own t v o same = record {
  counts = λ l. sym (shares-own t l v) ∙ ap (λ x. shares t l x) same;
  modes = λ l some. sym (mode-own t l v) ∙ ap (λ x. raw_mode t l x) same;
}

-- over deeds after which it has nothing
pub has-over : (t : ℕ) (v first : List Deed) → ((l : ℕ) → shares t l first ≡ 0)
    → HasSame t (v ++ first) v
has-over t v first nothing = record {
  counts = λ l. shares-over t l v first (nothing l);
  modes = λ l some. mode-over t l v first some;
}

pub has-then : (t : ℕ) (v w x : List Deed) → HasSame t v w → HasSame t w x → HasSame t v x
has-then t v w x a b = record {
  counts = λ l. a.counts l ∙ b.counts l;
  modes =
      λ l some. a.modes l (subst (λ n. 0 < n) (sym (b.counts l)) some) ∙ b.modes l some;
}

pub has-back : (t : ℕ) (v w : List Deed) → HasSame t v w → HasSame t w v
has-back t v w a = record {
  counts = λ l. sym (a.counts l);
  modes = λ l some. sym (a.modes l (subst (λ n. 0 < n) (a.counts l) some));
}

-- ---- what the locks admit where all threads have the same

module _ (n : ℕ) (v w : List Deed) (same : (t : ℕ) → HasSame t v w) where
  abbrev shares_it : ℕ → List Deed → ℕ → Bool
  shares_it l x t = eqb (shares t l x) 0 || not (is_exclusive (raw_mode t l x))

  shares-it : (l t : ℕ) → shares_it l v t ≡ shares_it l w t
  shares-it l t =
      elim (cases_Bool (eqb (shares t l w) 0)) [
        | inl none ↦ or_left (eqb (shares t l v) 0) (not (is_exclusive (raw_mode t l v)))
            (ap (λ k. eqb k 0) ((same t).counts l) ∙ none)
            ∙ sym (or_left (eqb (shares t l w) 0) (not (is_exclusive (raw_mode t l w))) none)
        | inr some ↦ ap₂ (λ k m. eqb k 0 || not (is_exclusive m)) ((same t).counts l)
            ((same t).modes l (let other = eqb-false (shares t l w) 0 some in omega arith))
      ]

  admits-same : (l : ℕ) (mode : Mode) → admits n l mode v ≡ admits n l mode w
  admits-same l Exclusive =
      let all : ◌≡◌ {A = ℕ → Bool} (λ t. eqb (shares t l v) 0) (λ t. eqb (shares t l w) 0) =
      (λ i. λ t. eqb ((same t).counts l i) 0) in
      ap (λ p. list_all p (range_with_len 1 n)) all
  admits-same l Shared =
      let all : ◌≡◌ {A = ℕ → Bool} (λ t. shares_it l v t) (λ t. shares_it l w t) =
      (λ i. λ t. shares-it l t i) in
      ap (λ p. list_all p (range_with_len 1 n)) all

  alone-same : (t l : ℕ) → is_alone n t l v ≡ is_alone n t l w
  alone-same t l =
      let all : ◌≡◌ {A = ℕ → Bool} (λ u. eqb u t || eqb (shares u l v) 0)
      (λ u. eqb u t || eqb (shares u l w) 0) =
      (λ i. λ u. eqb u t || eqb ((same u).counts l i) 0) in
      ap₂ (λ k p. eqb k 1 && list_all p (range_with_len 1 n)) ((same t).counts l) all

  pub free-same : (d : Deed) → is_free n d v ≡ is_free n d w
  free-same (Take t l mode) = admits-same l mode
  free-same (TryTake t l mode) = admits-same l mode
  free-same (RawUp t l) = alone-same t l
  free-same (Logged e) = refl
  free-same (PassedOver u c) = refl
  free-same (Free u m) = refl
  free-same (RawDown u m) = refl

pub kept-free : (n : ℕ) (d : Deed) (w : List Deed) → is_free n (kept d) w ≡ is_free n d w
kept-free n (Logged e) w = refl
kept-free n (PassedOver u c) w = refl
kept-free n (Take u m mode) w = refl
kept-free n (TryTake u m mode) w = refl
kept-free n (Free u m) w = refl
kept-free n (RawUp u m) w = refl
kept-free n (RawDown u m) w = refl
