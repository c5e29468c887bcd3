-- The held locks of which a seat is warned, and their text.
use Rattle.std.proofs.Common.{◌≡◌, ℕ, Bool, true, false, not, cond, List, [], ◌∷◌, ◌++◌, length}
use Rattle.std.proofs.Common.{filter, reverse, Option, codes, refl, sym, ap, ap₂, ◌∙◌, ◌<◌, arith}
use Rattle.std.proofs.Common.{append_assoc}
use Rattle.std.specs.Fmt.{decimal}
use Rattle.std.proofs.lemmas.List.{append-nil, reverse-append, reverse-reverse, length-reverse}
use Rattle.std.proofs.lemmas.List.Elements.{filter-append}
use Rattle.wit_model.specs.declared.flags.WarnFlags.{WarnFlags}
use Rattle.wit_model.specs.declared.locks.Instance.{Instance}
use Rattle.wit_model.specs.declared.locks.Lock.{Lock}
use Rattle.wit_model.specs.declared.locks.LockNo.{LockNo}
use Rattle.wit_model.specs.Rules.History.{is_on}
use Rattle.wit_model.specs.Rules.State.{State, seat_at}
use Rattle.wit_model.specs.Rules.Verdict.{basis_of}
use Rattle.wit_model.specs.Rules.Warnings.{is_allowed, counted_spin, counted, warned}
use Rattle.wit_model.specs.Trace.Views.{held_lines, warn_text}

filter-reverse : (p : Instance → Bool) (xs : List Instance)
    → filter p (reverse xs) ≡ reverse (filter p xs)
filter-reverse p [] = refl
filter-reverse p (x ∷ xs) =
    ap (filter p) (reverse-append (x ∷ []) xs) ∙ filter-append p (reverse xs) (x ∷ [])
    ∙ ap (λ ys. ys ++ filter p (x ∷ [])) (filter-reverse p xs) ∙ by (p x)
  where
    by : (b : Bool) → reverse (filter p xs) ++ cond b (x ∷ []) []
        ≡ reverse (cond b (x ∷ filter p xs) (filter p xs))
    by true = sym (reverse-append (x ∷ []) (filter p xs))
    by false = append-nil (reverse (filter p xs))

-- ---- spin locks

-- where they are all counted for themselves, they are beside others
counted-beside : (named : Option LockNo) (sleep spin : List Instance)
    → (length sleep ≡ 0 → counted_spin named [] spin ≡ spin) → counted_spin named sleep spin ≡ spin
counted-beside named [] spin alone = alone refl
counted-beside named (x ∷ sleep) spin alone = refl

-- ---- all of them, where everything is watched

module _ (s : State) (t : ℕ) (named : Option LockNo) (flags : WarnFlags) (on : is_on s.watch ≡ true)
    (held spin : List Instance)
    (sleep : held ≡ filter (λ (i : Instance). not (is_allowed (basis_of s.known) named flags i))
    (reverse (seat_at s t).sleep)) (others : spin ≡ reverse (seat_at s t).spin) where
  counts : List Instance
  counts =
      filter (λ (i : Instance). not (is_allowed (basis_of s.known) named flags i))
      (seat_at s t).sleep

  told : warned s t named flags ≡ reverse counts
      ++ reverse (counted_spin named counts (seat_at s t).spin)
  unfolding counts
  told =
      ap (λ b. cond b (counted (is_allowed (basis_of s.known) named flags) named (seat_at s t).sleep
      (seat_at s t).spin) []) on

  held-is : held ≡ reverse counts
  unfolding counts
  held-is =
      sleep ∙ filter-reverse (λ (i : Instance). not (is_allowed (basis_of s.known) named flags i))
      (seat_at s t).sleep

  spin-is : reverse spin ≡ (seat_at s t).spin
  spin-is = ap reverse others ∙ reverse-reverse (seat_at s t).spin

  few : length held ≡ length counts
  few = ap length held-is ∙ length-reverse counts

  pub warned-alone : length held ≡ 0 → counted_spin named [] (reverse spin) ≡ []
      → held ≡ warned s t named flags
  warned-alone zero alone =
      held-is ∙ sym (append-nil (reverse counts)) ∙ ap (λ xs. reverse counts ++ reverse xs)
      (sym alone ∙ ap (counted_spin named []) spin-is ∙ by counts (sym few ∙ zero)) ∙ sym told
    where
      by : (xs : List Instance) → length xs ≡ 0
          → counted_spin named [] (seat_at s t).spin ≡ counted_spin named xs (seat_at s t).spin
      by [] none = refl
      by (x ∷ xs) none = absurd (omega (arith, none))

  pub warned-both : (all : List Instance) → all ≡ held ++ spin
      → (length held ≡ 0 → counted_spin named [] (reverse spin) ≡ reverse spin)
      → all ≡ warned s t named flags
  warned-both all is alone =
      is ∙ ap₂ (λ xs ys. xs ++ ys) held-is (others ∙ ap reverse (sym same)) ∙ sym told
    where
      same : counted_spin named counts (seat_at s t).spin ≡ (seat_at s t).spin
      same =
          counted-beside named counts (seat_at s t).spin
          (λ zero. sym (ap (counted_spin named []) spin-is) ∙ alone (few ∙ zero) ∙ spin-is)

-- ---- their text

pub warn-none : (locks : List Lock) (files : List (List ℕ)) (held : List Instance) → length held ≡ 0
    → [] ≡ warn_text locks files held
warn-none locks files [] none = refl
warn-none locks files (i ∷ held) none = absurd (omega (arith, none))

pub warn-written : {t0 t1 t2 t3 : List ℕ} (locks : List Lock) (files : List (List ℕ))
    (held : List Instance) → 0 < length held → t0 ≡ [] → t1 ≡ t0 ++ decimal (length held)
    → t2 ≡ t1 ++ codes " locks held:\n" → t3 ≡ t2 ++ held_lines locks files held
    → t3 ≡ warn_text locks files held
warn-written locks files [] some e0 e1 e2 e3 = absurd (omega (arith, some))
warn-written locks files (i ∷ held) some e0 e1 e2 e3 =
    behind3 (decimal (length (i ∷ held))) (codes " locks held:") (10 ∷ [])
    (held_lines locks files (i ∷ held)) e0 e1 e2 e3
  where
    behind3 : {u0 u1 u2 u3 : List ℕ} (p1 p2 p3 p4 : List ℕ) → u0 ≡ [] → u1 ≡ u0 ++ p1
        → u2 ≡ u1 ++ (p2 ++ p3) → u3 ≡ u2 ++ p4 → u3 ≡ (p1 ++ (p2 ++ p3)) ++ p4
    behind3 p1 p2 p3 p4 f0 f1 f2 f3 = simp (f3, f2, f1, f0, append_assoc)
