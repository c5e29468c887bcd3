-- The log of a closed verifier is as long as the lists of its seats together.
use Rattle.std.proofs.Common.{◌≡◌, ℕ, zero, suc, nat_lt, ◌+◌, ◌<◌, ◌≤◌, Bool, true, false, ◌||◌}
use Rattle.std.proofs.Common.{cond, eqb, ne_eqb, List, [], ◌∷◌, length, refl, ap, sym, ◌∙◌, inl}
use Rattle.std.proofs.Common.{inr, arith}
use Rattle.std.proofs.lemmas.Bool.{false≢true, cases_Bool, ltb-true, ltb-false, eqb-true, eq-eqb}
use Rattle.wit_model.specs.declared.calls.Entry.{Entry}
use Rattle.wit_model.specs.Rules.History.{own_entries}
use Rattle.wit_model.specs.Rules.State.{Start, Story}
use Rattle.wit_seats.specs.declared.views.SeatKnowledge.{SeatKnowledge}
use Rattle.wit_shared.specs.Closing.{has_seat, entries_of_seat, logged_to, LogAddsUp, AreLeft}
use Rattle.wit_shared.specs.Closing.{IsClosed, IsLeft}

-- a seat's list is what the log has of it
own_of : (v : Story) (n : ℕ) (k : SeatKnowledge) (ks : List SeatKnowledge) → IsLeft v k
    → (has_seat n (k ∷ ks) ≡ false → own_entries n v.history ≡ [])
    → ((has_seat n ks ≡ false → own_entries n v.history ≡ [])
    → own_entries n v.history ≡ entries_of_seat n ks)
    → (b : Bool) → eqb k.seat n ≡ b → own_entries n v.history ≡ cond b k.own (entries_of_seat n ks)
own_of v n k ks left none rest true is =
    ap (λ m. own_entries m v.history) (sym (eqb-true k.seat n is)) ∙ left.own
own_of v n k ks left none rest false is = rest (λ not. none (ap (λ b. b || has_seat n ks) is ∙ not))

own_listed : (v : Story) (n : ℕ) (seats : List SeatKnowledge) → AreLeft v seats
    → (has_seat n seats ≡ false → own_entries n v.history ≡ [])
    → own_entries n v.history ≡ entries_of_seat n seats
own_listed v n [] left none = none refl
own_listed v n (k ∷ ks) left none =
    own_of v n k ks left.0 none (own_listed v n ks left.1) (eqb k.seat n) refl

-- how many of these entries are of the seats up to this number
abbrev count : ℕ → List Entry → ℕ
count zero h = length (own_entries zero h)
count (suc n) h = length (own_entries (suc n) h) + count n h

hit : (n : ℕ) (e : Entry) (h : List Entry) → e.seat.0 ≡ n
    → length (own_entries n (e ∷ h)) ≡ suc (length (own_entries n h))
hit n e h is =
    ap (λ b. length (cond b (e ∷ own_entries n h) (own_entries n h))) (eq-eqb e.seat.0 n is)

passed : (n : ℕ) (e : Entry) (h : List Entry) → (e.seat.0 ≡ n → ⊥)
    → own_entries n (e ∷ h) ≡ own_entries n h
passed n e h not = ap (λ b. cond b (e ∷ own_entries n h) (own_entries n h)) (ne_eqb e.seat.0 n not)

missed : (n : ℕ) (e : Entry) (h : List Entry) → (e.seat.0 ≡ n → ⊥)
    → length (own_entries n (e ∷ h)) ≡ length (own_entries n h)
missed n e h not = ap length (passed n e h not)

above : (n : ℕ) (e : Entry) (h : List Entry) → n < e.seat.0 → count n (e ∷ h) ≡ count n h
above zero e h high = missed zero e h (λ is. omega (arith, high, is))
above (suc n) e h high =
    let one = missed (suc n) e h (λ is. omega (arith, high, is)) in
    let rest = above n e h (omega (arith, high)) in
    omega (arith, one, rest)

within : (n : ℕ) (e : Entry) (h : List Entry) → e.seat.0 ≤ n → count n (e ∷ h) ≡ suc (count n h)
within zero e h low = hit zero e h (omega (arith, low))
within (suc n) e h low =
    elim (cases_Bool (nat_lt n e.seat.0)) [
      | inl high ↦ let one = hit (suc n) e h (omega (arith, low, ltb-true n e.seat.0 high)) in
          let rest = above n e h (ltb-true n e.seat.0 high) in
          omega (arith, one, rest)
      | inr not ↦ let low : e.seat.0 ≤ n = ltb-false n e.seat.0 not in
          let one = missed (suc n) e h (λ is. omega (arith, low, is)) in
          let rest = within n e h low in
          omega (arith, one, rest)
    ]

none : (n : ℕ) → count n [] ≡ 0
none zero = refl
none (suc n) = let rest = none n in omega (arith, rest)

-- no entry is of a seat above this number
low : (n : ℕ) (e : Entry) (h : List Entry) → ((m : ℕ) → n < m → own_entries m (e ∷ h) ≡ [])
    → n < e.seat.0 → ⊥
low n e h above high =
    let one = hit e.seat.0 e h refl in
    let no_entry = ap length (above e.seat.0 high) in
    omega (arith, one, no_entry)

counted : (n : ℕ) (h : List Entry) → ((m : ℕ) → n < m → own_entries m h ≡ []) → length h ≡ count n h
counted n [] above = sym (none n)
counted n (e ∷ h) above =
    elim (cases_Bool (nat_lt n e.seat.0)) [
      | inl high ↦ absurd (low n e h above (ltb-true n e.seat.0 high))
      | inr not ↦ let here : e.seat.0 ≤ n = ltb-false n e.seat.0 not in
          let rest =
          counted n h (λ m high. sym (passed m e h (λ is. omega (arith, here, high, is)))
          ∙ above m high) in
          let one = within n e h here in
          omega (arith, rest, one)
    ]

listed : (n : ℕ) (h : List Entry) (seats : List SeatKnowledge)
    → ((m : ℕ) → own_entries m h ≡ entries_of_seat m seats) → count n h ≡ logged_to n seats
listed zero h seats is = ap length (is zero)
listed (suc n) h seats is =
    let one = ap length (is (suc n)) in
    let rest = listed n h seats is in
    omega (arith, one, rest)

pub adds_up : (start : Start) (v : Story) (seats : List SeatKnowledge) → IsClosed start v seats
    → LogAddsUp v.history seats
adds_up start v seats closed n nobody =
    counted n v.history (λ m high. closed.others m (nobody m high))
    ∙ listed n v.history seats (λ m. own_listed v m seats closed.own (closed.others m))
