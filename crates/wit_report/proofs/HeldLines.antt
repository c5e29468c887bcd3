-- The lines of held locks, newest first; and the chains that lie in chunks.
use Rattle.std.proofs.Common.{◌≡◌, ℕ, ◌<◌, Bool, true, false, ◌&&◌, Option, Some, unwrap_or, List}
use Rattle.std.proofs.Common.{[], ◌∷◌, ◌++◌, length, drop, reverse, nat_lt, codes, refl, sym, ap}
use Rattle.std.proofs.Common.{◌∙◌, arith, append_assoc}
use Rattle.std.specs.Fmt.{decimal}
use Rattle.std.proofs.lemmas.Bool.{true≢false, lt-leb, lt-ltb}
use Rattle.std.proofs.lemmas.List.{append-nil, reverse-append}
use Rattle.std.proofs.lemmas.List.Concat.{flat_map-append}
use Rattle.std.proofs.lemmas.List.FromFn.{length-map-range_with_len}
use Rattle.wit_model.specs.declared.chunks.Spot.{Spot}
use Rattle.wit_model.specs.declared.locks.Instance.{Instance}
use Rattle.wit_model.specs.declared.locks.Lock.{Lock}
use Rattle.wit_model.specs.Rules.Chunks.{Chunks, groups_of, group_of, list_of}
use Rattle.wit_model.specs.Rules.Groups.{flat}
use Rattle.wit_model.specs.Rules.History.{chain}
use Rattle.wit_model.specs.Rules.Locks.{lock_at}
use Rattle.wit_model.specs.Rules.Numbers.{IsNumber, is_given}
use Rattle.wit_model.specs.Rules.State.{Story, Seat, state_of, seat_of, seat_at, chain_in, no_seat}
use Rattle.wit_model.specs.Rules.Step.{IsLegal}
use Rattle.wit_model.specs.Rules.Types.{type_name_of}
use Rattle.wit_model.specs.Trace.Spelling.{quoted}
use Rattle.wit_model.specs.Trace.Texts.{class_words, site_words}
use Rattle.wit_model.specs.Trace.Views.{mode_words, held_line, held_lines, all_held, holder_lines}
use Rattle.wit_model.specs.Trace.Views.{free_line}
use Rattle.wit_model.proofs.Chains.Regrouping.{groups-chain}
use Rattle.wit_model.proofs.Numbered.{with_number-none}
use Rattle.wit_model.proofs.Histories.Legal.{sane_legal, seat_at-state}
use Rattle.wit_core.specs.Held.{HoldAll}
use Rattle.wit_model.proofs.Walking.{IsNext, newer_than, one-more}
use Rattle.wit_waiting.proofs.Waits.{seat-number}

-- ---- newest first

-- a chunk more of a list
pub reversed-more : (c : Chunks) (list : ℕ) (o : Option Spot) (s : Spot) → o ≡ Some s
    → IsNext c list o → (n : ℕ) → n ≡ s.group
    → reverse (flat (drop n (groups_of c list))) ≡ reverse (flat (newer_than c list o))
    ++ reverse (group_of c list s)
reversed-more c list o s is next n at =
    ap (λ k. reverse (flat (drop k (groups_of c list)))) at
    ∙ ap (λ (e : List Instance). reverse e) (one-more c list o s is next)
    ∙ reverse-append (group_of c list s) (flat (newer_than c list o))

module _ (locks : List Lock) (files : List (List ℕ)) where
  pub lines-both : (t u w : List ℕ) (seat : Seat)
      → u ≡ t ++ held_lines locks files (reverse seat.sleep)
      → w ≡ u ++ held_lines locks files (reverse seat.spin)
      → w ≡ t ++ held_lines locks files (all_held seat)
  lines-both t u w seat sleep spin =
      spin ∙ ap (λ x. x ++ held_lines locks files (reverse seat.spin)) sleep
      ∙ append_assoc t (held_lines locks files (reverse seat.sleep))
      (held_lines locks files (reverse seat.spin))
      ∙ ap (λ x. t ++ x) (sym (flat_map-append (held_line locks files) (reverse seat.sleep)
      (reverse seat.spin)))

-- ---- chains in chunks

pub chain-lies : (s : Story) (c : Chunks) (t : ℕ) (spin : Bool) → IsLegal s.start s.files s.history
    → HoldAll s c → IsNumber s.start.sizes.seats t
    → flat (groups_of c (list_of spin t)) ≡ chain_in spin (seat_at (state_of s) t)
chain-lies s c t spin legal holds number =
    ap flat (holds.groups t spin number) ∙ groups-chain spin t s.history
    (sane_legal s.start s.files s.history legal)
    ∙ by spin ∙ ap (chain_in spin)
    (sym (seat_at-state s.start s.files s.history t (seat-number s t number)))
  where
    by : (k : Bool) → chain k t s.history ≡ chain_in k (seat_of s.history t)
    by true = refl
    by false = refl

-- ---- one line

pub held-written : {t1 t2 t3 t4 t5 t6 t7 t8 t9 t10 t11 t12 : List ℕ} (t : List ℕ)
    (locks : List Lock) (files : List (List ℕ)) (i : Instance)
    → t1 ≡ t ++ mode_words i.mode → t2 ≡ t1 ++ codes " "
    → t3 ≡ t2 ++ class_words (lock_at locks i.lock.0).made.class → t4 ≡ t3 ++ codes " "
    → t5 ≡ t4 ++ quoted (lock_at locks i.lock.0).made.name → t6 ≡ t5 ++ codes " ("
    → t7 ≡ t6 ++ type_name_of (lock_at locks i.lock.0).made → t8 ≡ t7 ++ codes ") r = "
    → t9 ≡ t8 ++ decimal i.count → t10 ≡ t9 ++ codes " @ " → t11 ≡ t10 ++ site_words files i.site
    → t12 ≡ t11 ++ 10 ∷ [] → t12 ≡ t ++ held_line locks files i
held-written t locks files i e1 e2 e3 e4 e5 e6 e7 e8 e9 e10 e11 e12 =
    behind12 t (mode_words i.mode) (codes " ") (class_words (lock_at locks i.lock.0).made.class)
    (codes " ") (quoted (lock_at locks i.lock.0).made.name) (codes " (")
    (type_name_of (lock_at locks i.lock.0).made) (codes ") r = ") (decimal i.count) (codes " @ ")
    (site_words files i.site) (10 ∷ []) e1 e2 e3 e4 e5 e6 e7 e8 e9 e10 e11 e12
  where
    behind12 : {u1 u2 u3 u4 u5 u6 u7 u8 u9 u10 u11 u12 : List ℕ}
        (u p1 p2 p3 p4 p5 p6 p7 p8 p9 p10 p11 p12 : List ℕ) → u1 ≡ u ++ p1 → u2 ≡ u1 ++ p2
        → u3 ≡ u2 ++ p3 → u4 ≡ u3 ++ p4 → u5 ≡ u4 ++ p5
        → u6 ≡ u5 ++ p6 → u7 ≡ u6 ++ p7 → u8 ≡ u7 ++ p8 → u9 ≡ u8 ++ p9 → u10 ≡ u9 ++ p10
        → u11 ≡ u10 ++ p11 → u12 ≡ u11 ++ p12
        → u12 ≡ u ++ (p1 ++ (p2 ++ (p3
        ++ (p4 ++ (p5 ++ (p6 ++ (p7 ++ (p8 ++ (p9 ++ (p10 ++ (p11 ++ p12)))))))))))
    behind12 u p1 p2 p3 p4 p5 p6 p7 p8 p9 p10 p11 p12 f1 f2 f3 f4 f5 f6 f7 f8 f9 f10 f11 f12 =
        simp (f12, f11, f10, f9, f8, f7, f6, f5, f4, f3, f2, f1, append_assoc)

-- ---- a seat behind its number

pub holder-none : (t : List ℕ) (locks : List Lock) (files : List (List ℕ)) (seat : ℕ)
    (held : List Instance) → nat_lt 0 (length held) ≡ false
    → t ≡ t ++ holder_lines locks files seat held
holder-none t locks files seat [] none = sym (append-nil t)
holder-none t locks files seat (i ∷ held) none =
    absurd (true≢false (sym (lt-ltb 0 (length (i ∷ held)) (omega arith)) ∙ none))

pub holder-written : {t1 t2 t3 t4 : List ℕ} (t : List ℕ) (locks : List Lock) (files : List (List ℕ))
    (seat : ℕ) (held : List Instance) → nat_lt 0 (length held) ≡ true
    → t1 ≡ t ++ codes "seat " → t2 ≡ t1 ++ decimal seat → t3 ≡ t2 ++ codes " holds:\n"
    → t4 ≡ t3 ++ held_lines locks files held
    → t4 ≡ t ++ holder_lines locks files seat held
holder-written t locks files seat [] some e1 e2 e3 e4 = absurd (true≢false (sym some))
holder-written t locks files seat (i ∷ held) some e1 e2 e3 e4 =
    behind4 t (codes "seat ") (decimal seat) (codes " holds:") (10 ∷ [])
    (held_lines locks files (i ∷ held)) e1 e2 e3 e4
  where
    behind4 : {u1 u2 u3 u4 : List ℕ} (u p1 p2 p3 p4 p5 : List ℕ) → u1 ≡ u ++ p1 → u2 ≡ u1 ++ p2
        → u3 ≡ u2 ++ (p3 ++ p4) → u4 ≡ u3 ++ p5 → u4 ≡ u ++ ((p1 ++ (p2 ++ (p3 ++ p4))) ++ p5)
    behind4 u p1 p2 p3 p4 p5 f1 f2 f3 f4 = simp (f4, f3, f2, f1, append_assoc)

-- a seat that there isn't holds nothing
none-at : (s : Story) (seat : ℕ) → is_given (state_of s).seats seat ≡ false
    → seat_at (state_of s) seat ≡ no_seat
none-at s seat none =
    ap (λ (o : Option Seat). unwrap_or o no_seat) (with_number-none (state_of s).seats seat none)

none-held : (s : Story) (seat : ℕ) (spin : Bool) → seat_at (state_of s) seat ≡ no_seat
    → [] ≡ reverse (chain_in spin (seat_at (state_of s) seat))
none-held s seat spin none = by spin ∙ sym (ap (λ (x : Seat). reverse (chain_in spin x)) none)
  where
    by : (k : Bool) → [] ≡ reverse (chain_in k no_seat)
    by true = refl
    by false = refl

pub none-zero : (s : Story) (seat : ℕ) (spin : Bool) → seat ≡ 0
    → [] ≡ reverse (chain_in spin (seat_at (state_of s) seat))
none-zero s seat spin zero =
    none-held s seat spin (none-at s seat (ap (is_given (state_of s).seats) zero))

pub none-beyond : (s : Story) (seat : ℕ) (spin : Bool) → s.start.sizes.seats < seat
    → [] ≡ reverse (chain_in spin (seat_at (state_of s) seat))
none-beyond s seat spin lt =
    let many = length-map-range_with_len (seat_of s.history) 1 s.start.sizes.seats in
    let past = lt-leb seat (length (state_of s).seats) (omega (arith, lt, many)) in
    none-held s seat spin (none-at s seat (ap (λ b. nat_lt 0 seat && b) past ∙ by (nat_lt 0 seat)))
  where
    by : (b : Bool) → (b && false) ≡ false
    by true = refl
    by false = refl

-- the last line
pub free-written : {t1 t2 t3 t4 : List ℕ} (held : List ℕ) (chunks : ℕ) → t1 ≡ held
    → t2 ≡ t1 ++ codes "free chunks: " → t3 ≡ t2 ++ decimal chunks → t4 ≡ t3 ++ 10 ∷ []
    → t4 ≡ held ++ free_line chunks
free-written held chunks e1 e2 e3 e4 =
    behind3 held (codes "free chunks: ") (decimal chunks) (10 ∷ []) e1 e2 e3 e4
  where
    behind3 : {u1 u2 u3 u4 : List ℕ} (u p1 p2 p3 : List ℕ) → u1 ≡ u → u2 ≡ u1 ++ p1 → u3 ≡ u2 ++ p2
        → u4 ≡ u3 ++ p3 → u4 ≡ u ++ (p1 ++ (p2 ++ p3))
    behind3 u p1 p2 p3 f1 f2 f3 f4 = simp (f4, f3, f2, f1, append_assoc)
