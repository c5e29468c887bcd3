-- The example: what is written, call by call.
use Rattle.std.proofs.Common.{◌≡◌, ◌≢◌, ◌⊎◌, ℕ, ◌*◌, ◌/◌, ◌%◌, ◌^◌, ◌<◌, ◌≤◌, Bool, true, false, not}
use Rattle.std.proofs.Common.{◌&&◌, ◌||◌, cond, drop}
use Rattle.std.specs.Prelude.{reverse, codes}
use Rattle.std.proofs.Common.{eqb, List, [], ◌∷◌, ◌++◌, length, set, get_or, replicate, bit_or, refl, ap}
use Rattle.std.proofs.Common.{sym, ◌∙◌, subst, inl, inr, arith}
use Rattle.std.specs.Int.{bit_at}
use Rattle.std.specs.List.{list_any}
use Rattle.std.proofs.lemmas.Bool.{eqb-true, cases_lt, true≢false, false≢true}
use Rattle.std.proofs.lemmas.Bool.Decides.{eqb_tells}
use Rattle.std.proofs.lemmas.List.{get_or-replicate, get_or_past, get_or-set_same, get_or-set_other}
use Rattle.std.proofs.lemmas.List.{length-replicate}
use Rattle.std.proofs.lemmas.Nat.Bits.{bit_at-zero}
use Rattle.wit_condensed.specs.declared.chain.Asked.{Asked}
use Rattle.wit_condensed.specs.declared.chain.Link.{Link}
use Rattle.wit_condensed.specs.declared.condensed.Condensed.{Condensed}
use Rattle.wit_condensed.specs.declared.lines.Kind.TheVariants.{AskedAndGot, Asks}
use Rattle.wit_condensed.specs.declared.lines.Line.{Line}
use Rattle.wit_condensed.specs.Asking.{Answers, is_written, is_known}
use Rattle.wit_condensed.specs.Lines.{request_lines}
use Rattle.wit_condensed.specs.Rows.{has_bit, has_pair}
use Rattle.wit_condensed.proofs.Bits.{bit_added}
use Rattle.wit_model.specs.declared.calls.Call.{Call}
use Rattle.wit_model.specs.declared.calls.Call.TheVariants.{Check, Note}
use Rattle.wit_model.specs.declared.calls.Reply.{Reply}
use Rattle.wit_model.specs.declared.calls.Reply.TheVariants.{Pass, Recorded, AdoptedAll}
use Rattle.wit_model.specs.declared.calls.Entry.{Entry}
use Rattle.wit_model.specs.declared.calls.Request.{Request}
use Rattle.wit_model.specs.Rules.History.{num, place, mode, mark, site, held, is_held}
use Rattle.wit_model.specs.Rules.SeatGroups.{seat_groups}
use Rattle.wit_model.specs.Rules.Step.{IsLegal}
use Rattle.wit_model.specs.World.Deeds.{log_of}
use Rattle.wit_model.specs.World.Examples.{small, files, request, makes_mutex}
use Rattle.wit_model.specs.World.Steps.{IsWorld}
use Rattle.wit_model.specs.World.Tried.{small_all_held}
use Rattle.wit_model.specs.World.Waiting.{IsWaiting}
use Rattle.wit_model.proofs.Chains.Held.{in-held}
use Rattle.wit_model.proofs.Chains.Sane.{IsSane}
use Rattle.wit_model.proofs.Histories.Legal.{sane_legal}
use Rattle.wit_model.proofs.World.Covering.{legal_world}
use Rattle.wit_model.proofs.World.Runs.{is_world}
use Rattle.wit_recordings.specs.Duty.{AllAskRecorded}
use Rattle.wit_recordings.proofs.Recorded.{asks-recorded}
use Rattle.wit_recordings.proofs.Shorter.{is_check}
use Rattle.wit_recordings.specs.Recordings.{NamedType, AsksWhileHolding}
use Rattle.wit_duty.specs.Streams.{IsEmpty, HasChain, IsRecorded, Begun, Written, Called, Known, Asking}
use Rattle.wit_duty.specs.Streams.{IsAnswered, IsOfType}
use Rattle.wit_duty.specs.Twice.{two_names, asked_meanwhile, asked_twice, asked_once}

-- ---- sets

abbrev no_word : ℕ
no_word = 0

no_row : List ℕ
no_row = replicate 16 no_word

no_pairs : List (List ℕ)
unfolding no_row
no_pairs = replicate 1024 no_row

no_bit : (a : ℕ) → has_bit no_row a ≡ false
unfolding no_row
no_bit a =
    ap (λ w. eqb (bit_at w (a % 64)) 1) (none (a / 64) (cases_lt (a / 64) 16))
    ∙ ap (λ d. eqb d 1) (bit_at-zero (a % 64))
  where
    none : (i : ℕ) → (i < 16) ⊎ (16 ≤ i) → get_or (replicate 16 no_word) i no_word ≡ no_word
    none i (inl lt) = get_or-replicate 16 i no_word no_word lt
    none i (inr le) =
        get_or_past (replicate 16 no_word) i no_word (omega (arith, le, length-replicate 16 no_word))

nil-bit : (a : ℕ) → has_bit [] a ≡ false
nil-bit a = ap (λ d. eqb d 1) (bit_at-zero (a % 64))

none-had : (a b : ℕ) → has_pair no_pairs a b ≡ false
unfolding no_pairs
none-had a b = go (cases_lt b 1024)
  where
    go : (b < 1024) ⊎ (1024 ≤ b) → has_pair (replicate 1024 no_row) a b ≡ false
    go (inl lt) = ap (λ row. has_bit row a) (get_or-replicate 1024 b no_row [] lt) ∙ no_bit a
    go (inr le) =
        ap (λ row. has_bit row a)
        (get_or_past (replicate 1024 no_row) b [] (omega (arith, le, length-replicate 1024 no_row)))
        ∙ nil-bit a

no_sets : Condensed
no_sets = record { told = no_pairs; alone = no_pairs }

no_sets-empty : IsEmpty no_sets
unfolding no_sets
no_sets-empty = record { told = none-had; alone = none-had }

-- the row and the set with the one pair
one_row : List ℕ
one_row =
    set no_row (1 / 64)
    (bit_or (get_or no_row (1 / 64) 0) (1 * 2 ^ (1 % 64) % 18446744073709551616))

one_pair : List (List ℕ)
one_pair = set no_pairs 2 one_row

one_sets : Condensed
one_sets = record { told = one_pair; alone = one_pair }

or-none : (b : Bool) → (b || false) ≡ b
or-none true = refl
or-none false = refl

long : 2 < length no_pairs
unfolding no_pairs
long = omega (arith, length-replicate 1024 no_row)

wide : 1 / 64 < length no_row
unfolding no_row
wide = omega (arith, length-replicate 16 no_word)

one-had : (a b : ℕ) → has_pair one_pair a b ≡ (has_pair no_pairs a b || (eqb b 2 && eqb 1 a))
unfolding one_pair one_row
one-had a b = go (eqb_tells b 2)
  where
    here : has_pair one_pair a 2 ≡ (has_pair no_pairs a 2 || eqb 1 a)
    here =
        ap (λ row. has_bit row a) (get_or-set_same no_pairs 2 one_row [] long)
        ∙ (bit_added no_row 1 wide a
        ∙ ap (λ had. had || eqb 1 a) (no_bit a ∙ sym (none-had a 2)))

    go : ((eqb b 2 ≡ true) × (b ≡ 2)) ⊎ ((eqb b 2 ≡ false) × (b ≢ 2))
        → has_pair one_pair a b ≡ (has_pair no_pairs a b || (eqb b 2 && eqb 1 a))
    go (inl e) =
        subst (λ k. has_pair one_pair a k ≡ (has_pair no_pairs a k || eqb 1 a)) (sym e.1) here
        ∙ ap (λ t. has_pair no_pairs a b || (t && eqb 1 a)) (sym e.0)
    go (inr e) =
        ap (λ row. has_bit row a) (get_or-set_other no_pairs 2 b one_row [] e.1)
        ∙ (sym (or-none (has_pair no_pairs a b))
        ∙ ap (λ t. has_pair no_pairs a b || (t && eqb 1 a)) (sym e.0))

-- ---- the question and its answer

abbrev link_a : Link
link_a = record { lock = 1; type_no = 1; tried = false; written = false }

abbrev b_asked : Asked
b_asked = record { lock = 2; type_no = 2 }

abbrev two_lines : List Line
two_lines = record { link = 0; kind = 0 } ∷ record { link = 1; kind = 2 } ∷ []

is-written : is_written no_sets (link_a ∷ []) b_asked false 9 ≡ true
unfolding no_sets
is-written = ap not (none-had 1 2)

answers : Answers no_sets (link_a ∷ []) b_asked false 9 one_sets two_lines
unfolding no_sets one_sets
answers = record {
  given = ap (λ t. cond t (request_lines (link_a ∷ [])) []) (sym is-written);
  told = λ a b.
      one-had a b
      ∙ (ap (λ t. has_pair no_pairs a b || (eqb b 2 && t)) (sym (or-none (eqb 1 a)))
      ∙ ap (λ t. has_pair no_pairs a b || (t && (eqb b 2 && (eqb 1 a || false)))) (sym is-written));
  alone = λ a b.
      one-had a b
      ∙ ap (λ t. has_pair no_pairs a b || (t && (eqb b 2 && eqb 1 a))) (sym is-written);
}

-- ---- the stream

abbrev by_one : Call → Reply → Entry
by_one call reply = record { seat = record { 0 = 1 }; call = call; reply = reply }

abbrev made : List Entry
made = log_of (reverse (makes_mutex (codes "A") 1 ++ makes_mutex (codes "B") 2))

abbrev asks_a : Entry
asks_a = by_one (Check (request 1 1)) Pass

abbrev gets_a : Entry
gets_a = by_one (Note (record { 0 = 1 })) Recorded

abbrev asks_b : Entry
asks_b = by_one (Check (request 2 2)) (AdoptedAll ((record { 0 = 1 }, record { 0 = 2 }) ∷ []))

answered : IsAnswered two_names 1 no_sets made (link_a ∷ []) b_asked one_sets (log_of asked_once)
unfolding num
answered = record {
  chain = record {
    held = λ l. refl;
    typed = (refl, tt);
    asked_typed = refl;
  };
  waits = false;
  room = 9;
  lines = two_lines;
  question = refl;
  answers = answers;
  written = (
    AskedAndGot,
    (
      gets_a ∷ asks_a ∷ made,
      (
        refl,
        (
          (
            asks_a,
            gets_a,
            (
              record { seat = refl; request = request 1 1; call = refl; lock = refl },
              (record { seat = refl; call = refl; reply = refl }, refl),
            ),
          ),
          (
            Asks,
            (
              asks_b ∷ gets_a ∷ asks_a ∷ made,
              (
                refl,
                (
                  (
                    asks_b,
                    (record { seat = refl; request = request 2 2; call = refl; lock = refl }, refl),
                  ),
                  refl,
                ),
              ),
            ),
          ),
        ),
      ),
    ),
  );
}

-- ---- the run

not-asking : (h : List Entry) (e : Entry) → is_check e.call ≡ false → (a b : NamedType)
    → AsksWhileHolding h e a b → ⊥
not-asking h e isnt a b now = true≢false (sym (ap is_check now.asks) ∙ isnt)

-- while the seat holds nothing
none-held : (h : List Entry) (e : Entry) → ((l : ℕ) → is_held e.seat.0 l h ≡ false)
    → (a b : NamedType) → AsksWhileHolding h e a b → ⊥
none-held h e none a b now = false≢true (sym (none now.other) ∙ now.holds)

only-held : (t : ℕ) (h : List Entry) → IsSane h → held t h ≡ 1 ∷ [] → (l : ℕ)
    → is_held t l h ≡ true → l ≡ 1
only-held t h sane is l has =
    sym (eqb-true 1 l
    (sym (or-none (eqb 1 l)) ∙ (ap (λ ms. list_any (λ m. eqb m l) ms) (sym is)
    ∙ (in-held t l h sane ∙ has))))

same-request : (q r : Request) → ◌≡◌ {A = Call} (Check q) (Check r) → q ≡ r
same-request q r is = (cc)

module _ (t : ℕ) (h : List Entry) (e : Entry) (line : ℕ) (seat : e.seat.0 ≡ t)
    (asks : e.call ≡ Check (request 2 line)) (sane : IsSane h) (is : held t h ≡ 1 ∷ [])
    (first : IsOfType two_names h 1 1) (second : IsOfType two_names h 2 2) where
  has-chain : HasChain two_names h e (link_a ∷ []) b_asked
  has-chain = record {
    holds = λ l has.
        let one = only-held t h sane is l (ap (λ s. is_held s l h) (sym seat) ∙ has) in
        (1, (refl, subst (λ k. IsOfType two_names h k 1) (sym one) first));
    asks = λ q asked unheld.
        let same = same-request (request 2 line) q (sym asks ∙ asked) in
        (subst (λ (r : Request). IsOfType two_names h r.lock.0 2) same second, refl);
  }

pub twice-world : IsWorld small files asked_twice
unfolding num place mode mark site seat_groups
twice-world = is_world small files asked_twice refl refl

pub twice-recorded : AllAskRecorded asked_twice
twice-recorded = asks-recorded small files asked_twice twice-world refl

pub once-legal : IsLegal small_all_held files (log_of asked_once)
unfolding num place mode mark site seat_groups
once-legal =
    legal_world small_all_held files asked_once (is_world small_all_held files asked_once refl refl)

pub second-waits : IsWaiting asked_meanwhile 2 1
unfolding num
second-waits = record {
  request = request 1 3;
  asks = refl;
  unheld = refl;
  another = λ e. omega arith;
  taken = omega arith;
  barred = refl;
}

-- the deeds until the second request for B, until the second one for A, and until the first for B
abbrev before_last : List Entry
before_last = drop 1 (log_of asked_twice)

abbrev before_meanwhile : List Entry
before_meanwhile = drop 1 (log_of asked_meanwhile)

abbrev before_first : List Entry
before_first = drop 3 (log_of asked_meanwhile)

legal : IsSane before_last
legal = (sane_legal small files (log_of asked_twice) (legal_world small files asked_twice twice-world)).1

legal-first : IsSane before_first
legal-first = legal.1.1.1.1.1.1

known : is_known one_sets (link_a ∷ []) 2 ≡ true
unfolding one_sets
known = one-had 1 2 ∙ ap (λ had. had || true) (none-had 1 2)

first-recorded : IsRecorded two_names before_meanwhile one_sets (log_of asked_once)
unfolding num place
first-recorded =
    Called _ _ _ _ _
    (Asking _ before_first no_sets one_sets made _ _ 1 (link_a ∷ []) b_asked
    (Called _ _ _ _ _
    (Called _ made _ _ _
    (Called _ _ _ _ _
    (Called _ _ _ _ _
    (Written _ [] no_sets [] made (Begun two_names no_sets no_sets-empty) (made, refl))
    (not-asking _ _ refl))
    (not-asking _ _ refl))
    (none-held made _ (λ l. refl)))
    (not-asking _ _ refl))
    (has-chain 1 before_first _ 2 refl refl legal-first refl refl refl)
    answered)
    (not-asking _ _ refl)

pub twice-kept : (sets : Condensed) × IsRecorded two_names (log_of asked_twice) sets (log_of asked_once)
unfolding num place
twice-kept = (
  one_sets,
  Known _ before_last _ _ _ (link_a ∷ []) b_asked
      (Called _ _ _ _ _
      (Called _ _ _ _ _
      (Called _ _ _ _ _
      (Called _ _ _ _ _ first-recorded
      (none-held before_meanwhile _ (λ l. refl)))
      (not-asking _ _ refl))
      (not-asking _ _ refl))
      (not-asking _ _ refl))
      (has-chain 2 before_last _ 4 refl refl legal refl refl refl)
      known,
)
