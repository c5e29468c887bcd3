-- Steps on a gate's word keep it the sum of the claims.
use Rattle.std.proofs.Common.{◌≡◌, ℕ, ◌+◌, ◌≤◌, ◌<◌, ◌%◌, Bool, eqb, eq-eqb, ne_eqb, MatchBool}
use Rattle.std.proofs.Common.{List, [], ◌∷◌, ◌++◌, set, sym, refl, ap, subst, arith}
use Rattle.std.proofs.lemmas.List.Sums.{sum_by_push}
use Rattle.std.specs.Prelude.{slice_index}
use mathlib.Core.Option.{some}
use native.Mathlib.Decide.{ℕ_discrete}
use lib.ListN.{get_elem?}
use prog.Atomic.{either}
use Rattle.atomic_table.specs.Table.{State, Act, keeps, Valid, stepped, carried_after, Allows}
use Rattle.atomic_table.specs.Table.{Enters, Joins, Splits}
use Rattle.wit_model.specs.declared.locks.Mode.{Mode}
use Rattle.wit_model.specs.declared.locks.Mode.TheVariants.{Shared, Exclusive}
use Rattle.wit_model.specs.Gates.{most_shares, exclusive_word, AddsUp}
use Rattle.wit_model.proofs.Gates.{adds_up, from_sum}
use Rattle.wit_gates.specs.declared.claim.Claim.{Claim}
use Rattle.wit_gates.specs.Claims.{claim, nothing, unmatched, share_met, claim_of, mode_of, gone}
use Rattle.wit_gates.specs.Claims.{both_claims, less_one}
use Rattle.wit_gates.specs.Claims.{shares_claimed, exclusives_claimed, IsCounted}
use Rattle.wit_gates.specs.Plays.{Stand}
use Rattle.wit_gates.proofs.Sums.{sum-set, part-le-sum}

abbrev Board : Type 0
Board = State (Unit {0}) Claim

abbrev pub Rule : Board → Type 0
Rule s = IsCounted s.words s.views

-- a seat with this claim, which has no slot
abbrev pub claims : Claim → Stand
claims c = (c, [])

abbrev pub Is : Stand → Stand → Type 0
Is a b = a ≡ b

-- where one claim turns into another, the word has to turn so
abbrev pub Turns : Claim → Claim → ℕ → ℕ → Type 0
Turns c d before after =
    (s e s' e' : ℕ) → s' + c.shares ≡ s + d.shares → e' + c.exclusives ≡ e + d.exclusives
    → c.shares ≤ s → c.exclusives ≤ e
    → AddsUp before s e → AddsUp after s' e'

moved : (words : List ℕ) (all : List Claim) (id : ℕ) (c d : Claim) (after : ℕ)
    → get_elem? all id ≡ some c → Turns c d (slice_index words 0) after → IsCounted words all
    → IsCounted (set words 0 after) (set all id d)
moved words all id c d after there turns (word, only, fits) =
    subst (λ (ws : List ℕ). Turns c d (slice_index ws 0) after
    → IsCounted (set ws 0 after) (set all id d)) (sym only)
    (λ turns. (
      after,
      refl,
      from_sum after (shares_claimed (set all id d)) (exclusives_claimed (set all id d))
          (turns (shares_claimed all) (exclusives_claimed all) (shares_claimed (set all id d))
          (exclusives_claimed (set all id d))
          (sum-set (λ (c : Claim). c.shares) all id c d there)
          (sum-set (λ (c : Claim). c.exclusives) all id c d there)
          (part-le-sum (λ (c : Claim). c.shares) all id c there)
          (part-le-sum (λ (c : Claim). c.exclusives) all id c there)
          (adds_up word (shares_claimed all) (exclusives_claimed all) fits)),
    ))
    turns

same_sums : (words : List ℕ) (all others : List Claim) → shares_claimed others ≡ shares_claimed all
    → exclusives_claimed others ≡ exclusives_claimed all → IsCounted words all
    → IsCounted words others
same_sums words all others s e (word, only, fits) = let sum =
    adds_up word (shares_claimed all) (exclusives_claimed all) fits in
    (word, only, from_sum word (shares_claimed others) (exclusives_claimed others) (omega arith))

-- a step that writes whatever it finds
pub sets : (slots id : ℕ) (me : Stand) (c d : Claim) (f : ℕ → ℕ) → Is me (claims c)
    → ((n : ℕ) → Turns c d n (f n)) → Allows Rule slots id me 0 f (λ n m. Is m (claims d))
sets slots id me c d f is turns =
    subst (λ (me : Stand). Allows Rule slots id me 0 f (λ n m. Is m (claims d))) (sym is)
    (λ s rule sized there fits. (
      d,
      keeps,
      tt,
      moved s.words s.views id c d
          (f (slice_index s.words 0)) there (turns (slice_index s.words 0)) rule,
      refl,
    ))

-- a step that writes whatever it finds, of who has this ticket
pub leaves : (slots id : ℕ) (me : Stand) (mode : Mode) (f : ℕ → ℕ) → Is me (claims (claim_of mode))
    → ((n : ℕ) → Turns (claim_of mode) (gone mode) n (f n))
    → Allows Rule slots id me 0 f (λ n m. Is me (claims (claim_of mode)) × Is m (claims (gone mode)))
leaves slots id me mode f is turns =
    subst (λ (me : Stand). Allows Rule slots id me 0 f
    (λ n m. Is me (claims (claim_of mode)) × Is m (claims (gone mode)))) (sym is)
    (λ s rule sized there fits. (
      gone mode,
      keeps,
      tt,
      moved s.words s.views id (claim_of mode) (gone mode)
          (f (slice_index s.words 0)) there (turns (slice_index s.words 0)) rule,
      (refl, refl),
    ))

stays : (c : Claim) (n : ℕ) → Turns c c n n
stays c n s e s' e' p q l m g = omega arith

-- what was met is no claim
pub idles : (met n : ℕ) → Turns (unmatched met) (unmatched n) n n
idles met n s e s' e' p q l m g = omega arith

pub keeps_share : (n : ℕ) → Turns (claim 1 0) (share_met n) n n
keeps_share n s e s' e' p q l m g = omega arith

-- what a step that may change the word comes to, where the test of what it found is this: a claim d
-- where it is yes, and else e
abbrev Came : Board → ℕ → Claim → Claim → ℕ → Bool → Type 0
Came s id d e new found = (x : Claim) × (a : Act (Unit {0})) × Valid s.homes [] a
    × Rule (stepped s 0 (either found new (slice_index s.words 0)) id [] x a)
    × MatchBool found (Is (x, carried_after [] a) (claims d))
    (Is (x, carried_after [] a) (claims e))

came : (s : Board) (id : ℕ) (c d e : Claim) (old new : ℕ) → Turns c d old new
    → Turns c e (slice_index s.words 0) (slice_index s.words 0) → Rule s
    → get_elem? s.views id ≡ some c → Dec (slice_index s.words 0 ≡ old)
    → Came s id d e new (eqb (slice_index s.words 0) old)
came s id c d e old new turns rests rule there (yes same) =
    subst (Came s id d e new) (sym (eq-eqb (slice_index s.words 0) old same)) (
      d,
      keeps,
      tt,
      moved s.words s.views id c d new there
          (subst (λ (n : ℕ). Turns c d n new) (sym same) turns) rule,
      refl,
    )
came s id c d e old new turns rests rule there (no other) =
    subst (Came s id d e new) (sym (ne_eqb (slice_index s.words 0) old other)) (
      e,
      keeps,
      tt,
      moved s.words s.views id c e (slice_index s.words 0) there rests rule,
      refl,
    )

-- a step that writes only where it finds what is expected, and else tells what it found
pub tries : (slots id old new : ℕ) (me : Stand) (c d : Claim) (e : ℕ → Claim) → Is me (claims c)
    → Turns c d old new → ((n : ℕ) → Turns c (e n) n n)
    → Allows Rule slots id me 0 (λ n. either (eqb n old) new n)
    (λ n m. MatchBool (eqb n old) (Is m (claims d)) (Is m (claims (e n))))
tries slots id old new me c d e is turns rests =
    subst (λ (me : Stand). Allows Rule slots id me 0 (λ n. either (eqb n old) new n)
    (λ n m. MatchBool (eqb n old) (Is m (claims d)) (Is m (claims (e n))))) (sym is)
    (λ s rule sized there fits. let found = slice_index s.words 0 in
    came s id c d (e found) old new turns (rests found) rule there (ℕ_discrete found old))

-- who comes claims nothing, and knows what it found
pub enters : (slots : ℕ) → Enters Rule slots 0 (λ n c. Is (claims c) (claims (unmatched n)))
enters slots s rule sized fits =
    let none = unmatched (slice_index s.words 0) in (
      none,
      same_sums s.words s.views (s.views ++ none ∷ [])
          (omega (arith, sum_by_push (λ (c : Claim). c.shares) s.views none))
          (omega (arith, sum_by_push (λ (c : Claim). c.exclusives) s.views none)) rule,
      refl,
    )

alone : (c : Claim) (word s e : ℕ) → 2 ≤ c.shares + c.exclusives → c.shares ≤ s → c.exclusives ≤ e
    → AddsUp word s e → c.exclusives ≡ 0
alone c word s e two p q sum = omega arith

-- of two claims neither is exclusive
pub looks : (slots id : ℕ) (me : Stand) (c : Claim) → Is me (claims c) → 2 ≤ c.shares + c.exclusives
    → Allows Rule slots id me 0 (λ n. n) (λ n m. Is m me × (me.0.exclusives ≡ 0))
looks slots id me c is two =
    subst (λ (me : Stand). Allows Rule slots id me 0 (λ n. n) (λ n m. Is m me
    × (me.0.exclusives ≡ 0))) (sym is)
    (λ s rule sized there fits. (
      c,
      keeps,
      tt,
      moved s.words s.views id c c (slice_index s.words 0) there
          (stays c (slice_index s.words 0)) rule,
      (
        refl,
        alone c rule.0 (shares_claimed s.views) (exclusives_claimed s.views) two
            (part-le-sum (λ (c : Claim). c.shares) s.views id c there)
            (part-le-sum (λ (c : Claim). c.exclusives) s.views id c there)
            (adds_up rule.0 (shares_claimed s.views) (exclusives_claimed s.views) rule.2),
      ),
    ))

-- two claims become one
pub joins : (id other : ℕ) (c d : Claim) → Joins Rule id c other d (both_claims c d) nothing
joins id other c d s rule there apart second =
    let one = set s.views id (both_claims c d) in
    same_sums s.words s.views (set one other nothing)
    (omega (
      arith,
      sum-set (λ (c : Claim). c.shares) s.views id c (both_claims c d) there,
      sum-set (λ (c : Claim). c.shares) one other d nothing second,
    ))
    (omega (
      arith,
      sum-set (λ (c : Claim). c.exclusives) s.views id c (both_claims c d) there,
      sum-set (λ (c : Claim). c.exclusives) one other d nothing second,
    ))
    rule

-- a share is taken off a claim that has one
pub splits : (id : ℕ) (c : Claim) → 1 ≤ c.shares → Splits Rule id c (claim 1 0) (less_one c)
splits id c shared s rule there =
    let left = set s.views id (claim 1 0) in
    same_sums s.words s.views (left ++ less_one c ∷ [])
    (omega (
      arith,
      sum-set (λ (c : Claim). c.shares) s.views id c (claim 1 0) there,
      sum_by_push (λ (c : Claim). c.shares) left (less_one c),
    ))
    (omega (
      arith,
      sum-set (λ (c : Claim). c.exclusives) s.views id c (claim 1 0) there,
      sum_by_push (λ (c : Claim). c.exclusives) left (less_one c),
    ))
    rule

tells_at : (id met : ℕ) → Splits Rule id (share_met met) (claim 1 0) (unmatched met)
tells_at id met s rule there =
    let left = set s.views id (claim 1 0) in
    same_sums s.words s.views (left ++ unmatched met ∷ [])
    (omega (
      arith,
      sum-set (λ (c : Claim). c.shares) s.views id (share_met met) (claim 1 0) there,
      sum_by_push (λ (c : Claim). c.shares) left (unmatched met),
    ))
    (omega (
      arith,
      sum-set (λ (c : Claim). c.exclusives) s.views id (share_met met) (claim 1 0) there,
      sum_by_push (λ (c : Claim). c.exclusives) left (unmatched met),
    ))
    rule

-- what was met is taken off a share
pub tells : (id met : ℕ) (me : Stand) → Is me (claims (share_met met))
    → Splits Rule id me.0 (claim 1 0) (unmatched me.0.met)
tells id met me is =
    subst (λ (me : Stand). Splits Rule id me.0 (claim 1 0) (unmatched me.0.met)) (sym is)
    (tells_at id met)

-- one more shares
pub one_more : (met n : ℕ) → n < most_shares → Turns (unmatched met) (claim 1 0) n (n + 1)
one_more met n few s e s' e' p q l m sum = omega arith

-- of nobody's gate one has all
pub takes_all : (met : ℕ) → Turns (unmatched met) (claim 0 1) 0 exclusive_word
takes_all met s e s' e' p q l m sum = omega arith

-- one shares no more
pub one_less : (n : ℕ) → Turns (claim 1 0) (gone Shared) n
    ((n + 18446744073709551615) % 18446744073709551616)
one_less n s e s' e' p q l m sum = omega arith

-- who has all gives it back
pub gives_all : (n : ℕ) → Turns (claim 0 1) (gone Exclusive) n 0
gives_all n s e s' e' p q l m sum = omega arith

-- the only one that shares has all
pub goes_up : Turns (claim 1 0) (claim 0 1) 1 exclusive_word
goes_up s e s' e' p q l m sum = omega arith

-- who has all shares
pub goes_down : (n : ℕ) → Turns (claim 0 1) (claim 1 0) n 1
goes_down n s e s' e' p q l m sum = omega arith

-- where a ticket stands, by its mode
pub stands : (me : Stand) (mode : Mode) → Is me (claims (claim_of (mode_of me.0)))
    → mode_of me.0 ≡ mode → Is me (claims (claim_of mode))
stands me mode is e = subst (λ m. Is me (claims (claim_of m))) e is

weighs_one : (mode : Mode) → (claim_of mode).shares + (claim_of mode).exclusives ≡ 1
weighs_one Shared = refl
weighs_one Exclusive = refl

-- two tickets claim two things
pub weigh_two : (c d : Claim) (m n : Mode) → c ≡ claim_of m → d ≡ claim_of n
    → 2 ≤ (both_claims c d).shares + (both_claims c d).exclusives
weigh_two c d m n p q =
    omega (
      arith,
      weighs_one m,
      weighs_one n,
      ap (λ (c : Claim). c.shares + c.exclusives) p,
      ap (λ (c : Claim). c.shares + c.exclusives) q,
    )

-- two things of which none is exclusive are shares
pub some_shares : (c d after : Claim) (m n : Mode) → c ≡ claim_of m → d ≡ claim_of n
    → after ≡ both_claims c d → after.exclusives ≡ 0 → 1 ≤ after.shares
some_shares c d after m n p q e none =
    omega (
      arith,
      weigh_two c d m n p q,
      ap (λ (c : Claim). c.shares) e,
      ap (λ (c : Claim). c.exclusives) e,
    )
