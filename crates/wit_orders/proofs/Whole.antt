-- Where each pair is answered to go forward, nothing of the input was passed over.
use Rattle.std.proofs.Common.{◌≡◌, ℕ, ◌+◌, Bool, true, false, cond, nat_lt, List, [], ◌∷◌}
use Rattle.std.proofs.Common.{length, Option, None, Some, is_some, refl, ap, ◌∙◌, ◌&&◌, arith}
use Rattle.std.proofs.Common.{length-append}
use Rattle.std.specs.List.{list_all}
use Rattle.wit_recordings.specs.Recordings.{NamedType}
use Rattle.wit_grammar.specs.declared.parse.TheConstants.{LONGEST}
use Rattle.wit_orders.specs.declared.answers.Flaw.TheVariants.{Long, Backward}
use Rattle.wit_orders.specs.declared.answers.Answer.{Answer}
use Rattle.wit_orders.specs.declared.answers.Answer.TheVariants.{Acyclic, Refused}
use Rattle.wit_orders.specs.declared.reading.OrderLine.{OrderLine}
use Rattle.wit_orders.specs.declared.reading.OrderLine.TheVariants.{Listed, Pair}
use Rattle.wit_orders.specs.Answers.{Seen, place_in, pair_flaw, type_flaw, with_type, with_pair}
use Rattle.wit_orders.specs.Answers.{answer_unless, answer_at, answer_from}
use Rattle.wit_orders.specs.Reading.{type_text, order_line}

abbrev is_said : List ℕ → Bool
is_said line = is_some (order_line line)

pub record AllSaid (s : Seen) (lines : List (List ℕ)) (tail : List ℕ) (types pairs : ℕ) : Type 0 where
  pub whole : tail ≡ []
  pub said : list_all is_said lines ≡ true
  pub counted : types + pairs ≡ length s.types + s.pairs + length lines

-- behind a line that says something
behind : (s next : Seen) (line : List ℕ) (lines : List (List ℕ)) (tail : List ℕ) (types pairs : ℕ)
    → is_said line ≡ true → length next.types + next.pairs ≡ length s.types + s.pairs + 1
    → AllSaid next lines tail types pairs → AllSaid s (line ∷ lines) tail types pairs
behind s next line lines tail types pairs is more rest = record {
  whole = rest.whole;
  said = ap (λ b. b && list_all is_said lines) is ∙ rest.said;
  counted = omega (arith, rest.counted, more);
}

module _ (types pairs : ℕ) where
  abbrev Ends : Answer → Type 0
  Ends a = a ≡ Acyclic types pairs

  module _ (s : Seen) (n : ℕ) (line : List ℕ) (lines : List (List ℕ)) (tail : List ℕ) where
    abbrev Rest : Type 0
    Rest = (next : Seen) → Ends (answer_from next (n + 1) lines tail)
        → AllSaid next lines tail types pairs

    on : (said : OrderLine NamedType) → order_line line ≡ Some said → (next : Seen)
        → length next.types + next.pairs ≡ length s.types + s.pairs + 1
        → AllSaid next lines tail types pairs → AllSaid s (line ∷ lines) tail types pairs
    on said at next more rest =
        behind s next line lines tail types pairs (ap is_some at) more rest

    listed : (t : NamedType) → order_line line ≡ Some (Listed t) → (place : Option ℕ)
        → Ends (answer_unless (type_flaw place) n
        (answer_from (with_type s (type_text t)) (n + 1) lines tail))
        → Rest → AllSaid s (line ∷ lines) tail types pairs
    listed t at None is rest =
        on (Listed t) at (with_type s (type_text t))
        (omega (arith, length-append s.types (type_text t ∷ [])))
        (rest (with_type s (type_text t)) is)
    listed t at (Some k) is rest = (cc)

    ordered : (a b : NamedType) → order_line line ≡ Some (Pair a b) → (less : Bool)
        → Ends (answer_unless (cond less None (Some Backward)) n
        (answer_from (with_pair s) (n + 1) lines tail))
        → Rest → AllSaid s (line ∷ lines) tail types pairs
    ordered a b at true is rest =
        on (Pair a b) at (with_pair s) (omega arith) (rest (with_pair s) is)
    ordered a b at false is rest = (cc)

    paired : (a b : NamedType) → order_line line ≡ Some (Pair a b) → (first second : Option ℕ)
        → Ends (answer_unless (pair_flaw first second) n
        (answer_from (with_pair s) (n + 1) lines tail))
        → Rest → AllSaid s (line ∷ lines) tail types pairs
    paired a b at (Some k) (Some l) is rest = ordered a b at (nat_lt k l) is rest
    paired a b at (Some k) None is rest = (cc)
    paired a b at None second is rest = (cc)

    by : (long : Bool) (read : Option (OrderLine NamedType)) → order_line line ≡ read
        → Ends (cond long (Refused n Long)
        (answer_at s n read (λ next. answer_from next (n + 1) lines tail)))
        → Rest → AllSaid s (line ∷ lines) tail types pairs
    by true read at is rest = (cc)
    by false None at is rest = (cc)
    by false (Some (Listed t)) at is rest =
        listed t at (place_in s.types (type_text t)) is rest
    by false (Some (Pair a b)) at is rest =
        paired a b at (place_in s.types (type_text a)) (place_in s.types (type_text b)) is rest

  pub all-said : (s : Seen) (n : ℕ) (lines : List (List ℕ)) (tail : List ℕ)
      → Ends (answer_from s n lines tail) → AllSaid s lines tail types pairs
  all-said s n [] [] is =
      let first : types ≡ length s.types = cc in
      let second : pairs ≡ s.pairs = cc in
      record { whole = refl; said = refl; counted = omega (arith, first, second) }
  all-said s n [] (b ∷ tail) is = (cc)
  all-said s n (line ∷ lines) tail is =
      by s n line lines tail (nat_lt LONGEST (length line)) (order_line line) refl is
      (λ next. all-said next (n + 1) lines tail)
