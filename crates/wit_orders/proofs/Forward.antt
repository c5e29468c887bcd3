-- Where each pair is answered to go forward, all of them go forward in one sequence.
use Rattle.std.proofs.Common.{◌≡◌, ℕ, suc, ◌+◌, ◌<◌, Bool, true, false, not, cond, nat_lt, List, []}
use Rattle.std.proofs.Common.{◌∷◌, ◌++◌, length, Option, None, Some, position, unwrap_or, is_some}
use Rattle.std.proofs.Common.{refl, sym, ap, ◌∙◌, subst, inl, inr, append_assoc, length-append, arith}
use Rattle.std.specs.List.{position_or_len}
use Rattle.std.specs.Str.{bytes_eq}
use Rattle.std.proofs.lemmas.Bool.{true≢false, ltb-true}
use Rattle.wit_recordings.specs.Recordings.{NamedType}
use Rattle.wit_stream.specs.Text.{text_of}
use Rattle.wit_grammar.specs.declared.parse.TheConstants.{LONGEST}
use Rattle.wit_orders.specs.declared.answers.Flaw.TheVariants.{Long, Backward}
use Rattle.wit_orders.specs.declared.answers.Answer.{Answer}
use Rattle.wit_orders.specs.declared.answers.Answer.TheVariants.{Acyclic, Refused}
use Rattle.wit_orders.specs.declared.reading.OrderLine.{OrderLine}
use Rattle.wit_orders.specs.declared.reading.OrderLine.TheVariants.{Listed, Pair}
use Rattle.wit_orders.specs.Answers.{Seen, nothing_seen, place_in, pair_flaw, type_flaw, with_type}
use Rattle.wit_orders.specs.Answers.{with_pair, answer_unless, answer_at, answer_from}
use Rattle.wit_orders.specs.Reading.{type_text, order_line}
use Rattle.wit_orders.specs.Laws.{SaysPair, HasPair, IsAcyclic}

-- ---- a place in a sequence

position_or_len-append : {X : Type 0} (p : X → Bool) (xs ys : List X)
    → position_or_len p xs < length xs → position_or_len p (xs ++ ys) ≡ position_or_len p xs
position_or_len-append p [] ys within = absurd (omega (arith, within))
position_or_len-append p (x ∷ xs) ys within = by (p x) within (position_or_len-append p xs ys)
  where
    by : (b : Bool) → cond (not b) (1 + position_or_len p xs) 0 < suc (length xs)
        → (position_or_len p xs < length xs
        → position_or_len p (xs ++ ys) ≡ position_or_len p xs)
        → cond (not b) (1 + position_or_len p (xs ++ ys)) 0
        ≡ cond (not b) (1 + position_or_len p xs) 0
    by true within rest = refl
    by false within rest = ap (λ n. 1 + n) (rest (omega (arith, within)))

-- a place that is found is the first that passes
pub first_place : {X : Type 0} (p : X → Bool) (xs : List X) (i : ℕ) → position p xs ≡ Some i
    → (position_or_len p xs ≡ i) × (i < length xs)
first_place p xs i e = by (position_or_len p xs) (nat_lt (position_or_len p xs) (length xs)) refl e
  where
    by : (n : ℕ) (b : Bool) → nat_lt n (length xs) ≡ b → cond b (Some n) None ≡ Some i
        → (n ≡ i) × (i < length xs)
    by n true within at =
        let same : n ≡ i = ap (λ r. unwrap_or r n) at in
        (same, subst (λ k. k < length xs) same (ltb-true n (length xs) within))
    by n false within at = absurd (true≢false (sym (ap is_some at)))

pub found_place : {X : Type 0} (p : X → Bool) (xs : List X) (i : ℕ) → position_or_len p xs ≡ i
    → i < length xs → position p xs ≡ Some i
found_place p xs i is within = grind (arith, is, within)

-- it stays where more types follow
pub place-stays : (types more : List (List ℕ)) (text : List ℕ) (i : ℕ) → place_in types text ≡ Some i
    → place_in (types ++ more) text ≡ Some i
place-stays types more text i at =
    let first = first_place (bytes_eq text) types i at in
    let within : position_or_len (bytes_eq text) types < length types = omega (arith, first.0, first.1) in
    found_place (bytes_eq text) (types ++ more) i
    (position_or_len-append (bytes_eq text) types more within ∙ first.0)
    (omega (arith, first.1, length-append types more))

-- ---- pairs that go forward in a sequence

pub record Forward (types : List (List ℕ)) (a b : NamedType) : Type 0 where
  pub from : ℕ
  pub to : ℕ
  pub first : place_in types (type_text a) ≡ Some from
  pub second : place_in types (type_text b) ≡ Some to
  pub less : from < to

forward-stays : (types more : List (List ℕ)) (a b : NamedType) → Forward types a b
    → Forward (types ++ more) a b
forward-stays types more a b is = record {
  from = is.from;
  to = is.to;
  first = place-stays types more (type_text a) is.from is.first;
  second = place-stays types more (type_text b) is.to is.second;
  less = is.less;
}

-- the lines go on to a sequence in which their pairs go forward
record GoForward (types : List (List ℕ)) (lines : List (List ℕ)) : Type 0 where
  pub more : List (List ℕ)
  pub forward : (a b : NamedType) → SaysPair lines a b → Forward (types ++ more) a b

-- behind a line with no pair
behind-type : (types : List (List ℕ)) (text line : List ℕ) (lines : List (List ℕ)) (t : NamedType)
    → order_line line ≡ Some (Listed t) → GoForward (types ++ text ∷ []) lines
    → GoForward types (line ∷ lines)
behind-type types text line lines t at rest = record {
  more = text ∷ rest.more;
  forward = λ a b. by a b;
}
  where
    by : (a b : NamedType) → SaysPair (line ∷ lines) a b → Forward (types ++ text ∷ rest.more) a b
    by a b (inl now) =
        let clash : ◌≡◌ {A = Option (OrderLine NamedType)} (Some (Listed t)) (Some (Pair a b)) =
        sym at ∙ now in (cc)
    by a b (inr later) =
        subst (λ all. Forward all a b) (append_assoc types (text ∷ []) rest.more)
        (rest.forward a b later)

-- behind one with a pair that goes forward
behind-pair : (types : List (List ℕ)) (line : List ℕ) (lines : List (List ℕ)) (c d : NamedType)
    → order_line line ≡ Some (Pair c d) → Forward types c d → GoForward types lines
    → GoForward types (line ∷ lines)
behind-pair types line lines c d at is rest = record {
  more = rest.more;
  forward = λ a b. by a b;
}
  where
    by : (a b : NamedType) → SaysPair (line ∷ lines) a b → Forward (types ++ rest.more) a b
    by a b (inl now) =
        let both : ◌≡◌ {A = Option (OrderLine NamedType)} (Some (Pair c d)) (Some (Pair a b)) =
        sym at ∙ now in
        let first : c ≡ a = cc in
        let second : d ≡ b = cc in
        subst (λ x. Forward (types ++ rest.more) x b) first
        (subst (λ y. Forward (types ++ rest.more) c y) second
        (forward-stays types rest.more c d is))
    by a b (inr later) = rest.forward a b later

module _ (types pairs : ℕ) where
  abbrev Ends : Answer → Type 0
  Ends a = a ≡ Acyclic types pairs

  module _ (s : Seen) (n : ℕ) (line : List ℕ) (lines : List (List ℕ)) (tail : List ℕ) where
    abbrev Rest : Type 0
    Rest = (next : Seen) → Ends (answer_from next (n + 1) lines tail) → GoForward next.types lines

    listed : (t : NamedType) → order_line line ≡ Some (Listed t) → (place : Option ℕ)
        → Ends (answer_unless (type_flaw place) n
        (answer_from (with_type s (type_text t)) (n + 1) lines tail))
        → Rest → GoForward s.types (line ∷ lines)
    listed t at None is rest =
        behind-type s.types (type_text t) line lines t at (rest (with_type s (type_text t)) is)
    listed t at (Some k) is rest = (cc)

    ordered : (a b : NamedType) → order_line line ≡ Some (Pair a b) → (k l : ℕ)
        → place_in s.types (type_text a) ≡ Some k → place_in s.types (type_text b) ≡ Some l
        → (less : Bool) → nat_lt k l ≡ less
        → Ends (answer_unless (cond less None (Some Backward)) n
        (answer_from (with_pair s) (n + 1) lines tail))
        → Rest → GoForward s.types (line ∷ lines)
    ordered a b at k l first second true less is rest =
        behind-pair s.types line lines a b at
        (record { from = k; to = l; first = first; second = second; less = ltb-true k l less })
        (rest (with_pair s) is)
    ordered a b at k l first second false less is rest = (cc)

    paired : (a b : NamedType) → order_line line ≡ Some (Pair a b) → (first second : Option ℕ)
        → place_in s.types (type_text a) ≡ first → place_in s.types (type_text b) ≡ second
        → Ends (answer_unless (pair_flaw first second) n
        (answer_from (with_pair s) (n + 1) lines tail))
        → Rest → GoForward s.types (line ∷ lines)
    paired a b at (Some k) (Some l) first second is rest =
        ordered a b at k l first second (nat_lt k l) refl is rest
    paired a b at (Some k) None first second is rest = (cc)
    paired a b at None second first' second' is rest = (cc)

    by : (long : Bool) (read : Option (OrderLine NamedType)) → order_line line ≡ read
        → Ends (cond long (Refused n Long)
        (answer_at s n read (λ next. answer_from next (n + 1) lines tail)))
        → Rest → GoForward s.types (line ∷ lines)
    by true read at is rest = (cc)
    by false None at is rest = (cc)
    by false (Some (Listed t)) at is rest =
        listed t at (place_in s.types (type_text t)) is rest
    by false (Some (Pair a b)) at is rest =
        paired a b at (place_in s.types (type_text a)) (place_in s.types (type_text b)) refl refl
        is rest

  go-forward : (s : Seen) (n : ℕ) (lines : List (List ℕ)) (tail : List ℕ)
      → Ends (answer_from s n lines tail) → GoForward s.types lines
  go-forward s n [] tail is = record { more = []; forward = λ a b says. absurd says }
  go-forward s n (line ∷ lines) tail is =
      by s n line lines tail (nat_lt LONGEST (length line)) (order_line line) refl is
      (λ next. go-forward next (n + 1) lines tail)

-- ---- the rank of a type, which rises along each pair

pub record Rises (input : List ℕ) : Type 0 where
  pub rank : NamedType → ℕ
  pub rising : (a b : NamedType) → HasPair input a b → rank a < rank b

pub acyclic-rises : (input : List ℕ) → IsAcyclic input → Rises input
acyclic-rises input is =
    let all =
    go-forward is.types is.pairs nothing_seen 1 (text_of input).lines (text_of input).tail is.answered
    in
    record {
      rank = λ t. unwrap_or (place_in all.more (type_text t)) 0;
      rising = λ a b has.
          let goes = all.forward a b has in
          let first = ap (λ p. unwrap_or p 0) goes.first in
          let second = ap (λ p. unwrap_or p 0) goes.second in
          omega (arith, first, second, goes.less);
    }
