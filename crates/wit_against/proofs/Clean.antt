-- Where nothing is told of an input its orders have no circle, and threads that keep to them don't
-- deadlock.
use Rattle.std.proofs.Common.{◌≡◌, ℕ, ◌+◌, Bool, true, false, nat_lt, List, [], ◌∷◌, ◌++◌, length}
use Rattle.std.proofs.Common.{Option, None, Some, is_some, unwrap_or, refl, sym, ap, ◌∙◌, subst, inl, inr}
use Rattle.std.proofs.lemmas.Bool.{true≢false}
use Rattle.std.proofs.lemmas.List.{nil_from_length}
use Rattle.wit_model.specs.World.Deeds.{Deed}
use Rattle.wit_model.specs.World.Waiting.{IsDeadlock}
use Rattle.wit_grammar.specs.declared.parse.TheConstants.{LONGEST}
use Rattle.wit_recordings.specs.Recordings.{AllAskWithin, GoAsInRuns, NamedType}
use Rattle.wit_recordings.proofs.Reordered.{told-played}
use Rattle.wit_recordings.proofs.Told.{circle-leads}
use Rattle.wit_stream.specs.declared.summary.Summary.{Summary}
use Rattle.wit_stream.specs.Text.{text_of}
use Rattle.wit_circles.specs.declared.orders.Order.{Order}
use Rattle.wit_circles.specs.Laws.{HaveNoCircle}
use Rattle.wit_circles.specs.Orders.{Has, IsWay, Judged, Told}
use Rattle.wit_circles.proofs.Parted.{nothing-free}
use Rattle.wit_circles.proofs.Ways.{way-joined}
use Rattle.wit_orders.specs.declared.reading.OrderLine.{OrderLine}
use Rattle.wit_orders.specs.declared.reading.OrderLine.TheVariants.{Listed, Pair}
use Rattle.wit_orders.specs.Answers.{place_in}
use Rattle.wit_orders.specs.Laws.{HasPair, OrdersLead, OrdersLeadRoundToNone, SaysPair}
use Rattle.wit_orders.specs.Reading.{order_line, type_text}
use Rattle.wit_against.specs.Known.{Known, nothing_known, number_of, with_order, with_type}
use Rattle.wit_against.specs.Laws.{IsClean}
use Rattle.wit_against.specs.Outputs.{AfterLine, AfterRead, AtEnd, JudgesLines, Refuses, Tells}
use Rattle.wit_against.proofs.Places.{bytes_eq-refl, new-has, new-stays, new-types, placed, still}

-- the number of a type among those that are known
abbrev number : Known → NamedType → ℕ
number k t = unwrap_or (place_in k.types (type_text t)) 0

-- what was known stays so up to the last, which knows the pairs of these lines, too; it is told
record ComesTo (k : Known) (lines : List (List ℕ)) (text : List ℕ) (summary : Summary) : Type 0 where
  pub last : Known
  pub tells : Tells last text summary
  pub places : (t : List ℕ) (i : ℕ) → place_in k.types t ≡ Some i → place_in last.types t ≡ Some i
  pub orders : (a b : ℕ) → Has k.orders a b → Has last.orders a b
  pub said : (a b : NamedType) → SaysPair lines a b → Has last.orders (number last a) (number last b)

module _ (k : Known) (n : ℕ) (line : List ℕ) (lines : List (List ℕ)) (text : List ℕ)
    (summary : Summary) (c d : NamedType) (is : order_line line ≡ Some (Pair c d)) where
  abbrev first : List (List ℕ)
  first = with_type k.types (type_text c)

  abbrev both : Known
  both = record k { types = with_type first (type_text d) }

  abbrev order : Order
  order = record { from = number_of k.types (type_text c); to = number_of first (type_text d) }

  abbrev next : Known
  next = with_order k (type_text c) (type_text d) line

  from-place : place_in next.types (type_text c) ≡ Some order.from
  from-place =
      ap (λ types. place_in types (type_text c)) (new-types both order line)
      ∙ still first (type_text d) (type_text c) order.from
      (placed k.types (type_text c) (bytes_eq-refl (type_text c)))

  to-place : place_in next.types (type_text d) ≡ Some order.to
  to-place =
      ap (λ types. place_in types (type_text d)) (new-types both order line)
      ∙ placed first (type_text d) (bytes_eq-refl (type_text d))

  after-pair : ComesTo next lines text summary → ComesTo k (line ∷ lines) text summary
  after-pair rest = record {
    last = rest.last;
    tells = rest.tells;
    places = λ t i at. rest.places t i
        (ap (λ types. place_in types t) (new-types both order line)
        ∙ still first (type_text d) t i (still k.types (type_text c) t i at));
    orders = λ a b has. rest.orders a b (new-stays both order line a b has);
    said = λ a b says. by a b says;
  }
    where
      own : Has rest.last.orders (number rest.last c) (number rest.last d)
      own =
          subst (λ x. Has rest.last.orders x (number rest.last d))
          (sym (ap (λ p. unwrap_or p 0) (rest.places (type_text c) order.from from-place)))
          (subst (λ x. Has rest.last.orders order.from x)
          (sym (ap (λ p. unwrap_or p 0) (rest.places (type_text d) order.to to-place)))
          (rest.orders order.from order.to (new-has both order line)))

      by : (a b : NamedType) → SaysPair (line ∷ lines) a b
          → Has rest.last.orders (number rest.last a) (number rest.last b)
      by a b (inl now) =
          let pairs : ◌≡◌ {A = Option (OrderLine NamedType)} (Some (Pair c d)) (Some (Pair a b)) =
          sym is ∙ now in
          let one : c ≡ a = cc in
          let two : d ≡ b = cc in
          subst (λ x. Has rest.last.orders (number rest.last x) (number rest.last b)) one
          (subst (λ y. Has rest.last.orders (number rest.last c) (number rest.last y)) two own)
      by a b (inr later) = rest.said a b later

-- a refusal has a bad line
refuses-none : {n : ℕ} {cause : _} {text : List ℕ} {summary : Summary} → Refuses n cause text summary
    → summary.bad ≡ None → ⊥
refuses-none refuses whole =
    true≢false (ap is_some (ap (λ (s : Summary). s.bad) (sym refuses.summed) ∙ whole))

module _ (n : ℕ) (tail text : List ℕ) (summary : Summary) (whole : summary.bad ≡ None) where
  by-read : (k : Known) (line : List ℕ) (lines : List (List ℕ)) (read : Option (OrderLine NamedType))
      → order_line line ≡ read
      → AfterRead k n line read (λ next. JudgesLines next (n + 1) lines tail) text summary
      → ((next : Known) → JudgesLines next (n + 1) lines tail text summary
      → ComesTo next lines text summary)
      → ComesTo k (line ∷ lines) text summary
  by-read k line lines None is after rest = absurd (refuses-none after whole)
  by-read k line lines (Some (Listed t)) is after rest = absurd (refuses-none after whole)
  by-read k line lines (Some (Pair c d)) is after rest =
      after-pair k n line lines text summary c d is
      (rest (with_order k (type_text c) (type_text d) line) after)

  by-line : (k : Known) (line : List ℕ) (lines : List (List ℕ)) (long : Bool)
      → AfterLine k n long line (λ next. JudgesLines next (n + 1) lines tail) text summary
      → ((next : Known) → JudgesLines next (n + 1) lines tail text summary
      → ComesTo next lines text summary)
      → ComesTo k (line ∷ lines) text summary
  by-line k line lines true after rest = absurd (refuses-none after whole)
  by-line k line lines false after rest = by-read k line lines (order_line line) refl after rest

  by-end : (k : Known) (tail : List ℕ) → AtEnd k n tail text summary → ComesTo k [] text summary
  by-end k [] tells = record {
    last = k;
    tells = tells;
    places = λ t i at. at;
    orders = λ a b has. has;
    said = λ a b says. absurd says;
  }
  by-end k (b ∷ tail) refuses = absurd (refuses-none refuses whole)

comes-to : (lines : List (List ℕ)) (k : Known) (n : ℕ) (tail text : List ℕ) (summary : Summary)
    → summary.bad ≡ None → JudgesLines k n lines tail text summary → ComesTo k lines text summary
comes-to [] k n tail text summary whole judges = by-end n tail text summary whole k tail judges
comes-to (line ∷ lines) k n tail text summary whole judges =
    by-line n tail text summary whole k line lines (nat_lt LONGEST (length line)) judges
    (λ next. comes-to lines next (n + 1) tail text summary whole)

-- ---- a clean input

record Free (input : List ℕ) : Type 0 where
  pub orders : List Order
  pub rank : NamedType → ℕ
  pub has : (a b : NamedType) → HasPair input a b → Has orders (rank a) (rank b)
  pub free : HaveNoCircle orders

clean-free : (input : List ℕ) → IsClean input → Free input
clean-free input is =
    let all =
    comes-to (text_of input).lines nothing_known 1 (text_of input).tail is.text is.summary is.whole
    is.judged in
    let few : length all.tells.told ≡ 0 =
    sym (ap (λ (s : Summary). s.reports) all.tells.summed) ∙ is.silent in
    let nothing : all.tells.told ≡ [] = nil_from_length all.tells.told few in
    record {
      orders = all.last.orders;
      rank = number all.last;
      has = all.said;
      free =
          nothing-free all.last.orders
          (subst (λ (t : Told). Judged [] all.last.orders t) nothing all.tells.judged);
    }

module _ (input : List ℕ) (free : Free input) where
  -- a way of one order at least
  abbrev Leads : NamedType → NamedType → Type 0
  Leads a b = (c : ℕ) × ((way : List ℕ) × IsWay free.orders (free.rank a) (c ∷ way) (free.rank b))

  one : (a b : NamedType) → HasPair input a b → Leads a b
  one a b has = (free.rank b, ([], (free.has a b has, refl)))

  two : (a b c : NamedType) → Leads a b → Leads b c → Leads a c
  two a b c first second = (
    first.0,
    (
      first.1.0 ++ second.0 ∷ second.1.0,
      way-joined (Has free.orders) (free.rank a) (first.0 ∷ first.1.0) (free.rank b)
          (second.0 ∷ second.1.0) (free.rank c) first.1.1 second.1.1,
    ),
  )

  none : (a : NamedType) → Leads a a → ⊥
  none a is = free.free (free.rank a) is.0 is.1.0 is.1.1

  leads : (a : NamedType) (over : List NamedType) (b : NamedType) → OrdersLead input a over b
      → Leads a b
  leads a [] b is = one a b is
  leads a (c ∷ over) b is = two a c b (one a c is.0) (leads c over b is.1)

  deadlock : (types : ℕ → NamedType) (v : List Deed) (threads : List ℕ)
      → AllAskWithin (HasPair input) types v → IsDeadlock v threads → ⊥
  deadlock types v threads within circle =
      let back =
      circle-leads (HasPair input) Leads types v one two within threads circle in
      none back.0 back.1

pub no-circle : (input : List ℕ) → IsClean input → OrdersLeadRoundToNone input
no-circle input is a over round =
    none input (clean-free input is) a (leads input (clean-free input is) a over a round)

pub no-deadlock : (input : List ℕ) (types : ℕ → NamedType) (v : List Deed) (threads : List ℕ)
    → IsClean input → AllAskWithin (HasPair input) types v → IsDeadlock v threads → ⊥
no-deadlock input types v threads is = deadlock input (clean-free input is) types v threads

pub no-deadlock_of_runs : (input : List ℕ) (types : ℕ → NamedType) (runs : ℕ → List Deed)
    (v : List Deed) (threads : List ℕ) → IsClean input
    → ((t : ℕ) → AllAskWithin (HasPair input) types (runs t)) → GoAsInRuns runs v
    → IsDeadlock v threads → ⊥
no-deadlock_of_runs input types runs v threads is within goes circle =
    no-deadlock input types v threads is
    (told-played (HasPair input) types runs within v goes) circle
