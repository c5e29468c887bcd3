-- An answer keeps the sets, and after it each pair of the request is told.
use Rattle.std.proofs.Common.{◌≡◌, ℕ, Bool, true, false, not, ◌&&◌, ◌||◌, cond, eqb, List, [], ◌∷◌}
use Rattle.std.proofs.Common.{map, length, get_or, refl, ap, sym, ◌∙◌, subst, inl, ⊎_elim, arith}
use Rattle.std.proofs.lemmas.Bool.{and_parts, false≢true, eqb-true}
use Rattle.std.proofs.lemmas.List.{get_or_at, length-map}
use Rattle.wit_condensed.specs.declared.chain.Asked.{Asked}
use Rattle.wit_condensed.specs.declared.chain.Link.{Link}
use Rattle.wit_condensed.specs.declared.condensed.Condensed.{Condensed}
use Rattle.wit_condensed.specs.declared.lines.Kind.{Kind}
use Rattle.wit_condensed.specs.declared.lines.Kind.TheVariants.{AskedAndGot, Tried, Asks}
use Rattle.wit_condensed.specs.Asking.{is_known, is_written, has_pairs, is_pair, is_lone_pair}
use Rattle.wit_condensed.specs.Asking.{is_wanted}
use Rattle.wit_condensed.specs.Chains.{has_lock, has_type, is_alone}
use Rattle.wit_condensed.specs.Lines.{kind_number, line_of, link_lines, request_lines}
use Rattle.wit_condensed.specs.Rows.{has_pair}
use Rattle.wit_model.specs.declared.calls.Entry.{Entry}
use Rattle.wit_model.specs.Rules.Beginnings.{IsBeginning}
use Rattle.wit_model.specs.Rules.History.{is_held}
use Rattle.wit_model.specs.Rules.Locks.{locks_of, lock_of}
use Rattle.wit_model.specs.Rules.State.{Start}
use Rattle.wit_model.specs.Rules.Step.{IsLegal}
use Rattle.wit_model.proofs.Chains.Sane.{IsSane}
use Rattle.wit_model.proofs.Histories.Legal.{sane_legal}
use Rattle.wit_recordings.specs.Recordings.{NamedType, named_type, TellsOf, HasRequest, chain_types}
use Rattle.wit_recordings.proofs.Behind.{or_split}
use Rattle.wit_recordings.proofs.Covered.{beginning-covered}
use Rattle.wit_duty.specs.Streams.{AreTyped}
use Rattle.wit_duty.specs.Streams.{IsKept, IsEmpty, IsChain, IsOfType, IsAsking, WritesLine, Writes}
use Rattle.wit_duty.specs.Streams.{locks_with, IsAnswered}
use Rattle.wit_duty.proofs.Alone.{request-stays, request-tells, held-one}
use Rattle.wit_duty.proofs.Links.{written-or-new, typed-same, link-of}
use Rattle.wit_duty.proofs.Links.{all-types}
use Rattle.wit_duty.proofs.Writing.{Adds, has_new, links-add, writes-parts, writes-later}
use Rattle.wit_duty.proofs.Writing.{sane-before}

-- ---- the sets

pub empty-kept : (named : ℕ → NamedType) (sets : Condensed) (g : List Entry) → IsEmpty sets
    → IsKept named sets g
empty-kept named sets g empty = record {
  told = λ a b is. absurd (false≢true (sym (empty.told a b) ∙ is));
  alone = λ a b is. absurd (false≢true (sym (empty.alone a b) ∙ is));
}

pub kept-stays : (named : ℕ → NamedType) (sets : Condensed) (g more : List Entry)
    → IsKept named sets g → IsBeginning g more → IsKept named sets more
kept-stays named sets g more kept begins = record {
  told = λ a b is. beginning-covered g more begins (named a) (named b) (kept.told a b is);
  alone = λ a b is. request-stays g more (named a ∷ []) (named b) begins (kept.alone a b is);
}

pub known-told : (named : ℕ → NamedType) (sets : Condensed) (g : List Entry) (links : List Link)
    (b : ℕ) → IsKept named sets g → is_known sets links b ≡ true
    → (a : ℕ) → has_type links a ≡ true → TellsOf g (named a) (named b)
known-told named sets g [] b kept known a is = absurd (false≢true is)
known-told named sets g (link ∷ []) b kept known a is =
    ⊎_elim
    (λ here. subst (λ x. TellsOf g (named x) (named b)) (eqb-true link.type_no a here)
    (request-tells g (named link.type_no) (named b) (kept.alone link.type_no b known)))
    (λ none. absurd (false≢true none))
    (or_split (eqb link.type_no a) false is)
known-told named sets g (link ∷ other ∷ links) b kept known a is =
    kept.told a b
    (all-types (λ x. has_pair sets.told x b) (link ∷ other ∷ links) a known is)

-- ---- the request that is written last

-- the line of a request writes it
pub asks-last : (kind : Kind) → kind_number Asks ≡ kind_number kind → (t l : ℕ) (g more : List Entry)
    → WritesLine t kind l g more → (e : Entry) × (IsAsking t l e × (more ≡ e ∷ g))
asks-last Asks is t l g more line = line
asks-last AskedAndGot is t l g more line = absurd (omega arith)
asks-last Tried is t l g more line = absurd (omega arith)

-- the stream just before the request, which its seat makes under all links
record IsAsked (named : ℕ → NamedType) (t : ℕ) (links : List Link) (asked : Asked)
    (more : List Entry) : Type 0 where
  before : List Entry
  asking : Entry
  is_asking : IsAsking t asked.lock asking
  last : more ≡ asking ∷ before
  sane : IsSane before
  held : (m : ℕ) → is_held t m before ≡ has_lock links m
  typed : AreTyped named before links
  asked_typed : IsOfType named before asked.lock asked.type_no

request-asked : (named : ℕ → NamedType) (t : ℕ) (links : List Link) (asked : Asked)
    (g more : List Entry)
    → IsChain named g t links asked → IsSane more
    → Writes t (locks_with links asked) (request_lines links) g more
    → IsAsked named t links asked more
request-asked named t links asked g more chain sane writes =
    let locks = locks_with links asked in
    let parts =
    writes-parts t locks (link_lines 0 links) (line_of (length links) Asks ∷ []) g more writes in
    let mid = parts.0 in
    let sane' : IsSane mid = sane-before mid more
    (writes-later t locks (line_of (length links) Asks ∷ []) mid more parts.1.1) sane in
    let adds : Adds t (has_new links) g mid =
    links-add t locks (asked.lock ∷ []) links 0 g mid refl sane' parts.1.0 in
    let last = parts.1.1 in
    let found = asks-last last.0 last.1.1.0 t (get_or locks (length links) 0) mid last.1.0
    last.1.1.1.0 in
    let here : get_or locks (length links) 0 ≡ asked.lock =
    get_or_at (map (λ (link : Link). link.lock) links) asked.lock [] 0 (length links)
    (length-map links (λ (link : Link). link.lock)) in
    record {
      before = mid;
      asking = found.0;
      is_asking = subst (λ l. IsAsking t l found.0) here found.1.0;
      last = last.1.1.1.1 ∙ found.1.1;
      sane = sane';
      held = λ m.
          adds.held m
          ∙ (ap (λ b. b || has_new links m) (chain.held m) ∙ written-or-new links m);
      typed = typed-same named g mid links adds.locks chain.typed;
      asked_typed =
          ap (λ ls. named_type (lock_of ls asked.lock)) adds.locks ∙ chain.asked_typed;
    }

module _ (named : ℕ → NamedType) (t : ℕ) (links : List Link) (asked : Asked) (more : List Entry)
    (is : IsAsked named t links asked more) where
  asked-unheld : has_lock links asked.lock ≡ false
      → is_held is.asking.seat.0 is.is_asking.request.lock.0 is.before ≡ false
  asked-unheld unheld =
      ap (λ s. is_held s is.is_asking.request.lock.0 is.before) is.is_asking.seat
      ∙ (ap (λ l. is_held t l is.before) is.is_asking.lock ∙ (is.held asked.lock ∙ unheld))

  asked-typed : named_type (lock_of (locks_of is.before) is.is_asking.request.lock.0)
      ≡ named asked.type_no
  asked-typed =
      ap (λ l. named_type (lock_of (locks_of is.before) l)) is.is_asking.lock ∙ is.asked_typed

asked-tells : (named : ℕ → NamedType) (t : ℕ) (links : List Link) (asked : Asked)
    (more : List Entry) → IsAsked named t links asked more → has_lock links asked.lock ≡ false
    → (a : ℕ) → has_type links a ≡ true → TellsOf more (named a) (named asked.type_no)
asked-tells named t links asked more is unheld a has =
    let link = link-of named is.before links a is.typed has in
    subst (λ x. TellsOf x (named a) (named asked.type_no)) (sym is.last)
    (inl (record {
      request = is.is_asking.request;
      asks = is.is_asking.call;
      unheld = asked-unheld named t links asked more is unheld;
      other = link.lock;
      holds =
          ap (λ s. is_held s link.lock is.before) is.is_asking.seat
          ∙ (is.held link.lock ∙ link.has);
      first = link.typed;
      second = asked-typed named t links asked more is;
    }))

-- under one link alone it is a request under that one
asked-alone : (named : ℕ → NamedType) (t : ℕ) (links : List Link) (asked : Asked)
    (more : List Entry) → IsAsked named t links asked more → has_lock links asked.lock ≡ false
    → (a : ℕ) → is_alone links a ≡ true
    → HasRequest more (named a ∷ []) (named asked.type_no)
asked-alone named t [] asked more is unheld a has = absurd (false≢true has)
asked-alone named t (link ∷ []) asked more is unheld a has =
    let just : (m : ℕ) → is_held t m is.before ≡ eqb link.lock m =
    λ m. is.held m ∙ or-none (eqb link.lock m) in
    subst (λ x. HasRequest x (named a ∷ []) (named asked.type_no)) (sym is.last)
    (inl (record {
      request = is.is_asking.request;
      asks = is.is_asking.call;
      unheld = asked-unheld named t (link ∷ []) asked more is unheld;
      first =
          ap (λ s. chain_types s is.before) is.is_asking.seat
          ∙ (ap (λ ls. map (λ l. named_type (lock_of (locks_of is.before) l)) ls)
          (held-one t link.lock is.before is.sane just)
          ∙ ap (λ x. x ∷ []) (is.typed.0 ∙ ap named (eqb-true link.type_no a has)));
      second = asked-typed named t (link ∷ []) asked more is;
    }))
  where
    or-none : (b : Bool) → (b || false) ≡ b
    or-none true = refl
    or-none false = refl
asked-alone named t (link ∷ other ∷ links) asked more is unheld a has = absurd (false≢true has)

-- ---- an answer

module _ (start : Start) (files : List (List ℕ)) (named : ℕ → NamedType) (t : ℕ)
    (old new : Condensed) (g more : List Entry) (links : List Link) (asked : Asked)
    (is : IsAnswered named t old g links asked new more) (legal : IsLegal start files more) where
  -- a pair that the sets get by this answer
  record IsNew (has : Bool) (b : ℕ) : Type 0 where
    asks : IsAsked named t links asked more
    unheld : has_lock links asked.lock ≡ false
    second : b ≡ asked.type_no
    first : has ≡ true

  written-asked : is_written old links asked is.waits is.room ≡ true
      → IsAsked named t links asked more
  written-asked is_so =
      request-asked named t links asked g more is.chain (sane_legal start files more legal)
      (subst (λ xs. Writes t (locks_with links asked) xs g more)
      (is.answers.given ∙ ap (λ b. cond b (request_lines links) []) is_so) is.written)

  later : IsBeginning g more
  later = writes-later t (locks_with links asked) is.lines g more is.written

  -- a pair that is new is one of the request
  new-pair : (has : Bool) (b : ℕ) → (is_written old links asked is.waits is.room
      && (has_pairs links asked && (eqb b asked.type_no && has))) ≡ true
      → IsNew has b
  new-pair has b all =
      let one = and_parts (is_written old links asked is.waits is.room) (has_pairs links asked
      && (eqb b asked.type_no && has)) all in
      let two = and_parts (has_pairs links asked) (eqb b asked.type_no && has) one.1 in
      let three = and_parts (eqb b asked.type_no) has two.1 in
      record {
        asks = written-asked one.0;
        unheld = not-not (has_lock links asked.lock) two.0;
        second = eqb-true b asked.type_no three.0;
        first = three.1;
      }
    where
      not-not : (b : Bool) → not b ≡ true → b ≡ false
      not-not true isnt = sym isnt
      not-not false isnt = refl

  pub answer-kept : IsKept named old g → IsKept named new more
  answer-kept kept = record {
    told = λ a b has.
        ⊎_elim
        (λ before. beginning-covered g more later (named a) (named b) (kept.told a b before))
        (λ now.
        let pair = new-pair (has_type links a) b now in
        subst (λ x. TellsOf more (named a) (named x)) (sym pair.second)
        (asked-tells named t links asked more pair.asks pair.unheld a pair.first))
        (or_split (has_pair old.told a b) (is_written old links asked is.waits is.room
        && (has_pairs links asked && is_pair links asked a b)) (sym (is.answers.told a b) ∙ has));
    alone = λ a b has.
        ⊎_elim
        (λ before. request-stays g more (named a ∷ []) (named b) later (kept.alone a b before))
        (λ now.
        let pair = new-pair (is_alone links a) b now in
        subst (λ x. HasRequest more (named a ∷ []) (named x)) (sym pair.second)
        (asked-alone named t links asked more pair.asks pair.unheld a pair.first))
        (or_split (has_pair old.alone a b) (is_written old links asked is.waits is.room
        && (has_pairs links asked && is_lone_pair links asked a b))
        (sym (is.answers.alone a b) ∙ has));
  }

  pub answer-tells : IsKept named old g → has_lock links asked.lock ≡ false
      → (a : ℕ) → has_type links a ≡ true → TellsOf more (named a) (named asked.type_no)
  answer-tells kept unheld a has =
      go (is_written old links asked is.waits is.room) refl
    where
      known : (w p k : Bool) → (w || (p && not k)) ≡ false → p ≡ true → k ≡ true
      known true p k none some = absurd (false≢true (sym none))
      known false true true none some = refl
      known false true false none some = sym none
      known false false k none some = absurd (false≢true some)

      go : (w : Bool) → is_written old links asked is.waits is.room ≡ w
          → TellsOf more (named a) (named asked.type_no)
      go true is_so = asked-tells named t links asked more (written-asked is_so) unheld a has
      go false isnt =
          beginning-covered g more later (named a) (named asked.type_no)
          (known-told named old g links asked.type_no kept
          (known is.waits (has_pairs links asked) (is_known old links asked.type_no)
          (ap (λ q. q && is_wanted old links asked is.waits) (sym is.question) ∙ isnt)
          (ap not unheld)) a has)
