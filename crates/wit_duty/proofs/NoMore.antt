-- An answer's lines tell of no pair but those of its request and of its links.
use Rattle.std.proofs.Common.{◌≡◌, ◌⊎◌, ℕ, ◌+◌, Bool, true, false, ◌&&◌, ◌||◌, cond, eqb, List, []}
use Rattle.std.proofs.Common.{◌∷◌, ◌++◌, map, filter, length, drop, get_or, refl, ap, sym, ◌∙◌, subst}
use Rattle.std.proofs.Common.{inl, inr, ⊎_elim, arith}
use Rattle.std.proofs.lemmas.Bool.{false≢true, eqb-true, eq-eqb}
use Rattle.std.proofs.lemmas.List.{drop-drop, get_or-drop, get_or_at, length-map}
use Rattle.std.proofs.lemmas.List.Folds.{list_any-append}
use Rattle.wit_condensed.specs.declared.chain.Asked.{Asked}
use Rattle.wit_condensed.specs.declared.chain.Link.{Link}
use Rattle.wit_condensed.specs.declared.condensed.Condensed.{Condensed}
use Rattle.wit_condensed.specs.declared.lines.Kind.{Kind}
use Rattle.wit_condensed.specs.declared.lines.Kind.TheVariants.{AskedAndGot, Tried, Asks}
use Rattle.wit_condensed.specs.Asking.{is_written}
use Rattle.wit_condensed.specs.Chains.{has_lock, has_type}
use Rattle.wit_condensed.specs.Lines.{kind_number, line_of, link_kind, link_lines, request_lines}
use Rattle.wit_model.specs.declared.calls.Call.{Call}
use Rattle.wit_model.specs.declared.calls.Call.TheVariants.{Check, Note, NoteTry}
use Rattle.wit_model.specs.declared.calls.Entry.{Entry}
use Rattle.wit_model.specs.declared.calls.Request.{Request}
use Rattle.wit_model.specs.declared.locks.LockNo.{LockNo}
use Rattle.wit_model.specs.Rules.History.{is_held}
use Rattle.wit_model.specs.Rules.Locks.{locks_of, lock_of}
use Rattle.wit_model.specs.Rules.State.{Start}
use Rattle.wit_model.specs.Rules.Step.{IsLegal}
use Rattle.wit_model.proofs.Chains.Sane.{IsSane}
use Rattle.wit_model.proofs.Histories.Legal.{sane_legal}
use Rattle.wit_recordings.specs.Recordings.{NamedType, named_type, AsksWhileHolding, TellsOf}
use Rattle.wit_recordings.proofs.Behind.{or_split}
use Rattle.wit_duty.specs.Streams.{IsOfType, AreTyped, has_written, HasNamed, IsLinkPair, IsAsking}
use Rattle.wit_duty.specs.Streams.{IsGetting, IsTrying, WritesLine, Writes, locks_with, IsAnswered}
use Rattle.wit_duty.proofs.Answered.{asks-last}
use Rattle.wit_duty.proofs.Links.{typed-same, written-or-new}
use Rattle.wit_duty.proofs.Writing.{Adds, line-adds, own-kind, links-add, has_new}
use Rattle.wit_duty.proofs.Writing.{writes-parts, writes-later, sane-before}

-- ---- what one entry tells

same-request : (q r : Request) → ◌≡◌ {A = Call} (Check q) (Check r) → q ≡ r
same-request q r is = (cc)

-- the links are what the seat holds by the stream, and are of their types there
record AreHeld (named : ℕ → NamedType) (t : ℕ) (held : List Link) (x : List Entry) : Type 0 where
  just : (m : ℕ) → is_held t m x ≡ has_lock held m
  typed : AreTyped named x held

-- the type of a lock among them
named-of : (named : ℕ → NamedType) (x : List Entry) (held : List Link) (m : ℕ) (a : NamedType)
    → AreTyped named x held → has_lock held m ≡ true
    → named_type (lock_of (locks_of x) m) ≡ a → HasNamed named held a
named-of named x [] m a typed has is = absurd (false≢true has)
named-of named x (link ∷ links) m a typed has is =
    ⊎_elim
    (λ here. (
      link.type_no,
      (
        ap (λ b. b || has_type links link.type_no)
            (eq-eqb link.type_no link.type_no refl),
        sym typed.0 ∙ (ap (λ l. named_type (lock_of (locks_of x) l)) (eqb-true link.lock m here) ∙ is),
      ),
    ))
    (λ later.
    let found = named-of named x links m a typed.1 later is in
    (found.0, (or-right (eqb link.type_no found.0) (has_type links found.0) found.1.0, found.1.1)))
    (or_split (eqb link.lock m) (has_lock links m) has)
  where
    or-right : (a b : Bool) → b ≡ true → (a || b) ≡ true
    or-right true b is = refl
    or-right false b is = is

-- by a request of a seat that holds these a pair is told of one of them and the lock's type
asking-tells : (named : ℕ → NamedType) (t l type_no : ℕ) (e : Entry) (held : List Link)
    (x : List Entry) (a b : NamedType) → IsAsking t l e → AreHeld named t held x
    → IsOfType named x l type_no → AsksWhileHolding x e a b
    → HasNamed named held a × (named type_no ≡ b)
asking-tells named t l type_no e held x a b asking are typed now =
    let same : now.request ≡ asking.request =
    same-request now.request asking.request (sym now.asks ∙ asking.call) in (
      named-of named x held now.other a are.typed
          (sym (ap (λ s. is_held s now.other x) asking.seat ∙ are.just now.other) ∙ now.holds) now.first,
      sym typed
          ∙ (ap (λ k. named_type (lock_of (locks_of x) k))
          (sym (ap (λ (q : Request). q.lock.0) same ∙ asking.lock)) ∙ now.second),
    )

not-note : (l : LockNo) (q : Request) → ◌≡◌ {A = Call} (Note l) (Check q) → ⊥
not-note l q is = (cc)

getting-asks : (t l : ℕ) (e : Entry) (x : List Entry) (a b : NamedType) → IsGetting t l e
    → AsksWhileHolding x e a b → ⊥
getting-asks t l e x a b gets now =
    not-note (record { 0 = l }) now.request (sym gets.call ∙ now.asks)

trying-asks : (t l : ℕ) (e : Entry) (x : List Entry) (a b : NamedType) → IsTrying t l e
    → AsksWhileHolding x e a b → ⊥
trying-asks t l e x a b tries now = no (sym tries.call ∙ now.asks)
  where
    no : ◌≡◌ {A = Call} (NoteTry (record { 0 = l }) tries.mode tries.site) (Check now.request) → ⊥
    no is = (cc)

-- ---- what the line of a link tells

-- it was asked for, and a is of what is held
IsOwnPair : (ℕ → NamedType) → List Link → Link → NamedType → NamedType → Type 0
IsOwnPair named held link a b =
    (link.tried ≡ false) × (HasNamed named held a × (named link.type_no ≡ b))

not-tried : (tried : Bool) → kind_number (cond tried Tried AskedAndGot) ≡ kind_number AskedAndGot
    → tried ≡ false
not-tried true is = absurd (omega arith)
not-tried false is = refl

line-tells : (named : ℕ → NamedType) (t : ℕ) (kind : Kind) (link : Link) (held : List Link)
    (x next : List Entry) (a b : NamedType)
    → kind_number (link_kind link) ≡ kind_number kind → WritesLine t kind link.lock x next
    → AreHeld named t held x → IsOfType named x link.lock link.type_no
    → TellsOf next a b → TellsOf x a b ⊎ IsOwnPair named held link a b
unfolding IsOwnPair
line-tells named t AskedAndGot link held x next a b of_kind (asking, getting, (asks, (gets, is))) are
    typed told =
    ⊎_elim (λ now. absurd (getting-asks t link.lock getting (asking ∷ x) a b gets now))
    (λ before.
    ⊎_elim
    (λ now. inr (
      not-tried link.tried of_kind,
      asking-tells named t link.lock link.type_no asking held x a b asks are typed now,
    ))
    (λ old. inl old) before)
    (subst (λ y. TellsOf y a b) is told)
line-tells named t Tried link held x next a b of_kind (trying, (tries, is)) are typed told =
    ⊎_elim (λ now. absurd (trying-asks t link.lock trying x a b tries now)) (λ old. inl old)
    (subst (λ y. TellsOf y a b) is told)
line-tells named t Asks link held x next a b of_kind line are typed told =
    absurd (no link.tried of_kind)
  where
    no : (tried : Bool) → kind_number (cond tried Tried AskedAndGot) ≡ kind_number Asks → ⊥
    no true is = absurd (omega arith)
    no false is = absurd (omega arith)

-- ---- what the lines of links tell

typed-append : (named : ℕ → NamedType) (x : List Entry) (held : List Link) (link : Link)
    → AreTyped named x held → IsOfType named x link.lock link.type_no
    → AreTyped named x (held ++ link ∷ [])
typed-append named x [] link typed is = (is, tt)
typed-append named x (other ∷ held) link typed is =
    (typed.0, typed-append named x held link typed.1 is)

has-append : (held : List Link) (link : Link) (m : ℕ)
    → has_lock (held ++ link ∷ []) m ≡ (has_lock held m || eqb link.lock m)
has-append held link m =
    list_any-append (λ (k : Link). eqb k.lock m) held (link ∷ [])
    ∙ ap (λ b. has_lock held m || b) (or-none (eqb link.lock m))
  where
    or-none : (b : Bool) → (b || false) ≡ b
    or-none true = refl
    or-none false = refl

module _ (named : ℕ → NamedType) (t : ℕ) (locks tail : List ℕ) where
  links-tell : (links : List Link) (first : ℕ) (held : List Link) (x more : List Entry)
      (a b : NamedType)
      → drop first locks ≡ map (λ (link : Link). link.lock) links ++ tail
      → IsSane more → Writes t locks (link_lines first links) x more
      → AreHeld named t held x → AreTyped named x links
      → ((m : ℕ) → has_written links m ≡ true → has_lock held m ≡ true)
      → TellsOf more a b → TellsOf x a b ⊎ IsLinkPair named held links a b
  unfolding IsOwnPair
  links-tell [] first held x more a b at sane is are typed within told =
      inl (subst (λ y. TellsOf y a b) is told)
  links-tell (link ∷ links) first held x more a b at sane is are typed within told =
      go link.written refl is
      (λ y there has typed' within'.
      links-tell links (first + 1) (held ++ link ∷ []) y more a b
      (sym (drop-drop 1 first locks) ∙ ap (drop 1) at) sane there has typed' within' told)
    where
      here : get_or locks first 0 ≡ link.lock
      here =
          ap (λ i. get_or locks i 0) (omega arith)
          ∙ (sym (get_or-drop first locks 0 0) ∙ ap (λ xs. get_or xs 0 0) at)

      or-absorb : (p q : Bool) → (q ≡ true → p ≡ true) → p ≡ (p || q)
      or-absorb true q so = refl
      or-absorb false true so = so refl
      or-absorb false false so = refl

      or-left : (p q : Bool) → p ≡ true → (p || q) ≡ true
      or-left true q is = refl
      or-left false q is = absurd (false≢true is)

      or-right : (p q : Bool) → q ≡ true → (p || q) ≡ true
      or-right true q is = refl
      or-right false q is = is

      kept : (m : ℕ) → has_written links m ≡ true → has_lock (held ++ link ∷ []) m ≡ true
      kept m has =
          has-append held link m
          ∙ or-left (has_lock held m) (eqb link.lock m)
          (within m (or-right (link.written && eqb link.lock m) (has_written links m) has))

      go : (written : Bool) → link.written ≡ written
          → Writes t locks (cond written (link_lines (first + 1) links)
          (line_of first (link_kind link) ∷ link_lines (first + 1) links)) x more
          → ((y : List Entry) → Writes t locks (link_lines (first + 1) links) y more
          → AreHeld named t (held ++ link ∷ []) y → AreTyped named y links
          → ((m : ℕ) → has_written links m ≡ true → has_lock (held ++ link ∷ []) m ≡ true)
          → TellsOf y a b ⊎ IsLinkPair named (held ++ link ∷ []) links a b)
          → TellsOf x a b ⊎ IsLinkPair named held (link ∷ links) a b
      go true so writes rest =
          ⊎_elim (λ old. inl old) (λ pair. inr (inr pair))
          (rest x writes
          (record {
            just = λ m.
                are.just m
                ∙ (or-absorb (has_lock held m) (eqb link.lock m)
                (λ same. within m
                (ap (λ w. (w && eqb link.lock m) || has_written links m) so
                ∙ or-left (eqb link.lock m) (has_written links m) same))
                ∙ sym (has-append held link m));
            typed = typed-append named x held link are.typed typed.0;
          }) typed.1 kept)
      go false so (kind, (next, (of_kind, (line', later)))) rest =
          let line = subst (λ l. WritesLine t kind l x next) here line' in
          let sane' = sane-before next more
          (writes-later t locks (link_lines (first + 1) links) next more later) sane in
          let adds = line-adds t kind link.lock x next (own-kind link.tried kind of_kind) line sane' in
          ⊎_elim
          (λ old.
          ⊎_elim (λ older. inl older)
          (λ pair. inr (inl (so, (pair.0, pair.1))))
          (line-tells named t kind link held x next a b of_kind line are typed.0 old))
          (λ pair. inr (inr pair))
          (rest next later
          (record {
            just = λ m.
                adds.held m
                ∙ (ap (λ p. p || eqb link.lock m) (are.just m) ∙ sym (has-append held link m));
            typed = typed-same named x next (held ++ link ∷ []) adds.locks
                (typed-append named x held link are.typed typed.0);
          })
          (typed-same named x next links adds.locks typed.1) kept)

-- ---- an answer

written-only : (links : List Link) (m : ℕ)
    → has_lock (filter (λ (link : Link). link.written) links) m ≡ has_written links m
written-only [] m = refl
written-only (link ∷ links) m = go link.written (written-only links m)
  where
    go : (written : Bool)
        → has_lock (filter (λ (x : Link). x.written) links) m ≡ has_written links m
        → has_lock (cond written (link ∷ filter (λ (x : Link). x.written) links)
        (filter (λ (x : Link). x.written) links)) m
        ≡ ((written && eqb link.lock m) || has_written links m)
    go true rest = ap (λ b. eqb link.lock m || b) rest
    go false rest = rest

typed-written : (named : ℕ → NamedType) (x : List Entry) (links : List Link)
    → AreTyped named x links
    → AreTyped named x (filter (λ (link : Link). link.written) links)
typed-written named x [] typed = tt
typed-written named x (link ∷ links) typed = go link.written (typed-written named x links typed.1)
  where
    go : (written : Bool) → AreTyped named x (filter (λ (y : Link). y.written) links)
        → AreTyped named x (cond written (link ∷ filter (λ (y : Link). y.written) links)
        (filter (λ (y : Link). y.written) links))
    go true rest = (typed.0, rest)
    go false rest = rest

module _ (start : Start) (files : List (List ℕ)) (named : ℕ → NamedType) (t : ℕ)
    (old new : Condensed) (g more : List Entry) (links : List Link) (asked : Asked)
    (is : IsAnswered named t old g links asked new more) (legal : IsLegal start files more)
    (a b : NamedType) where
  request-tells_no_more : Writes t (locks_with links asked) (request_lines links) g more
      → TellsOf more a b
      → TellsOf g a b ⊎ ((HasNamed named links a × (named asked.type_no ≡ b))
      ⊎ IsLinkPair named (filter (λ (link : Link). link.written) links) links a b)
  request-tells_no_more writes told =
      let locks = locks_with links asked in
      let parts =
      writes-parts t locks (link_lines 0 links) (line_of (length links) Asks ∷ []) g more writes in
      let mid = parts.0 in
      let sane = sane-before mid more
      (writes-later t locks (line_of (length links) Asks ∷ []) mid more parts.1.1)
      (sane_legal start files more legal) in
      let adds : Adds t (has_new links) g mid =
      links-add t locks (asked.lock ∷ []) links 0 g mid refl sane parts.1.0 in
      let last = parts.1.1 in
      let found = asks-last last.0 last.1.1.0 t (get_or locks (length links) 0) mid last.1.0
      last.1.1.1.0 in
      let here : get_or locks (length links) 0 ≡ asked.lock =
      get_or_at (map (λ (link : Link). link.lock) links) asked.lock [] 0 (length links)
      (length-map links (λ (link : Link). link.lock)) in
      ⊎_elim
      (λ now. inr (inl
      (asking-tells named t asked.lock asked.type_no found.0 links mid a b
      (subst (λ l. IsAsking t l found.0) here found.1.0)
      (record {
        just = λ m.
            adds.held m
            ∙ (ap (λ p. p || has_new links m) (is.chain.held m) ∙ written-or-new links m);
        typed = typed-same named g mid links adds.locks is.chain.typed;
      })
      (ap (λ ls. named_type (lock_of ls asked.lock)) adds.locks ∙ is.chain.asked_typed) now)))
      (λ before.
      ⊎_elim (λ older. inl older) (λ pair. inr (inr pair))
      (links-tell named t locks (asked.lock ∷ []) links 0
      (filter (λ (link : Link). link.written) links) g mid a b refl sane parts.1.0
      (record {
        just = λ m. is.chain.held m ∙ sym (written-only links m);
        typed = typed-written named g links is.chain.typed;
      }) is.chain.typed (λ m has. written-only links m ∙ has) before))
      (subst (λ y. TellsOf y a b) (last.1.1.1.1 ∙ found.1.1) told)

  pub answer-tells_no_more : TellsOf more a b
      → TellsOf g a b ⊎ ((HasNamed named links a × (named asked.type_no ≡ b))
      ⊎ IsLinkPair named (filter (λ (link : Link). link.written) links) links a b)
  answer-tells_no_more told = go (is_written old links asked is.waits is.room) refl
    where
      lines-are : (w : Bool) → is_written old links asked is.waits is.room ≡ w
          → Writes t (locks_with links asked) (cond w (request_lines links) []) g more
      lines-are w so =
          subst (λ xs. Writes t (locks_with links asked) xs g more)
          (is.answers.given ∙ ap (λ v. cond v (request_lines links) []) so) is.written

      go : (w : Bool) → is_written old links asked is.waits is.room ≡ w
          → TellsOf g a b ⊎ ((HasNamed named links a × (named asked.type_no ≡ b))
          ⊎ IsLinkPair named (filter (λ (link : Link). link.written) links) links a b)
      go true so = request-tells_no_more (lines-are true so) told
      go false so = inl (subst (λ y. TellsOf y a b) (lines-are false so) told)
