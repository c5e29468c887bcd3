-- What written lines leave: the links are held by the stream, and no lock is made.
use Rattle.std.proofs.Common.{◌≡◌, ℕ, ◌+◌, Bool, true, false, not, ◌&&◌, ◌||◌, cond, eqb, nat_lt}
use Rattle.std.proofs.Common.{List, [], ◌∷◌, ◌++◌, map, drop, get_or, refl, ap, ap₂, sym, ◌∙◌}
use Rattle.std.proofs.Common.{subst, arith}
use Rattle.std.specs.List.{list_any}
use Rattle.std.proofs.lemmas.Bool.{eq-eqb, lt-ltb}
use Rattle.std.proofs.lemmas.List.{append-nil, append_assoc, get_or-drop, drop-drop}
use Rattle.wit_condensed.specs.declared.chain.Link.{Link}
use Rattle.wit_condensed.specs.declared.lines.Kind.{Kind}
use Rattle.wit_condensed.specs.declared.lines.Kind.TheVariants.{AskedAndGot, Tried, Asks}
use Rattle.wit_condensed.specs.declared.lines.Line.{Line}
use Rattle.wit_condensed.specs.Lines.{kind_number, line_of, link_kind, link_lines}
use Rattle.wit_model.specs.declared.calls.Call.{Call}
use Rattle.wit_model.specs.declared.calls.Entry.{Entry}
use Rattle.wit_model.specs.Rules.Beginnings.{IsBeginning}
use Rattle.wit_model.specs.Rules.History.{Nothing, Records, act, act_by, num, is_held}
use Rattle.wit_model.specs.Rules.Locks.{made, locks_of}
use Rattle.wit_model.proofs.Chains.Acts.{num-step}
use Rattle.wit_model.proofs.Chains.Sane.{IsSane}
use Rattle.wit_model.proofs.World.Own.{act-mine}
use Rattle.wit_duty.specs.Streams.{IsAsking, IsGetting, IsTrying, WritesLine, Writes}

-- ---- a line is written after what was written

pub line-later : (t : ℕ) (kind : Kind) (l : ℕ) (g more : List Entry) → WritesLine t kind l g more
    → IsBeginning g more
line-later t AskedAndGot l g more is = (is.1 ∷ is.0 ∷ [], is.2.1.1)
line-later t Tried l g more is = (is.0 ∷ [], is.1.1)
line-later t Asks l g more is = (is.0 ∷ [], is.1.1)

begins-more : (g next more : List Entry) → IsBeginning g next → IsBeginning next more
    → IsBeginning g more
begins-more g next more one two = (
  two.0 ++ one.0,
  two.1 ∙ (ap (λ xs. two.0 ++ xs) one.1 ∙ sym (append_assoc two.0 one.0 g)),
)

pub writes-later : (t : ℕ) (locks : List ℕ) (lines : List Line) (g more : List Entry)
    → Writes t locks lines g more → IsBeginning g more
writes-later t locks [] g more is = ([], is)
writes-later t locks (line ∷ lines) g more is =
    begins-more g is.1.0 more (line-later t is.0 (get_or locks line.link 0) g is.1.0 is.1.1.1.0)
    (writes-later t locks lines is.1.0 more is.1.1.1.1)

sane-end : (later g : List Entry) → IsSane (later ++ g) → IsSane g
sane-end [] g sane = sane
sane-end (e ∷ later) g sane = sane-end later g sane.1

pub sane-before : (g more : List Entry) → IsBeginning g more → IsSane more → IsSane g
sane-before g more begins sane = sane-end begins.0 g (subst IsSane begins.1 sane)

-- ---- what an entry leaves

act-of : (t : ℕ) (e : Entry) → e.seat.0 ≡ t → act_by t e ≡ act e.call e.reply
act-of t e is = act-mine t e (eq-eqb e.seat.0 t is)

held-same : (t m : ℕ) (e : Entry) (g : List Entry) → act_by t e ≡ Nothing → IsSane g
    → is_held t m (e ∷ g) ≡ is_held t m g
held-same t m e g acts sane = ap (λ n. nat_lt 0 n) (num-step t m e g Nothing acts sane)

some-more : (n : ℕ) (b : Bool) → nat_lt 0 (cond b (n + 1) n) ≡ (nat_lt 0 n || b)
some-more n true = lt-ltb 0 (n + 1) (omega arith) ∙ sym (always (nat_lt 0 n))
  where
    always : (b : Bool) → (b || true) ≡ true
    always true = refl
    always false = refl
some-more n false = sym (same (nat_lt 0 n))
  where
    same : (b : Bool) → (b || false) ≡ b
    same true = refl
    same false = refl

held-more : (t l m : ℕ) (e : Entry) (g : List Entry) → act_by t e ≡ Records l → IsSane g
    → is_held t m (e ∷ g) ≡ (is_held t m g || eqb l m)
held-more t l m e g acts sane =
    ap (λ n. nat_lt 0 n) (num-step t m e g (Records l) acts sane)
    ∙ some-more (num t m g) (eqb l m)

none-made : (e : Entry) (g : List Entry) → made e.call ≡ [] → locks_of (e ∷ g) ≡ locks_of g
none-made e g none = ap (λ xs. locks_of g ++ xs) none ∙ append-nil (locks_of g)

-- ---- what lines leave

-- seat t holds these locks too, and no lock is made
pub record Adds (t : ℕ) (test : ℕ → Bool) (g more : List Entry) : Type 0 where
  pub held : (m : ℕ) → is_held t m more ≡ (is_held t m g || test m)
  pub locks : locks_of more ≡ locks_of g

module _ (t l : ℕ) (e : Entry) (g : List Entry) (sane : IsSane g) where
  pub asking-held : IsAsking t l e → (m : ℕ) → is_held t m (e ∷ g) ≡ is_held t m g
  asking-held is m =
      held-same t m e g (act-of t e is.seat ∙ ap (λ (c : Call). act c e.reply) is.call) sane

  pub asking-locks : IsAsking t l e → locks_of (e ∷ g) ≡ locks_of g
  asking-locks is = none-made e g (ap made is.call)

  getting-adds : IsGetting t l e → Adds t (λ m. eqb l m) g (e ∷ g)
  getting-adds is = record {
    held = λ m. held-more t l m e g (act-of t e is.seat ∙ ap₂ act is.call is.reply) sane;
    locks = none-made e g (ap made is.call);
  }

  trying-adds : IsTrying t l e → Adds t (λ m. eqb l m) g (e ∷ g)
  trying-adds is = record {
    held = λ m. held-more t l m e g (act-of t e is.seat ∙ ap₂ act is.call is.reply) sane;
    locks = none-made e g (ap made is.call);
  }

-- a kind by which a held lock is written
pub IsHeldKind : Kind → Type 0
IsHeldKind Asks = ⊥
IsHeldKind kind = Unit {0}

pub own-kind : (tried : Bool) (kind : Kind)
    → kind_number (cond tried Tried AskedAndGot) ≡ kind_number kind → IsHeldKind kind
unfolding IsHeldKind
own-kind tried AskedAndGot is = tt
own-kind tried Tried is = tt
own-kind true Asks is = absurd (omega arith)
own-kind false Asks is = absurd (omega arith)

pub line-adds : (t : ℕ) (kind : Kind) (l : ℕ) (g more : List Entry) → IsHeldKind kind
    → WritesLine t kind l g more → IsSane more → Adds t (λ m. eqb l m) g more
unfolding IsHeldKind
line-adds t AskedAndGot l g more held (asking, getting, (asks, (gets, is))) sane =
    let sane' : IsSane (getting ∷ asking ∷ g) = subst IsSane is sane in
    let last = getting-adds t l getting (asking ∷ g) sane'.1 gets in
    subst (λ x. Adds t (λ m. eqb l m) g x) (sym is)
    (record {
      held = λ m. last.held m
          ∙ ap (λ b. b || eqb l m) (asking-held t l asking g sane'.1.1 asks m);
      locks = last.locks ∙ asking-locks t l asking g sane'.1.1 asks;
    })
line-adds t Tried l g more held (trying, (tries, is)) sane =
    let sane' : IsSane (trying ∷ g) = subst IsSane is sane in
    subst (λ x. Adds t (λ m. eqb l m) g x) (sym is) (trying-adds t l trying g sane'.1 tries)
line-adds t Asks l g more held is sane = absurd held

-- ---- what the lines of links leave

-- the links that are not written yet
abbrev pub has_new : List Link → ℕ → Bool
has_new links m = list_any (λ (link : Link). not link.written && eqb link.lock m) links

or_assoc : (a b c : Bool) → ((a || b) || c) ≡ (a || (b || c))
or_assoc true b c = refl
or_assoc false b c = refl

none-more : (b : Bool) → b ≡ (b || false)
none-more true = refl
none-more false = refl

adds-both : (t l : ℕ) (test : ℕ → Bool) (g next more : List Entry) → Adds t (λ m. eqb l m) g next
    → Adds t test next more → Adds t (λ m. eqb l m || test m) g more
adds-both t l test g next more one two = record {
  held = λ m.
      two.held m
      ∙ (ap (λ b. b || test m) (one.held m) ∙ or_assoc (is_held t m g) (eqb l m) (test m));
  locks = two.locks ∙ one.locks;
}

module _ (t : ℕ) (locks tail : List ℕ) where
  pub links-add : (links : List Link) (first : ℕ) (g more : List Entry)
      → drop first locks ≡ map (λ (link : Link). link.lock) links ++ tail
      → IsSane more → Writes t locks (link_lines first links) g more
      → Adds t (has_new links) g more
  links-add [] first g more at sane is = record {
    held = λ m. ap (λ x. is_held t m x) is ∙ none-more (is_held t m g);
    locks = ap locks_of is;
  }
  links-add (link ∷ links) first g more at sane is =
      go link.written is
      (λ x y. links-add links (first + 1) x y
      (sym (drop-drop 1 first locks) ∙ ap (drop 1) at))
    where
      here : get_or locks first 0 ≡ link.lock
      here =
          ap (λ i. get_or locks i 0) (omega arith)
          ∙ (sym (get_or-drop first locks 0 0) ∙ ap (λ xs. get_or xs 0 0) at)

      go : (written : Bool)
          → Writes t locks (cond written (link_lines (first + 1) links)
          (line_of first (link_kind link) ∷ link_lines (first + 1) links)) g more
          → ((x y : List Entry) → IsSane y → Writes t locks (link_lines (first + 1) links) x y
          → Adds t (has_new links) x y)
          → Adds t (λ m. (not written && eqb link.lock m) || has_new links m) g more
      go true is rest = rest g more sane is
      go false (kind, (next, (of_kind, (line, later)))) rest =
          adds-both t link.lock (has_new links) g next more
          (subst (λ l. Adds t (λ m. eqb l m) g next) here
          (line-adds t kind (get_or locks first 0) g next
          (own-kind link.tried kind of_kind) line
          (sane-before next more (writes-later t locks (link_lines (first + 1) links) next more later)
          sane)))
          (rest next more sane later)

-- ---- lines one after another

pub writes-parts : (t : ℕ) (locks : List ℕ) (xs ys : List Line) (g more : List Entry)
    → Writes t locks (xs ++ ys) g more
    → (next : List Entry) × (Writes t locks xs g next × Writes t locks ys next more)
writes-parts t locks [] ys g more is = (g, (refl, is))
writes-parts t locks (x ∷ xs) ys g more (kind, (mid, (of_kind, (line, later)))) =
    let parts = writes-parts t locks xs ys mid more later in
    (parts.0, ((kind, (mid, (of_kind, (line, parts.1.0)))), parts.1.1))
