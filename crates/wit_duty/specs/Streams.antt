-- Streams: what the answers of `wit_condensed` are for. A recorder's stream is a history of its own,
-- by seats of its own and with locks of its own numbers. By each answer it gets the answer's lines,
-- and between them whatever else. A number stands for a type in both, which every history knows by
-- its class and its name.
use Rattle.std.specs.Prelude.{ℕ, ◌≡◌, ◌⊎◌, Bool, true, false, ◌&&◌, ◌==◌, List, [], ◌∷◌, ◌++◌}
use Rattle.std.specs.Prelude.{None, map, filter, get_or}
use Rattle.std.specs.List.{list_any}
use Rattle.wit_condensed.specs.declared.chain.Link.{Link}
use Rattle.wit_condensed.specs.declared.chain.Asked.{Asked}
use Rattle.wit_condensed.specs.declared.condensed.Condensed.{Condensed}
use Rattle.wit_condensed.specs.declared.lines.Kind.{Kind}
use Rattle.wit_condensed.specs.declared.lines.Kind.TheVariants.{AskedAndGot, Tried, Asks}
use Rattle.wit_condensed.specs.declared.lines.Line.{Line}
use Rattle.wit_condensed.specs.Asking.{Answers, is_question, is_known}
use Rattle.wit_condensed.specs.Chains.{has_lock, has_type}
use Rattle.wit_condensed.specs.Lines.{kind_number}
use Rattle.wit_condensed.specs.Rows.{has_pair}
use Rattle.wit_model.specs.declared.locks.Mode.{Mode}
use Rattle.wit_model.specs.declared.locks.Site.{Site}
use Rattle.wit_model.specs.declared.calls.Request.{Request}
use Rattle.wit_model.specs.declared.calls.Call.TheVariants.{Check, Note, NoteTry}
use Rattle.wit_model.specs.declared.calls.Reply.TheVariants.{Recorded}
use Rattle.wit_model.specs.declared.calls.Entry.{Entry}
use Rattle.wit_model.specs.Rules.Beginnings.{IsBeginning}
use Rattle.wit_model.specs.Rules.Clean.{is_clean}
use Rattle.wit_model.specs.Rules.History.{is_held}
use Rattle.wit_model.specs.Rules.Locks.{locks_of, lock_of}
use Rattle.wit_model.specs.Rules.Start.{start_fault}
use Rattle.wit_model.specs.Rules.State.{Start}
use Rattle.wit_model.specs.Rules.Step.{IsLegal}
use Rattle.wit_model.specs.World.Deeds.{Deed, log_of}
use Rattle.wit_model.specs.World.Reordering.{IsReordering}
use Rattle.wit_model.specs.World.Waiting.{IsDeadlock}
use Rattle.wit_recordings.specs.Recordings.{NamedType, named_type, AsksWhileHolding, TellsOf, Covers}
use Rattle.wit_recordings.specs.Recordings.{HasRequest}
use Rattle.wit_recordings.specs.Duty.{KeepsDuty, AllAskRecorded}

-- ---- the sets

-- each pair in the sets was written: the stream tells of those of `told`, and has those of `alone` as
-- requests under one lock
pub record IsKept (named : ℕ → NamedType) (sets : Condensed) (g : List Entry) : Type 0 where
  pub told : (a b : ℕ) → has_pair sets.told a b ≡ true → TellsOf g (named a) (named b)
  pub alone : (a b : ℕ) → has_pair sets.alone a b ≡ true → HasRequest g (named a ∷ []) (named b)

pub record IsEmpty (sets : Condensed) : Type 0 where
  pub told : (a b : ℕ) → has_pair sets.told a b ≡ false
  pub alone : (a b : ℕ) → has_pair sets.alone a b ≡ false

-- ---- the chain

-- the lock is of the type with this number
abbrev pub IsOfType : (ℕ → NamedType) → List Entry → ℕ → ℕ → Type 0
IsOfType named g lock type_no = named_type (lock_of (locks_of g) lock) ≡ named type_no

abbrev pub AreTyped : (ℕ → NamedType) → List Entry → List Link → Type 0
AreTyped named g [] = Unit {0}
AreTyped named g (link ∷ links) =
    IsOfType named g link.lock link.type_no × AreTyped named g links

-- whether the lock is a link that is written
abbrev pub has_written : List Link → ℕ → Bool
has_written links l = list_any (λ (link : Link). link.written && (link.lock == l)) links

-- the chain is seat t's by the stream: the links that are written are just what it holds there, and
-- each lock has the type that is told of it
pub record IsChain (named : ℕ → NamedType) (g : List Entry) (t : ℕ) (links : List Link)
    (asked : Asked) : Type 0 where
  pub held : (l : ℕ) → is_held t l g ≡ has_written links l
  pub typed : AreTyped named g links
  pub asked_typed : IsOfType named g asked.lock asked.type_no

-- the chain is what the seat of the call e holds after the calls h, and what e asks for is told of
pub record HasChain (named : ℕ → NamedType) (h : List Entry) (e : Entry) (links : List Link)
    (asked : Asked) : Type 0 where
  pub holds : (l : ℕ) → is_held e.seat.0 l h ≡ true
      → (a : ℕ) × ((has_type links a ≡ true) × IsOfType named h l a)
  pub asks : (q : Request) → e.call ≡ Check q → is_held e.seat.0 q.lock.0 h ≡ false
      → IsOfType named h q.lock.0 asked.type_no × (has_lock links asked.lock ≡ false)

-- ---- what lines write

-- by the entry e seat t asks for lock l
pub record IsAsking (t l : ℕ) (e : Entry) : Type 0 where
  pub seat : e.seat.0 ≡ t
  pub request : Request
  pub call : e.call ≡ Check request
  pub lock : request.lock.0 ≡ l

-- it has got it, and that is recorded
pub record IsGetting (t l : ℕ) (e : Entry) : Type 0 where
  pub seat : e.seat.0 ≡ t
  pub call : e.call ≡ Note (record { 0 = l })
  pub reply : e.reply ≡ Recorded

-- it has got it by a try
pub record IsTrying (t l : ℕ) (e : Entry) : Type 0 where
  pub seat : e.seat.0 ≡ t
  pub mode : Mode
  pub site : Site
  pub call : e.call ≡ NoteTry (record { 0 = l }) mode site
  pub reply : e.reply ≡ Recorded

-- a line of this kind on lock l makes of the stream g the stream more
abbrev pub WritesLine : ℕ → Kind → ℕ → List Entry → List Entry → Type 0
WritesLine t AskedAndGot l g more =
    (asking getting : Entry)
    × (IsAsking t l asking × (IsGetting t l getting × (more ≡ getting ∷ asking ∷ g)))
WritesLine t Tried l g more = (trying : Entry) × (IsTrying t l trying × (more ≡ trying ∷ g))
WritesLine t Asks l g more = (asking : Entry) × (IsAsking t l asking × (more ≡ asking ∷ g))

-- these lines, one after another, on links with these locks
abbrev pub Writes : ℕ → List ℕ → List Line → List Entry → List Entry → Type 0
Writes t locks [] g more = more ≡ g
Writes t locks (line ∷ lines) g more =
    (kind : Kind) × ((next : List Entry) × ((line.kind ≡ kind_number kind)
    × (WritesLine t kind (get_or locks line.link 0) g next × Writes t locks lines next more)))

-- the locks of a chain, and then the one that is asked for
abbrev pub locks_with : List Link → Asked → List ℕ
locks_with links asked = map (λ (link : Link). link.lock) links ++ asked.lock ∷ []

-- a question is answered, and the lines are written at once
pub record IsAnswered (named : ℕ → NamedType) (t : ℕ) (old : Condensed) (g : List Entry)
    (links : List Link) (asked : Asked) (new : Condensed) (more : List Entry) : Type 0 where
  pub chain : IsChain named g t links asked
  pub waits : Bool
  pub room : ℕ
  pub lines : List Line
  pub question : is_question links asked room ≡ true
  pub answers : Answers old links asked waits room new lines
  pub written : Writes t (locks_with links asked) lines g more

-- ---- laws

abbrev pub EmptyIsKept : Type 0
EmptyIsKept = (named : ℕ → NamedType) (sets : Condensed) (g : List Entry)
    → IsEmpty sets → IsKept named sets g

-- whatever else is written, the sets stay kept
abbrev pub KeptStays : Type 0
KeptStays = (named : ℕ → NamedType) (sets : Condensed) (g more : List Entry)
    → IsKept named sets g → IsBeginning g more → IsKept named sets more

-- an answer keeps the sets
abbrev pub AnswersKeepSets : Type 0
AnswersKeepSets =
    (start : Start) (files : List (List ℕ)) (named : ℕ → NamedType) (t : ℕ) (old new : Condensed)
    (g more : List Entry) (links : List Link) (asked : Asked)
    → IsAnswered named t old g links asked new more → IsLegal start files more
    → IsKept named old g → IsKept named new more

-- after it each pair of the request is told
abbrev pub AnswersTellPairs : Type 0
AnswersTellPairs =
    (start : Start) (files : List (List ℕ)) (named : ℕ → NamedType) (t : ℕ) (old new : Condensed)
    (g more : List Entry) (links : List Link) (asked : Asked)
    → IsAnswered named t old g links asked new more → IsLegal start files more
    → IsKept named old g → has_lock links asked.lock ≡ false
    → (a : ℕ) → has_type links a ≡ true → TellsOf more (named a) (named asked.type_no)

-- some link is of the type a
abbrev pub HasNamed : (ℕ → NamedType) → List Link → NamedType → Type 0
HasNamed named links a = (type_no : ℕ) × ((has_type links type_no ≡ true) × (named type_no ≡ a))

-- some of these links isn't written yet, was asked for, and is of type b, and a is the type of one
-- before it or of one held before them all
abbrev pub IsLinkPair : (ℕ → NamedType) → List Link → List Link → NamedType → NamedType → Type 0
IsLinkPair named held [] a b = ⊥
IsLinkPair named held (link ∷ links) a b =
    ((link.written ≡ false) × ((link.tried ≡ false)
    × (HasNamed named held a × (named link.type_no ≡ b))))
    ⊎ IsLinkPair named (held ++ link ∷ []) links a b

-- an answer tells of no other pair than those of its request, and of its links in their sequence
abbrev pub AnswersTellNoMore : Type 0
AnswersTellNoMore =
    (start : Start) (files : List (List ℕ)) (named : ℕ → NamedType) (t : ℕ) (old new : Condensed)
    (g more : List Entry) (links : List Link) (asked : Asked)
    → IsAnswered named t old g links asked new more → IsLegal start files more
    → (a b : NamedType) → TellsOf more a b
    → TellsOf g a b ⊎ ((HasNamed named links a × (named asked.type_no ≡ b))
    ⊎ IsLinkPair named (filter (λ (link : Link). link.written) links) links a b)

-- where the sets know the pair of a lock that is held alone, it was asked for under one such lock
-- alone
abbrev pub KnownIsAlone : Type 0
KnownIsAlone =
    (named : ℕ → NamedType) (sets : Condensed) (g : List Entry) (link : Link) (b : ℕ)
    → IsKept named sets g → is_known sets (link ∷ []) b ≡ true
    → HasRequest g (named link.type_no ∷ []) (named b)

-- where the sets know each pair, each is told already
abbrev pub KnownIsTold : Type 0
KnownIsTold =
    (named : ℕ → NamedType) (sets : Condensed) (g : List Entry) (links : List Link) (b : ℕ)
    → IsKept named sets g → is_known sets links b ≡ true
    → (a : ℕ) → has_type links a ≡ true → TellsOf g (named a) (named b)

-- so the duty is kept at a call, where the chain is what its seat holds
abbrev pub PairsToldKeepDuty : Type 0
PairsToldKeepDuty =
    (named : ℕ → NamedType) (g h : List Entry) (e : Entry) (links : List Link) (asked : Asked)
    → HasChain named h e links asked
    → (has_lock links asked.lock ≡ false → (a : ℕ) → has_type links a ≡ true
    → TellsOf g (named a) (named asked.type_no))
    → KeepsDuty g e h

-- a recorder has written the stream g by the calls h, and has these sets
pub data IsRecorded : (ℕ → NamedType) → List Entry → Condensed → List Entry → Type 0 where
  -- at first the sets are empty
  Begun : (named : ℕ → NamedType) (sets : Condensed) → IsEmpty sets → IsRecorded named [] sets []
  -- whatever else is written
  Written : (named : ℕ → NamedType) (h : List Entry) (sets : Condensed) (g more : List Entry)
      → IsRecorded named h sets g → IsBeginning g more → IsRecorded named h sets more
  -- a call that is no request under held locks
  Called : (named : ℕ → NamedType) (h : List Entry) (sets : Condensed) (g : List Entry) (e : Entry)
      → IsRecorded named h sets g → ((a b : NamedType) → AsksWhileHolding h e a b → ⊥)
      → IsRecorded named (e ∷ h) sets g
  -- a request of which the recorder sees that its pairs are known
  Known : (named : ℕ → NamedType) (h : List Entry) (sets : Condensed) (g : List Entry) (e : Entry)
      (links : List Link) (asked : Asked)
      → IsRecorded named h sets g → HasChain named h e links asked
      → is_known sets links asked.type_no ≡ true
      → IsRecorded named (e ∷ h) sets g
  -- one of which it asks
  Asking : (named : ℕ → NamedType) (h : List Entry) (old new : Condensed) (g more : List Entry)
      (e : Entry) (t : ℕ) (links : List Link) (asked : Asked)
      → IsRecorded named h old g → HasChain named h e links asked
      → IsAnswered named t old g links asked new more
      → IsRecorded named (e ∷ h) new more

-- what is recorded so covers all calls
abbrev pub RecordedIsCovered : Type 0
RecordedIsCovered =
    (start : Start) (files : List (List ℕ)) (named : ℕ → NamedType) (h : List Entry)
    (sets : Condensed) (g : List Entry)
    → IsRecorded named h sets g → IsLegal start files g → Covers g h

-- where it is clean, no reordering of the run has a deadlock, if each thread had recorded what it
-- had when it asked
abbrev pub RecordedRunsNeverDeadlock : Type 0
RecordedRunsNeverDeadlock =
    (start more : Start) (files texts : List (List ℕ)) (named : ℕ → NamedType) (v w : List Deed)
    (sets : Condensed) (g : List Entry) (threads : List ℕ)
    → IsLegal start files (log_of w) → IsRecorded named (log_of w) sets g → AllAskRecorded w
    → start_fault more ≡ None → more.blessed ≡ [] → IsLegal more texts g
    → is_clean more.profile g ≡ true → IsReordering start v w → IsDeadlock v threads → ⊥
