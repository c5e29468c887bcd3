-- What is told of a reply.
use Rattle.std.specs.Prelude.{ℕ, List, [], ◌∷◌, ◌++◌, Option, Some, None, length, codes, flat_map}
use Rattle.json.specs.Token.{Token, begin_object, end_object, begin_array, end_array, key}
use Rattle.wit_model.specs.declared.calls.Heading.{Heading}
use Rattle.wit_model.specs.declared.calls.Heading.TheVariants.{Order, Sleepable, Giant}
use Rattle.wit_model.specs.declared.calls.LockAt.{LockAt}
use Rattle.wit_model.specs.declared.calls.Reply.{Reply}
use Rattle.wit_model.specs.declared.calls.Reply.TheVariants.{Adopted, AdoptedAll, Reversal}
use Rattle.wit_model.specs.declared.calls.Reply.TheVariants.{Duplicate, Exhausted}
use Rattle.wit_model.specs.declared.locks.TypeNo.{TypeNo}
use Rattle.wit_model.specs.Rules.State.{orders_of, types_of}
use Rattle.wit_model.specs.Trace.Paths.{path}
use Rattle.wit_findings.specs.Objects.{count_member, finding_tokens, line_text, lock_member}
use Rattle.wit_findings.specs.Objects.{order_members}
use Rattle.wit_findings.specs.Objects.{text_member, type_number, type_text}
use Rattle.wit_findings.specs.Told.{Told, lock_number, thread_of}
use Rattle.wit_recorded.specs.declared.lines.Misuse.{Misuse}
use Rattle.wit_recorded.specs.Reading.{misuse_text}

abbrev pub heading_text : Heading → List ℕ
heading_text Order = codes "reversal"
heading_text Sleepable = codes "sleepable"
heading_text Giant = codes "giant"

-- the orders between neighbours of a path, each an object
abbrev pub step_values : Told → List ℕ → List Token
step_values t [] = []
step_values t (a ∷ []) = []
step_values t (a ∷ b ∷ way) =
    begin_object ∷ (order_members t a b ++ (end_object ∷ step_values t (b ∷ way)))

abbrev pub path_values : Told → Option (List ℕ) → List Token
path_values t None = []
path_values t (Some way) = step_values t way

-- the established order that leads from one type to another, step by step
abbrev pub path_member : Told → ℕ → ℕ → List Token
path_member t from to =
    key (codes "path") ∷ begin_array
    ∷ (path_values t (path (orders_of t.story.start t.story.history)
    (length (types_of t.story.start t.story.history)) from to) ++ end_array ∷ [])

abbrev pub third_member : Told → Option LockAt → List Token
third_member t None = []
third_member t (Some at) = lock_member t (codes "third") at

-- a report of what it found: the held lock, the one that was asked for, and an older one of its type
abbrev pub report_tokens : Told → ℕ → List ℕ → LockAt → LockAt → Option LockAt → List Token
report_tokens t n kind held asked older =
    finding_tokens t.process (codes "report") n ++ (text_member (codes "kind") kind
    ++ (lock_member t (codes "held") held ++ (lock_member t (codes "asked") asked
    ++ third_member t older)))

abbrev pub reversal_tokens : Told → ℕ → List ℕ → LockAt → LockAt → Option LockAt → List Token
reversal_tokens t n kind held asked older =
    report_tokens t n kind held asked older
    ++ (path_member t (type_number t.story asked.lock.0).0 (type_number t.story held.lock.0).0
    ++ end_object ∷ [])

abbrev pub duplicate_tokens : Told → ℕ → LockAt → LockAt → List Token
duplicate_tokens t n held asked =
    report_tokens t n (codes "duplicate") held asked None ++ end_object ∷ []

abbrev pub exhausted_tokens : Told → ℕ → List Token
exhausted_tokens t n =
    finding_tokens t.process (codes "report") n
    ++ (text_member (codes "kind") (codes "exhausted") ++ end_object ∷ [])

-- the name of a type, by a lock of the recording; empty where that isn't known
abbrev pub type_of_lock : Told → ℕ → List ℕ
type_of_lock t lock = type_text t.story (type_number t.story (lock_number t lock)).0

-- a lock of the recording, its type, and a place
unfoldable pub misused_members : Told → ℕ → ℕ → List Token
misused_members t lock place =
    count_member (codes "lock") lock ++ (text_member (codes "type") (type_of_lock t lock)
    ++ count_member (codes "place") place)

-- an error in the use of a lock: who made it, and where
abbrev pub error_tokens : Told → ℕ → Misuse → ℕ → ℕ → ℕ → List Token
error_tokens t n what seat lock place =
    finding_tokens t.process (codes "error") n ++ (text_member (codes "what") (misuse_text what)
    ++ (count_member (codes "seat") seat ++ (count_member (codes "thread") (thread_of t seat)
    ++ (misused_members t lock place ++ end_object ∷ []))))

-- an order that was learnt
abbrev pub order_tokens : Told → ℕ → TypeNo × TypeNo → List Token
order_tokens t n pair =
    finding_tokens t.process (codes "order") n ++ (order_members t pair.0.0 pair.1.0 ++ end_object ∷ [])

abbrev pub order_line : Told → ℕ → TypeNo × TypeNo → List ℕ
order_line t n pair = line_text (order_tokens t n pair)

-- what is told of a reply, once it was given: each report, and each order that was learnt
abbrev pub reply_text : Told → ℕ → Reply → List ℕ
reply_text t n (Reversal c) =
    line_text (reversal_tokens t n (heading_text c.heading) c.held c.asked c.older)
reply_text t n (Duplicate d) = line_text (duplicate_tokens t n d.last d.asked)
reply_text t n Exhausted = line_text (exhausted_tokens t n)
reply_text t n (Adopted parent child) = order_line t n (parent, child)
reply_text t n (AdoptedAll pairs) = flat_map (order_line t n) pairs
reply_text t n _ = []
