-- Findings as JSON: their members, one after another, as tokens. A finding is an object on a line of
-- its own.
use Rattle.std.specs.Prelude.{◌≡◌, ℕ, List, [], ◌∷◌, ◌++◌, Option, Some, None, Result, OnOk, codes}
use Rattle.std.specs.Prelude.{unwrap_or}
use Rattle.std.specs.Fmt.{decimal}
use Rattle.json.specs.Print.{print}
use Rattle.json.specs.Token.{Token, begin_object, end_object, key, string}
use Rattle.json.specs.Token.{number, null}
use Rattle.json.specs.Written.{Written}
use Rattle.wit_model.specs.declared.calls.LockAt.{LockAt}
use Rattle.wit_model.specs.declared.locks.Class.{Class}
use Rattle.wit_model.specs.declared.locks.Class.TheVariants.{SleepMutex, SpinMutex, Rw, Sx}
use Rattle.wit_model.specs.declared.locks.Origin.{Origin}
use Rattle.wit_model.specs.declared.locks.Origin.TheVariants.{Listed, Defined, At}
use Rattle.wit_model.specs.declared.locks.Site.{Site}
use Rattle.wit_model.specs.Rules.Numbers.{with_number}
use Rattle.wit_model.specs.Rules.State.{Story, types_of, typed_locks, orders_of}
use Rattle.wit_model.specs.Rules.Orders.{origin_of}
use Rattle.wit_model.specs.Rules.Types.{name_of}
use Rattle.wit_model.specs.declared.locks.TypeNo.{TypeNo}
use Rattle.wit_core.specs.Numbered.{lock_type, type_class}
use Rattle.wit_findings.specs.declared.spots.Spot.{Spot}
use Rattle.wit_findings.specs.Told.{Told, number_of}

-- where this was written, and what stood before stays
abbrev pub Adds : {E : Type 0} → Result (Unit {0}) E → Written → Written → List Token → Type 0
Adds r old new tokens = OnOk r ((new.before ≡ old.before) × (new.tokens ≡ old.tokens ++ tokens))

-- the finding as a line
unfoldable pub line_text : List Token → List ℕ
line_text tokens = print tokens ++ 10 ∷ []

-- ---- members

unfoldable pub count_member : List ℕ → ℕ → List Token
count_member name n = key name ∷ number (decimal n) ∷ []

unfoldable pub text_member : List ℕ → List ℕ → List Token
text_member name text = key name ∷ string text ∷ []

abbrev pub process_member : Option ℕ → List Token
process_member None = []
process_member (Some process) = count_member (codes "process") process

-- which finding it is, and the process that it is of, where that has a number
unfoldable pub head_tokens : Option ℕ → List ℕ → List Token
head_tokens process kind =
    begin_object ∷ (text_member (codes "finding") kind ++ process_member process)

-- and the number of its line
abbrev pub finding_tokens : Option ℕ → List ℕ → ℕ → List Token
finding_tokens process kind n = head_tokens process kind ++ count_member (codes "line") n

-- ---- places and locks

unfoldable pub spot_tokens : Spot → List Token
spot_tokens s =
    begin_object ∷ (count_member (codes "line") s.line ++ (count_member (codes "seat") s.seat.0
    ++ (count_member (codes "thread") s.thread ++ (count_member (codes "place") s.place
    ++ (count_member (codes "stack") s.stack ++ end_object ∷ [])))))

abbrev pub spot_value : Option Spot → List Token
spot_value None = null ∷ []
spot_value (Some s) = spot_tokens s

-- where a lock was asked for, or null
unfoldable pub site_value : Told → Site → List Token
site_value t site = spot_value (with_number t.spots site.line)

abbrev pub class_text : Class → List ℕ
class_text SleepMutex = codes "mtx"
class_text SpinMutex = codes "spin"
class_text Rw = codes "rw"
class_text Sx = codes "sx"

-- the type of a lock of the story, 0 for none
abbrev pub type_number : Story → ℕ → TypeNo
type_number s lock = unwrap_or (lock_type (typed_locks s.start s.history) lock) (record { 0 = 0 })

abbrev pub type_text : Story → ℕ → List ℕ
type_text s n = name_of n (types_of s.start s.history)

abbrev pub class_of : Story → ℕ → Class
class_of s n = unwrap_or (type_class (types_of s.start s.history) n) SleepMutex

-- a lock of the story: its number in the recording, its type with the class, and where it was
-- acquired or asked for
unfoldable pub lock_value : Told → LockAt → List Token
lock_value t at =
    begin_object ∷ (count_member (codes "lock") (number_of t at.lock.0)
    ++ (text_member (codes "type") (type_text t.story (type_number t.story at.lock.0).0)
    ++ (text_member (codes "class")
    (class_text (class_of t.story (type_number t.story at.lock.0).0))
    ++ (key (codes "at") ∷ (site_value t at.site ++ end_object ∷ [])))))

unfoldable pub lock_member : Told → List ℕ → LockAt → List Token
lock_member t name at = key name ∷ lock_value t at

-- ---- orders

-- where an order was first asked for
unfoldable pub origin_value : Told → Option Origin → List Token
origin_value t None = null ∷ []
origin_value t (Some Listed) = null ∷ []
origin_value t (Some Defined) = null ∷ []
origin_value t (Some (At site)) = site_value t site

-- the members of a direct order, by the numbers of its types
unfoldable pub order_members : Told → ℕ → ℕ → List Token
order_members t a b =
    text_member (codes "from") (type_text t.story a)
    ++ (text_member (codes "to") (type_text t.story b)
    ++ (key (codes "at")
    ∷ origin_value t (origin_of a b (orders_of t.story.start t.story.history))))
