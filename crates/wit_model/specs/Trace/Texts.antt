-- The texts of reports.
use Rattle.std.specs.Prelude.{ℕ, List, [], ◌∷◌, ◌++◌, Option, None, Some, length, unwrap_or, codes}
use Rattle.std.specs.Fmt.{decimal}
use Rattle.wit_model.specs.declared.locks.Class.{Class}
use Rattle.wit_model.specs.declared.locks.Class.TheVariants.{SleepMutex, SpinMutex, Rw, Sx}
use Rattle.wit_model.specs.declared.locks.Lock.{Lock}
use Rattle.wit_model.specs.declared.locks.Site.{Site}
use Rattle.wit_model.specs.declared.locks.Origin.{Origin}
use Rattle.wit_model.specs.declared.locks.Origin.TheVariants.{Listed, Defined, At}
use Rattle.wit_model.specs.declared.calls.Heading.{Heading}
use Rattle.wit_model.specs.declared.calls.Heading.TheVariants.{Order, Sleepable, Giant}
use Rattle.wit_model.specs.declared.calls.LockAt.{LockAt}
use Rattle.wit_model.specs.declared.calls.Conflict.{Conflict}
use Rattle.wit_model.specs.declared.calls.Doubling.{Doubling}
use Rattle.wit_model.specs.declared.calls.Reply.{Reply}
use Rattle.wit_model.specs.declared.calls.Reply.TheVariants.{Reversal, Duplicate, Exhausted}
use Rattle.wit_model.specs.Rules.Numbers.{with_number}
use Rattle.wit_model.specs.Rules.Types.{type_name_of, name_of}
use Rattle.wit_model.specs.Rules.Locks.{lock_at}
use Rattle.wit_model.specs.Rules.Orders.{origin_of}
use Rattle.wit_model.specs.Trace.Paths.{path}
use Rattle.wit_model.specs.Trace.Spelling.{quoted}
use Rattle.wit_model.specs.Rules.State.{Known}

-- these pieces one behind another, as a line
abbrev pub line : List (List ℕ) → List ℕ
line [] = 10 ∷ []
line (piece ∷ pieces) = piece ++ line pieces

-- a class in words
abbrev pub class_words : Class → List ℕ
class_words SleepMutex = codes "sleep mutex"
class_words SpinMutex = codes "spin mutex"
class_words Rw = codes "rw"
class_words Sx = codes "sx"

-- the file with this number, empty where there is none
abbrev pub file_with : List (List ℕ) → ℕ → List ℕ
file_with files f = unwrap_or (with_number files f) []

-- a place in the watched program: FILE:LINE
abbrev pub site_words : List (List ℕ) → Site → List ℕ
site_words files site = file_with files site.file.0 ++ 58 ∷ decimal site.line

-- a lock at a place, as a line behind its rank: "NAME" (TYPE, CLASS) @ SITE
abbrev pub lock_line : List Lock → List (List ℕ) → List ℕ → LockAt → List ℕ
lock_line locks files rank at =
    let lock = (lock_at locks at.lock.0).made in
    line (codes " " ∷ rank ∷ codes " " ∷ quoted lock.name ∷ codes " (" ∷ type_name_of lock
    ∷ codes ", " ∷ class_words lock.class ∷ codes ") @ "
    ∷ site_words files at.site ∷ [])

abbrev pub heading_words : Heading → List ℕ
heading_words Order = codes "lock order reversal:"
heading_words Sleepable = codes "lock order reversal: (sleepable after non-sleepable)"
heading_words Giant = codes "lock order reversal: (Giant after non-sleepable)"

-- the locks of a reversal, oldest first
abbrev pub conflict_lines : List Lock → List (List ℕ) → Conflict → Option LockAt → List ℕ
conflict_lines locks files c None =
    lock_line locks files (codes "1st") c.held ++ lock_line locks files (codes "2nd") c.asked
conflict_lines locks files c (Some older) =
    lock_line locks files (codes "1st") older
    ++ (lock_line locks files (codes "2nd") c.held
    ++ lock_line locks files (codes "3rd") c.asked)

-- the two locks of one type: the last held one, and the requested one
abbrev pub doubling_lines : List Lock → List (List ℕ) → Doubling → List ℕ
doubling_lines locks files d =
    lock_line locks files (codes "1st") d.last ++ lock_line locks files (codes "2nd") d.asked

-- where an order comes from
abbrev pub origin_words : List (List ℕ) → Option Origin → List ℕ
origin_words files None = []
origin_words files (Some Listed) = codes "listed"
origin_words files (Some Defined) = codes "defined"
origin_words files (Some (At site)) = site_words files site

-- a direct order, as a line: "TYPE" -> "TYPE" @ ORIGIN
abbrev pub order_line : Known → List (List ℕ) → ℕ → ℕ → List ℕ
order_line k files a b =
    line (codes " " ∷ quoted (name_of a k.types) ∷ codes " -> "
    ∷ quoted (name_of b k.types) ∷ codes " @ "
    ∷ origin_words files (origin_of a b k.orders) ∷ [])

-- the orders between neighbours of a path
abbrev pub order_lines : Known → List (List ℕ) → List ℕ → List ℕ
order_lines k files [] = []
order_lines k files (a ∷ []) = []
order_lines k files (a ∷ b ∷ way) = order_line k files a b ++ order_lines k files (b ∷ way)

-- the established order, where there is one
abbrev pub established : Known → List (List ℕ) → Option (List ℕ) → List ℕ
established k files None = []
established k files (Some way) = line (codes "established order:" ∷ []) ++ order_lines k files way

-- the text of a report, empty where nothing is reported
abbrev pub report_text : Known → List (List ℕ) → Reply → List ℕ
report_text k files (Reversal c) =
    line (heading_words c.heading ∷ []) ++ conflict_lines k.locks files c c.older
    ++ established k files (path k.orders (length k.types)
    (lock_at k.locks c.asked.lock.0).type_no.0 (lock_at k.locks c.held.lock.0).type_no.0)
report_text k files (Duplicate d) =
    line (codes "acquiring duplicate lock of same type: " ∷ quoted
    (type_name_of (lock_at k.locks d.asked.lock.0).made) ∷ []) ++ doubling_lines k.locks files d
report_text k files Exhausted = line (codes "witness exhausted" ∷ [])
report_text k files _ = []
