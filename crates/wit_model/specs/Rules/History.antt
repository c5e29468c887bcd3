-- What a seat holds after a history, by counting. A history is newest entry first: a cons is the
-- next call. One definition, `act`, says what an entry does to the locks that its seat holds, and
-- it alone knows the calls.
use Rattle.std.specs.Prelude.{ℕ, ◌-◌, Bool, true, false, not, ◌&&◌, ◌==◌, nat_lt, List, [], ◌∷◌}
use Rattle.std.specs.Prelude.{◌++◌, Option, None, Some, map, filter, length, count_by}
use Rattle.std.specs.Prelude.{if◌then◌else◌}
use Rattle.wit_model.specs.declared.locks.Mode.{Mode}
use Rattle.wit_model.specs.declared.locks.Mode.TheVariants.{Shared, Exclusive}
use Rattle.wit_model.specs.declared.locks.Watch.{Watch}
use Rattle.wit_model.specs.declared.locks.Watch.TheVariants.{Off, On}
use Rattle.wit_model.specs.declared.locks.Site.{Site}
use Rattle.wit_model.specs.declared.locks.Instance.{Instance}
use Rattle.wit_model.specs.declared.calls.Call.{Call}
use Rattle.wit_model.specs.declared.calls.Call.TheVariants.{Check, Note, NoteTry, GiveUp, Unlock}
use Rattle.wit_model.specs.declared.calls.Call.TheVariants.{SetWatch, Upgrade, Downgrade, NoRelease}
use Rattle.wit_model.specs.declared.calls.Call.TheVariants.{ReleaseOk}
use Rattle.wit_model.specs.declared.calls.Reply.{Reply}
use Rattle.wit_model.specs.declared.calls.Reply.TheVariants.{Done, Reversal, Duplicate, Recorded}
use Rattle.wit_model.specs.declared.calls.Reply.TheVariants.{Exhausted, Unlocked}
use Rattle.wit_model.specs.declared.calls.Request.{Request}
use Rattle.wit_model.specs.declared.calls.Entry.{Entry}
use Rattle.wit_model.specs.Rules.Locks.{locks_of, is_of_kind}

-- what an entry does to the locks that its seat holds
pub data Act : Type 0 where
  -- nothing
  Nothing : Act
  -- one more acquisition of a lock
  Records : ℕ → Act
  -- one acquisition fewer
  Releases : ℕ → Act
  -- the lock is held in this mode from now on
  Turns : ℕ → Mode → Act
  -- the lock must not be released, or may be again
  Marks : ℕ → Bool → Act

abbrev pub act : Call → Reply → Act
act (Note l) Recorded = Records l.0
act (NoteTry l m s) Recorded = Records l.0
act (Unlock l m) Unlocked = Releases l.0
act (Upgrade l) Done = Turns l.0 Exclusive
act (Downgrade l) Done = Turns l.0 Shared
act (NoRelease l) Done = Marks l.0 true
act (ReleaseOk l) Done = Marks l.0 false
act _ _ = Nothing

-- what an entry does to the locks that seat t holds
abbrev pub act_by : ℕ → Entry → Act
act_by t e = if e.seat.0 == t then act e.call e.reply else Nothing

abbrev pub is_record : ℕ → Act → Bool
is_record l (Records m) = m == l
is_record l _ = false

abbrev pub is_release : ℕ → Act → Bool
is_release l (Releases m) = m == l
is_release l _ = false

abbrev pub records : ℕ → ℕ → Entry → Bool
records t l e = is_record l (act_by t e)

abbrev pub releases : ℕ → ℕ → Entry → Bool
releases t l e = is_release l (act_by t e)

-- the acquisitions of l that t recorded, less those that it released
unfoldable pub num : ℕ → ℕ → List Entry → ℕ
num t l h = count_by (records t l) h - count_by (releases t l) h

abbrev pub is_held : ℕ → ℕ → List Entry → Bool
is_held t l h = nat_lt 0 (num t l h)

-- whether t comes to hold l by the entry e
abbrev pub rises : ℕ → ℕ → Entry → List Entry → Bool
rises t l e h = not (is_held t l h) && is_held t l (e ∷ h)

-- the place of a held lock: the entry by which its seat came to hold it
unfoldable pub place : ℕ → ℕ → List Entry → ℕ
place t l [] = 0
place t l (e ∷ h) = if rises t l e h then length h else place t l h

abbrev pub pending_after : Call → Option Request → Option Request
pending_after (Check q) p = Some q
pending_after (Note l) p = None
pending_after (GiveUp l) p = None
pending_after _ p = p

-- t's request that passed its check and is neither noted nor given up
abbrev pub pending : ℕ → List Entry → Option Request
pending t [] = None
pending t (e ∷ h) = if e.seat.0 == t then pending_after e.call (pending t h) else pending t h

-- the mode and the site of an acquisition: those of its request, or of the try
abbrev pub asked_mode : Call → Option Request → Mode
asked_mode (Note l) (Some q) = q.mode
asked_mode (NoteTry l m s) p = m
asked_mode _ _ = Exclusive

abbrev pub no_site : Site
no_site = record { file = record { 0 = 0 }; line = 0 }

abbrev pub asked_site : Call → Option Request → Site
asked_site (Note l) (Some q) = q.site
asked_site (NoteTry l m s) p = s
asked_site _ _ = no_site

-- in which mode lock l is held behind an act, and whether it must not be released, by what it was
-- before
abbrev pub turned_by : ℕ → Act → Mode → Mode
turned_by l (Turns m new) old = if m == l then new else old
turned_by l _ old = old

abbrev pub marked_by : ℕ → Act → Bool → Bool
marked_by l (Marks m new) old = if m == l then new else old
marked_by l _ old = old

-- the mode in which t holds l: that of its place, as turned since
unfoldable pub mode : ℕ → ℕ → List Entry → Mode
mode t l [] = Exclusive
mode t l (e ∷ h) =
    if rises t l e h then asked_mode e.call (pending t h) else turned_by l (act_by t e) (mode t l h)

-- whether l must not be released: as marked since its place
unfoldable pub mark : ℕ → ℕ → List Entry → Bool
mark t l [] = false
mark t l (e ∷ h) = if rises t l e h then false else marked_by l (act_by t e) (mark t l h)

-- the site of t's latest recorded acquisition of l
unfoldable pub site : ℕ → ℕ → List Entry → Site
site t l [] = no_site
site t l (e ∷ h) = if records t l e then asked_site e.call (pending t h) else site t l h

-- l as t holds it
abbrev pub instance : ℕ → List Entry → ℕ → Instance
instance t h l =
    record {
      lock = record { 0 = l };
      mode = mode t l h;
      norelease = mark t l h;
      count = num t l h - 1;
      site = site t l h;
    }

-- the lock that this act records, where t holds it after h and its place is i
abbrev pub recorded_at : ℕ → List Entry → Act → ℕ → List ℕ
recorded_at t h (Records l) i = if is_held t l h && (place t l h == i) then l ∷ [] else []
recorded_at t h _ i = []

-- the locks that t holds after h whose places are in past, in the order of their places
abbrev pub held_among : ℕ → List Entry → List Entry → List ℕ
held_among t h [] = []
held_among t h (e ∷ past) = held_among t h past ++ recorded_at t h (act_by t e) (length past)

-- the locks that t holds, in the order of their places
abbrev pub held : ℕ → List Entry → List ℕ
held t h = held_among t h h

-- those of one kind
abbrev pub held_of : Bool → ℕ → List Entry → List ℕ
held_of kind t h = filter (is_of_kind kind (locks_of h)) (held t h)

-- a seat's chain of one kind, oldest first, as the list of held locks of subr_witness.c
abbrev pub chain : Bool → ℕ → List Entry → List Instance
chain kind t h = map (instance t h) (held_of kind t h)

abbrev pub is_on : Watch → Bool
is_on On = true
is_on _ = false

abbrev pub is_off : Watch → Bool
is_off Off = true
is_off _ = false

-- how much is watched: everything, until a call sets another level; nothing, once the chunks were
-- exhausted
abbrev pub watch_after : Call → Reply → Watch → Watch
watch_after (SetWatch level) reply watch = level
watch_after call Exhausted watch = Off
watch_after call reply watch = watch

abbrev pub watch_of : List Entry → Watch
watch_of [] = On
watch_of (e ∷ h) = watch_after e.call e.reply (watch_of h)

abbrev pub is_report : Reply → Bool
is_report (Reversal c) = true
is_report (Duplicate d) = true
is_report Exhausted = true
is_report _ = false

-- how many reports are in a history
abbrev pub reports_of : List Entry → ℕ
reports_of h = count_by (λ (e : Entry). is_report e.reply) h

-- the entries of seat t
abbrev pub own_entries : ℕ → List Entry → List Entry
own_entries t h = filter (λ (e : Entry). e.seat.0 == t) h
