-- The line of a step, copied from the one beside it.
use Rattle.std.proofs.Common.{◌≡◌, ℕ, ◌-◌, List, [], ◌∷◌, ◌++◌, length, take, drop, codes}
use Rattle.std.proofs.Common.{Some, sym, ap, ◌∙◌, decimal, arith}
use Rattle.std.proofs.Common.{append_assoc, append-nil, take_at}
use Rattle.std.proofs.lemmas.List.{length-append, take_rest}
use Rattle.wit_model.specs.declared.lines.Line.{Line}
use Rattle.wit_model.specs.declared.lines.Line.TheVariants.{Header, Profile, Order, Bless, Init}
use Rattle.wit_model.specs.declared.lines.Line.TheVariants.{OnLock, Assert, Warn, Define, Watch}
use Rattle.wit_model.specs.declared.lines.LockLine.TheVariants.{Check, Try, Unlock, Plain, Step}
use Rattle.wit_model.specs.declared.lines.Verb.TheVariants.{Note, GiveUp, Destroy, Upgrade}
use Rattle.wit_model.specs.declared.lines.Verb.TheVariants.{Downgrade, NoRelease, ReleaseOk}
use Rattle.wit_model.specs.declared.locks.LockNo.{LockNo}
use Rattle.wit_model.specs.declared.locks.Mode.{Mode}
use Rattle.wit_model.specs.declared.locks.Mode.TheVariants.{Shared, Exclusive}
use Rattle.wit_model.specs.declared.locks.SeatNo.{SeatNo}
use Rattle.wit_model.specs.Trace.LineCalls.{call_of}
use Rattle.wit_model.specs.Trace.Reading.{line_of}
use Rattle.wit_model.specs.Trace.Spelling.{spaced, spelling}
use Rattle.wit_model.proofs.Spelling.Laws.{line_takes}
use Rattle.wit_lines.specs.LineCalls.{at_number}
use Rattle.wit_migrate.specs.Migrates.{IsLineOf}

-- ---- which line it is

spells_call : (bytes : List ℕ) (line : Line) (file : ℕ) → bytes ≡ spelling line
    → IsLineOf (at_number (call_of line) file) bytes
spells_call bytes (Header v s t l c) file is = tt
spells_call bytes Profile file is = tt
spells_call bytes (Order list) file is = tt
spells_call bytes (Bless a b) file is = tt
spells_call bytes (Init s l) file is = tt
spells_call bytes (OnLock (Check s l m o f n)) file is = tt
spells_call bytes (OnLock (Try s l m f n)) file is = tt
spells_call bytes (OnLock (Unlock s l m)) file is = is
spells_call bytes (OnLock (Plain Note s l)) file is = is
spells_call bytes (OnLock (Plain GiveUp s l)) file is = tt
spells_call bytes (OnLock (Plain Destroy s l)) file is = tt
spells_call bytes (OnLock (Plain Upgrade s l)) file is = tt
spells_call bytes (OnLock (Plain Downgrade s l)) file is = tt
spells_call bytes (OnLock (Plain NoRelease s l)) file is = tt
spells_call bytes (OnLock (Plain ReleaseOk s l)) file is = tt
spells_call bytes (OnLock (Step s l step)) file is = tt
spells_call bytes (Assert s l a) file is = tt
spells_call bytes (Warn s l f) file is = tt
spells_call bytes (Define s a b) file is = tt
spells_call bytes (Watch s w) file is = tt

-- a line that is read is that of its call
pub read_call : (bytes : List ℕ) (line : Line) (file : ℕ) → line_of bytes ≡ Some line
    → IsLineOf (at_number (call_of line) file) bytes
read_call bytes line file found = spells_call bytes line file (line_takes bytes line found).0

-- ---- what is copied of it

-- the seat and the lock of a line, each behind its space
abbrev two_fields : SeatNo → LockNo → List ℕ
two_fields seat lock = spaced (decimal seat.0 ∷ decimal lock.0 ∷ [])

pub taken_from : (seat : SeatNo) (lock : LockNo) (bytes : List ℕ)
    → bytes ≡ spelling (OnLock (Plain Note seat lock))
    → take (length bytes - 4) (drop 4 bytes) ≡ two_fields seat lock
taken_from seat lock bytes is = take_rest bytes 4 ∙ ap (λ line. drop 4 line) is

-- the mode stands behind them, and is one byte
abbrev with_last : SeatNo → LockNo → ℕ → List ℕ
with_last seat lock last = codes "unlock" ++ (two_fields seat lock ++ 32 ∷ last ∷ [])

last_joined : (seat : SeatNo) (lock : LockNo) (last : ℕ)
    → codes "unlock" ++ spaced (decimal seat.0 ∷ decimal lock.0 ∷ (last ∷ []) ∷ [])
    ≡ with_last seat lock last
last_joined seat lock last =
    ap (λ l. codes "unlock" ++ 32 ∷ (decimal seat.0 ++ 32 ∷ (l ++ 32 ∷ last ∷ [])))
    (sym (append-nil (decimal lock.0)))
    ∙ ap (λ t. codes "unlock" ++ 32 ∷ t)
    (sym (append_assoc (decimal seat.0) (32 ∷ (decimal lock.0 ++ [])) (32 ∷ last ∷ [])))

unlocked : (seat : SeatNo) (lock : LockNo) (mode : Mode)
    → (last : ℕ) × (spelling (OnLock (Unlock seat lock mode)) ≡ with_last seat lock last)
unlocked seat lock Shared = (115, last_joined seat lock 115)
unlocked seat lock Exclusive = (120, last_joined seat lock 120)

pub freed_from : (seat : SeatNo) (lock : LockNo) (mode : Mode) (bytes : List ℕ)
    → bytes ≡ spelling (OnLock (Unlock seat lock mode))
    → take (length bytes - 2 - 6) (drop 6 bytes) ≡ two_fields seat lock
freed_from seat lock mode bytes is =
    let u = unlocked seat lock mode in
    let fields = two_fields seat lock in
    let whole : bytes ≡ codes "unlock" ++ (fields ++ 32 ∷ u.0 ∷ []) = is ∙ u.1 in
    let long : length fields ≡ length bytes - 2 - 6
    = rw whole (omega (arith, length-append fields (32 ∷ u.0 ∷ []))) in
    ap (λ line. take (length bytes - 2 - 6) (drop 6 line)) whole
    ∙ take_at fields (32 ∷ u.0 ∷ []) (length bytes - 2 - 6) long
