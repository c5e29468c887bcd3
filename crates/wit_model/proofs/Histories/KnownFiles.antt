-- A check or a try that tells a named file isn't refused for its file.
use Rattle.std.proofs.Common.{◌≡◌, ℕ, Bool, true, false, not, ◌||◌, cond, List, [], ◌∷◌}
use Rattle.std.proofs.Common.{Option, None, Some, Result, Ok, Err, refl, ap, sym, ◌∙◌, subst}
use Rattle.std.specs.Option.{option_map}
use Rattle.std.proofs.lemmas.Bool.{false≢true}
use Rattle.wit_model.specs.declared.profiles.Profile.{Profile}
use Rattle.wit_model.specs.declared.profiles.Profile.TheVariants.{Plain, AllHeld}
use Rattle.wit_model.specs.declared.faults.Fault.{Fault}
use Rattle.wit_model.specs.declared.faults.Fault.TheVariants.{UnknownSeat, UnknownLock, UnknownFile}
use Rattle.wit_model.specs.declared.faults.Fault.TheVariants.{ModeNotAllowed, Pending}
use Rattle.wit_model.specs.declared.faults.Fault.TheVariants.{RecursionTooDeep, LogFull}
use Rattle.wit_model.specs.declared.faults.Fault.TheVariants.{SleepUnderSpin, SharedOfExclusive}
use Rattle.wit_model.specs.declared.faults.Fault.TheVariants.{ExclusiveOfShared, Recursed}
use Rattle.wit_model.specs.declared.locks.TypeNo.{TypeNo}
use Rattle.wit_model.specs.declared.locks.Mode.{Mode}
use Rattle.wit_model.specs.declared.locks.Site.{Site}
use Rattle.wit_model.specs.declared.locks.Watch.{Watch}
use Rattle.wit_model.specs.declared.locks.Instance.{Instance}
use Rattle.wit_model.specs.declared.calls.TypedRequest.{TypedRequest}
use Rattle.wit_model.specs.declared.calls.Request.{Request}
use Rattle.wit_model.specs.declared.calls.Reply.{Reply}
use Rattle.wit_model.specs.declared.calls.Reply.TheVariants.{Pass}
use Rattle.wit_model.specs.Rules.Numbers.{is_number}
use Rattle.wit_model.specs.Rules.Locks.{has_flag}
use Rattle.wit_model.specs.Rules.Orders.{is_found}
use Rattle.wit_model.specs.Rules.State.{State, Known, Seat, seat_at, has_room}
use Rattle.wit_model.specs.Rules.Verdict.{Basis, Rule, when, decided, rules, again, doubled}
use Rattle.wit_model.specs.Rules.Verdict.{reported, basis_of, typed_request, chain_asked, verdict}
use Rattle.wit_model.specs.Rules.Verdict.{told_orders}
use Rattle.wit_model.specs.Rules.Step.{with_room, recorded_reply, step_check, step_note_try}

-- the answer is another than that the file is unknown
abbrev is_other : Result Reply Fault → Bool
is_other (Err UnknownFile) = false
is_other answer = true

Other : Result Reply Fault → Type 0
Other answer = is_other answer ≡ true

failed : (fault : Fault) → is_other (Err fault) ≡ true → Other (Err fault)
unfolding Other
failed fault other = other

answered : (r : Reply) → Other (Ok r)
unfolding Other
answered r = refl

pick : (b : Bool) (x y : Result Reply Fault) → Other x → Other y → Other (cond b x y)
pick true x y one two = one
pick false x y one two = two

-- a fault that comes first
fails : (fault : Fault) → is_other (Err fault) ≡ true
    → (b : Bool) (y : Result Reply Fault) → Other y → Other (cond b (Err fault) y)
fails fault other b y next = pick b (Err fault) y (failed fault other) next

-- the file is known
past : (b : Bool) (x : Result Reply Fault) → b ≡ true → Other x
    → Other (cond (not b) (Err UnknownFile) x)
past b x known other = subst (λ f. Other (cond (not f) (Err UnknownFile) x)) (sym known) other

-- ---- the verdict

RuleOther : Rule → Type 0
RuleOther None = Unit {0}
RuleOther (Some answer) = Other answer

AllOther : List Rule → Type 0
AllOther [] = Unit {0}
AllOther (r ∷ rs) = RuleOther r × AllOther rs

decided_other : (rs : List Rule) → AllOther rs → Other (decided rs)
unfolding RuleOther AllOther
decided_other [] all = answered Pass
decided_other (None ∷ rs) all = decided_other rs all.1
decided_other (Some answer ∷ rs) all = all.0

when_other : (b : Bool) (x : Result Reply Fault) → Other x → RuleOther (when b x)
unfolding RuleOther
when_other true x other = other
when_other false x other = tt

map_other : (f : Instance → Result Reply Fault) → ((i : Instance) → Other (f i))
    → (o : Option Instance) → RuleOther (option_map f o)
unfolding RuleOther
map_other f other None = tt
map_other f other (Some i) = other i

again_other : (q : TypedRequest) (i : Instance) → Other (again q i)
again_other q i =
    fails SharedOfExclusive refl _ _ (fails ExclusiveOfShared refl _ _
    (fails Recursed refl _ _ (fails Recursed refl _ _ (answered _))))

doubled_other : (g : Basis) (q : TypedRequest) (i : Instance) → Other (doubled g q i)
doubled_other g q i =
    pick (has_flag q.flags.0 0x02 || has_flag q.ops.0 0x02) _ _ (answered _)
    (pick (is_found g.found q.type_no.0 q.type_no.0) _ _ (answered _) (answered _))

module _ (g : Basis) (watch : Watch) (spin chain : List Instance) (q : TypedRequest) where
  reported_other : (i : Instance) → Other (reported g q chain i)
  reported_other i = pick _ _ _ (answered _) (answered _)

  told_other : (profile : Profile) (parents : List TypeNo)
      → RuleOther (told_orders profile q parents)
  unfolding RuleOther
  told_other Plain [] = tt
  told_other AllHeld [] = tt
  told_other Plain (p ∷ parents) = answered _
  told_other AllHeld (p ∷ parents) = answered _

  rules_other : (profile : Profile) → AllOther (rules profile g watch spin chain q)
  unfolding AllOther
  rules_other profile = (
    when_other _ _ (answered _),
    (
      when_other _ _ (failed SleepUnderSpin refl),
      (
        when_other _ _ (answered _),
        (
          map_other (again q) (again_other q) _,
          (
            map_other (doubled g q) (doubled_other g q) _,
            (
              when_other _ _ (answered _),
              (map_other (reported g q chain) reported_other _, (told_other profile _, tt)),
            ),
          ),
        ),
      ),
    ),
  )

verdict_other : (profile : Profile) (k : Known) (watch : Watch) (seat : Seat) (q : Request)
    → Other (verdict profile k watch seat q)
verdict_other profile k watch seat q =
    let g = basis_of k in
    let asked = typed_request k q in
    let chain = chain_asked g seat.sleep seat.spin asked in
    decided_other (rules profile g watch seat.spin chain asked)
    (rules_other g watch seat.spin chain asked profile)

-- ---- the calls

room_other : (s : State) (n : ℕ) (x : Result Reply Fault) → Other x → Other (with_room s n x)
room_other s n (Err fault) other = other
room_other s n (Ok r) other = pick (has_room s n) (Ok r) (Err LogFull) other (failed LogFull refl)

check_other : (s : State) (t : ℕ) (q : Request)
    → is_number s.files q.site.file.0 ≡ true → Other (step_check s t q)
check_other s t q known =
    fails UnknownSeat refl _ _ (fails UnknownLock refl _ _
    (past (is_number s.files q.site.file.0) _ known
    (fails ModeNotAllowed refl _ _ (fails Pending refl _ _ (fails RecursionTooDeep refl _ _
    (room_other s 3 (verdict s.profile s.known s.watch (seat_at s t) q)
    (verdict_other s.profile s.known s.watch (seat_at s t) q)))))))

try_other : (s : State) (t l : ℕ) (m : Mode) (site : Site)
    → is_number s.files site.file.0 ≡ true → Other (step_note_try s t l m site)
try_other s t l m site known =
    fails UnknownSeat refl _ _ (fails UnknownLock refl _ _
    (past (is_number s.files site.file.0) _ known
    (fails ModeNotAllowed refl _ _ (fails Pending refl _ _ (fails RecursionTooDeep refl _ _
    (room_other s 2 (Ok (recorded_reply s t l)) (answered (recorded_reply s t l))))))))

told-known : (x : Result Reply Fault) → Other x → x ≡ Err UnknownFile → ⊥
unfolding Other
told-known x other is = false≢true (sym (ap is_other is) ∙ other)

pub check_known : (s : State) (t : ℕ) (q : Request)
    → is_number s.files q.site.file.0 ≡ true → step_check s t q ≡ Err UnknownFile → ⊥
check_known s t q known = told-known (step_check s t q) (check_other s t q known)

pub try_known : (s : State) (t l : ℕ) (m : Mode) (site : Site)
    → is_number s.files site.file.0 ≡ true → step_note_try s t l m site ≡ Err UnknownFile → ⊥
try_known s t l m site known =
    told-known (step_note_try s t l m site) (try_other s t l m site known)
