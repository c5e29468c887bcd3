-- The answers to a check, a try and a note are never that the call is passed over: an accepted one
-- is logged.
use Rattle.std.proofs.Common.{◌≡◌, ℕ, Bool, true, false, ◌||◌, cond, List, [], ◌∷◌, Option}
use Rattle.std.proofs.Common.{None, Some, is_some, Result, Ok, Err, refl, ap, sym, ◌∙◌}
use Rattle.std.specs.Option.{option_map}
use Rattle.wit_model.specs.declared.profiles.Profile.{Profile}
use Rattle.wit_model.specs.declared.profiles.Profile.TheVariants.{Plain, AllHeld}
use Rattle.wit_model.specs.declared.faults.Fault.{Fault}
use Rattle.wit_model.specs.declared.faults.Fault.TheVariants.{SleepUnderSpin, SharedOfExclusive}
use Rattle.wit_model.specs.declared.faults.Fault.TheVariants.{ExclusiveOfShared, Recursed}
use Rattle.wit_model.specs.declared.locks.TypeNo.{TypeNo}
use Rattle.wit_model.specs.declared.locks.Mode.{Mode}
use Rattle.wit_model.specs.declared.locks.Site.{Site}
use Rattle.wit_model.specs.declared.locks.Watch.{Watch}
use Rattle.wit_model.specs.declared.locks.Instance.{Instance}
use Rattle.wit_model.specs.declared.calls.TypedRequest.{TypedRequest}
use Rattle.wit_model.specs.declared.calls.Request.{Request}
use Rattle.wit_model.specs.declared.calls.Reply.{Reply}
use Rattle.wit_model.specs.declared.calls.Reply.TheVariants.{Pass, Recorded, Exhausted, Unrecorded}
use Rattle.wit_model.specs.Rules.Locks.{has_flag}
use Rattle.wit_model.specs.Rules.History.{is_off}
use Rattle.wit_model.specs.Rules.Orders.{is_found}
use Rattle.wit_model.specs.Rules.State.{State, Known, Seat, seat_at}
use Rattle.wit_model.specs.Rules.Verdict.{Basis, Rule, when, decided, rules, again, doubled}
use Rattle.wit_model.specs.Rules.Verdict.{reported, basis_of, typed_request, chain_asked, verdict}
use Rattle.wit_model.specs.Rules.Verdict.{told_orders}
use Rattle.wit_model.specs.Rules.Step.{is_exhausted, held_by, recorded_reply, is_logged, step_check}
use Rattle.wit_model.specs.Rules.Step.{before_answering, step_note_try}
use Rattle.wit_model.proofs.Histories.Accepted.{check_accepted, note_accepted, try_accepted}

-- a fault, or a reply that the log keeps
abbrev is_kept : Result Reply Fault → Bool
is_kept (Ok r) = is_logged r
is_kept (Err fault) = true

Kept : Result Reply Fault → Type 0
Kept answer = is_kept answer ≡ true

answered : (r : Reply) → is_logged r ≡ true → Kept (Ok r)
unfolding Kept
answered r kept = kept

failed : (fault : Fault) → Kept (Err fault)
unfolding Kept
failed fault = refl

pick : (b : Bool) (x y : Result Reply Fault) → Kept x → Kept y → Kept (cond b x y)
pick true x y one two = one
pick false x y one two = two

fails : (fault : Fault) (b : Bool) (y : Result Reply Fault) → Kept y → Kept (cond b (Err fault) y)
fails fault b y next = pick b (Err fault) y (failed fault) next

-- ---- the verdict

RuleKept : Rule → Type 0
RuleKept None = Unit {0}
RuleKept (Some answer) = Kept answer

AllKept : List Rule → Type 0
AllKept [] = Unit {0}
AllKept (r ∷ rs) = RuleKept r × AllKept rs

decided_kept : (rs : List Rule) → AllKept rs → Kept (decided rs)
unfolding RuleKept AllKept
decided_kept [] all = answered Pass refl
decided_kept (None ∷ rs) all = decided_kept rs all.1
decided_kept (Some answer ∷ rs) all = all.0

when_kept : (b : Bool) (x : Result Reply Fault) → Kept x → RuleKept (when b x)
unfolding RuleKept
when_kept true x kept = kept
when_kept false x kept = tt

map_kept : (f : Instance → Result Reply Fault) → ((i : Instance) → Kept (f i))
    → (o : Option Instance) → RuleKept (option_map f o)
unfolding RuleKept
map_kept f kept None = tt
map_kept f kept (Some i) = kept i

again_kept : (q : TypedRequest) (i : Instance) → Kept (again q i)
again_kept q i =
    fails SharedOfExclusive _ _ (fails ExclusiveOfShared _ _
    (fails Recursed _ _ (fails Recursed _ _ (answered _ refl))))

doubled_kept : (g : Basis) (q : TypedRequest) (i : Instance) → Kept (doubled g q i)
doubled_kept g q i =
    pick (has_flag q.flags.0 0x02 || has_flag q.ops.0 0x02) _ _ (answered _ refl)
    (pick (is_found g.found q.type_no.0 q.type_no.0) _ _ (answered _ refl) (answered _ refl))

module _ (g : Basis) (watch : Watch) (spin chain : List Instance) (q : TypedRequest) where
  reported_kept : (i : Instance) → Kept (reported g q chain i)
  reported_kept i = pick _ _ _ (answered _ refl) (answered _ refl)

  told_kept : (profile : Profile) (parents : List TypeNo)
      → RuleKept (told_orders profile q parents)
  unfolding RuleKept
  told_kept Plain [] = tt
  told_kept AllHeld [] = tt
  told_kept Plain (p ∷ parents) = answered _ refl
  told_kept AllHeld (p ∷ parents) = answered _ refl

  rules_kept : (profile : Profile) → AllKept (rules profile g watch spin chain q)
  unfolding AllKept
  rules_kept profile = (
    when_kept _ _ (answered _ refl),
    (
      when_kept _ _ (failed SleepUnderSpin),
      (
        when_kept _ _ (answered _ refl),
        (
          map_kept (again q) (again_kept q) _,
          (
            map_kept (doubled g q) (doubled_kept g q) _,
            (
              when_kept _ _ (answered _ refl),
              (map_kept (reported g q chain) reported_kept _, (told_kept profile _, tt)),
            ),
          ),
        ),
      ),
    ),
  )

verdict_kept : (profile : Profile) (k : Known) (watch : Watch) (seat : Seat) (q : Request)
    → Kept (verdict profile k watch seat q)
verdict_kept profile k watch seat q =
    let g = basis_of k in
    let asked = typed_request k q in
    let chain = chain_asked g seat.sleep seat.spin asked in
    decided_kept (rules profile g watch seat.spin chain asked)
    (rules_kept g watch seat.spin chain asked profile)

-- ---- the calls

told : (x : Result Reply Fault) (r : Reply) → Kept x → x ≡ Ok r → is_logged r ≡ true
unfolding Kept
told x r kept is = sym (ap is_kept is) ∙ kept

-- whatever is recorded of an acquisition
by_record : (off held none : Bool)
    → is_logged (cond off Unrecorded (cond held Recorded (cond none Exhausted Recorded))) ≡ true
by_record true held none = refl
by_record false true none = refl
by_record false false true = refl
by_record false false false = refl

recorded_logged : (s : State) (t l : ℕ) (r : Reply) → r ≡ recorded_reply s t l → is_logged r ≡ true
recorded_logged s t l r is =
    ap is_logged is ∙ by_record (is_off s.watch) (is_some (held_by s t l)) (is_exhausted s t l)

pub check_logged : (s : State) (t : ℕ) (q : Request) (r : Reply) → step_check s t q ≡ Ok r
    → is_logged r ≡ true
check_logged s t q r ok =
    told (verdict s.profile s.known s.watch (seat_at s t) q) r
    (verdict_kept s.profile s.known s.watch (seat_at s t) q) (check_accepted s t q r ok).verdict

pub note_logged : (s : State) (t l : ℕ) (r : Reply)
    → before_answering s t l (Ok (recorded_reply s t l)) ≡ Ok r → is_logged r ≡ true
note_logged s t l r ok = recorded_logged s t l r (note_accepted s t l r ok).reply

pub try_logged : (s : State) (t l : ℕ) (m : Mode) (site : Site) (r : Reply)
    → step_note_try s t l m site ≡ Ok r → is_logged r ≡ true
try_logged s t l m site r ok = recorded_logged s t l r (try_accepted s t l m site r ok).reply
