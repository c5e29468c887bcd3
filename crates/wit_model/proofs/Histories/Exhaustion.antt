-- That no chunk is free is told once at most: from then on nothing is watched.
use Rattle.std.proofs.Common.{◌≡◌, ℕ, ◌+◌, ◌≤◌, Bool, true, false, ◌||◌, cond, List, [], ◌∷◌}
use Rattle.std.proofs.Common.{count_by, is_some, Result, Ok, refl, ap, sym, ◌∙◌, arith}
use Rattle.std.proofs.lemmas.Bool.{false≢true}
use Rattle.std.proofs.lemmas.List.Sums.{sum_by-cons}
use Rattle.wit_model.specs.declared.profiles.Profile.{Profile}
use Rattle.wit_model.specs.declared.faults.Fault.{Fault}
use Rattle.wit_model.specs.declared.locks.Watch.{Watch}
use Rattle.wit_model.specs.declared.locks.Instance.{Instance}
use Rattle.wit_model.specs.declared.calls.TypedRequest.{TypedRequest}
use Rattle.wit_model.specs.declared.calls.Call.{Call}
use Rattle.wit_model.specs.declared.calls.Request.{Request}
use Rattle.wit_model.specs.declared.calls.Call.TheVariants.{Init, Check, Note, NoteTry, GiveUp}
use Rattle.wit_model.specs.declared.calls.Call.TheVariants.{Unlock, SetWatch}
use Rattle.wit_model.specs.declared.calls.Reply.{Reply}
use Rattle.wit_model.specs.declared.calls.Reply.TheVariants.{Pass, Silent, Reversal, Duplicate}
use Rattle.wit_model.specs.declared.calls.Reply.TheVariants.{Recorded, Exhausted, Unrecorded}
use Rattle.wit_model.specs.declared.calls.Entry.{Entry}
use Rattle.wit_model.specs.Laws.{is_exhaustion}
use Rattle.wit_model.specs.Rules.Locks.{has_flag}
use Rattle.wit_model.specs.Rules.Orders.{is_found}
use Rattle.wit_model.specs.Rules.History.{is_off, watch_after, watch_of}
use Rattle.wit_model.specs.Rules.State.{Start, State, state_of, seat_at}
use Rattle.wit_model.specs.Rules.Verdict.{Basis, type_held, is_blessed, place_of, place_asked}
use Rattle.wit_model.specs.Rules.Verdict.{conflict, doubled, reported, basis_of, typed_request}
use Rattle.wit_model.specs.Rules.Verdict.{chain_asked}
use Rattle.wit_model.specs.Rules.Step.{held_by, is_exhausted, recorded_reply, step, is_logged}
use Rattle.wit_model.specs.Rules.Step.{answer_of, story_after, IsLegal}
use Rattle.wit_model.proofs.Orders.Ruled.{Says, Passed, Learnt, LearntAll, Doubled, Broken, ruled}
use Rattle.wit_model.proofs.Histories.Accepted.{same_reply, check_accepted, note_accepted}
use Rattle.wit_model.proofs.Histories.Accepted.{try_accepted, give_up_accepted, unlock_accepted}
use Rattle.wit_model.proofs.Histories.AcceptedLocks.{watch_accepted, init_accepted}
use Rattle.wit_model.proofs.Histories.AcceptedTurns.{is_plain_reply, plain_accepted}
use Rattle.wit_model.proofs.Histories.Legal.{watched-before}

-- a check never tells it
told_doubled : (g : Basis) (q : TypedRequest) (i : Instance) (r : Reply) → doubled g q i ≡ Ok r
    → is_exhaustion r ≡ false
told_doubled g q i r =
    go (has_flag q.flags.0 0x02 || has_flag q.ops.0 0x02) (is_found g.found q.type_no.0 q.type_no.0)
  where
    go : (a b : Bool)
        → cond {A = Result Reply Fault} a (Ok Pass)
        (cond b (Ok (Silent q.type_no q.type_no))
        (Ok (Duplicate (record { last = place_of i; asked = place_asked q })))) ≡ Ok r
        → is_exhaustion r ≡ false
    go true b ok = sym (ap is_exhaustion (same_reply ok))
    go false true ok = sym (ap is_exhaustion (same_reply ok))
    go false false ok = sym (ap is_exhaustion (same_reply ok))

told_reported : (g : Basis) (q : TypedRequest) (c : List Instance) (i : Instance) (r : Reply)
    → reported g q c i ≡ Ok r → is_exhaustion r ≡ false
told_reported g q c i r =
    go (is_found g.found (type_held g i).0 q.type_no.0 || is_blessed g (type_held g i) q.type_no)
  where
    go : (a : Bool) → cond {A = Result Reply Fault} a (Ok (Silent (type_held g i) q.type_no))
        (Ok (Reversal (conflict g q c i))) ≡ Ok r → is_exhaustion r ≡ false
    go true ok = sym (ap is_exhaustion (same_reply ok))
    go false ok = sym (ap is_exhaustion (same_reply ok))

told_ruled : (profile : Profile) (g : Basis) (w : Watch) (q : TypedRequest) (c : List Instance)
    (r : Reply) → Says profile g w q c r → is_exhaustion r ≡ false
told_ruled profile g w q c r (Passed same cause) = ap is_exhaustion same
told_ruled profile g w q c r (LearntAll all l) = ap is_exhaustion l.reply
told_ruled profile g w q c r (Learnt plain l) = ap is_exhaustion l.reply
told_ruled profile g w q c r (Doubled d) = told_doubled g q d.held r d.reply
told_ruled profile g w q c r (Broken b) = told_reported g q c b.held r b.reply

pub check-told : (s : State) (t : ℕ) (q : Request) (r : Reply) → step s t (Check q) ≡ Ok r
    → is_exhaustion r ≡ false
check-told s t q r ok =
    let said =
    ruled s.profile (basis_of s.known) s.watch (seat_at s t).sleep (seat_at s t).spin
    (typed_request s.known q) r (check_accepted s t q r ok).verdict in
    told_ruled s.profile (basis_of s.known) s.watch (typed_request s.known q)
    (chain_asked (basis_of s.known) (seat_at s t).sleep (seat_at s t).spin
    (typed_request s.known q)) r said

-- an acquisition tells it only where something is watched
told_recorded : (off held none : Bool)
    → is_exhaustion (cond off Unrecorded (cond held Recorded (cond none Exhausted Recorded)))
    ≡ true → off ≡ false
told_recorded true held none is = absurd (false≢true is)
told_recorded false held none is = refl

told_acquired : (s : State) (t l : ℕ) (r : Reply) → r ≡ recorded_reply s t l
    → is_exhaustion r ≡ true → is_off s.watch ≡ false
told_acquired s t l r same is =
    told_recorded (is_off s.watch) (is_some (held_by s t l)) (is_exhausted s t l)
    (sym (ap is_exhaustion same) ∙ is)

not_told : {P : Type 0} (r : Reply) → is_exhaustion r ≡ false → is_exhaustion r ≡ true → P
not_told r plain is = absurd (false≢true (sym plain ∙ is))

plain-told : (r : Reply) → is_plain_reply r ≡ true → is_exhaustion r ≡ false
plain-told Exhausted plain = absurd (false≢true plain)
plain-told r plain = refl

told_watched : (s : State) (t : ℕ) (c : Call) (r : Reply) → step s t c ≡ Ok r → is_logged r ≡ true
    → is_exhaustion r ≡ true → is_off s.watch ≡ false
told_watched s t (Init lock) r ok kept is =
    not_told r (ap is_exhaustion (init_accepted s t lock r ok).reply) is
told_watched s t (Check q) r ok kept is = not_told r (check-told s t q r ok) is
told_watched s t (Note l) r ok kept is =
    told_acquired s t l.0 r (note_accepted s t l.0 r ok).reply is
told_watched s t (NoteTry l m site) r ok kept is =
    told_acquired s t l.0 r (try_accepted s t l.0 m site r ok).reply is
told_watched s t (GiveUp l) r ok kept is =
    not_told r (ap is_exhaustion (give_up_accepted s t l.0 r ok).reply) is
told_watched s t (Unlock l m) r ok kept is =
    not_told r (ap is_exhaustion (unlock_accepted s t l.0 m r ok kept).reply) is
told_watched s t c r ok kept is =
    not_told r (plain-told r (plain_accepted s t c r refl ok kept).reply) is

-- and nothing is watched afterwards
told_off : (s : State) (t : ℕ) (c : Call) (r : Reply) → step s t c ≡ Ok r → is_exhaustion r ≡ true
    → is_off (watch_after c r s.watch) ≡ true
told_off s t (SetWatch w) r ok is =
    not_told r (ap is_exhaustion (watch_accepted s t w r ok).reply) is
told_off s t c Exhausted ok is = refl
told_off s t c r ok is = not_told r refl is

told : List Entry → ℕ
told h = count_by (λ (e : Entry). is_exhaustion e.reply) h

told-cons : (x : Entry) (h : List Entry) → told (x ∷ h) ≡ cond (is_exhaustion x.reply) 1 0 + told h
unfolding told
told-cons x h = sum_by-cons (λ (e : Entry). cond (is_exhaustion e.reply) 1 0) x h

-- it wasn't told while something is watched
record IsTold (h : List Entry) : Type 0 where
  once : told h ≤ 1
  fresh : is_off (watch_of h) ≡ false → told h ≡ 0

told_more : (start : Start) (files : List (List ℕ)) (h : List Entry) (x : Entry)
    → answer_of (story_after start files h) x.seat.0 x.call ≡ Ok x.reply
    → is_logged x.reply ≡ true → IsTold h → IsTold (x ∷ h)
told_more start files h x ok kept all = go (is_exhaustion x.reply) refl
  where
    go : (b : Bool) → is_exhaustion x.reply ≡ b → IsTold (x ∷ h)
    go true is =
        let s = state_of (story_after start files h) in
        let none = all.fresh (told_watched s x.seat.0 x.call x.reply ok kept is) in
        let more : told (x ∷ h) ≡ 1 + told h = told-cons x h ∙ ap (λ b. cond b 1 0 + told h) is in
        record {
          once = omega (arith, none, more);
          fresh = λ some. absurd (false≢true (sym some ∙ told_off s x.seat.0 x.call x.reply ok is));
        }
    go false is =
        let same : told (x ∷ h) ≡ 0 + told h = told-cons x h ∙ ap (λ b. cond b 1 0 + told h) is in
        record {
          once = omega (arith, all.once, same);
          fresh =
              λ some. (let none = all.fresh (watched-before start files h x ok some) in
              omega (arith, none, same));
        }

told_legal : (start : Start) (files : List (List ℕ)) (h : List Entry)
    → IsLegal start files h → IsTold h
unfolding told
told_legal start files [] legal = record { once = omega arith; fresh = λ some. refl }
told_legal start files (x ∷ h) legal =
    told_more start files h x legal.0 legal.1 (told_legal start files h legal.2)

pub told_once : (start : Start) (files : List (List ℕ)) (h : List Entry) → IsLegal start files h
    → count_by (λ (e : Entry). is_exhaustion e.reply) h ≤ 1
unfolding told
told_once start files h legal = (told_legal start files h legal).once
