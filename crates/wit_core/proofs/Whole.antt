-- What a verifier keeps follows from what ties its parts to its history.
use Rattle.std.proofs.Common.{◌≡◌, ℕ, ◌≤◌, Option, None, Some, IfSome, Ok, true, ap, sym, subst}
use Rattle.std.proofs.Common.{arith}
use Rattle.wit_model.specs.declared.locks.Watch.{Watch}
use Rattle.wit_model.specs.declared.calls.Reply.{Reply}
use Rattle.wit_model.specs.declared.calls.Reply.TheVariants.{Adopted, AdoptedAll}
use Rattle.wit_model.specs.Rules.Orders.{IsSound, is_direct}
use Rattle.wit_model.specs.Rules.State.{Known, orders_of, found_of}
use Rattle.wit_model.specs.Rules.Step.{answer_of, is_logged}
use Rattle.wit_matrix.proofs.Settled.{same_cell}
use Rattle.wit_core.specs.declared.verifier.Verifier.TheInside.{Inside}
use Rattle.wit_core.specs.Journal.{Journal}
use Rattle.wit_core.specs.declared.ready.Ready.{Ready}
use Rattle.wit_core.specs.Kept.{IsReady, IsTied, IsKept, story_in, start_in, history_in}
use Rattle.wit_known.specs.Known.{Facts, IsRoomFor}
use Rattle.wit_core.specs.Plans.{planned_call, entries_for}
use Rattle.wit_waiting.specs.Seats.{Seating}
use Rattle.wit_core.proofs.Apart.{apart_kept}
use Rattle.wit_core.proofs.Apt.{known-is}
use Rattle.wit_core.proofs.Holding.{chain-held, holds-all}
use Rattle.wit_core.proofs.Keeping.{sound_kept, with_parts}
use Rattle.wit_core.proofs.Seen.{as_itself}

-- room for what a reply teaches
room_more : (r : Reply) (n m : ℕ) → n ≤ m → IsRoomFor r n → IsRoomFor r m
room_more (Adopted p c) n m le room = omega arith
room_more (AdoptedAll pairs) n m le room = omega arith
room_more r n m le room = tt

pub kept : {v : Inside} → IsTied v → IsKept v
kept {v} k = record {
  cells = λ a b.
      same_cell v.known.known.orders (orders_of (start_in v) (history_in v)) v.known.known.found
      (found_of (start_in v) (history_in v))
      (λ i j. ap (λ (x : Known). is_direct x.orders i j) (known-is v k)) k.found a b;
  sound = subst IsSound (sym (ap (λ (x : Known). x.orders) (known-is v k))) (sound_kept v k);
  chains = λ t spin given. chain-held v k t spin given;
  chunks = λ c holds. holds-all (as_itself k) c holds;
  apart = apart_kept v k;
  tied = k;
}

-- a call that was prepared is let go
pub kept_let_go : (v : Inside) (known : Facts) (seats : Seating) (watch : Watch) (log : Journal)
    (o : Option Ready) → o ≡ None → IsKept (with_parts v known seats watch log)
    → IsKept (record (with_parts v known seats watch log) { ready = o })
kept_let_go v known seats watch log o none k =
    subst (λ (x : Option Ready).
    IsKept (record (with_parts v known seats watch log) { ready = x })) (sym none) k

-- a verifier with this known and this log, and this call prepared
abbrev pub with_ready : Inside → Facts → Journal → Option Ready → Inside
with_ready v known log ready = record v { known = known; log = log; ready = ready }

-- an answer asks nothing of the room
pub same_answer : (v : Inside) (known : Facts) (log : Journal) (ready : Option Ready) (r : Ready)
    → known ≡ record v.known { spare = known.spare }
    → log ≡ record v.log { spare = log.spare }
    → answer_of (story_in v) r.seat.0 (planned_call r.plan) ≡ Ok r.reply
    → answer_of (story_in (with_ready v known log ready)) r.seat.0 (planned_call r.plan)
    ≡ Ok r.reply
same_answer v known log ready r knows logs ok =
    rw (knows, logs) ok

-- more room, and a call that is ready, leave all of it
pub kept_ready : (v : Inside) (known : Facts) (log : Journal) (ready : Option Ready) → IsKept v
    → known ≡ record v.known { spare = known.spare }
    → log ≡ record v.log { spare = log.spare }
    → IfSome ready (IsReady (with_ready v known log ready))
    → IsKept (with_ready v known log ready)
kept_ready v known log ready k knows logs =
    subst (λ (f : Facts). IfSome ready (IsReady (with_ready v f log ready))
    → IsKept (with_ready v f log ready)) (sym knows)
    (subst (λ (l : Journal). IfSome ready
    (IsReady (with_ready v (record v.known { spare = known.spare }) l ready))
    → IsKept (with_ready v (record v.known { spare = known.spare }) l ready)) (sym logs)
    (λ is. kept (record {
      started = k.tied.started;
      legal = k.tied.legal;
      state = k.tied.state;
      found = k.tied.found;
      live = k.tied.live;
      owed = k.tied.owed;
      limit = k.tied.limit;
      types = k.tied.types;
      chunks = k.tied.chunks;
      ready = is;
    })))

-- a call stays ready where there is more room
ready_roomy : (v : Inside) (known : Facts) (log : Journal) (o : Option Ready)
    → known ≡ record v.known { spare = known.spare } → log ≡ record v.log { spare = log.spare }
    → v.known.spare ≤ known.spare → v.log.spare ≤ log.spare → IfSome o (IsReady v)
    → IfSome o (IsReady (with_ready v known log v.ready))
ready_roomy v known log None knows logs more longer h = tt
ready_roomy v known log (Some r) knows logs more longer h = record {
  answer = same_answer v known log v.ready r knows logs h.answer;
  kept = h.kept;
  logged = h.logged;
  log = (let room = h.log in omega (arith, room, longer));
  known = room_more r.reply v.known.spare known.spare more h.known;
}

pub kept_roomy : (v : Inside) (known : Facts) (log : Journal) → IsKept v
    → known ≡ record v.known { spare = known.spare }
    → log ≡ record v.log { spare = log.spare } → v.known.spare ≤ known.spare
    → v.log.spare ≤ log.spare → IsKept (record v { known = known; log = log })
kept_roomy v known log k knows logs more longer =
    kept_ready v known log v.ready k knows logs
    (ready_roomy v known log v.ready knows logs more longer k.tied.ready)

-- and so does making a call ready, once there is room for it
pub kept_made_ready : (v : Inside) (known : Facts) (log : Journal) (r : Ready) → IsKept v
    → known ≡ record v.known { spare = known.spare }
    → log ≡ record v.log { spare = log.spare }
    → answer_of (story_in v) r.seat.0 (planned_call r.plan) ≡ Ok r.reply → r.kept ≡ r.reply
    → is_logged r.reply ≡ true
    → entries_for (planned_call r.plan) ≤ log.spare → IsRoomFor r.reply known.spare
    → IsKept (with_ready v known log (Some r))
kept_made_ready v known log r k knows logs ok same kept_in_log longer more =
    kept_ready v known log (Some r) k knows logs
    (record {
      answer = same_answer v known log (Some r) r knows logs ok;
      kept = same;
      logged = kept_in_log;
      log = longer;
      known = more;
    })
