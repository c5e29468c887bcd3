-- What the acceptance says of a call that makes or destroys a lock, or sets the watch.
use Rattle.std.proofs.Common.{◌≡◌, ℕ, ◌+◌, true, false, not, ◌&&◌, nat_le, length, Ok, sym}
use Rattle.wit_model.specs.declared.locks.Watch.{Watch}
use Rattle.wit_model.specs.declared.calls.NewLock.{NewLock}
use Rattle.wit_model.specs.declared.calls.Reply.{Reply}
use Rattle.wit_model.specs.declared.calls.Reply.TheVariants.{Made, Done}
use Rattle.wit_model.specs.Rules.Names.{is_name}
use Rattle.wit_model.specs.Rules.History.{is_off}
use Rattle.wit_model.specs.Rules.Types.{type_name_of, is_enrolled, is_otherwise}
use Rattle.wit_model.specs.Rules.State.{State, is_seat, is_live, has_room}
use Rattle.wit_model.specs.Rules.Step.{is_pending, is_good_name, step_init, step_set_watch}
use Rattle.wit_model.specs.Rules.Numbers.{is_given}
use Rattle.wit_model.specs.Rules.Destroying.{is_used, step_destroy}
use Rattle.wit_model.proofs.Histories.Accepted.{passed, passed_not, same_reply, live-given, roomy}

pub record WatchAccepted (s : State) (t : ℕ) (w : Watch) (r : Reply) : Type 0 where
  pub seat : is_seat s t ≡ true
  pub idle : is_pending s t ≡ false
  pub level : (is_off s.watch && not (is_off w)) ≡ false
  pub room : has_room s 1 ≡ true
  pub reply : r ≡ Done

pub watch_accepted : (s : State) (t : ℕ) (w : Watch) (r : Reply) → step_set_watch s t w ≡ Ok r
    → WatchAccepted s t w r
watch_accepted s t w r ok =
    let a = passed_not (is_seat s t) _ _ r ok in
    let b = passed (is_pending s t) _ _ r a.1 in
    let c = passed (is_off s.watch && not (is_off w)) _ _ r b.1 in
    let d = roomy s 1 (Ok Done) r c.1 in
    record { seat = a.0; idle = b.0; level = c.0; room = d.1; reply = sym (same_reply d.0) }

pub record InitAccepted (s : State) (t : ℕ) (lock : NewLock) (r : Reply) : Type 0 where
  pub seat : is_seat s t ≡ true
  pub idle : is_pending s t ≡ false
  pub names : (is_name lock.name && is_good_name lock.type_name) ≡ true
  pub class : is_otherwise (type_name_of lock) lock.class s.known.types ≡ false
  pub types : (not (is_enrolled (type_name_of lock) s.known.types)
      && nat_le s.sizes.types (length s.known.types)) ≡ false
  pub locks : nat_le s.sizes.locks (length s.known.locks) ≡ false
  pub room : has_room s 1 ≡ true
  pub reply : r ≡ Made (record { 0 = length s.known.locks + 1 })

pub init_accepted : (s : State) (t : ℕ) (lock : NewLock) (r : Reply) → step_init s t lock ≡ Ok r
    → InitAccepted s t lock r
init_accepted s t lock r ok =
    let a = passed_not (is_seat s t) _ _ r ok in
    let b = passed (is_pending s t) _ _ r a.1 in
    let c = passed_not (is_name lock.name && is_good_name lock.type_name) _ _ r b.1 in
    let d = passed (is_otherwise (type_name_of lock) lock.class s.known.types) _ _ r c.1 in
    let e =
    passed (not (is_enrolled (type_name_of lock) s.known.types)
    && nat_le s.sizes.types (length s.known.types)) _ _ r d.1 in
    let f = passed (nat_le s.sizes.locks (length s.known.locks)) _ _ r e.1 in
    let g = roomy s 1 (Ok (Made (record { 0 = length s.known.locks + 1 }))) r f.1 in
    record {
      seat = a.0;
      idle = b.0;
      names = c.0;
      class = d.0;
      types = e.0;
      locks = f.0;
      room = g.1;
      reply = sym (same_reply g.0);
    }

pub record DestroyAccepted (s : State) (t l : ℕ) (r : Reply) : Type 0 where
  pub seat : is_seat s t ≡ true
  pub lock : is_given s.known.locks l ≡ true
  pub live : is_live s l ≡ true
  pub idle : is_pending s t ≡ false
  pub unused : is_used s l ≡ false
  pub room : has_room s 1 ≡ true
  pub reply : r ≡ Done

pub destroy_accepted : (s : State) (t l : ℕ) (r : Reply) → step_destroy s t l ≡ Ok r
    → DestroyAccepted s t l r
destroy_accepted s t l r ok =
    let a = passed_not (is_seat s t) _ _ r ok in
    let b = passed_not (is_live s l) _ _ r a.1 in
    let c = passed (is_pending s t) _ _ r b.1 in
    let d = passed (is_used s l) _ _ r c.1 in
    let e = roomy s 1 (Ok Done) r d.1 in
    record {
      seat = a.0;
      lock = live-given s l b.0;
      live = b.0;
      idle = c.0;
      unused = d.0;
      room = e.1;
      reply = sym (same_reply e.0);
    }
