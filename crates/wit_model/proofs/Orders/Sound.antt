-- No order that is learnt turns one round: so no type is ever before itself.
use Rattle.std.proofs.Common.{◌≡◌, ℕ, Bool, true, false, List, [], ◌∷◌, ◌++◌, reverse, Some, None}
use Rattle.std.proofs.Common.{Ok, refl, ap, sym, ◌∙◌, subst}
use Rattle.std.specs.List.{list_all, last_or}
use Rattle.std.proofs.lemmas.Bool.{and_parts, and_from}
use Rattle.wit_model.specs.declared.locks.TypeNo.{TypeNo}
use Rattle.wit_model.specs.declared.locks.Instance.{Instance}
use Rattle.wit_model.specs.declared.locks.Origin.TheVariants.{Defined, At}
use Rattle.wit_model.specs.declared.calls.Request.{Request}
use Rattle.wit_model.specs.declared.calls.Call.{Call}
use Rattle.wit_model.specs.declared.calls.Call.TheVariants.{Check, DefineOrder}
use Rattle.wit_model.specs.declared.calls.Reply.{Reply}
use Rattle.wit_model.specs.declared.calls.Reply.TheVariants.{Adopted, AdoptedAll}
use Rattle.wit_model.specs.declared.calls.Entry.{Entry}
use Rattle.wit_model.specs.Rules.Types.{is_spin, class_of}
use Rattle.wit_model.specs.Rules.Locks.{locks_of, lock_at}
use Rattle.wit_model.specs.Rules.Orders.{is_before, IsSound, adopted}
use Rattle.wit_model.specs.Rules.History.{is_held}
use Rattle.wit_model.specs.Rules.State.{Start, seat_at, known_of, state_of, types_of, typed_locks}
use Rattle.wit_model.specs.Rules.State.{orders_of}
use Rattle.wit_model.specs.Rules.Verdict.{type_held, has_type_of, new_parents, orders_behind}
use Rattle.wit_model.specs.Rules.Verdict.{chain_asked, basis_of, typed_request}
use Rattle.wit_model.specs.Rules.Step.{answer_of, story_after, IsLegal}
use Rattle.wit_model.specs.Rules.Numbers.{IsGiven}
use Rattle.wit_model.proofs.Orders.Paths.{sound_adopt}
use Rattle.wit_model.proofs.Orders.Defined.{define_adopted}
use Rattle.wit_model.proofs.Orders.AllHeld.{AreFree, learnt_on, on-adopted, sound-on, parents-free}
use Rattle.wit_model.proofs.Orders.AllHeld.{parents-have}
use Rattle.wit_model.proofs.Orders.Ends.{all-reverse, none-passes}
use Rattle.wit_model.proofs.Chains.Held.{made_sane}
use Rattle.wit_model.proofs.Chains.Seats.{entry}
use Rattle.wit_model.proofs.Orders.TypedLocks.{made-known}
use Rattle.wit_model.proofs.Histories.Accepted.{CheckAccepted, check_accepted}
use Rattle.wit_model.proofs.Histories.AcceptedTurns.{define_accepted}
use Rattle.wit_model.proofs.Histories.Legal.{sane_legal}
use Rattle.wit_model.proofs.Orders.Learnt.{learnt, learnt-all, chain-held, last-held}
use Rattle.wit_model.proofs.Orders.Learnt.{learnt-orderly, learnt-apart, type-held, chain-judged}

-- what a check that teaches an order says of it: which made locks are of its types, that these
-- differ, and that the child isn't before the parent
pub record IsTaught (start : Start) (h : List Entry) (q : Request) (a b : TypeNo) : Type 0 where
  pub last : ℕ
  pub was : IsGiven (locks_of h) last
  pub asks : IsGiven (locks_of h) q.lock.0
  pub parent : (lock_at (typed_locks start h) last).type_no ≡ a
  pub child : (lock_at (typed_locks start h) q.lock.0).type_no ≡ b
  pub apart : a.0 ≡ b.0 → ⊥
  pub orderly : is_before (orders_of start h) b.0 a.0 ≡ false

pub taught : (start : Start) (files : List (List ℕ)) (h : List Entry) (t : ℕ) (q : Request)
    (a b : TypeNo) → IsLegal start files h
    → CheckAccepted (state_of (story_after start files h)) t q (Adopted a b)
    → IsTaught start h q a b
taught start files h t q a b legal accepted =
    let s = state_of (story_after start files h) in
    let g = basis_of (known_of start h) in
    let asked = typed_request (known_of start h) q in
    let c = chain_asked g (seat_at s t).sleep (seat_at s t).spin asked in
    let kind =
    is_spin (class_of (lock_at (typed_locks start h) q.lock.0).type_no.0 (types_of start h)) in
    let l =
    learnt start.profile g s.watch (seat_at s t).sleep
    (seat_at s t).spin asked a b accepted.verdict in
    let held : is_held t l.last.lock.0 h ≡ true =
    last-held kind t h l.last (subst (λ c. last_or None c ≡ Some l.last)
    (chain-judged start files h t q accepted.seat) l.is_new.behind.is_last) in
    record {
      last = l.last.lock.0;
      was = made_sane t l.last.lock.0 h (sane_legal start files h legal) held;
      asks = made-known start h q.lock.0 accepted.lock;
      parent = sym (type-held (known_of start h) l.last) ∙ l.parent;
      child = l.child;
      apart = learnt-apart g asked c a b l;
      orderly = learnt-orderly g asked c a b l;
    }

-- what a check that teaches orders behind all held locks says of them: they can be learnt, and each
-- type is that of a lock which is held
pub record IsTaughtAll (start : Start) (h : List Entry) (t : ℕ) (q : Request)
    (ps : List (TypeNo × TypeNo)) : Type 0 where
  pub parents : List TypeNo
  pub asks : IsGiven (locks_of h) q.lock.0
  pub pairs : ps ≡ orders_behind (typed_request (known_of start h) q) parents
  pub free : AreFree (typed_request (known_of start h) q) (orders_of start h) parents
  pub held : (has : TypeNo → Bool)
      → ((l : ℕ) → is_held t l h ≡ true → has (lock_at (typed_locks start h) l).type_no ≡ true)
      → list_all has parents ≡ true

of-held : (start : Start) (h : List Entry) (t : ℕ) (has : TypeNo → Bool)
    → ((l : ℕ) → is_held t l h ≡ true → has (lock_at (typed_locks start h) l).type_no ≡ true)
    → (c : List Instance) → list_all (λ (i : Instance). is_held t i.lock.0 h) c ≡ true
    → list_all (λ (i : Instance). has (type_held (basis_of (known_of start h)) i)) c ≡ true
of-held start h t has of [] all = refl
of-held start h t has of (i ∷ c) all =
    let parts =
    and_parts (is_held t i.lock.0 h)
    (list_all (λ (j : Instance). is_held t j.lock.0 h) c) all in
    and_from (has (type_held (basis_of (known_of start h)) i))
    (list_all (λ (j : Instance). has (type_held (basis_of (known_of start h)) j)) c)
    (ap has (type-held (known_of start h) i) ∙ of i.lock.0 parts.0)
    (of-held start h t has of c parts.1)

pub taught-all : (start : Start) (files : List (List ℕ)) (h : List Entry) (t : ℕ) (q : Request)
    (ps : List (TypeNo × TypeNo))
    → CheckAccepted (state_of (story_after start files h)) t q (AdoptedAll ps)
    → IsTaughtAll start h t q ps
taught-all start files h t q ps accepted =
    let s = state_of (story_after start files h) in
    let g = basis_of (known_of start h) in
    let asked = typed_request (known_of start h) q in
    let c = chain_asked g (seat_at s t).sleep (seat_at s t).spin asked in
    let kind =
    is_spin (class_of (lock_at (typed_locks start h) q.lock.0).type_no.0 (types_of start h)) in
    let l =
    learnt-all start.profile g s.watch (seat_at s t).sleep
    (seat_at s t).spin asked ps accepted.verdict in
    let held : list_all (λ (i : Instance). is_held t i.lock.0 h) c ≡ true
    = subst (λ d. list_all (λ (i : Instance). is_held t i.lock.0 h) d ≡ true)
    (sym (chain-judged start files h t q accepted.seat)) (chain-held kind t h) in
    record {
      parents = new_parents g asked [] (reverse c);
      asks = made-known start h q.lock.0 accepted.lock;
      pairs = l.pairs;
      free =
          parents-free asked g (reverse c) (none-passes (has_type_of g asked) (reverse c) l.apart);
      held = λ has of. parents-have asked g has (reverse c) []
          (of-held start h t has of (reverse c)
          (all-reverse (λ (i : Instance). is_held t i.lock.0 h) c held));
    }

-- the orders once they are learnt
pub after-all : (start : Start) (h : List Entry) (t : ℕ) (q : Request) (ps : List (TypeNo × TypeNo))
    (l : IsTaughtAll start h t q ps)
    → adopted (Check q) (AdoptedAll ps) ++ orders_of start h
    ≡ learnt_on (typed_request (known_of start h) q) l.parents (orders_of start h)
after-all start h t q ps l =
    ap (λ pairs. adopted (Check q) (AdoptedAll pairs) ++ orders_of start h) l.pairs
    ∙ on-adopted (typed_request (known_of start h) q) l.parents (orders_of start h)

sound_check : (start : Start) (files : List (List ℕ)) (h : List Entry) (t : ℕ) (q : Request)
    (a b : TypeNo) → IsLegal start files h
    → CheckAccepted (state_of (story_after start files h)) t q (Adopted a b)
    → IsSound (orders_of start h)
    → IsSound (record { parent = a; child = b; origin = At q.site } ∷ orders_of start h)
sound_check start files h t q a b legal accepted sound =
    let l = taught start files h t q a b legal accepted in
    sound_adopt (record { parent = a; child = b; origin = At q.site })
    (orders_of start h) sound l.orderly l.apart

sound_by : (start : Start) (files : List (List ℕ)) (h : List Entry) (t : ℕ) (c : Call) (r : Reply)
    → IsLegal start files h
    → answer_of (story_after start files h) t c ≡ Ok r → IsSound (orders_of start h)
    → IsSound (orders_of start (entry t c r ∷ h))
sound_by start files h t (Check q) (Adopted a b) legal ok sound =
    sound_check start files h t q a b legal
    (check_accepted (state_of (story_after start files h)) t q (Adopted a b) ok) sound
sound_by start files h t (Check q) (AdoptedAll ps) legal ok sound =
    let l =
    taught-all start files h t q ps
    (check_accepted (state_of (story_after start files h)) t q (AdoptedAll ps) ok) in
    subst IsSound (sym (after-all start h t q ps l))
    (sound-on (typed_request (known_of start h) q) l.parents (orders_of start h) l.free sound)
sound_by start files h t (DefineOrder a b) (Adopted p c) legal ok sound =
    let s = state_of (story_after start files h) in
    let d = define_accepted s t a.0 b.0 (Adopted p c) ok refl in
    let f =
    define_adopted s.known.types s.known.orders (lock_at s.known.locks a.0).type_no
    (lock_at s.known.locks b.0).type_no p c d.answer in
    sound_adopt (record { parent = p; child = c; origin = Defined })
    (orders_of start h) sound f.orderly f.apart
sound_by start files h t c r legal ok sound = sound

-- no type is ever before itself
pub sound_legal : (start : Start) (files : List (List ℕ)) (h : List Entry)
    → IsSound (orders_of start []) → IsLegal start files h → IsSound (orders_of start h)
sound_legal start files [] sound legal = sound
sound_legal start files (x ∷ h) sound legal =
    sound_by start files h x.seat.0 x.call x.reply legal.2 legal.0
    (sound_legal start files h sound legal.2)
