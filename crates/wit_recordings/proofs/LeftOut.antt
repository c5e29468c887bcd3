-- A recording that leaves out a request covers its run; and threads deadlock where a premise of the
-- law isn't met.
use Rattle.std.proofs.Common.{◌≡◌, ℕ, true, eqb, List, [], ◌∷◌, refl, ap, sym, ◌∙◌}
use Rattle.std.proofs.Common.{subst, inl, inr, ⊎_elim, arith}
use Rattle.std.specs.Prelude.{codes}
use Rattle.std.specs.List.{list_any}
use Rattle.std.proofs.lemmas.Bool.{true≢false, false≢true, eqb-true}
use Rattle.wit_model.specs.declared.locks.Class.{Class}
use Rattle.wit_model.specs.declared.locks.Class.TheVariants.{SleepMutex}
use Rattle.wit_model.specs.declared.calls.Request.{Request}
use Rattle.wit_model.specs.declared.calls.Call.{Call}
use Rattle.wit_model.specs.declared.calls.Call.TheVariants.{Check}
use Rattle.wit_model.specs.declared.calls.Entry.{Entry}
use Rattle.wit_model.specs.Rules.Locks.{locks_of, lock_of}
use Rattle.wit_model.specs.Rules.History.{num, place, mode, mark, site, held}
use Rattle.wit_model.specs.Rules.SeatGroups.{seat_groups}
use Rattle.wit_model.specs.Rules.State.{Start}
use Rattle.wit_model.specs.Rules.Step.{IsLegal}
use Rattle.wit_model.specs.World.Deeds.{log_of}
use Rattle.wit_model.specs.World.Steps.{IsWorld}
use Rattle.wit_model.specs.World.Waiting.{IsWaiting}
use Rattle.wit_model.specs.World.Examples.{small, files, request, crossed}
use Rattle.wit_model.specs.World.Tried.{small_all_held}
use Rattle.wit_recordings.specs.Recordings.{named_type, AsksWhileHolding, TellsOf, Covers}
use Rattle.wit_recordings.specs.Recordings.{chain_types, AsksBehindChain, HasRequest}
use Rattle.wit_recordings.specs.Duty.{AllAskRecorded, under_both, under_each, HasBehindBoth}
use Rattle.wit_recordings.specs.Duty.{crossed_unseen}
use Rattle.wit_model.proofs.Chains.Held.{in-held}
use Rattle.wit_model.proofs.Histories.Legal.{sane_legal}
use Rattle.wit_model.proofs.World.Covering.{legal_world}
use Rattle.wit_model.proofs.World.Runs.{is_world}
use Rattle.wit_recordings.proofs.Behind.{or_split}
use Rattle.wit_recordings.proofs.Recorded.{asks-recorded}
use Rattle.wit_recordings.proofs.Shorter.{is_check}

-- ---- to cover a history is to tell of what each of its requests finds held

module _ (start : Start) (named : List (List ℕ)) (g : List Entry) where
  -- of a request for a lock of type b, while these locks are held
  abbrev AllTold : List Entry → List ℕ → Class × List ℕ → Type 0
  AllTold h [] b = Unit
  AllTold h (m ∷ ms) b = TellsOf g (named_type (lock_of (locks_of h) m)) b × AllTold h ms b

  abbrev needed : Call → ℕ → List Entry → Type 0 → Type 0
  needed (Check q) t h rest =
      AllTold h (held t h) (named_type (lock_of (locks_of h) q.lock.0)) × rest
  needed _ t h rest = rest

  abbrev Needs : List Entry → Type 0
  Needs [] = Unit
  Needs (e ∷ h) = needed e.call e.seat.0 h (Needs h)

  told-of_held : (h : List Entry) (l : ℕ) (b : Class × List ℕ) (ms : List ℕ) → AllTold h ms b
      → list_any (λ m. eqb m l) ms ≡ true → TellsOf g (named_type (lock_of (locks_of h) l)) b
  told-of_held h l b [] told is = absurd (false≢true is)
  told-of_held h l b (m ∷ ms) told is =
      ⊎_elim
      (λ here. subst (λ n. TellsOf g (named_type (lock_of (locks_of h) n)) b) (eqb-true m l here)
      told.0)
      (λ later. told-of_held h l b ms told.1 later)
      (or_split (eqb m l) (list_any (λ n. eqb n l) ms) is)

  request-covered : (e : Entry) (h : List Entry) (c : Call) → IsLegal start named h → e.call ≡ c
      → needed c e.seat.0 h (Needs h)
      → ((a b : Class × List ℕ) → AsksWhileHolding h e a b → TellsOf g a b) × Needs h
  request-covered e h (Check p) legal is need = (
    (λ a b now.
        let same : ◌≡◌ {A = Call} (Check p) (Check now.request) = sym is ∙ now.asks in
        let request : p ≡ now.request = cc in
        subst (λ x. TellsOf g x b) now.first
        (subst (λ x. TellsOf g (named_type (lock_of (locks_of h) now.other)) x)
        (ap (λ (r : Request). named_type (lock_of (locks_of h) r.lock.0)) request ∙ now.second)
        (told-of_held h now.other (named_type (lock_of (locks_of h) p.lock.0)) (held e.seat.0 h)
        need.0 (in-held e.seat.0 now.other h (sane_legal start named h legal) ∙ now.holds)))),
    need.1,
  )
  request-covered e h c legal is need =
      ((λ a b now. absurd (true≢false (sym (ap is_check (sym is ∙ now.asks))))), need)

  covered-by : (h : List Entry) → IsLegal start named h → Needs h → Covers g h
  covered-by [] legal need = λ a b told. absurd told
  covered-by (e ∷ h) legal need = λ a b told.
      let both = request-covered e h e.call legal.2 refl need in
      ⊎_elim (λ now. both.0 a b now) (λ before. covered-by h legal.2 both.1 a b before) told

-- ---- the request behind two locks

pub both-world : IsWorld small files under_both
unfolding num place mode mark site seat_groups
both-world = is_world small files under_both refl refl

pub both-recorded : AllAskRecorded under_both
both-recorded = asks-recorded small files under_both both-world refl

pub each-legal : IsLegal small_all_held files (log_of under_each)
unfolding num place mode mark site seat_groups
each-legal =
    legal_world small_all_held files under_each
    (is_world small_all_held files under_each refl refl)

abbrev type_of : List ℕ → Class × List ℕ
type_of name = (SleepMutex, name)

under-first : TellsOf (log_of under_each) (type_of (codes "A")) (type_of (codes "C"))
unfolding num
under-first = inr (inr (inr (inl (record {
  request = request 3 2;
  asks = refl;
  unheld = refl;
  other = 1;
  holds = refl;
  first = refl;
  second = refl;
}))))

under-second : TellsOf (log_of under_each) (type_of (codes "B")) (type_of (codes "C"))
unfolding num
under-second = inl (record {
  request = request 3 4;
  asks = refl;
  unheld = refl;
  other = 2;
  holds = refl;
  first = refl;
  second = refl;
})

pub both-covered : Covers (log_of under_each) (log_of under_both)
unfolding num place
both-covered =
    covered-by small files (log_of under_each) (log_of under_both)
    (legal_world small files under_both both-world) (
      (under-first, (under-second, tt)),
      (tt, ((under-second, tt), (tt, ((under-first, tt), (tt, tt))))),
    )

pub both-asked : HasBehindBoth (log_of under_both)
unfolding num place
both-asked = inl (record {
  request = request 3 7;
  asks = refl;
  unheld = refl;
  first = refl;
  second = refl;
})

-- who asks in a history asks behind another chain than this
module _ (chain : List (Class × List ℕ)) (b : Class × List ℕ) where
  abbrev other_chain : Call → ℕ → List Entry → Type 0 → Type 0
  other_chain (Check q) t h rest = (chain_types t h ≡ chain → ⊥) × rest
  other_chain _ t h rest = rest

  abbrev OtherChains : List Entry → Type 0
  OtherChains [] = Unit
  OtherChains (e ∷ h) = other_chain e.call e.seat.0 h (OtherChains h)

  asked-other : (e : Entry) (h : List Entry) (c : Call) → e.call ≡ c
      → other_chain c e.seat.0 h (OtherChains h)
      → (AsksBehindChain h e chain b → ⊥) × OtherChains h
  asked-other e h (Check q) is others = ((λ now. others.0 now.first), others.1)
  asked-other e h c is others =
      ((λ now. true≢false (sym (ap is_check (sym is ∙ now.asks)))), others)

  none-behind : (h : List Entry) → OtherChains h → HasRequest h chain b → ⊥
  none-behind [] others has = has
  none-behind (e ∷ h) others has =
      let both = asked-other e h e.call refl others in
      ⊎_elim (λ now. both.0 now) (λ before. none-behind h both.1 before) has

alone-no_two : (a b c : Class × List ℕ)
    → ◌≡◌ {A = List (Class × List ℕ)} (c ∷ []) (a ∷ b ∷ []) → ⊥
alone-no_two a b c is = (cc)

none-no_two : (a b : Class × List ℕ) → ◌≡◌ {A = List (Class × List ℕ)} [] (a ∷ b ∷ []) → ⊥
none-no_two a b is = (cc)

pub both-left_out : HasBehindBoth (log_of under_each) → ⊥
unfolding num place
both-left_out =
    let a = type_of (codes "A") in
    let b = type_of (codes "B") in
    none-behind (a ∷ b ∷ []) (type_of (codes "C")) (log_of under_each)
    (alone-no_two a b b, (none-no_two a b, (alone-no_two a b a, (none-no_two a b, tt))))

-- ---- where a premise isn't met

pub crossed-world : IsWorld small files crossed
unfolding num place mode mark site seat_groups
crossed-world = is_world small files crossed refl refl

pub crossed-recorded : AllAskRecorded crossed
crossed-recorded = asks-recorded small files crossed crossed-world refl

pub unseen-world : IsWorld small files crossed_unseen
unfolding num place mode mark site seat_groups
unseen-world = is_world small files crossed_unseen refl refl

pub unseen-covered : Covers [] (log_of crossed_unseen)
unfolding num place
unseen-covered =
    covered-by small files [] (log_of crossed_unseen)
    (legal_world small files crossed_unseen unseen-world) (tt, (tt, (tt, (tt, tt))))

pub first_waits_unseen : IsWaiting crossed_unseen 1 2
unfolding num
first_waits_unseen =
    record {
      request = request 2 4;
      asks = refl;
      unheld = refl;
      another = λ e. omega arith;
      taken = omega arith;
      barred = refl;
    }

pub second_waits_unseen : IsWaiting crossed_unseen 2 1
unfolding num
second_waits_unseen =
    record {
      request = request 1 3;
      asks = refl;
      unheld = refl;
      another = λ e. omega arith;
      taken = omega arith;
      barred = refl;
    }
