-- Errands that led threads to a deadlock can be gone together: their deeds, in the sequence in which
-- they came.
use Rattle.std.proofs.Common.{◌≡◌, ℕ, ◌<◌, true, false, ◌||◌, cond, eqb, nat_lt, List, [], ◌∷◌}
use Rattle.std.proofs.Common.{◌++◌, map, length, refl, ap, sym, ◌∙◌, subst, inl, inr, arith}
use Rattle.std.proofs.Common.{length-append}
use Rattle.std.proofs.Common.{append_assoc}
use Rattle.std.proofs.lemmas.Bool.{cases_Bool, and_from, or_parts, eq-eqb, eqb-true, lt-ltb}
use Rattle.std.proofs.lemmas.Bool.{false≢true}
use Rattle.std.proofs.lemmas.List.{map-append, length-map}
use Rattle.wit_model.specs.declared.calls.Request.{Request}
use Rattle.wit_model.specs.Rules.Circles.{IsQueue}
use Rattle.wit_model.specs.Rules.State.{Start}
use Rattle.wit_model.specs.Rules.Verdict.{is_exclusive}
use Rattle.wit_model.specs.World.Deeds.{Deed, Logged, own, shares, raw_mode}
use Rattle.wit_model.specs.World.Stages.{Asked}
use Rattle.wit_model.specs.World.Steps.{IsWorld}
use Rattle.wit_model.specs.World.Waiting.{IsWaiting, IsDeadlock}
use Rattle.wit_model.specs.World.Reordering.{kept, IsReordering}
use Rattle.wit_model.proofs.World.Own.{shares-kept}
use Rattle.wit_model.proofs.World.Own.{shares-own}
use Rattle.wit_errands.specs.Errands.{Errand, Asker, AsksOther, AskOn, IsRound, is_asker}
use Rattle.wit_errands.specs.Errands.{errand_of, threads_of, keeps, Meet, AllAtRequest}
use Rattle.wit_errands.proofs.Looks.{shares-over}
use Rattle.wit_errands.proofs.Threads.{own-all}
use Rattle.wit_errands.proofs.Looks.{own-append}
use Rattle.wit_errands.proofs.Ends.{cancel, splits}
use Rattle.wit_errands.proofs.Late.{late, own-outside, own-late, AllBegun, late-free}
use Rattle.wit_errands.proofs.Waiting.{upto, mine-upto, IsDone, asks-then, has-there}

pub same-asked : (p q : Request) → Asked p ≡ Asked q → p ≡ q
same-asked p q is = (cc)

module _ (first deeds v : List Deed) (nothing : (t l : ℕ) → shares t l first ≡ 0) where
  -- ---- they ask in a round

  asks-for : (a b : Asker first deeds) → IsDone a.thread first deeds a.errand v
      → IsDone b.thread first deeds b.errand v
      → IsWaiting v a.thread b.thread → AsksOther a b
  asks-for a b mine theirs x =
      let w = v in
      let t = a.thread in
      let u = b.thread in
      let same =
      same-asked x.request a.errand.request
      (sym x.asks ∙ asks-then t u first deeds a.errand b.errand w mine theirs nothing) in
      let has = has-there t u first deeds a.errand b.errand w mine theirs nothing in
      let l = x.request.lock.0 in
      let had = subst (λ n. 0 < n) (has.counts l) x.taken in (
        x.another,
        subst (λ (q : Request). keeps u b.errand.way q.lock.0 q.mode ≡ true) same
            (and_from (nat_lt 0 (shares u l b.errand.way))
            (is_exclusive (raw_mode u l b.errand.way) || is_exclusive x.request.mode)
            (lt-ltb 0 (shares u l b.errand.way) had)
            (ap (λ m. is_exclusive m || is_exclusive x.request.mode) (sym (has.modes l had))
            ∙ x.barred)),
      )

  ask-on : (a : Asker first deeds) (others : List (Asker first deeds)) (b : Asker first deeds)
      → IsDone a.thread first deeds a.errand v → AllAtRequest others v
      → IsDone b.thread first deeds b.errand v
      → IsQueue (IsWaiting v) a.thread (threads_of others) b.thread → AskOn a others b
  ask-on a [] b mine there theirs queue = asks-for a b mine theirs queue
  ask-on a (c ∷ others) b mine there theirs queue = (
    asks-for a c mine there.0 queue.0,
    ask-on c others b there.0 there.1 theirs queue.1,
  )

  pub round : (askers : List (Asker first deeds)) → AllAtRequest askers v
      → IsDeadlock v (threads_of askers) → IsRound askers
  round [] there circle = circle
  round (a ∷ others) there circle = ask-on a others a there.0 there.1 there.0 circle

  -- ---- each one's late deeds are its errand

  -- how many deeds of its own come before a thread's errand
  past_of : List (Asker first deeds) → ℕ → ℕ
  past_of [] t = 0
  past_of (a ∷ others) t = cond (eqb a.thread t) (length (a.errand.before ++ own t first)) (past_of others t)

  record HasErrand (askers : List (Asker first deeds)) (t : ℕ) : Type 0 where
    errand : Errand t first deeds
    done : IsDone t first deeds errand v
    past : past_of askers t ≡ length (errand.before ++ own t first)
    as_told : errand_of askers t ≡ Logged errand.entry ∷ errand.way

  errand-here : (a : Asker first deeds) (others : List (Asker first deeds))
      → IsDone a.thread first deeds a.errand v → HasErrand (a ∷ others) a.thread
  unfolding past_of
  errand-here a others done = record {
    errand = a.errand;
    done = done;
    past = rw (eq-eqb a.thread a.thread refl) refl;
    as_told = rw (eq-eqb a.thread a.thread refl) refl;
  }

  errand-there : (a : Asker first deeds) (others : List (Asker first deeds)) (t : ℕ)
      → eqb a.thread t ≡ false → HasErrand others t → HasErrand (a ∷ others) t
  unfolding past_of
  errand-there a others t no_match h = record {
    errand = h.errand;
    done = h.done;
    past = rw no_match h.past;
    as_told = rw no_match h.as_told;
  }

  has-errand : (askers : List (Asker first deeds)) → AllAtRequest askers v → (t : ℕ)
      → is_asker askers t ≡ true → HasErrand askers t
  has-errand [] there t is = absurd (false≢true is)
  has-errand (a ∷ others) there t is =
      elim (cases_Bool (eqb a.thread t)) [
        | inl here ↦ subst (λ k. HasErrand (a ∷ others) k) (eqb-true a.thread t here)
            (errand-here a others there.0)
        | inr no_match ↦ errand-there a others t no_match
            (has-errand others there.1 t (sym (ap (λ b. b || is_asker others t) no_match) ∙ is))
      ]

  none-there : (askers : List (Asker first deeds)) (t : ℕ) → is_asker askers t ≡ false
      → errand_of askers t ≡ []
  none-there [] t none = refl
  none-there (a ∷ others) t none =
      let parts = or_parts (eqb a.thread t) (is_asker others t) none in
      rw parts.0 (none-there others t parts.1)

  module _ (askers : List (Asker first deeds)) (there : AllAtRequest askers v) where
    -- all that it did before its errand, the first part included
    abbrev earlier : (t : ℕ) → HasErrand askers t → List Deed
    earlier t h = h.errand.before ++ own t first

    earlier-nothing : (t : ℕ) (h : HasErrand askers t) (l : ℕ) → shares t l (earlier t h) ≡ 0
    earlier-nothing t h l =
        shares-over t l h.errand.before (own t first) (shares-own t l first ∙ nothing t l)
        ∙ h.errand.nothing l

    looks-upto : (t : ℕ) (h : HasErrand askers t)
        → map kept (own t v)
        ≡ map kept ((Logged h.errand.entry ∷ h.errand.way) ++ earlier t h)
    looks-upto t h =
        let o = upto t first deeds h.errand in
        h.done ∙ ap (λ x. map kept x)
        (own-append t o first ∙ (ap (λ x. x ++ own t first)
        (own-all t o (mine-upto t first deeds h.errand))
        ∙ append_assoc (Logged h.errand.entry ∷ h.errand.way) h.errand.before (own t first)))

    begun : (later now : List Deed) → v ≡ later ++ now
        → AllBegun (is_asker askers) (past_of askers) now
    begun later now whole t is long =
        let h = has-errand askers there t is in
        let o = own-append t later now in
        let s =
        splits (own t later) (own t now) (Logged h.errand.entry ∷ h.errand.way) (earlier t h)
        (ap (λ x. map kept x) (sym o ∙ ap (λ x. own t x) (sym whole)) ∙ looks-upto t h)
        (let same = h.past in omega (arith, same, long)) in
        record {
          newer = s.newer;
          older = s.older;
          whole = s.whole;
          long =
              (let one = ap (λ x. length x) s.same in let two = length-map s.older kept in
              let three = length-map (earlier t h) kept in let four = h.past in
              omega (arith, one, two, three, four));
          nothing =
              λ l. sym (shares-kept t l s.older)
              ∙ (ap (λ x. shares t l x) s.same
              ∙ (shares-kept t l (earlier t h) ∙ earlier-nothing t h l));
        }

    errands-late : (t : ℕ) → is_asker askers t ≡ true
        → map kept (own t (late (is_asker askers) (past_of askers) v))
        ≡ map kept (errand_of askers t)
    errands-late t is =
        let h = has-errand askers there t is in
        let e = Logged h.errand.entry ∷ h.errand.way in
        let s = splits [] (own t v) e (earlier t h) (looks-upto t h)
        (let one = ap (λ x. length x) (looks-upto t h) in let two = length-map (own t v) kept in
        let three = length-map (e ++ earlier t h) kept in
        let four = length-append e (earlier t h) in omega (arith, one, two, three, four)) in
        let long = (let one = ap (λ x. length x) s.same in let two = length-map s.older kept in
        let three = length-map (earlier t h) kept in let four = h.past in
        let same : length s.older ≡ past_of askers t = omega (arith, one, two, three, four) in same)
        in
        ap (λ x. map kept x)
        (own-late (is_asker askers) (past_of askers) t v s.newer s.older is s.whole long)
        ∙ (cancel (map kept s.newer) (map kept e) (map kept (earlier t h))
        (ap (λ x. map kept s.newer ++ x) (sym s.same)
        ∙ (sym (map-append kept s.newer s.older)
        ∙ (ap (λ x. map kept x) (sym s.whole)
        ∙ (looks-upto t h ∙ map-append kept e (earlier t h)))))
        ∙ ap (λ x. map kept x) (sym h.as_told))

    pub meet : (start : Start) (files : List (List ℕ)) → IsWorld start files v
        → Meet start.sizes.seats askers
    meet start files world = record {
      together = late (is_asker askers) (past_of askers) v;
      errands =
          λ t. elim (cases_Bool (is_asker askers t)) [
            | inl is ↦ errands-late t is
            | inr none ↦ ap (λ o. map kept o)
                (own-outside (is_asker askers) (past_of askers) t v none
                ∙ sym (none-there askers t none))
          ];
      free = late-free (is_asker askers) (past_of askers) start files v world begun;
    }

pub hanging-meet : (start : Start) (first deeds v : List Deed) (askers : List (Asker first deeds))
    → ((t l : ℕ) → shares t l first ≡ 0) → IsReordering start v (deeds ++ first)
    → IsDeadlock v (threads_of askers) → AllAtRequest askers v
    → IsRound askers × Meet start.sizes.seats askers
hanging-meet start first deeds v askers nothing reordered circle there = (
  round first deeds v nothing askers there circle,
  meet first deeds v nothing askers there start reordered.files reordered.world,
)
