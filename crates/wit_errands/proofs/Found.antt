-- Threads in a deadlock of a reordering are at the ends of errands: here of all that they did after the
-- first part of the run.
use Rattle.std.proofs.Common.{◌≡◌, ℕ, ◌<◌, false, eqb, nat_lt}
use Rattle.std.proofs.Common.{List, [], ◌∷◌, ◌++◌, map, refl, ap, ap₂, sym, ◌∙◌}
use Rattle.std.proofs.Common.{arith, append-nil}
use Rattle.std.specs.List.{list_all}
use Rattle.std.specs.List.{list_any}
use Rattle.std.proofs.lemmas.Bool.{and_parts}
use Rattle.std.proofs.lemmas.List.Folds.{list_all-append}
use Rattle.wit_model.specs.declared.calls.Request.{Request}
use Rattle.wit_model.specs.declared.calls.Call.TheVariants.{Check}
use Rattle.wit_model.specs.declared.calls.Entry.{Entry}
use Rattle.wit_model.specs.Rules.Beginnings.{IsBeginning}
use Rattle.wit_model.specs.Rules.Circles.{IsQueue}
use Rattle.wit_model.specs.Rules.History.{is_held}
use Rattle.wit_model.specs.Rules.State.{Start}
use Rattle.wit_model.specs.World.Deeds.{Deed, Logged}
use Rattle.wit_model.specs.World.Deeds.{thread_of, own, log_of, shares}
use Rattle.wit_model.specs.World.Stages.{Asked, stage}
use Rattle.wit_model.specs.World.Waiting.{IsWaiting, IsDeadlock}
use Rattle.wit_model.specs.World.Reordering.{kept, IsReordering}
use Rattle.wit_model.proofs.World.Own.{shares-own, asked-deed, kept-check}
use Rattle.wit_model.proofs.World.Own.{shares-kept}
use Rattle.wit_errands.specs.Errands.{Errand, Asker}
use Rattle.wit_errands.specs.Errands.{threads_of}
use Rattle.wit_errands.specs.Errands.{AllAtRequest}
use Rattle.wit_errands.proofs.Looks.{Alike, held-alike}
use Rattle.wit_errands.proofs.Threads.{own-all, own-mine-all}
use Rattle.wit_errands.proofs.Looks.{own-append}
use Rattle.wit_errands.proofs.Ends.{ends}
use Rattle.wit_errands.proofs.Ends.{Overlap, Longer, Shorter, overlap}
use Rattle.wit_errands.proofs.Waiting.{IsDone, check-num}
use Rattle.wit_errands.specs.Settled.{gets}
use Rattle.wit_errands.proofs.Silent.{silent-none, silent-own, silent-later}
use Rattle.wit_errands.proofs.Queues.{first-waits, last-waited_for}

-- ---- the errands

module _ (first deeds v : List Deed) (quiet : list_any gets first ≡ false)
    (begins : (t : ℕ) → IsBeginning (map kept (own t v)) (map kept (own t (deeds ++ first)))) where
  -- an errand of a thread that stands at its request
  record IsFound (t : ℕ) : Type 0 where
    errand : Errand t first deeds
    done : IsDone t first deeds errand v

  module _ (t : ℕ) (q : Request) (asks : stage t (own t v) ≡ Asked q)
      (unheld : is_held t q.lock.0 (log_of v) ≡ false) where
    -- where its deeds are these in the run
    found-as : (x : Entry) (after way : List Deed) → own t deeds ≡ after ++ (Logged x ∷ way)
        → x.call ≡ Check q → map kept (own t v) ≡ map kept ((Logged x ∷ way) ++ own t first)
        → IsFound t
    found-as x after way whole call looks =
        let mine =
        (and_parts (list_all (λ d. eqb (thread_of d) t) after)
        (list_all (λ d. eqb (thread_of d) t) (Logged x ∷ way))
        (sym (list_all-append (λ d. eqb (thread_of d) t) after (Logged x ∷ way))
        ∙ (ap (λ o. list_all (λ d. eqb (thread_of d) t) o) (sym whole)
        ∙ own-mine-all t deeds))).1 in
        let done : Alike t v ((Logged x ∷ (way ++ [])) ++ first) =
        looks ∙ ap (λ o. map kept o)
        (sym (own-append t (Logged x ∷ (way ++ [])) first
        ∙ ap (λ o. o ++ own t first)
        (ap (λ o. own t (Logged x ∷ o)) (append-nil way) ∙ own-all t (Logged x ∷ way) mine))) in
        let free =
        ap (λ n. nat_lt 0 n)
        (sym (check-num t q.lock.0 x (log_of ((way ++ []) ++ first)) q call))
        ∙ (sym (held-alike t q.lock.0 v ((Logged x ∷ (way ++ [])) ++ first) done) ∙ unheld) in
        record {
          errand = record {
            before = [];
            way = way;
            entry = x;
            request = q;
            after = after;
            whole = whole ∙ sym (append-nil (after ++ (Logged x ∷ way)));
            asks = call;
            nothing = λ l. refl;
            unheld = free;
          };
          done = done;
        }

    -- its deeds in the first part alone leave it nothing
    module _ (l : ℕ) (had : 0 < shares t l v) (x : Deed) (before : List Deed)
        (looks : map kept (own t v) ≡ map kept (x ∷ before)) where
      not-quiet : (m : List Deed) → own t first ≡ m ++ (x ∷ before) → ⊥
      not-quiet m whole =
          let silent =
          silent-later m (x ∷ before)
          (ap (λ o. list_any gets o) (sym whole) ∙ silent-own t first quiet) in
          let none =
          sym (shares-own t l v)
          ∙ (sym (shares-kept t l (own t v))
          ∙ (ap (λ o. shares t l o) looks
          ∙ (shares-kept t l (x ∷ before) ∙ silent-none t l (x ∷ before) silent))) in
          omega (arith, none, had)

      found-over : (e : Entry) (after : List Deed) → x ≡ Logged e → e.call ≡ Check q
          → Overlap (own t deeds) (own t first) after (x ∷ before) → IsFound t
      found-over e after is call (Shorter m whole) = absurd (not-quiet m whole)
      found-over e after is call (Longer [] whole more) = absurd (not-quiet [] (sym whole))
      found-over e after is call (Longer (y ∷ way) whole more) =
          let both : x ∷ before ≡ y ∷ (way ++ own t first) = whole in
          let head : x ≡ y = cc in
          let same = sym head ∙ is in
          found-as e after way (more ∙ ap (λ a. after ++ (a ∷ way)) same) call
          (looks ∙ (ap (λ o. map kept o) whole
          ∙ ap (λ a. map kept ((a ∷ way) ++ own t first)) same))

    found-by : (l : ℕ) → 0 < shares t l v → IsFound t
    found-by l had =
        let made = asked-deed t (own t v) q asks in
        let b = begins t in
        let e =
        ends (Logged made.0) made.1 (own t (deeds ++ first)) b.0
        (b.1 ∙ ap (λ x. b.0 ++ map kept x) made.2) in
        let check = kept-check e.last made.0 q e.looks made.3 in
        found-over l had e.last e.before
        (ap (λ x. map kept x) made.2 ∙ ap₂ (λ x xs. x ∷ xs) (sym e.looks) (sym e.same)) check.0
        e.after check.1 check.2
        (overlap (own t deeds) (own t first) e.after (e.last ∷ e.before)
        (sym (own-append t deeds first) ∙ e.whole))

  find : (t u : ℕ) → IsWaiting v t u → (l : ℕ) → 0 < shares t l v → IsFound t
  find t u x l had = found-by t x.request x.asks x.unheld l had

  asker : (t : ℕ) → IsFound t → Asker first deeds
  asker t f = record { thread = t; errand = f.errand }

  -- ---- a queue of them

  record Line (ts : List ℕ) : Type 0 where
    others : List (Asker first deeds)
    threads : threads_of others ≡ ts
    there : AllAtRequest others v

  line : (t : ℕ) (ts : List ℕ) (last : ℕ) → IsQueue (IsWaiting v) t ts last → Line ts
  unfolding asker
  line t [] last queue = record { others = []; threads = refl; there = tt }
  line t (c ∷ ts) last queue =
      let next = first-waits (IsWaiting v) c ts last queue.1 in
      let h = find c next.0 next.1 queue.0.request.lock.0 queue.0.taken in
      let rest = line c ts last queue.1 in
      record {
        others = asker c h ∷ rest.others;
        threads = ap (λ x. c ∷ x) rest.threads;
        there = (h.done, rest.there);
      }

  hanging-found : (threads : List ℕ) → IsDeadlock v threads
      → (askers : List (Asker first deeds)) × (threads_of askers ≡ threads)
      × AllAtRequest askers v
  unfolding asker
  hanging-found [] circle = absurd circle
  hanging-found (t ∷ ts) circle =
      let next = first-waits (IsWaiting v) t ts t circle in
      let last = last-waited_for (IsWaiting v) t ts t circle in
      let f = find t next.0 next.1 last.1.request.lock.0 last.1.taken in
      let rest = line t ts t circle in (
        asker t f ∷ rest.others,
        ap (λ x. t ∷ x) rest.threads,
        (f.done, rest.there),
      )

pub hanging-have : (start : Start) (first deeds v : List Deed) (threads : List ℕ)
    → list_any gets first ≡ false → IsReordering start v (deeds ++ first) → IsDeadlock v threads
    → (askers : List (Asker first deeds)) × (threads_of askers ≡ threads)
    × AllAtRequest askers v
hanging-have start first deeds v threads quiet reordered circle =
    hanging-found first deeds v quiet reordered.same threads circle
