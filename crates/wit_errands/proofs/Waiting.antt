-- A thread that has done all up to its request waits for the one that has the lock.
use Rattle.std.proofs.Common.{◌≡◌, ℕ, ◌<◌, Bool, true, false, ◌||◌, eqb, nat_lt, List}
use Rattle.std.proofs.Common.{◌∷◌, ◌++◌, map, refl, ap, ap₂, sym, ◌∙◌, subst, arith}
use Rattle.std.proofs.Common.{append_assoc, count_by, cond, ◌-◌}
use Rattle.std.specs.List.{list_all}
use Rattle.std.proofs.lemmas.Bool.{and_parts, ltb-true}
use Rattle.std.proofs.lemmas.List.{map-append}
use Rattle.std.proofs.lemmas.List.Folds.{list_all-append}
use Rattle.wit_model.specs.declared.calls.Request.{Request}
use Rattle.wit_model.specs.declared.calls.Call.TheVariants.{Check}
use Rattle.wit_model.specs.declared.calls.Entry.{Entry}
use Rattle.wit_model.specs.Rules.Beginnings.{IsBeginning}
use Rattle.wit_model.specs.Rules.History.{num, is_held}
use Rattle.wit_model.specs.Rules.History.{Act, Nothing, act, act_by, records, releases, is_record, is_release}
use Rattle.wit_model.specs.Rules.Verdict.{is_exclusive}
use Rattle.wit_model.specs.World.Deeds.{Deed, Logged, own, log_of, shares, raw_mode, thread_of}
use Rattle.wit_model.specs.World.Stages.{Asked, stage}
use Rattle.wit_model.specs.World.Stages.{stage_logged}
use Rattle.wit_model.specs.World.Waiting.{IsWaiting}
use Rattle.wit_model.specs.World.Reordering.{kept}
use Rattle.wit_errands.specs.Errands.{Errand, AsksFor}
use Rattle.wit_errands.proofs.Looks.{Alike, held-alike, stage-alike}
use Rattle.wit_errands.proofs.Looks.{shares-over, mode-over}
use Rattle.std.proofs.lemmas.List.Sums.{sum_by-cons}
use Rattle.wit_errands.proofs.Having.{HasSame, has-alike, has-over, has-then}
use Rattle.wit_errands.proofs.Threads.{Mine, own-all, own-mine-all}
use Rattle.wit_errands.proofs.Looks.{own-append}

-- ---- an errand

module _ (t : ℕ) (first deeds : List Deed) (a : Errand t first deeds) where
  -- all that t does up to its request
  abbrev pub upto : List Deed
  upto = Logged a.entry ∷ (a.way ++ a.before)

  pub whole-upto : own t deeds ≡ a.after ++ upto
  whole-upto = a.whole ∙ append_assoc a.after (Logged a.entry ∷ a.way) a.before

  pub mine-upto : Mine t upto
  mine-upto =
      (and_parts (list_all (λ d. eqb (thread_of d) t) a.after)
      (list_all (λ d. eqb (thread_of d) t) upto)
      (sym (list_all-append (λ d. eqb (thread_of d) t) a.after upto)
      ∙ (ap (λ o. list_all (λ d. eqb (thread_of d) t) o) (sym whole-upto)
      ∙ own-mine-all t deeds))).1

  mine-before : Mine t (a.way ++ a.before)
  mine-before =
      (and_parts (eqb (thread_of (Logged a.entry)) t)
      (list_all (λ d. eqb (thread_of d) t) (a.way ++ a.before)) mine-upto).1

  pub mine-parts : Mine t (Logged a.entry ∷ a.way) × Mine t a.before
  mine-parts =
      and_parts (list_all (λ d. eqb (thread_of d) t) (Logged a.entry ∷ a.way))
      (list_all (λ d. eqb (thread_of d) t) a.before)
      (sym (list_all-append (λ d. eqb (thread_of d) t) (Logged a.entry ∷ a.way) a.before)
      ∙ mine-upto)

  -- it is a beginning of what it did in the run
  pub begins-as : IsBeginning (map kept upto) (map kept (own t deeds))
  begins-as = (
    map kept a.after,
    ap (λ x. map kept x) whole-upto ∙ map-append kept a.after upto,
  )

  -- what it has then
  pub has-upto : HasSame t upto a.way
  has-upto = record {
    counts = λ l. shares-over t l a.way a.before (a.nothing l);
    modes = λ l some. mode-over t l a.way a.before some;
  }

count-skips : (p : Entry → Bool) (e : Entry) (h : List Entry) → p e ≡ false
    → count_by p (e ∷ h) ≡ count_by p h
count-skips p e h skips =
    let more = sum_by-cons (λ (x : Entry). cond (p x) 1 0) e h in
    let none : cond (p e) 1 0 ≡ 0 = ap (λ b. cond {A = ℕ} b 1 0) skips in
    omega (arith, more, none)

-- a check records nothing
pub check-num : (t l : ℕ) (e : Entry) (h : List Entry) (q : Request) → e.call ≡ Check q
    → num t l (e ∷ h) ≡ num t l h
unfolding num
check-num t l e h q asks =
    let idle : act_by t e ≡ Nothing =
    ap (λ c. cond (eqb e.seat.0 t) (act c e.reply) Nothing) asks ∙ alike (eqb e.seat.0 t) in
    ap₂ (λ x y. x - y) (count-skips (records t l) e h (ap (λ x. is_record l x) idle))
    (count-skips (releases t l) e h (ap (λ x. is_release l x) idle))
  where
    alike : (b : Bool) → cond {A = Act} b Nothing Nothing ≡ Nothing
    alike true = refl
    alike false = refl

-- ---- a thread at the end of its errand waits

-- t's own deeds in v look like those up to its request
abbrev pub IsDone : (t : ℕ) (first deeds : List Deed) → Errand t first deeds → List Deed → Type 0
IsDone t first deeds a v = Alike t v (upto t first deeds a ++ first)

module _ (t u : ℕ) (first deeds : List Deed) (a : Errand t first deeds)
    (b : Errand u first deeds) (v : List Deed) (mine : IsDone t first deeds a v)
    (theirs : IsDone u first deeds b v) (nothing : (i l : ℕ) → shares i l first ≡ 0) where
  abbrev lock : ℕ
  lock = a.request.lock.0

  pub asks-then : stage t (own t v) ≡ Asked a.request
  asks-then =
      stage-alike t v (upto t first deeds a ++ first) mine
      ∙ (ap (λ o. stage t o)
      (own-append t (upto t first deeds a) first
      ∙ ap (λ o. o ++ own t first)
      (own-all t (upto t first deeds a) (mine-upto t first deeds a)))
      ∙ ap (λ c. stage_logged t c ((a.way ++ a.before) ++ own t first)) a.asks)

  unheld-then : is_held t lock (log_of v) ≡ false
  unheld-then =
      held-alike t lock v (upto t first deeds a ++ first) mine
      ∙ (ap (λ n. nat_lt 0 n)
      (check-num t lock a.entry (log_of ((a.way ++ a.before) ++ first)) a.request a.asks)
      ∙ a.unheld)

  pub has-there : HasSame u v b.way
  has-there =
      has-then u v (upto u first deeds b ++ first) b.way
      (has-alike u v (upto u first deeds b ++ first) theirs)
      (has-then u (upto u first deeds b ++ first) (upto u first deeds b) b.way
      (has-over u (upto u first deeds b) first (nothing u)) (has-upto u first deeds b))

  pub waits : (u ≡ t → ⊥) → AsksFor a b → IsWaiting v t u
  waits other asked =
      let parts =
      and_parts (nat_lt 0 (shares u lock b.way))
      (is_exclusive (raw_mode u lock b.way) || is_exclusive a.request.mode) asked in
      let some = ltb-true 0 (shares u lock b.way) parts.0 in
      record {
        request = a.request;
        asks = asks-then;
        unheld = unheld-then;
        another = other;
        taken = subst (λ n. 0 < n) (sym (has-there.counts lock)) some;
        barred =
            ap (λ m. is_exclusive m || is_exclusive a.request.mode) (has-there.modes lock some)
            ∙ parts.1;
      }
