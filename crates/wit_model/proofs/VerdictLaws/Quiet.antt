-- In a clean history everything is watched, no violation was found, no lock is special, and each
-- check behind a held lock met all rules.
use Rattle.std.proofs.Common.{◌≡◌, ◌⊎◌, ℕ, ◌-◌, ◌<◌, ◌≤◌, Bool, true, false, not, ◌&&◌, ◌||◌, cond}
use Rattle.std.proofs.Common.{List, [], ◌∷◌, length, get_or, None, Some, Result, Ok, refl, ap, sym}
use Rattle.std.proofs.Common.{◌∙◌, subst, inl, inr, ⊎_elim, nat_lt}
use Rattle.std.specs.List.{list_all, last_or}
use Rattle.std.proofs.lemmas.Bool.{and_parts, and_from, and_left, and_right, or_from, true≢false}
use Rattle.std.proofs.lemmas.Bool.{false≢true, not-true, true_from_ne_false, cases_lt, ltb-true}
use Rattle.std.proofs.lemmas.List.{get_or_past}
use Rattle.std.proofs.lemmas.List.Folds.{list_all-append, list_all_at}
use Rattle.wit_model.specs.declared.profiles.Profile.{Profile}
use Rattle.wit_model.specs.declared.profiles.Profile.TheVariants.{Plain}
use Rattle.wit_model.specs.declared.faults.Fault.{Fault}
use Rattle.wit_model.specs.declared.locks.Watch.{Watch}
use Rattle.wit_model.specs.declared.locks.Watch.TheVariants.{Off, Quiet, On}
use Rattle.wit_model.specs.declared.locks.TypeNo.{TypeNo}
use Rattle.wit_model.specs.declared.locks.Instance.{Instance}
use Rattle.wit_model.specs.declared.calls.TypedRequest.{TypedRequest}
use Rattle.wit_model.specs.declared.calls.NewLock.{NewLock}
use Rattle.wit_model.specs.declared.calls.Request.{Request}
use Rattle.wit_model.specs.declared.calls.Call.{Call}
use Rattle.wit_model.specs.declared.calls.Call.TheVariants.{Init, Check, SetWatch}
use Rattle.wit_model.specs.declared.calls.Reply.{Reply}
use Rattle.wit_model.specs.declared.calls.Reply.TheVariants.{Pass, Adopted, Silent, Reversal}
use Rattle.wit_model.specs.declared.calls.Reply.TheVariants.{Duplicate, Exhausted}
use Rattle.wit_model.specs.declared.calls.Entry.{Entry}
use Rattle.wit_model.specs.Rules.Locks.{made, locks_of, lock_of, no_lock, has_flag, is_spin_lock}
use Rattle.wit_model.specs.Rules.Orders.{is_found}
use Rattle.wit_model.specs.Rules.History.{is_on, is_held, held_of, chain, watch_after, watch_of}
use Rattle.wit_model.specs.Rules.History.{is_report}
use Rattle.wit_model.specs.Rules.State.{Start, known_of, typed_locks, found_after, found_of}
use Rattle.wit_model.specs.Rules.Verdict.{Basis, type_held, place_of, place_asked, doubled}
use Rattle.wit_model.specs.Rules.Verdict.{is_blessed, conflict, reported, basis_of, typed_request}
use Rattle.wit_model.specs.Rules.Step.{IsLegal}
use Rattle.wit_model.specs.Rules.Ahead.{type_of_lock}
use Rattle.wit_model.specs.Rules.Clean.{is_clean_call, is_clean_entry, is_clean}
use Rattle.wit_model.specs.VerdictLaws.{AsksBehind, HasPassed, is_giant_lock, is_sleepable_lock}
use Rattle.wit_model.proofs.Numbered.{with_number-or}
use Rattle.wit_model.proofs.Histories.Accepted.{same_reply}
use Rattle.wit_model.proofs.Orders.Ruled.{Says, Passed, Learnt, LearntAll, Doubled, Broken}
use Rattle.wit_model.proofs.VerdictLaws.Judged.{chain-of_kind, told-asked}
use Rattle.wit_model.proofs.VerdictLaws.Passing.{type-of_last}
use Rattle.wit_model.proofs.VerdictLaws.Learning.{not-all}

module _ (profile : Profile) where
  -- ---- what an entry's cleanness says

  pub clean-parts : (e : Entry) (h : List Entry) → is_clean profile (e ∷ h) ≡ true
      → (is_clean_call profile e.call ≡ true)
      × ((is_report e.reply ≡ false) × (is_clean profile h ≡ true))
  clean-parts e h clean =
      let parts = and_parts (is_clean_entry profile e) (is_clean profile h) clean in
      let entry = and_parts (is_clean_call profile e.call) (not (is_report e.reply)) parts.0 in
      (entry.0, (not-true (is_report e.reply) entry.1, parts.1))

  -- ---- everything is watched

  on-from : (w : Watch) → is_on w ≡ true → w ≡ On
  on-from On is = refl
  on-from Quiet is = absurd (false≢true is)
  on-from Off is = absurd (false≢true is)

  watch_by : (c : Call) (r : Reply) (w : Watch) → is_clean_call profile c ≡ true
      → is_report r ≡ false → is_on w ≡ true → is_on (watch_after c r w) ≡ true
  watch_by (SetWatch level) r w clean quiet on = clean
  watch_by c Exhausted w clean quiet on = absurd (true≢false quiet)
  watch_by c r w clean quiet on = on

  on-clean : (h : List Entry) → is_clean profile h ≡ true → is_on (watch_of h) ≡ true
  on-clean [] clean = refl
  on-clean (e ∷ h) clean = let parts = clean-parts e h clean in
      watch_by e.call e.reply (watch_of h) parts.0 parts.1.0 (on-clean h parts.1.1)

  pub watch-clean : (h : List Entry) → is_clean profile h ≡ true → watch_of h ≡ On
  watch-clean h clean = on-from (watch_of h) (on-clean h clean)

  -- ---- no lock is Giant or allows a second one of its type

  abbrev is_plain : NewLock → Bool
  is_plain lock = not (has_flag lock.flags.0 0x02) && not (is_giant_lock lock)

  plain_by : (c : Call) → is_clean_call profile c ≡ true → list_all is_plain (made c) ≡ true
  plain_by (Init lock) clean = and_from (is_plain lock) true clean refl
  plain_by _ clean = refl

  plain-made : (h : List Entry) → is_clean profile h ≡ true → list_all is_plain (locks_of h) ≡ true
  plain-made [] clean = refl
  plain-made (e ∷ h) clean =
      let parts = clean-parts e h clean in
      list_all-append is_plain (locks_of h) (made e.call)
      ∙ and_from (list_all is_plain (locks_of h)) (list_all is_plain (made e.call))
      (plain-made h parts.1.1) (plain_by e.call parts.0)

  all_get : (p : NewLock → Bool) (ls : List NewLock) (i : ℕ) (d : NewLock) → list_all p ls ≡ true
      → p d ≡ true → p (get_or ls i d) ≡ true
  all_get p ls i d all none =
      ⊎_elim
      (λ (lt : i < length ls). true_from_ne_false (p (get_or ls i d))
      (λ not_so. true≢false (sym all ∙ list_all_at p ls i d lt not_so)))
      (λ (past : length ls ≤ i). ap p (get_or_past ls i d past) ∙ none)
      (cases_lt i (length ls))

  plain-lock : (h : List Entry) (l : ℕ) → is_clean profile h ≡ true
      → is_plain (lock_of (locks_of h) l) ≡ true
  plain-lock h l clean = go (nat_lt 0 l) refl
    where
      go : (b : Bool) → nat_lt 0 l ≡ b → is_plain (lock_of (locks_of h) l) ≡ true
      go true some =
          ap is_plain (with_number-or (locks_of h) l no_lock (ltb-true 0 l some))
          ∙ all_get is_plain (locks_of h) (l - 1) no_lock (plain-made h clean) refl
      go false none = rw none refl

  pub plain-parts : (h : List Entry) (l : ℕ) → is_clean profile h ≡ true
      → (has_flag (lock_of (locks_of h) l).flags.0 0x02 ≡ false)
      × (is_giant_lock (lock_of (locks_of h) l) ≡ false)
  plain-parts h l clean =
      let both =
      and_parts (not (has_flag (lock_of (locks_of h) l).flags.0 0x02))
      (not (is_giant_lock (lock_of (locks_of h) l))) (plain-lock h l clean) in (
        not-true (has_flag (lock_of (locks_of h) l).flags.0 0x02) both.0,
        not-true (is_giant_lock (lock_of (locks_of h) l)) both.1,
      )

-- ---- no violation was found

doubled-silent : (g : Basis) (q : TypedRequest) (i : Instance) (a b : TypeNo)
    → doubled g q i ≡ Ok (Silent a b) → is_found g.found q.type_no.0 q.type_no.0 ≡ true
doubled-silent g q i a b ok =
    go (has_flag q.flags.0 0x02 || has_flag q.ops.0 0x02)
    (is_found g.found q.type_no.0 q.type_no.0) refl ok
  where
    go : (allowed f : Bool) → is_found g.found q.type_no.0 q.type_no.0 ≡ f
        → cond {A = Result Reply Fault} allowed (Ok Pass)
        (cond f (Ok (Silent q.type_no q.type_no))
        (Ok (Duplicate (record { last = place_of i; asked = place_asked q }))))
        ≡ Ok (Silent a b)
        → is_found g.found q.type_no.0 q.type_no.0 ≡ true
    go true f is same = (cc)
    go false true is same = is
    go false false is same = (cc)

reported-silent : (g : Basis) (q : TypedRequest) (c : List Instance) (i : Instance) (a b : TypeNo)
    → reported g q c i ≡ Ok (Silent a b)
    → (is_found g.found (type_held g i).0 q.type_no.0 || is_blessed g (type_held g i) q.type_no)
    ≡ true
reported-silent g q c i a b ok =
    go (is_found g.found (type_held g i).0 q.type_no.0
    || is_blessed g (type_held g i) q.type_no) refl ok
  where
    go : (f : Bool) → (is_found g.found (type_held g i).0 q.type_no.0
        || is_blessed g (type_held g i) q.type_no) ≡ f
        → cond {A = Result Reply Fault} f (Ok (Silent (type_held g i) q.type_no))
        (Ok (Reversal (conflict g q c i))) ≡ Ok (Silent a b)
        → (is_found g.found (type_held g i).0 q.type_no.0 || is_blessed g (type_held g i) q.type_no)
        ≡ true
    go true is same = is
    go false is same = (cc)

-- nothing is passed over in silence where nothing was found and no pair is blessed
never-silent : (profile : Profile) (g : Basis) (w : Watch) (q : TypedRequest) (c : List Instance)
    (a b : TypeNo) → g.found ≡ [] → g.blessed ≡ [] → Says profile g w q c (Silent a b) → ⊥
never-silent profile g w q c a b none unblessed (Passed passes why) = (cc)
never-silent profile g w q c a b none unblessed (LearntAll all l) = let e = l.reply in (cc)
never-silent profile g w q c a b none unblessed (Learnt plain l) = let e = l.reply in (cc)
never-silent profile g w q c a b none unblessed (Doubled d) =
    true≢false (sym (doubled-silent g q d.held a b d.reply)
    ∙ ap (λ ps. is_found ps q.type_no.0 q.type_no.0) none)
never-silent profile g w q c a b none unblessed (Broken v) =
    true≢false
    (sym (reported-silent g q c v.held a b v.reply)
    ∙ or_from (is_found g.found (type_held g v.held).0 q.type_no.0)
    (is_blessed g (type_held g v.held) q.type_no)
    (ap (λ ps. is_found ps (type_held g v.held).0 q.type_no.0) none)
    (ap (λ ps. is_blessed (record g { blessed = ps }) (type_held g v.held) q.type_no) unblessed))

module _ (start : Start) (files : List (List ℕ)) (unblessed : start.blessed ≡ []) where
  pub unheard : (e : Entry) (h : List Entry) → IsLegal start files (e ∷ h) → found_of start h ≡ []
      → (a b : TypeNo) → e.reply ≡ Silent a b → ⊥
  unheard e h legal none a b is =
      let asks = told-asked start files e h legal (rw is refl) in
      let kind = is_spin_lock (locks_of h) asks.0.lock.0 in
      let g = basis_of (known_of start h) in
      never-silent start.profile g (watch_of h) (typed_request (known_of start h) asks.0)
      (chain kind e.seat.0 h) a b none unblessed
      (subst (λ r. Says start.profile g (watch_of h) (typed_request (known_of start h) asks.0)
      (chain kind e.seat.0 h) r) is (chain-of_kind start files e h asks.0 legal asks.1))

  found_by : (e : Entry) (h : List Entry) → IsLegal start files (e ∷ h) → found_of start h ≡ []
      → (r : Reply) → e.reply ≡ r → is_report r ≡ false
      → found_after (typed_locks start h) r (found_of start h) ≡ []
  found_by e h legal none (Silent a b) is quiet = absurd (unheard e h legal none a b is)
  found_by e h legal none (Reversal x) is quiet = absurd (true≢false quiet)
  found_by e h legal none (Duplicate d) is quiet = absurd (true≢false quiet)
  found_by e h legal none _ is quiet = none

  pub found-clean : (h : List Entry) → IsLegal start files h → is_clean start.profile h ≡ true
      → found_of start h ≡ []
  found-clean [] legal clean = refl
  found-clean (e ∷ h) legal clean =
      let parts =
      clean-parts start.profile e h clean in
      found_by e h legal (found-clean h legal.2 parts.1.1) e.reply refl parts.1.0

  -- ---- a clean check behind a held lock met all rules

  module _ (e : Entry) (h : List Entry) (q : Request) (last : ℕ)
      (legal : IsLegal start files (e ∷ h)) (clean : is_clean start.profile (e ∷ h) ≡ true)
      (asks : e.call ≡ Check q) (is_last : last_or None
      (held_of (is_spin_lock (locks_of h) q.lock.0) e.seat.0 h) ≡ Some last) where
    abbrev behind-last : AsksBehind start h e (type_of_lock start h last)
        (type_of_lock start h q.lock.0)
    behind-last =
        record {
          request = q;
          asks = asks;
          last = last;
          is_last = is_last;
          parent = refl;
          child = refl;
        }

    quiet-by : (r : Reply) → is_report r ≡ false → ((a b : TypeNo) → r ≡ Silent a b → ⊥)
        → Says Plain (basis_of (known_of start h)) (watch_of h) (typed_request (known_of start h) q)
        (chain (is_spin_lock (locks_of h) q.lock.0) e.seat.0 h) r
        → (r ≡ Pass) ⊎ (r ≡ Adopted (record { 0 = type_of_lock start h last })
        (record { 0 = type_of_lock start h q.lock.0 }))
    quiet-by r quiet heard (Passed passes why) = inl passes
    quiet-by r quiet heard (LearntAll all l) = absurd (not-all all)
    quiet-by r quiet heard (Learnt plain' l) =
        inr (l.reply ∙ ap (λ n. Adopted n (typed_request (known_of start h) q).type_no)
        (type-of_last start files e h (type_of_lock start h last)
        (type_of_lock start h q.lock.0) legal behind-last l.last l.is_new.behind.is_last))
    quiet-by r quiet heard (Doubled d) =
        go (has_flag (typed_request (known_of start h) q).flags.0 0x02 || has_flag q.ops.0 0x02)
        (is_found (found_of start h) (type_of_lock start h q.lock.0)
        (type_of_lock start h q.lock.0)) d.reply
      where
        go : (allowed f : Bool) → cond {A = Result Reply Fault} allowed (Ok Pass)
            (cond f (Ok (Silent (typed_request (known_of start h) q).type_no
            (typed_request (known_of start h) q).type_no))
            (Ok (Duplicate (record {
              last = place_of d.held;
              asked = place_asked (typed_request (known_of start h) q);
            })))) ≡ Ok r
            → (r ≡ Pass) ⊎ (r ≡ Adopted (record { 0 = type_of_lock start h last })
            (record { 0 = type_of_lock start h q.lock.0 }))
        go true f same = inl (sym (same_reply same))
        go false true same = absurd (heard _ _ (sym (same_reply same)))
        go false false same = absurd (true≢false (ap is_report (same_reply same) ∙ quiet))
    quiet-by r quiet heard (Broken v) =
        go (is_found (found_of start h) (type_held (basis_of (known_of start h)) v.held).0
        (type_of_lock start h q.lock.0)
        || is_blessed (basis_of (known_of start h)) (type_held (basis_of (known_of start h)) v.held)
        (typed_request (known_of start h) q).type_no) v.reply
      where
        go : (f : Bool) → cond {A = Result Reply Fault} f
            (Ok (Silent (type_held (basis_of (known_of start h)) v.held)
            (typed_request (known_of start h) q).type_no))
            (Ok (Reversal (conflict (basis_of (known_of start h))
            (typed_request (known_of start h) q)
            (chain (is_spin_lock (locks_of h) q.lock.0) e.seat.0 h) v.held))) ≡ Ok r
            → (r ≡ Pass) ⊎ (r ≡ Adopted (record { 0 = type_of_lock start h last })
            (record { 0 = type_of_lock start h q.lock.0 }))
        go true same = absurd (heard _ _ (sym (same_reply same)))
        go false same = absurd (true≢false (ap is_report (same_reply same) ∙ quiet))

    pub clean-passed : start.profile ≡ Plain → is_held e.seat.0 q.lock.0 h ≡ false
        → HasPassed start h e (type_of_lock start h last) (type_of_lock start h q.lock.0)
    clean-passed plain unheld =
        let parts = clean-parts start.profile e h clean in
        let flags =
        and_parts (has_flag q.ops.0 0x01) (not (has_flag q.ops.0 0x02))
        (ap (is_clean_call start.profile) (sym asks) ∙ parts.0) in
        let mine = plain-parts start.profile h q.lock.0 parts.1.1 in
        let other = plain-parts start.profile h last parts.1.1 in
        record {
          behind = behind-last;
          passed =
              quiet-by e.reply parts.1.0 (λ a b is. unheard e h legal
              (found-clean h legal.2 parts.1.1) a b is)
              (subst (λ p. Says p (basis_of (known_of start h)) (watch_of h)
              (typed_request (known_of start h) q)
              (chain (is_spin_lock (locks_of h) q.lock.0) e.seat.0 h) e.reply) plain
              (chain-of_kind start files e h q legal asks));
          on = watch-clean start.profile h parts.1.1;
          unheld = unheld;
          teaches = flags.0;
          single =
              λ same. or_from (has_flag (lock_of (locks_of h) q.lock.0).flags.0 0x02)
              (has_flag q.ops.0 0x02) mine.0 (not-true (has_flag q.ops.0 0x02) flags.1);
          bound =
              or_from (is_giant_lock (lock_of (locks_of h) last)
              && is_sleepable_lock (lock_of (locks_of h) q.lock.0))
              (is_sleepable_lock (lock_of (locks_of h) last)
              && is_giant_lock (lock_of (locks_of h) q.lock.0))
              (and_left _ _ other.1) (and_right _ _ mine.1);
        }
