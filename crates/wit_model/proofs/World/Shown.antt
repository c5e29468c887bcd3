-- A deed of a world, and what a scene shows then.
use Rattle.std.proofs.Common.{◌≡◌, ℕ, ◌+◌, ◌-◌, ◌<◌, true, false, cond, eqb, List, ◌∷◌, length}
use Rattle.std.proofs.Common.{refl, ap, sym, ◌∙◌, subst, inl, inr}
use Rattle.std.proofs.lemmas.Bool.{eq-eqb, true≢false}
use Rattle.std.proofs.lemmas.Bool.Decides.{eqb_tells}
use Rattle.wit_model.specs.declared.locks.Mode.{Mode}
use Rattle.wit_model.specs.declared.locks.Mode.TheVariants.{Shared, Exclusive}
use Rattle.wit_model.specs.Rules.Numbers.{is_given, is_number, with_changed}
use Rattle.wit_model.specs.Rules.State.{Start, typed_locks}
use Rattle.wit_model.specs.Rules.Verdict.{is_exclusive}
use Rattle.wit_model.specs.World.Deeds.{Deed, Take, TryTake, Free, RawUp, RawDown, thread_of, own}
use Rattle.wit_model.specs.World.Deeds.{log_of, are_these, shares, raw_mode}
use Rattle.wit_model.specs.World.Stages.{Stage, Over, stage_after, stage}
use Rattle.wit_model.specs.World.Steps.{admits, is_alone, IsWorld}
use Rattle.wit_model.specs.World.Scenes.{RawLock, Scene, nobodys, raw_of, shares_among, shares_of}
use Rattle.wit_model.specs.World.Scenes.{stage_among, one_more, one_fewer, stage_stepped, stepped}
use Rattle.wit_model.specs.World.Shown.{IsTidy, Shows}
use Rattle.wit_model.proofs.World.Exclusion.{had-more, had-less, alone-is, has_seat, got-by}
use Rattle.wit_model.proofs.World.Exclusion.{exclusive_alone}
use Rattle.wit_model.proofs.World.Holders.{shares-one_more, shares-one_fewer, tidy-one_more}
use Rattle.wit_model.proofs.World.Holders.{tidy-one_fewer}
use Rattle.wit_model.proofs.World.Placed.{length-changed, changed-here, changed-elsewhere}
use Rattle.wit_model.proofs.World.Own.{own-mine, own-other}
use Rattle.wit_model.proofs.World.Apart.{these-here, these-elsewhere, both-shared}

module _ (start : Start) (files : List (List ℕ)) (w : List Deed) (s : Scene)
    (shown : Shows start files w s) where
  -- the stage of a deed's thread is another, and no other thread's
  pub stages-after : (d : Deed) (g : Stage) → is_number start.sizes.seats (thread_of d) ≡ true
      → g ≡ stage_after (thread_of d) d (own (thread_of d) w)
      → (u : ℕ) → stage_among (with_changed s.stages (thread_of d) g) u ≡ stage u (own u (d ∷ w))
  stages-after d g seat same u =
      let given : is_given s.stages (thread_of d) ≡ true =
      ap (λ n. is_number n (thread_of d)) shown.seats ∙ seat in
      elim (eqb_tells (thread_of d) u) [
        | inl is ↦
            subst (λ v. stage_among (with_changed s.stages (thread_of d) g) v
            ≡ stage v (own v (d ∷ w))) is.1
            (changed-here s.stages (thread_of d) g Over given
            ∙ (same ∙ ap (λ o. stage (thread_of d) o)
            (sym (own-mine (thread_of d) d w (eq-eqb (thread_of d) (thread_of d) refl)))))
        | inr other ↦
            changed-elsewhere s.stages (thread_of d) g Over given u other.1
            ∙ (shown.stages u ∙ ap (λ o. stage u o) (sym (own-other u d w other.0)))
      ]

  pub seats-after : (t : ℕ) (g : Stage) → length (with_changed s.stages t g) ≡ start.sizes.seats
  seats-after t g = length-changed s.stages t g ∙ shown.seats

  module _ (m : ℕ) (k : RawLock) (made : is_given (typed_locks start (log_of w)) m ≡ true) where
    raw-given : is_given s.raw m ≡ true
    raw-given = ap (λ n. is_number n m) shown.locks ∙ made

    raw-here : raw_of (with_changed s.raw m k) m ≡ k
    raw-here = changed-here s.raw m k nobodys raw-given

    raw-elsewhere : (l : ℕ) → (m ≡ l → ⊥) → raw_of (with_changed s.raw m k) l ≡ raw_of s.raw l
    raw-elsewhere l other = changed-elsewhere s.raw m k nobodys raw-given l other

    -- what holds of the changed lock and of the others holds of each
    by_lock : (P : ℕ → RawLock → Type 0) → P m k
        → ((l : ℕ) → (m ≡ l → ⊥) → eqb m l ≡ false → P l (raw_of s.raw l)) → (l : ℕ)
        → P l (raw_of (with_changed s.raw m k) l)
    by_lock P here elsewhere l =
        elim (eqb_tells m l) [
          | inl is ↦ subst (λ j. P j (raw_of (with_changed s.raw m k) j)) is.1
              (subst (P m) (sym raw-here) here)
          | inr other ↦ subst (P l) (sym (raw-elsewhere l other.1)) (elsewhere l other.1 other.0)
        ]

    locks-after : length (with_changed s.raw m k) ≡ length (typed_locks start (log_of w))
    locks-after = length-changed s.raw m k ∙ shown.locks

    tidy-after : IsTidy k.holders → (l : ℕ) → IsTidy (raw_of (with_changed s.raw m k) l).holders
    tidy-after tidy = by_lock (λ l x. IsTidy x.holders) tidy (λ l other none. shown.tidy l)

    -- a thread gets one more or one fewer
    had-after : (f : ℕ → ℕ) (u : ℕ)
        → ((t : ℕ) → shares_among t k.holders
        ≡ cond (eqb u t) (f (shares_of s.raw t m)) (shares_of s.raw t m))
        → (t l : ℕ) → shares_of (with_changed s.raw m k) t l
        ≡ cond (are_these t l u m) (f (shares t l w)) (shares t l w)
    had-after f u fix t =
        by_lock (λ l x. shares_among t x.holders
        ≡ cond (are_these t l u m) (f (shares t l w)) (shares t l w))
        (fix t ∙ (ap (λ n. cond (eqb u t) (f n) n) (shown.had t m)
        ∙ ap (λ b. cond b (f (shares t m w)) (shares t m w)) (sym (these-here t m u m refl))))
        (λ l other none. shown.had t l ∙ ap (λ b. cond b (f (shares t l w)) (shares t l w))
        (sym (these-elsewhere t l u m none)))

    had-kept : k.holders ≡ (raw_of s.raw m).holders → (t l : ℕ)
        → shares_of (with_changed s.raw m k) t l ≡ shares t l w
    had-kept same t =
        by_lock (λ l x. shares_among t x.holders ≡ shares t l w)
        (ap (λ xs. shares_among t xs) same ∙ shown.had t m) (λ l other none. shown.had t l)

    mode-kept : k.mode ≡ (raw_of s.raw m).mode → (t l : ℕ) → 0 < shares t l w
        → (raw_of (with_changed s.raw m k) l).mode ≡ raw_mode t l w
    mode-kept same t =
        by_lock (λ l x. 0 < shares t l w → x.mode ≡ raw_mode t l w)
        (λ some. same ∙ shown.modes t m some) (λ l other none some. shown.modes t l some)

    -- the lock's mode is another: others who have shares have the same
    mode-after : (u : ℕ) → ((t : ℕ) → (u ≡ t → ⊥) → 0 < shares t m w → k.mode ≡ raw_mode t m w)
        → (t l : ℕ) → (are_these t l u m ≡ false → 0 < shares t l w)
        → (raw_of (with_changed s.raw m k) l).mode
        ≡ cond (are_these t l u m) k.mode (raw_mode t l w)
    mode-after u others t =
        by_lock (λ l x. (are_these t l u m ≡ false → 0 < shares t l w)
        → x.mode ≡ cond (are_these t l u m) k.mode (raw_mode t l w))
        (λ some. elim (eqb_tells u t) [
          | inl is ↦ ap (λ b. cond b k.mode (raw_mode t m w)) (sym (these-here t m u m refl ∙ is.0))
          | inr other ↦
              let apart : are_these t m u m ≡ false = these-here t m u m refl ∙ other.0 in
              others t other.1 (some apart) ∙ ap (λ b. cond b k.mode (raw_mode t m w)) (sym apart)
        ])
        (λ l other none some.
        (let apart = these-elsewhere t l u m none in
        shown.modes t l (some apart) ∙ ap (λ b. cond b k.mode (raw_mode t l w)) (sym apart)))

  -- ---- each deed of a lock

  module _ (world : IsWorld start files w) (t l : ℕ) (seat : is_number start.sizes.seats t ≡ true)
      (made : is_given (typed_locks start (log_of w)) l ≡ true) where
    got-lock : Mode → RawLock
    got-lock mode = record { mode = mode; holders = one_more t (raw_of s.raw l).holders }

    got-mode : (mode : Mode) → admits start.sizes.seats l mode w ≡ true → (u : ℕ) → (t ≡ u → ⊥)
        → 0 < shares u l w → mode ≡ raw_mode u l w
    got-mode mode admitted u other some =
        let shared =
        got-by start files mode w u l (has_seat start files w world u l some) some admitted in
        both-shared mode (raw_mode u l w) shared.0 shared.1

    pub take-shows : (mode : Mode) → admits start.sizes.seats l mode w ≡ true
        → Shows start files (Take t l mode ∷ w) (stepped s (Take t l mode))
    unfolding got-lock
    take-shows mode admitted = record {
      begun = shown.begun;
      logs = shown.logs;
      named = shown.named;
      locks = locks-after l (got-lock mode) made;
      had =
          had-after l (got-lock mode) made (λ n. n + 1) t
          (λ u. shares-one_more t u (raw_of s.raw l).holders);
      modes =
          λ u m some. mode-after l (got-lock mode) made t (got-mode mode admitted) u m
          (λ apart. had-more (are_these u m t l) (shares u m w) apart some);
      tidy =
          tidy-after l (got-lock mode) made
          (tidy-one_more t (raw_of s.raw l).holders (shown.tidy l));
      stages = stages-after (Take t l mode) (stage_stepped (Take t l mode)) seat refl;
      seats = seats-after t (stage_stepped (Take t l mode));
    }

    pub try-shows : (mode : Mode) → admits start.sizes.seats l mode w ≡ true
        → Shows start files (TryTake t l mode ∷ w) (stepped s (TryTake t l mode))
    unfolding got-lock
    try-shows mode admitted = record {
      begun = shown.begun;
      logs = shown.logs;
      named = shown.named;
      locks = locks-after l (got-lock mode) made;
      had =
          had-after l (got-lock mode) made (λ n. n + 1) t
          (λ u. shares-one_more t u (raw_of s.raw l).holders);
      modes =
          λ u m some. mode-after l (got-lock mode) made t (got-mode mode admitted) u m
          (λ apart. had-more (are_these u m t l) (shares u m w) apart some);
      tidy =
          tidy-after l (got-lock mode) made
          (tidy-one_more t (raw_of s.raw l).holders (shown.tidy l));
      stages = stages-after (TryTake t l mode) (stage_stepped (TryTake t l mode)) seat refl;
      seats = seats-after t (stage_stepped (TryTake t l mode));
    }

    freed-lock : RawLock
    freed-lock = record (raw_of s.raw l) { holders = one_fewer t (raw_of s.raw l).holders }

    pub free-shows : Shows start files (Free t l ∷ w) (stepped s (Free t l))
    unfolding freed-lock
    free-shows = record {
      begun = shown.begun;
      logs = shown.logs;
      named = shown.named;
      locks = locks-after l freed-lock made;
      had =
          had-after l freed-lock made (λ n. n - 1) t
          (λ u. shares-one_fewer t u (raw_of s.raw l).holders (shown.tidy l));
      modes =
          λ u m some. mode-kept l freed-lock made refl u m
          (had-less (are_these u m t l) (shares u m w) some);
      tidy =
          tidy-after l freed-lock made (tidy-one_fewer t (raw_of s.raw l).holders (shown.tidy l));
      stages = stages-after (Free t l) Over seat refl;
      seats = seats-after t Over;
    }

    turned-lock : Mode → RawLock
    turned-lock mode = record (raw_of s.raw l) { mode = mode }

    pub up-shows : is_alone start.sizes.seats t l w ≡ true
        → Shows start files (RawUp t l ∷ w) (stepped s (RawUp t l))
    unfolding turned-lock
    up-shows alone = record {
      begun = shown.begun;
      logs = shown.logs;
      named = shown.named;
      locks = locks-after l (turned-lock Exclusive) made;
      had = had-kept l (turned-lock Exclusive) made refl;
      modes = λ u m some. mode-after l (turned-lock Exclusive) made t
          (λ v other had. absurd (other
          (sym (alone-is start.sizes.seats v l w (has_seat start files w world v l had) had t
          alone)))) u m (λ apart. some);
      tidy = tidy-after l (turned-lock Exclusive) made (shown.tidy l);
      stages = stages-after (RawUp t l) (stage_stepped (RawUp t l)) seat refl;
      seats = seats-after t (stage_stepped (RawUp t l));
    }

    pub down-shows : 0 < shares t l w → is_exclusive (raw_mode t l w) ≡ true
        → Shows start files (RawDown t l ∷ w) (stepped s (RawDown t l))
    unfolding turned-lock
    down-shows some exclusive = record {
      begun = shown.begun;
      logs = shown.logs;
      named = shown.named;
      locks = locks-after l (turned-lock Shared) made;
      had = had-kept l (turned-lock Shared) made refl;
      modes = λ u m had. mode-after l (turned-lock Shared) made t
          (λ v other has. absurd (true≢false
          (sym exclusive ∙ exclusive_alone start files w t v l world
          (λ same. other (sym same)) some has))) u m (λ apart. had);
      tidy = tidy-after l (turned-lock Shared) made (shown.tidy l);
      stages = stages-after (RawDown t l) Over seat refl;
      seats = seats-after t Over;
    }
