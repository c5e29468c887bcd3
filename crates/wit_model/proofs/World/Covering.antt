-- The shares of a thread that its stage covers.
use Rattle.std.proofs.Common.{◌≡◌, ℕ, ◌+◌, ◌-◌, ◌≤◌, Bool, true, false, cond, eqb, nat_lt, List, []}
use Rattle.std.proofs.Common.{◌∷◌, refl, ap, ap₂, sym, ◌∙◌, subst, arith}
use Rattle.std.proofs.lemmas.Bool.{eq-eqb, false≢true, true≢false}
use Rattle.wit_model.specs.declared.profiles.Profile.{Profile}
use Rattle.wit_model.specs.declared.locks.LockNo.{LockNo}
use Rattle.wit_model.specs.declared.locks.Mode.{Mode}
use Rattle.wit_model.specs.declared.locks.Site.{Site}
use Rattle.wit_model.specs.declared.calls.Call.{Call}
use Rattle.wit_model.specs.declared.calls.Call.TheVariants.{Check, Note, NoteTry, GiveUp, Unlock}
use Rattle.wit_model.specs.declared.calls.Call.TheVariants.{Upgrade, Downgrade, NoRelease}
use Rattle.wit_model.specs.declared.calls.Call.TheVariants.{ReleaseOk}
use Rattle.wit_model.specs.declared.calls.Reply.{Reply}
use Rattle.wit_model.specs.declared.calls.Reply.TheVariants.{Recorded, Exhausted, Unrecorded}
use Rattle.wit_model.specs.declared.calls.Reply.TheVariants.{Unlocked}
use Rattle.wit_model.specs.Rules.History.{Act, act, num, is_held, is_report}
use Rattle.wit_model.specs.Rules.State.{Start}
use Rattle.wit_model.specs.Rules.Step.{IsLegal}
use Rattle.wit_model.specs.Rules.Clean.{is_clean_call, is_clean}
use Rattle.wit_model.specs.World.Deeds.{Deed, Logged, PassedOver, Take, TryTake, Free, RawUp}
use Rattle.wit_model.specs.World.Deeds.{RawDown, own, log_of, are_these, shares}
use Rattle.wit_model.specs.World.Stages.{Stage, Over, Asked, Lowered, stage_logged, stage_passed}
use Rattle.wit_model.specs.World.Stages.{stage, is_over, call_follows, deed_follows}
use Rattle.wit_model.specs.World.Steps.{IsWorld}
use Rattle.wit_model.proofs.Chains.Acts.{num_after, is_even, num_after-even, upgrade-even}
use Rattle.wit_model.proofs.Chains.Acts.{downgrade-even, norelease-even, releaseok-even}
use Rattle.wit_model.proofs.VerdictLaws.Quiet.{clean-parts}
use Rattle.wit_model.proofs.World.Own.{shares-own, num-own}
use Rattle.wit_model.proofs.World.Dues.{due, Covers, settled, nothing-due, due-freeing, due-noting}
use Rattle.wit_model.proofs.World.Dues.{due-trying, due-upgrading, due-giving_up, noted, freed, got}
use Rattle.wit_model.proofs.World.Dues.{let_go, fewer}

-- the log of a world is a legal history
pub legal_world : (start : Start) (files : List (List ℕ)) (w : List Deed) → IsWorld start files w
    → IsLegal start files (log_of w)
legal_world start files [] world = tt
legal_world start files (Logged e ∷ w) world =
    (world.0.1.0, world.0.1.1, legal_world start files w world.1)
legal_world start files (Take u m mode ∷ w) world = legal_world start files w world.1
legal_world start files (TryTake u m mode ∷ w) world = legal_world start files w world.1
legal_world start files (PassedOver u c ∷ w) world = legal_world start files w world.1
legal_world start files (Free u m ∷ w) world = legal_world start files w world.1
legal_world start files (RawUp u m ∷ w) world = legal_world start files w world.1
legal_world start files (RawDown u m ∷ w) world = legal_world start files w world.1

-- what came before is clean too
pub clean-before : (profile : Profile) (d : Deed) (w : List Deed)
    → is_clean profile (log_of (d ∷ w)) ≡ true → is_clean profile (log_of w) ≡ true
clean-before profile (Logged e) w clean = (clean-parts profile e (log_of w) clean).1.1
clean-before profile (Take u m mode) w clean = clean
clean-before profile (TryTake u m mode) w clean = clean
clean-before profile (PassedOver u c) w clean = clean
clean-before profile (Free u m) w clean = clean
clean-before profile (RawUp u m) w clean = clean
clean-before profile (RawDown u m) w clean = clean

pub recorded-by : (off held none : Bool) (r : Reply) → off ≡ false → is_report r ≡ false
    → r ≡ cond off Unrecorded (cond held Recorded (cond none Exhausted Recorded)) → r ≡ Recorded
recorded-by true held none r on quiet is = absurd (true≢false on)
recorded-by false true none r on quiet is = is
recorded-by false false true r on quiet is = absurd (true≢false (sym (ap is_report is) ∙ quiet))
recorded-by false false false r on quiet is = is

module _ (start : Start) (files : List (List ℕ)) (t l : ℕ) (w : List Deed) where
  abbrev n : ℕ
  n = num t l (log_of w)

  abbrev s : ℕ
  s = shares t l w

  abbrev g : Stage
  g = stage t (own t w)

  -- the locks that the thread holds by the record
  abbrev held : ℕ → Bool
  held m = is_held t m (log_of w)

  module _ (was : Covers l n s g) where
    -- an act that records and releases nothing
    even : (a : Act) (after : Stage) → is_even a ≡ true → s ≤ n → due l after ≡ 0
        → Covers l (num_after a l n) s after
    even a after is le none =
        subst (λ k. Covers l k s after) (sym (num_after-even a l n is))
        (settled l n s after le none)

    -- a logged call of the thread itself
    pub entry-covers : (c : Call) (r : Reply) → ((m : LockNo) → c ≡ Note m → r ≡ Recorded)
        → ((m : LockNo) (mode : Mode) (site : Site) → c ≡ NoteTry m mode site → r ≡ Recorded)
        → ((m : LockNo) (mode : Mode) → c ≡ Unlock m mode → r ≡ Unlocked)
        → is_clean_call start.profile c ≡ true → call_follows c held g ≡ true
        → Covers l (num_after (act c r) l n) s (stage_logged t c (own t w))
    entry-covers (Note m) r notes tries unlocks clean may =
        subst (λ (x : Reply). Covers l (num_after (act (Note m) x) l n) s Over) (sym (notes m refl))
        (settled l (cond (eqb m.0 l) (n + 1) n) s Over
        (noted (eqb m.0 l) n s (due l g) was.all (due-noting l m held g may)) refl)
    entry-covers (Unlock m mode) r notes tries unlocks clean may =
        subst (λ (x : Reply). Covers l (num_after (act (Unlock m mode) x) l n) s
        (stage_logged t (Unlock m mode) (own t w))) (sym (unlocks m mode refl))
        (record {
          all = let_go (eqb m.0 l) n s (was.at_end may);
          at_end = fewer l m.0 n s (nat_lt (shares t m.0 (own t w)) (num t m.0 (log_of (own t w))))
              (λ same. ap (λ k. nat_lt (shares t k (own t w)) (num t k (log_of (own t w)))) same
              ∙ ap₂ (λ a b. nat_lt a b) (shares-own t l w) (num-own t l w))
              (was.at_end may);
        })
    entry-covers (Check q) r notes tries unlocks clean may =
        settled l n s (Asked q) (was.at_end may) refl
    entry-covers (NoteTry m mode site) r notes tries unlocks clean may =
        subst (λ (x : Reply). Covers l (num_after (act (NoteTry m mode site) x) l n) s Over)
        (sym (tries m mode site refl))
        (settled l (cond (eqb m.0 l) (n + 1) n) s Over
        (noted (eqb m.0 l) n s (due l g) was.all (due-trying l m held mode site g may)) refl)
    entry-covers (GiveUp m) r notes tries unlocks clean may =
        settled l n s Over (nothing-due l n s g (due-giving_up l m held g may) was) refl
    entry-covers (Upgrade m) r notes tries unlocks clean may =
        even (act (Upgrade m) r) Over (upgrade-even m r)
        (nothing-due l n s g (due-upgrading l m held g may) was) refl
    entry-covers (Downgrade m) r notes tries unlocks clean may =
        even (act (Downgrade m) r) (Lowered m.0 false) (downgrade-even m r) (was.at_end may) refl
    entry-covers (NoRelease m) r notes tries unlocks clean may =
        even (act (NoRelease m) r) Over (norelease-even m r) (was.at_end may) refl
    entry-covers (ReleaseOk m) r notes tries unlocks clean may =
        even (act (ReleaseOk m) r) Over (releaseok-even m r) (was.at_end may) refl
    entry-covers c r notes tries unlocks clean may = settled l n s Over (was.at_end may) refl

    -- a call of it that is passed over, which is never an acquisition
    pub passed-covers : (c : Call) → ((m : LockNo) → c ≡ Note m → ⊥)
        → ((m : LockNo) (mode : Mode) (site : Site) → c ≡ NoteTry m mode site → ⊥)
        → call_follows c held g ≡ true → Covers l n s (stage_passed c)
    passed-covers (Note m) no_note no_try may = absurd (no_note m refl)
    passed-covers (NoteTry m mode site) no_note no_try may = absurd (no_try m mode site refl)
    passed-covers (Unlock m mode) no_note no_try may = let le =
        was.at_end may in record { all = omega (arith, le); at_end = λ over. le }
    passed-covers (GiveUp m) no_note no_try may =
        settled l n s Over (nothing-due l n s g (due-giving_up l m held g may) was) refl
    passed-covers (Upgrade m) no_note no_try may =
        settled l n s Over (nothing-due l n s g (due-upgrading l m held g may) was) refl
    passed-covers (Downgrade m) no_note no_try may =
        settled l n s (Lowered m.0 true) (was.at_end may) refl
    passed-covers c no_note no_try may = settled l n s Over (was.at_end may) refl

    pub got-covers : (m : ℕ) (after : Stage) → due l after ≡ cond (eqb m l) 1 0
        → is_over after ≡ false
        → s ≤ n → Covers l n (cond (are_these t l t m) (s + 1) s) after
    got-covers m after dues unfinished le =
        let mine : are_these t l t m ≡ eqb m l = rw (eq-eqb t t refl) refl in
        record {
          all = rw (mine, dues) (got (eqb m l) n s le);
          at_end = λ over. absurd (false≢true (sym unfinished ∙ over));
        }

    pub free-covers : (m : ℕ) → deed_follows (Free t m) held g ≡ true
        → Covers l n (cond (are_these t l t m) (s - 1) s) Over
    free-covers m may =
        let mine : are_these t l t m ≡ eqb m l = rw (eq-eqb t t refl) refl in
        settled l n (cond (are_these t l t m) (s - 1) s) Over
        (rw mine (freed (eqb m l) n s (due l g) was.all (due-freeing l t m held g may))) refl
