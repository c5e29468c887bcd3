-- What the laws of the held locks assume of a history: that recorded locks were made, and released
-- locks were held.
use Rattle.std.proofs.Common.{◌≡◌, ℕ, ◌<◌, ◌≤◌, Bool, true, false, eqb, List, [], ◌∷◌, length, refl}
use Rattle.std.proofs.Common.{sym, subst}
use Rattle.std.proofs.lemmas.Bool.{eqb-true}
use Rattle.wit_model.specs.declared.calls.Entry.{Entry}
use Rattle.wit_model.specs.Rules.Locks.{locks_of}
use Rattle.wit_model.specs.Rules.History.{Act, Nothing, Records, Releases, act, act_by, num}

-- what an act needs: a recorded lock was made, a released one is held
abbrev pub IsFit : Act → ℕ → List Entry → Type 0
IsFit (Records l) t h = (0 < l) × (l ≤ length (locks_of h))
IsFit (Releases l) t h = 0 < num t l h
IsFit _ t h = Unit {0}

-- each act was fit when it came
abbrev pub IsSane : List Entry → Type 0
IsSane [] = Unit {0}
IsSane (e ∷ h) = IsFit (act e.call e.reply) e.seat.0 h × IsSane h

abbrev pub if_mine : Bool → Act → Act
if_mine true a = a
if_mine false a = Nothing

fit_if : (b : Bool) (t : ℕ) (x : Entry) (h : List Entry) → eqb x.seat.0 t ≡ b
    → IsFit (act x.call x.reply) x.seat.0 h → IsFit (if_mine b (act x.call x.reply)) t h
fit_if true t x h is fit = subst (λ s. IsFit (act x.call x.reply) s h) (eqb-true x.seat.0 t is) fit
fit_if false t x h is fit = tt

act_if : (b : Bool) (t : ℕ) (x : Entry) → eqb x.seat.0 t ≡ b
    → act_by t x ≡ if_mine b (act x.call x.reply)
act_if true t x is = rw is refl
act_if false t x is = rw is refl

-- the act, seen from a seat, is fit for that seat
pub fit_by : (t : ℕ) (x : Entry) (h : List Entry) → IsSane (x ∷ h) → IsFit (act_by t x) t h
fit_by t x h sane =
    subst (λ a. IsFit a t h) (sym (act_if (eqb x.seat.0 t) t x refl))
    (fit_if (eqb x.seat.0 t) t x h refl sane.0)
