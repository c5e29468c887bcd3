-- Who waits for whom in a scene, and in the world that it shows.
use Rattle.std.proofs.Common.{◌≡◌, ℕ, ◌<◌, Bool, true, false, not, ◌||◌, eqb, nat_lt, List, [], ◌∷◌}
use Rattle.std.proofs.Common.{refl, ap, sym, ◌∙◌, subst}
use Rattle.std.proofs.lemmas.Bool.{and_parts, and_from, eq-eqb, ne_eqb, not-true, lt-ltb, ltb-true}
use Rattle.std.proofs.lemmas.Bool.{false≢true, true≢false}
use Rattle.wit_model.specs.declared.calls.Request.{Request}
use Rattle.wit_model.specs.Rules.History.{is_held}
use Rattle.wit_model.specs.Rules.State.{Start}
use Rattle.wit_model.specs.Rules.Verdict.{is_exclusive}
use Rattle.wit_model.specs.Rules.Circles.{IsQueue, IsCircle}
use Rattle.wit_model.specs.World.Deeds.{Deed, log_of, shares}
use Rattle.wit_model.specs.World.Stages.{Stage, Over, Asked, Taken, Tried, Forgot, Raised, Lowered}
use Rattle.wit_model.specs.World.Waiting.{IsWaiting}
use Rattle.wit_model.specs.World.Scenes.{Scene, raw_of, shares_of, stage_at}
use Rattle.wit_model.specs.World.Shown.{Shows, is_barred_by, waits_in}

queue-through : {P Q : ℕ → ℕ → Type 0} → ((t u : ℕ) → P t u → Q t u) → (t : ℕ) (vs : List ℕ) (u : ℕ)
    → IsQueue P t vs u → IsQueue Q t vs u
queue-through f t [] u waits = f t u waits
queue-through f t (v ∷ vs) u waits = (f t v waits.0, queue-through f v vs u waits.1)

-- a circle of waits is one of whatever they imply
pub circle-through : {P Q : ℕ → ℕ → Type 0} → ((t u : ℕ) → P t u → Q t u) → (threads : List ℕ)
    → IsCircle P threads → IsCircle Q threads
circle-through f [] circle = circle
circle-through f (first ∷ others) circle = queue-through f first others first circle

-- who is barred asks
record Barred (s : Scene) (t u : ℕ) (at : Stage) : Type 0 where
  request : Request
  asks : at ≡ Asked request
  unheld : is_held t request.lock.0 s.story.history ≡ false
  another : eqb u t ≡ false
  taken : 0 < shares_of s.raw u request.lock.0
  exclusive : (is_exclusive (raw_of s.raw request.lock.0).mode || is_exclusive request.mode) ≡ true

barred : (s : Scene) (t u : ℕ) (at : Stage) → is_barred_by s t u at ≡ true → Barred s t u at
barred s t u (Asked q) is =
    let a = and_parts (not (is_held t q.lock.0 s.story.history)) _ is in
    let b = and_parts (not (eqb u t)) _ a.1 in
    let c = and_parts (nat_lt 0 (shares_of s.raw u q.lock.0)) _ b.1 in
    record {
      request = q;
      asks = refl;
      unheld = not-true (is_held t q.lock.0 s.story.history) a.0;
      another = not-true (eqb u t) b.0;
      taken = ltb-true 0 (shares_of s.raw u q.lock.0) c.0;
      exclusive = c.1;
    }
barred s t u Over is = absurd (false≢true is)
barred s t u (Taken l) is = absurd (false≢true is)
barred s t u (Tried l mode) is = absurd (false≢true is)
barred s t u (Forgot l may_keep) is = absurd (false≢true is)
barred s t u (Raised l) is = absurd (false≢true is)
barred s t u (Lowered l passed) is = absurd (false≢true is)

untrue : (b : Bool) → b ≡ false → not b ≡ true
untrue true is = absurd (true≢false is)
untrue false is = refl

module _ (start : Start) (files : List (List ℕ)) (w : List Deed) (s : Scene)
    (shown : Shows start files w s) where
  held-shown : (t l : ℕ) → is_held t l s.story.history ≡ is_held t l (log_of w)
  held-shown t l = ap (λ h. is_held t l h) shown.logs

  pub waits-world : (t u : ℕ) → waits_in s t u ≡ true → IsWaiting w t u
  waits-world t u is =
      let b = barred s t u (stage_at s t) is in
      let some : 0 < shares u b.request.lock.0 w =
      subst (λ n. 0 < n) (shown.had u b.request.lock.0) b.taken in
      record {
        request = b.request;
        asks = sym (shown.stages t) ∙ b.asks;
        unheld = sym (held-shown t b.request.lock.0) ∙ b.unheld;
        another = λ same. true≢false (sym (eq-eqb u t same) ∙ b.another);
        taken = some;
        barred =
            ap (λ mode. is_exclusive mode || is_exclusive b.request.mode)
            (sym (shown.modes u b.request.lock.0 some)) ∙ b.exclusive;
      }

  pub waits-scene : (t u : ℕ) → IsWaiting w t u → waits_in s t u ≡ true
  waits-scene t u x =
      let l = x.request.lock.0 in
      ap (λ at. is_barred_by s t u at) (shown.stages t ∙ x.asks)
      ∙ and_from (not (is_held t l s.story.history)) _
      (untrue (is_held t l s.story.history) (held-shown t l ∙ x.unheld))
      (and_from (not (eqb u t)) _ (untrue (eqb u t) (ne_eqb u t x.another))
      (and_from (nat_lt 0 (shares_of s.raw u l)) _
      (lt-ltb 0 (shares_of s.raw u l) (subst (λ n. 0 < n) (sym (shown.had u l)) x.taken))
      (ap (λ mode. is_exclusive mode || is_exclusive x.request.mode)
      (shown.modes u l x.taken) ∙ x.barred)))
