-- What calm entries leave as it was: the locks, the types, those destroyed, and the watch.
use Rattle.std.proofs.Common.{◌≡◌, true, false, not, List, [], ◌∷◌, ◌++◌, refl, ap}
use Rattle.std.proofs.Common.{ap₂, ◌∙◌, append-nil}
use Rattle.std.specs.List.{list_all}
use Rattle.std.proofs.lemmas.Bool.{and_parts, not-true, false≢true, true≢false}
use Rattle.wit_model.specs.declared.locks.Watch.TheVariants.{On, Quiet, Off}
use Rattle.wit_model.specs.declared.calls.Call.{Call}
use Rattle.wit_model.specs.declared.calls.Call.TheVariants.{Init, Destroy, SetWatch}
use Rattle.wit_model.specs.declared.calls.Reply.{Reply}
use Rattle.wit_model.specs.declared.calls.Reply.TheVariants.{Exhausted}
use Rattle.wit_model.specs.declared.calls.Entry.{Entry}
use Rattle.wit_model.specs.Laws.{is_exhaustion}
use Rattle.wit_model.specs.declared.locks.LockType.{LockType}
use Rattle.wit_model.specs.Rules.Types.{types_after}
use Rattle.wit_model.specs.Rules.Locks.{made, locks_of, destroyed_by, destroyed_of, made_among}
use Rattle.wit_model.specs.Rules.History.{watch_after, watch_of}
use Rattle.wit_model.specs.Rules.State.{Start, types_of, typed_locks}
use Rattle.wit_errands.specs.Settled.{is_calm_call, is_calm}

-- ---- one call

none-typed : (types : List LockType) (c : Call) → is_calm_call c ≡ true
    → made_among types c ≡ []
none-typed types (Init lock) calm = absurd (false≢true calm)
none-typed types c calm = refl

none-made : (c : Call) → is_calm_call c ≡ true → made c ≡ []
none-made (Init lock) calm = absurd (false≢true calm)
none-made c calm = refl

none-enrolled : (types : List LockType) (c : Call) → is_calm_call c ≡ true
    → types_after c types ≡ types
none-enrolled types (Init lock) calm = absurd (false≢true calm)
none-enrolled types c calm = refl

none-destroyed : (c : Call) → is_calm_call c ≡ true → destroyed_by c ≡ []
none-destroyed (Destroy l) calm = absurd (false≢true calm)
none-destroyed c calm = refl

still-watched : (c : Call) (r : Reply) → is_calm_call c ≡ true → is_exhaustion r ≡ false
    → watch_after c r On ≡ On
still-watched (SetWatch On) r calm plain = refl
still-watched (SetWatch Quiet) r calm plain = absurd (false≢true calm)
still-watched (SetWatch Off) r calm plain = absurd (false≢true calm)
still-watched c Exhausted calm plain = absurd (true≢false plain)
still-watched c r calm plain = refl

-- ---- entries

pub record CalmParts (e : Entry) (h : List Entry) : Type 0 where
  pub call : is_calm_call e.call ≡ true
  pub plain : is_exhaustion e.reply ≡ false
  pub before : list_all is_calm h ≡ true

pub calm-parts : (e : Entry) (h : List Entry) → list_all is_calm (e ∷ h) ≡ true → CalmParts e h
calm-parts e h calm =
    let parts = and_parts (is_calm e) (list_all is_calm h) calm in
    let now = and_parts (is_calm_call e.call) (not (is_exhaustion e.reply)) parts.0 in
    record {
      call = now.0;
      plain = not-true (is_exhaustion e.reply) now.1;
      before = parts.1;
    }

pub calm-more : (e : Entry) (h : List Entry) → is_calm_call e.call ≡ true
    → is_exhaustion e.reply ≡ false → list_all is_calm h ≡ true
    → list_all is_calm (e ∷ h) ≡ true
calm-more e h call plain before = rw (call, plain) before

-- what came before is calm too
pub calm-tail : (later h : List Entry) → list_all is_calm (later ++ h) ≡ true
    → list_all is_calm h ≡ true
calm-tail [] h calm = calm
calm-tail (e ∷ later) h calm = calm-tail later h (calm-parts e (later ++ h) calm).before

module _ (past : List Entry) where
  pub made-calm : (h : List Entry) → list_all is_calm h ≡ true
      → locks_of (h ++ past) ≡ locks_of past
  made-calm [] calm = refl
  made-calm (e ∷ h) calm =
      let parts = calm-parts e h calm in
      ap₂ (λ a b. a ++ b) (made-calm h parts.before) (none-made e.call parts.call)
      ∙ append-nil (locks_of past)

  pub destroyed-calm : (h : List Entry) → list_all is_calm h ≡ true
      → destroyed_of (h ++ past) ≡ destroyed_of past
  destroyed-calm [] calm = refl
  destroyed-calm (e ∷ h) calm =
      let parts = calm-parts e h calm in
      ap₂ (λ a b. a ++ b) (none-destroyed e.call parts.call) (destroyed-calm h parts.before)

  pub watch-calm : (h : List Entry) → list_all is_calm h ≡ true → watch_of past ≡ On
      → watch_of (h ++ past) ≡ On
  watch-calm [] calm on = on
  watch-calm (e ∷ h) calm on =
      let parts = calm-parts e h calm in
      ap (λ w. watch_after e.call e.reply w) (watch-calm h parts.before on)
      ∙ still-watched e.call e.reply parts.call parts.plain

  module _ (start : Start) where
    pub types-calm : (h : List Entry) → list_all is_calm h ≡ true
        → types_of start (h ++ past) ≡ types_of start past
    types-calm [] calm = refl
    types-calm (e ∷ h) calm =
        let parts = calm-parts e h calm in
        none-enrolled (types_of start (h ++ past)) e.call parts.call ∙ types-calm h parts.before

    pub locks-calm : (h : List Entry) → list_all is_calm h ≡ true
        → typed_locks start (h ++ past) ≡ typed_locks start past
    locks-calm [] calm = refl
    locks-calm (e ∷ h) calm =
        let parts = calm-parts e h calm in
        ap₂ (λ a b. a ++ b) (locks-calm h parts.before)
        (none-typed (types_of start (h ++ past)) e.call parts.call)
        ∙ append-nil (typed_locks start past)
