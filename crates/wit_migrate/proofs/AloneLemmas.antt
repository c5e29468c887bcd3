-- Assertions and warnings: lines beside which no step of a lock is done.
use Rattle.std.proofs.Common.{◌≡◌, ℕ, ◌+◌, List, [], ◌∷◌, Result, Ok, Err, IfOk, OnErr, refl, sym, ap}
use Rattle.std.proofs.Common.{◌∙◌, subst, arith}
use Rattle.std.specs.Global.{Vec}
use Rattle.std.specs.Result.{IsErrAnd}
use Rattle.wit_model.specs.Rules.State.{Story}
use Rattle.wit_model.specs.Trace.Moving.{Moved, with_feeds, line_alone}
use Rattle.wit_model.specs.Trace.Moving as moving
use Rattle.wit_model.specs.Trace.Output.{Reading}
use Rattle.wit_model.specs.Trace.Output as output
use Rattle.wit_model.specs.World.Scenes.{RawLock}
use Rattle.wit_fields.specs.declared.errors.LineError.{LineError}
use Rattle.wit_migrate.specs.Migrates.{MovesAsDue, Writes}
use Rattle.wit_lines.specs.Replays.{FailsFor, Remarks}
use Rattle.wit_migrate.proofs.NumberedLemmas.{bad-alone, failed}

module _ (s : Story) (raw : List RawLock) (m : ℕ) (bytes : List ℕ) (due : ℕ → output.Outcome) where
  pub remark-goes : (count : ℕ) (told : Vec ℕ) (text answer : Result (Vec ℕ) LineError)
      (written : List ℕ) → Remarks s due answer
      → text ≡ answer → text ≡ Ok told → IfOk answer (λ t. count ≡ m + output.said t.items)
      → written ≡ with_feeds (bytes ∷ [])
      → Writes (line_alone raw bytes (due m)) (Moved s raw count) written
  remark-goes count told text answer written remarks same ok counts is =
      let answers : answer ≡ Ok told = sym same ∙ ok in
      let due_is : due m ≡ output.remarks s m told.items =
      subst (Remarks s due) answers remarks m in
      let more : count ≡ m + output.said told.items =
      subst (λ a. IfOk a (λ (t : Vec ℕ). count ≡ m + output.said t.items)) answers counts in
      record {
        lines = bytes ∷ [];
        goes =
            ap (λ o. line_alone raw bytes o) due_is
            ∙ ap (λ n. moving.Goes (Moved s raw n) (bytes ∷ [])) (sym more);
        written = is;
      }

  pub remark-fails : (count : ℕ) (e : LineError) (text answer res : Result (Vec ℕ) LineError)
      → Remarks s due answer → OnErr answer (count ≡ m)
      → text ≡ answer → text ≡ Err e → IsErrAnd res (λ x. x ≡ e)
      → MovesAsDue (line_alone raw bytes (due m)) (Moved s raw m) (Moved s raw count) res
  remark-fails count e text answer res remarks counts same err is =
      let fails = subst (Remarks s due) (sym same ∙ err) remarks m in
      let stays = subst (λ a. OnErr a (count ≡ m)) (sym same ∙ err) counts in
      failed (line_alone raw bytes (due m)) (Moved s raw m) (Moved s raw count) e res refl
      (record { counts = omega (arith, stays); weighs = omega arith })
      (λ cause bad. bad-alone raw bytes (Reading s m) (Reading s m) cause (due m)
      (subst (FailsFor (due m) (Reading s m) (Reading s m)) bad fails)) is
