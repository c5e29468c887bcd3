-- The lines of a prelude that are kept, and its end.
use Rattle.std.proofs.Common.{◌≡◌, ℕ, ◌+◌, false, cond, List, [], ◌∷◌, ◌++◌, None, Result, Ok, refl}
use Rattle.std.proofs.Common.{ap, ◌∙◌}
use Rattle.wit_model.specs.declared.lines.Line.{Line}
use Rattle.wit_model.specs.declared.lines.Line.TheVariants.{Header, Order, Bless, OnLock}
use Rattle.wit_model.specs.declared.lines.Line.TheVariants as kind
use Rattle.wit_model.specs.declared.lines.Version.TheVariants.{One, Two}
use Rattle.wit_model.specs.Rules.Start.{start_fault}
use Rattle.wit_model.specs.Rules.State.{fresh}
use Rattle.wit_model.specs.World.Scenes.{opening}
use Rattle.wit_model.specs.Trace.Moving.{Moving, Keeping, keeps}
use Rattle.wit_model.specs.Trace.Moving as moving
use Rattle.wit_model.specs.Trace.Output.{Prelude, Opening, Reading, Stepping, BadLine, course_at}
use Rattle.wit_model.specs.Trace.Output.{course_after, course_from}
use Rattle.wit_model.specs.Trace.Output as output
use Rattle.wit_model.proofs.Moved.FirstLines.{is_opening}

-- the same prelude in the second version
abbrev pub two : Prelude → Prelude
two p = record p { version = Two }

two-goes : (p : Prelude) → p.version ≡ One → output.begun p.version p.start
    ≡ Reading (fresh p.start) 0
two-goes p is = ap (λ v. output.begun v p.start) is

-- ---- the prelude ends

module _ (p : Prelude) (version : p.version ≡ One) (good : start_fault p.start ≡ None) (n : ℕ)
    (first : List ℕ) (ends : is_opening n first ≡ false) where
  pub reached-one : output.reached (Opening p) n first ≡ Ok (Reading (fresh p.start) 0)
  reached-one =
      ap (λ b. cond b (Ok (Opening p)) (output.opened p (start_fault p.start))) ends
      ∙ (ap (λ o. output.opened p o) good ∙ ap (λ q. Ok q) (two-goes p version))

  pub reached-two : output.reached (Opening (two p)) n first
      ≡ Ok (Stepping (opening (fresh p.start)) 0)
  reached-two =
      ap (λ b. cond b (Ok (Opening (two p))) (output.opened (two p) (start_fault p.start))) ends
      ∙ ap (λ o. output.opened (two p) o) good

  pub over-one : (rest : List (List ℕ)) → course_from (Opening p) n (first ∷ rest) []
      ≡ course_from (Reading (fresh p.start) 0) n (first ∷ rest) []
  over-one rest =
      ap (λ (r : Result output.Progress BadLine). course_at (Opening p) r
      (λ q. course_after q n (output.outcome q n first) (λ u. course_from u (n + 1) rest [])))
      reached-one

  pub over-two : (rest : List (List ℕ)) → course_from (Opening (two p)) n (first ∷ rest) []
      ≡ course_from (Stepping (opening (fresh p.start)) 0) n (first ∷ rest) []
  over-two rest =
      ap (λ (r : Result output.Progress BadLine). course_at (Opening (two p)) r
      (λ q. course_after q n (output.outcome q n first) (λ u. course_from u (n + 1) rest [])))
      reached-two

-- ---- lines of the prelude

pub record KeptOn (p : Prelude) (kept : List (List ℕ)) (n : ℕ) (bytes : List ℕ) (line : Line)
    (then : Moving) (lines : List (List ℕ)) : Type 0 where
  pub prelude : Prelude
  pub version : prelude.version ≡ One
  pub next : then ≡ Keeping prelude (kept ++ bytes ∷ [])
  pub none : lines ≡ []
  pub one : output.entered (Opening p) n line ≡ output.Goes (Opening prelude) []
  pub both : output.entered (Opening (two p)) n line ≡ output.Goes (Opening (two prelude)) []

pub kept-on : (p : Prelude) (kept : List (List ℕ)) (n : ℕ) (bytes : List ℕ) (line : Line)
    (then : Moving) (lines : List (List ℕ)) → p.version ≡ One
    → keeps kept bytes (output.entered (Opening p) n line) ≡ moving.Goes then lines
    → KeptOn p kept n bytes line then lines
kept-on p kept n bytes (Order list) then lines version goes =
    record {
      prelude = output.with_list p n list;
      version = version;
      next = cc;
      none = cc;
      one = refl;
      both = refl;
    }
kept-on p kept n bytes (Bless a b) then lines version goes =
    record {
      prelude = output.with_pair p a b;
      version = version;
      next = cc;
      none = cc;
      one = refl;
      both = refl;
    }
kept-on p kept n bytes (Header v s t l c) then lines version goes = (cc)
kept-on p kept n bytes kind.Profile then lines version goes =
    record {
      prelude = output.with_profile p;
      version = version;
      next = cc;
      none = cc;
      one = refl;
      both = refl;
    }
kept-on p kept n bytes (kind.Init s lock) then lines version goes = (cc)
kept-on p kept n bytes (OnLock l) then lines version goes = (cc)
kept-on p kept n bytes (kind.Assert s l a) then lines version goes = (cc)
kept-on p kept n bytes (kind.Warn s l f) then lines version goes = (cc)
kept-on p kept n bytes (kind.Define s a b) then lines version goes = (cc)
kept-on p kept n bytes (kind.Watch s w) then lines version goes = (cc)
