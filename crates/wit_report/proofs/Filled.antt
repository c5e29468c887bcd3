-- Texts that aren't empty.
use Rattle.std.proofs.Common.{◌≡◌, ℕ, suc, zero, ◌+◌, ◌<◌, Bool, true, cond, Result, Ok, Err, OnErr}
use Rattle.std.proofs.Common.{IfErr, List, [], ◌∷◌, ◌++◌, length, filter, nat_lt, ap, sym, ◌∙◌, inl}
use Rattle.std.proofs.Common.{inr, codes, arith}
use Rattle.std.specs.Fmt.{decimal}
use Rattle.std.specs.List.{flat_map, range_with_len}
use Rattle.std.specs.Result.{IsErrAnd}
use Rattle.std.proofs.lemmas.List.{length-append}
use Rattle.std.proofs.lemmas.List.Concat.{flat_map-append}
use Rattle.std.proofs.lemmas.Bool.{cases_order, true≢false}
use Rattle.wit_model.specs.declared.faults.Fault.{Fault}
use Rattle.wit_model.specs.declared.faults.Fault.TheVariants.{OutOfMemory}
use Rattle.wit_model.specs.declared.locks.Instance.{Instance}
use Rattle.wit_model.specs.declared.locks.Lock.{Lock}
use Rattle.wit_model.specs.Rules.State.{Known}
use Rattle.wit_model.specs.declared.locks.LockType.{LockType}
use Rattle.wit_model.specs.Rules.Types.{name_of, class_of}
use Rattle.wit_model.specs.Trace.Spelling.{quoted}
use Rattle.wit_model.specs.Trace.Texts.{line, class_words}
use Rattle.wit_model.specs.Trace.Views.{edge_line, type_line, held_line, held_lines}
use Rattle.wit_report.specs.Wants.{WantsMemory}
use Rattle.wit_report.proofs.Laid.{range-more, some-more}

-- what holds anyway holds of an error
pub on-error : {T E P : Type 0} (r : Result T E) → P → OnErr r P
on-error (Ok x) p = tt
on-error (Err e) p = p

-- where a text says something, an error may be want of memory
pub wants : {T : Type 0} (r : Result T Fault) (text : List ℕ) → IsErrAnd r (λ e. e ≡ OutOfMemory)
    → 0 < length text → IfErr r (WantsMemory text)
wants (Ok x) text is some = tt
wants (Err e) text is some = (is, some)

pub left-filled : (xs ys : List ℕ) → 0 < length xs → 0 < length (xs ++ ys)
left-filled xs ys some = let n : length (xs ++ ys) ≡ length xs + length ys =
    length-append xs ys in omega (arith, n, some)

pub right-filled : (xs ys : List ℕ) → 0 < length ys → 0 < length (xs ++ ys)
right-filled xs ys some = let n : length (xs ++ ys) ≡ length xs + length ys =
    length-append xs ys in omega (arith, n, some)

-- a line has its line feed
pub line-filled : (pieces : List (List ℕ)) → 0 < length (line pieces)
line-filled [] = omega arith
line-filled (piece ∷ pieces) = right-filled piece (line pieces) (line-filled pieces)

pub edge-filled : (k : Known) (parent child : ℕ) → 0 < length (edge_line k parent child)
edge-filled k parent child =
    line-filled (quoted (name_of parent k.types) ∷ codes "," ∷ quoted (name_of child k.types) ∷ [])

pub type-filled : (types : List LockType) (live : ℕ → ℕ) (t : ℕ)
    → 0 < length (type_line types live t)
type-filled types live t =
    line-filled
    (decimal t ∷ codes " " ∷ quoted (name_of t types) ∷ codes " " ∷ class_words (class_of t types)
    ∷ codes " locks " ∷ decimal (live t) ∷ [])

module _ (locks : List Lock) (files : List (List ℕ)) where
  pub held-filled : (held : List Instance) → nat_lt 0 (length held) ≡ true
      → 0 < length (held_lines locks files held)
  held-filled [] some = absurd (true≢false (sym some))
  held-filled (i ∷ held) some =
      left-filled (held_line locks files i) (held_lines locks files held) (search line-filled)

-- ---- where a list grows with a number, and what it grew by at one of them isn't empty

module _ (f : ℕ → List ℕ) (L more : ℕ → List ℕ) (grows : (n : ℕ) → L (n + 1) ≡ L n ++ more n) where
  grown-filled : (n place : ℕ) → place < n → 0 < length (flat_map f (more place))
      → 0 < length (flat_map f (L n))
  grown-filled zero place lt some = absurd (omega arith)
  grown-filled (suc n) place lt some =
      let next : n + 1 ≡ suc n = omega arith in
      let parts : flat_map f (L (suc n)) ≡ flat_map f (L n) ++ flat_map f (more n) =
      ap (λ m. flat_map f (L m)) (sym next) ∙ ap (flat_map f) (grows n)
      ∙ flat_map-append f (L n) (more n) in
      rw parts (elim (cases_order place n) [
        | inl here ↦ right-filled (flat_map f (L n)) (flat_map f (more n)) (rw here at some)
        | inr (inl before) ↦ left-filled (flat_map f (L n)) (flat_map f (more n))
            (grown-filled n place before some)
        | inr (inr after) ↦ absurd (omega arith)
      ])

pub turn-filled : (f : ℕ → List ℕ) (n place : ℕ) → place < n → 0 < length (f (place + 1))
    → 0 < length (flat_map f (range_with_len 1 n))
turn-filled f n place lt some =
    grown-filled f (λ m. range_with_len 1 m) (λ m. (m + 1) ∷ []) range-more n place lt
    (left-filled (f (place + 1)) [] some)

pub some-filled : (p : ℕ → Bool) (f : ℕ → List ℕ) (n place : ℕ) → place < n → p (place + 1) ≡ true
    → 0 < length (f (place + 1))
    → 0 < length (flat_map f (filter p (range_with_len 1 n)))
some-filled p f n place lt is some =
    grown-filled f (λ m. filter p (range_with_len 1 m)) (λ m. cond (p (m + 1)) ((m + 1) ∷ []) [])
    (some-more p) n place lt
    (rw is (left-filled (f (place + 1)) [] some))
