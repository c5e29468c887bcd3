-- What a stream has read and written so far.
use Rattle.std.proofs.Common.{◌≡◌, ℕ, ◌+◌, List, [], ◌++◌, length, take, drop, Option, None, Some}
use Rattle.std.proofs.Common.{unwrap_or, inl, inr, sym, ap, ◌∙◌, subst, append_assoc, append-nil}
use Rattle.std.proofs.Common.{take-append-drop}
use Rattle.std.proofs.KnownBytes.{Appends-trans}
use Rattle.std.specs.Io.KnownBytes.{Appends, Consumes}
use lib.Seq.{take-append_seam}
use Rattle.wit_stream.specs.Text.{HasNoFeed, IsWholeLines, feeds}
use Rattle.wit_stream.specs.Stream.{AppendsFront, IsInput, IsLastText, WritesFront}
use Rattle.wit_stream.specs.declared.summary.Summary.{Summary}

-- whole lines were taken and a line begun, and the texts of the lines written, but for what is kept
-- of them: an output of what comes behind the lines is the rest of one from the start
pub record Going {P : Type 0} (output : P → ℕ → List ℕ → List ℕ → Summary → Type 0) (start at : P)
    (r0 r w0 w : Option (List ℕ)) (number : ℕ) (begun kept : List ℕ) : Type 0 where
  pub lines : List ℕ
  pub wrote : List ℕ
  pub sent : List ℕ
  pub whole : IsWholeLines lines
  pub read : Consumes r0 r (lines ++ begun)
  pub written : Appends w0 w sent
  pub all : wrote ≡ sent ++ kept
  pub counted : number ≡ feeds lines + 1
  pub plain : HasNoFeed begun
  pub same : (more text : List ℕ) (summary : Summary) → output at number more text summary
      → output start 1 (lines ++ more) (wrote ++ text) summary

-- some output is there for every input
abbrev pub HasOutputs : (List ℕ → List ℕ → Summary → Type 0) → Type 0
HasOutputs output =
    (input : List ℕ) → (text : List ℕ) × ((summary : Summary) × output input text summary)

-- what a reader has left, where that is known
pub rest_of : Option (List ℕ) → List ℕ
rest_of r = unwrap_or r []

-- what came and what is left are the input
pub IsInput-rest : (r0 r : Option (List ℕ)) (came : List ℕ) → Consumes r0 r came
    → IsInput r0 (came ++ rest_of r)
unfolding rest_of
IsInput-rest None r came p = tt
IsInput-rest (Some xs) None came p = absurd p
IsInput-rest (Some xs) (Some ys) came p = p

-- what came, and all that was left then, are the input
pub IsInput-more : (r0 r : Option (List ℕ)) (came rest : List ℕ) → Consumes r0 r came
    → IsInput r rest
    → IsInput r0 (came ++ rest)
IsInput-more None r came rest p e = tt
IsInput-more (Some xs) None came rest p e = absurd p
IsInput-more (Some xs) (Some ys) came rest p e = p ∙ ap (λ l. came ++ l) e

-- something may be left that makes the input whole, and has that last text
pub last_input : (r0 r : Option (List ℕ)) (came : List ℕ) (output : List ℕ → Type 0)
    → Consumes r0 r came → IsLastText (IsInput r0 came) output
    → (more : List ℕ) × (output more × IsInput r0 (came ++ more))
last_input r0 r came output p (inl ends) =
    ([], (ends.1, subst (IsInput r0) (sym (append-nil came)) ends.0))
last_input r0 r came output p (inr all) = (rest_of r, (all (rest_of r), IsInput-rest r0 r came p))

-- the last text as an output of something else
pub last_map : (A B : Type 0) (F G : List ℕ → Type 0) → (A → B) → ((more : List ℕ) → F more
    → G more)
    → IsLastText A F → IsLastText B G
last_map A B F G g f (inl ends) = inl (g ends.0, f [] ends.1)
last_map A B F G g f (inr all) = inr (λ more. f more (all more))

-- a beginning of the bytes
pub AppendsFront-of : (w0 w : Option (List ℕ)) (front rest bytes : List ℕ) → Appends w0 w front
    → bytes ≡ front ++ rest → AppendsFront w0 w bytes
AppendsFront-of w0 w front rest bytes p e = (
  length front,
  subst (Appends w0 w)
      (sym (ap (take (length front)) e ∙ take-append_seam front rest)) p,
)

-- an output was written up to some place of its next text
pub front_of : {start : List ℕ → List ℕ → Summary → Type 0} (r0 w0 w w' : Option (List ℕ))
    (input wrote text more : List ℕ) (summary : Summary) → IsInput r0 input
    → start input (wrote ++ (text ++ more)) summary
    → Appends w0 w wrote → AppendsFront w w' text → WritesFront start r0 w0 w'
front_of r0 w0 w w' input wrote text more summary is_input is_output p q =
    let parts : wrote ++ (text ++ more) ≡ (wrote ++ take q.0 text) ++ (drop q.0 text ++ more) =
    ap (λ l. wrote ++ (l ++ more)) (sym (take-append-drop q.0 text)) ∙ simp append_assoc in
    record {
      input = input;
      text = wrote ++ (text ++ more);
      summary = summary;
      is_input = is_input;
      is_output = is_output;
      written =
          AppendsFront-of w0 w' (wrote ++ take q.0 text) (drop q.0 text ++ more) _
          (Appends-trans w0 w w' wrote _ p q.1) parts;
    }
