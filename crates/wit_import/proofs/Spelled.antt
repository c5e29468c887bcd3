-- Each line that is written is the spelling of a line of a trace.
use Rattle.std.proofs.Common.{◌≡◌, ℕ, List, [], ◌∷◌, ◌++◌, sym, ap, ◌∙◌, append_assoc, append-nil}
use Rattle.std.proofs.Common.{arith, codes}
use Rattle.std.specs.Fmt.{decimal}
use Rattle.std.proofs.lemmas.Fmt.{decimal_digit}
use Rattle.wit_model.specs.Trace.Spelling.{class_text}
use Rattle.wit_import.specs.Laws.{LinesAreSpelled}

one : decimal 1 ≡ 49 ∷ []
one = decimal_digit 1 (omega arith)

-- fields behind the seat, and the line feed
seated : (word fields : List ℕ)
    → (word ++ 32 ∷ (49 ∷ (32 ∷ fields))) ++ 10 ∷ []
    ≡ (word ++ 32 ∷ (decimal 1 ++ 32 ∷ fields)) ++ 10 ∷ []
seated word fields = ap (λ (d : List ℕ). (word ++ 32 ∷ (d ++ 32 ∷ fields)) ++ 10 ∷ []) (sym one)

-- a field at the end, with no others behind it
ended : (n : List ℕ) → (n ++ []) ++ 10 ∷ [] ≡ n ++ 10 ∷ []
ended n = ap (λ (w : List ℕ). w ++ 10 ∷ []) (append-nil n)

placed : (file line : List ℕ)
    → ((file ++ 58 ∷ line) ++ []) ++ 10 ∷ [] ≡ file ++ 58 ∷ (line ++ 10 ∷ [])
placed file line = ended (file ++ 58 ∷ line) ∙ append_assoc file (58 ∷ line) (10 ∷ [])

-- a number, and what stands between it and the place
numbered : (n file line : List ℕ) (between : List ℕ)
    → (n ++ (between ++ ((file ++ 58 ∷ line) ++ []))) ++ 10 ∷ []
    ≡ n ++ (between ++ (file ++ 58 ∷ (line ++ 10 ∷ [])))
numbered n file line between =
    append_assoc n (between ++ ((file ++ 58 ∷ line) ++ [])) (10 ∷ [])
    ∙ ap (λ (w : List ℕ). n ++ w)
    (append_assoc between ((file ++ 58 ∷ line) ++ []) (10 ∷ [])
    ∙ ap (λ (w : List ℕ). between ++ w) (placed file line))

named : (class name : List ℕ)
    → (class ++ 32 ∷ 114 ∷ 32 ∷ 34 ∷ ((name ++ 34 ∷ []) ++ [])) ++ 10 ∷ []
    ≡ class ++ 32 ∷ 114 ∷ 32 ∷ 34 ∷ (name ++ 34 ∷ 10 ∷ [])
named class name =
    append_assoc class (32 ∷ 114 ∷ 32 ∷ 34 ∷ ((name ++ 34 ∷ []) ++ [])) (10 ∷ [])
    ∙ ap (λ (w : List ℕ). class ++ 32 ∷ 114 ∷ 32 ∷ 34 ∷ w)
    (ended (name ++ 34 ∷ []) ∙ append_assoc name (34 ∷ []) (10 ∷ []))

moded : (n : List ℕ) → (n ++ 32 ∷ 120 ∷ []) ++ 10 ∷ [] ≡ n ++ 32 ∷ 120 ∷ 10 ∷ []
moded n = append_assoc n (32 ∷ 120 ∷ []) (10 ∷ [])

flagged : (n : List ℕ) → (n ++ 32 ∷ 108 ∷ []) ++ 10 ∷ [] ≡ n ++ 32 ∷ 108 ∷ 10 ∷ []
flagged n = append_assoc n (32 ∷ 108 ∷ []) (10 ∷ [])

pub lines-spelled : LinesAreSpelled
lines-spelled n a = record {
  init =
      ap (λ (w : List ℕ). codes "init 1 " ++ w) (sym (named (class_text a.class) a.name))
      ∙ seated (codes "init")
      (class_text a.class ++ 32 ∷ 114 ∷ 32 ∷ 34 ∷ ((a.name ++ 34 ∷ []) ++ []));
  check =
      ap (λ (w : List ℕ). codes "check 1 " ++ w)
      (sym (numbered (decimal n) a.file (decimal a.line) (codes " x n ")))
      ∙ seated (codes "check")
      (decimal n ++ (codes " x n " ++ ((a.file ++ 58 ∷ decimal a.line) ++ [])));
  tried =
      ap (λ (w : List ℕ). codes "try 1 " ++ w)
      (sym (numbered (decimal n) a.file (decimal a.line) (codes " x ")))
      ∙ seated (codes "try")
      (decimal n ++ (codes " x " ++ ((a.file ++ 58 ∷ decimal a.line) ++ [])));
  got =
      ap (λ (w : List ℕ). codes "lock 1 " ++ w) (sym (ended (decimal n)))
      ∙ seated (codes "lock") (decimal n ++ []);
  given_up =
      ap (λ (w : List ℕ). codes "giveup 1 " ++ w) (sym (ended (decimal n)))
      ∙ seated (codes "giveup") (decimal n ++ []);
  asserted =
      ap (λ (w : List ℕ). codes "assert 1 " ++ w) (sym (flagged (decimal n)))
      ∙ seated (codes "assert") (decimal n ++ 32 ∷ 108 ∷ []);
  released =
      ap (λ (w : List ℕ). codes "unlock 1 " ++ w) (sym (moded (decimal n)))
      ∙ seated (codes "unlock") (decimal n ++ 32 ∷ 120 ∷ []);
}
