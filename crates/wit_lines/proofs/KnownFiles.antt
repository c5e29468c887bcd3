-- The file that a check names, where it is the known one.
use Rattle.std.proofs.Common.{ℕ, List, Option, None, Some, IfSome, subst}
use Rattle.std.specs.Borrow.{Bor}
use Rattle.wit_model.specs.declared.locks.FileNo.{FileNo}
use Rattle.wit_fields.specs.Fields.{IsKnownAs}

pub known_named : (names : List ℕ → FileNo → Type 0) (known : Option (FileNo × Bor (List ℕ)))
    (name : List ℕ) (number : FileNo) → IfSome known (λ f. names f.1.now f.0)
    → IsKnownAs known name number → names name number
known_named names None name number has is = absurd is
known_named names (Some f) name number has is =
    subst (λ n. names n number) is.0 (subst (λ k. names f.1.now k) is.1 has)
