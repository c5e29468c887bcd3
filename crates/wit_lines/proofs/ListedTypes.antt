-- Names become texts one at a time.
use Rattle.std.proofs.Common.{◌≡◌, ℕ, List, [], ◌∷◌, ◌++◌, refl, sym, ap, ◌∙◌, append-nil}
use Rattle.std.specs.Prelude.{String, string_bytes}
use Rattle.std.specs.Global.{Global}
use Rattle.wit_model.specs.declared.locks.Class.{Class}
use Rattle.wit_known.specs.Listed.{entry_of, listed}

listed-push : (items : List (Class × String Global)) (x : Class × String Global)
    (rest : List (Class × List ℕ)) → listed (items ++ x ∷ []) ++ rest
    ≡ listed items ++ entry_of x ∷ rest
listed-push [] x rest = refl
listed-push (y ∷ items) x rest =
    ap (λ (w : List (Class × List ℕ)). entry_of y ∷ w) (listed-push items x rest)

-- one more
pub listed_next : (items : List (Class × String Global)) (class : Class) (name : List ℕ)
    (text : String Global) (more rest whole : List (Class × List ℕ)) → listed items ++ more ≡ whole
    → more ≡ (class, name) ∷ rest → string_bytes text ≡ name
    → listed (items ++ (class, text) ∷ []) ++ rest ≡ whole
listed_next items class name text more rest whole so_far left same =
    listed-push items (class, text) rest ∙ ap (λ (n : List ℕ). listed items ++ (class, n) ∷ rest)
    same ∙ ap (λ (w : List (Class × List ℕ)). listed items ++ w) (sym left) ∙ so_far

-- all of them
pub listed_all : (items : List (Class × String Global)) (more whole : List (Class × List ℕ))
    → listed items ++ more ≡ whole → more ≡ [] → listed items ≡ whole
listed_all items more whole so_far none =
    sym (append-nil (listed items)) ∙ ap (λ (w : List (Class × List ℕ)). listed items ++ w)
    (sym none) ∙ so_far
