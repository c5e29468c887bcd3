-- What is told of the first that is kept, and of the others.
use Rattle.std.proofs.Common.{◌≡◌, ℕ, List, ◌∷◌, Result, Ok, Err, OnOk, ap, sym, ◌∙◌}
use Rattle.wit_gathered.specs.declared.requests.Kept.{Kept}
use Rattle.wit_gathered.specs.Naming.{Names}
use Rattle.wit_import.specs.Telling.{Told, told_all}
use Rattle.wit_import.proofs.Further.{told_all_append}
use Rattle.wit_kernel.specs.Acquisitions.{events_in, kept_events}

pub first-told : (n : Names) (places : List (List ℕ)) (t between : Told) (all later : List Kept) (k : Kept)
    → all ≡ k ∷ later → between ≡ told_all t (kept_events n places k)
    → told_all between (events_in n places later) ≡ told_all t (events_in n places all)
first-told n places t between all later k is told =
    ap (λ (u : Told). told_all u (events_in n places later)) told
    ∙ (sym (told_all_append t (kept_events n places k) (events_in n places later))
    ∙ ap (λ (l : List Kept). told_all t (events_in n places l)) (sym is))

-- what follows of a fact where there is no error
pub on-ok-then : {X E A B : Type 0} (r : Result X E) → OnOk r A → (A → B) → OnOk r B
on-ok-then (Ok x) holds f = f holds
on-ok-then (Err e) holds f = tt
