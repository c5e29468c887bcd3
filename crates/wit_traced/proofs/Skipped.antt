-- Where the columns don't read behind a bracket, the next one counts.
use Rattle.std.proofs.Common.{◌≡◌, ℕ, ◌+◌, ◌<◌, List, [], ◌∷◌, ◌++◌, Option, None, get_or, length, nat_eq}
use Rattle.std.proofs.Common.{take, drop, sym, ap, ◌∙◌, subst}
use Rattle.std.proofs.lemmas.Bool.{cond-true, eq-eqb}
use Rattle.std.proofs.lemmas.List.{drop_more, take_more}
use Rattle.std.specs.Option.{option_or}
use Rattle.wit_traced.specs.Heads.{Columns, IsBracket, head_from, head_parted}

at-bracket : (task text : List ℕ) (b : ℕ) → b ≡ 91 → head_parted task text ≡ None
    → head_from task (b ∷ text) ≡ head_from (task ++ b ∷ []) text
at-bracket task text b is none =
    cond-true (nat_eq b 91)
    (option_or (head_parted task text) (head_from (task ++ b ∷ []) text))
    (head_from (task ++ b ∷ []) text) (eq-eqb b 91 is)
    ∙ ap (λ (o : Option Columns). option_or o (head_from (task ++ b ∷ []) text)) none

pub beyond : (bytes : List ℕ) (place : ℕ) → place < length bytes → IsBracket (drop place bytes)
    → head_parted (take place bytes) (drop (place + 1) bytes) ≡ None
    → head_from (take place bytes) (drop place bytes)
    ≡ head_from (take (place + 1) bytes) (drop (place + 1) bytes)
beyond bytes place within bracket none =
    let parts = drop_more bytes place 0 within in
    let is : get_or bytes place 0 ≡ 91 = subst IsBracket parts bracket in
    ap (λ (l : List ℕ). head_from (take place bytes) l) parts
    ∙ (at-bracket (take place bytes) (drop (place + 1) bytes) (get_or bytes place 0) is none
    ∙ ap (λ (l : List ℕ). head_from l (drop (place + 1) bytes))
    (sym (take_more bytes place 0 within)))
