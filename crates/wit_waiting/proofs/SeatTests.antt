-- Whether a seat holds a lock or asks for it, and whether some seat has a property.
use Rattle.std.proofs.Common.{◌||◌, ◌≡◌, ℕ, ◌+◌, ◌-◌, ◌<◌, ◌≤◌, Bool, true, false, cond, List, []}
use Rattle.std.proofs.Common.{◌∷◌, Option, Some, length, get_or, drop, find, is_some, refl}
use Rattle.std.proofs.Common.{sym, ap, ◌∙◌, arith}
use Rattle.std.specs.List.{list_any}
use Rattle.std.proofs.lemmas.List.{drop_all, drop_more}
use Rattle.wit_model.specs.declared.locks.Instance.{Instance}
use Rattle.wit_model.specs.declared.calls.Request.{Request}
use Rattle.wit_model.specs.Rules.Verdict.{is_of}
use Rattle.wit_model.proofs.Numbered.{with_number-or}
use Rattle.wit_waiting.specs.Seats.{Holdings, Seating, no_holdings, seat_in, locks_in}
use Rattle.wit_model.specs.Rules.Step.{is_for}
use Rattle.wit_waiting.specs.Seats.{seat_view}
use Rattle.wit_model.specs.Rules.Destroying.{uses}

any-found : (l : ℕ) (c : List Instance) → list_any (is_of l) c ≡ is_some (find (is_of l) c)
any-found l [] = refl
any-found l (i ∷ c) = go (is_of l i) (any-found l c)
  where
    go : (b : Bool) → list_any (is_of l) c ≡ is_some (find (is_of l) c)
        → (b || list_any (is_of l) c) ≡ is_some (cond b (Some i) (find (is_of l) c))
    go true same = refl
    go false same = same

module _ (l : ℕ) (s : Holdings) where
  held-any : (spin b : Bool) → b ≡ is_some (find (is_of l) (locks_in spin s))
      → list_any (is_of l) (locks_in spin s) ≡ b
  held-any spin b is = any-found l (locks_in spin s) ∙ sym is

  pub used-sleep : (b : Bool) → b ≡ is_some (find (is_of l) (locks_in false s)) → b ≡ true
      → true ≡ uses l (seat_view s)
  used-sleep b is held = sym (rw (held-any false b is ∙ held) refl)

  module _ (a b : Bool) (is : a ≡ is_some (find (is_of l) (locks_in false s))) (none : a ≡ false)
      (is' : b ≡ is_some (find (is_of l) (locks_in true s))) where
    pub used-spin : b ≡ true → true ≡ uses l (seat_view s)
    used-spin held = sym (rw (held-any false a is ∙ none, held-any true b is' ∙ held) refl)

    pub used-asked : b ≡ false → (c : Bool) (q : Option Request) → q ≡ s.pending → c ≡ is_for l q
        → c ≡ uses l (seat_view s)
    used-asked none' c q asks for =
        for ∙ ap (is_for l) asks ∙ sym
        (rw (held-any false a is ∙ none, held-any true b is' ∙ none') refl)

pub seat-at : (r : Seating) (i : ℕ) → seat_in r (i + 1) ≡ get_or r.seats i no_holdings
seat-at r i =
    with_number-or r.seats (i + 1) no_holdings (omega arith)
    ∙ ap (λ n. get_or r.seats n no_holdings) (let same : i + 1 - 1 ≡ i = omega arith in same)

-- ---- whether some seat has a property

-- the seats from this one on
pub any-step : (has : Holdings → Bool) (ss : List Holdings) (i : ℕ) (b whole : Bool) → i < length ss
    → b ≡ has (get_or ss i no_holdings) → b ≡ false
    → list_any has (drop i ss) ≡ whole → list_any has (drop (i + 1) ss) ≡ whole
any-step has ss i b whole lt is none was =
    sym (ap (list_any has) (drop_more ss i no_holdings lt)
    ∙ ap (λ c. c || list_any has (drop (i + 1) ss)) (sym is ∙ none)) ∙ was

pub any-here : (has : Holdings → Bool) (ss : List Holdings) (i : ℕ) (b whole : Bool) → i < length ss
    → b ≡ has (get_or ss i no_holdings) → b ≡ true
    → list_any has (drop i ss) ≡ whole → true ≡ whole
any-here has ss i b whole lt is one was =
    sym (ap (list_any has) (drop_more ss i no_holdings lt)
    ∙ ap (λ c. c || list_any has (drop (i + 1) ss)) (sym is ∙ one)) ∙ was

pub any-end : (has : Holdings → Bool) (ss : List Holdings) (i : ℕ) (whole : Bool) → length ss ≤ i
    → list_any has (drop i ss) ≡ whole → false ≡ whole
any-end has ss i whole past was = sym (ap (list_any has) (drop_all i ss past)) ∙ was
