-- Chosen lines are errands.
use Rattle.std.proofs.Common.{◌≡◌, ℕ, ◌-◌, ◌≤◌, ◌⊎◌, true, List, [], ◌∷◌, Option, None, Some}
use Rattle.std.proofs.Common.{length, take, drop, get_or, inl, inr, refl, ap, ap₂, sym, ◌∙◌, subst}
use Rattle.std.specs.Global.{Vec}
use Rattle.std.proofs.lemmas.List.{map-append, take-append-drop}
use Rattle.std.proofs.lemmas.List.Elements.{filter-append}
use Rattle.wit_forecast.specs.Errands.{does, doing, had, without_field, without_seats}
use Rattle.wit_forecast.specs.Errands.{AreRests, Follows, IsErrand}
use Rattle.wit_forecast.proofs.Owned.{split_first}
use Rattle.wit_forecast.specs.Owners.{field, goes_on, going_on, lines_in, own}

-- nothing is chosen
pub follows_none : (lines : List (List ℕ)) → Follows [] lines
follows_none lines = record { done = []; after = lines; parts = refl; alike = refl }

-- one more line is
pub follows_more : (chosen lines rest : List (List ℕ)) (line first : List ℕ) → lines ≡ first ∷ rest
    → without_field line 1 ≡ without_field first 1 → Follows chosen rest → Follows (line ∷ chosen) lines
follows_more chosen lines rest line first is alike follows = record {
  done = first ∷ follows.done;
  after = follows.after;
  parts = is ∙ ap (λ l. first ∷ l) follows.parts;
  alike = ap₂ (λ x xs. x ∷ xs) alike follows.alike;
}

pub follows_next : (seat : List ℕ) (chosen : List (Vec ℕ)) (line first : Vec ℕ)
    (lines rest : List (List ℕ)) → 1 ≤ length chosen → line ≡ get_or chosen 0 line
    → goes_on seat line.items ≡ true → without_field line.items 1 ≡ without_field first.items 1
    → lines ≡ first.items ∷ rest
    → Follows (going_on seat (lines_in (take (length chosen - 1) (drop 1 chosen)))) rest
    → Follows (going_on seat (lines_in chosen)) lines
follows_next seat chosen line first lines rest some is own alike parts follows =
    let others = take (length chosen - 1) (drop 1 chosen) in
    subst (λ (ls : List (Vec ℕ)). Follows (going_on seat (lines_in ls)) lines)
    (sym (split_first chosen line some is))
    (rw (own)
    (follows_more (going_on seat (lines_in others)) lines rest line.items first.items parts alike follows))

-- preludes that have other seats
pub opens_so : (opening head : List (Vec ℕ)) (one other : Vec ℕ) → 1 ≤ length opening
    → one ≡ get_or opening 0 one → 1 ≤ length head → other ≡ get_or head 0 other
    → without_field one.items 3 ≡ without_field other.items 3
    → lines_in (take (length opening - 1) (drop 1 opening))
    ≡ lines_in (take (length head - 1) (drop 1 head))
    → without_seats (lines_in opening) ≡ without_seats (lines_in head)
opens_so opening head one other some is also are alike same =
    ap (λ (ls : List (Vec ℕ)). without_seats (lines_in ls)) (split_first opening one some is)
    ∙ ap₂ (λ (x : List ℕ) xs. x ∷ xs) alike same
    ∙ sym (ap (λ (ls : List (Vec ℕ)). without_seats (lines_in ls)) (split_first head other also are))

-- from a place on before which the seat has nothing
pub is_errand : (seat from place : ℕ) (rests : List (Option ℕ)) (chosen body : List (Vec ℕ))
    → AreRests rests body → (place ≡ 0) ⊎ (get_or rests place None ≡ Some from)
    → Follows (own seat (lines_in chosen)) (doing (field from) (lines_in (drop place body)))
    → IsErrand seat from (lines_in chosen) (lines_in body)
is_errand seat from place rests chosen body are rested follows = record {
  before = doing (field from) (lines_in (take place body));
  lines = doing (field from) (lines_in (drop place body));
  parts =
      ap (λ (ls : List (Vec ℕ)). doing (field from) (lines_in ls)) (sym (take-append-drop place body))
      ∙ ap (doing (field from)) (map-append (λ (l : Vec ℕ). l.items) (take place body) (drop place body))
      ∙ filter-append (does (field from)) (lines_in (take place body)) (lines_in (drop place body));
  nothing = go rested;
  follows = follows;
}
  where
    go : (place ≡ 0) ⊎ (get_or rests place None ≡ Some from)
        → had 0 (doing (field from) (lines_in (take place body))) ≡ 0
    go (inl first) = rw (first) refl
    go (inr is) = are place from is
