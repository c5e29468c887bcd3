-- What a seat's own entries name as adopted is among all adopted orders.
use Rattle.std.proofs.Common.{◌≡◌, ℕ, Bool, true, false, cond, eqb, List, [], ◌∷◌, ◌++◌, reverse}
use Rattle.std.proofs.Common.{ap, sym, ◌∙◌, ⊎_elim, subst, inl, inr, ◌⊎◌}
use Rattle.std.proofs.lemmas.Bool.{false≢true, or_cases, or_left, or_right}
use Rattle.std.proofs.lemmas.List.{reverse-append}
use Rattle.std.proofs.lemmas.List.Folds.{list_any-append}
use Rattle.wit_model.specs.declared.calls.Adoption.{Adoption}
use Rattle.wit_model.specs.declared.calls.Entry.{Entry}
use Rattle.wit_model.specs.Rules.History.{own_entries}
use Rattle.wit_model.specs.Rules.Orders.{adopted, is_adoption_of, is_direct, orders_from}
use Rattle.wit_model.specs.Rules.State.{Start, Story, orders_of}
use Rattle.wit_seats.specs.declared.views.SeatKnowledge.{SeatKnowledge}
use Rattle.wit_seats.specs.Seats.{Told}
use Rattle.wit_shared.specs.Publishing.{adoptions, orders_named, IsNamedIn}

module _ (a b : ℕ) where
  in_either : (more orders : List Adoption) → (is_direct more a b ≡ true)
      ⊎ (is_direct orders a b ≡ true)
      → is_direct (more ++ orders) a b ≡ true
  in_either more orders is =
      list_any-append (is_adoption_of a b) more orders
      ∙ ⊎_elim (λ l. or_left (is_direct more a b) (is_direct orders a b) l)
      (λ r. or_right (is_direct more a b) (is_direct orders a b) r) is

  from_either : (more orders : List Adoption) → is_direct (more ++ orders) a b ≡ true
      → (is_direct more a b ≡ true) ⊎ (is_direct orders a b ≡ true)
  from_either more orders is =
      or_cases (is_direct more a b) (is_direct orders a b)
      (sym (list_any-append (is_adoption_of a b) more orders) ∙ is)

  turned : (orders : List Adoption) → is_direct orders a b ≡ true
      → is_direct (reverse orders) a b ≡ true
  turned [] is = absurd (false≢true is)
  turned (o ∷ orders) is =
      ap (λ os. is_direct os a b) (reverse-append (o ∷ []) orders)
      ∙ ⊎_elim (λ l. in_either (reverse orders) (o ∷ []) (inr l))
      (λ r. in_either (reverse orders) (o ∷ []) (inl (turned orders r)))
      (from_either (o ∷ []) orders is)

  -- with one entry more, where it is so without it
  own_more : (t : ℕ) (listed : List Adoption) (e : Entry) (h : List Entry)
      → (is_direct (orders_named (own_entries t h)) a b ≡ true
      → is_direct (orders_from listed h) a b ≡ true)
      → (c : Bool) → is_direct (orders_named (cond c (e ∷ own_entries t h) (own_entries t h))) a b
      ≡ true
      → is_direct (adopted e.call e.reply ++ orders_from listed h) a b ≡ true
  own_more t listed e h before true all =
      in_either (adopted e.call e.reply) (orders_from listed h)
      (⊎_elim (λ l. inl l) (λ r. inr (before r))
      (from_either (adopted e.call e.reply) (orders_named (own_entries t h)) all))
  own_more t listed e h before false all =
      in_either (adopted e.call e.reply) (orders_from listed h) (inr (before all))

  own_among : (t : ℕ) (listed : List Adoption) (h : List Entry)
      → is_direct (orders_named (own_entries t h)) a b ≡ true
      → is_direct (orders_from listed h) a b ≡ true
  own_among t listed [] is = absurd (false≢true is)
  own_among t listed (e ∷ h) is = own_more t listed e h (own_among t listed h) (eqb e.seat.0 t) is

pub names_own : (start : Start) (t : ℕ) (own h : List Entry) → own_entries t h ≡ own
    → IsNamedIn own (adoptions start h)
names_own start t own h is a b named =
    turned a b (orders_of start h)
    (own_among a b t (orders_from (orders_of start []) []) h
    (subst (λ es. is_direct (orders_named es) a b ≡ true) (sym is) named))

pub news_name_own : (start : Start) (means : Story → Story → Type 0) (v w : SeatKnowledge)
    (news : List Adoption) → Told start [] means v w
    → news ≡ adoptions start w.seen → IsNamedIn w.own news
news_name_own start means v w news told is =
    let own : own_entries v.seat w.seen ≡ w.own =
    ap (λ (k : SeatKnowledge). own_entries v.seat k.seen) told.entered.now
    ∙ sym (ap (λ (k : SeatKnowledge). k.own) told.entered.now) in
    subst (λ os. IsNamedIn w.own os) (sym is) (names_own start v.seat w.own w.seen own)
