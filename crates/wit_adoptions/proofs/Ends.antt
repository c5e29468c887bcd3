-- What is added behind an end.
use Rattle.std.proofs.Common.{◌≡◌, ℕ, ◌==◌, Bool, true, false, List, [], ◌∷◌, ◌++◌, refl, ap, sym}
use Rattle.std.proofs.Common.{◌∙◌, append_assoc, arith, subst, if◌then◌else◌}
use Rattle.std.proofs.lemmas.List.{append-nil}
use mathlib.Core.List.{IsPrefix}
use Rattle.std.proofs.lemmas.Bool.Decides.{nat_tests}
use Rattle.logbook.specs.Pages.{Cell, cell}
use Rattle.wit_adoptions.specs.declared.link.ListLink.{ListLink}
use Rattle.wit_adoptions.specs.Links.{orders_since, end_behind, AreUsedUp}

-- ---- a longer book

orders_more_by : (b : Bool) (end : ℕ) (l : ListLink) (links more : List ListLink)
    → orders_since l.next (links ++ more) ≡ orders_since l.next links
    ++ orders_since (end_behind l.next links) more
    → orders_since end (links ++ more) ≡ orders_since end links
    ++ orders_since (end_behind end links) more
    → (if b then l.orders ++ orders_since l.next (links ++ more)
    else orders_since end (links ++ more))
    ≡ (if b then l.orders ++ orders_since l.next links else orders_since end links)
    ++ orders_since (if b then end_behind l.next links else end_behind end links) more
orders_more_by true end l links more p q =
    ap (λ x. l.orders ++ x) p ∙ sym
    (append_assoc l.orders (orders_since l.next links)
    (orders_since (end_behind l.next links) more))
orders_more_by false end l links more p q = q

-- what is behind an end in a longer book is what was, and then what is behind the later end
pub orders_more : (end : ℕ) (links more : List ListLink)
    → orders_since end (links ++ more) ≡ orders_since end links
    ++ orders_since (end_behind end links) more
orders_more end [] more = refl
orders_more end (l ∷ links) more =
    orders_more_by (l.end == end) end l links more (orders_more l.next links more)
    (orders_more end links more)

end_more_by : (b : Bool) (end : ℕ) (l : ListLink) (links more : List ListLink)
    → end_behind l.next (links ++ more) ≡ end_behind (end_behind l.next links) more
    → end_behind end (links ++ more) ≡ end_behind (end_behind end links) more
    → (if b then end_behind l.next (links ++ more) else end_behind end (links ++ more))
    ≡ end_behind (if b then end_behind l.next links else end_behind end links) more
end_more_by true end l links more p q = p
end_more_by false end l links more p q = q

-- and so is the end
pub end_more : (end : ℕ) (links more : List ListLink)
    → end_behind end (links ++ more) ≡ end_behind (end_behind end links) more
end_more end [] more = refl
end_more end (l ∷ links) more =
    end_more_by (l.end == end) end l links more (end_more l.next links more)
    (end_more end links more)

-- what is behind an end in a beginning of a book is a beginning of what is behind it in the book
pub orders_begin : (end : ℕ) (links book : List ListLink) → IsPrefix links book
    → IsPrefix (orders_since end links) (orders_since end book)
orders_begin end links book begins = (
  orders_since (end_behind end links) begins.0,
  sym (orders_more end links begins.0)
      ∙ ap (orders_since end) begins.1,
)

-- ---- an end whose pen was not used up

nothing_by : (cells : List Cell) (end : ℕ) (l : ListLink)
    → (cell cells end).1 ≡ false → (cell cells l.end).1 ≡ true → (b : Bool)
    → (l.end == end) ≡ b → b ≡ false
nothing_by cells end l away used false is = refl
nothing_by cells end l away used true is =
    let same : l.end ≡ end = grind (arith, nat_tests) in
    absurd (cc (used, away, ap (λ k. (cell cells k).1) same))

-- nothing is behind it
pub nothing_behind : (cells : List Cell) (end : ℕ) (links : List ListLink)
    → (cell cells end).1 ≡ false → AreUsedUp cells links
    → (orders_since end links ≡ []) × (end_behind end links ≡ end)
nothing_behind cells end [] away used = (refl, refl)
nothing_behind cells end (l ∷ links) away used =
    let other : (l.end == end) ≡ false = nothing_by cells end l away used.0 (l.end == end) refl in
    rw other (nothing_behind cells end links away used.1)

-- of a longer book the links that came later are used up too
pub used_later : (cells : List Cell) (links more : List ListLink) → AreUsedUp cells (links ++ more)
    → AreUsedUp cells more
used_later cells [] more used = used
used_later cells (l ∷ links) more used = used_later cells links more used.1

pub used_with : (cells : List Cell) (links more : List ListLink) → AreUsedUp cells links
    → AreUsedUp cells more → AreUsedUp cells (links ++ more)
used_with cells [] more used late = late
used_with cells (l ∷ links) more used late = (used.0, used_with cells links more used.1 late)

-- so a list with this end has only what was seen of it
pub all_seen : (cells : List Cell) (start end : ℕ) (links book : List ListLink)
    → (cell cells end).1 ≡ false → AreUsedUp cells book → IsPrefix links book
    → end_behind start links ≡ end
    → (orders_since start book ≡ orders_since start links) × (end_behind start book ≡ end)
all_seen cells start end links book away used begins at =
    let later = begins.0 in
    let used' : AreUsedUp cells (links ++ later) = subst (AreUsedUp cells) (sym begins.1) used in
    let none = nothing_behind cells end later away (used_later cells links later used') in
    let orders : orders_since start (links ++ later) ≡ orders_since start links =
    rw (orders_more start links later, at, none.0) (append-nil (orders_since start links)) in
    let ends : end_behind start (links ++ later) ≡ end =
    rw (end_more start links later, at) none.1 in (
      subst (λ b. orders_since start b ≡ orders_since start links) begins.1 orders,
      subst (λ b. end_behind start b ≡ end) begins.1 ends,
    )
