-- What a change leaves of what is shown.
use Rattle.std.proofs.Common.{◌≡◌, ℕ, ◌+◌, ◌*◌, ◌<◌, ◌^◌, true, List, [], ◌++◌, length, replicate}
use Rattle.std.proofs.Common.{refl, ap, sym, ◌∙◌, subst, arith, append-nil, length-append, Result}
use Rattle.std.proofs.Common.{Ok, Err, IfOk, IfErr}
use Rattle.wit_model.specs.declared.calls.Adoption.{Adoption}
use Rattle.wit_adoptions.specs.Naming.{Name, Sheet, IsOf, orders_on}
use Rattle.wit_observers.specs.declared.store.Shape.{Shape}
use Rattle.wit_observers.specs.declared.store.Change.{Change}
use Rattle.wit_observers.specs.Numbers.{numbered_all, all_fit, HasNumbers}
use Rattle.wit_observers.specs.Shown.{shape, with_change, shown, IsExact, GoesOn}
use Rattle.wit_observers.proofs.Numbers.{put_numbers, blank_numbers}

-- the change has all orders that are shown on its page, and more that fit
pub record CanShow (name : Name) (s : Shape) (c : Change) : Type 0 where
  pub page : IsOf name c.page
  pub all : orders_on name c.page ≡ shown name s
  pub before : c.before ≡ length (shown name s)
  pub fits : all_fit s.size c.orders.items ≡ true
  pub room : length (shown name s) + length c.orders.items < 2 ^ 32

module _ (name : Name) (s : Shape) (c : Change) (exact : IsExact name s)
    (can : CanShow name s c) where
  pub shown_more : shown name (with_change s c) ≡ shown name s ++ c.orders.items
  shown_more = ap (λ (l : List Adoption). l ++ c.orders.items) can.all

  pub exact_more : IsExact name (with_change s c)
  exact_more = record {
    page = can.page;
    numbers =
        subst (λ l. HasNumbers s.size l (numbered_all s.size s.cells c.before c.orders.items))
        (sym shown_more)
        (subst (λ k. HasNumbers s.size (shown name s ++ c.orders.items)
        (numbered_all s.size s.cells k c.orders.items)) (sym can.before)
        (put_numbers s.size (shown name s) s.cells c.orders.items exact.numbers can.fits));
    few =
        subst (λ k. k < 2 ^ 32) (sym
        (ap length shown_more ∙ length-append (shown name s) c.orders.items)) can.room;
  }

  pub goes_on : GoesOn name s (with_change s c)
  goes_on = (exact_more, (c.orders.items, sym shown_more))

-- a change whose page has all orders so far can be shown
pub can_show : (name : Name) (s : Shape) (c : Change) (orders more : List Adoption)
    → shown name s ≡ orders → c.orders.items ≡ more → c.before ≡ length orders
    → IsOf name c.page → orders_on name c.page ≡ orders → all_fit s.size more ≡ true
    → length orders + length more < 2 ^ 32 → CanShow name s c
can_show name s c orders more all items before of listing fit room = record {
  page = of;
  all = listing ∙ sym all;
  before = before ∙ ap length (sym all);
  fits = subst (λ l. all_fit s.size l ≡ true) (sym items) fit;
  room =
      subst (λ l. length l + length c.orders.items < 2 ^ 32) (sym all)
      (subst (λ l. length orders + length l < 2 ^ 32) (sym items) room);
}

-- these orders are shown, and whoever shows them was told them
pub record IsPublished (name : Name) (orders : List Adoption) (s : Shape)
    (told : List Adoption) : Type 0 where
  pub exact : IsExact name s
  pub all : shown name s ≡ orders
  pub kept : told ≡ orders

pub published_more : (name : Name) (s : Shape) (c : Change) (t : Shape)
    (orders more told : List Adoption) → IsExact name s → shown name s ≡ orders
    → c.orders.items ≡ more
    → CanShow name s c → t ≡ with_change s c → told ≡ shown name t
    → IsPublished name (orders ++ more) t told
published_more name s c t orders more told exact all items can is sees =
    let now : shown name t ≡ orders ++ more =
    ap (shown name) is ∙ (shown_more name s c exact can
    ∙ (ap (λ l. l ++ c.orders.items) all ∙ ap (λ l. orders ++ l) items)) in
    record {
      exact = subst (IsExact name) (sym is) (exact_more name s c exact can);
      all = now;
      kept = sees ∙ now;
    }

-- a page that is renewed can be shown
pub can_renew : (name : Name) (t : Shape) (c : Change) (orders told : List Adoption)
    → IsPublished name orders t told → c.orders.items ≡ [] → c.before ≡ length orders
    → IsOf name c.page → orders_on name c.page ≡ orders → CanShow name t c
can_renew name t c orders told is items before of listing =
    can_show name t c orders [] is.all items before of listing refl (let e = ap length is.all in
    let few = is.exact.few in omega (arith, e, few))

pub published_as : (name : Name) (orders : List Adoption) (t : Shape) (told others : List Adoption)
    → IsPublished name orders t told → others ≡ orders → IsPublished name others t told
published_as name orders t told others is same =
    subst (λ l. IsPublished name l t told) (sym same) is

pub published_same : (name : Name) (orders : List Adoption) (t : Shape) (told : List Adoption)
    (s : Shape) (known : List Adoption) → IsPublished name orders t told → s ≡ t → known ≡ told
    → IsPublished name orders s known
published_same name orders t told s known is shows knows =
    record {
      exact = subst (IsExact name) (sym shows) is.exact;
      all = ap (shown name) shows ∙ is.all;
      kept = knows ∙ is.kept;
    }

-- of two answers each leads there
pub either_way : {X Y : Type 0} (r : Result X Y) (P Q G : Type 0) → IfOk r (λ _. P)
    → IfErr r (λ _. Q) → (P → G) → (Q → G) → G
either_way (Ok x) P Q G ok err there too = there ok
either_way (Err e) P Q G ok err there too = too err

-- a list with no orders is shown by blank cells
pub exact_blank : (name : Name) (page : Sheet) (n : ℕ) → IsOf name page → orders_on name page ≡ []
    → IsExact name (shape page [] n (replicate (n * n) 0))
exact_blank name page n of none =
    let empty : orders_on name page ++ [] ≡ [] = append-nil (orders_on name page) ∙ none in
    record {
      page = of;
      numbers = subst (λ l. HasNumbers n l (replicate (n * n) 0)) (sym empty) (blank_numbers n);
      few = subst (λ k. k < 2 ^ 32) (sym (ap length empty)) (omega arith);
    }
