-- The steps at the book's word keep its rule.
use Rattle.std.proofs.Common.{◌≡◌, ℕ, zero, suc, ◌<◌, ◌==◌, true, false, List, [], ◌∷◌, ◌++◌}
use Rattle.std.proofs.Common.{length, refl, ap, sym, subst, arith, inl, None}
use Rattle.std.specs.Prelude.{slice_set}
use Rattle.std.proofs.lemmas.List.{append-nil}
use Rattle.std.proofs.lemmas.Bool.Decides.{nat_tests}
use mathlib.Core.List.{IsPrefix}
use prog.Atomic.{either}
use Rattle.logbook.specs.Pages.{Cell, cell, Nib, keeps, gives, adds, no_nib, may_write, step, Moves}
use Rattle.wit_adoptions.specs.declared.link.ListLink.{ListLink}
use Rattle.wit_adoptions.specs.Links.{orders_since, end_behind, IsUsedUp, AreUsedUp, IsKept}
use Rattle.wit_adoptions.specs.Steps.{Ends, Covers, Adds}
use Rattle.wit_adoptions.proofs.Ends.{orders_more, end_more, all_seen, used_with}
use Rattle.wit_adoptions.proofs.Fronts.{begins_through}

abbrev pub shown : List ListLink → List ListLink
shown links = []

abbrev pub moved : List ListLink → List ListLink → ℕ → Type 0
moved before after answer = Unit {0}

-- the word stays as it is
abbrev pub still : ℕ → ℕ
still n = either (n == 0) 0 n

-- ---- cells that are at home

is_there : (cells : List Cell) (k : ℕ) → IsUsedUp cells k → k < length cells
is_there [] k home = absurd (cc home)
is_there (c ∷ cells) zero home = omega arith
is_there (c ∷ cells) (suc k) home = let below = is_there cells k home in omega (arith, below)

home_set : (cells : List Cell) (i k n : ℕ) → IsUsedUp cells k
    → IsUsedUp (slice_set cells i (n, true)) k
home_set [] i k n home = home
home_set (c ∷ cells) zero zero n home = refl
home_set (c ∷ cells) zero (suc k) n home = home
home_set (c ∷ cells) (suc i) zero n home = home
home_set (c ∷ cells) (suc i) (suc k) n home = home_set cells i k n home

home_here : (cells : List Cell) (k n : ℕ) → k < length cells
    → IsUsedUp (slice_set cells k (n, true)) k
home_here [] k n below = absurd (omega (arith, below))
home_here (c ∷ cells) zero n below = refl
home_here (c ∷ cells) (suc k) n below = home_here cells k n (omega (arith, below))

home_longer : (cells more : List Cell) (k : ℕ) → IsUsedUp cells k → IsUsedUp (cells ++ more) k
home_longer [] more k home = absurd (cc home)
home_longer (c ∷ cells) more zero home = home
home_longer (c ∷ cells) more (suc k) home = home_longer cells more k home

length_set : (cells : List Cell) (i : ℕ) (c : Cell) → length (slice_set cells i c) ≡ length cells
length_set [] i c = refl
length_set (d ∷ cells) zero c = refl
length_set (d ∷ cells) (suc i) c = ap suc (length_set cells i c)

-- whatever stays at home
used_still : (cells later : List Cell) (links : List ListLink)
    → ((k : ℕ) → IsUsedUp cells k → IsUsedUp later k)
    → AreUsedUp cells links → AreUsedUp later links
used_still cells later [] home used = used
used_still cells later (l ∷ links) home used =
    (home l.end used.0, used_still cells later links home used.1)

kept_still : (cells later : List Cell) (links : List ListLink)
    → ((k : ℕ) → IsUsedUp cells k → IsUsedUp later k)
    → IsKept cells links → IsKept later (links ++ [])
kept_still cells later links home kept =
    record {
      head = home 0 kept.head;
      ends = subst (AreUsedUp later) (sym (append-nil links))
          (used_still cells later links home kept.ends);
    }

-- ---- lists

-- with a link at its end a list has the link's orders more
added : (start : ℕ) (ask : ListLink) (seen links : List ListLink)
    → (orders_since start links ≡ orders_since start seen) × (end_behind start links ≡ ask.end)
    → (orders_since start (links ++ ask ∷ []) ≡ orders_since start seen ++ ask.orders)
    × (end_behind start (links ++ ask ∷ []) ≡ ask.next)
added start ask seen links all =
    let same : (ask.end == ask.end) ≡ true = grind (arith, nat_tests) in
    let here : orders_since ask.end (ask ∷ []) ≡ ask.orders = rw same (append-nil ask.orders) in
    let next : end_behind ask.end (ask ∷ []) ≡ ask.next = rw same refl in (
      rw (orders_more start links (ask ∷ []), all.0, all.1, here) refl,
      rw (end_more start links (ask ∷ []), all.1, next) refl,
    )

-- ---- steps

-- an end is made, and nothing is added
pub ends_moves : (seen : List ListLink) (ask : ListLink)
    → Moves IsKept shown moved 0 (seen, (no_nib, None)) still
    (Ends (step 0 0 0 ask) (seen, (no_nib, None)))
ends_moves seen ask cells links kept begins away =
    let n = still (cell cells 0).0 in
    let home : (k : ℕ) → IsUsedUp cells k
    → IsUsedUp (slice_set cells 0 (n, true) ++ (0, false) ∷ []) k =
    λ k h. home_longer (slice_set cells 0 (n, true)) ((0, false) ∷ []) k
    (home_set cells 0 k n h) in (
      is_there cells 0 kept.head,
      kept.head,
      (
        adds,
        [],
        None,
        tt,
        kept_still cells (slice_set cells 0 (n, true) ++ (0, false) ∷ []) links
            home kept,
        inl (refl, refl),
        refl,
      ),
    )

-- what the pen's list is, is found
pub covers_moves : (seen : List ListLink) (ask : ListLink) (pen : Nib) → pen.right ≡ may_write
    → Moves IsKept shown moved 0 (seen, (pen, None)) still
    (Covers (step 0 0 0 ask) (seen, (pen, None)))
covers_moves seen ask pen right cells links kept begins away =
    let n = still (cell cells 0).0 in
    let told : Covers (step 0 0 0 ask) (seen, (pen, None)) (cell cells 0).0
    (links ++ [], (pen, None)) = (
      refl,
      λ start first from at.
          let within : IsPrefix first links = begins_through first seen links from begins in
          rw (append-nil links) (all_seen cells start pen.key first links
          (away right).1 kept.ends within at).0,
    ) in (
      is_there cells 0 kept.head,
      kept.head,
      (
        keeps,
        [],
        None,
        tt,
        kept_still cells (slice_set cells 0 (n, true)) links
            (λ k h. home_set cells 0 k n h) kept,
        inl (refl, refl),
        told,
      ),
    )

-- the link is added, and its pen used up
pub adds_moves : (seen : List ListLink) (ask : ListLink) (pen : Nib) → pen.right ≡ may_write
    → pen.key ≡ ask.end
    → Moves IsKept shown moved 0 (seen, (pen, None)) still
    (Adds (step 0 0 0 ask) (seen, (pen, None)))
adds_moves seen ask pen right key cells links kept begins away =
    let n = still (cell cells 0).0 in
    let set = slice_set cells 0 (n, true) in
    let later = slice_set set pen.key (pen.value, true) in
    let home : (k : ℕ) → IsUsedUp cells k → IsUsedUp later k =
    λ k h. home_set set pen.key k pen.value (home_set cells 0 k n h) in
    let below : pen.key < length set =
    omega (arith, (away right).0, length_set cells 0 (n, true)) in
    let used : IsUsedUp later ask.end =
    subst (IsUsedUp later) key (home_here set pen.key pen.value below) in
    let kept' : IsKept later (links ++ ask ∷ []) =
    record {
      head = home 0 kept.head;
      ends = used_with later links (ask ∷ [])
          (used_still cells later links home kept.ends) (used, tt);
    } in
    let told : Adds (step 0 0 0 ask) (seen, (pen, None)) (cell cells 0).0
    (links ++ ask ∷ [], (no_nib, None)) = λ start at.
    added start ask seen links (all_seen cells start ask.end seen links
    (subst (λ k. (cell cells k).1 ≡ false) key (away right).1) kept.ends begins at) in (
      is_there cells 0 kept.head,
      kept.head,
      (gives, ask ∷ [], None, right, kept', inl (refl, refl), told),
    )
