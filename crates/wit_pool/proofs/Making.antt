-- A chunk is made where no other is free.
use Rattle.std.proofs.Common.{◌≡◌, ℕ, zero, suc, replicate, ◌<◌, ◌≤◌, List, [], ◌∷◌, ◌++◌, length, map, set, get_or}
use Rattle.std.proofs.Common.{None, Some, refl, ap, ap₂, sym, ◌∙◌, subst, inl, inr, arith}
use Rattle.std.specs.Prelude.{Option, IfSome}
use Rattle.std.specs.List.{All, range_with_len}
use Rattle.std.proofs.lemmas.Bool.{cases_eq}
use Rattle.std.proofs.lemmas.List.{append-nil, get_or-map, map-set, set-get_or}
use Rattle.std.proofs.lemmas.List.{length-set}
use Rattle.std.proofs.lemmas.Option.{none-some}
use Rattle.wit_model.specs.declared.locks.Instance.{Instance}
use Rattle.wit_model.specs.Rules.Chunks.{Chunks}
use Rattle.wit_model.proofs.Rows.Emptiness.{range-more}
use Rattle.wit_pool.specs.declared.chunk.Next.{Next}
use Rattle.wit_pool.specs.declared.chunk.Chunk.{Chunk}
use Rattle.wit_pool.specs.declared.cells.Cells.{Cells}
use Rattle.wit_pool.specs.declared.chain.Chain.{Chain}
use Rattle.wit_pool.specs.declared.pool.Pool.TheInside.{Inside}
use Rattle.wit_pool.specs.Chunks.{chunk_at, content, next_of, rows_in, IsAt, AreBare}
use Rattle.wit_pool.specs.Chains.{places, chain_chunks, IsLinked, Stands, Stays, Makes, IsReady}
use Rattle.wit_pool.specs.Kept.{rows_of, lists_of, spare_of, free_of, chunks_in, AreKept}
use Rattle.wit_pool.proofs.Links.{Runs, longer, read-here, read-other, still-there, none-left}
use Rattle.wit_pool.proofs.Standing as Standing
use Rattle.wit_pool.proofs.Keeping.{stands, unmade-within}

-- the same block and lists, where a chunk may have been made
pub record IsBesides {A : Type 0} (v w : Inside A) : Type 0 where
  pub at : w.cells.at ≡ v.cells.at
  pub chains : w.chains.items ≡ v.chains.items
  pub first : w.first.ptr ≡ v.first.ptr
  pub count : w.count ≡ v.count
  pub deed : (w.deed.at ≡ w.first.ptr) × (w.deed.len ≡ w.count) × (w.deed.alloc ≡ w.alloc)
  pub ready : IsReady v.cells.at v.cells.slots w.cells.slots v.free v.unmade (w.free, w.unmade)

-- callers see what they saw, and a chunk is free unless each place holds one
pub record IsSame {A : Type 0} (shows : Chunks) (held : List (List Instance)) (w : Inside A) : Type 0 where
  pub kept : AreKept w
  pub is : chunks_in w ≡ shows
  pub rows : rows_of w ≡ held
  pub made : w.free.head ≡ None → w.unmade ≡ 0

module _ {A : Type 0} (v : Inside A) (shows : Chunks) (is : chunks_in v ≡ shows) (kept : AreKept v)
    (w : Inside A) (beside : IsBesides v w) where
  abbrev cs : List (Option Chunk)
  cs = v.cells.slots

  -- the block stands for these lists, and these chunks are free
  settles : (n : ℕ) → w.unmade ≡ n → (spare : List ℕ)
      → Stands v.cells.at w.cells.slots v.chains.items w.free (rows_of v) (lists_of v) spare
      → range_with_len 0 n ++ spare ≡ free_of v → AreBare w.cells.slots n
      → (w.free.head ≡ None → w.unmade ≡ 0) → length w.cells.slots ≡ length cs
      → IsSame shows (rows_of v) w
  settles n few spare s all bare made long =
      let rows : rows_of w ≡ rows_of v = s.rows in
      let lists : lists_of w ≡ lists_of v =
      ap (map (chain_chunks w.cells.slots)) beside.chains ∙ s.lists in
      let free : free_of w ≡ free_of v =
      ap₂ (λ k qs. range_with_len 0 k ++ qs) few s.unused ∙ all in
      record {
        kept = record {
          settled = rw (rows, lists, free) kept.settled;
          linked =
              subst (λ a. All (IsLinked a w.cells.slots) w.chains.items) (sym beside.at)
              (subst (All (IsLinked v.cells.at w.cells.slots)) (sym beside.chains) s.linked);
          spare = subst (λ a. IsLinked a w.cells.slots w.free) (sym beside.at) s.spare;
          bare = subst (AreBare w.cells.slots) (sym few) bare;
          first = beside.first ∙ kept.first ∙ sym beside.at;
          size = long ∙ kept.size ∙ sym beside.count;
          deed = beside.deed;
        };
        is = rw (rows, lists, free) is;
        rows = rows;
        made = made;
      }

  stays : Stays cs w.cells.slots v.free v.unmade (w.free, w.unmade) → IsSame shows (rows_of v) w
  stays h =
      let free : w.free ≡ v.free = ap (λ (r : Chain × ℕ). r.0) h.free in
      let few : w.unmade ≡ v.unmade = ap (λ (r : Chain × ℕ). r.1) h.free in
      settles v.unmade few (spare_of v)
      (rw (h.slots, free) (stands v shows is kept)) refl
      (subst (λ ds. AreBare ds v.unmade) (sym h.slots) kept.bare)
      (λ e. few ∙ h.none (sym (ap (λ (c : Chain). c.head) free) ∙ e))
      (ap length h.slots)

  makes : Makes v.cells.at cs w.cells.slots v.free v.unmade (w.free, w.unmade) → IsSame shows (rows_of v) w
  makes h =
      let p : ℕ = h.link.place in
      let x : Chunk = h.chunk in
      let ds : List (Option Chunk) = set cs p (Some x) in
      let below : p < v.unmade = omega (arith, h.place, h.last) in
      let in_all : p < length cs = omega (arith, below, unmade-within v shows is kept) in
      let was : chunk_at cs p ≡ None = kept.bare p below in
      let there : IsAt v.cells.at ds h.link =
      record { leads = h.leads; chunk = x; there = read-here v.cells.at cs p x in_all } in
      let rows : rows_in ds ≡ rows_of v =
      map-set content cs p (Some x) ∙ ap (set (rows_of v) p) (h.empty
      ∙ sym (get_or-map content cs p None [] in_all ∙ ap content was))
      ∙ set-get_or (rows_of v) p [] in
      let same : (q : ℕ) → next_of (chunk_at ds q) ≡ next_of (chunk_at cs q) =
      λ q. elim (cases_eq q p) [
        | inl e ↦ ap (λ r. next_of (chunk_at ds r)) e
            ∙ ap next_of (read-here v.cells.at cs p x in_all) ∙ h.ends
            ∙ sym (ap (λ r. next_of (chunk_at cs r)) e ∙ ap next_of was)
        | inr other ↦ ap next_of (read-other v.cells.at cs p x in_all q other)
      ] in
      let kept-so : Stands v.cells.at ds v.chains.items v.free (rows_of v) (lists_of v)
      (spare_of v) =
      Standing.same-all v.cells.at cs v.chains.items v.free (rows_of v) (lists_of v) (spare_of v)
      (stands v shows is kept) ds (still-there v.cells.at cs p x in_all) (λ q some. same q)
      (rows_of v) rows in
      let none : v.free.count ≡ 0 =
      none-left v.cells.at cs v.free.count v.free.head kept.spare h.none in
      let one : Runs v.cells.at ds w.free.count w.free.head (p ∷ []) =
      rw (h.free.0, h.free.1)
      (longer v.cells.at ds 0 None [] h.link (refl, refl) there
      (ap next_of (read-here v.cells.at cs p x in_all) ∙ h.ends)) in
      let now : Stands v.cells.at ds v.chains.items w.free (rows_of v) (lists_of v) (p ∷ []) =
      Standing.respared v.cells.at ds v.chains.items v.free (rows_of v) (lists_of v) (spare_of v)
      kept-so w.free (p ∷ []) one in
      let no_spare : spare_of v ≡ [] = ap (λ n. places cs n v.free.head) none in
      settles w.unmade refl (p ∷ [])
      (subst (λ es. Stands v.cells.at es v.chains.items w.free (rows_of v) (lists_of v) (p ∷ []))
      (sym h.now) now)
      (ap (λ q. range_with_len 0 w.unmade ++ q ∷ []) h.place ∙ sym (range-more w.unmade)
      ∙ ap (range_with_len 0) h.last ∙ sym (append-nil (range_with_len 0 v.unmade))
      ∙ ap (λ qs. range_with_len 0 v.unmade ++ qs) (sym no_spare))
      (subst (λ es. AreBare es w.unmade) (sym h.now)
      (λ q lt. read-other v.cells.at cs p x in_all q (λ e. absurd (omega (arith, e, lt, h.place)))
      ∙ kept.bare q (omega (arith, lt, h.last))))
      (λ e. absurd (none-some h.link (sym e ∙ h.free.0)))
      (ap length h.now ∙ length-set cs p (Some x))

  pub same : IsSame shows (rows_of v) w
  same = elim beside.ready [
    | inl h ↦ stays h
    | inr h ↦ makes h
  ]

-- what a place holds
row-is : (cs : List (Option Chunk)) (p : ℕ) → content (chunk_at cs p) ≡ get_or (rows_in cs) p []
row-is [] p = refl
row-is (c ∷ ds) zero = refl
row-is (c ∷ ds) (suc p) = row-is ds p

-- a full chunk stays full
still-full : (es ds : List (Option Chunk)) → rows_in ds ≡ rows_in es → (h : Option Next)
    → IfSome h (λ at. 5 ≤ length (content (chunk_at es at.place)))
    → IfSome h (λ at. 5 ≤ length (content (chunk_at ds at.place)))
still-full es ds kept None full = tt
still-full es ds kept (Some at) full =
    subst (λ (g : List Instance). 5 ≤ length g)
    (row-is es at.place ∙ ap (λ gs. get_or gs at.place []) (sym kept) ∙ sym (row-is ds at.place))
    full

-- the pool with these chunks
abbrev pub prepared : {A : Type 0} → Inside A → Cells Chunk → Chain → ℕ → Inside A
prepared v cells free unmade = record {
  chains = v.chains;
  free = free;
  unmade = unmade;
  first = v.first;
  count = v.count;
  cells = cells;
  deed = v.deed;
  alloc = v.alloc;
}

module _ {A : Type 0} (v : Inside A) (shows : Chunks) (is : chunks_in v ≡ shows) (kept : AreKept v)
    (cells : Cells Chunk) (r : Chain × ℕ) (at : cells.at ≡ v.cells.at)
    (ready : IsReady v.cells.at v.cells.slots cells.slots v.free v.unmade r) where
  -- the pool with a chunk that is ready, if there is one
  pub prepares : IsSame shows (rows_of v) (prepared v cells r.0 r.1)
  prepares =
      same v shows is kept (prepared v cells r.0 r.1)
      (record {
        at = at;
        chains = refl;
        first = refl;
        count = refl;
        deed = kept.deed;
        ready = ready;
      })

  -- the chunk at this place is full there, too
  pub full-there : (h : Option Next)
      → IfSome h (λ at. 5 ≤ length (content (chunk_at v.cells.slots at.place)))
      → IfSome h (λ at. 5 ≤ length (content (chunk_at cells.slots at.place)))
  full-there h full = still-full v.cells.slots cells.slots prepares.rows h full

-- ---- a block in which no chunk is made
pub no-rows : (n : ℕ) → rows_in (replicate n None) ≡ replicate n []
no-rows zero = refl
no-rows (suc n) = ap (λ gs. [] ∷ gs) (no-rows n)

pub all-bare : (n : ℕ) → AreBare (replicate n None) n
all-bare zero p lt = refl
all-bare (suc n) zero lt = refl
all-bare (suc n) (suc p) lt = all-bare n p (omega (arith, lt))
