-- What is kept.
use Rattle.std.proofs.Common.{◌≡◌, ℕ, ◌+◌, ◌-◌, ◌^◌, ◌<◌, ◌≤◌, List, [], ◌∷◌, ◌++◌, length, take}
use Rattle.std.proofs.Common.{set, get_or, None, Some, slice_get, refl, ap, sym, ◌∙◌, subst, arith}
use Rattle.std.specs.List.{range_with_len}
use Rattle.std.proofs.lemmas.List.{length-map, length-append, get_or-map}
use Rattle.std.proofs.lemmas.List.FromFn.{length-range_with_len}
use Rattle.std.proofs.lemmas.Option.{slice_get_within, slice_get_past, get_or_from_slice_get}
use Rattle.wit_model.specs.declared.locks.Instance.{Instance}
use Rattle.wit_model.specs.declared.chunks.Spot.{Spot}
use Rattle.wit_model.specs.declared.sizes.TheConstants.Limits.{MOST_CHUNKS}
use Rattle.wit_model.specs.Rules.Groups.{flat, replaced_in}
use Rattle.wit_model.specs.Rules.Chunks.{Chunks, IsList, IsSpot, IsPlaced, StandsIn, groups_of}
use Rattle.wit_model.specs.Rules.Chunks.{group_of, set_groups, times}
use Rattle.wit_model.specs.Rules.Rows.{row, groups_at}
use Rattle.wit_model.proofs.Rows.Placing.{IsTaken, taken, times-append}
use Rattle.wit_model.proofs.Rows.Settled.{replaced}
use Rattle.wit_model.proofs.Rows.Shown.{Leaves, list-within, groups-shown, placed-shown}
use Rattle.wit_model.proofs.Rows.Shown.{list-short, row-at, chain-fits}
use Rattle.circular_buffer.proofs.Places.{slice_get-take, slice_get-last}
use Rattle.wit_pool.specs.declared.chunk.Next.{Next}
use Rattle.wit_pool.specs.declared.chain.Chain.{Chain}
use Rattle.wit_pool.specs.declared.pool.Pool.TheInside.{Inside}
use Rattle.wit_pool.specs.Chunks.{chunk_at, content, next_of, Leads, IsAt}
use Rattle.wit_pool.specs.Chains.{places, chain_chunks, IsChain, IsLinked, Stands}
use Rattle.wit_pool.specs.Kept.{rows_of, lists_of, spare_of, free_of, chunks_in, AreKept}
use Rattle.wit_pool.proofs.Links.{Stood, stood, first, none-left, length-places}
use Rattle.wit_pool.proofs.Standing as Standing

module _ {A : Type 0} (v : Inside A) (shows : Chunks) (is : chunks_in v ≡ shows)
    (kept : AreKept v) where
  pub stands : Stands v.cells.at v.cells.slots v.chains.items v.free (rows_of v)
      (lists_of v) (spare_of v)
  stands =
      record { rows = refl; lists = refl; unused = refl; linked = kept.linked; spare = kept.spare }

  pub placed : IsPlaced shows
  placed = subst IsPlaced is (placed-shown (rows_of v) (lists_of v) (free_of v) kept.settled.placed)

  pub count-free : length (free_of v) ≡ v.unmade + v.free.count
  count-free =
      omega (
        arith,
        length-append (range_with_len 0 v.unmade) (spare_of v),
        length-range_with_len 0 v.unmade,
        length-places v.cells.at v.cells.slots v.free.count v.free.head kept.spare,
      )

  -- what isn't free isn't linked as a free one
  pub not-spare : (p : ℕ) → times p (free_of v) ≡ 0 → times p (spare_of v) ≡ 0
  not-spare p none =
      omega (arith, none, times-append p (range_with_len 0 v.unmade) (spare_of v))

  pub few-unmade : v.unmade ≤ MOST_CHUNKS
  few-unmade = omega (arith, count-free, kept.settled.placed.all, kept.settled.few)

  pub unmade-within : v.unmade ≤ length v.cells.slots
  unmade-within =
      omega (arith, count-free, kept.settled.placed.all, length-map v.cells.slots content)

  pub few-free : v.free.count ≤ MOST_CHUNKS
  few-free = omega (arith, count-free, kept.settled.placed.all, kept.settled.few)

  -- an instance of the block
  pub in-block : (p : ℕ) → p < length (rows_of v) → p < length v.cells.slots
  in-block p lt = omega (arith, lt, length-map v.cells.slots content)

  module _ (list : ℕ) (there : IsList shows list) where
    pub in-lists : list - 1 < length (lists_of v)
    in-lists =
        list-within (rows_of v) (lists_of v) (free_of v) list
        (subst (λ s. IsList s list) (sym is) there)

    pub in-chains : list - 1 < length v.chains.items
    in-chains = omega (arith, in-lists, length-map v.chains.items (chain_chunks v.cells.slots))

    pub list-is : (d : Chain) → get_or (lists_of v) (list - 1) []
        ≡ chain_chunks v.cells.slots (get_or v.chains.items (list - 1) d)
    list-is d =
        Standing.list-at v.cells.at v.cells.slots v.chains.items v.free (rows_of v) (lists_of v)
        (spare_of v) stands (list - 1) d in-chains

    pub linked : (d : Chain) → IsLinked v.cells.at v.cells.slots
        (get_or v.chains.items (list - 1) d)
    linked d = kept.linked (list - 1) d in-chains

    pub groups-are : groups_of shows list
        ≡ groups_at (rows_of v) (get_or (lists_of v) (list - 1) [])
    groups-are =
        ap (λ s. groups_of s list) (sym is) ∙ groups-shown (rows_of v) (lists_of v)
        (list - 1) in-lists

    pub groups-many : (d : Chain) → length (groups_of shows list)
        ≡ (get_or v.chains.items (list - 1) d).count
    groups-many d =
        ap length groups-are
        ∙ length-map (get_or (lists_of v) (list - 1) []) (row (rows_of v))
        ∙ ap length (list-is d)
        ∙ length-places v.cells.at v.cells.slots (get_or v.chains.items (list - 1) d).count
        (get_or v.chains.items (list - 1) d).head (linked d)

    pub fits : length (flat (groups_of shows list)) < 2 ^ 32
    fits =
        subst (λ gs. length (flat gs) < 2 ^ 32) (sym groups-are)
        (chain-fits (rows_of v) (lists_of v) (free_of v) (list - 1) kept.settled)

    pub few : (d : Chain) → (get_or v.chains.items (list - 1) d).count ≤ MOST_CHUNKS
    few d =
        omega (
          arith,
          length-places v.cells.at v.cells.slots (get_or v.chains.items (list - 1) d).count
              (get_or v.chains.items (list - 1) d).head (linked d),
          ap length (list-is d),
          list-short (lists_of v) (list - 1),
          kept.settled.placed.all,
          kept.settled.few,
        )

    module _ (s : Spot) (at : IsSpot shows list s) where
      pub stands-in : StandsIn (get_or (lists_of v) (list - 1) []) s
      stands-in = subst (λ c. StandsIn (get_or c.places (list - 1) []) s) (sym is) at.stands

      pub in-list : s.group < length (get_or (lists_of v) (list - 1) [])
      in-list = slice_get_within (get_or (lists_of v) (list - 1) []) s.group s.chunk stands-in.chunk

      pub chunk-is : get_or (get_or (lists_of v) (list - 1) []) s.group 0 ≡ s.chunk
      chunk-is =
          get_or_from_slice_get (get_or (lists_of v) (list - 1) []) s.group s.chunk 0
          stands-in.chunk

      pub known : IsTaken (length (rows_of v)) (lists_of v) (free_of v) s.chunk
      known =
          subst (IsTaken (length (rows_of v)) (lists_of v) (free_of v)) chunk-is
          (taken (length (rows_of v)) (lists_of v) (free_of v) kept.settled.placed
          (list - 1) s.group 0 in-lists in-list)

      pub chunk-within : s.chunk < length v.cells.slots
      chunk-within = in-block s.chunk known.within

      pub chunk-fits : s.chunk < 2 ^ 16
      chunk-fits = omega (arith, known.within, kept.settled.few)

      pub stood-there : (d : Chain)
          → Stood v.cells.at v.cells.slots (get_or v.chains.items (list - 1) d).count
          (get_or v.chains.items (list - 1) d).head s.group s.chunk
      stood-there d =
          stood v.cells.at v.cells.slots (get_or v.chains.items (list - 1) d).count
          (get_or v.chains.items (list - 1) d).head (linked d) s.group s.chunk
          (subst (λ ps. slice_get ps s.group ≡ Some s.chunk) (list-is d) stands-in.chunk)

      pub is-at : (l : Next) → Leads v.cells.at l → l.place ≡ s.chunk
          → IsAt v.cells.at v.cells.slots l
      is-at l leads e =
          let old = stood-there (record { head = None; count = 0 }) in
          record {
            leads = leads;
            chunk = old.there.chunk;
            there = ap (chunk_at v.cells.slots) (e ∙ sym old.place) ∙ old.there.there;
          }

      pub group-is : group_of shows list s ≡ content (chunk_at v.cells.slots s.chunk)
      group-is =
          ap (λ gs. get_or gs s.group []) groups-are
          ∙ row-at (rows_of v) (lists_of v) (free_of v) kept.settled
          (list - 1) in-lists s.group in-list
          ∙ ap (row (rows_of v)) chunk-is
          ∙ get_or-map content v.cells.slots s.chunk None [] chunk-within

      pub older-none : next_of (chunk_at v.cells.slots s.chunk) ≡ None → 0 ≡ s.group
      older-none e =
          sym (none-left v.cells.at v.cells.slots s.group (next_of (chunk_at v.cells.slots s.chunk))
          (stood-there (record { head = None; count = 0 })).older.1 e)

      module _ (l : Next) (e : next_of (chunk_at v.cells.slots s.chunk) ≡ Some l) where
        begins : (1 ≤ s.group) × IsAt v.cells.at v.cells.slots l
            × (places v.cells.slots s.group (Some l)
            ≡ places v.cells.slots (s.group - 1) (next_of (chunk_at v.cells.slots l.place))
            ++ l.place ∷ [])
            × IsChain v.cells.at v.cells.slots (s.group - 1)
            (next_of (chunk_at v.cells.slots l.place))
        begins =
            first v.cells.at v.cells.slots s.group l
            (subst (IsChain v.cells.at v.cells.slots s.group) e
            (stood-there (record { head = None; count = 0 })).older.1)

        pub older-some : s.group - 1 + 1 ≡ s.group
        older-some = omega (arith, begins.0)

        pub older-spot : IsSpot shows list
            (record { group = s.group - 1; chunk = l.place; newer = Some s.chunk })
        older-spot =
            let d : Chain = record { head = None; count = 0 } in
            let ps : List ℕ = get_or (lists_of v) (list - 1) [] in
            let xs : List ℕ =
            places v.cells.slots (s.group - 1) (next_of (chunk_at v.cells.slots l.place)) in
            let long : length xs ≡ s.group - 1 =
            length-places v.cells.at v.cells.slots (s.group - 1)
            (next_of (chunk_at v.cells.slots l.place)) begins.3 in
            let front : take s.group ps ≡ xs ++ l.place ∷ [] =
            ap (take s.group) (list-is d) ∙ sym (stood-there d).older.0
            ∙ ap (places v.cells.slots s.group) e ∙ begins.2 in
            let less : s.group - 1 < s.group = omega (arith, begins.0) in
            record {
              group = omega (arith, at.group, less);
              stands =
                  subst (λ c. StandsIn (get_or c.places (list - 1) [])
                  (record { group = s.group - 1; chunk = l.place; newer = Some s.chunk })) is
                  (record {
                    chunk =
                        sym (slice_get-take s.group ps (s.group - 1) less)
                        ∙ ap (λ qs. slice_get qs (s.group - 1)) front
                        ∙ slice_get-last xs l.place (s.group - 1) (sym long);
                    newer = ap (slice_get ps) older-some ∙ stands-in.chunk;
                  });
            }

      pub row-is : row (rows_of v) s.chunk ≡ content (chunk_at v.cells.slots s.chunk)
      row-is = get_or-map content v.cells.slots s.chunk None [] chunk-within

      module _ (index : ℕ) (in_group : index < length (group_of shows list s)) where
        pub in-content : index < length (content (chunk_at v.cells.slots s.chunk))
        in-content = subst (λ (g : List Instance). index < length g) group-is in_group

        pub in-row : index < length (row (rows_of v)
            (get_or (get_or (lists_of v) (list - 1) []) s.group 0))
        in-row =
            subst (λ (g : List Instance). index < length g)
            (sym (ap (row (rows_of v)) chunk-is ∙ row-is)) in-content

        -- what a lock that is written over another one leaves
        pub replaces : (x : Instance)
            → Leaves (set (rows_of v) s.chunk
            (set (content (chunk_at v.cells.slots s.chunk)) index x)) (lists_of v) (free_of v)
            (set_groups shows list (replaced_in s.group index x (groups_of shows list)))
        replaces x =
            subst (λ c. Leaves (set (rows_of v) s.chunk
            (set (content (chunk_at v.cells.slots s.chunk)) index x)) (lists_of v) (free_of v)
            (set_groups c list (replaced_in s.group index x (groups_of c list)))) is
            (subst (λ (g : List Instance). Leaves (set (rows_of v) s.chunk (set g index x))
            (lists_of v) (free_of v)
            (set_groups (chunks_in v) list
            (replaced_in s.group index x (groups_of (chunks_in v) list)))) row-is
            (subst (λ p. Leaves (set (rows_of v) p (set (row (rows_of v) p) index x))
            (lists_of v) (free_of v)
            (set_groups (chunks_in v) list
            (replaced_in s.group index x (groups_of (chunks_in v) list)))) chunk-is
            (replaced (rows_of v) (lists_of v) list in-lists
            (free_of v) kept.settled s.group index in-list in-row x)))

    pub newest-none : (d : Chain) → (get_or v.chains.items (list - 1) d).head ≡ None
        → 0 ≡ length (groups_of shows list)
    newest-none d e =
        sym (groups-many d ∙ none-left v.cells.at v.cells.slots
        (get_or v.chains.items (list - 1) d).count
        (get_or v.chains.items (list - 1) d).head (linked d) e)

    module _ (d : Chain) (l : Next) (e : (get_or v.chains.items (list - 1) d).head ≡ Some l) where
      abbrev n : ℕ
      n = (get_or v.chains.items (list - 1) d).count

      starts : (1 ≤ n) × IsAt v.cells.at v.cells.slots l
          × (places v.cells.slots n (Some l) ≡ places v.cells.slots (n - 1)
          (next_of (chunk_at v.cells.slots l.place)) ++ l.place ∷ [])
          × IsChain v.cells.at v.cells.slots (n - 1) (next_of (chunk_at v.cells.slots l.place))
      starts =
          first v.cells.at v.cells.slots n l
          (subst (IsChain v.cells.at v.cells.slots n) e (linked d))

      pub newest-all : n - 1 + 1 ≡ length (groups_of shows list)
      newest-all = omega (arith, starts.0, groups-many d)

      pub newest-spot : IsSpot shows list (record { group = n - 1; chunk = l.place; newer = None })
      newest-spot =
          let xs : List ℕ =
          places v.cells.slots (n - 1) (next_of (chunk_at v.cells.slots l.place)) in
          let long : length xs ≡ n - 1 =
          length-places v.cells.at v.cells.slots (n - 1)
          (next_of (chunk_at v.cells.slots l.place)) starts.3 in
          let all : get_or (lists_of v) (list - 1) [] ≡ xs ++ l.place ∷ [] =
          list-is d ∙ ap (places v.cells.slots n) e ∙ starts.2 in
          record {
            group = omega (arith, starts.0, groups-many d);
            stands =
                subst (λ c. StandsIn (get_or c.places (list - 1) [])
                (record { group = n - 1; chunk = l.place; newer = None })) is
                (record {
                  chunk =
                      ap (λ qs. slice_get qs (n - 1)) all
                      ∙ slice_get-last xs l.place (n - 1) (sym long);
                  newer = ap (λ qs. slice_get qs (n - 1 + 1)) all
                      ∙ slice_get_past (xs ++ l.place ∷ []) (n - 1 + 1)
                      (omega (arith, long, length-append xs (l.place ∷ [])));
                });
          }
