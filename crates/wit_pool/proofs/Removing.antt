-- A lock is taken out of a chunk, which stays in its list or becomes free.
use Rattle.std.proofs.Common.{◌≡◌, ℕ, suc, ◌+◌, ◌-◌, ◌<◌, ◌≤◌, List, [], ◌∷◌, ◌++◌, length, take}
use Rattle.std.proofs.Common.{set, get_or, None, Some, is_some, slice_get, refl, ap, ap₂, sym, ◌∙◌}
use Rattle.std.proofs.Common.{subst, ◌⊎◌, inl, inr, arith}
use Rattle.std.specs.Prelude.{Option, IfSome}
use Rattle.std.specs.List.{remove, concat, range_with_len}
use Rattle.std.specs.Option.{option_map}
use Rattle.std.proofs.lemmas.Bool.{true≢false, cases_lt}
use Rattle.std.proofs.lemmas.List.{append-nil, append_assoc, drop_all, set-get_or}
use Rattle.std.proofs.lemmas.Option.{slice_get_within, slice_get-get_or, get_or_from_slice_get}
use Rattle.wit_model.specs.declared.locks.Instance.{Instance}
use Rattle.wit_model.specs.declared.chunks.Spot.{Spot}
use Rattle.wit_model.specs.Rules.Groups.{removed_in}
use Rattle.wit_model.specs.Rules.Chunks.{Chunks, IsList, IsSpot, groups_of, group_of, set_groups}
use Rattle.wit_model.specs.Rules.Chunks.{times}
use Rattle.wit_model.specs.Rules.Rows.{row}
use Rattle.wit_model.proofs.Rows.Placing.{IsTaken, taken, free, placed-freed, times-in}
use Rattle.wit_model.proofs.Rows.Settled.{removed-kept, removed-freed}
use Rattle.wit_model.proofs.Rows.Shown.{Leaves}
use Rattle.wit_pool.specs.declared.chunk.Next.{Next}
use Rattle.wit_pool.specs.declared.chunk.Chunk.{Chunk}
use Rattle.wit_pool.specs.declared.chain.Chain.{Chain}
use Rattle.wit_pool.specs.declared.pool.Pool.TheInside.{Inside}
use Rattle.wit_pool.specs.Chunks.{chunk_at, content, next_of, next_place, Leads, IsAt, IsRegrouped}
use Rattle.wit_pool.specs.Chunks.{IsLed, HasChunkAt, AreBare}
use Rattle.wit_pool.specs.Chains.{places, chain_chunks, IsLinked, Stands, Passes, IsFreed}
use Rattle.wit_pool.specs.Kept.{rows_of, lists_of, spare_of, free_of, chunks_in, AreKept}
use Rattle.wit_pool.proofs.Links.{Runs, Stood, stood, longer, times-end, within, read-here}
use Rattle.wit_pool.proofs.Links.{length-places, bare-regrouped, bare-freed}
use Rattle.wit_pool.proofs.Standing as Standing
use Rattle.wit_pool.proofs.Keeping.{stands, in-lists, in-chains, list-is, linked, not-spare}
use Rattle.wit_pool.proofs.Leaving.{IsBeside, IsLeft}
use Rattle.wit_pool.proofs.Keeping.{stands-in, in-list, chunk-is, known, row-is, in-row}
use Rattle.wit_pool.proofs.Leaving.{left-now}

module _ {A : Type 0} (v : Inside A) (shows : Chunks) (is : chunks_in v ≡ shows) (kept : AreKept v)
    (list : ℕ) (there : IsList shows list)
    (c : Chain) (read : c ≡ get_or v.chains.items (list - 1) c) (s : Spot)
    (at : IsSpot shows list s)
    (index : ℕ) (in_group : index < length (group_of shows list s)) where
  abbrev ps : List ℕ
  ps = get_or (lists_of v) (list - 1) []

  -- what the chunk holds then
  abbrev fewer : List Instance
  fewer = remove (content (chunk_at v.cells.slots s.chunk)) index

  abbrev groups : List (List (List Instance))
  groups = set_groups shows list (removed_in s.group index (groups_of shows list))

  abbrev lt : list - 1 < length v.chains.items
  lt = in-chains v shows is kept list there

  many : length ps ≡ c.count
  many =
      ap length (list-is v shows is kept list there c ∙ ap (chain_chunks v.cells.slots) (sym read))
      ∙ length-places v.cells.at v.cells.slots c.count c.head
      (subst (IsLinked v.cells.at v.cells.slots) (sym read) (linked v shows is kept list there c))

  content-is : row (rows_of v) (get_or ps s.group 0) ≡ content (chunk_at v.cells.slots s.chunk)
  content-is =
      ap (row (rows_of v)) (chunk-is v shows is kept list there s at)
      ∙ row-is v shows is kept list there s at

  left-is : length (remove (row (rows_of v) (get_or ps s.group 0)) index) ≡ length fewer
  left-is = ap (λ g. length (remove g index)) content-is

  -- what stays in the chunk, and what it leaves, by the chunk's place
  named : (P : List (List Instance) → ℕ → Chunks → Type 0)
      → P (set (rows_of v) (get_or ps s.group 0)
      (remove (row (rows_of v) (get_or ps s.group 0)) index))
      (get_or ps s.group 0) (chunks_in v)
      → P (set (rows_of v) s.chunk fewer) s.chunk shows
  named P h =
      subst (P (set (rows_of v) s.chunk fewer) s.chunk) is
      (subst (λ g. P (set (rows_of v) s.chunk (remove g index)) s.chunk (chunks_in v))
      (row-is v shows is kept list there s at)
      (subst (λ p. P (set (rows_of v) p (remove (row (rows_of v) p) index)) p (chunks_in v))
      (chunk-is v shows is kept list there s at) h))

  module _ (cs : List (Option Chunk)) (l : Next) (l_is : l.place ≡ s.chunk)
      (put : IsRegrouped v.cells.slots cs l.place
      (remove (content (chunk_at v.cells.slots l.place)) index)) where
    abbrev rows : List (List Instance)
    rows = set (rows_of v) s.chunk fewer

    regrouped : IsRegrouped v.cells.slots cs s.chunk fewer
    regrouped =
        subst (λ p. IsRegrouped v.cells.slots cs p
        (remove (content (chunk_at v.cells.slots p)) index)) l_is put

    taken-out : Stands v.cells.at cs v.chains.items v.free rows (lists_of v) (spare_of v)
    taken-out =
        Standing.regrouped v.cells.at v.cells.slots v.chains.items v.free (rows_of v) (lists_of v)
        (spare_of v) (stands v shows is kept) cs s.chunk fewer regrouped

    bare-there : AreBare cs v.unmade
    bare-there =
        bare-regrouped v.cells.at v.cells.slots v.unmade kept.bare cs s.chunk fewer regrouped

    -- the chunk stays
    pub stays : (1 ≤ length fewer) ⊎ (c.count ≤ 1) → (w : Inside A) → IsBeside v w
        → w.cells.slots ≡ cs → w.chains.items ≡ v.chains.items
        → w.free ≡ v.free → IsLeft shows list groups w
    stays why w beside slots chains spare =
        let stay : (1 ≤ length (remove (row (rows_of v) (get_or ps s.group 0)) index))
        ⊎ (length ps ≡ 1) = elim why [
          | inl some ↦ inl (omega (arith, some, left-is))
          | inr one ↦ inr (omega (arith, one, many, in-list v shows is kept list there s at))
        ] in
        let leaves : Leaves rows (lists_of v) (free_of v) groups =
        named (λ gs p d. Leaves gs (lists_of v) (free_of v)
        (set_groups d list (removed_in s.group index (groups_of d list))))
        (removed-kept (rows_of v) (lists_of v) list (in-lists v shows is kept list there)
        (free_of v) kept.settled s.group index
        (in-list v shows is kept list there s at)
        (in-row v shows is kept list there s at index in_group) stay) in
        left-now v shows is kept list there w beside s.chunk fewer ps
        (spare_of v) groups (lists_of v)
        (sym (set-get_or (lists_of v) (list - 1) [])) (rw (slots, chains, spare) taken-out)
        (subst (λ ds. AreBare ds v.unmade) (sym slots) bare-there) leaves

    -- the list's chunks are still there
    stood-now : (k p : ℕ) → slice_get ps k ≡ Some p → Stood v.cells.at cs c.count c.head k p
    stood-now k p e =
        stood v.cells.at cs c.count c.head
        (subst (IsLinked v.cells.at cs) (sym read) (taken-out.linked (list - 1) c lt)) k p
        (subst (λ qs. slice_get qs k ≡ Some p)
        (Standing.list-at v.cells.at cs v.chains.items v.free rows (lists_of v)
        (spare_of v) taken-out (list - 1) c lt
        ∙ ap (chain_chunks cs) (sym read)) e)

    there-now : (k p : ℕ) → slice_get ps k ≡ Some p → HasChunkAt cs p
    there-now k p e =
        let o : Stood v.cells.at cs c.count c.head k p = stood-now k p e in
        (o.there.chunk, ap (chunk_at cs) (sym o.place) ∙ o.there.there)

    at-now : (k : ℕ) (m : Next) → slice_get ps k ≡ Some m.place → Leads v.cells.at m
        → IsAt v.cells.at cs m
    at-now k m e leads = let h : HasChunkAt cs m.place =
        there-now k m.place e in record { leads = leads; chunk = h.0; there = h.1 }

    pub newer-within : IfSome s.newer (λ p. p < length cs)
    newer-within = by s.newer (stands-in v shows is kept list there s at).newer
      where
        by : (o : Option ℕ) → slice_get ps (s.group + 1) ≡ o → IfSome o (λ p. p < length cs)
        by None e = tt
        by (Some p) e = let h : HasChunkAt cs p = there-now (s.group + 1) p e in within cs p h.0 h.1

    module _ (leads : Leads v.cells.at l) where
      pub chunk-there : IsAt v.cells.at cs l
      chunk-there =
          at-now s.group l ((stands-in v shows is kept list there s at).chunk
          ∙ ap Some (sym l_is)) leads

      pub newer-there : (newer : Option Next) → option_map next_place newer ≡ s.newer
          → IfSome newer (Leads v.cells.at)
          → IfSome newer (IsAt v.cells.at cs)
      newer-there None e h = tt
      newer-there (Some q) e h =
          at-now (s.group + 1) q ((stands-in v shows is kept list there s at).newer ∙ sym e) h

      -- the list leads past the chunk
      passes : (between : List (Option Chunk)) (newer : Option Next)
          → option_map next_place newer ≡ s.newer → (c' : Chain)
          → Passes cs between newer (next_of (chunk_at cs l.place)) c.head c'.head
          → c'.count ≡ c.count - 1
          → Stands v.cells.at between (set v.chains.items (list - 1) c') v.free rows
          (set (lists_of v) (list - 1) (remove ps s.group)) (spare_of v)
      passes between None e c' past less =
          let k : ℕ = s.group in
          let last : length ps ≡ k + 1 = elim (cases_lt (k + 1) (length ps)) [
            | inl more ↦ absurd (true≢false
                (sym (ap is_some (e ∙ sym (stands-in v shows is kept list there s at).newer
                ∙ slice_get-get_or ps (k + 1) 0 more))))
            | inr end ↦ omega (arith, end, in-list v shows is kept list there s at)
          ] in
          let o : Stood v.cells.at cs c.count c.head k s.chunk =
          stood-now k s.chunk (stands-in v shows is kept list there s at).chunk in
          let all : ps ≡ places cs c.count c.head =
          Standing.list-at v.cells.at cs v.chains.items v.free rows (lists_of v)
          (spare_of v) taken-out (list - 1) c lt ∙ ap (chain_chunks cs) (sym read) in
          let left : take k ps ≡ remove ps k =
          sym (append-nil (take k ps)) ∙ ap (λ qs. take k ps ++ qs)
          (sym (drop_all (suc k) ps (omega (arith, last)))) in
          let head : c'.head ≡ next_of (chunk_at cs s.chunk) =
          past.1 ∙ ap (λ p. next_of (chunk_at cs p)) l_is in
          let count : c'.count ≡ k = omega (arith, less, many, last) in
          let runs : Runs v.cells.at cs c'.count c'.head (remove ps k) =
          rw (head, count) (o.older.0 ∙ ap (take k) (sym all) ∙ left, o.older.1) in
          subst (λ ds. Stands v.cells.at ds (set v.chains.items (list - 1) c') v.free rows
          (set (lists_of v) (list - 1) (remove ps k)) (spare_of v)) (sym past.0)
          (Standing.relisted v.cells.at cs v.chains.items v.free rows (lists_of v)
          (spare_of v) taken-out (list - 1) c' (remove ps k) lt runs)
      passes between (Some q) e c' past less =
          let k : ℕ = s.group in
          let at_q : slice_get ps (k + 1) ≡ Some q.place =
          (stands-in v shows is kept list there s at).newer ∙ sym e in
          let in_ps : k + 1 < length ps = slice_get_within ps (k + 1) q.place at_q in
          let q_is : get_or ps (k + 1) 0 ≡ q.place =
          get_or_from_slice_get ps (k + 1) q.place 0 at_q in
          let once : IsTaken (length (rows_of v)) (lists_of v) (free_of v) q.place =
          subst (IsTaken (length (rows_of v)) (lists_of v) (free_of v)) q_is
          (taken (length (rows_of v)) (lists_of v) (free_of v) kept.settled.placed (list - 1)
          (k + 1) 0 (in-lists v shows is kept list there) in_ps) in
          let past-it : IsLed cs between q.place (next_of (chunk_at cs s.chunk)) =
          subst (λ p. IsLed cs between q.place (next_of (chunk_at cs p))) l_is past.0 in
          let same : c' ≡ record {
            head = (get_or v.chains.items (list - 1) c).head;
            count = (get_or v.chains.items (list - 1) c).count - 1;
          } =
          ap₂ (λ h n. let r : Chain = record { head = h; count = n } in r)
          (past.1 ∙ ap (λ (d : Chain). d.head) read)
          (less ∙ ap (λ (d : Chain). d.count - 1) read) in
          subst (λ d. Stands v.cells.at between (set v.chains.items (list - 1) d) v.free rows
          (set (lists_of v) (list - 1) (remove ps k)) (spare_of v)) (sym same)
          (Standing.passed v.cells.at cs v.chains.items v.free rows (lists_of v)
          (spare_of v) taken-out between (list - 1) c k s.chunk q.place lt
          (stands-in v shows is kept list there s at).chunk at_q
          (subst (λ p. 1 ≤ times p ps) q_is (times-in ps (k + 1) 0 in_ps))
          (omega (arith, once.once))
          (not-spare v shows is kept q.place once.apart) past-it)

      -- the emptied chunk becomes free
      pub freed : length fewer ≡ 0 → 1 < c.count → (w : Inside A) → IsBeside v w
          → (newer : Option Next) → option_map next_place newer ≡ s.newer → (c' : Chain)
          → IsFreed cs w.cells.slots l.place newer c.head v.free.head c'.head
          → c'.count ≡ c.count - 1
          → w.chains.items ≡ set v.chains.items (list - 1) c' → w.free.head ≡ Some l
          → w.free.count ≡ v.free.count + 1
          → IsLeft shows list groups w
      freed none several w beside newer e c' done less chains fh fn =
          let k : ℕ = s.group in
          let lists : List (List ℕ) = set (lists_of v) (list - 1) (remove ps k) in
          let all : List Chain = set v.chains.items (list - 1) c' in
          let led : IsLed done.between w.cells.slots l.place v.free.head = done.freed in
          let x : Chunk = record { next = v.free.head; group = led.was.group } in
          let s2 : Stands v.cells.at done.between all v.free rows lists (spare_of v) =
          passes done.between newer e c' done.passed less in
          let gone : times l.place (concat lists) ≡ 0 =
          subst (λ p. times p (concat lists) ≡ 0)
          (chunk-is v shows is kept list there s at ∙ sym l_is)
          (free (length (rows_of v)) lists (free_of v ++ get_or ps k 0 ∷ [])
          (placed-freed (length (rows_of v)) (lists_of v) (free_of v) (list - 1) k
          (in-lists v shows is kept list there)
          (in-list v shows is kept list there s at) kept.settled.placed)
          (get_or ps k 0) (omega (arith, times-end (get_or ps k 0) (free_of v)))).apart in
          let not_spare : times l.place (spare_of v) ≡ 0 =
          subst (λ p. times p (spare_of v) ≡ 0) (sym l_is)
          (not-spare v shows is kept s.chunk (known v shows is kept list there s at).apart) in
          let s3 : Stands v.cells.at w.cells.slots all v.free rows lists (spare_of v) =
          Standing.led v.cells.at done.between all v.free rows lists
          (spare_of v) s2 w.cells.slots l.place v.free.head led gone not_spare in
          let here : chunk_at w.cells.slots l.place ≡ Some x =
          ap (λ ds. chunk_at ds l.place) led.now
          ∙ read-here v.cells.at done.between l.place x
          (within done.between l.place led.was led.there) in
          let runs : Runs v.cells.at w.cells.slots w.free.count w.free.head
          (spare_of v ++ s.chunk ∷ []) =
          rw (fh, fn)
          (subst (λ p. Runs v.cells.at w.cells.slots (v.free.count + 1) (Some l)
          (spare_of v ++ p ∷ [])) l_is
          (longer v.cells.at w.cells.slots v.free.count v.free.head (spare_of v) l
          (s3.unused, s3.spare)
          (record { leads = leads; chunk = x; there = here }) (ap next_of here))) in
          let s4 : Stands v.cells.at w.cells.slots w.chains.items w.free rows lists
          (spare_of v ++ s.chunk ∷ []) =
          rw chains (Standing.respared v.cells.at w.cells.slots all v.free rows lists
          (spare_of v) s3 w.free (spare_of v ++ s.chunk ∷ []) runs) in
          let unmade : List ℕ = range_with_len 0 v.unmade in
          let leaves : Leaves rows lists (unmade ++ (spare_of v ++ s.chunk ∷ [])) groups =
          subst (λ us. Leaves rows lists us groups)
          (append_assoc unmade (spare_of v) (s.chunk ∷ []))
          (named (λ gs p d. Leaves gs lists (free_of v ++ p ∷ [])
          (set_groups d list (removed_in s.group index (groups_of d list))))
          (removed-freed (rows_of v) (lists_of v) list (in-lists v shows is kept list there)
          (free_of v) kept.settled k index
          (in-list v shows is kept list there s at)
          (in-row v shows is kept list there s at index in_group) (left-is ∙ none)
          (λ one. absurd (omega (arith, one, many, several))))) in
          left-now v shows is kept list there w beside s.chunk fewer (remove ps k)
          (spare_of v ++ s.chunk ∷ []) groups lists refl s4
          (bare-freed v.cells.at cs w.cells.slots v.unmade l.place newer c.head v.free.head c'.head
          bare-there done) leaves
