-- What a block's chunks and links stand for, once a chunk holds other locks, or a list or the free
-- chunks have one more or less.
use Rattle.std.proofs.Common.{◌≡◌, ℕ, zero, suc, ◌+◌, ◌-◌, ◌<◌, ◌≤◌, List, [], ◌∷◌, length, map}
use Rattle.std.proofs.Common.{set, get_or, None, Some, slice_get, refl, ap, ap₂, sym, ◌∙◌, subst}
use Rattle.std.proofs.Common.{inl, inr, arith}
use Rattle.std.specs.Prelude.{Option}
use Rattle.std.specs.List.{remove, concat, All}
use Rattle.std.proofs.lemmas.Bool.{cases_eq}
use Rattle.std.proofs.lemmas.List.{length-set, length-map, get_or-map, map-set, set-get_or}
use Rattle.std.proofs.lemmas.List.{get_or-set_same, get_or-set_other}
use denote.RawPtr.{Ptr}
use Rattle.wit_model.specs.declared.locks.Instance.{Instance}
use Rattle.wit_model.specs.Rules.Chunks.{times}
use Rattle.wit_model.proofs.Rows.Placing.{times-append, times-list}
use Rattle.wit_pool.specs.declared.chunk.Next.{Next}
use Rattle.wit_pool.specs.declared.chunk.Chunk.{Chunk}
use Rattle.wit_pool.specs.declared.chain.Chain.{Chain}
use Rattle.wit_pool.specs.Chunks.{held_in, chunk_at, content, next_of, rows_in, IsAt, IsRegrouped}
use Rattle.wit_pool.specs.Chunks.{IsLed}
use Rattle.wit_pool.specs.Chains.{chain_chunks, IsLinked, Stands}
use Rattle.wit_pool.proofs.Links.{Runs, same-chain, unlinked, within, read-here, read-other}
use Rattle.wit_pool.proofs.Links.{still-there}

chain : Option Next → ℕ → Chain
chain h n = record { head = h; count = n }

maps-same : (f g : Chain → List ℕ) (chains : List Chain)
    → ((j : ℕ) (d : Chain) → j < length chains → g (get_or chains j d) ≡ f (get_or chains j d))
    → map g chains ≡ map f chains
maps-same f g [] h = refl
maps-same f g (c ∷ cs) h =
    ap₂ (λ x xs. x ∷ xs) (h 0 c (omega arith))
    (maps-same f g cs (λ j d lt. h (suc j) d (omega (arith, lt))))

maps-one : (f g : Chain → List ℕ) (chains : List Chain) (k : ℕ) (c : Chain)
    → ((j : ℕ) (d : Chain) → j < length chains → (j ≡ k → ⊥)
    → g (get_or chains j d) ≡ f (get_or chains j d))
    → map g (set chains k c) ≡ set (map f chains) k (g c)
maps-one f g [] k c h = refl
maps-one f g (x ∷ xs) zero c h =
    ap (λ ys. g c ∷ ys) (maps-same f g xs
    (λ j d lt. h (suc j) d (omega (arith, lt)) (λ e. absurd (omega (arith, e)))))
maps-one f g (x ∷ xs) (suc k) c h =
    ap₂ (λ y ys. y ∷ ys) (h 0 x (omega arith) (λ e. absurd (omega (arith, e))))
    (maps-one f g xs k c (λ j d lt other. h (suc j) d (omega (arith, lt))
    (λ e. other (omega (arith, e)))))

all-one : (P : Chain → Type 0) (chains : List Chain) (k : ℕ) (c : Chain) → P c
    → ((j : ℕ) (d : Chain) → j < length chains → (j ≡ k → ⊥) → P (get_or chains j d))
    → All P (set chains k c)
all-one P chains k c here others j d lt =
    let in_old : j < length chains = omega (arith, lt, length-set chains k c) in
    elim (cases_eq j k) [
      | inl e ↦ subst (λ i. P (get_or (set chains k c) i d)) (sym e)
          (subst P (sym (get_or-set_same chains k c d (omega (arith, e, in_old)))) here)
      | inr other ↦ subst P (sym (get_or-set_other chains k j c d other)) (others j d in_old other)
    ]

-- a place that stands in one list stands in no other
pub elsewhere : (q : ℕ) (ls : List (List ℕ)) (l j : ℕ) → l < length ls → j < length ls → (j ≡ l → ⊥)
    → times q (concat ls) ≤ 1 → 1 ≤ times q (get_or ls l []) → times q (get_or ls j []) ≡ 0
elsewhere q [] l j in_l in_j other once some = absurd (omega (arith, in_l))
elsewhere q (x ∷ ls) zero zero in_l in_j other once some = absurd (other refl)
elsewhere q (x ∷ ls) zero (suc j) in_l in_j other once some =
    omega (arith, once, some, times-append q x (concat ls), times-list q ls j (omega (arith, in_j)))
elsewhere q (x ∷ ls) (suc l) zero in_l in_j other once some =
    omega (arith, once, some, times-append q x (concat ls), times-list q ls l (omega (arith, in_l)))
elsewhere q (x ∷ ls) (suc l) (suc j) in_l in_j other once some =
    elsewhere q ls l j (omega (arith, in_l)) (omega (arith, in_j)) (λ e. other (ap suc e))
    (omega (arith, once, times-append q x (concat ls))) some

module _ (at : Ptr) (cs : List (Option Chunk)) (chains : List Chain) (free : Chain)
    (rows : List (List Instance)) (lists : List (List ℕ)) (unused : List ℕ)
    (s : Stands at cs chains free rows lists unused) where
  -- how many lists there are
  pub length-lists : length lists ≡ length chains
  length-lists = sym (ap length s.lists) ∙ length-map chains (chain_chunks cs)

  -- one list's chunks
  pub list-at : (k : ℕ) (d : Chain) → k < length chains
      → get_or lists k [] ≡ chain_chunks cs (get_or chains k d)
  list-at k d lt =
      ap (λ ls. get_or ls k []) (sym s.lists) ∙ get_or-map (chain_chunks cs) chains k d [] lt

  -- what one chunk holds
  pub row-at : (p : ℕ) (c : Chunk) → chunk_at cs p ≡ Some c → get_or rows p [] ≡ held_in c.group
  row-at p c there =
      ap (λ gs. get_or gs p []) (sym s.rows) ∙ get_or-map content cs p None [] (within cs p c there)
      ∙ ap content there

  -- chunks that lead where they led
  pub same-all : (cs' : List (Option Chunk)) → ((l : Next) → IsAt at cs l → IsAt at cs' l)
      → ((q : ℕ) → 1 ≤ times q (concat lists) + times q unused
      → next_of (chunk_at cs' q) ≡ next_of (chunk_at cs q))
      → (rows' : List (List Instance)) → rows_in cs' ≡ rows'
      → Stands at cs' chains free rows' lists unused
  same-all cs' keeps same rows' e =
      let runs : (j : ℕ) (d : Chain) → j < length chains
      → Runs at cs' (get_or chains j d).count (get_or chains j d).head
      (chain_chunks cs (get_or chains j d)) =
      λ j d lt. same-chain at cs cs' keeps (get_or chains j d).count (get_or chains j d).head
      (s.linked j d lt)
      (λ q some. same q (omega (
        arith,
        times-list q lists j (omega (arith, lt, length-lists)),
        subst (λ ps. 1 ≤ times q ps) (sym (list-at j d lt)) some,
      ))) in
      let spare : Runs at cs' free.count free.head (chain_chunks cs free) =
      same-chain at cs cs' keeps free.count free.head s.spare
      (λ q some. same q (omega (arith, subst (λ ps. 1 ≤ times q ps) s.unused some))) in
      record {
        rows = e;
        lists =
            maps-same (chain_chunks cs) (chain_chunks cs') chains
            (λ j d lt. (runs j d lt).0) ∙ s.lists;
        unused = spare.0 ∙ s.unused;
        linked = λ j d lt. (runs j d lt).1;
        spare = spare.1;
      }

  -- a chunk holds other locks
  pub regrouped : (cs' : List (Option Chunk)) (p : ℕ) (held : List Instance)
      → IsRegrouped cs cs' p held
      → Stands at cs' chains free (set rows p held) lists unused
  regrouped cs' p held put =
      let x : Chunk = record { next = put.was.next; group = put.group } in
      let same : (q : ℕ) → next_of (chunk_at (set cs p (Some x)) q) ≡ next_of (chunk_at cs q) =
      λ q. elim (cases_eq q p) [
        | inl e ↦ ap (λ r. next_of (chunk_at (set cs p (Some x)) r)) e
            ∙ ap next_of (read-here at cs p x (within cs p put.was put.there))
            ∙ sym (ap (λ r. next_of (chunk_at cs r)) e ∙ ap next_of put.there)
        | inr other ↦ ap next_of (read-other at cs p x (within cs p put.was put.there) q other)
      ] in
      subst (λ ds. Stands at ds chains free (set rows p held) lists unused) (sym put.now)
      (same-all (set cs p (Some x)) (still-there at cs p x (within cs p put.was put.there))
      (λ q some. same q) (set rows p held)
      (map-set content cs p (Some x) ∙ ap₂ (λ gs g. set gs p g) s.rows put.holds))

  -- what holds does not change where a chunk leads elsewhere
  rows-led : (p : ℕ) (was : Chunk) (next : Option Next) → chunk_at cs p ≡ Some was
      → rows_in (set cs p (Some (record { next = next; group = was.group }))) ≡ rows
  rows-led p was next there =
      map-set content cs p (Some (record { next = next; group = was.group }))
      ∙ ap (λ gs. set gs p (held_in was.group)) s.rows
      ∙ ap (set rows p) (sym (row-at p was there))
      ∙ set-get_or rows p []

  -- a chunk of no list, which isn't free, leads elsewhere
  pub led : (cs' : List (Option Chunk)) (p : ℕ) (next : Option Next) → IsLed cs cs' p next
      → times p (concat lists) ≡ 0 → times p unused ≡ 0
      → Stands at cs' chains free rows lists unused
  led cs' p next put no_list not_free =
      let x : Chunk = record { next = next; group = put.was.group } in
      subst (λ ds. Stands at ds chains free rows lists unused) (sym put.now)
      (same-all (set cs p (Some x)) (still-there at cs p x (within cs p put.was put.there))
      (λ q some. ap next_of (read-other at cs p x (within cs p put.was put.there) q
      (λ e. absurd (omega (
        arith,
        no_list,
        not_free,
        subst (λ r. 1 ≤ times r (concat lists) + times r unused) e some,
      )))))
      rows (rows-led p put.was next put.there))

  -- one list has other chunks
  pub relisted : (k : ℕ) (c : Chain) (ps : List ℕ) → k < length chains
      → Runs at cs c.count c.head ps
      → Stands at cs (set chains k c) free rows (set lists k ps) unused
  relisted k c ps lt runs = record {
    rows = s.rows;
    lists =
        maps-one (chain_chunks cs) (chain_chunks cs) chains k c (λ j d in_all other. refl)
        ∙ ap₂ (λ ls qs. set ls k qs) s.lists runs.0;
    unused = s.unused;
    linked = all-one (IsLinked at cs) chains k c runs.1 (λ j d in_all other. s.linked j d in_all);
    spare = s.spare;
  }

  -- other chunks are free
  pub respared : (c : Chain) (ps : List ℕ) → Runs at cs c.count c.head ps
      → Stands at cs chains c rows lists ps
  respared c ps runs = record {
    rows = s.rows;
    lists = s.lists;
    unused = runs.0;
    linked = s.linked;
    spare = runs.1;
  }

  -- a chunk of a list leads past the next older one
  pub passed : (cs' : List (Option Chunk)) (k : ℕ) (d : Chain) (i p q : ℕ) → k < length chains
      → slice_get (get_or lists k []) i ≡ Some p → slice_get (get_or lists k []) (i + 1) ≡ Some q
      → 1 ≤ times q (get_or lists k []) → times q (concat lists) ≤ 1 → times q unused ≡ 0
      → IsLed cs cs' q (next_of (chunk_at cs p))
      → Stands at cs' (set chains k
      (record { head = (get_or chains k d).head; count = (get_or chains k d).count - 1 })) free
      rows (set lists k (remove (get_or lists k []) i)) unused
  passed cs' k d i p q lt at_p at_q some once not_free put =
      let c : Chain = get_or chains k d in
      let ps : List ℕ = get_or lists k [] in
      let x : Chunk = record { next = next_of (chunk_at cs p); group = put.was.group } in
      let ds : List (Option Chunk) = set cs q (Some x) in
      let keeps : (l : Next) → IsAt at cs l → IsAt at ds l =
      still-there at cs q x (within cs q put.was put.there) in
      let same : (r : ℕ) → (r ≡ q → ⊥) → next_of (chunk_at ds r) ≡ next_of (chunk_at cs r) =
      λ r other. ap next_of (read-other at cs q x (within cs q put.was put.there) r other) in
      let e : ps ≡ chain_chunks cs c = list-at k d lt in
      let in_lists : k < length lists = omega (arith, lt, length-lists) in
      let most : times q ps ≤ 1 = omega (arith, once, times-list q lists k in_lists) in
      let run : Runs at ds (c.count - 1) c.head (remove ps i) =
      subst (λ qs. Runs at ds (c.count - 1) c.head (remove qs i)) (sym e)
      (unlinked at cs ds keeps p q
      (ap next_of (read-here at cs q x (within cs q put.was put.there))) same c.count c.head
      (s.linked k d lt) i
      (subst (λ qs. slice_get qs i ≡ Some p) e at_p)
      (subst (λ qs. slice_get qs (i + 1) ≡ Some q) e at_q)
      (subst (λ qs. times q qs ≤ 1) e most)) in
      let others : (j : ℕ) (d' : Chain) → j < length chains → (j ≡ k → ⊥)
      → Runs at ds (get_or chains j d').count (get_or chains j d').head
      (chain_chunks cs (get_or chains j d')) =
      λ j d' in_all other. same-chain at cs ds keeps (get_or chains j d').count
      (get_or chains j d').head (s.linked j d' in_all)
      (λ r there. same r (λ is_q. absurd (omega (
        arith,
        elsewhere q lists k j in_lists (omega (arith, in_all, length-lists)) other once some,
        subst (λ v. 1 ≤ times v (get_or lists j [])) is_q
            (subst (λ qs. 1 ≤ times r qs) (sym (list-at j d' in_all)) there),
      )))) in
      let spare : Runs at ds free.count free.head (chain_chunks cs free) =
      same-chain at cs ds keeps free.count free.head s.spare
      (λ r there. same r (λ is_q. absurd (omega (
        arith,
        not_free,
        subst (λ v. 1 ≤ times v unused) is_q (subst (λ qs. 1 ≤ times r qs) s.unused there),
      )))) in
      let c' : Chain = record { head = c.head; count = c.count - 1 } in
      subst (λ es. Stands at es (set chains k c') free rows (set lists k (remove ps i)) unused)
      (sym put.now)
      (record {
        rows = rows-led q put.was (next_of (chunk_at cs p)) put.there;
        lists =
            maps-one (chain_chunks cs) (chain_chunks ds) chains k c'
            (λ j d' in_all other. (others j d' in_all other).0)
            ∙ ap₂ (λ ls qs. set ls k qs) s.lists run.0;
        unused = spare.0 ∙ s.unused;
        linked =
            all-one (IsLinked at ds) chains k c' run.1
            (λ j d' in_all other. (others j d' in_all other).1);
        spare = spare.1;
      })
