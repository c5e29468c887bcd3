-- A push joins the newest chunk of a list, or opens a free one.
use Rattle.std.proofs.Common.{◌≡◌, ℕ, ◌+◌, ◌-◌, ◌<◌, ◌≤◌, true, false, not, nat_lt, eqb, List, []}
use Rattle.std.proofs.Common.{◌∷◌, ◌++◌, length, set, get_or, None, Some, slice_get, refl, ap, sym}
use Rattle.std.proofs.Common.{◌∙◌, subst, arith}
use Rattle.std.specs.Prelude.{Option, IfSome}
use Rattle.std.proofs.lemmas.Bool.{lt-ltb, le-ltb, cond-true, and_left, and_right, ne_eqb}
use Rattle.std.specs.List.{range_with_len}
use Rattle.std.proofs.lemmas.List.{length-append, get_or-map, set-get_or, nil_from_length}
use Rattle.std.proofs.lemmas.List.{append_assoc}
use Rattle.wit_model.specs.declared.locks.Instance.{Instance}
use Rattle.wit_model.specs.Rules.Groups.{flat, opens}
use Rattle.wit_model.specs.Rules.Chunks.{Chunks, IsList, is_refused, pushed, set_groups, groups_of}
use Rattle.wit_model.specs.Rules.Chunks.{times}
use Rattle.wit_model.specs.Rules.Groups.{joined}
use Rattle.wit_model.specs.Rules.Rows.{row, groups_at, shown_chunks, AreSettled}
use Rattle.wit_model.proofs.Rows.Newest.{opens-at}
use Rattle.wit_model.proofs.Rows.Placing.{IsFree, free, times-append}
use Rattle.wit_model.proofs.Rows.Settled.{push-fits, push-opens, push-refused}
use Rattle.wit_model.proofs.Rows.Shown.{Leaves, groups-shown}
use Rattle.wit_model.proofs.Rows.Shown.{both-nil, flat-push}
use Rattle.circular_buffer.proofs.Places.{slice_get-last}
use Rattle.wit_pool.specs.declared.chunk.Next.{Next}
use Rattle.wit_pool.specs.declared.chunk.Chunk.{Chunk}
use Rattle.wit_pool.specs.declared.chain.Chain.{Chain}
use Rattle.wit_pool.specs.declared.pool.Pool.TheInside.{Inside}
use Rattle.wit_pool.specs.Chunks.{chunk_at, content, next_of, IsAt, IsRegrouped, IsLed, AreBare}
use Rattle.wit_pool.specs.Chains.{places, chain_chunks, IsChain, IsLinked, Stands}
use Rattle.wit_pool.specs.Kept.{rows_of, lists_of, spare_of, free_of, chunks_in, AreKept}
use Rattle.wit_pool.proofs.Links.{Runs, times-end, first, longer, within, read-here, still-there}
use Rattle.wit_pool.proofs.Links.{length-places, none-left, bare-led, bare-regrouped}
use Rattle.wit_pool.proofs.Standing as Standing
use Rattle.wit_pool.proofs.Keeping.{stands, in-lists, in-chains, list-is, linked}
use Rattle.wit_pool.proofs.Leaving.{IsBeside, IsLeft}
use Rattle.wit_pool.proofs.Keeping.{count-free}
use Rattle.wit_pool.proofs.Leaving.{left-now}

module _ {A : Type 0} (v : Inside A) (shows : Chunks) (is : chunks_in v ≡ shows) (kept : AreKept v)
    (list : ℕ) (there : IsList shows list)
    (c : Chain) (read : c ≡ get_or v.chains.items (list - 1) c) where
  abbrev cs : List (Option Chunk)
  cs = v.cells.slots

  abbrev ps : List ℕ
  ps = get_or (lists_of v) (list - 1) []

  -- the list's chunks are linked
  pub linked-here : IsLinked v.cells.at v.cells.slots c
  linked-here =
      subst (IsLinked v.cells.at v.cells.slots) (sym read) (linked v shows is kept list there c)

  chunks-here : ps ≡ chain_chunks cs c
  chunks-here = list-is v shows is kept list there c ∙ ap (chain_chunks cs) (sym read)

  row-there : (at : Next) → IsAt v.cells.at cs at
      → row (rows_of v) at.place ≡ content (chunk_at cs at.place)
  row-there at h = get_or-map content cs at.place None [] (within cs at.place h.chunk h.there)

  module _ (at : Next) (e : c.head ≡ Some at) where
    starts : (1 ≤ c.count) × IsAt v.cells.at cs at
        × (places cs c.count (Some at) ≡ places cs (c.count - 1) (next_of (chunk_at cs at.place))
        ++ at.place ∷ [])
        × IsChain v.cells.at cs (c.count - 1) (next_of (chunk_at cs at.place))
    starts = first v.cells.at cs c.count at (subst (IsChain v.cells.at cs c.count) e linked-here)

    pub newest-there : IsAt v.cells.at v.cells.slots at
    newest-there = starts.1

    newest-is : slice_get ps (length ps - 1) ≡ Some at.place
    newest-is =
        let xs : List ℕ = places cs (c.count - 1) (next_of (chunk_at cs at.place)) in
        let all : ps ≡ xs ++ at.place ∷ [] = chunks-here ∙ ap (places cs c.count) e ∙ starts.2 in
        ap (λ qs. slice_get qs (length qs - 1)) all
        ∙ slice_get-last xs at.place (length (xs ++ at.place ∷ []) - 1)
        (omega (arith, length-append xs (at.place ∷ [])))

    opens-there : opens (groups_at (rows_of v) ps)
        ≡ not (nat_lt (length (content (chunk_at cs at.place))) 5)
    opens-there =
        opens-at (rows_of v) ps at.place newest-is
        ∙ ap (λ (g : List Instance). not (nat_lt (length g) 5)) (row-there at starts.1)

    module _ (short : length (content (chunk_at cs at.place)) < 5) where
      fits-there : opens (groups_at (rows_of v) ps) ≡ false
      fits-there = opens-there ∙ ap not (lt-ltb (length (content (chunk_at cs at.place))) 5 short)

      pub room : is_refused shows list ≡ false
      room =
          subst (λ c'. is_refused c' list ≡ false) is
          (and_left (opens (groups_of (chunks_in v) list)) (eqb (length (free_of v)) 0)
          (ap opens (groups-shown (rows_of v) (lists_of v) (list - 1)
          (in-lists v shows is kept list there)) ∙ fits-there))

      -- a lock joins the newest chunk
      pub joins : (w : Inside A) → IsBeside v w → (x : Instance)
          → IsRegrouped v.cells.slots w.cells.slots at.place
          (content (chunk_at v.cells.slots at.place) ++ x ∷ [])
          → w.chains.items ≡ v.chains.items → w.free ≡ v.free
          → IsLeft shows list (pushed shows list x) w
      joins w beside x put same spare =
          let p : ℕ = at.place in
          let y : List Instance = content (chunk_at cs p) ++ x ∷ [] in
          let row-is : row (rows_of v) p ≡ content (chunk_at cs p) = row-there at starts.1 in
          let s : Stands v.cells.at w.cells.slots w.chains.items w.free (set (rows_of v) p y)
          (lists_of v) (spare_of v) =
          rw (same, spare)
          (Standing.regrouped v.cells.at cs v.chains.items v.free (rows_of v) (lists_of v)
          (spare_of v) (stands v shows is kept) w.cells.slots p y put) in
          let leaves : Leaves (set (rows_of v) p y) (lists_of v) (free_of v) (pushed shows list x) =
          subst (λ c'. Leaves (set (rows_of v) p y) (lists_of v) (free_of v) (pushed c' list x)) is
          (subst (λ g. Leaves (set (rows_of v) p (g ++ x ∷ [])) (lists_of v) (free_of v)
          (pushed (chunks_in v) list x)) row-is
          (push-fits (rows_of v) (lists_of v) list (in-lists v shows is kept list there)
          (free_of v) kept.settled p x newest-is
          (subst (λ (g : List Instance). length g < 5) (sym row-is) short) fits-there)) in
          left-now v shows is kept list there w beside p y ps (spare_of v)
          (pushed shows list x) (lists_of v)
          (sym (set-get_or (lists_of v) (list - 1) [])) s
          (bare-regrouped v.cells.at cs v.unmade kept.bare w.cells.slots p y put) leaves

  -- the newest chunk is full
  module _ (full : IfSome c.head (λ at. 5 ≤ length (content (chunk_at v.cells.slots at.place))))
    where
      opens-one : opens (groups_at (rows_of v) ps) ≡ true
      opens-one = by c.head refl full
        where
          by : (h : Option Next) → c.head ≡ h
              → IfSome h (λ at. 5 ≤ length (content (chunk_at cs at.place)))
              → opens (groups_at (rows_of v) ps) ≡ true
          by None e h =
              let none : length ps ≡ 0 =
              ap length chunks-here ∙ length-places v.cells.at cs c.count c.head linked-here
              ∙ none-left v.cells.at cs c.count c.head linked-here e in
              ap (λ qs. opens (groups_at (rows_of v) qs)) (nil_from_length ps none)
          by (Some at) e h =
              opens-there at e ∙ ap not (le-ltb (length (content (chunk_at cs at.place))) 5 h)

      -- no chunk is free
      module _ (e : v.free.head ≡ None) (made : v.unmade ≡ 0) where
        pub refused : is_refused shows list ≡ true
        refused =
            let none : length (free_of v) ≡ 0 =
            omega (
              arith,
              made,
              count-free v shows is kept,
              none-left v.cells.at cs v.free.count v.free.head kept.spare e,
            ) in
            subst (λ c'. is_refused c' list ≡ true) is
            (push-refused (rows_of v) (lists_of v) list (in-lists v shows is kept list there)
            (free_of v) opens-one none)

        pub refused-groups : (x : Instance) → shows.groups ≡ pushed shows list x
        refused-groups x =
            sym (cond-true (is_refused shows list) shows.groups
            (set_groups shows list (joined x (groups_of shows list))) refused)

      -- the first free chunk becomes the list's newest
      module _ (at : Next) (e : v.free.head ≡ Some at) where
        abbrev next : Option Next
        next = next_of (chunk_at v.cells.slots at.place)

        -- the other ones that are linked and free
        abbrev spare : List ℕ
        spare = places v.cells.slots (v.free.count - 1) next

        abbrev rest : List ℕ
        rest = range_with_len 0 v.unmade ++ spare

        frees : (1 ≤ v.free.count) × IsAt v.cells.at cs at
            × (places cs v.free.count (Some at) ≡ spare ++ at.place ∷ [])
            × IsChain v.cells.at cs (v.free.count - 1) next
        frees =
            first v.cells.at cs v.free.count at
            (subst (IsChain v.cells.at cs v.free.count) e kept.spare)

        pub some-free : 1 ≤ v.free.count
        some-free = frees.0

        pub free-there : IsAt v.cells.at v.cells.slots at
        free-there = frees.1

        free-is : free_of v ≡ rest ++ at.place ∷ []
        free-is =
            ap (λ qs. range_with_len 0 v.unmade ++ qs) (ap (places cs v.free.count) e ∙ frees.2)
            ∙ sym (append_assoc (range_with_len 0 v.unmade) spare (at.place ∷ []))

        settled-there : AreSettled (rows_of v) (lists_of v) (rest ++ at.place ∷ [])
        settled-there = subst (AreSettled (rows_of v) (lists_of v)) free-is kept.settled

        known : IsFree (length (rows_of v)) (lists_of v) (rest ++ at.place ∷ []) at.place
        known =
            free (length (rows_of v)) (lists_of v) (rest ++ at.place ∷ [])
            settled-there.placed at.place
            (omega (arith, times-end at.place rest))

        none-left-of-it : times at.place spare ≡ 0
        none-left-of-it =
            omega (
              arith,
              known.once,
              times-end at.place rest,
              times-append at.place (range_with_len 0 v.unmade) spare,
            )

        empty-row : row (rows_of v) at.place ≡ []
        empty-row =
            (both-nil (flat (groups_at (rows_of v) rest)) (row (rows_of v) at.place)
            (sym (flat-push (rows_of v) rest at.place) ∙ settled-there.empty)).1

        pub not-refused : is_refused shows list ≡ false
        not-refused =
            subst (λ c'. is_refused c' list ≡ false) is
            (and_right (opens (groups_of (chunks_in v) list)) (eqb (length (free_of v)) 0)
            (ne_eqb (length (free_of v)) 0
            (λ z. absurd (omega (arith, z, count-free v shows is kept, some-free)))))

        module _ (cs1 : List (Option Chunk)) (led : IsLed v.cells.slots cs1 at.place c.head) where
          abbrev led-chunk : Chunk
          led-chunk = record { next = c.head; group = led.was.group }

          pub led-at : IsAt v.cells.at cs1 at
          led-at =
              subst (λ ds. IsAt v.cells.at ds at) (sym led.now)
              (still-there v.cells.at cs at.place led-chunk
              (within cs at.place led.was led.there) at free-there)

          leads-on : next_of (chunk_at cs1 at.place) ≡ c.head
          leads-on =
              ap (λ ds. next_of (chunk_at ds at.place)) led.now
              ∙ ap next_of (read-here v.cells.at cs at.place led-chunk
              (within cs at.place led.was led.there))

          stands-led : (free' : Chain) → free'.head ≡ next → free'.count ≡ v.free.count - 1
              → Stands v.cells.at cs1 v.chains.items free' (rows_of v) (lists_of v) spare
          stands-led free' h n =
              Standing.led v.cells.at cs v.chains.items free' (rows_of v) (lists_of v) spare
              (Standing.respared v.cells.at cs v.chains.items v.free (rows_of v) (lists_of v)
              (spare_of v) (stands v shows is kept) free' spare
              (rw (h, n) (refl, frees.3)))
              cs1 at.place c.head led known.apart none-left-of-it

          pub led-empty : content (chunk_at cs1 at.place) ≡ []
          led-empty =
              let s = stands-led (record { head = next; count = v.free.count - 1 }) refl refl in
              sym (get_or-map content cs1 at.place None []
              (within cs1 at.place led-at.chunk led-at.there))
              ∙ ap (λ gs. row gs at.place) s.rows ∙ empty-row

          pub led-short : length (content (chunk_at cs1 at.place)) < 5
          led-short = omega (arith, ap length led-empty)

          -- and a lock joins it
          pub opened : (w : Inside A) → IsBeside v w → (x : Instance)
              → IsRegrouped cs1 w.cells.slots at.place (content (chunk_at cs1 at.place) ++ x ∷ [])
              → (c' : Chain) → c'.head ≡ Some at → c'.count ≡ c.count + 1
              → w.chains.items ≡ set v.chains.items (list - 1) c'
              → w.free.head ≡ next → w.free.count ≡ v.free.count - 1
              → IsLeft shows list (pushed shows list x) w
          opened w beside x put c' ch cn chains fh fn =
              let p : ℕ = at.place in
              let rows : List (List Instance) = rows_of v in
              let lt : list - 1 < length v.chains.items = in-chains v shows is kept list there in
              let y : List Instance = content (chunk_at cs1 p) ++ x ∷ [] in
              let s1 : Stands v.cells.at cs1 v.chains.items w.free rows (lists_of v) spare =
              stands-led w.free fh fn in
              let old : Runs v.cells.at cs1 c.count c.head ps = (
                ap (chain_chunks cs1) read ∙ sym
                    (Standing.list-at v.cells.at cs1 v.chains.items w.free rows (lists_of v) spare
                    s1 (list - 1) c lt),
                subst (IsLinked v.cells.at cs1) (sym read) (s1.linked (list - 1) c lt),
              ) in
              let more : Runs v.cells.at cs1 c'.count c'.head (ps ++ p ∷ []) =
              rw (ch, cn) (longer v.cells.at cs1 c.count c.head ps at old led-at leads-on) in
              let s2 : Stands v.cells.at cs1 (set v.chains.items (list - 1) c') w.free rows
              (set (lists_of v) (list - 1) (ps ++ p ∷ [])) spare =
              Standing.relisted v.cells.at cs1 v.chains.items w.free rows (lists_of v) spare s1
              (list - 1) c' (ps ++ p ∷ []) lt more in
              let s3 : Stands v.cells.at w.cells.slots w.chains.items w.free (set rows p y)
              (set (lists_of v) (list - 1) (ps ++ p ∷ [])) spare =
              rw chains
              (Standing.regrouped v.cells.at cs1 (set v.chains.items (list - 1) c') w.free rows
              (set (lists_of v) (list - 1) (ps ++ p ∷ [])) spare s2 w.cells.slots p y put) in
              let bare : AreBare w.cells.slots v.unmade =
              bare-regrouped v.cells.at cs1 v.unmade
              (bare-led v.cells.at cs v.unmade kept.bare cs1 p c.head led) w.cells.slots p y put in
              let leaves : Leaves (set rows p y) (set (lists_of v) (list - 1) (ps ++ p ∷ [])) rest
              (pushed shows list x) =
              subst (λ d. Leaves (set rows p y) (set (lists_of v) (list - 1) (ps ++ p ∷ [])) rest
              (pushed d list x)) is
              (subst (λ us. Leaves (set rows p y) (set (lists_of v) (list - 1) (ps ++ p ∷ [])) rest
              (pushed (shown_chunks rows (lists_of v) us) list x)) (sym free-is)
              (subst (λ g. Leaves (set rows p (g ++ x ∷ []))
              (set (lists_of v) (list - 1) (ps ++ p ∷ [])) rest
              (pushed (shown_chunks rows (lists_of v) (rest ++ p ∷ [])) list x))
              (empty-row ∙ sym led-empty)
              (push-opens rows (lists_of v) list (in-lists v shows is kept list there) rest p
              settled-there x opens-one))) in
              left-now v shows is kept list there w beside p y (ps ++ p ∷ []) spare
              (pushed shows list x) (set (lists_of v) (list - 1) (ps ++ p ∷ [])) refl s3 bare leaves
