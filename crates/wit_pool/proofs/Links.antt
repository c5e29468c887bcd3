-- Chains of chunks: their lengths and parts, and what a chunk that leads elsewhere makes of them.
use Rattle.std.proofs.Common.{◌≡◌, ℕ, zero, suc, ◌+◌, ◌-◌, ◌<◌, ◌≤◌, eqb, List, [], ◌∷◌, ◌++◌}
use Rattle.std.proofs.Common.{length, take, drop, set, None, Some, is_some, slice_get, refl, ap}
use Rattle.std.proofs.Common.{sym, ◌∙◌, subst, inl, inr, arith}
use Rattle.std.specs.Prelude.{Option}
use Rattle.std.specs.List.{remove}
use Rattle.std.specs.Option.{unwrap_or}
use Rattle.std.proofs.lemmas.Bool.{true≢false, cond-true, eq-eqb, cases_lt, cases_eq}
use Rattle.std.proofs.lemmas.List.{length-append, take-append-drop, take-append-le, drop_all}
use Rattle.std.proofs.lemmas.List.{get_or-set_same, get_or-set_other, append-nil}
use Rattle.std.proofs.lemmas.List.Edits.{remove-append_left}
use Rattle.std.proofs.lemmas.Option.{slice_get_within, get_or_from_slice_get}
use Rattle.std.proofs.Math.Seq.{take-append_seam}
use denote.RawPtr.{Ptr}
use Rattle.circular_buffer.proofs.Memory.{filled_within}
use Rattle.circular_buffer.proofs.Places.{slice_get-append_left, slice_get-last}
use Rattle.wit_model.specs.declared.locks.Instance.{Instance}
use Rattle.wit_model.specs.Rules.Chunks.{times}
use Rattle.wit_model.proofs.Rows.Placing.{times-append, times-in}
use Rattle.wit_pool.specs.declared.chunk.Next.{Next}
use Rattle.wit_pool.specs.declared.chunk.Chunk.{Chunk}
use Rattle.wit_pool.specs.Chunks.{chunk_at, next_of, IsAt, IsRegrouped, IsLed, HasChunkAt, AreBare}
use Rattle.wit_pool.specs.Chains.{places, IsChain, Passes, IsFreed}

-- so many chunks are linked from there on, and these are their places
abbrev pub Runs : Ptr → List (Option Chunk) → ℕ → Option Next → List ℕ → Type 0
Runs at cs n h ps = (places cs n h ≡ ps) × IsChain at cs n h

-- a place stands in a list that ends with it
pub times-end : (p : ℕ) (ps : List ℕ) → times p (ps ++ p ∷ []) ≡ times p ps + 1
times-end p ps =
    omega (arith, times-append p ps (p ∷ []), cond-true {A = ℕ} (eqb p p) 1 0 (eq-eqb p p refl))

module _ (at : Ptr) (cs : List (Option Chunk)) where
  pub length-places : (n : ℕ) (h : Option Next) → IsChain at cs n h → length (places cs n h) ≡ n
  length-places zero h is = refl
  length-places (suc n) None is = absurd is
  length-places (suc n) (Some l) is =
      let next : Option Next = next_of (chunk_at cs l.place) in
      omega (arith, length-append (places cs n next) (l.place ∷ []), length-places n next is.1)

  -- the chunk that a chain of some length begins with
  pub first : (n : ℕ) (l : Next) → IsChain at cs n (Some l)
      → (1 ≤ n) × IsAt at cs l × (places cs n (Some l)
      ≡ places cs (n - 1) (next_of (chunk_at cs l.place)) ++ l.place ∷ [])
      × IsChain at cs (n - 1) (next_of (chunk_at cs l.place))
  first zero l is = absurd (true≢false (ap is_some is))
  first (suc n) l is =
      let next : Option Next = next_of (chunk_at cs l.place) in
      let less : suc n - 1 ≡ n = omega arith in (
        omega arith,
        is.0,
        ap (λ k. places cs k next ++ l.place ∷ []) (sym less),
        subst (λ k. IsChain at cs k next) (sym less) is.1,
      )

  -- a chunk that leads to where a chain begins makes the chain longer
  pub longer : (n : ℕ) (h : Option Next) (ps : List ℕ) (l : Next) → Runs at cs n h ps → IsAt at cs l
      → next_of (chunk_at cs l.place) ≡ h → Runs at cs (n + 1) (Some l) (ps ++ l.place ∷ [])
  longer n h ps l runs is e =
      let more : n + 1 ≡ suc n = omega arith in
      subst (λ k. Runs at cs k (Some l) (ps ++ l.place ∷ [])) (sym more) (
        ap (λ g. places cs n g ++ l.place ∷ []) e ∙ ap (λ qs. qs ++ l.place ∷ []) runs.0,
        (is, subst (IsChain at cs n) (sym e) runs.1),
      )

  -- the k-th chunk of a chain, counted from the last, has the place p
  pub record Stood (n : ℕ) (h : Option Next) (k p : ℕ) : Type 0 where
    pub link : Next
    pub place : link.place ≡ p
    pub there : IsAt at cs link
    pub older : Runs at cs k (next_of (chunk_at cs p)) (take k (places cs n h))

  pub stood : (n : ℕ) (h : Option Next) → IsChain at cs n h → (k p : ℕ)
      → slice_get (places cs n h) k ≡ Some p → Stood n h k p
  stood zero h is k p e = absurd (true≢false (sym (ap is_some e)))
  stood (suc n) None is k p e = absurd is
  stood (suc n) (Some l) is k p e =
      let next : Option Next = next_of (chunk_at cs l.place) in
      let ps : List ℕ = places cs n next in
      let long : length ps ≡ n = length-places n next is.1 in
      elim (cases_lt k n) [
        | inl lt ↦ (let r : Stood n next k p =
            stood n next is.1 k p (sym (slice_get-append_left ps (l.place ∷ []) k
            (omega (arith, long, lt))) ∙ e) in
            record {
              link = r.link;
              place = r.place;
              there = r.there;
              older = (
                r.older.0 ∙ sym (take-append-le k ps (l.place ∷ []) (omega (arith, long, lt))),
                r.older.1,
              );
            })
        | inr past ↦ (let all : k ≡ n =
            omega (
              arith,
              past,
              long,
              slice_get_within (ps ++ l.place ∷ []) k p e,
              length-append ps (l.place ∷ []),
            ) in
            let is_l : l.place ≡ p =
            ap (λ o. unwrap_or o 0) (sym (slice_get-last ps l.place k (omega (arith, all, long)))
            ∙ e) in
            let taken : take k (ps ++ l.place ∷ []) ≡ ps =
            ap (λ m. take m (ps ++ l.place ∷ [])) (all ∙ sym long)
            ∙ take-append_seam ps (l.place ∷ []) in
            let here : Runs at cs k next (take k (ps ++ l.place ∷ [])) = (
              ap (λ m. places cs m next) all ∙ sym taken,
              subst (λ m. IsChain at cs m next)
                  (sym all) is.1,
            ) in
            record {
              link = l;
              place = is_l;
              there = is.0;
              older =
                  subst (λ q. Runs at cs k (next_of (chunk_at cs q)) (take k (ps ++ l.place ∷ [])))
                  is_l here;
            })
      ]

module _ (at : Ptr) (cs cs' : List (Option Chunk)) (keeps : (l : Next) → IsAt at cs l
    → IsAt at cs' l) where
  -- a chain whose chunks lead where they led
  pub same-chain : (n : ℕ) (h : Option Next) → IsChain at cs n h
      → ((q : ℕ) → 1 ≤ times q (places cs n h) → next_of (chunk_at cs' q) ≡ next_of (chunk_at cs q))
      → Runs at cs' n h (places cs n h)
  same-chain zero h is same = (refl, is)
  same-chain (suc n) None is same = absurd is
  same-chain (suc n) (Some l) is same =
      let next : Option Next = next_of (chunk_at cs l.place) in
      let ps : List ℕ = places cs n next in
      let here : next_of (chunk_at cs' l.place) ≡ next =
      same l.place (omega (arith, times-end l.place ps)) in
      let rest : Runs at cs' n next ps =
      same-chain n next is.1 (λ q some.
      same q (omega (arith, some, times-append q ps (l.place ∷ [])))) in (
        ap (λ g. places cs' n g ++ l.place ∷ []) here ∙ ap (λ qs. qs ++ l.place ∷ []) rest.0,
        (keeps l is.0, subst (IsChain at cs' n) (sym here) rest.1),
      )

  -- the chunk q, newer by one than the chunk p, leads past it
  module _ (p q : ℕ) (past : next_of (chunk_at cs' q) ≡ next_of (chunk_at cs p))
      (same : (r : ℕ) → (r ≡ q → ⊥) → next_of (chunk_at cs' r) ≡ next_of (chunk_at cs r)) where
    apart : (n : ℕ) (h : Option Next) → IsChain at cs n h → times q (places cs n h) ≡ 0
        → Runs at cs' n h (places cs n h)
    apart n h is none =
        same-chain n h is (λ r some. same r
        (λ e. absurd (omega (arith, none, subst (λ s. 1 ≤ times s (places cs n h)) e some))))

    pub unlinked : (n : ℕ) (h : Option Next) → IsChain at cs n h → (k : ℕ)
        → slice_get (places cs n h) k ≡ Some p
        → slice_get (places cs n h) (k + 1) ≡ Some q → times q (places cs n h) ≤ 1
        → Runs at cs' (n - 1) h (remove (places cs n h) k)
    unlinked zero h is k e f once = absurd (true≢false (sym (ap is_some e)))
    unlinked (suc n) None is k e f once = absurd is
    unlinked (suc n) (Some l) is k e f once =
        let next : Option Next = next_of (chunk_at cs l.place) in
        let ps : List ℕ = places cs n next in
        let long : length ps ≡ n = length-places at cs n next is.1 in
        let within : k + 1 < length (ps ++ l.place ∷ []) =
        slice_get_within (ps ++ l.place ∷ []) (k + 1) q f in
        let both : length (ps ++ l.place ∷ []) ≡ length ps + 1 = length-append ps (l.place ∷ []) in
        let lt : k < length ps = omega (arith, within, both) in
        let here : slice_get ps k ≡ Some p =
        sym (slice_get-append_left ps (l.place ∷ []) k lt) ∙ e in
        let gone : remove (ps ++ l.place ∷ []) k ≡ remove ps k ++ l.place ∷ [] =
        remove-append_left ps (l.place ∷ []) k lt in
        let less : suc n - 1 ≡ n = omega arith in
        subst (λ m. Runs at cs' m (Some l) (remove (ps ++ l.place ∷ []) k)) (sym less)
        (subst (Runs at cs' n (Some l)) (sym gone) (elim (cases_lt (k + 1) n) [
          | inl inside ↦ (let there : slice_get ps (k + 1) ≡ Some q =
              sym (slice_get-append_left ps (l.place ∷ []) (k + 1) (omega (arith, long, inside)))
              ∙ f in
              let some : 1 ≤ times q ps =
              subst (λ s. 1 ≤ times s ps) (get_or_from_slice_get ps (k + 1) q 0 there)
              (times-in ps (k + 1) 0 (omega (arith, long, inside))) in
              let other : l.place ≡ q → ⊥ =
              λ is_q. absurd (omega (
                arith,
                once,
                some,
                subst (λ s. times s (ps ++ s ∷ []) ≡ times s ps + 1) is_q (times-end l.place ps),
                ap (λ s. times q (ps ++ s ∷ [])) is_q,
              )) in
              let rest : Runs at cs' (n - 1) next (remove ps k) =
              unlinked n next is.1 k here there
              (omega (arith, once, times-append q ps (l.place ∷ []))) in
              let leads : next_of (chunk_at cs' l.place) ≡ next = same l.place other in
              let more : n - 1 + 1 ≡ n = omega (arith, inside) in
              subst (λ m. Runs at cs' m (Some l) (remove ps k ++ l.place ∷ [])) more
              (longer at cs' (n - 1) next (remove ps k) l rest (keeps l is.0) leads))
          | inr end ↦ (let all : n ≡ k + 1 = omega (arith, end, within, both, long) in
              let is_q : l.place ≡ q =
              ap (λ o. unwrap_or o 0) (sym
              (slice_get-last ps l.place (k + 1) (omega (arith, all, long))) ∙ f) in
              let none : times q ps ≡ 0 =
              omega (
                arith,
                once,
                subst (λ s. times s (ps ++ s ∷ []) ≡ times s ps + 1) is_q (times-end l.place ps),
                ap (λ s. times q (ps ++ s ∷ [])) is_q,
              ) in
              let old : Stood at cs n next k p = stood at cs n next is.1 k p here in
              let none_older : times q (places cs k (next_of (chunk_at cs p))) ≡ 0 =
              ap (times q) old.older.0
              ∙ omega (
                arith,
                none,
                ap (times q) (take-append-drop k ps),
                times-append q (take k ps) (drop k ps),
              ) in
              let run : Runs at cs' k (next_of (chunk_at cs p))
              (places cs k (next_of (chunk_at cs p))) =
              apart k (next_of (chunk_at cs p)) old.older.1 none_older in
              let left : take k ps ≡ remove ps k =
              sym (append-nil (take k ps)) ∙ ap (λ qs. take k ps ++ qs)
              (sym (drop_all (suc k) ps (omega (arith, all, long)))) in
              let leads : next_of (chunk_at cs' l.place) ≡ next_of (chunk_at cs p) =
              ap (λ s. next_of (chunk_at cs' s)) is_q ∙ past in
              subst (λ m. Runs at cs' m (Some l) (remove ps k ++ l.place ∷ [])) (sym all)
              (longer at cs' k (next_of (chunk_at cs p)) (remove ps k) l
              (run.0 ∙ old.older.0 ∙ left, run.1) (keeps l is.0) leads))
        ]))

-- where there is a chunk, there is a place
pub within : (cs : List (Option Chunk)) (p : ℕ) (was : Chunk) → chunk_at cs p ≡ Some was
    → p < length cs
within cs p was there = filled_within cs p was there

-- one chunk is written
module _ (at : Ptr) (cs : List (Option Chunk)) (p : ℕ) (x : Chunk) (in_all : p < length cs) where
  pub read-here : chunk_at (set cs p (Some x)) p ≡ Some x
  read-here = get_or-set_same cs p (Some x) None in_all

  pub read-other : (q : ℕ) → (q ≡ p → ⊥) → chunk_at (set cs p (Some x)) q ≡ chunk_at cs q
  read-other q other = get_or-set_other cs p q (Some x) None other

  pub still-there : (l : Next) → IsAt at cs l → IsAt at (set cs p (Some x)) l
  still-there l is = elim (cases_eq l.place p) [
    | inl e ↦ record {
      leads = is.leads;
      chunk = x;
      there = ap (chunk_at (set cs p (Some x))) e ∙ read-here;
    }
    | inr other ↦ record {
      leads = is.leads;
      chunk = is.chunk;
      there = read-other l.place other ∙ is.there;
    }
  ]

-- a chunk that leads elsewhere is still there, and so are the others
pub led-there : (at : Ptr) (cs cs' : List (Option Chunk)) (q : ℕ) (next : Option Next)
    → IsLed cs cs' q next
    → (p : ℕ) → HasChunkAt cs p → HasChunkAt cs' p
led-there at cs cs' q next led p there =
    let x : Chunk = record { next = next; group = led.was.group } in
    let lt : q < length cs = within cs q led.was led.there in
    subst (λ ds. HasChunkAt ds p) (sym led.now) (elim (cases_eq p q) [
      | inl e ↦ (x, ap (chunk_at (set cs q (Some x))) e ∙ read-here at cs q x lt)
      | inr other ↦ (there.0, read-other at cs q x lt p other ∙ there.1)
    ])

-- ---- the first places stay bare where a chunk is written over another one
module _ (at : Ptr) (cs : List (Option Chunk)) (n : ℕ) (bare : AreBare cs n) where
  pub bare-set : (p : ℕ) (was x : Chunk) → chunk_at cs p ≡ Some was
      → AreBare (set cs p (Some x)) n
  bare-set p was x there q lt = elim (cases_eq q p) [
    | inl e ↦ absurd (true≢false
        (sym (ap is_some (ap (chunk_at cs) e ∙ there)) ∙ ap is_some (bare q lt)))
    | inr other ↦ read-other at cs p x (within cs p was there) q other ∙ bare q lt
  ]

  pub bare-regrouped : (cs' : List (Option Chunk)) (p : ℕ) (held : List Instance)
      → IsRegrouped cs cs' p held → AreBare cs' n
  bare-regrouped cs' p held put =
      subst (λ ds. AreBare ds n) (sym put.now)
      (bare-set p put.was (record { next = put.was.next; group = put.group }) put.there)

  pub bare-led : (cs' : List (Option Chunk)) (p : ℕ) (next : Option Next) → IsLed cs cs' p next
      → AreBare cs' n
  bare-led cs' p next led =
      subst (λ ds. AreBare ds n) (sym led.now)
      (bare-set p led.was (record { next = next; group = led.was.group }) led.there)

  bare-passed : (cs' : List (Option Chunk)) (newer next head head' : Option Next)
      → Passes cs cs' newer next head head' → AreBare cs' n
  bare-passed cs' None next head head' past = subst (λ ds. AreBare ds n) (sym past.0) bare
  bare-passed cs' (Some q) next head head' past = bare-led cs' q.place next past.0

pub bare-freed : (at : Ptr) (cs cs' : List (Option Chunk)) (n p : ℕ)
    (newer head free head' : Option Next) → AreBare cs n
    → IsFreed cs cs' p newer head free head' → AreBare cs' n
bare-freed at cs cs' n p newer head free head' bare done =
    bare-led at done.between n
    (bare-passed at cs n bare done.between newer (next_of (chunk_at cs p)) head head' done.passed)
    cs' p free done.freed

-- a chain begins with a chunk that is there
pub head-there : (at : Ptr) (cs : List (Option Chunk)) (n : ℕ) (h : Option Next) (l : Next)
    → IsChain at cs n h → h ≡ Some l → IsAt at cs l
head-there at cs n h l is e = (first at cs n l (subst (IsChain at cs n) e is)).1

-- no chunk is left where a chain leads nowhere
pub none-left : (at : Ptr) (cs : List (Option Chunk)) (n : ℕ) (h : Option Next) → IsChain at cs n h
    → h ≡ None → n ≡ 0
none-left at cs zero h is e = refl
none-left at cs (suc n) h is e = absurd (subst (IsChain at cs (suc n)) e is)
