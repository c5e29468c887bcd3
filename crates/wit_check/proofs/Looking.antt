-- What one look through a chain sees.
use Rattle.std.proofs.Common.{◌≡◌, ℕ, suc, ◌+◌, ◌<◌, ◌≤◌, Bool, true, false, ◌&&◌, cond, List, []}
use Rattle.std.proofs.Common.{◌∷◌, ◌++◌, Option, None, Some, is_some, is_none, length, take, drop}
use Rattle.std.proofs.Common.{get_or, filter, find, reverse, refl, ap, ap₂, sym, ◌∙◌, arith}
use Rattle.std.specs.List.{before_first, position_or_len}
use Rattle.std.specs.Option.{option_or}
use Rattle.std.proofs.lemmas.Bool.{eq-eqb}
use Rattle.std.proofs.lemmas.List.{reverse-append}
use Rattle.std.proofs.lemmas.List.Folds.{find-append}
use Rattle.wit_model.specs.declared.locks.Instance.{Instance}
use Rattle.wit_model.specs.declared.calls.TypedRequest.{TypedRequest}
use Rattle.wit_model.specs.Rules.Groups.{flat}
use Rattle.wit_model.specs.Rules.Verdict.{Basis, is_of, has_type_of, violates}
use Rattle.wit_check.specs.declared.held.Seen.{Seen}
use Rattle.wit_check.specs.Held.{HasEachOnce}
use Rattle.wit_check.specs.Looks.{older_than, seen_in, nothing_seen, with_older, with_locks}
use Rattle.wit_check.proofs.Chunks.{chunk-looked, newest-older}

module _ (g : Basis) (q : TypedRequest) where
  look-append : (c e : List Instance) (s : Seen)
      → with_locks g q (c ++ e) s ≡ with_locks g q c (with_locks g q e s)
  look-append [] e s = refl
  look-append (i ∷ c) e s = ap (with_older g q i) (look-append c e s)

  -- one chunk more
  pub look-chunk : (gs : List (List Instance)) (s : Seen) (i n : ℕ) → i < length gs → n ≡ i + 1
      → with_locks g q (get_or gs i []) (with_locks g q (flat (drop n gs)) s)
      ≡ with_locks g q (flat (drop i gs)) s
  look-chunk gs s i n lt next =
      chunk-looked (λ c r. with_locks g q c r) look-append gs s i n lt next

  -- the lock itself
  held-seen : (c : List Instance) → (with_locks g q c nothing_seen).held ≡ find (is_of q.lock.0) c
  held-seen [] = refl
  held-seen (i ∷ c) = ap (λ o. cond (is_of q.lock.0 i) (Some i) o) (held-seen c)

  -- the newest violation
  broken-seen : (c : List Instance) → (with_locks g q c nothing_seen).broken
      ≡ find (violates g q) (reverse c)
  broken-seen [] = refl
  broken-seen (i ∷ c) =
      ap (λ o. cond (is_some o) o (cond (violates g q i) (Some i) None)) (broken-seen c)
      ∙ newest-older (violates g q) i c

  -- a lock that is found stands in the chain
  stands-found : (p : Instance → Bool) (c : List Instance) (h : Instance)
      → find p (reverse c) ≡ Some h → 1 ≤ length (filter (is_of h.lock.0) c)
  stands-found p [] h is = (cc)
  stands-found p (i ∷ c) h is =
      go (find p (reverse c)) refl
      (sym (ap (find p) (reverse-append (i ∷ []) c) ∙ find-append p (reverse c) (i ∷ [])) ∙ is)
      (λ e. stands-found p c h e)
    where
      one-more : (b : Bool) → 1 ≤ length (filter (is_of h.lock.0) c)
          → 1 ≤ length (cond b (i ∷ filter (is_of h.lock.0) c) (filter (is_of h.lock.0) c))
      one-more true le = omega arith
      one-more false le = le

      here : (b : Bool) → cond b (Some i) None ≡ Some h → i ≡ h
      here true e = let same : i ≡ h = cc in same
      here false e = (cc)

      go : (o : Option Instance) → find p (reverse c) ≡ o
          → option_or o (cond (p i) (Some i) None) ≡ Some h
          → (find p (reverse c) ≡ Some h → 1 ≤ length (filter (is_of h.lock.0) c))
          → 1 ≤ length (filter (is_of h.lock.0) (i ∷ c))
      go (Some j) e same ih = one-more (is_of h.lock.0 i) (ih (e ∙ same))
      go None e same ih =
          let own : is_of h.lock.0 i ≡ true =
          eq-eqb i.lock.0 h.lock.0 (ap (λ (j : Instance). j.lock.0) (here (p i) same)) in
          rw own (omega arith)

  once-rest : (i : Instance) (c : List Instance) → HasEachOnce (i ∷ c) → HasEachOnce c
  once-rest i c once = λ l. go l (is_of l i) (once l)
    where
      go : (l : ℕ) (b : Bool) → length (cond b (i ∷ filter (is_of l) c) (filter (is_of l) c)) ≤ 1
          → length (filter (is_of l) c) ≤ 1
      go l true le = omega arith
      go l false le = le

  -- a lock that stands further on isn't the first one
  apart : (i : Instance) (c : List Instance) (l : ℕ) → HasEachOnce (i ∷ c)
      → 1 ≤ length (filter (is_of l) c) → is_of l i ≡ false
  apart i c l once some = go (is_of l i) refl (once l)
    where
      go : (b : Bool) → is_of l i ≡ b
          → length (cond b (i ∷ filter (is_of l) c) (filter (is_of l) c)) ≤ 1 → is_of l i ≡ false
      go true e le = absurd (omega (arith, some, le))
      go false e le = e

  -- the older one of three
  older-seen : (c : List Instance) → HasEachOnce c
      → (with_locks g q c nothing_seen).older ≡ older_than g q (find (violates g q) (reverse c)) c
  older-seen [] once = refl
  older-seen (i ∷ c) once =
      ap₂ (λ o p. cond (is_some o && is_none p && has_type_of g q i) (Some i) p) (broken-seen c)
      (older-seen c (once-rest i c once))
      ∙ go (find (violates g q) (reverse c)) refl
      ∙ ap (λ o. older_than g q o (i ∷ c))
      (sym (ap (find (violates g q)) (reverse-append (i ∷ []) c)
      ∙ find-append (violates g q) (reverse c) (i ∷ [])))
    where
      first : (b : Bool) → violates g q i ≡ b → None ≡ older_than g q (cond b (Some i) None) (i ∷ c)
      first true is = let own : is_of i.lock.0 i ≡ true =
          eq-eqb i.lock.0 i.lock.0 refl in rw own refl
      first false is = refl

      newer : (o : Option Instance) (b : Bool)
          → cond (is_none o && b) (Some i) o ≡ option_or o (cond b (Some i) None)
      newer None true = refl
      newer None false = refl
      newer (Some j) true = refl
      newer (Some j) false = refl

      go : (o : Option Instance) → find (violates g q) (reverse c) ≡ o
          → cond (is_some o && is_none (older_than g q o c) && has_type_of g q i) (Some i)
          (older_than g q o c) ≡ older_than g q
          (option_or o (cond (violates g q i) (Some i) None)) (i ∷ c)
      go None is = first (violates g q i) refl
      go (Some h) is =
          let other : is_of h.lock.0 i ≡ false =
          apart i c h.lock.0 once (stands-found (violates g q) c h is) in
          newer (find (has_type_of g q) (reverse (before_first (is_of h.lock.0) c)))
          (has_type_of g q i)
          ∙ sym
          (ap (λ e. find (has_type_of g q) (reverse e)) (before-more h other)
          ∙ ap (find (has_type_of g q)) (reverse-append (i ∷ []) (before_first (is_of h.lock.0) c))
          ∙ find-append (has_type_of g q) (reverse (before_first (is_of h.lock.0) c)) (i ∷ []))
        where
          before-more : (h : Instance) → is_of h.lock.0 i ≡ false
              → before_first (is_of h.lock.0) (i ∷ c) ≡ i ∷ before_first (is_of h.lock.0) c
          before-more h other =
              let up : 1 + position_or_len (is_of h.lock.0) c
              ≡ suc (position_or_len (is_of h.lock.0) c) = omega arith in
              rw other (ap (λ n. take n (i ∷ c)) up)

  abbrev seen_of : Option Instance → Option Instance → Option Instance → Seen
  seen_of h b o = record { held = h; broken = b; older = o }

  -- all three
  pub all-seen : (c : List Instance) → HasEachOnce c → with_locks g q c nothing_seen ≡ seen_in g q c
  all-seen c once =
      ap₂ (λ h b. seen_of h b (with_locks g q c nothing_seen).older) (held-seen c) (broken-seen c)
      ∙ ap (λ o. seen_of (find (is_of q.lock.0) c) (find (violates g q) (reverse c)) o)
      (older-seen c once)

  -- where each lock stands once, the newest of its instances is the oldest
  pub once-found : (l : ℕ) (c : List Instance) → HasEachOnce c
      → find (is_of l) (reverse c) ≡ find (is_of l) c
  once-found l [] once = refl
  once-found l (i ∷ c) once =
      ap (find (is_of l)) (reverse-append (i ∷ []) c) ∙ find-append (is_of l) (reverse c) (i ∷ [])
      ∙ ap (λ o. option_or o (find (is_of l) (i ∷ []))) (once-found l c (once-rest i c once))
      ∙ go (find (is_of l) c) refl
    where
      go : (o : Option Instance) → find (is_of l) c ≡ o
          → option_or o (cond (is_of l i) (Some i) None) ≡ cond (is_of l i) (Some i) o
      go None is = refl
      go (Some h) is = rw (apart i c l once (some h is)) refl
        where
          some : (h : Instance) → find (is_of l) c ≡ Some h → 1 ≤ length (filter (is_of l) c)
          some h is = counted c is
            where
              counted : (e : List Instance) → find (is_of l) e ≡ Some h
                  → 1 ≤ length (filter (is_of l) e)
              counted [] is = (cc)
              counted (j ∷ e) is = at (is_of l j) is (λ rest. counted e rest)
                where
                  at : (b : Bool) → cond b (Some j) (find (is_of l) e) ≡ Some h
                      → (find (is_of l) e ≡ Some h → 1 ≤ length (filter (is_of l) e))
                      → 1 ≤ length (cond b (j ∷ filter (is_of l) e) (filter (is_of l) e))
                  at true same ih = omega arith
                  at false same ih = ih same
