-- What condenses a history has all its pairs.
use Rattle.std.proofs.Common.{◌≡◌, ℕ, Bool, true, eqb, List, [], ◌∷◌, map, refl, ap, sym}
use Rattle.std.proofs.Common.{◌∙◌, subst, inl, inr, ⊎_elim}
use Rattle.std.specs.List.{list_all, list_any}
use Rattle.std.proofs.lemmas.Bool.{and_parts, false≢true, eqb-true}
use Rattle.wit_model.specs.declared.locks.Class.{Class}
use Rattle.wit_model.specs.declared.calls.Entry.{Entry}
use Rattle.wit_model.specs.Rules.Locks.{locks_of, lock_of}
use Rattle.wit_model.specs.Rules.History.{is_held, held}
use Rattle.wit_model.specs.Rules.State.{Start}
use Rattle.wit_model.specs.Rules.Step.{IsLegal}
use Rattle.wit_recordings.specs.Recordings.{named_type, AsksWhileHolding, TellsOf, chain_types, AsksBehindChain}
use Rattle.wit_recordings.specs.Recordings.{HasRequest, Condenses}
use Rattle.wit_model.proofs.Chains.Held.{held-all, in-held}
use Rattle.wit_model.proofs.Histories.Legal.{sane_legal}
use Rattle.wit_recordings.proofs.Behind.{or_split}

same-head : (a b : Class × List ℕ) (cs bs : List (Class × List ℕ))
    → ◌≡◌ {A = List (Class × List ℕ)} (a ∷ cs) (b ∷ bs) → a ≡ b
same-head a b cs bs is = (cc)

same-tail : (a b : Class × List ℕ) (cs bs : List (Class × List ℕ))
    → ◌≡◌ {A = List (Class × List ℕ)} (a ∷ cs) (b ∷ bs) → cs ≡ bs
same-tail a b cs bs is = (cc)

-- lists of the same types have the same type at a place
record IsLike (has : ℕ → Bool) (type : ℕ → Class × List ℕ) (a : Class × List ℕ) : Type 0 where
  number : ℕ
  passes : has number ≡ true
  same : type number ≡ a

like : (type other : ℕ → Class × List ℕ) (has : ℕ → Bool) (l : ℕ) (ls ms : List ℕ)
    → map type ls ≡ map other ms → list_all has ms ≡ true
    → list_any (λ m. eqb m l) ls ≡ true → IsLike has other (type l)
like type other has l [] ms same all is = absurd (false≢true is)
like type other has l (k ∷ ls) [] same all is = (cc)
like type other has l (k ∷ ls) (m ∷ ms) same all is =
    let parts = and_parts (has m) (list_all has ms) all in
    ⊎_elim
    (λ here. record {
      number = m;
      passes = parts.0;
      same = sym (same-head (type k) (other m) (map type ls) (map other ms) same)
          ∙ ap type (eqb-true k l here);
    })
    (λ later. like type other has l ls ms
    (same-tail (type k) (other m) (map type ls) (map other ms) same) parts.1 later)
    (or_split (eqb k l) (list_any (λ n. eqb n l) ls) is)

-- the request behind those types tells of the pair
told-behind : (t l : ℕ) (h : List Entry) (b : Class × List ℕ) → list_any (λ m. eqb m l) (held t h)
    ≡ true
    → (e : Entry) (g : List Entry) → AsksBehindChain g e (chain_types t h) b
    → AsksWhileHolding g e (named_type (lock_of (locks_of h) l)) b
told-behind t l h b is e g behind =
    let found =
    like (λ m. named_type (lock_of (locks_of h) m)) (λ m. named_type (lock_of (locks_of g) m))
    (λ m. is_held e.seat.0 m g) l (held t h) (held e.seat.0 g) (sym behind.first)
    (held-all e.seat.0 g) is in
    record {
      request = behind.request;
      asks = behind.asks;
      unheld = behind.unheld;
      other = found.number;
      holds = found.passes;
      first = found.same;
      second = behind.second;
    }

told-somewhere : (t l : ℕ) (h : List Entry) (b : Class × List ℕ)
    → list_any (λ m. eqb m l) (held t h) ≡ true → (g : List Entry)
    → HasRequest g (chain_types t h) b → TellsOf g (named_type (lock_of (locks_of h) l)) b
told-somewhere t l h b is [] has = absurd has
told-somewhere t l h b is (e ∷ g) (inl now) = inl (told-behind t l h b is e g now)
told-somewhere t l h b is (e ∷ g) (inr before) = inr (told-somewhere t l h b is g before)

-- a chain with a lock isn't empty
kept-behind : (h g : List Entry) → Condenses g h → (cs : List (Class × List ℕ))
    (b : Class × List ℕ) → (cs ≡ [] → ⊥) → HasRequest h cs b → HasRequest g cs b
kept-behind h g all [] b some has = absurd (some refl)
kept-behind h g all (a ∷ cs) b some has = all a cs b has

none-any : (type : ℕ → Class × List ℕ) (l : ℕ) (ls : List ℕ) → map type ls ≡ []
    → list_any (λ m. eqb m l) ls ≡ true → ⊥
none-any type l [] none is = false≢true is
none-any type l (k ∷ ls) none is = (cc)

module _ (start : Start) (files : List (List ℕ)) (g : List Entry) where
  condensed-now : (e : Entry) (h : List Entry) → IsLegal start files h → Condenses g (e ∷ h)
      → (a b : Class × List ℕ) → AsksWhileHolding h e a b → TellsOf g a b
  condensed-now e h legal all a b now =
      let in-chain = in-held e.seat.0 now.other h (sane_legal start files h legal) ∙ now.holds in
      subst (λ x. TellsOf g x b) now.first
      (told-somewhere e.seat.0 now.other h b in-chain g
      (kept-behind (e ∷ h) g all (chain_types e.seat.0 h) b
      (λ none. none-any (λ m. named_type (lock_of (locks_of h) m)) now.other (held e.seat.0 h) none
      in-chain)
      (inl (record {
        request = now.request;
        asks = now.asks;
        unheld = now.unheld;
        first = refl;
        second = now.second;
      }))))

  pub condensed-tells : (h : List Entry) → IsLegal start files h → Condenses g h
      → (a b : Class × List ℕ) → TellsOf h a b → TellsOf g a b
  condensed-tells [] legal all a b is = absurd is
  condensed-tells (e ∷ h) legal all a b (inl now) = condensed-now e h legal.2 all a b now
  condensed-tells (e ∷ h) legal all a b (inr before) =
      condensed-tells h legal.2 (λ x xs y has. all x xs y (inr has)) a b before
