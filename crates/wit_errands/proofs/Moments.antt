-- What looks like a beginning of a thread's own deeds are its deeds up to a moment of the run.
use Rattle.std.proofs.Common.{◌≡◌, ℕ, true, eqb, List, [], ◌∷◌, ◌++◌, map, refl, ap, sym}
use Rattle.std.proofs.Common.{◌∙◌, inl, inr}
use Rattle.std.proofs.lemmas.Bool.{cases_Bool}
use Rattle.wit_model.specs.World.Deeds.{Deed, thread_of, own}
use Rattle.wit_model.specs.World.Reordering.{kept}
use Rattle.wit_model.proofs.World.Own.{own-mine, own-other}

-- a moment at which t's own deeds look like these
pub record IsAt (t : ℕ) (o w : List Deed) : Type 0 where
  pub later : List Deed
  pub now : List Deed
  pub whole : w ≡ later ++ now
  pub same : map kept (own t now) ≡ map kept o

-- and the next one of them looks like d
pub record IsNext (t : ℕ) (d : Deed) (o w : List Deed) : Type 0 where
  pub later : List Deed
  pub next : Deed
  pub now : List Deed
  pub whole : w ≡ later ++ next ∷ now
  pub mine : eqb (thread_of next) t ≡ true
  pub looks : kept next ≡ kept d
  pub same : map kept (own t now) ≡ map kept o

pub none-longer : (later : List Deed) (x : Deed) (xs : List Deed)
    → ◌≡◌ {A = List Deed} [] (later ++ x ∷ xs) → ⊥
none-longer [] x xs is = (cc)
none-longer (y ∷ later) x xs is = (cc)

ends : (later xs : List Deed) → ◌≡◌ {A = List Deed} [] (later ++ xs)
    → ◌≡◌ {A = List Deed} [] xs
ends [] xs is = is
ends (x ∷ later) xs is = (cc)

module _ (t : ℕ) (o : List Deed) where
  at-later : (d : Deed) (w : List Deed) → IsAt t o w → IsAt t o (d ∷ w)
  at-later d w m =
      record {
        later = d ∷ m.later;
        now = m.now;
        whole = ap (λ x. d ∷ x) m.whole;
        same = m.same;
      }

  at-mine : (d : Deed) (w later : List Deed) → eqb (thread_of d) t ≡ true
      → map kept (own t (d ∷ w)) ≡ later ++ map kept o
      → ((xs : List Deed) → map kept (own t w) ≡ xs ++ map kept o → IsAt t o w)
      → IsAt t o (d ∷ w)
  at-mine d w [] is same before =
      record { later = []; now = d ∷ w; whole = refl; same = same }
  at-mine d w (x ∷ xs) is same before =
      let whole : kept d ∷ map kept (own t w) ≡ x ∷ (xs ++ map kept o) =
      ap (λ y. map kept y) (sym (own-mine t d w is)) ∙ same in
      let tail : map kept (own t w) ≡ xs ++ map kept o = cc in at-later d w (before xs tail)

  pub moment : (w later : List Deed) → map kept (own t w) ≡ later ++ map kept o → IsAt t o w
  moment [] later same =
      record { later = []; now = []; whole = refl; same = ends later (map kept o) same }
  moment (d ∷ w) later same =
      let before = moment w in
      elim (cases_Bool (eqb (thread_of d) t)) [
        | inl is ↦ at-mine d w later is same before
        | inr is ↦ at-later d w (before later
            (ap (λ y. map kept y) (sym (own-other t d w is)) ∙ same))
      ]

  module _ (d : Deed) where
    next-later : (x : Deed) (w : List Deed) → IsNext t d o w → IsNext t d o (x ∷ w)
    next-later x w n =
        record {
          later = x ∷ n.later;
          next = n.next;
          now = n.now;
          whole = ap (λ y. x ∷ y) n.whole;
          mine = n.mine;
          looks = n.looks;
          same = n.same;
        }

    next-mine : (x : Deed) (w later : List Deed) → eqb (thread_of x) t ≡ true
        → map kept (own t (x ∷ w)) ≡ later ++ kept d ∷ map kept o
        → ((xs : List Deed) → map kept (own t w) ≡ xs ++ kept d ∷ map kept o → IsNext t d o w)
        → IsNext t d o (x ∷ w)
    next-mine x w [] is same before =
        let whole : kept x ∷ map kept (own t w) ≡ kept d ∷ map kept o =
        ap (λ y. map kept y) (sym (own-mine t x w is)) ∙ same in
        record {
          later = [];
          next = x;
          now = w;
          whole = refl;
          mine = is;
          looks = (let head : kept x ≡ kept d = cc in head);
          same = (let tail : map kept (own t w) ≡ map kept o = cc in tail);
        }
    next-mine x w (y ∷ ys) is same before =
        let whole : kept x ∷ map kept (own t w) ≡ y ∷ (ys ++ kept d ∷ map kept o) =
        ap (λ z. map kept z) (sym (own-mine t x w is)) ∙ same in
        let tail : map kept (own t w) ≡ ys ++ kept d ∷ map kept o = cc in
        next-later x w (before ys tail)

    pub next-deed : (w later : List Deed) → map kept (own t w) ≡ later ++ kept d ∷ map kept o
        → IsNext t d o w
    next-deed [] later same = absurd (none-longer later (kept d) (map kept o) same)
    next-deed (x ∷ w) later same =
        let before = next-deed w in
        elim (cases_Bool (eqb (thread_of x) t)) [
          | inl is ↦ next-mine x w later is same before
          | inr is ↦ next-later x w (before later
              (ap (λ y. map kept y) (sym (own-other t x w is)) ∙ same))
        ]
