-- A thread that goes some way of its run asks for what it asked for there, and has what it had: so
-- the pairs that the runs keep to are those that the threads keep to together.
use Rattle.std.proofs.Common.{◌≡◌, ℕ, ◌<◌, false, nat_lt, List, [], ◌∷◌, ◌++◌, map, refl, ap}
use Rattle.std.proofs.Common.{sym, ◌∙◌, subst, inl, inr, append_assoc}
use Rattle.std.proofs.lemmas.Bool.{eq-eqb}
use Rattle.std.proofs.lemmas.Bool.Decides.{eqb_tells}
use Rattle.wit_model.specs.declared.locks.Class.{Class}
use Rattle.wit_model.specs.declared.calls.Request.{Request}
use Rattle.wit_model.specs.declared.calls.Call.TheVariants.{Check}
use Rattle.wit_model.specs.declared.calls.Entry.{Entry}
use Rattle.wit_model.specs.Rules.History.{num, is_held}
use Rattle.wit_model.specs.World.Deeds.{Deed, Logged, PassedOver, Take, TryTake, Free, RawUp}
use Rattle.wit_model.specs.World.Deeds.{RawDown, thread_of, own, log_of, shares}
use Rattle.wit_model.specs.World.Reordering.{kept}
use Rattle.wit_recordings.specs.Recordings.{AsksWithin, AllAskWithin, GoAsInRuns}
use Rattle.wit_model.proofs.World.Own.{own-mine, own-other, shares-own, shares-kept, num-own}
use Rattle.wit_model.proofs.World.Own.{num-kept, kept-check}

none-longer : (later : List Deed) (x : Deed) (xs : List Deed)
    → ◌≡◌ {A = List Deed} [] (later ++ x ∷ xs) → ⊥
none-longer [] x xs is = (cc)
none-longer (y ∷ later) x xs is = (cc)

head-of : (d e : Deed) (v w : List Deed) → ◌≡◌ {A = List Deed} (d ∷ v) (e ∷ w) → d ≡ e
head-of d e v w is = (cc)

tail-of : (d e : Deed) (v w : List Deed) → ◌≡◌ {A = List Deed} (d ∷ v) (e ∷ w) → v ≡ w
tail-of d e v w is = (cc)

-- deeds that look alike to their thread leave it the same shares and the same record
same-shares : (t l : ℕ) (w o : List Deed) → map kept (own t w) ≡ map kept o
    → shares t l o ≡ shares t l w
same-shares t l w o same =
    sym (shares-kept t l o) ∙ (ap (λ x. shares t l x) (sym same)
    ∙ (shares-kept t l (own t w) ∙ shares-own t l w))

same-held : (t l : ℕ) (w o : List Deed) → map kept (own t w) ≡ map kept o
    → is_held t l (log_of o) ≡ is_held t l (log_of w)
same-held t l w o same =
    ap (λ n. nat_lt 0 n) (sym (num-kept t l o) ∙ (ap (λ x. num t l (log_of x)) (sym same)
    ∙ (num-kept t l (own t w) ∙ num-own t l w)))

module _ (Pairs : Class × List ℕ → Class × List ℕ → Type 0) (named : ℕ → Class × List ℕ) where
  asked-then : (d : Deed) (w : List Deed) (x : Entry) (q : Request) (l : ℕ) → d ≡ Logged x
      → x.call ≡ Check q → AsksWithin Pairs named d w
      → is_held (thread_of d) q.lock.0 (log_of w) ≡ false → 0 < shares (thread_of d) l w
      → Pairs (named l) (named q.lock.0)
  asked-then (Logged f) w x q l is asks told unheld some =
      let same : f ≡ x = cc in
      told q l (ap (λ (y : Entry). y.call) same ∙ asks) unheld some
  asked-then (Take u m mode) w x q l is asks told unheld some = (cc)
  asked-then (TryTake u m mode) w x q l is asks told unheld some = (cc)
  asked-then (PassedOver u c) w x q l is asks told unheld some = (cc)
  asked-then (Free u m) w x q l is asks told unheld some = (cc)
  asked-then (RawUp u m) w x q l is asks told unheld some = (cc)
  asked-then (RawDown u m) w x q l is asks told unheld some = (cc)

  module _ (t : ℕ) (q : Request) (l : ℕ) (e : Entry) (o : List Deed) (asks : e.call ≡ Check q)
      (unheld : is_held t q.lock.0 (log_of o) ≡ false) (some : 0 < shares t l o) where
    now : (d : Deed) (w : List Deed) → thread_of d ≡ t → AsksWithin Pairs named d w
        → kept d ≡ kept (Logged e) → map kept (own t w) ≡ map kept o
        → Pairs (named l) (named q.lock.0)
    now d w mine told head tail =
        let check = kept-check d e q head asks in
        asked-then d w check.0 q l check.1 check.2 told
        (subst (λ k. is_held k q.lock.0 (log_of w) ≡ false) (sym mine)
        (sym (same-held t q.lock.0 w o tail) ∙ unheld))
        (subst (λ k. 0 < shares k l w) (sym mine)
        (subst (λ n. 0 < n) (same-shares t l w o tail) some))

    in-run : (w : List Deed) → AllAskWithin Pairs named w → (later : List Deed)
        → map kept (own t w) ≡ later ++ (kept (Logged e) ∷ map kept o)
        → Pairs (named l) (named q.lock.0)
    in-run [] told later same =
        absurd (none-longer later (kept (Logged e)) (map kept o) same)
    in-run (d ∷ w) told later same =
        elim (eqb_tells (thread_of d) t) [
          | inl mine ↦ last mine.1 later (ap (λ y. map kept y) (sym (own-mine t d w mine.0)) ∙ same)
              (λ ys past. in-run w told.1 ys past)
          | inr other ↦
              in-run w told.1 later (ap (λ y. map kept y) (sym (own-other t d w other.0)) ∙ same)
        ]
      where
        last : thread_of d ≡ t → (xs : List Deed)
            → kept d ∷ map kept (own t w) ≡ xs ++ (kept (Logged e) ∷ map kept o)
            → ((ys : List Deed) → map kept (own t w) ≡ ys ++ (kept (Logged e) ∷ map kept o)
            → Pairs (named l) (named q.lock.0))
            → Pairs (named l) (named q.lock.0)
        last mine [] is past =
            now d w mine told.0
            (head-of (kept d) (kept (Logged e)) (map kept (own t w)) (map kept o) is)
            (tail-of (kept d) (kept (Logged e)) (map kept (own t w)) (map kept o) is)
        last mine (x ∷ xs) is past =
            past xs
            (tail-of (kept d) x (map kept (own t w)) (xs ++ (kept (Logged e) ∷ map kept o)) is)

  module _ (runs : ℕ → List Deed) (told : (t : ℕ) → AllAskWithin Pairs named (runs t)) where
    earlier : (d : Deed) (v : List Deed) → GoAsInRuns runs (d ∷ v) → GoAsInRuns runs v
    earlier d v begins = λ t.
        elim (eqb_tells (thread_of d) t) [
          | inl mine ↦ (
            (begins t).0 ++ kept d ∷ [],
            (begins t).1
                ∙ (ap (λ y. (begins t).0 ++ map kept y) (own-mine t d v mine.0)
                ∙ sym (append_assoc (begins t).0 (kept d ∷ []) (map kept (own t v)))),
          )
          | inr other ↦ (
            (begins t).0,
            (begins t).1 ∙ ap (λ y. (begins t).0 ++ map kept y) (own-other t d v other.0),
          )
        ]

    deed-told : (d : Deed) (v : List Deed) → GoAsInRuns runs (d ∷ v) → AsksWithin Pairs named d v
    deed-told (Logged e) v begins = λ q l asks unheld some.
        in-run e.seat.0 q l e (own e.seat.0 v) asks
        (ap (λ n. nat_lt 0 n) (num-own e.seat.0 q.lock.0 v) ∙ unheld)
        (subst (λ n. 0 < n) (sym (shares-own e.seat.0 l v)) some) (runs e.seat.0) (told e.seat.0)
        (begins e.seat.0).0
        ((begins e.seat.0).1 ∙ ap (λ y. (begins e.seat.0).0 ++ map kept y)
        (own-mine e.seat.0 (Logged e) v (eq-eqb e.seat.0 e.seat.0 refl)))
    deed-told (Take u m mode) v begins = tt
    deed-told (TryTake u m mode) v begins = tt
    deed-told (PassedOver u c) v begins = tt
    deed-told (Free u m) v begins = tt
    deed-told (RawUp u m) v begins = tt
    deed-told (RawDown u m) v begins = tt

    pub told-played : (v : List Deed) → GoAsInRuns runs v → AllAskWithin Pairs named v
    told-played [] begins = tt
    told-played (d ∷ v) begins =
        (deed-told d v begins, told-played v (earlier d v begins))
