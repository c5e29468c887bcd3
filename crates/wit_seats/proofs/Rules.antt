-- A step that hands something out keeps the rule.
use Rattle.std.proofs.Common.{[], ◌≡◌, ◌≢◌, ℕ, ◌+◌, ◌<◌, ◌≤◌, ◌⊎◌, ◌∷◌, length, set, Option, None}
use Rattle.std.proofs.Common.{Some, refl, ap, sym, ◌∙◌, subst, inl, inr, ⊎_elim, arith}
use mathlib.Core.Option.{some, some-ne-none}
use lib.ListN.{get_elem?}
use Rattle.atomic_table.specs.Table.{Splits, Joins, keeps}
use Rattle.atomic_table.proofs.Lists.{at_set}
use Rattle.wit_model.specs.Rules.History.{own_entries}
use Rattle.wit_seats.specs.declared.views.Journal.{Journal}
use Rattle.wit_seats.specs.declared.views.SeatKnowledge.{SeatKnowledge}
use Rattle.wit_seats.specs.declared.views.CardView.{CardView}
use Rattle.wit_seats.specs.Seats.{IsSeatOf}
use Rattle.wit_seats.specs.Rule.{shows, journal, without, alone, with_guest, newcomer, with_next}
use Rattle.wit_seats.specs.Rule.{handed_out, Keeps, Sits, Fits, Kept}
use Rattle.wit_seats.proofs.Cards.{all_set, all_push, each_some, moved, moved_here, moved_else}
use Rattle.wit_seats.proofs.Cards.{sits_moved, fits_else}

pub begins : Kept (shows (Some (journal [] [] 0)) None ∷ [])
begins = record {
  keeper = 0;
  place = λ t. 0;
  log = journal [] [] 0;
  outside = λ t o. refl;
  each =
      all_push (Fits 0 (λ t. 0) (journal [] [] 0)) [] (shows (Some (journal [] [] 0)) None)
      (λ j u e. absurd (some-ne-none u (sym e))) (record {
        keeps = record { card = refl; log = refl };
        sits = tt;
      });
}

pub gives : (id : ℕ) (v : CardView)
    → Splits {S = Unit {0}} (λ s. Kept s.views) id v (without v) (alone v)
gives id v s h at =
    let views = set s.views id (without v) in
    let to = length views in
    let mine = h.each id v at in
    let place = moved h.place v.holder to in record {
      keeper = h.keeper;
      place = place;
      log = h.log;
      outside = h.outside;
      each = all_push (Fits h.keeper place h.log) views (alone v)
          (all_set (Fits h.keeper place h.log) s.views id (without v)
          (record { keeps = mine.keeps; sits = tt })
          (λ j u n e. fits_else h.place h.log h.keeper v.holder id to j mine.sits n u
          (h.each j u e)))
          (record { keeps = tt; sits = sits_moved h.place h.log v.holder id to mine.sits });
    }

pub takes_in : (id : ℕ) (v : CardView) (other : ℕ) (w : CardView)
    → Joins {S = Unit {0}} (λ s. Kept s.views) id v other w (with_guest v w) (shows None None)
takes_in id v other w s h at apart there =
    let both = with_guest v w in
    let views = set s.views id both in
    let mine = h.each id v at in
    let theirs =
    h.each other w (⊎_elim (λ (x : (other ≡ id) × (both ≡ w)). absurd (apart x.0))
    (λ (x : (other ≢ id) × (get_elem? s.views other ≡ some w)). x.1)
    (at_set s.views id other both w there)) in
    let place = moved h.place w.holder id in record {
      keeper = h.keeper;
      place = place;
      log = h.log;
      outside = h.outside;
      each =
          all_set (Fits h.keeper place h.log) views other (shows None None)
          (record { keeps = tt; sits = tt })
          (λ j u n e. all_set (λ i x. i ≢ other → Fits h.keeper place h.log i x) s.views id both
          (λ m. record {
            keeps = mine.keeps;
            sits = sits_moved h.place h.log w.holder other id theirs.sits;
          })
          (λ i x k f m. fits_else h.place h.log h.keeper w.holder other id i theirs.sits m x
          (h.each i x f)) j u e n);
    }

-- ---- one more seat

grown : Journal → Journal
grown j = record j { handed = j.handed + 1 }

wider : (log : Journal) (k : SeatKnowledge) → IsSeatOf log k → IsSeatOf (grown log) k
unfolding grown
wider log k f =
    record { number = (f.number.0, omega arith); own = f.own; seen = f.seen; files = f.files }

-- one that is out is not the next one
sits_wider : (place : ℕ → ℕ) (log : Journal) (to j : ℕ) (k : SeatKnowledge) → Sits place log j k
    → Sits (moved place (Some (newcomer log)) to) (grown log) j k
sits_wider place log to j k s =
    let below : k.seat ≤ log.handed = s.known.number.1 in
    record {
      card = moved_else place (newcomer log) to k.seat (λ e. omega arith) ∙ s.card;
      known = wider log k s.known;
    }

fresh_sits : (place : ℕ → ℕ) (log : Journal) (to : ℕ) → own_entries (log.handed + 1) log.entries
    ≡ [] → Sits (moved place (Some (newcomer log)) to) (grown log) to (newcomer log)
unfolding grown
fresh_sits place log to none = record {
  card = moved_here place (newcomer log) to;
  known = record { number = (omega arith, omega arith); own = none; seen = ([], refl); files = tt };
}

hands_to : (id : ℕ) (j : Journal) (k : Option SeatKnowledge)
    → Splits {S = Unit {0}} (λ s. Kept s.views) id (shows (Some j) k) (shows (Some (grown j)) k)
    (shows None (Some (newcomer j)))
unfolding grown
hands_to id j k s h at =
    let views = set s.views id (shows (Some (grown j)) k) in
    let to = length views in
    let mine = h.each id (shows (Some j) k) at in
    let place = moved h.place (Some (newcomer h.log)) to in
    let all = Fits h.keeper place (grown h.log) in record {
      keeper = h.keeper;
      place = place;
      log = grown h.log;
      outside =
          λ t o. h.outside t (⊎_elim (λ (z : t ≡ 0). inl z)
          (λ (l : h.log.handed + 1 < t). inr (omega arith)) o);
      each = all_push all views (shows None (Some (newcomer j)))
          (all_set all s.views id (shows (Some (grown j)) k)
          (record {
            keeps = record { card = mine.keeps.card; log = ap grown mine.keeps.log };
            sits =
                each_some k (Sits h.place h.log id) (Sits place (grown h.log) id)
                (sits_wider h.place h.log to id) mine.sits;
          })
          (λ m u n e. record {
            keeps =
                each_some u.journal (Keeps h.keeper h.log m) (Keeps h.keeper (grown h.log) m)
                (λ x f. absurd (n (f.card ∙ sym mine.keeps.card))) (h.each m u e).keeps;
            sits =
                each_some u.holder (Sits h.place h.log m) (Sits place (grown h.log) m)
                (sits_wider h.place h.log to m) (h.each m u e).sits;
          }))
          (record {
            keeps = tt;
            sits =
                subst (λ (x : Journal). Sits place (grown h.log) to (newcomer x))
                (sym mine.keeps.log)
                (fresh_sits h.place h.log to (h.outside (h.log.handed + 1) (inr (omega arith))));
          });
    }

hands_none : (id : ℕ) (k : Option SeatKnowledge)
    → Splits {S = Unit {0}} (λ s. Kept s.views) id (shows None k) (shows None k) (shows None None)
hands_none id k s h at = record {
  keeper = h.keeper;
  place = h.place;
  log = h.log;
  outside = h.outside;
  each = all_push (Fits h.keeper h.place h.log) (set s.views id (shows None k)) (shows None None)
      (all_set (Fits h.keeper h.place h.log) s.views id (shows None k) (h.each id (shows None k) at)
      (λ m u n e. h.each m u e))
      (record { keeps = tt; sits = tt });
}

hands_by : (id : ℕ) (j : Option Journal) (k : Option SeatKnowledge)
    → Splits {S = Unit {0}} (λ s. Kept s.views) id (shows j k) (with_next (shows j k))
    (handed_out (shows j k))
unfolding grown
hands_by id None k = hands_none id k
hands_by id (Some j) k = hands_to id j k

pub hands : (id : ℕ) (v : CardView)
    → Splits {S = Unit {0}} (λ s. Kept s.views) id v (with_next v) (handed_out v)
hands id v = hands_by id v.journal v.holder

-- ---- a step of the log
