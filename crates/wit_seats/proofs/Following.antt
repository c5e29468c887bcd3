-- A step by which a seat learns, or makes its own entry, keeps the rule.
use Rattle.std.proofs.Common.{◌≡◌, ◌≢◌, ℕ, ◌+◌, ◌<◌, ◌≤◌, ◌⊎◌, ◌==◌, List, [], ◌++◌, set, Option}
use Rattle.std.proofs.Common.{None, Some, IfSome, refl, ap, sym, ◌∙◌, subst, ⊎_elim, arith}
use Rattle.std.proofs.Common.{append_assoc}
use Rattle.std.proofs.lemmas.List.Elements.{filter-append}
use mathlib.Core.Option.{some}
use lib.ListN.{get_elem?}
use Rattle.atomic_table.specs.Table.{State, Me, Allows, keeps}
use Rattle.wit_model.specs.declared.calls.Entry.{Entry}
use Rattle.wit_model.specs.declared.locks.FileNo.{FileNo}
use Rattle.wit_model.specs.Rules.History.{own_entries}
use Rattle.wit_model.specs.Rules.State.{Story}
use Rattle.wit_seats.specs.declared.views.Journal.{Journal}
use Rattle.wit_seats.specs.declared.views.SeatKnowledge.{SeatKnowledge}
use Rattle.wit_seats.specs.declared.views.CardView.{CardView}
use Rattle.wit_seats.specs.Seats.{AreFiles, IsSeatOf, caught_up}
use Rattle.wit_seats.specs.Rule.{shows, journal, IsOutside, Keeps, Sits, Fits, Kept, seat_after}
use Rattle.wit_seats.specs.Rule.{MayBecome, MayFollow, Followed}
use Rattle.wit_seats.proofs.Files.{files_more, files_both}
use Rattle.wit_seats.proofs.Cards.{all_set, each_some}

-- a seat of another card, or of none, whose entries aren't among the added ones
later_of : (log : Journal) (after : Story) (added : List Entry) (more : List (List ℕ)) (k : SeatKnowledge)
    → after.history ≡ added ++ log.entries → after.files ≡ log.files ++ more
    → own_entries k.seat added ≡ [] → IsSeatOf log k
    → IsSeatOf (journal after.history after.files log.handed) k
later_of log after added more k grows longer none f = record {
  number = f.number;
  own =
      ap (own_entries k.seat) grows ∙ filter-append (λ (e : Entry). e.seat.0 == k.seat) added
      log.entries ∙ ap (λ l. l ++ own_entries k.seat log.entries) none ∙ f.own;
  seen = (
    added ++ f.seen.0,
    grows ∙ ap (λ l. added ++ l) f.seen.1
        ∙ sym (append_assoc added f.seen.0 k.seen),
  );
  files =
      subst (λ (l : List (List ℕ)). AreFiles l k.given) (sym longer)
      (files_more log.files more k.given f.files);
}

-- the seat that made the step
mine_of : (log : Journal) (after : Story) (more : List (List ℕ)) (given : List (FileNo × List ℕ))
    (k : SeatKnowledge) → after.files ≡ log.files ++ more → AreFiles after.files given
    → IsSeatOf log k → IsSeatOf (journal after.history after.files log.handed)
    (caught_up after given k)
mine_of log after more given k longer named f = record {
  number = f.number;
  own = refl;
  seen = ([], refl);
  files =
      files_both after.files given k.given named
      (subst (λ (l : List (List ℕ)). AreFiles l k.given) (sym longer)
      (files_more log.files more k.given f.files));
}

mine_sits : (place : ℕ → ℕ) (log : Journal) (after : Story) (more : List (List ℕ))
    (given : List (FileNo × List ℕ)) (id : ℕ) (o : Option SeatKnowledge) → after.files ≡ log.files ++ more
    → AreFiles after.files given
    → IfSome o (Sits place log id)
    → IfSome (seat_after after given o)
    (Sits place (journal after.history after.files log.handed) id)
mine_sits place log after more given id None longer named s = tt
mine_sits place log after more given id (Some k) longer named s =
    record { card = s.card; known = mine_of log after more given k longer named s.known }

-- the seats of other cards are others
other_seat : (place : ℕ → ℕ) (log : Journal) (id m : ℕ) (o : Option SeatKnowledge) (k : SeatKnowledge)
    → IfSome o (Sits place log id) → m ≢ id → Sits place log m k
    → IfSome o (λ (x : SeatKnowledge). k.seat ≢ x.seat)
other_seat place log id m o k mine n s =
    each_some o (Sits place log id) (λ (x : SeatKnowledge). k.seat ≢ x.seat)
    (λ x f e. n (sym s.card ∙ ap place e ∙ f.card)) mine

no_seat : (place : ℕ → ℕ) (log : Journal) (id t : ℕ) (o : Option SeatKnowledge)
    → IfSome o (Sits place log id) → IsOutside log.handed t → IfSome o (λ (x : SeatKnowledge). t ≢ x.seat)
no_seat place log id t o mine out = each_some o (Sits place log id) (λ (x : SeatKnowledge). t ≢ x.seat)
    (λ x f e. let low : 0 < x.seat = f.known.number.0 in
    let high : x.seat ≤ log.handed = f.known.number.1 in
    ⊎_elim (λ (z : t ≡ 0). omega arith) (λ (l : log.handed < t). omega arith) out) mine

goes_on : (after : Story) (given : List (FileNo × List ℕ)) (id : ℕ) (j : Journal) (k : Option SeatKnowledge)
    (s : State (Unit {0}) CardView) → MayBecome after k j → AreFiles after.files given
    → (h : Kept s.views) → j ≡ h.log → get_elem? s.views id ≡ some (shows (Some j) k)
    → Kept (set s.views id (shows (Some (journal after.history after.files j.handed))
    (seat_after after given k)))
goes_on after given id j k s may named h is at =
    let mine = h.each id (shows (Some j) k) at in
    let log = journal after.history after.files h.log.handed in
    let added = may.entries.0 in
    let grows : after.history ≡ added ++ h.log.entries =
    may.entries.1 ∙ ap (λ (x : Journal). added ++ x.entries) is in
    let longer : after.files ≡ h.log.files ++ may.files.0 =
    may.files.1 ∙ ap (λ (x : Journal). x.files ++ may.files.0) is in record {
      keeper = h.keeper;
      place = h.place;
      log = log;
      outside =
          λ t o. ap (own_entries t) grows
          ∙ filter-append (λ (e : Entry). e.seat.0 == t) added h.log.entries
          ∙ ap (λ l. l ++ own_entries t h.log.entries)
          (may.entries.2 t (no_seat h.place h.log id t k mine.sits o)) ∙ h.outside t o;
      each =
          all_set (Fits h.keeper h.place log) s.views id
          (shows (Some (journal after.history after.files j.handed)) (seat_after after given k))
          (record {
            keeps =
                record {
                  card = mine.keeps.card;
                  log = ap (λ (x : Journal). journal after.history after.files x.handed) is;
                };
            sits = mine_sits h.place h.log after may.files.0 given id k longer named mine.sits;
          })
          (λ m u n e. record {
            keeps =
                each_some u.journal (Keeps h.keeper h.log m) (Keeps h.keeper log m)
                (λ x f. absurd (n (f.card ∙ sym mine.keeps.card))) (h.each m u e).keeps;
            sits = each_some u.holder (Sits h.place h.log m) (Sits h.place log m) (λ x f. record {
              card = f.card;
              known =
                  later_of h.log after added may.files.0 x grows longer
                  (may.entries.2 x.seat (other_seat h.place h.log id m k x mine.sits n f))
                  f.known;
            }) (h.each m u e).sits;
          });
    }

learns : (after : Story) (given : List (FileNo × List ℕ)) (id : ℕ) (j : Journal) (k : Option SeatKnowledge)
    (views : List CardView) → (h : Kept views) → j ≡ h.log → IfSome k (Sits h.place h.log id)
    → Followed after given (shows (Some j) k)
    (shows (Some (journal after.history after.files j.handed)) (seat_after after given k))
learns after given id j k views h is sits = record {
  now = refl;
  learnt =
      each_some k (Sits h.place h.log id) (IsSeatOf j)
      (λ x f. subst (λ (l : Journal). IsSeatOf l x) (sym is) f.known) sits;
  outside =
      subst (λ (l : Journal). (t : ℕ) → IsOutside l.handed t → own_entries t l.entries ≡ [])
      (sym is) h.outside;
}

follows_by : (after : Story) (given : List (FileNo × List ℕ)) (slots id word : ℕ)
    (j : Option Journal) (k : Option SeatKnowledge) (c : List (ℕ × Unit {0}))
    → MayFollow after given (shows j k)
    → Allows {S = Unit {0}} {V = CardView} (λ s. Kept s.views) slots id (shows j k, c) word (λ n. n)
    (λ n w. Followed after given (shows j k) w.0)
follows_by after given slots id word None k c may s h long at fits = absurd may.log
follows_by after given slots id word (Some j) k c may s h long at fits =
    let mine = h.each id (shows (Some j) k) at in (
      shows (Some (journal after.history after.files j.handed)) (seat_after after given k),
      keeps,
      tt,
      goes_on after given id j k s may.log may.named h mine.keeps.log at,
      learns after given id j k s.views h mine.keeps.log mine.sits,
    )

pub follows : (after : Story) (given : List (FileNo × List ℕ)) (slots id word : ℕ)
    (me : Me (Unit {0}) CardView) → MayFollow after given me.0
    → Allows {S = Unit {0}} {V = CardView} (λ s. Kept s.views) slots id me word (λ n. n)
    (λ n w. Followed after given me.0 w.0)
follows after given slots id word me may =
    follows_by after given slots id word me.0.journal me.0.holder me.1 may
