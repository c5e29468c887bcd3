-- Each pair that counts as written was written.
use Rattle.std.proofs.Common.{◌≡◌, ℕ, Bool, true, false, not, ◌&&◌, ◌||◌, cond, List, [], ◌∷◌, ◌++◌}
use Rattle.std.proofs.Common.{refl, sym, ap, ◌∙◌, subst, append_assoc, append-nil, inl, inr, ⊎_elim}
use Rattle.std.proofs.Common.{◌⊎◌, Option, Some, None}
use Rattle.std.specs.Str.{bytes_eq}
use Rattle.std.proofs.lemmas.Bool.{or_cases, or_left, or_right, and_parts}
use Rattle.std.proofs.lemmas.List.Folds.{list_any-append}
use Rattle.std.proofs.lemmas.Slice.Eq.{bytes_eq-Decides}
use Rattle.wit_import.specs.declared.events.Acquisition.{Acquisition}
use Rattle.wit_import.specs.declared.events.Event.{Event}
use Rattle.wit_import.specs.declared.events.Event.TheVariants.{Asks, Gets, Tries, Releases, Twice, Loses}
use Rattle.wit_import.specs.declared.held.Holding.{Holding}
use Rattle.wit_import.specs.Blocks.{Told, are_known, has_room, held_inits, init_lines, is_written}
use Rattle.wit_import.specs.Blocks.{lines_with, pair_text, request_text, told_after, types_after}
use Rattle.wit_import.specs.Blocks.{assert_line, block, has_place, held_lock, twice_text}
use Rattle.wit_import.specs.Blocks.{with_pairs, with_types}
use Rattle.wit_import.specs.declared.events.Release.{Release}
use Rattle.wit_model.specs.declared.locks.Class.{Class}
use Rattle.wit_model.specs.declared.locks.Class.TheVariants.{Sx}
use Rattle.wit_import.specs.Held.{asks_again, is_of, place_released}
use Rattle.wit_import.specs.Laws.{IsAmong, TellsPair, PairsAreTold, RequestsAreWritten, seen_behind}
use Rattle.wit_import.specs.Laws.{text_behind}
use Rattle.wit_import.specs.Names.{has_name, with_name}
use Rattle.wit_import.specs.Outputs.{Seen, after_release, after_twice, nothing_seen, release_text}
use Rattle.wit_import.specs.Outputs.{seen_after, text_of_event, unheld_text, with_unheld}

-- ---- a name that is added

module _ (names : List (List ℕ)) (n : List ℕ) where
  pub has-added : has_name (with_name names n) n ≡ true
  has-added = by (has_name names n) refl
    where
      by : (b : Bool) → has_name names n ≡ b
          → has_name (cond b names (names ++ n ∷ [])) n ≡ true
      by true is = is
      by false is =
          list_any-append (bytes_eq n) names (n ∷ [])
          ∙ or_right (has_name names n) (bytes_eq n n || false)
          (or_left (bytes_eq n n) false ((bytes_eq-Decides n n).1 refl))

  pub has-still : (p : List ℕ) → has_name names p ≡ true → has_name (with_name names n) p ≡ true
  has-still p has = by (has_name names n)
    where
      by : (b : Bool) → has_name (cond b names (names ++ n ∷ [])) p ≡ true
      by true = has
      by false =
          list_any-append (bytes_eq p) names (n ∷ [])
          ∙ or_left (has_name names p) (bytes_eq p n || false) has

  pub has-before : (p : List ℕ) → has_name (with_name names n) p ≡ true
      → (has_name names p ≡ true) ⊎ (p ≡ n)
  has-before p has = by (has_name names n) has
    where
      last : (bytes_eq p n || false) ≡ true → p ≡ n
      last is =
          ⊎_elim (λ yes. (bytes_eq-Decides p n).0 yes) (λ no. (cc))
          (or_cases (bytes_eq p n) false is)

      by : (b : Bool) → has_name (cond b names (names ++ n ∷ [])) p ≡ true
          → (has_name names p ≡ true) ⊎ (p ≡ n)
      by true is = inl is
      by false is =
          ⊎_elim (λ yes. inl yes) (λ new. inr (last new))
          (or_cases (has_name names p) (bytes_eq p n || false)
          (sym (list_any-append (bytes_eq p) names (n ∷ [])) ∙ is))

-- ---- the pairs of a request

module _ (thread b : List ℕ) where
  pub pairs-still : (held : List Holding) (pairs : List (List ℕ)) (p : List ℕ)
      → has_name pairs p ≡ true → has_name (with_pairs pairs thread b held) p ≡ true
  pairs-still [] pairs p has = has
  pairs-still (h ∷ held) pairs p has =
      pairs-still held (cond (is_of thread h) (with_name pairs (pair_text h.acquisition.name b)) pairs)
      p (by (is_of thread h))
    where
      by : (own : Bool)
          → has_name (cond own (with_name pairs (pair_text h.acquisition.name b)) pairs) p ≡ true
      by true = has-still pairs (pair_text h.acquisition.name b) p has
      by false = has

  pub pairs-have : (held : List Holding) (pairs : List (List ℕ)) (h : Holding)
      → IsAmong h held → is_of thread h ≡ true
      → has_name (with_pairs pairs thread b held) (pair_text h.acquisition.name b) ≡ true
  pairs-have [] pairs h among own = absurd among
  pairs-have (first ∷ held) pairs h among own =
      ⊎_elim (λ is. here is) (λ later. pairs-have held _ h later own) among
    where
      here : h ≡ first
          → has_name (with_pairs pairs thread b (first ∷ held)) (pair_text h.acquisition.name b)
          ≡ true
      here is =
          pairs-still held
          (cond (is_of thread first) (with_name pairs (pair_text first.acquisition.name b)) pairs)
          (pair_text h.acquisition.name b)
          (subst (λ (k : Holding). has_name
          (cond (is_of thread k) (with_name pairs (pair_text k.acquisition.name b)) pairs)
          (pair_text h.acquisition.name b) ≡ true) is
          (subst (λ own. has_name (cond own (with_name pairs (pair_text h.acquisition.name b)) pairs)
          (pair_text h.acquisition.name b) ≡ true) (sym own)
          (has-added pairs (pair_text h.acquisition.name b))))

  -- one that is a pair now, was one or is one of the request
  abbrev pub IsNew : List Holding → List ℕ → Type 0
  IsNew held p =
      (h : Holding) × (IsAmong h held × ((is_of thread h ≡ true)
      × (p ≡ pair_text h.acquisition.name b)))

  pub pairs-before : (held : List Holding) (pairs : List (List ℕ)) (p : List ℕ)
      → has_name (with_pairs pairs thread b held) p ≡ true
      → (has_name pairs p ≡ true) ⊎ IsNew held p
  pairs-before [] pairs p has = inl has
  pairs-before (h ∷ held) pairs p has =
      ⊎_elim (λ was. by (is_of thread h) refl was)
      (λ new. inr (new.0, (inr new.1.0, new.1.1)))
      (pairs-before held
      (cond (is_of thread h) (with_name pairs (pair_text h.acquisition.name b)) pairs) p has)
    where
      by : (own : Bool) → is_of thread h ≡ own
          → has_name (cond own (with_name pairs (pair_text h.acquisition.name b)) pairs) p ≡ true
          → (has_name pairs p ≡ true) ⊎ IsNew (h ∷ held) p
      by false is was = inl was
      by true is was =
          ⊎_elim (λ old. inl old) (λ here. inr (h, (inl refl, (is, here))))
          (has-before pairs (pair_text h.acquisition.name b) p was)

-- ---- texts

abbrev pub AreTold : List ℕ → List (List ℕ) → Type 0
AreTold text pairs = (p : List ℕ) → has_name pairs p ≡ true → TellsPair text p

longer : (text more p : List ℕ) → TellsPair text p → TellsPair (text ++ more) p
longer text more p t =
    let lines = lines_with t.types t.held t.asked in
    record {
      before = t.before;
      after = t.after ++ more;
      types = t.types;
      held = t.held;
      asked = t.asked;
      holding = t.holding;
      parted =
          ap (λ (w : List ℕ). w ++ more) t.parted
          ∙ (append_assoc t.before (lines ++ t.after) more
          ∙ ap (λ (w : List ℕ). t.before ++ w) (append_assoc lines t.after more));
      among = t.among;
      own = t.own;
      names = t.names;
    }

-- the lines of a request, behind those by which its types get numbers
module _ (text : List ℕ) (t : Told) (held : List Holding) (a : Acquisition) where
  abbrev types : List (List ℕ)
  types = types_after t.types held a

  abbrev made : List ℕ
  made =
      held_inits t.types a.thread held ++ init_lines (with_types t.types a.thread held) a.class a.name

  parts : text ++ block t held a ≡ (text ++ made) ++ (lines_with types held a ++ [])
  parts =
      sym (append_assoc text made (lines_with types held a))
      ∙ ap (λ (w : List ℕ). (text ++ made) ++ w) (sym (append-nil (lines_with types held a)))

  new-told : (p : List ℕ) → IsNew a.thread a.name held p → TellsPair (text ++ block t held a) p
  new-told p new = record {
    before = text ++ made;
    after = [];
    types = types;
    held = held;
    asked = a;
    holding = new.0;
    parted = parts;
    among = new.1.0;
    own = new.1.1.0;
    names = new.1.1.1;
  }

  abbrev later : Told
  later = record { types = types; pairs = with_pairs t.pairs a.thread a.name held }

  pub asking-told : AreTold text t.pairs
      → AreTold (text ++ request_text t held a) (told_after t held a).pairs
  asking-told told = by (is_written t held a)
    where
      by : (b : Bool) → AreTold (text ++ cond b (block t held a) []) (cond b later t).pairs
      by false = λ p has. longer text [] p (told p has)
      by true =
          λ p has. ⊎_elim (λ was. longer text (block t held a) p (told p was))
          (λ new. new-told p new) (pairs-before a.thread a.name held t.pairs p has)

nothing-more : (text : List ℕ) (pairs : List (List ℕ)) → AreTold text pairs
    → AreTold (text ++ []) pairs
nothing-more text pairs told = λ p has. longer text [] p (told p has)

-- what is told of a release adds no pair
more-told : (text more : List ℕ) (pairs : List (List ℕ)) → AreTold text pairs
    → AreTold (text ++ more) pairs
more-told text more pairs told = λ p has. longer text more p (told p has)

twice-told : (s : Seen) (class : Class) (name text : List ℕ) → AreTold text s.told.pairs
    → AreTold (text ++ twice_text s.told class name) (after_twice s name).told.pairs
twice-told s class name text told = by (has_place s.told.types name)
  where
    lines : List ℕ
    lines =
        init_lines s.told.types class name
        ++ assert_line (held_lock (with_name s.told.types name) name)

    by : (b : Bool) → AreTold (text ++ cond b lines [])
        (cond b (record s.told { types = with_name s.told.types name }) s.told).pairs
    by true = more-told text lines s.told.pairs told
    by false = nothing-more text s.told.pairs told

unheld-told : (s : Seen) (name : Option (List ℕ)) (text : List ℕ) → AreTold text s.told.pairs
    → AreTold (text ++ unheld_text s name) (with_unheld s name).told.pairs
unheld-told s None text told = nothing-more text s.told.pairs told
unheld-told s (Some name) text told = twice-told s Sx name text told

release-told : (s : Seen) (r : Release) (place : Option ℕ) (text : List ℕ) → AreTold text s.told.pairs
    → AreTold (text ++ release_text s r place) (after_release s r place).told.pairs
release-told s r (Some n) text told = nothing-more text s.told.pairs told
release-told s r None text told = by (has_name s.freed r.lock)
  where
    by : (b : Bool) → AreTold (text ++ cond b (unheld_text s r.name) [])
        (cond b (with_unheld s r.name) s).told.pairs
    by true = unheld-told s r.name text told
    by false = nothing-more text s.told.pairs told

event-told : (s : Seen) (event : Event) (text : List ℕ) → AreTold text s.told.pairs
    → AreTold (text ++ text_of_event s event) (seen_after s event).told.pairs
event-told s (Asks a) text told = asking-told text s.told s.held a told
event-told s (Gets a) text told = asking-told text s.told s.held a told
event-told s (Tries a) text told = nothing-more text s.told.pairs told
event-told s (Releases r) text told = release-told s r (place_released s.held r) text told
event-told s (Twice t) text told = twice-told s t.class t.name text told
event-told s Loses text told = nothing-more text s.told.pairs told

run-told : (events : List Event) (s : Seen) (text : List ℕ) → AreTold text s.told.pairs
    → AreTold (text ++ text_behind s events) (seen_behind s events).told.pairs
run-told [] s text told = nothing-more text s.told.pairs told
run-told (event ∷ events) s text told =
    subst (λ (w : List ℕ). AreTold w (seen_behind s (event ∷ events)).told.pairs)
    (append_assoc text (text_of_event s event) (text_behind (seen_after s event) events))
    (run-told events (seen_after s event) (text ++ text_of_event s event)
    (event-told s event text told))

pub pairs-told : PairsAreTold
pairs-told events pair has = run-told events nothing_seen [] (λ p none. (cc)) pair has

-- ---- a request

known-has : (pairs : List (List ℕ)) (thread b : List ℕ) (held : List Holding) (h : Holding)
    → are_known pairs thread b held ≡ true → IsAmong h held → is_of thread h ≡ true
    → has_name pairs (pair_text h.acquisition.name b) ≡ true
known-has pairs thread b [] h known among own = absurd among
known-has pairs thread b (first ∷ held) h known among own =
    let parts =
    and_parts (not (is_of thread first) || has_name pairs (pair_text first.acquisition.name b))
    (are_known pairs thread b held) known in
    ⊎_elim (λ is. here is parts.0) (λ later. known-has pairs thread b held h parts.1 later own) among
  where
    at : (not true || has_name pairs (pair_text h.acquisition.name b)) ≡ true
        → has_name pairs (pair_text h.acquisition.name b) ≡ true
    at is = is

    here : h ≡ first
        → (not (is_of thread first) || has_name pairs (pair_text first.acquisition.name b)) ≡ true
        → has_name pairs (pair_text h.acquisition.name b) ≡ true
    here is test =
        at (subst (λ own. (not own || has_name pairs (pair_text h.acquisition.name b)) ≡ true) own
        (subst (λ (k : Holding). (not (is_of thread k)
        || has_name pairs (pair_text k.acquisition.name b)) ≡ true) (sym is) test))

module _ (s : Seen) (a : Acquisition) where
  abbrev known-pairs : Bool
  known-pairs = are_known s.told.pairs a.thread a.name s.held

  abbrev behind : Told
  behind = record {
    types = types_after s.told.types s.held a;
    pairs = with_pairs s.told.pairs a.thread a.name s.held;
  }

  abbrev unless : Bool → Bool
  unless known = not known && (not (asks_again s.held a) && has_room s.told.types s.held a)

  pub written-so : (h : Holding) → asks_again s.held a ≡ false
      → has_room s.told.types s.held a ≡ true → IsAmong h s.held → is_of a.thread h ≡ true
      → has_name (told_after s.told s.held a).pairs (pair_text h.acquisition.name a.name) ≡ true
  written-so h again room among own = by known-pairs refl
    where
      by : (known : Bool) → known-pairs ≡ known
          → has_name (told_after s.told s.held a).pairs (pair_text h.acquisition.name a.name) ≡ true
      by true is =
          ap (λ b. has_name (cond (unless b) behind s.told).pairs
          (pair_text h.acquisition.name a.name)) is
          ∙ known-has s.told.pairs a.thread a.name s.held h is among own
      by false is =
          ap (λ b. has_name (cond (unless b) behind s.told).pairs
          (pair_text h.acquisition.name a.name)) is
          ∙ (ap (λ b. has_name (cond (not b && has_room s.told.types s.held a) behind s.told).pairs
          (pair_text h.acquisition.name a.name)) again
          ∙ (ap (λ b. has_name (cond b behind s.told).pairs (pair_text h.acquisition.name a.name)) room
          ∙ pairs-have a.thread a.name s.held s.told.pairs h among own))

pub requests-written : RequestsAreWritten
requests-written s a h again room among own = written-so s a h again room among own
