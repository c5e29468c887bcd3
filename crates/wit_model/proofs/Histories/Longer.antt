-- What stays as a history goes on: numbers of files and of orders.
use Rattle.std.proofs.Common.{◌≡◌, ℕ, ◌+◌, ◌-◌, Bool, true, false, cond, nat_lt, is_some, List, []}
use Rattle.std.proofs.Common.{◌∷◌, ◌++◌, length, reverse, None, Some, find, Ok, refl, ap, sym, ◌∙◌}
use Rattle.std.proofs.Common.{inl, inr, arith, length-append}
use Rattle.std.specs.List.{slice_get, list_any, position_or_len}
use Rattle.std.specs.Str.{bytes_eq}
use Rattle.std.proofs.lemmas.Bool.{cases_Bool, false≢true}
use Rattle.std.proofs.lemmas.List.{append_assoc, get_or_append_left, reverse-append, length-reverse}
use Rattle.std.proofs.lemmas.List.Folds.{find_at}
use Rattle.std.proofs.lemmas.Option.{slice_get_within, slice_get-get_or, get_or_from_slice_get}
use Rattle.std.proofs.lemmas.Slice.Eq.{bytes_eq-Decides}
use Rattle.wit_model.specs.declared.locks.TypeNo.{TypeNo}
use Rattle.wit_model.specs.declared.locks.Origin.{Origin}
use Rattle.wit_model.specs.declared.locks.Origin.TheVariants.{Defined, At}
use Rattle.wit_model.specs.declared.calls.Adoption.{Adoption}
use Rattle.wit_model.specs.declared.calls.Call.{Call}
use Rattle.wit_model.specs.declared.calls.Call.TheVariants.{Init, Destroy, Check, Note, NoteTry}
use Rattle.wit_model.specs.declared.calls.Call.TheVariants.{GiveUp, Unlock, SetWatch, Upgrade}
use Rattle.wit_model.specs.declared.calls.Call.TheVariants.{Downgrade, NoRelease, ReleaseOk}
use Rattle.wit_model.specs.declared.calls.Call.TheVariants.{DefineOrder}
use Rattle.wit_model.specs.declared.calls.Reply.{Reply}
use Rattle.wit_model.specs.declared.calls.Reply.TheVariants.{Adopted, Recorded, Exhausted}
use Rattle.wit_model.specs.declared.calls.Reply.TheVariants.{Unrecorded}
use Rattle.wit_model.specs.declared.calls.Entry.{Entry}
use Rattle.wit_model.specs.Rules.Files.{is_known_file, file_number, files_after}
use Rattle.wit_model.specs.Rules.Numbers.{with_number}
use Rattle.wit_model.specs.Rules.Orders.{adopted}
use Rattle.wit_model.specs.Rules.History.{is_off}
use Rattle.wit_model.specs.Rules.State.{Start, State, state_of, orders_of}
use Rattle.wit_model.specs.Rules.Step.{is_exhausted, held_by, recorded_reply, step, story_after}
use Rattle.wit_model.specs.Rules.Step.{IsLegal}
use Rattle.wit_model.specs.HistoryLaws.{adoptions}
use Rattle.wit_model.proofs.Histories.Accepted.{note_accepted}
use Rattle.wit_model.proofs.Histories.AcceptedLocks.{init_accepted, destroy_accepted}
use Rattle.wit_model.proofs.Histories.Accepted.{try_accepted, give_up_accepted, unlock_accepted}
use Rattle.wit_model.proofs.Histories.AcceptedLocks.{watch_accepted}
use Rattle.wit_model.proofs.Histories.AcceptedTurns.{upgrade_accepted, downgrade_accepted}
use Rattle.wit_model.proofs.Histories.AcceptedTurns.{mark_accepted}
use Rattle.wit_model.proofs.Numbered.{with_number-at}

-- ---- numbers

slice-more : {X : Type 0} (xs more : List X) (k : ℕ) (x : X) → slice_get xs k ≡ Some x
    → slice_get (xs ++ more) k ≡ Some x
slice-more xs more k x is =
    let within = slice_get_within xs k x is in
    slice_get-get_or (xs ++ more) k x (omega (arith, within, length-append xs more))
    ∙ ap Some (get_or_append_left xs more x k within ∙ get_or_from_slice_get xs k x x is)

pub number-stays : {X : Type 0} (xs more : List X) (n : ℕ) (x : X)
    → with_number xs n ≡ Some x → with_number (xs ++ more) n ≡ Some x
number-stays xs more n x = go (nat_lt 0 n)
  where
    go : (b : Bool) → cond b (slice_get xs (n - 1)) None ≡ Some x
        → cond b (slice_get (xs ++ more) (n - 1)) None ≡ Some x
    go true is = slice-more xs more (n - 1) x is
    go false is = (cc)

slice-behind : {X : Type 0} (xs : List X) (x : X) → slice_get (xs ++ x ∷ []) (length xs) ≡ Some x
slice-behind [] x = refl
slice-behind (y ∷ xs) x = slice-behind xs x

number-next : {X : Type 0} (xs : List X) (k : ℕ) → with_number xs (k + 1) ≡ slice_get xs k
number-next xs k =
    let back : k + 1 - 1 ≡ k = omega arith in
    with_number-at xs (k + 1) (omega arith) ∙ ap (λ n. slice_get xs n) back

-- what is added has the next number
number-added : {X : Type 0} (xs : List X) (x : X)
    → with_number (xs ++ x ∷ []) (length xs + 1) ≡ Some x
number-added xs x = number-next (xs ++ x ∷ []) (length xs) ∙ slice-behind xs x

-- ---- files

module _ (name : List ℕ) where
  abbrev is_it : List ℕ → Bool
  is_it f = bytes_eq f name

  found : (files : List (List ℕ)) → list_any is_it files ≡ true
      → slice_get files (position_or_len is_it files) ≡ Some name
  found files known = sym (find_at is_it files) ∙ go files known
    where
      go : (fs : List (List ℕ)) → list_any is_it fs ≡ true → find is_it fs ≡ Some name
      go [] is = absurd (false≢true is)
      go (f ∷ fs) is =
          elim (cases_Bool (bytes_eq f name)) [
            | inl same ↦ rw same (ap Some ((bytes_eq-Decides f name).0 same))
            | inr other ↦ rw other (go fs (let later : list_any is_it fs
                ≡ true = sym (rw other refl) ∙ is in later))
          ]

  place-stays : (files more : List (List ℕ)) → list_any is_it files ≡ true
      → position_or_len is_it (files ++ more) ≡ position_or_len is_it files
  place-stays [] more is = absurd (false≢true is)
  place-stays (f ∷ files) more is =
      elim (cases_Bool (bytes_eq f name)) [
        | inl same ↦ rw same refl
        | inr other ↦
            let later : list_any is_it files ≡ true = sym (rw other refl) ∙ is in
            rw other (ap (λ n. 1 + n) (place-stays files more later))
      ]

  place-new : (files : List (List ℕ)) → list_any is_it files ≡ false
      → position_or_len is_it files ≡ length files
  place-new [] none = refl
  place-new (f ∷ files) none =
      elim (cases_Bool (bytes_eq f name)) [
        | inl same ↦ absurd (false≢true (sym none ∙ rw same refl))
        | inr other ↦
            let later : list_any is_it files ≡ false = sym (rw other refl) ∙ none in
            let before = place-new files later in rw other (omega (arith, before))
      ]

pub file-stays : (name : List ℕ) (files more : List (List ℕ))
    → is_known_file name files ≡ true → file_number name (files ++ more) ≡ file_number name files
file-stays name files more known = ap (λ n. n + 1) (place-stays name files more known)

pub file-there : (name : List ℕ) (files : List (List ℕ))
    → with_number (files_after name files) (file_number name files) ≡ Some name
file-there name files = go (is_known_file name files) refl
  where
    go : (b : Bool) → is_known_file name files ≡ b
        → with_number (cond b files (files ++ name ∷ [])) (file_number name files) ≡ Some name
    go true known = number-next files (position_or_len (is_it name) files) ∙ found name files known
    go false none =
        ap (λ n. with_number (files ++ name ∷ []) (n + 1)) (place-new name files none)
        ∙ number-added files name

pub files-added : (name : List ℕ) (files : List (List ℕ))
    → (more : List (List ℕ)) × (files_after name files ≡ files ++ more)
files-added name files = go (is_known_file name files)
  where
    none-more : (fs : List (List ℕ)) → fs ≡ fs ++ []
    none-more [] = refl
    none-more (f ∷ fs) = ap (λ gs. f ∷ gs) (none-more fs)

    go : (b : Bool) → (more : List (List ℕ)) × (cond b files (files ++ name ∷ []) ≡ files ++ more)
    go true = ([], none-more files)
    go false = (name ∷ [], refl)

-- ---- orders

abbrev is_other : Reply → Bool
is_other (Adopted a b) = false
is_other r = true

orders-later : (start : Start) (later h : List Entry)
    → (news : List Adoption) × (orders_of start (later ++ h) ≡ news ++ orders_of start h)
orders-later start [] h = ([], refl)
orders-later start (e ∷ later) h =
    let before = orders-later start later h in (
      adopted e.call e.reply ++ before.0,
      ap (λ os. adopted e.call e.reply ++ os) before.1
          ∙ sym (append_assoc (adopted e.call e.reply) before.0 (orders_of start h)),
    )

pub orders-added : (start : Start) (later h : List Entry)
    → (news : List Adoption) × (adoptions start (later ++ h) ≡ adoptions start h ++ news)
orders-added start later h =
    let more = orders-later start later h in
    (reverse more.0, ap reverse more.1 ∙ reverse-append more.0 (orders_of start h))

pub order-stays : (start : Start) (later h : List Entry) (n : ℕ) (o : Adoption)
    → with_number (adoptions start h) n ≡ Some o
    → with_number (adoptions start (later ++ h)) n ≡ Some o
order-stays start later h n o is =
    let more = orders-added start later h in
    ap (λ os. with_number os n) more.1 ∙ number-stays (adoptions start h) more.0 n o is

-- no acquisition is recorded by an order
not-recorded : (off held none : Bool) (a b : TypeNo)
    → Adopted a b ≡ cond off Unrecorded (cond held Recorded (cond none Exhausted Recorded)) → ⊥
not-recorded true held none a b is = (cc)
not-recorded false true none a b is = (cc)
not-recorded false false true a b is = (cc)
not-recorded false false false a b is = (cc)

-- only a check or the defining of an order is answered so
module _ (s : State) (t : ℕ) (a b : TypeNo) where
  by-record : (l : ℕ) → Adopted a b ≡ recorded_reply s t l → ⊥
  by-record l = not-recorded (is_off s.watch) (is_some (held_by s t l)) (is_exhausted s t l) a b

  -- what else a call is answered
  other-reply : (r : Reply) → is_other r ≡ true → Adopted a b ≡ r → ⊥
  other-reply r other is = absurd (false≢true (ap is_other is ∙ other))

  adopts : (c : Call) → step s t c ≡ Ok (Adopted a b)
      → (origin : Origin) × (adopted c (Adopted a b)
      ≡ record { parent = a; child = b; origin = origin } ∷ [])
  adopts (Check q) ok = (At q.site, refl)
  adopts (DefineOrder x y) ok = (Defined, refl)
  adopts (Init lock) ok =
      absurd (other-reply _ refl (init_accepted s t lock (Adopted a b) ok).reply)
  adopts (Note l) ok = absurd (by-record l.0 (note_accepted s t l.0 (Adopted a b) ok).reply)
  adopts (NoteTry l m site) ok =
      absurd (by-record l.0 (try_accepted s t l.0 m site (Adopted a b) ok).reply)
  adopts (GiveUp l) ok =
      absurd (other-reply _ refl (give_up_accepted s t l.0 (Adopted a b) ok).reply)
  adopts (Unlock l m) ok =
      absurd (other-reply _ refl (unlock_accepted s t l.0 m (Adopted a b) ok refl).reply)
  adopts (SetWatch w) ok = absurd (other-reply _ refl (watch_accepted s t w (Adopted a b) ok).reply)
  adopts (Destroy l) ok =
      absurd (other-reply _ refl (destroy_accepted s t l.0 (Adopted a b) ok).reply)
  adopts (Upgrade l) ok =
      absurd (other-reply _ refl (upgrade_accepted s t l.0 (Adopted a b) ok refl).reply)
  adopts (Downgrade l) ok =
      absurd (other-reply _ refl (downgrade_accepted s t l.0 (Adopted a b) ok refl).reply)
  adopts (NoRelease l) ok =
      absurd (other-reply _ refl (mark_accepted s t l.0 (Adopted a b) ok refl).reply)
  adopts (ReleaseOk l) ok =
      absurd (other-reply _ refl (mark_accepted s t l.0 (Adopted a b) ok refl).reply)

pub adopted-numbered : (start : Start) (files : List (List ℕ)) (e : Entry) (later h : List Entry)
    (a b : TypeNo)
    → IsLegal start files (e ∷ h) → e.reply ≡ Adopted a b
    → (origin : Origin)
    × (with_number (adoptions start (later ++ e ∷ h)) (length (orders_of start h) + 1)
    ≡ Some (record { parent = a; child = b; origin = origin }))
adopted-numbered start files e later h a b legal is =
    let made =
    adopts (state_of (story_after start files h)) e.seat.0 a b e.call (legal.0 ∙ ap Ok is) in
    let o : Adoption = record { parent = a; child = b; origin = made.0 } in
    let now : adoptions start (e ∷ h) ≡ adoptions start h ++ o ∷ []
    = ap (λ r. reverse (adopted e.call r ++ orders_of start h)) is
    ∙ ap (λ os. reverse (os ++ orders_of start h)) made.1
    ∙ reverse-append (o ∷ []) (orders_of start h) in
    let number = number-added (adoptions start h) o in
    let there : with_number (adoptions start (e ∷ h)) (length (orders_of start h) + 1) ≡ Some o
    = ap (λ os. with_number os (length (orders_of start h) + 1)) now
    ∙ ap (λ n. with_number (adoptions start h ++ o ∷ []) (n + 1))
    (sym (length-reverse (orders_of start h)))
    ∙ number in
    (made.0, order-stays start later (e ∷ h) (length (orders_of start h) + 1) o there)
