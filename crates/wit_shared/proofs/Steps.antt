-- Each call of the verifier goes on by entries of its seat alone, so that its seat may follow it.
use Rattle.std.proofs.Common.{◌≡◌, ◌≢◌, ℕ, Bool, true, false, cond, not, ◌&&◌, nat_le, List, []}
use Rattle.std.proofs.Common.{◌∷◌, ◌++◌, length, Result, Ok, Err, refl, ap, sym, ◌∙◌, subst, ne_eqb}
use Rattle.std.proofs.Common.{append-nil}
use Rattle.wit_model.specs.declared.faults.Fault.{Fault}
use Rattle.wit_model.specs.declared.locks.FileNo.{FileNo}
use Rattle.wit_model.specs.declared.calls.Call.{Call}
use Rattle.wit_model.specs.declared.calls.Reply.{Reply}
use Rattle.wit_model.specs.Rules.Files.{NamesFile, is_known_file, files_after}
use Rattle.wit_model.specs.Rules.History.{own_entries}
use Rattle.wit_model.specs.Rules.State.{Start, Story}
use Rattle.wit_model.specs.Rules.Step.{Answers, AnswersOrFails, is_logged, logged, grown}
use Rattle.wit_seats.specs.declared.views.Journal.{Journal}
use Rattle.wit_seats.specs.declared.views.SeatKnowledge.{SeatKnowledge}
use Rattle.wit_seats.specs.Rule.{journal}
use Rattle.wit_seats.specs.Seats.{Grows, Entered, Told}
use Rattle.wit_model.specs.declared.faults.Fault.TheVariants.{BadName, FilesFull}
use Rattle.wit_model.specs.declared.sizes.TheConstants.Limits.{MOST_FILES}
use Rattle.wit_model.specs.Rules.Files.{file_number}
use Rattle.wit_model.specs.Rules.Names.{is_file_name}
use Rattle.wit_model.specs.Rules.Numbers.{with_number}
use Rattle.wit_model.proofs.Histories.Longer.{file-there}
use Rattle.wit_seats.specs.Seats.{AreFiles}
use Rattle.wit_shared.specs.Calls.{StoryGoesOn}
use Rattle.wit_shared.specs.Publishing.{Makes}

pub stays : (t : ℕ) (old new : Story) → new ≡ old → StoryGoesOn t old new
stays t old new e = record {
  start = ap (λ (s : Story). s.start) e;
  entries = ([], ap (λ (s : Story). s.history) e, λ other n. refl);
  files = ([], ap (λ (s : Story). s.files) e ∙ sym (append-nil old.files));
}

-- one entry is of its seat alone
one_of : (t other : ℕ) (call : Call) (reply : Reply) → other ≢ t
    → own_entries other (record { seat = record { 0 = t }; call = call; reply = reply } ∷ []) ≡ []
one_of t other call reply n =
    ap (λ b. cond b (record { seat = record { 0 = t }; call = call; reply = reply } ∷ []) [])
    (ne_eqb t other (λ e. n (sym e)))

logs : (old : Story) (t : ℕ) (call : Call) (reply : Reply)
    → StoryGoesOn t old (logged old t call reply)
logs old t call reply = record {
  start = refl;
  entries = (
    record { seat = record { 0 = t }; call = call; reply = reply } ∷ [],
    refl,
    λ other n.
        one_of t other call reply n,
  );
  files = ([], sym (append-nil old.files));
}

grows_if : (b : Bool) (old : Story) (t : ℕ) (call : Call) (reply : Reply)
    → StoryGoesOn t old (cond b (logged old t call reply) old)
grows_if true old t call reply = logs old t call reply
grows_if false old t call reply = stays t old old refl

grows : (old : Story) (t : ℕ) (call : Call) (reply : Reply)
    → StoryGoesOn t old (grown old t call reply)
grows old t call reply = grows_if (is_logged reply) old t call reply

pub answers : (old : Story) (t : ℕ) (call : Call) (result : Result Reply Fault) (new : Story)
    → Answers old t call result new → StoryGoesOn t old new
answers old t call (Ok reply) new h = subst (StoryGoesOn t old) (sym h.1) (grows old t call reply)
answers old t call (Err fault) new h = stays t old new h.1

pub fails : (old : Story) (t : ℕ) (call : Call) (result : Result Reply Fault) (new : Story)
    → AnswersOrFails old t call result new → StoryGoesOn t old new
fails old t call (Ok reply) new h = subst (StoryGoesOn t old) (sym h.1) (grows old t call reply)
fails old t call (Err fault) new h = stays t old new h.1

-- so does one for which it was prepared first
pub makes : (old : Story) (t : ℕ) (call : Call) (result : Result Reply Fault) (new : Story)
    → Makes old t call result new → StoryGoesOn t old new
makes old t call result new m =
    let g =
    subst (λ (s : Story). StoryGoesOn t s new) m.same
    (fails m.before t call result new m.did) in
    record { start = g.start; entries = g.entries; files = g.files }

names_if : (b : Bool) (t : ℕ) (name : List ℕ) (old : Story)
    → StoryGoesOn t old (record old { files = cond b old.files (old.files ++ name ∷ []) })
names_if true t name old = stays t old old refl
names_if false t name old =
    record { start = refl; entries = ([], refl, λ other n. refl); files = (name ∷ [], refl) }

pub names : (t : ℕ) (name : List ℕ) (old : Story) (result : Result FileNo Fault) (new : Story)
    → NamesFile old name result new → StoryGoesOn t old new
names t name old (Ok f) new h =
    subst (StoryGoesOn t old) (sym h.1) (names_if (is_known_file name old.files) t name old)
names t name old (Err fault) new h = stays t old new h.2

-- the keeper that knew the old verifier may follow
pub may_follow : (keeper : Journal) (old new : Story) (handed t : ℕ)
    → keeper ≡ journal old.history old.files handed → StoryGoesOn t old new → Grows keeper t new
may_follow keeper old new handed t is g =
    subst (λ (j : Journal). Grows j t new) (sym is)
    (record { entries = g.entries; files = g.files })

-- what it then tells the seat
pub tells : (start : Start) (given : List (FileNo × List ℕ)) (means : Story → Story
    → Type 0) (keeper : Journal) (old new : Story) (handed : ℕ) (v w : SeatKnowledge)
    → old.start ≡ start → keeper ≡ journal old.history old.files handed
    → Entered start given keeper.entries keeper.files new v w → means old new
    → Told start given means v w
tells start given means keeper old new handed v w began is e did = record {
  before = old;
  after = new;
  began = began;
  entered = subst (λ (j : Journal). Entered start given j.entries j.files new v w) is e;
  did = did;
}

-- the seat is told of the verifier that was prepared
pub tells_made : (start : Start) (keeper : Journal) (old new : Story) (handed : ℕ) (call : Call)
    (result : Result Reply Fault) (v w : SeatKnowledge)
    → old.start ≡ start → keeper ≡ journal old.history old.files handed
    → Entered start [] keeper.entries keeper.files new v w
    → Makes old v.seat call result new
    → Told start [] (λ s n. AnswersOrFails s v.seat call result n) v w
tells_made start keeper old new handed call result v w began is e m =
    tells start [] (λ s n. AnswersOrFails s v.seat call result n) keeper m.before new handed v w
    (ap (λ (s : Story). s.start) m.same ∙ began)
    (is ∙ ap (λ (s : Story). journal s.history s.files handed) (sym m.same)) e m.did

-- a number that was given is the file's
given_number : (bad full : Bool) (number n : ℕ)
    → cond bad (Err BadName) (cond full (Err FilesFull) (Ok number)) ≡ Ok n → number ≡ n
given_number true full number n e = (cc)
given_number false true number n e = (cc)
given_number false false number n e = (cc)

-- so the file stands under it
pub named_there : (name : List ℕ) (old : Story) (f : FileNo) (new : Story)
    → NamesFile old name (Ok f) new → AreFiles new.files ((f, name) ∷ [])
named_there name old f new h =
    let number =
    given_number (not (is_file_name name)) (not (is_known_file name old.files)
    && nat_le MOST_FILES (length old.files)) (file_number name old.files) f.0 h.0 in (
      ap (λ (s : Story). with_number s.files f.0) h.1
          ∙ ap (λ n. with_number (files_after name old.files) n) (sym number)
          ∙ file-there name old.files,
      tt,
    )
