-- A file that is named.
use Rattle.std.proofs.Common.{◌≡◌, ℕ, Bool, true, false, cond, List, [], ◌∷◌, ◌++◌, Option, None}
use Rattle.std.proofs.Common.{Some, IfSome, Ok, Err, Result, IfOk, IfErr, OnOk, OnErr, length, sym}
use Rattle.std.proofs.Common.{ap, refl, subst}
use Rattle.std.specs.Borrow.{Bor}
use Rattle.wit_model.specs.declared.faults.Fault.{Fault}
use Rattle.wit_model.specs.declared.faults.Fault.TheVariants.{OutOfMemory}
use Rattle.wit_model.specs.declared.locks.FileNo.{FileNo}
use Rattle.wit_model.specs.declared.calls.Entry.{Entry}
use Rattle.wit_model.specs.declared.sizes.TheConstants.Limits.{MOST_FILES}
use Rattle.wit_model.specs.Rules.Refusals.{IsRefusal}
use Rattle.wit_model.specs.Rules.Files.{is_known_file, file_answer, file_number, files_after}
use Rattle.wit_model.specs.Rules.Files.{NamesFile}
use Rattle.wit_model.specs.Rules.Names.{is_file_name}
use Rattle.wit_model.specs.Rules.State.{Start, State, Story}
use Rattle.wit_model.specs.Rules.Step.{answer_of, story_after, IsLegal}
use Rattle.wit_model.proofs.Histories.NamedFiles.{answer-named, legal-named}
use Rattle.wit_table.specs.Known.{HasFile, Names}
use Rattle.wit_core.specs.declared.verifier.Verifier.TheInside.{Inside}
use Rattle.wit_core.specs.Plans.{planned_call}
use Rattle.wit_core.specs.declared.ready.Ready.{Ready}
use Rattle.wit_core.specs.Kept.{IsReady, IsTied, start_in, history_in, story_in}
use Rattle.wit_known.specs.Known.{Facts}

-- a verifier that knows this
abbrev pub with_known : Inside → Facts → Inside
with_known v new = record v { known = new }

-- the story of a naming
pub file_named : (v : Inside) (name : List ℕ) (r : Result FileNo Fault) (new : Facts)
    → IfOk r (λ f. file_answer name MOST_FILES v.known.files ≡ Ok f.0)
    → OnOk r (new ≡ record v.known { files = files_after name v.known.files })
    → IfErr r (IsRefusal (file_answer name MOST_FILES v.known.files))
    → IfErr r (λ e. e ≡ OutOfMemory → is_known_file name v.known.files ≡ false)
    → OnErr r (new ≡ v.known)
    → NamesFile (story_in v) name r (story_in (with_known v new))
file_named v name (Ok f) new ok entered err absent same =
    (ok, ap (λ n. story_in (with_known v n)) entered)
file_named v name (Err fault) new ok entered err absent same =
    (err, absent, ap (λ n. story_in (with_known v n)) same)

-- a file that is known is named again, and nothing changes
named_again : (s : Story) (files : List (List ℕ)) (name : List ℕ) (f : FileNo) → files ≡ s.files
    → is_file_name name ≡ true → is_known_file name files ≡ true → file_number name files ≡ f.0
    → NamesFile s name (Ok f) s
named_again s files name f same good known number =
    subst (λ (fs : List (List ℕ)). NamesFile (record s { files = fs }) name (Ok f)
    (record s { files = fs })) same (rw (good, known, number) refl, rw known refl)

pub recent_again : (s : Story) (names : Names) (o : Option (FileNo × Bor (List ℕ)))
    → names.files ≡ s.files → IfSome o (λ f. HasFile names f.1.now f.0.0)
    → IfSome o (λ f. NamesFile s f.1.now (Ok f.0) s)
recent_again s names None same has = tt
recent_again s names (Some f) same has =
    named_again s names.files f.1.now f.0 same has.1 has.2 has.3

-- a naming that is accepted leaves the history legal
files_legal : (start : Start) (h : List Entry) (old : List (List ℕ)) (name : List ℕ)
    → IsLegal start old h → IsLegal start (files_after name old) h
files_legal start h old name legal = go (is_known_file name old)
  where
    go : (b : Bool) → IsLegal start (cond b old (old ++ name ∷ [])) h
    go true = legal
    go false = legal-named start old name h legal

-- what is prepared is ready with one more file
ready_named : (v : Inside) (name : List ℕ) (o : Option Ready) → IfSome o (IsReady v)
    → IfSome o (IsReady (with_known v (record v.known { files = files_after name v.known.files })))
ready_named v name None h = tt
ready_named v name (Some r) h =
    record {
      answer = go (is_known_file name v.known.files);
      kept = h.kept;
      logged = h.logged;
      log = h.log;
      known = h.known;
    }
  where
    go : (b : Bool) → answer_of (story_after (start_in v)
        (cond b v.known.files (v.known.files ++ name ∷ [])) (history_in v)) r.seat.0
        (planned_call r.plan) ≡ Ok r.reply
    go true = h.answer
    go false =
        answer-named (start_in v) v.known.files name (history_in v) r.seat.0
        (planned_call r.plan) r.reply h.answer

-- naming a file keeps the invariant
pub kept_file : (v : Inside) (name : List ℕ) (r : Result FileNo Fault) (new : Facts) → IsTied v
    → OnOk r (new ≡ record v.known { files = files_after name v.known.files })
    → OnErr r (new ≡ v.known) → IsTied (with_known v new)
kept_file v name (Ok f) new k entered same =
    subst (λ n. IsTied (with_known v n)) (sym entered) (record {
      started = k.started;
      legal = files_legal (start_in v) (history_in v) v.known.files name k.legal;
      state =
          ap (λ (s : State). record s { files = length (files_after name v.known.files) }) k.state;
      found = k.found;
      live = k.live;
      owed = k.owed;
      limit = k.limit;
      types = k.types;
      chunks = k.chunks;
      ready = ready_named v name v.ready k.ready;
    })
kept_file v name (Err fault) new k entered same = subst (λ n. IsTied (with_known v n)) (sym same) k
