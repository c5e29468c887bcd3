-- What a call does to the verifier in a place.
use Rattle.std.specs.Prelude.{ℕ, ℤ, ◌≡◌, List, Option, None, Some, Result}
use Rattle.wit_model.specs.declared.calls.Call.{Call}
use Rattle.wit_model.specs.declared.faults.Fault.{Fault}
use Rattle.wit_model.specs.Rules.State.{Story}
use Rattle.wit_model.specs.Rules.Step.{Answers, AnswersOrFails}
use Rattle.wit_model.specs.declared.locks.FileNo.{FileNo}
use Rattle.wit_model.specs.Rules.Files.{NamesFile}
use Rattle.wit_c.specs.Numbers.{empty_place, answer_number, file_number}
use Rattle.wit_c.specs.Texts.{IsTold, IsToldOrFails}
use Rattle.wit_c.specs.declared.kept_verifier.KeptVerifier.{KeptVerifier}

-- an empty place stays so, and that is the answer; a full one stays full, and the rest says what
-- its verifier has done
abbrev pub InPlace : (KeptVerifier → ℤ → KeptVerifier → Type 0) → Option KeptVerifier → ℤ → Option KeptVerifier → Type 0
InPlace does None n new = (n ≡ empty_place) × (new ≡ None)
InPlace does (Some old) n None = ⊥
InPlace does (Some old) n (Some new) = does old n new

-- the verifier is asked, and stays
abbrev pub Asks : (Story → ℤ → Type 0) → Option KeptVerifier → ℤ → Option KeptVerifier → Type 0
Asks says = InPlace (λ old n new. says old.verifier n × (new ≡ old))

-- a file is named to it
abbrev pub Names : List ℕ → Option KeptVerifier → ℤ → Option KeptVerifier → Type 0
Names name = InPlace (λ old n new. (answer : Result FileNo Fault)
    × ((NamesFile old.verifier name answer new.verifier × (n ≡ file_number answer))
    × (new.last ≡ old.last)))

-- the seat's call is answered as by the verifier's own, the answer is kept, and its number told
abbrev pub Calls : ℕ → Call → Option KeptVerifier → ℤ → Option KeptVerifier → Type 0
Calls seat call = InPlace (λ old n new.
    AnswersOrFails old.verifier seat call new.last new.verifier × (n ≡ answer_number new.last))

-- the same of a call that takes no memory, and so is never refused for want of it
abbrev pub CallsSurely : ℕ → Call → Option KeptVerifier → ℤ → Option KeptVerifier → Type 0
CallsSurely seat call = InPlace (λ old n new.
    Answers old.verifier seat call new.last new.verifier × (n ≡ answer_number new.last))

-- the verifier tells something in a buffer, and stays; of an empty place the buffer stays too
abbrev pub Tells : {B : Type 0} → (KeptVerifier → B → ℤ → B → Type 0) → B → B → Option KeptVerifier → ℤ
    → Option KeptVerifier → Type 0
Tells says old_buffer new_buffer None n new =
    (n ≡ empty_place) × ((new ≡ None) × (new_buffer ≡ old_buffer))
Tells says old_buffer new_buffer (Some old) n None = ⊥
Tells says old_buffer new_buffer (Some old) n (Some new) =
    says old old_buffer n new_buffer × (new ≡ old)

-- what it tells is a text or a list, or there was no memory for that
abbrev pub TellsAll : {X : Type 0} → (KeptVerifier → List X) → List X → List X
    → Option KeptVerifier → ℤ → Option KeptVerifier → Type 0
TellsAll all = Tells (λ kept old n new. IsToldOrFails (all kept) old n new)

-- and where no memory is wanted for it
abbrev pub TellsSurely : {X : Type 0} → (KeptVerifier → List X) → List X → List X
    → Option KeptVerifier → ℤ → Option KeptVerifier → Type 0
TellsSurely all = Tells (λ kept old n new. IsTold (all kept) old n new)

-- what it tells fills a structure
abbrev pub Fills : {X : Type 0} → (KeptVerifier → ℤ) → (KeptVerifier → X) → X → X
    → Option KeptVerifier → ℤ → Option KeptVerifier → Type 0
Fills number what = Tells (λ kept old n new. (n ≡ number kept) × (new ≡ what kept))
