-- What a verifier knows, and what its calls add to it.
use Rattle.std.specs.Prelude.{ℕ, ◌<◌, ◌≤◌, Bool, List, [], ◌++◌, length, IsOk}
use Rattle.wit_model.specs.declared.calls.Call.TheVariants.{Init, Check}
use Rattle.wit_model.specs.declared.calls.NewLock.{NewLock}
use Rattle.wit_model.specs.declared.calls.Reply.{Reply}
use Rattle.wit_model.specs.declared.calls.Reply.TheVariants.{Adopted, AdoptedAll, Silent, Duplicate}
use Rattle.wit_model.specs.declared.calls.Reply.TheVariants.{Reversal}
use Rattle.wit_model.specs.declared.calls.Request.{Request}
use Rattle.wit_model.specs.Rules.Types.{types_after, type_name_of}
use Rattle.wit_model.specs.Rules.Locks.{lock_at, made_among}
use Rattle.wit_model.specs.Rules.Orders.{adopted}
use Rattle.wit_model.specs.Rules.State.{Known, found_after}
use Rattle.wit_model.specs.Rules.Numbers.{IsNumber}
use Rattle.wit_table.specs.Known.{enroll_answer}
use Rattle.wit_known.specs.Following.{CanFollow, CanAllFollow}

-- what is known, where the pairs found in violation are those of the rules in any order; whether
-- each lock is live, the files that were named, how many types there may be, and for how many more
-- orders there is memory
pub record Facts : Type 0 where
  pub known : Known
  pub live : List Bool
  pub files : List (List ℕ)
  pub most_types : ℕ
  pub spare : ℕ

abbrev pub nothing_known : Known
nothing_known = record { types = []; locks = []; orders = []; found = []; blessed = [] }

-- the type of a new lock is known, or can be enrolled
abbrev pub IsAdmitted : Facts → NewLock → Type 0
IsAdmitted f lock = IsOk (enroll_answer (type_name_of lock) lock.class f.most_types f.known.types)

-- what a reply teaches is orders that can be adopted among n types, or a pair of them
abbrev pub IsApt : ℕ → Known → Reply → Type 0
IsApt n k (Adopted p c) = CanFollow n k.orders p.0 c.0
IsApt n k (AdoptedAll pairs) = CanAllFollow n k.orders pairs
IsApt n k (Silent a b) = IsNumber n a.0 × IsNumber n b.0
IsApt n k (Duplicate d) = IsNumber n (lock_at k.locks d.asked.lock.0).type_no.0
IsApt n k (Reversal c) = IsNumber n (lock_at k.locks c.held.lock.0).type_no.0
    × IsNumber n (lock_at k.locks c.asked.lock.0).type_no.0
IsApt n k _ = Unit {0}

-- memory for n more orders is enough for those that a reply teaches
abbrev pub IsRoomFor : Reply → ℕ → Type 0
IsRoomFor (Adopted p c) n = 0 < n
IsRoomFor (AdoptedAll pairs) n = length pairs ≤ n
IsRoomFor _ n = Unit {0}

-- what is known once a request was answered so
abbrev pub learnt : Known → Request → Reply → Known
learnt k q reply =
    record k {
      orders = adopted (Check q) reply ++ k.orders;
      found = found_after k.locks reply k.found;
    }

-- what is known once a lock was made
abbrev pub with_lock : Known → NewLock → Known
with_lock k lock =
    record k {
      types = types_after (Init lock) k.types;
      locks = k.locks ++ made_among k.types (Init lock);
    }
