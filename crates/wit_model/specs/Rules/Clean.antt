-- A clean history: nothing was reported, and each check was free to learn its order.
use Rattle.std.specs.Prelude.{ℕ, ◌≡◌, Bool, true, false, not, ◌&&◌, List, []}
use Rattle.std.specs.List.{list_all}
use Rattle.wit_model.specs.declared.profiles.Profile.{Profile}
use Rattle.wit_model.specs.declared.profiles.Profile.TheVariants.{Plain}
use Rattle.wit_model.specs.declared.calls.Call.{Call}
use Rattle.wit_model.specs.declared.calls.Call.TheVariants.{Init, Check, NoteTry, SetWatch}
use Rattle.wit_model.specs.declared.calls.Entry.{Entry}
use Rattle.wit_model.specs.Rules.Types.{type_name_of, is_giant_type}
use Rattle.wit_model.specs.Rules.Locks.{has_flag}
use Rattle.wit_model.specs.Rules.History.{is_on, is_report}
use Rattle.wit_model.specs.Rules.State.{Story, state_of}
use Rattle.wit_model.specs.Rules.Circles.{IsRecordCircle}

-- no lock is Giant or allows a second one of its type (0x02); each check may teach an order (0x01)
-- and allows no second lock of a type (0x02); nothing is tried, unless all held locks are compared
-- with: then the orders behind a tried lock are learnt too; and everything is watched
abbrev pub is_clean_call : Profile → Call → Bool
is_clean_call profile (Init lock) =
    not (has_flag lock.flags.0 0x02) && not (is_giant_type lock.class (type_name_of lock))
is_clean_call profile (Check q) = has_flag q.ops.0 0x01 && not (has_flag q.ops.0 0x02)
is_clean_call Plain (NoteTry l m s) = false
is_clean_call profile (SetWatch level) = is_on level
is_clean_call profile _ = true

abbrev pub is_clean_entry : Profile → Entry → Bool
is_clean_entry profile e = is_clean_call profile e.call && not (is_report e.reply)

-- whether a history is clean, where no pair of type names is blessed at its start
abbrev pub is_clean : Profile → List Entry → Bool
is_clean profile h = list_all (is_clean_entry profile) h

-- where a story's history is clean, and it blesses no pair, no seats wait for one another in a
-- circle
abbrev pub CleanMeansNoCircle : Story → Type 0
CleanMeansNoCircle s = s.start.blessed ≡ [] → is_clean s.start.profile s.history ≡ true
    → (seats : List ℕ) → IsRecordCircle (state_of s) seats → ⊥
