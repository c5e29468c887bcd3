-- Another order of the same threads' deeds, as other luck or another scheduler might have given it.
use Rattle.std.specs.Prelude.{ℕ, List, map}
use Rattle.wit_model.specs.declared.calls.Call.{Call}
use Rattle.wit_model.specs.declared.calls.Call.TheVariants.{Check, DefineOrder}
use Rattle.wit_model.specs.declared.calls.Reply.{Reply}
use Rattle.wit_model.specs.declared.calls.Reply.TheVariants.{Pass}
use Rattle.wit_model.specs.Rules.Beginnings.{IsBeginning}
use Rattle.wit_model.specs.Rules.State.{Start}
use Rattle.wit_model.specs.World.Deeds.{Deed, Logged, own}
use Rattle.wit_model.specs.World.Steps.{IsWorld}

-- which order a check teaches or breaks, and whether a defined one was known, depends on what
-- others did before: a thread doesn't look at that
abbrev pub kept_reply : Call → Reply → Reply
kept_reply (Check q) reply = Pass
kept_reply (DefineOrder a b) reply = Pass
kept_reply _ reply = reply

-- a deed as its thread sees it
abbrev pub kept : Deed → Deed
kept (Logged e) =
    Logged (record { seat = e.seat; call = e.call; reply = kept_reply e.call e.reply })
kept d = d

-- the world v reorders the deeds of w: each thread's deeds in v are a beginning of its deeds in w,
-- with the same replies save those. The run itself is a reordering of it, and so is each of its
-- moments
pub record IsReordering (start : Start) (v w : List Deed) : Type 0 where
  pub files : List (List ℕ)
  pub world : IsWorld start files v
  pub same : (t : ℕ) → IsBeginning (map kept (own t v)) (map kept (own t w))
