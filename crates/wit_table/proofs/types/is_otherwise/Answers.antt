use Rattle.std.proofs.Common.{sym, ◌∙◌, ap, not}
use Rattle.wit_model.proofs.Classes.{same-class}
use Rattle.wit_table.proofs.Places.{is_otherwise-none, is_otherwise-some}
use Rattle.wit_table.proofs.types.is_otherwise.Goals as goal

pub returns-in-Some : goal.returns-in-Some
returns-in-Some c =
    c.ne.ensures ∙ ap not (same-class _ _) ∙ sym (is_otherwise-some c.args.name.now c.args.class
    c.args.types.now.entries _ c.len-len.ensures.unique (sym c.in-Some.ensures.value))

pub returns-in-None : goal.returns-in-None
returns-in-None c =
    sym (is_otherwise-none c.args.name.now c.args.class c.args.types.now.entries
    (sym c.in-None.ensures.value))
