use Rattle.std.proofs.Common.{None, length, map, ap, ap₂, sym, ◌∙◌, arith}
use Rattle.std.proofs.lemmas.List.{get_or-map}
use Rattle.wit_model.proofs.Rows.Shown.{map-remove}
use Rattle.wit_findings.specs.Runs.{taken_at, found}
use Rattle.wit_findings.specs.Told.{Told, nothing_of, told}
use Rattle.wit_findings.proofs.processes.take.Goals as goal

pub returns-in-Some-clause-taken : goal.returns-in-Some-clause-taken
returns-in-Some-clause-taken c =
    let items = c.args.others.now.items in
    ap₂ (λ (t : Told) ts. (t, ts))
    (ap told c.remove.ensures.value
    ∙ sym (get_or-map told items c.in-Some.place c.remove.result (nothing_of None)
    (omega (arith, c.in-Some.ensures.within, ap length c.deref.ensures.value))))
    (ap (map told) c.remove.ensures.items ∙ map-remove told items c.in-Some.place)
    ∙ ap (taken_at c.args.process (map told items))
    (sym c.in-Some.is ∙ c.find.ensures.value
    ∙ ap (λ rs. found c.args.process (map told rs)) c.deref.ensures.value)
