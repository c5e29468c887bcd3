use Rattle.std.proofs.Common.{map, ap, ◌∙◌}
use Rattle.std.specs.List.{insert}
use Rattle.wit_findings.specs.Runs.{place_of}
use Rattle.wit_findings.specs.Told.{told}
use Rattle.wit_findings.proofs.Runs.{map-insert}
use Rattle.wit_findings.proofs.processes.put_back.Goals as goal

pub returns-clause-back : goal.returns-clause-back
returns-clause-back c =
    let ts = map told c.args.others.now.items in
    ap (map told) c.in_ok-insert.ensures.items
    ∙ map-insert told c.args.others.now.items c.place_of-place.result c.args.one
    ∙ ap (λ k. insert ts k (told c.args.one)) (c.place_of-place.ensures.value
    ∙ ap (λ rs. place_of c.args.one.process (map told rs)) c.deref.ensures.value)
