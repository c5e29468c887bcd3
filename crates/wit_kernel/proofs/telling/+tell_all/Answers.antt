use Rattle.std.proofs.Common.{◌≡◌, ◌∷◌, ◌-◌, ◌∙◌, arith, drop, length, take}
use Rattle.std.proofs.lemmas.List.{drop_more, take_rest}
use Rattle.wit_gathered.specs.Gathering.{gathered}
use Rattle.wit_gathered.specs.Naming.{names}
use Rattle.wit_import.specs.Telling.{told}
use Rattle.wit_kernel.proofs.First.{first-told, on-ok-then}
use Rattle.wit_kernel.proofs.telling.+tell_all.Goals as goal

pub returns-in_ok-tell_kept-in-len1-up : goal.returns-in_ok-tell_kept-in-len1-up
returns-in_ok-tell_kept-in-len1-up t c =
    let all = c.args.all.now in
    let first = c.kept-item.result in
    let split = drop_more all 0 first (omega arith) in
    let others = take (length all - 1) (drop 1 all) in
    let rest = take_rest all 1 in
    let is : all ≡ first ∷ others = cc in
    on-ok-then c.tell_all.result c.tell_all.ensures
    (λ later. later
    ∙ first-told (names c.args.naming.now) (gathered c.args.gathering.now).places
    (told c.args.teller.now) (told c.tell_kept.new.teller) all others first is
    c.in_ok-tell_kept-in-len1-up.ensures)
