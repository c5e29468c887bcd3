use Rattle.std.proofs.Common.{◌≡◌, ◌+◌, ◌-◌, ◌<◌, None, ap, arith, drop, length, sym, take, ◌∙◌}
use Rattle.std.proofs.lemmas.List.{drop-drop, take_rest}
use Rattle.std.specs.Option.{option_map}
use Rattle.wit_traced.specs.Heads.{columns, head_parted}
use Rattle.wit_traced.proofs.Skipped.{beyond}
use Rattle.wit_traced.proofs.heads.+head_from.Goals as goal

pub returns-in-None : goal.returns-in-None
returns-in-None t c =
    let bytes = c.args.bytes.now in
    let place = c.bracket_from-place.result in
    let back = c.split_at.result.1.now in
    let within : place < length bytes = omega arith in
    let text : take (length back - 1) (drop 1 back) ≡ drop (place + 1) bytes =
    take_rest back 1 ∙ (ap (drop 1) c.split_at.ensures.back ∙ drop-drop 1 place bytes) in
    let front = c.split_at.ensures.front in
    let nothing = ap (option_map columns) c.in-None.is in
    let read = c.head_parted.ensures in
    let none : head_parted (take place bytes) (drop (place + 1) bytes) ≡ None = cc in
    c.head_from.ensures
    ∙ (sym (beyond bytes place within c.bracket_from-place.ensures.bracket none)
    ∙ sym c.bracket_from-place.ensures.head)
