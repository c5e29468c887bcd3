use Rattle.std.proofs.Common.{◌≡◌, OnOk, ap, ap₂, ◌∙◌, subst}
use Rattle.std.specs.Map.{lookup}
use Rattle.wit_tellings.specs.Heard.{Heard, asking_after, heard, key_of, same_key, with_asking, with_pair}
use Rattle.wit_tellings.proofs.tellings.Tellings.add_pair.Goals as goal

pub returns : goal.returns
returns c =
    let before : Heard = heard c.args.self.now in
    let pair = c.args.pair in
    let key = c.key_of-key.ensures in
    let e : with_asking before c.key_of-key.result c.in_ok-asking.asking ≡ with_pair before pair =
    ap₂ (with_asking before) key
    (c.in_ok-asking.ensures
    ∙ ap (λ o. asking_after o pair)
    (c.known.ensures ∙ ap (λ k. lookup (same_key k) before.asked) key)) in
    subst (λ h. OnOk c.put.result (heard c.put.new.self ≡ h)) e c.put.ensures
