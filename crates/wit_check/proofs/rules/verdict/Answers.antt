use Rattle.std.proofs.Common.{◌≡◌, not, ◌&&◌, false, List, None, is_some, ap, sym, ◌∙◌}
use Rattle.std.specs.List.{last_or}
use Rattle.wit_model.specs.declared.locks.Instance.{Instance}
use Rattle.wit_model.specs.Rules.Chunks.{chain_of}
use Rattle.wit_model.specs.Rules.Types.{is_spin, class_of}
use Rattle.wit_model.specs.Rules.Verdict.{chain_asked, decided}
use Rattle.wit_check.specs.Answers.{answer_by, new_orders}
use Rattle.wit_check.specs.Bases.{basis}
use Rattle.wit_check.specs.Behind.{over}
use Rattle.wit_check.specs.Held.{sleep_chain, spin_chain}
use Rattle.wit_check.proofs.Last.{at-the-end}
use Rattle.wit_check.proofs.Ruling.{asked-of, none-held, of-spin, spin-decides, nothing-decides}
use Rattle.wit_check.proofs.Ruling.{chain-decides}
use Rattle.wit_check.proofs.rules.verdict.Goals as goal
use Rattle.wit_check.proofs.rules.verdict.Goals.{else-not-spin-via-then-not-spin+else-holds_spin}
use Rattle.wit_check.proofs.rules.verdict.Goals.{else-not-spin-via-else-not-spin}

pub judge-requires-clause-last : goal.judge-requires-clause-last
judge-requires-clause-last g c =
    sym (at-the-end (chain_of (g.L.Lists.chunks c.args.chains.lists.now) c.list_of-list.result))
    ∙ sym c.last.ensures ∙ c.in-Some.is

pub returns-then-holds_spin : goal.returns-then-holds_spin
returns-then-holds_spin g c =
    spin-decides c.args.profile (basis c.args.types.now c.args.matrix.now
    c.args.chains.lock_types.now) c.args.watch
    (sleep_chain (g.L.Lists.chunks c.args.chains.lists.now) c.args.chains.seat.0)
    (spin_chain (g.L.Lists.chunks c.args.chains.lists.now) c.args.chains.seat.0)
    c.args.request (sym c.is_on.ensures ∙ c.if-not-is_on.false)
    (sym (c.is_spin-spin.ensures ∙ ap is_spin c.class_of.ensures) ∙ c.if-not-spin.true)
    (sym c.holds_spin.ensures ∙ c.if-holds_spin.true)

pub returns-in-Some : goal.returns-in-Some
returns-in-Some g c =
    let calm : (not (is_spin (class_of c.args.request.type_no.0 c.args.types.now.types))
    && is_some (last_or None (spin_chain (g.L.Lists.chunks c.args.chains.lists.now)
    c.args.chains.seat.0))) ≡ false =
    elim c.else-not-spin.branch [
      | else-not-spin-via-then-not-spin+else-holds_spin w ↦ none-held
          (is_spin (class_of c.args.request.type_no.0 c.args.types.now.types))
          (is_some (last_or None (spin_chain (g.L.Lists.chunks c.args.chains.lists.now)
          c.args.chains.seat.0))) (sym w.holds_spin.ensures ∙ w.if-holds_spin.false)
      | else-not-spin-via-else-not-spin w ↦ of-spin
          (is_spin (class_of c.args.request.type_no.0 c.args.types.now.types))
          (is_some (last_or None (spin_chain (g.L.Lists.chunks c.args.chains.lists.now)
          c.args.chains.seat.0))) (sym (c.is_spin-spin.ensures ∙ ap is_spin c.class_of.ensures)
          ∙ w.if-not-spin.false)
    ] in
    let chain : chain_of (g.L.Lists.chunks c.args.chains.lists.now) c.list_of-list.result
    ≡ chain_asked (basis c.args.types.now c.args.matrix.now c.args.chains.lock_types.now)
    (sleep_chain (g.L.Lists.chunks c.args.chains.lists.now) c.args.chains.seat.0)
    (spin_chain (g.L.Lists.chunks c.args.chains.lists.now) c.args.chains.seat.0)
    c.args.request =
    asked-of (basis c.args.types.now c.args.matrix.now c.args.chains.lock_types.now)
    (g.L.Lists.chunks c.args.chains.lists.now) c.args.chains.seat.0 c.args.request
    c.is_spin-spin.result c.list_of-list.result
    (sym (c.is_spin-spin.ensures ∙ ap is_spin c.class_of.ensures)) c.list_of-list.ensures in
    ap (λ (e : List Instance). answer_by
    (new_orders (basis c.args.types.now c.args.matrix.now c.args.chains.lock_types.now) e
    c.args.request) c.judge.result) (sym chain)
    ∙ c.judge.ensures
    ∙ ap (λ (e : List Instance).
    decided (over c.args.profile
    (basis c.args.types.now c.args.matrix.now c.args.chains.lock_types.now) e
    c.args.request)) chain
    ∙ chain-decides c.args.profile
    (basis c.args.types.now c.args.matrix.now c.args.chains.lock_types.now) c.args.watch
    (sleep_chain (g.L.Lists.chunks c.args.chains.lists.now) c.args.chains.seat.0)
    (spin_chain (g.L.Lists.chunks c.args.chains.lists.now) c.args.chains.seat.0)
    c.args.request (sym c.is_on.ensures ∙ c.if-not-is_on.false) calm c.in-Some.last
    (ap (λ (e : List Instance). last_or None e) (sym chain)
    ∙ sym (at-the-end (chain_of (g.L.Lists.chunks c.args.chains.lists.now)
    c.list_of-list.result)) ∙ sym c.last.ensures ∙ c.in-Some.is)

pub returns-in-None : goal.returns-in-None
returns-in-None g c =
    let calm : (not (is_spin (class_of c.args.request.type_no.0 c.args.types.now.types))
    && is_some (last_or None (spin_chain (g.L.Lists.chunks c.args.chains.lists.now)
    c.args.chains.seat.0))) ≡ false =
    elim c.else-not-spin.branch [
      | else-not-spin-via-then-not-spin+else-holds_spin w ↦ none-held
          (is_spin (class_of c.args.request.type_no.0 c.args.types.now.types))
          (is_some (last_or None (spin_chain (g.L.Lists.chunks c.args.chains.lists.now)
          c.args.chains.seat.0))) (sym w.holds_spin.ensures ∙ w.if-holds_spin.false)
      | else-not-spin-via-else-not-spin w ↦ of-spin
          (is_spin (class_of c.args.request.type_no.0 c.args.types.now.types))
          (is_some (last_or None (spin_chain (g.L.Lists.chunks c.args.chains.lists.now)
          c.args.chains.seat.0))) (sym (c.is_spin-spin.ensures ∙ ap is_spin c.class_of.ensures)
          ∙ w.if-not-spin.false)
    ] in
    let chain : chain_of (g.L.Lists.chunks c.args.chains.lists.now) c.list_of-list.result
    ≡ chain_asked (basis c.args.types.now c.args.matrix.now c.args.chains.lock_types.now)
    (sleep_chain (g.L.Lists.chunks c.args.chains.lists.now) c.args.chains.seat.0)
    (spin_chain (g.L.Lists.chunks c.args.chains.lists.now) c.args.chains.seat.0)
    c.args.request =
    asked-of (basis c.args.types.now c.args.matrix.now c.args.chains.lock_types.now)
    (g.L.Lists.chunks c.args.chains.lists.now) c.args.chains.seat.0 c.args.request
    c.is_spin-spin.result c.list_of-list.result
    (sym (c.is_spin-spin.ensures ∙ ap is_spin c.class_of.ensures)) c.list_of-list.ensures in
    nothing-decides c.args.profile
    (basis c.args.types.now c.args.matrix.now c.args.chains.lock_types.now) c.args.watch
    (sleep_chain (g.L.Lists.chunks c.args.chains.lists.now) c.args.chains.seat.0)
    (spin_chain (g.L.Lists.chunks c.args.chains.lists.now) c.args.chains.seat.0)
    c.args.request (sym c.is_on.ensures ∙ c.if-not-is_on.false) calm
    (ap (λ (e : List Instance). last_or None e) (sym chain)
    ∙ sym (at-the-end (chain_of (g.L.Lists.chunks c.args.chains.lists.now)
    c.list_of-list.result)) ∙ sym c.last.ensures ∙ c.in-None.is)
