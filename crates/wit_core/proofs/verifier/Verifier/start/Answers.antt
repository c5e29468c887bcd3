use Rattle.std.proofs.Common.{◌≡◌, [], refl, ap₂, subst, ◌∙◌}
use Rattle.wit_known.specs.Fresh.{start_of}
use Rattle.wit_waiting.specs.Seats.{idle_seating}
use Rattle.std.proofs.lemmas.Result.{err_from_is_err_and}
use Rattle.wit_known.proofs.Entering.{start-unmade, lists-refused, pairs-refused, all-accepted}
use Rattle.wit_known.proofs.Entering.{is-begun}
use Rattle.wit_core.proofs.Entries.Beginning.{kept_begun}
use Rattle.wit_core.proofs.Whole.{kept}
use Rattle.wit_core.proofs.verifier.Verifier.start.Goals as goal

pub returns-in_err-enter_lists-clause-err : goal.returns-in_err-enter_lists-clause-err
returns-in_err-enter_lists-clause-err c =
    let p =
    err_from_is_err_and c.from_residual-in_err-enter_lists.result
    c.from_residual-in_err-enter_lists.ensures.1 in
    rw (p.1, p.2)
    (lists-refused c.args.profile c.args.limits c.types-types.result c.args.lists.items
    c.deref.result.now c.args.blessed.items c.args.blessed.items c.in_ok-known.known
    c.types-types.ensures.value c.deref.ensures.value refl c.in_ok-known.ensures.ok
    c.in_err-enter_lists.field-0.0.list c.in_err-enter_lists.field-0.0.fault
    c.in_err-enter_lists.ensures.err)

pub returns-in_err-bless_all-clause-err : goal.returns-in_err-bless_all-clause-err
returns-in_err-bless_all-clause-err c =
    let p =
    err_from_is_err_and c.from_residual-in_err-bless_all.result
    c.from_residual-in_err-bless_all.ensures.1 in
    rw (p.1, p.2)
    (pairs-refused c.args.profile c.args.limits c.types-types.result c.args.lists.items
    c.deref.result.now c.args.blessed.items c.deref-2.result.now c.in_ok-known.known
    c.types-types.ensures.value c.deref.ensures.value c.deref-2.ensures.value
    c.in_ok-known.ensures.ok
    _ c.in_ok-enter_lists.ensures.accepted c.in_err-bless_all.ensures.err)

pub returns-in_err-seats-clause-err : goal.returns-in_err-seats-clause-err
returns-in_err-seats-clause-err c =
    let p =
    err_from_is_err_and c.from_residual-in_err-seats.result
    c.from_residual-in_err-seats.ensures.1 in
    rw (p.1, p.2) (start-unmade (start_of c.args.profile c.args.limits c.args.lists.items
    c.args.blessed.items) _ c.in_err-seats.ensures.err)

pub invariant_of-result : goal.invariant_of-result
invariant_of-result c =
    kept (
    kept_begun _ c.args.limits c.args.lists.items c.args.blessed.items refl refl
    (is-begun c.args.profile c.args.limits c.types-types.result c.args.lists.items
    c.deref.result.now c.args.blessed.items c.deref-2.result.now c.in_ok-known.known
    c.types-types.ensures.value c.deref.ensures.value c.deref-2.ensures.value
    c.in_ok-known.ensures.ok
    c.enter_lists.new.self c.bless_all.new.self c.in_ok-enter_lists.ensures.entered
    c.in_ok-bless_all.ensures.ok)
    (c.in_ok-seats.ensures.ok ∙ ap₂ idle_seating c.seats.ensures.value c.chunks.ensures.value) refl
    (subst (λ n. c.new-3.result ≡ record {
      limit = n;
      history = [];
      owed = 0;
      spare = c.new-3.result.spare;
    }) c.log.ensures.value c.new-3.ensures) refl
    (all-accepted c.args.profile c.args.limits c.types-types.result c.args.lists.items
    c.deref.result.now c.args.blessed.items c.deref-2.result.now c.in_ok-known.known
    c.types-types.ensures.value c.deref.ensures.value c.deref-2.ensures.value
    c.in_ok-known.ensures.ok
    c.in_ok-enter_lists.ensures.accepted c.in_ok-bless_all.ensures.good))
