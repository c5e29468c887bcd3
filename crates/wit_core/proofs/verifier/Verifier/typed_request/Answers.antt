use Rattle.std.proofs.Common.{ap, ap₂, ◌∙◌, List}
use Rattle.wit_model.specs.declared.flags.LockFlags.{LockFlags}
use Rattle.wit_model.specs.declared.locks.Lock.{Lock}
use Rattle.wit_model.specs.declared.locks.TypeNo.{TypeNo}
use Rattle.wit_model.specs.Rules.Locks.{lock_at}
use Rattle.wit_model.specs.Rules.State.{State}
use Rattle.wit_model.specs.Rules.Verdict.{typed_request}
use Rattle.wit_core.proofs.Now.{now}
use Rattle.wit_core.proofs.Seen.{seen_as}
use Rattle.wit_core.proofs.verifier.Verifier.typed_request.Goals as goal

pub returns : goal.returns
returns c =
    ap₂ (λ (n : TypeNo) (fs : LockFlags). record {
      lock = c.args.request.lock;
      type_no = n;
      flags = fs;
      mode = c.args.request.mode;
      ops = c.args.request.ops;
      site = c.args.request.site;
    })
    (c.type_of.ensures ∙ ap (λ (ls : List Lock). (lock_at ls c.args.request.lock.0).type_no)
    c.locks-locks.ensures)
    (c.flags_of.ensures ∙ ap
    (λ (ls : List Lock). (lock_at ls c.args.request.lock.0).made.flags) c.locks-locks.ensures)
    ∙ ap (λ (x : State). typed_request x.known c.args.request)
    (now (seen_as c.self.invariant c.self.view_is))
