use Rattle.std.proofs.Common.{ℕ, List, string_bytes, sym, ◌∙◌, arith}
use Rattle.wit_model.specs.declared.locks.Class.{Class}
use Rattle.wit_known.specs.Listed.{is_back}
use Rattle.wit_known.proofs.Listing.{behind-none, behind-here}
use Rattle.wit_known.proofs.known.Known.is_behind.Goals as goal

pub returns-then-is_back : goal.returns-then-is_back
returns-then-is_back c =
    behind-here (λ (e : Class × List ℕ). is_back c.args.self.now.known.types
    c.args.self.now.known.orders (string_bytes c.args.first.now.1) e.1) c.args.list.now
    c.loop-entry.entry-index
    c.entry-item.result (omega arith) c.entry-item.is (sym c.is_back.ensures ∙ c.if-is_back.true)

pub returns : goal.returns
returns c =
    behind-none (λ (e : Class × List ℕ). is_back c.args.self.now.known.types
    c.args.self.now.known.orders (string_bytes c.args.first.now.1) e.1) c.args.list.now
    (λ k d lt. c.loop-entry.invariant k d (omega arith))
