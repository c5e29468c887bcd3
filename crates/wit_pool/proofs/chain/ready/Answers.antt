use Rattle.std.proofs.Common.{◌≡◌, None, Some, is_some, false, refl, sym, ◌∙◌, inr, arith}
use Rattle.std.proofs.Common.{true≢false}
use Rattle.std.specs.Prelude.{Option}
use Rattle.wit_pool.proofs.chain.ready.Goals as goal

none-there : {A : Type 0} (o : Option A) → is_some o ≡ false → o ≡ None
none-there None h = refl
none-there (Some x) h = absurd (true≢false h)

pub returns-clause-ready : goal.returns-clause-ready
returns-clause-ready c =
    inr (record {
      none = none-there c.args.free.head (sym c.is_some.ensures ∙ c.if-is_some.false);
      link = c.link_to-at.result;
      chunk = record { next = None; group = c.empty-group.result };
      leads = c.link_to-at.ensures.leads;
      place = c.link_to-at.ensures.place;
      last = omega (arith, c.if-unmade-eq0.false);
      now = c.write.ensures.slots;
      empty = c.empty-group.ensures;
      ends = refl;
      free = (refl, refl);
    })
