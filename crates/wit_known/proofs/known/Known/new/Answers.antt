use Rattle.std.proofs.Common.{length, ap, ap₂, sym, ◌∙◌}
use Rattle.wit_model.specs.declared.sizes.TheConstants.Limits.{MOST_FILES}
use Rattle.wit_table.specs.Known.{Names, live_of}
use Rattle.wit_known.specs.Ordering.{Ordering}
use Rattle.wit_known.specs.Live.{live_count}
use Rattle.wit_known.specs.MadeLocks.{MadeLocks}
use Rattle.wit_known.proofs.LiveFlags.{none-counted}
use Rattle.wit_known.proofs.known.Known.new.Goals as goal

pub invariant_of-result : goal.invariant_of-result
invariant_of-result c = record {
  orders =
      ap (λ (o : Ordering). o.size) c.in_ok-new-2.ensures.ok
      ∙ sym (ap (λ (n : Names). n.most_types) c.in_ok-new.ensures.ok);
  files = ap (λ (n : Names). n.most_files) c.in_ok-new.ensures.ok;
  live =
      ap length c.new-3.ensures.items
      ∙ sym (ap (λ (m : MadeLocks). length m.locks) c.new-2.ensures);
  counts = λ t. ap (λ n. live_of n t) c.in_ok-new.ensures.ok ∙ none-counted c.args.types MOST_FILES t
      ∙ ap₂ (λ (m : MadeLocks) bs. live_count m.locks bs t) (sym c.new-2.ensures)
      (sym c.new-3.ensures.items);
}
