use Rattle.std.proofs.Common.{◌≡◌, ◌<◌, ◌-◌, true, false, ap, sym, subst, ◌∙◌, arith}
use Rattle.wit_model.specs.declared.locks.TypeNo.{TypeNo}
use Rattle.wit_model.specs.Rules.Locks.{lock_at}
use Rattle.wit_model.specs.Rules.Numbers.{IsGiven}
use Rattle.std.proofs.lemmas.List.{length-set}
use Rattle.wit_table.specs.Known.{Names, live_of, with_live}
use Rattle.wit_known.specs.Known.{Facts}
use Rattle.wit_known.specs.Live.{is_flagged}
use Rattle.wit_known.proofs.Living.{given-count, counted-live, counted-destroyed}
use Rattle.wit_known.proofs.LiveFlags.{flag-within}
use Rattle.wit_known.proofs.known.Known.destroy.Goals as goal

pub release-requires-clause-live : goal.release-requires-clause-live
release-requires-clause-live c =
    let live =
    subst (λ (f : Facts). is_flagged f.live c.args.lock.0 ≡ true)
    (sym c.self.view_is) c.requires.live in
    let of = ap (λ (n : TypeNo). n.0) c.type_of-type_no.ensures in
    subst (λ m. 0 < live_of c.self.inside.names m) (sym of)
    (counted-live c.self.inside.names c.self.inside.locks.locks c.self.inside.live.items
    c.args.lock.0 c.self.invariant.live live c.self.invariant.counts)

pub index_mut-requires : goal.index_mut-requires
index_mut-requires c =
    let live =
    subst (λ (f : Facts). is_flagged f.live c.args.lock.0 ≡ true)
    (sym c.self.view_is) c.requires.live in
    let within = flag-within c.self.inside.live.items c.args.lock.0 live in
    omega (arith, within.0, within.1, c.self.inside.live.ok.0)

pub invariant_of-self : goal.invariant_of-self
invariant_of-self c =
    let live =
    subst (λ (f : Facts). is_flagged f.live c.args.lock.0 ≡ true)
    (sym c.self.view_is) c.requires.live in
    let of : c.type_of-type_no.result.0
    ≡ (lock_at c.self.inside.locks.locks c.args.lock.0).type_no.0 =
    ap (λ (n : TypeNo). n.0) c.type_of-type_no.ensures in
    let typed =
    subst (λ (f : Facts). IsGiven f.known.types (lock_at f.known.locks c.args.lock.0).type_no.0)
    (sym c.self.view_is) c.requires.typed in
    record {
      orders = c.self.invariant.orders ∙ sym (ap (λ (n : Names). n.most_types) c.release.ensures);
      files = ap (λ (n : Names). n.most_files) c.release.ensures ∙ c.self.invariant.files;
      live = length-set c.self.inside.live.items (c.args.lock.0 - 1) false ∙ c.self.invariant.live;
      counts =
          counted-destroyed c.self.inside.names c.release.new.self c.args.lock.0
          c.self.inside.locks.locks c.self.inside.live.items c.self.invariant.live live
          (c.release.ensures ∙ ap (λ m. with_live c.self.inside.names m
          (live_of c.self.inside.names m - 1)) of)
          (given-count c.self.inside.names c.len-types.result
          (lock_at c.self.inside.locks.locks c.args.lock.0).type_no.0 c.len-types.ensures.types
          c.len-types.ensures.live typed)
          c.self.invariant.counts;
    }
