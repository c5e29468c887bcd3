use Rattle.std.proofs.Common.{◌≡◌, ◌∙◌, ap, rules}
use Rattle.wit_gates.specs.Claims.{mode_of, both_claims}
use Rattle.wit_gates.specs.Plays.{Stand}
use Rattle.wit_gates.proofs.Steps.{joins, looks, splits, weigh_two, some_shares}
use Rattle.wit_gates.proofs.word.Word.pair.Goals as goal

pub join_seat-requires : goal.join_seat-requires
join_seat-requires c =
    let one = c.one.inside.seat in
    let other = c.other.inside.seat in (
      search rules,
      search rules,
      search rules,
      search rules,
      joins one.id other.id one.me.0 other.me.0,
    )

pub load-requires : goal.load-requires
load-requires c =
    let one = c.one.inside.seat.me in
    let other = c.other.inside.seat.me in
    let seat = c.join_seat.new.seat in (
      search rules,
      search rules,
      looks c.self.inside.table.shared.table_id.slots seat.id seat.me (both_claims one.0 other.0)
          (c.join_seat.ensures.2 ∙ ap (λ (m : Stand). (both_claims one.0 other.0, m.1))
          c.one.invariant)
          (weigh_two one.0 other.0 (mode_of one.0) (mode_of other.0)
          (ap (λ (m : Stand). m.0) c.one.invariant)
          (ap (λ (m : Stand). m.0) c.other.invariant)),
    )

pub split_seat-second-requires : goal.split_seat-second-requires
split_seat-second-requires c =
    let one = c.one.inside.seat.me in
    let other = c.other.inside.seat.me in
    let seat = c.load.new.seat in
    let e : seat.me ≡ c.join_seat.new.seat.me = c.load.ensures.2.0 in
    let joined = ap (λ (m : Stand). m.0) (e ∙ c.join_seat.ensures.2) in (
      search rules,
      search rules,
      splits seat.id seat.me.0
          (some_shares one.0 other.0 seat.me.0 (mode_of one.0) (mode_of other.0)
          (ap (λ (m : Stand). m.0) c.one.invariant)
          (ap (λ (m : Stand). m.0) c.other.invariant) joined
          (ap (λ (m : Stand). m.0.exclusives) e ∙ c.load.ensures.2.1)),
    )
