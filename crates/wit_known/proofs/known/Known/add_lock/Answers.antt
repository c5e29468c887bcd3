use Rattle.std.proofs.Common.{ap, ap₂, sym, subst, length, ◌≡◌, ◌<◌, ◌∷◌, [], ◌++◌, ◌+◌, refl}
use Rattle.std.proofs.Common.{◌∙◌, true, length-append}
use Rattle.wit_model.specs.declared.locks.Lock.{Lock}
use Rattle.wit_model.specs.declared.sizes.TheConstants.Limits.{MOST_LOCKS}
use Rattle.wit_table.specs.Known.{Names}
use Rattle.wit_known.specs.Known.{Facts}
use Rattle.wit_known.specs.Live.{live_count}
use Rattle.wit_known.specs.MadeLocks.{MadeLocks}
use Rattle.wit_known.proofs.Living.{given-count, room-enrolled, counted-made}
use Rattle.wit_known.proofs.known.Known.add_lock.Goals as goal

pub retain-requires-clause-room : goal.retain-requires-clause-room
retain-requires-clause-room c =
    room-enrolled c.self.inside.names c.enroll_name.new.self _ _ c.in_ok-type_no.type_no.0
    c.self.inside.locks.locks c.self.inside.live.items
    c.in_ok-type_no.ensures.enrolled c.self.invariant.counts
    (subst (λ (f : Facts). length f.known.locks < MOST_LOCKS) (sym c.self.view_is) c.requires.few)

pub invariant_of-self-2 : goal.invariant_of-self-2
invariant_of-self-2 c =
    let lock : Lock = record { type_no = c.in_ok-type_no.type_no; made = c.args.made } in
    let locks : c.push.new.self.locks ≡ c.self.inside.locks.locks ++ lock ∷ [] =
    ap (λ (m : MadeLocks). m.locks) c.push.ensures
    ∙ ap (λ (m : MadeLocks). m.locks ++ lock ∷ []) c.make_room.ensures.same in
    let flags : c.push_reserved.new.self.items ≡ c.self.inside.live.items ++ true ∷ [] =
    c.push_reserved.ensures.items ∙ ap (λ bs. bs ++ true ∷ []) c.reserve.ensures.items in
    record {
      orders =
          c.self.invariant.orders ∙ sym (ap (λ (n : Names). n.most_types) c.retain.ensures
          ∙ ap (λ (n : Names). n.most_types) c.in_ok-type_no.ensures.enrolled);
      files =
          ap (λ (n : Names). n.most_files) c.retain.ensures ∙ ap
          (λ (n : Names). n.most_files) c.in_ok-type_no.ensures.enrolled
          ∙ c.self.invariant.files;
      live =
          ap length flags ∙ length-append c.self.inside.live.items (true ∷ [])
          ∙ ap (λ n. n + 1) c.self.invariant.live
          ∙ sym (length-append c.self.inside.locks.locks (lock ∷ [])) ∙ sym (ap length locks);
      counts = λ t.
          counted-made c.self.inside.names c.enroll_name.new.self c.retain.new.self _ _
          c.in_ok-type_no.type_no.0 c.self.inside.locks.locks c.self.inside.live.items lock refl
          c.in_ok-type_no.ensures.enrolled c.retain.ensures
          (given-count c.enroll_name.new.self c.len-types.result c.in_ok-type_no.type_no.0
          c.len-types.ensures.types c.len-types.ensures.live c.in_ok-type_no.ensures.given)
          c.self.invariant.live c.self.invariant.counts t
          ∙ ap₂ (λ ls bs. live_count ls bs t) (sym locks) (sym flags);
    }
