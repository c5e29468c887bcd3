use Rattle.std.proofs.Common.{◌≢◌, ℕ, ◌+◌, ◌≤◌, List, length, take, refl, ap, ◌∙◌, subst, arith}
use Rattle.std.proofs.Common.{length-append, length-take}
use Rattle.std.proofs.lemmas.List.{take-take}
use Rattle.std.proofs.lemmas.List.Elements.{All-append}
use Rattle.wit_model.specs.declared.lines.Cause.TheVariants.{Long}
use Rattle.wit_stream.specs.Machine.{BreaksAt}
use Rattle.wit_stream.specs.Text.{HasNoFeed}
use Rattle.wit_stream.specs.Stream.{OutputFrom}
use Rattle.wit_stream.proofs.AnswerLemmas.{all_taken, consumed, advances_end, advances_line}
use Rattle.wit_stream.proofs.AnswerLemmas.{advances_long}
use Rattle.wit_stream.proofs.ports.FailuresPorts.advance.Goals as goal

pub returns-then-is_empty-clause-ok : goal.returns-then-is_empty-clause-ok
returns-then-is_empty-clause-ok g c =
    (advances_end (g.M.Machine.allows (g.M.Machine.shows_by c.args.machine.now)) c.args.machine.now
    c.at_end.new.machine c.args.number _ _ c.args.begun.now.items c.args.begun.now.items
    c.at_end.new.text.items c.in_ok-summary.summary
    (all_taken _ _ _ c.in-Ok.is c.fill_buf.ensures.end (grind arith))
    c.fill_buf.follows.holds-at-none.0 c.requires.plain c.requires.short
    (subst (λ l. OutputFrom (g.M.Machine.allows (g.M.Machine.shows_by c.args.machine.now))
    c.args.machine.now c.args.number l c.at_end.new.text.items c.in_ok-summary.summary)
    c.deref.ensures.value c.in_ok-summary.ensures))

pub whole_line-requires-clause-plain : goal.whole_line-requires-clause-plain
whole_line-requires-clause-plain g c =
    let shown = c.in-Ok.shown.now in
    let few : c.in-Some.len ≤ c.min-len.result =
    omega (arith, c.in-Some.ensures.0, length-take c.min-len.result shown) in
    All-append (λ b. b ≢ 10) c.args.begun.now.items (take c.in-Some.len shown) c.requires.plain
    (subst HasNoFeed (take-take c.in-Some.len c.min-len.result shown few) c.in-Some.ensures.1)

pub returns-in-Some-clause-ok : goal.returns-in-Some-clause-ok
returns-in-Some-clause-ok g c =
    let shown = c.in-Ok.shown.now in
    let len = c.in-Some.len in
    advances_line (g.M.Machine.allows (g.M.Machine.shows_by c.args.machine.now)) c.args.machine.now
    c.whole_line.new.machine c.args.number _ _ c.args.begun.now.items _ shown len
    c.min-len.result c.whole_line.new.text.items c.in_ok-step.step
    (consumed _ _ _ _ _ _ c.in-Ok.is c.fill_buf.ensures.front c.fill_buf.follows.holds-at-none
    (len + 1) (omega (arith, c.in-Some.ensures.0, length-take c.min-len.result shown))
    c.consume.ensures.bytes)
    c.in-Some.ensures.0 c.in-Some.ensures.1 c.in-Some.ensures.2 c.requires.plain
    (omega (arith, c.in-Some.ensures.0, length-take c.min-len.result shown))
    c.in_ok-step.ensures.none c.in_ok-step.ensures.step

pub returns-then-len-le-LONGEST-clause-ok : goal.returns-then-len-le-LONGEST-clause-ok
returns-then-len-le-LONGEST-clause-ok g c =
    let shown = c.in-Ok.shown.now in (
      record {
        part = take c.min-len.result shown;
        taken =
            consumed _ _ _ _ _ _ c.in-Ok.is c.fill_buf.ensures.front
            c.fill_buf.follows.holds-at-none c.min-len.result
            (omega arith) c.consume-2.ensures.bytes;
        some = grind (arith, length-take c.min-len.result shown);
        plain = c.in_default-feed_in.ensures;
        begun = c.in_ok-extend_from_slice.ensures.items;
        short = omega arith;
      },
      refl,
      c.requires.empty,
    )

pub returns-clause-ok : goal.returns-clause-ok
returns-clause-ok g c =
    let shown = c.in-Ok.shown.now in
    let part = take c.min-len.result shown in
    (advances_long (g.M.Machine.allows (g.M.Machine.shows_by c.args.machine.now)) c.args.machine.now
    c.args.machine.now c.args.number _ _ c.args.begun.now.items c.args.begun.now.items part
    c.at_long.new.text.items c.in_ok-summary-2.summary
    (consumed _ _ _ _ _ _ c.in-Ok.is c.fill_buf.ensures.front c.fill_buf.follows.holds-at-none
    c.min-len.result (omega arith) c.consume-2.ensures.bytes)
    (All-append (λ b. b ≢ 10) c.args.begun.now.items part c.requires.plain
    c.in_default-feed_in.ensures)
    (omega (
      arith,
      length-append c.args.begun.now.items part,
      length-take c.min-len.result shown,
      ap length c.in_ok-extend_from_slice.ensures.items,
    ))
    (subst (λ l. (lines : List (List ℕ)) (tail : List ℕ) → BreaksAt Long l lines tail
    → g.M.Machine.allows (g.M.Machine.shows_by c.args.machine.now) c.args.machine.now
    c.args.number lines tail c.at_long.new.text.items c.in_ok-summary-2.summary)
    (c.deref-2.ensures.value ∙ c.in_ok-extend_from_slice.ensures.items) c.in_ok-summary-2.ensures))
