use Rattle.std.proofs.Common.{◌++◌, Result, Ok, Err, Some, OnErr, inr, ap, ◌∙◌, subst, arith, rules}
use Rattle.std.proofs.KnownBytes.{Keeps-refl}
use Rattle.std.specs.Io.KnownBytes.{Appends}
use Rattle.wit_stream.specs.Stream.{AppendsFront, OutputFrom, AppendsAndKeeps}
use Rattle.wit_stream.proofs.AnswerLemmas.{answer_none, answer_goes, answer_ends, shown_so}
use Rattle.wit_stream.proofs.StreamLemmas.{going_part, going_line, going_told, going_last}
use Rattle.wit_stream.proofs.StreamLemmas.{going_last_front, going_end, going_front, going_kept}
use Rattle.wit_stream.proofs.StreamLemmas.{going_kept_front, going_spent}
use Rattle.wit_stream.proofs.stream.run.Goals as goal

-- at an error
on_err : {T E P : Type 0} (r : Result T E) → P → OnErr r P
on_err (Ok x) p = tt
on_err (Err e) p = p

pub returns-in_err-tell-in-Ok-Some-Goes-clause-err : goal.returns-in_err-tell-in-Ok-Some-Goes-clause-err
returns-in_err-tell-in-Ok-Some-Goes-clause-err g c =
    let line =
    answer_goes (OutputFrom (g.M.Machine.allows (g.M.Machine.shows_by c.args.machine.now)))
    c.loop-left.machine c.advance.new.machine c.loop-left.number
    (g.R.Read.remaining c.loop-left.reader) (g.R.Read.remaining c.advance.new.reader)
    c.loop-left.line.items c.advance.new.begun.items _ _ _
    (shown_so g.M.Machine.allows _ _ c.loop-left.invariant.shown _ _ _ _ _ _ _ _ _
    c.in-Ok-Some-Goes.ensures.ok) c.in-Ok-Some-Goes.field-0-is
    c.in-Ok-Some-Goes.field-0-0-is in
    on_err _ (going_kept_front _ _ _ (going_line _ _ _ _ _ _ c.loop-left.invariant.going line)
    (λ input. g.met.M.Machine.answers _ _ _ _ _)
    (subst (λ text. AppendsFront (g.W.Write.contents c.loop-left.writer)
    (g.W.Write.contents c.tell.new.writer) (c.loop-left.told.items ++ text))
    c.deref.ensures.value c.in_err-tell-in-Ok-Some-Goes.ensures.err))

pub loop-left-preserved-in-Ok-Some-Goes : goal.loop-left-preserved-in-Ok-Some-Goes
loop-left-preserved-in-Ok-Some-Goes g c =
    let line =
    answer_goes (OutputFrom (g.M.Machine.allows (g.M.Machine.shows_by c.args.machine.now)))
    c.loop-left.machine c.advance.new.machine c.loop-left.number
    (g.R.Read.remaining c.loop-left.reader) (g.R.Read.remaining c.advance.new.reader)
    c.loop-left.line.items c.advance.new.begun.items _ _ _
    (shown_so g.M.Machine.allows _ _ c.loop-left.invariant.shown _ _ _ _ _ _ _ _ _
    c.in-Ok-Some-Goes.ensures.ok) c.in-Ok-Some-Goes.field-0-is
    c.in-Ok-Some-Goes.field-0-0-is in
    let counted = c.in-Ok-Some-Goes.ensures.counted in
    let same = c.in_ok-tell-in-Ok-Some-Goes.ensures.counted in
    record {
      going = going_told _ _ _ _ (going_line _ _ _ _ _ _ c.loop-left.invariant.going line)
          (subst (λ text. AppendsAndKeeps (g.W.Write.contents c.loop-left.writer)
          (g.W.Write.contents c.tell.new.writer) (c.loop-left.told.items ++ text)
          c.tell.new.told.items) c.deref.ensures.value
          c.in_ok-tell-in-Ok-Some-Goes.ensures.ok);
      shown =
          c.in-Ok-Some-Goes.ensures.shown
          (ap (λ s. Ok s) (c.in-Ok-Some-Goes.field-0-is
          ∙ ap (λ s. Some s) c.in-Ok-Some-Goes.field-0-0-is)) ∙ c.loop-left.invariant.shown;
      none = c.clear.ensures.items;
      short = rw line.none (omega arith);
      fewer = omega (arith, counted, same, c.loop-left.invariant.fewer);
      enough =
          omega (arith, counted, same, c.saturating_sub-left.ensures, c.loop-left.invariant.enough);
      told =
          omega (
            arith,
            c.in-Ok-Some-Goes.ensures.reported
                (ap (λ s. Ok s) (c.in-Ok-Some-Goes.field-0-is
                ∙ ap (λ s. Some s) c.in-Ok-Some-Goes.field-0-0-is)),
            c.loop-left.invariant.told,
          );
      within =
          λ more. omega (
            arith,
            counted,
            same,
            c.saturating_sub-left.ensures,
            c.loop-left.invariant.within,
          );
    }

pub returns-in_err-tell_all-in-Ok-Some-Ends-clause-err : goal.returns-in_err-tell_all-in-Ok-Some-Ends-clause-err
returns-in_err-tell_all-in-Ok-Some-Ends-clause-err g c =
    on_err _ (going_kept_front _ _ _ c.loop-left.invariant.going
    (λ input. g.met.M.Machine.answers _ _ _ _ _) c.in_err-tell_all-in-Ok-Some-Ends.ensures.err)

pub returns-in_err-put-in-Ok-Some-Ends-clause-err : goal.returns-in_err-put-in-Ok-Some-Ends-clause-err
returns-in_err-put-in-Ok-Some-Ends-clause-err g c =
    let last =
    answer_ends (OutputFrom (g.M.Machine.allows (g.M.Machine.shows_by c.args.machine.now)))
    c.loop-left.machine c.advance.new.machine c.loop-left.number
    (g.R.Read.remaining c.loop-left.reader) (g.R.Read.remaining c.advance.new.reader)
    c.loop-left.line.items c.advance.new.begun.items _ _ _ _
    (shown_so g.M.Machine.allows _ _ c.loop-left.invariant.shown _ _ _ _ _ _ _ _ _
    c.in-Ok-Some-Ends.ensures.ok) c.in-Ok-Some-Ends.field-0-is
    c.in-Ok-Some-Ends.field-0-0-is in
    on_err _ (going_last_front _ _ _ _ _
    (going_told _ _ _ _ c.loop-left.invariant.going c.in_ok-tell_all-in-Ok-Some-Ends.ensures.ok)
    last
    (subst (AppendsFront _ _) c.deref-in-Ok-Some-Ends.ensures.value
    c.in_err-put-in-Ok-Some-Ends.ensures.err))

pub returns-in-Ok-Some-Ends-clause-ok : goal.returns-in-Ok-Some-Ends-clause-ok
returns-in-Ok-Some-Ends-clause-ok g c =
    let last =
    answer_ends (OutputFrom (g.M.Machine.allows (g.M.Machine.shows_by c.args.machine.now)))
    c.loop-left.machine c.advance.new.machine c.loop-left.number
    (g.R.Read.remaining c.loop-left.reader) (g.R.Read.remaining c.advance.new.reader)
    c.loop-left.line.items c.advance.new.begun.items _ _ _ _
    (shown_so g.M.Machine.allows _ _ c.loop-left.invariant.shown _ _ _ _ _ _ _ _ _
    c.in-Ok-Some-Ends.ensures.ok) c.in-Ok-Some-Ends.field-0-is
    c.in-Ok-Some-Ends.field-0-0-is in
    rw c.get.ensures (going_last _ _ _ _ _
    (going_told _ _ _ _ c.loop-left.invariant.going c.in_ok-tell_all-in-Ok-Some-Ends.ensures.ok)
    last
    (subst (Appends _ _) c.deref-in-Ok-Some-Ends.ensures.value
    c.in_ok-put-in-Ok-Some-Ends.ensures.ok))

pub returns-in-Ok-Some-Ends-clause-taken : goal.returns-in-Ok-Some-Ends-clause-taken
returns-in-Ok-Some-Ends-clause-taken g c =
    let last =
    answer_ends (OutputFrom (g.M.Machine.allows (g.M.Machine.shows_by c.args.machine.now)))
    c.loop-left.machine c.advance.new.machine c.loop-left.number
    (g.R.Read.remaining c.loop-left.reader) (g.R.Read.remaining c.advance.new.reader)
    c.loop-left.line.items c.advance.new.begun.items _ _ _ _
    (shown_so g.M.Machine.allows _ _ c.loop-left.invariant.shown _ _ _ _ _ _ _ _ _
    c.in-Ok-Some-Ends.ensures.ok) c.in-Ok-Some-Ends.field-0-is
    c.in-Ok-Some-Ends.field-0-0-is in
    rw c.get.ensures (going_end _ _ _ _ _
    (going_told _ _ _ _ c.loop-left.invariant.going c.in_ok-tell_all-in-Ok-Some-Ends.ensures.ok)
    last
    (subst (Appends _ _) c.deref-in-Ok-Some-Ends.ensures.value
    c.in_ok-put-in-Ok-Some-Ends.ensures.ok))

pub loop-left-preserved : goal.loop-left-preserved
loop-left-preserved g c =
    let part =
    answer_none (OutputFrom (g.M.Machine.allows (g.M.Machine.shows_by c.args.machine.now)))
    c.loop-left.machine c.advance.new.machine c.loop-left.number
    (g.R.Read.remaining c.loop-left.reader) (g.R.Read.remaining c.advance.new.reader)
    c.loop-left.line.items c.advance.new.begun.items _ _
    (shown_so g.M.Machine.allows _ _ c.loop-left.invariant.shown _ _ _ _ _ _ _ _ _
    c.in-Ok-None.ensures.ok) c.in-Ok-None.field-0-is in
    let counted = c.in-Ok-None.ensures.counted in
    let same = c.in_ok-tell_all-in-Ok-None.ensures.counted in
    record {
      going =
          rw c.in_ok-tell_all-in-Ok-None.ensures.none
          (going_told _ _ _ _ (going_part _ _ _ _ _ c.loop-left.invariant.going part.0 part.1)
          c.in_ok-tell_all-in-Ok-None.ensures.ok);
      shown = rw part.1 c.loop-left.invariant.shown;
      none = part.2;
      short = part.0.short;
      fewer = omega (arith, counted, same, c.loop-left.invariant.fewer);
      enough = omega (arith, counted, same, c.loop-left.invariant.enough);
      told = rw part.1 c.loop-left.invariant.told;
      within = λ more. omega (arith, counted, same, c.loop-left.invariant.within);
    }

pub returns-in_err-tell_all-in-Ok-None-clause-err : goal.returns-in_err-tell_all-in-Ok-None-clause-err
returns-in_err-tell_all-in-Ok-None-clause-err g c =
    on_err _ (going_kept_front _ _ _ c.loop-left.invariant.going
    (λ input. g.met.M.Machine.answers _ _ _ _ _) c.in_err-tell_all-in-Ok-None.ensures.err)

pub returns-in_err-tell_all-in-Err-clause-err : goal.returns-in_err-tell_all-in-Err-clause-err
returns-in_err-tell_all-in-Err-clause-err g c =
    on_err _ (going_kept_front _ _ _ c.loop-left.invariant.going
    (λ input. g.met.M.Machine.answers _ _ _ _ _) c.in_err-tell_all-in-Err.ensures.err)

pub returns-in-Err-clause-err : goal.returns-in-Err-clause-err
returns-in-Err-clause-err g c =
    going_front _ _ (going_told _ _ _ _ c.loop-left.invariant.going
    c.in_ok-tell_all-in-Err.ensures.ok) (λ input. g.met.M.Machine.answers _ _ _ _ _)

pub returns-in-Err-clause-told : goal.returns-in-Err-clause-told
returns-in-Err-clause-told g c = λ is.
    going_kept _ _ (going_told _ _ _ _ c.loop-left.invariant.going
    c.in_ok-tell_all-in-Err.ensures.ok) (c.in-Err.ensures.kept (search rules))

pub returns-in_err-tell_all-clause-err : goal.returns-in_err-tell_all-clause-err
returns-in_err-tell_all-clause-err g c =
    on_err _ (going_kept_front _ _ _ c.loop-left.invariant.going
    (λ input. g.met.M.Machine.answers _ _ _ _ _) c.in_err-tell_all.ensures.err)

pub returns-clause-err : goal.returns-clause-err
returns-clause-err g c =
    going_front _ _ (going_told _ _ _ _ c.loop-left.invariant.going c.in_ok-tell_all.ensures.ok)
    (λ input. g.met.M.Machine.answers _ _ _ _ _)

pub returns-clause-told : goal.returns-clause-told
returns-clause-told g c =
    λ is. going_kept _ _ (going_told _ _ _ _ c.loop-left.invariant.going
    c.in_ok-tell_all.ensures.ok) (Keeps-refl _)

pub returns-clause-read : goal.returns-clause-read
returns-clause-read g c =
    let same = c.in_ok-tell_all.ensures.counted in
    λ is. inr (going_spent _ _ _ c.loop-left.invariant.going
    (omega (arith, same, c.loop-left.invariant.fewer))
    (omega (arith, same, c.loop-left.invariant.enough)))
