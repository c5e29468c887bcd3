use Rattle.std.proofs.Common.{rules, ℕ, ◌≡◌, ◌+◌, List, [], length, sym, ap, ◌∙◌, subst, arith}
use Rattle.std.specs.Global.{Vec}
use Rattle.witness.specs.CommandLine.{bytes_of}
use Rattle.witness.specs.Words.{StandFrom}
use Rattle.witness.proofs.Standing.{counted, pushed}
use Rattle.witness.proofs.words.words_of.Goals as goal

pub loop-place-init : goal.loop-place-init
loop-place-init g c = (
  subst (λ (words : List (Vec ℕ)).
      StandFrom (g.S.Words.is_word c.args.source.now) 1 (bytes_of words))
      (sym c.new-words.ensures.items) tt,
  ap (λ (words : List (Vec ℕ)). length words + 1) (sym c.new-words.ensures.items),
)

pub returns-in_default : goal.returns-in_default
returns-in_default g c =
    let words = c.loop-place.words.items in
    let end : g.S.Words.is_end c.args.source.now c.loop-place.place = search rules in
    let e : c.loop-place.place ≡ length (bytes_of words) + 1 =
    omega (arith, c.loop-place.invariant.1, counted words) in
    (c.loop-place.invariant.0, subst (g.S.Words.is_end c.args.source.now) e end)

pub loop-place-preserved : goal.loop-place-preserved
loop-place-preserved g c =
    let is_word = g.S.Words.is_word c.args.source.now in
    let words = c.loop-place.words.items in
    let word = c.in-Some.word in
    let there : is_word c.loop-place.place word.items = search rules in
    let e : c.loop-place.place ≡ 1 + length words = omega (arith, c.loop-place.invariant.1) in
    let now = sym c.in_ok-push.ensures.items in (
      subst (λ (words : List (Vec ℕ)). StandFrom is_word 1 (bytes_of words)) now
          (pushed is_word 1 words word c.loop-place.invariant.0
          (subst (λ n. is_word n word.items) e there)),
      search rules,
    )
