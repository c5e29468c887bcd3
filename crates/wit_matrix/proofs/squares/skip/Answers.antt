use Rattle.std.proofs.Common.{◌/◌, ◌%◌, ◌^◌, ◌<◌, get_or, ap, arith}
use Rattle.std.proofs.lemmas.Nat.{shr_le}
use Rattle.wit_matrix.proofs.Words.{none_left, lowest_in_word, none_below}
use Rattle.wit_matrix.proofs.squares.skip.Goals as goal

pub overflow_add-result-else-rest-eq0 : goal.overflow_add-result-else-rest-eq0
overflow_add-result-else-rest-eq0 c =
    let f = c.type_inv.words c.place.result in
    let fits : get_or c.args.words.now c.place.result 0 < 2 ^ 64 = omega arith in
    let rest_fits : get_or c.args.words.now c.place.result 0 / 2 ^ (c.args.from % 64) < 2 ^ 64 =
    omega (arith, shr_le (get_or c.args.words.now c.place.result 0) (c.args.from % 64), fits) in
    let some : 0 < get_or c.args.words.now c.place.result 0 / 2 ^ (c.args.from % 64) =
    omega (arith, c.if-rest-eq0.false) in
    let low =
    lowest_in_word c.args.n c.args.row.0 c.args.from c.args.words.now
    (get_or c.args.words.now c.place.result 0)
    (ap (λ p. get_or c.args.words.now p 0) c.place.ensures.value) fits some rest_fits in
    omega arith

pub returns-then-rest-eq0-clause-none : goal.returns-then-rest-eq0-clause-none
returns-then-rest-eq0-clause-none c =
    none_left c.args.n c.args.row.0 c.args.from c.args.words.now
    (get_or c.args.words.now c.place.result 0)
    (ap (λ p. get_or c.args.words.now p 0) c.place.ensures.value) c.if-rest-eq0.true

pub returns-else-rest-eq0-clause-in_word : goal.returns-else-rest-eq0-clause-in_word
returns-else-rest-eq0-clause-in_word c =
    let f = c.type_inv.words c.place.result in
    let fits : get_or c.args.words.now c.place.result 0 < 2 ^ 64 = omega arith in
    let rest_fits : get_or c.args.words.now c.place.result 0 / 2 ^ (c.args.from % 64) < 2 ^ 64 =
    omega (arith, shr_le (get_or c.args.words.now c.place.result 0) (c.args.from % 64), fits) in
    let some : 0 < get_or c.args.words.now c.place.result 0 / 2 ^ (c.args.from % 64) =
    omega (arith, c.if-rest-eq0.false) in
    let low =
    lowest_in_word c.args.n c.args.row.0 c.args.from c.args.words.now
    (get_or c.args.words.now c.place.result 0)
    (ap (λ p. get_or c.args.words.now p 0) c.place.ensures.value) fits some rest_fits in
    omega arith

pub returns-else-rest-eq0-clause-none : goal.returns-else-rest-eq0-clause-none
returns-else-rest-eq0-clause-none c =
    let f = c.type_inv.words c.place.result in
    let fits : get_or c.args.words.now c.place.result 0 < 2 ^ 64 = omega arith in
    let rest_fits : get_or c.args.words.now c.place.result 0 / 2 ^ (c.args.from % 64) < 2 ^ 64 =
    omega (arith, shr_le (get_or c.args.words.now c.place.result 0) (c.args.from % 64), fits) in
    let some : 0 < get_or c.args.words.now c.place.result 0 / 2 ^ (c.args.from % 64) =
    omega (arith, c.if-rest-eq0.false) in
    none_below c.args.n c.args.row.0 c.args.from c.args.words.now
    (get_or c.args.words.now c.place.result 0)
    (ap (λ p. get_or c.args.words.now p 0) c.place.ensures.value) fits some rest_fits
