-- A gate's word as it is when the table of its claims has ended.
use Rattle.std.proofs.Common.{◌≡◌, ℕ, ◌≤◌, List, sym, ap, ◌∙◌, subst, arith}
use mathlib.Core.Option.{some, some-injective}
use lib.ListN.{get_elem?}
use Rattle.atomic_table.specs.Table.{State}
use Rattle.wit_model.specs.Gates.{most_shares, exclusive_word, AddsUp}
use Rattle.wit_model.proofs.Gates.{adds_up}
use Rattle.wit_gates.specs.declared.claim.Claim.{Claim}
use Rattle.wit_gates.specs.Claims.{claim, shares_claimed, exclusives_claimed}
use Rattle.wit_gates.proofs.Steps.{Rule}
use Rattle.wit_gates.proofs.Sums.{part-le-sum}

abbrev Board : Type 0
Board = State (Unit {0}) Claim

read_back : (s : Board) (words : List ℕ) (word : ℕ) → Rule s → s.words ≡ words
    → get_elem? words 0 ≡ some word
    → AddsUp word (shares_claimed s.views) (exclusives_claimed s.views)
read_back s words word (last, only, fits) same read =
    let e : some last ≡ some word =
    subst (λ (ws : List ℕ). get_elem? ws 0 ≡ some word) (sym same ∙ only) read in
    subst (λ n. AddsUp n (shares_claimed s.views) (exclusives_claimed s.views))
    (some-injective last word e)
    (adds_up last (shares_claimed s.views) (exclusives_claimed s.views) fits)

-- the word at the end
pub ended : (s : Board) (words : List ℕ) (word : ℕ) → Rule s → s.words ≡ words
    → get_elem? words 0 ≡ some word → word ≤ exclusive_word
ended s words word rule same read = (read_back s words word rule same read).2

-- the word at the end, with a claim that is still out
pub ended_alone : (s : Board) (words : List ℕ) (word id : ℕ) (c : Claim) → Rule s → s.words ≡ words
    → get_elem? words 0 ≡ some word
    → get_elem? s.views id ≡ some c → c ≡ claim 0 1 → word ≡ exclusive_word
ended_alone s words word id c rule same read there e =
    let sum : AddsUp word (shares_claimed s.views) (exclusives_claimed s.views) =
    read_back s words word rule same read in
    let part : c.exclusives ≤ exclusives_claimed s.views =
    part-le-sum (λ (c : Claim). c.exclusives) s.views id c there in
    let one : c.exclusives ≡ 1 = ap (λ (c : Claim). c.exclusives) e in
    omega arith

pub ended_shared : (s : Board) (words : List ℕ) (word id : ℕ) (c : Claim) → Rule s → s.words ≡ words
    → get_elem? words 0 ≡ some word
    → get_elem? s.views id ≡ some c → c ≡ claim 1 0 → (1 ≤ word) × (word ≤ most_shares)
ended_shared s words word id c rule same read there e =
    let sum : AddsUp word (shares_claimed s.views) (exclusives_claimed s.views) =
    read_back s words word rule same read in
    let part : c.shares ≤ shares_claimed s.views =
    part-le-sum (λ (c : Claim). c.shares) s.views id c there in
    let one : c.shares ≡ 1 = ap (λ (c : Claim). c.shares) e in
    (omega arith, omega arith)
