-- The processes of a run.
use Rattle.std.proofs.Common.{◌≡◌, ℕ, List, [], ◌∷◌, ◌++◌, length, map, take, drop, refl, ap, ap₂}
use Rattle.std.proofs.Common.{sym, ◌∙◌, subst, arith}
use Rattle.std.specs.List.{insert}
use Rattle.std.proofs.lemmas.List.{map-append, append_assoc, take-map, drop-map}
use Rattle.wit_stream.specs.declared.summary.Summary.{Summary}
use Rattle.wit_findings.specs.declared.processes.Processes.{Processes}
use Rattle.wit_findings.specs.declared.recording.Recording.{Recording}
use Rattle.wit_findings.specs.Findings.{AreEnds, sums}
use Rattle.wit_findings.specs.Runs.{Run, bads, bads_of, known, nothing_told}
use Rattle.wit_findings.specs.Told.{Told, told}

pub map-insert : {X Y : Type 0} (f : X → Y) (xs : List X) (i : ℕ) (x : X)
    → map f (insert xs i x) ≡ insert (map f xs) i (f x)
map-insert f xs i x =
    map-append f (take i xs) (x ∷ drop i xs)
    ∙ ap₂ (λ a b. a ++ f x ∷ b) (sym (take-map f i xs)) (sym (drop-map f i xs))

-- the ends of processes, and of those after them
pub both-end : (ts us : List Told) (one other : List ℕ) → AreEnds ts one → AreEnds us other
    → AreEnds (ts ++ us) (one ++ other)
both-end [] us one other first rest = subst (AreEnds us) (ap (λ xs. xs ++ other) (sym first)) rest
both-end (t ∷ ts) us one other first rest = record {
  first = first.first;
  rest = first.rest ++ other;
  parted =
      ap (λ xs. xs ++ other) first.parted ∙ append_assoc first.first first.rest other;
  tells = first.tells;
  goes_on = both-end ts us first.rest other first.goes_on rest;
}

pub sums-both : (ts us : List Told) (after : Summary)
    → sums ts (sums us after) ≡ sums (ts ++ us) after
sums-both [] us after = refl
sums-both (t ∷ ts) us after = rw (sums-both ts us after) refl

-- ---- nothing is known yet
no-others : (rs : List Recording) → map told rs ≡ [] → bads_of rs ≡ 0
no-others [] e = refl
no-others (r ∷ rs) e = absurd (omega (arith, ap length e))

pub none-bad : (p : Processes) → known p ≡ nothing_told → bads p ≡ 0
none-bad p is =
    omega (
      arith,
      ap (λ (r : Run). r.now.bads) is,
      no-others p.others.items (ap (λ (r : Run). r.others) is),
    )
