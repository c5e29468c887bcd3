-- What is told of types that are one.
use Rattle.std.specs.Prelude.{ℕ, ◌||◌, List, [], ◌∷◌, nat_eq, if◌then◌else◌}
use Rattle.wit_gathered.specs.declared.types.Facts.{Facts}

abbrev pub both : Facts → Facts → Facts
both a b = record a {
  spins = a.spins || b.spins;
  sleeps = a.sleeps || b.sleeps;
  has_readers = a.has_readers || b.has_readers;
  held = a.held || b.held;
  held_by_readers = a.held_by_readers || b.held_by_readers;
}

-- with those of which this is the first that they are one with
abbrev pub merged : ℕ → Facts → List ℕ → List Facts → Facts
merged first so_far [] facts = so_far
merged first so_far (n ∷ firsts) [] = so_far
merged first so_far (n ∷ firsts) (f ∷ facts) =
    merged first (if nat_eq n first then both so_far f else so_far) firsts facts
