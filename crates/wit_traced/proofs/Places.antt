-- Where a search finds something, and the parts of a list at a place.
use Rattle.std.proofs.Common.{ℕ, ◌+◌, ◌<◌, ◌≤◌, Bool, IfSome, List, None, Option, Some, length}
use Rattle.memchr.specs.Find.{FindsNeedle, IsFirstByte, IsLastByte}

pub first-within : (test : ℕ → Bool) (hay : List ℕ) (r : Option ℕ) → IsFirstByte test hay r
    → IfSome r (λ n. n < length hay)
first-within test hay None found = tt
first-within test hay (Some n) found = found.0.high

pub last-within : (test : ℕ → Bool) (hay : List ℕ) (r : Option ℕ) → IsLastByte test hay r
    → IfSome r (λ n. n < length hay)
last-within test hay None found = tt
last-within test hay (Some n) found = found.0.high

pub text-within : (hay text : List ℕ) (r : Option ℕ) → FindsNeedle hay text 0 r
    → IfSome r (λ n. n + length text ≤ length hay)
text-within hay text None found = tt
text-within hay text (Some n) found = found.1.fits
