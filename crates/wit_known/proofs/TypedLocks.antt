-- Locks by their types, and by what they were made as.
use Rattle.std.proofs.Common.{◌≡◌, ℕ, List, [], ◌∷◌, ◌++◌, length, map, refl, sym, ap, ◌∙◌, arith}
use Rattle.std.specs.Option.{option_map}
use Rattle.wit_model.specs.declared.calls.NewLock.{NewLock}
use Rattle.wit_model.specs.declared.locks.Lock.{Lock}
use Rattle.wit_model.specs.declared.locks.TypeNo.{TypeNo}
use Rattle.wit_model.specs.Rules.Numbers.{with_number}
use Rattle.wit_model.proofs.Numbered.{with_number-map}
use Rattle.wit_known.specs.TypedLocks.{typed}

-- the types are theirs
pub types-of : (types : List TypeNo) (made : List NewLock) → length types ≡ length made
    → map (λ (l : Lock). l.type_no) (typed types made) ≡ types
types-of [] made size = refl
types-of (t ∷ types) [] size = absurd (omega (arith, size))
types-of (t ∷ types) (lock ∷ made) size =
    ap (λ ts. t ∷ ts) (types-of types made (omega (arith, size)))

-- and so is what they were made as
pub made-of : (types : List TypeNo) (made : List NewLock) → length types ≡ length made
    → map (λ (l : Lock). l.made) (typed types made) ≡ made
made-of [] [] size = refl
made-of [] (lock ∷ made) size = absurd (omega (arith, size))
made-of (t ∷ types) [] size = absurd (omega (arith, size))
made-of (t ∷ types) (lock ∷ made) size =
    ap (λ ls. lock ∷ ls) (made-of types made (omega (arith, size)))

pub length-typed : (types : List TypeNo) (made : List NewLock) → length types ≡ length made
    → length made ≡ length (typed types made)
length-typed [] [] size = refl
length-typed [] (lock ∷ made) size = absurd (omega (arith, size))
length-typed (t ∷ types) [] size = absurd (omega (arith, size))
length-typed (t ∷ types) (lock ∷ made) size =
    let rest = length-typed types made (omega (arith, size)) in omega (arith, rest)

-- one lock more
pub typed-more : (types : List TypeNo) (made : List NewLock) (t : TypeNo) (lock : NewLock)
    → length types ≡ length made
    → typed (types ++ t ∷ []) (made ++ lock ∷ [])
    ≡ typed types made ++ record { type_no = t; made = lock } ∷ []
typed-more [] [] t lock size = refl
typed-more [] (other ∷ made) t lock size = absurd (omega (arith, size))
typed-more (s ∷ types) [] t lock size = absurd (omega (arith, size))
typed-more (s ∷ types) (other ∷ made) t lock size =
    ap (λ (ls : List Lock). record { type_no = s; made = other } ∷ ls)
    (typed-more types made t lock (omega (arith, size)))

-- a lock's type, and what it was made as, by its number
pub type-with : (types : List TypeNo) (made : List NewLock) (n : ℕ) → length types ≡ length made
    → with_number types n ≡ option_map (λ (l : Lock). l.type_no) (with_number (typed types made) n)
type-with types made n size =
    ap (λ ts. with_number ts n) (sym (types-of types made size))
    ∙ with_number-map (λ (l : Lock). l.type_no) (typed types made) n

pub made-with : (types : List TypeNo) (made : List NewLock) (n : ℕ) → length types ≡ length made
    → with_number made n ≡ option_map (λ (l : Lock). l.made) (with_number (typed types made) n)
made-with types made n size =
    ap (λ ls. with_number ls n) (sym (made-of types made size))
    ∙ with_number-map (λ (l : Lock). l.made) (typed types made) n
