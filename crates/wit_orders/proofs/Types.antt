-- A type that is read is written so.
use Rattle.std.proofs.Common.{◌≡◌, ℕ, suc, ◌+◌, ◌-◌, Bool, true, false, not, ◌&&◌, cond, eqb, List, [], ◌∷◌, ◌++◌, Option}
use Rattle.std.proofs.Common.{Some, refl, sym, ap, ◌∙◌, subst, append_assoc, length, take, arith}
use Rattle.std.proofs.Common.{length-append, drop, ap₂}
use Rattle.std.proofs.Math.Seq.{take-append_seam, drop-append_seam}
use Rattle.std.specs.List.{list_all}
use Rattle.std.proofs.lemmas.Bool.{and_parts, and_from}
use Rattle.std.proofs.lemmas.Option.{cond_some}
use Rattle.wit_model.specs.declared.locks.Class.{Class}
use Rattle.wit_model.specs.declared.locks.Class.TheVariants.{SleepMutex, SpinMutex, Rw, Sx}
use Rattle.wit_model.specs.Trace.Reading.{◌>>=◌, after, until, byte_place, class_named, accepted}
use Rattle.wit_model.specs.Trace.Spelling.{class_text, quoted}
use Rattle.wit_model.proofs.Spelling.Codecs.{bind_some, some_is, until_whole, until_end, after_some}
use Rattle.wit_model.proofs.Spelling.Codecs.{named_takes, Lacks-test}
use Rattle.wit_model.proofs.Spelling.Named.{class_word}
use Rattle.wit_recordings.specs.Recordings.{NamedType}
use Rattle.wit_orders.specs.Reading.{type_text, is_type_name, leading_type_name, first_type}
use Rattle.wit_orders.specs.Spelling.{is_writable}

-- what is read of a name once its end is found
abbrev closed : List ℕ × List ℕ → Option (List ℕ × List ℕ)
closed parts =
    accepted is_type_name parts.0 >>= λ name. after 34 parts.1 >>= λ rest. Some (name, rest)

quoted_inside : (name rest : List ℕ) → quoted name ++ rest ≡ 34 ∷ (name ++ 34 ∷ rest)
quoted_inside name rest = ap (λ (w : List ℕ). 34 ∷ w) (append_assoc name (34 ∷ []) rest)

-- what stands before a byte's first place hasn't that byte
until-lacks : (byte : ℕ) (bytes : List ℕ)
    → list_all (λ b. not (eqb b byte)) (until byte bytes).0 ≡ true
until-lacks byte [] = refl
until-lacks byte (b ∷ bytes) = by (eqb b byte) refl (until-lacks byte bytes)
  where
    by : (is : Bool) → eqb b byte ≡ is
        → list_all (λ c. not (eqb c byte)) (until byte bytes).0 ≡ true
        → list_all (λ c. not (eqb c byte))
        (take (cond (not is) (1 + byte_place byte bytes) 0) (b ∷ bytes)) ≡ true
    by true at rest = refl
    by false at rest =
        let next : suc (byte_place byte bytes) ≡ 1 + byte_place byte bytes = omega arith in
        subst (λ k. list_all (λ c. not (eqb c byte)) (take k (b ∷ bytes)) ≡ true) next
        (ap (λ v. not v && list_all (λ c. not (eqb c byte)) (until byte bytes).0) at ∙ rest)

-- a name that can be written
abbrev pub is_plain_name : List ℕ → Bool
is_plain_name name = is_type_name name && list_all (λ b. not (eqb b 34)) name

name_takes : (bytes : List ℕ) (x : List ℕ × List ℕ) → leading_type_name bytes ≡ Some x
    → (bytes ≡ 32 ∷ (quoted x.0 ++ x.1)) × (is_plain_name x.0 ≡ true)
unfolding leading_type_name
name_takes bytes x e =
    let o =
    bind_some (after 32 bytes) (λ opened. after 34 opened >>= λ inside.
    closed (until 34 inside)) x e in
    let i = bind_some (after 34 o.0) (λ inside. closed (until 34 inside)) x o.2 in
    let n =
    bind_some (accepted is_type_name (until 34 i.0).0)
    (λ name. after 34 (until 34 i.0).1 >>= λ rest. Some (name, rest)) x i.2 in
    let r = bind_some (after 34 (until 34 i.0).1) (λ rest. Some (n.0, rest)) x n.2 in
    let h = cond_some (is_type_name (until 34 i.0).0) (until 34 i.0).0 n.0 n.1 in
    let inside : i.0 ≡ n.0 ++ 34 ∷ r.0 =
    until_whole 34 i.0 ∙ ap (λ (w : List ℕ). w ++ (until 34 i.0).1) h.1
    ∙ ap (λ (w : List ℕ). n.0 ++ w) (after_some 34 (until 34 i.0).1 r.0 r.1) in
    let outside : bytes ≡ 32 ∷ (quoted n.0 ++ r.0) =
    after_some 32 bytes o.0 o.1 ∙ ap (λ (w : List ℕ). 32 ∷ w)
    (after_some 34 o.0 i.0 i.1 ∙ ap (λ (w : List ℕ). 34 ∷ w) inside
    ∙ sym (quoted_inside n.0 r.0)) in
    let good : is_plain_name n.0 ≡ true =
    ap is_plain_name (sym h.1) ∙ and_from (is_type_name (until 34 i.0).0) _ h.0 (until-lacks 34 i.0)
    in
    subst (λ (y : List ℕ × List ℕ). (bytes ≡ 32 ∷ (quoted y.0 ++ y.1))
    × (is_plain_name y.0 ≡ true)) (some_is (n.0, r.0) x r.2) (outside, good)

class_takes : (word : List ℕ) (class : Class) → class_named word ≡ Some class
    → word ≡ class_text class
unfolding class_named
class_takes word class e =
    named_takes class_text (SleepMutex ∷ SpinMutex ∷ Rw ∷ Sx ∷ []) word class e

-- a type that is read is written so, and can be
pub type_takes : (bytes : List ℕ) (x : NamedType × List ℕ) → first_type bytes ≡ Some x
    → (bytes ≡ type_text x.0 ++ x.1) × (is_writable x.0 ≡ true)
unfolding first_type
type_takes bytes x e =
    let c =
    bind_some (class_named (until 32 bytes).0)
    (λ class. leading_type_name (until 32 bytes).1 >>= λ y. Some ((class, y.0), y.1)) x e in
    let n =
    bind_some (leading_type_name (until 32 bytes).1) (λ y. Some ((c.0, y.0), y.1)) x c.2 in
    let name = name_takes (until 32 bytes).1 n.0 n.1 in
    let whole : bytes ≡ class_text c.0 ++ 32 ∷ (quoted n.0.0 ++ n.0.1) =
    until_whole 32 bytes
    ∙ ap (λ (w : List ℕ). w ++ (until 32 bytes).1) (class_takes (until 32 bytes).0 c.0 c.1)
    ∙ ap (λ (w : List ℕ). class_text c.0 ++ w) name.0 in
    subst (λ (y : NamedType × List ℕ). (bytes ≡ type_text y.0 ++ y.1) × (is_writable y.0 ≡ true))
    (some_is ((c.0, n.0.0), n.0.1) x n.2)
    (whole ∙ sym (append_assoc (class_text c.0) (32 ∷ quoted n.0.0) n.0.1), name.1)

-- it takes the bytes before what follows it
pub type_length : (bytes : List ℕ) (x : NamedType × List ℕ) → first_type bytes ≡ Some x
    → length (type_text x.0) + length x.1 ≡ length bytes
type_length bytes x e =
    sym (ap length (type_takes bytes x e).0 ∙ length-append (type_text x.0) x.1)

-- and what follows it is the rest
pub type_parts : (bytes : List ℕ) (t : NamedType) (rest : List ℕ) (n : ℕ)
    → first_type bytes ≡ Some (t, rest) → n ≡ length bytes - length rest
    → (take n bytes ≡ type_text t) × (drop n bytes ≡ rest)
type_parts bytes t rest n e is =
    let long : n ≡ length (type_text t) = omega (arith, is, type_length bytes (t, rest) e) in
    let whole : bytes ≡ type_text t ++ rest = (type_takes bytes (t, rest) e).0 in (
      ap₂ take long whole ∙ take-append_seam (type_text t) rest,
      ap₂ drop long whole ∙ drop-append_seam (type_text t) rest,
    )

-- ---- and what is written so is read

name_again : (name rest : List ℕ) → is_plain_name name ≡ true
    → leading_type_name (32 ∷ (quoted name ++ rest)) ≡ Some (name, rest)
unfolding leading_type_name
name_again name rest good =
    let parts = and_parts (is_type_name name) (list_all (λ b. not (eqb b 34)) name) good in
    ap (λ (w : List ℕ). leading_type_name (32 ∷ w)) (quoted_inside name rest)
    ∙ ap closed (until_end 34 name (34 ∷ rest) (Lacks-test 34 name parts.1) refl)
    ∙ rw parts.0 refl

-- what is read of a type once its first word is parted from the rest
abbrev worded : List ℕ × List ℕ → Option (NamedType × List ℕ)
worded parts =
    class_named parts.0 >>= λ class. leading_type_name parts.1 >>= λ x. Some ((class, x.0), x.1)

pub type_again : (t : NamedType) (rest : List ℕ) → is_writable t ≡ true
    → first_type (type_text t ++ rest) ≡ Some (t, rest)
unfolding first_type
type_again t rest good =
    let behind = 32 ∷ (quoted t.1 ++ rest) in
    ap first_type (append_assoc (class_text t.0) (32 ∷ quoted t.1) rest)
    ∙ ap worded (until_end 32 (class_text t.0) behind (class_word.plain t.0 tt) refl)
    ∙ rw (class_word.again t.0 tt, name_again t.1 rest good) refl
