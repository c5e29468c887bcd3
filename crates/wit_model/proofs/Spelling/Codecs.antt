-- What a printer and a reader have to do with each other: printed and read again, and read only
-- where it was printed so.
use Rattle.std.proofs.Common.{◌≡◌, ℕ, Bool, true, false, cond, not, eqb, List, [], ◌∷◌, ◌++◌}
use Rattle.std.proofs.Common.{length, Option, Some, None, refl, sym, ap, subst, ◌∙◌, arith}
use Rattle.std.specs.List.{list_all}
use Rattle.std.specs.Str.{bytes_eq}
use Rattle.std.proofs.lemmas.Bool.{and_parts, eqb-true, eq-eqb, not-true}
use Rattle.std.proofs.lemmas.List.{take_at, drop_at, take-append-drop, nil_from_length}
use Rattle.std.proofs.lemmas.Option.{cond_some}
use Rattle.std.proofs.lemmas.Slice.Eq.{bytes_eq-Decides}
use Rattle.wit_model.specs.Trace.Reading.{◌>>=◌, after, byte_place, until, named, leading_word}
use Rattle.wit_model.specs.Trace.Reading.{field_at, fixed_at, behind, optional, both, whole}

-- ---- steps of a reader

-- the value of a step that gave one
pub bind_some : {A B : Type 0} (o : Option A) (f : A → Option B) (y : B) → (o >>= f) ≡ Some y
    → (x : A) × (o ≡ Some x) × (f x ≡ Some y)
bind_some None f y e = absurd cc
bind_some (Some x) f y e = (x, refl, e)

pub some_is : {A : Type 0} (x y : A) → ◌≡◌ {A = Option A} (Some x) (Some y) → x ≡ y
some_is x y e = cc

-- a test that chose between two ways of reading
pub chosen : {A : Type 0} (P : Type 0) (test : Bool) (x y : Option A) (a : A)
    → (test ≡ true → x ≡ Some a → P) → (test ≡ false → y ≡ Some a → P) → cond test x y ≡ Some a → P
chosen P true x y a first second e = first refl e
chosen P false x y a first second e = second refl e

-- ---- a byte that ends a field

-- the bytes are at their end, or go on with this byte
abbrev pub Ends : ℕ → List ℕ → Type 0
Ends byte [] = Unit {0}
Ends byte (b ∷ bytes) = b ≡ byte

-- the byte stands nowhere among them
abbrev pub Lacks : ℕ → List ℕ → Type 0
Lacks byte [] = Unit {0}
Lacks byte (b ∷ bytes) = (eqb b byte ≡ false) × Lacks byte bytes

pub Lacks-all : (p : ℕ → Bool) (byte : ℕ) → ((b : ℕ) → p b ≡ true → eqb b byte ≡ false)
    → (bytes : List ℕ) → list_all p bytes ≡ true → Lacks byte bytes
Lacks-all p byte other [] all = tt
Lacks-all p byte other (b ∷ bytes) all = let h =
    and_parts (p b) (list_all p bytes) all in (other b h.0, Lacks-all p byte other bytes h.1)

-- a byte that a test doesn't find
pub Lacks-test : (byte : ℕ) (bytes : List ℕ) → list_all (λ b. not (eqb b byte)) bytes ≡ true
    → Lacks byte bytes
Lacks-test byte bytes all =
    Lacks-all (λ b. not (eqb b byte)) byte (λ b other. not-true _ other) bytes all

pub Lacks-append : (byte : ℕ) (xs ys : List ℕ) → Lacks byte xs → Lacks byte ys
    → Lacks byte (xs ++ ys)
Lacks-append byte [] ys p q = q
Lacks-append byte (x ∷ xs) ys p q = (p.0, Lacks-append byte xs ys p.1 q)

pub place_end : (byte : ℕ) (word rest : List ℕ) → Lacks byte word → Ends byte rest
    → byte_place byte (word ++ rest) ≡ length word
place_end byte [] [] lacks ends = refl
place_end byte [] (b ∷ rest) lacks ends = rw (eq-eqb b byte ends) refl
place_end byte (b ∷ word) rest lacks ends =
    rw (lacks.0, place_end byte word rest lacks.1 ends) (omega arith)

pub until_end : (byte : ℕ) (word rest : List ℕ) → Lacks byte word → Ends byte rest
    → until byte (word ++ rest) ≡ (word, rest)
until_end byte word rest lacks ends =
    rw (
      place_end byte word rest lacks ends,
      take_at word rest (length word) refl,
      drop_at word rest (length word) refl,
    ) refl

-- what stands before the byte, and the rest, are the whole
pub until_whole : (byte : ℕ) (bytes : List ℕ) → bytes ≡ (until byte bytes).0 ++ (until byte bytes).1
until_whole byte bytes = sym (take-append-drop (byte_place byte bytes) bytes)

pub after_some : (byte : ℕ) (bytes rest : List ℕ) → after byte bytes ≡ Some rest
    → bytes ≡ byte ∷ rest
after_some byte [] rest e = absurd cc
after_some byte (b ∷ bytes) rest e = let h =
    cond_some (eqb b byte) bytes rest e in let is : b ≡ byte = eqb-true b byte h.0 in cc

-- ---- words

-- text is what a word says, and read tells it
pub record IsWord {A : Type 0} (text : A → List ℕ) (read : List ℕ → Option A) (Fits : A
    → Type 0) : Type 0 where
  pub plain : (a : A) → Fits a → Lacks 32 (text a)
  pub again : (a : A) → Fits a → read (text a) ≡ Some a
  pub takes : (word : List ℕ) (a : A) → read word ≡ Some a → (word ≡ text a) × Fits a

pub named_takes : {A : Type 0} (text : A → List ℕ) (values : List A) (word : List ℕ) (a : A)
    → named text values word ≡ Some a → word ≡ text a
named_takes text [] word a e = absurd cc
named_takes text (value ∷ values) word a e =
    chosen (word ≡ text a) (bytes_eq word (text value)) (Some value) (named text values word) a
    (λ is same. (bytes_eq-Decides word (text value)).0 is ∙ ap text (some_is value a same))
    (λ other. named_takes text values word a) e

-- values whose texts are words, each with a text of its own, are told by these
pub named_word : {A : Type 0} (text : A → List ℕ) (values : List A)
    → ((a : A) → list_all (λ b. not (eqb b 32)) (text a) ≡ true)
    → ((a : A) → named text values (text a) ≡ Some a)
    → IsWord text (named text values) (λ a. Unit {0})
named_word text values plain again = record {
  plain = λ a fits. Lacks-test 32 (text a) (plain a);
  again = λ a fits. again a;
  takes = λ word a e. (named_takes text values word a e, tt);
}

-- ---- fields

-- What a field is: print puts it before what follows, read gives it and what follows. Rest says
-- what may follow.
pub record IsCodec {A : Type 0} (print : A → List ℕ → List ℕ) (read : List ℕ
    → Option (A × List ℕ)) (Fits : A → Type 0) (Rest : List ℕ → Type 0) : Type 0 where
  pub starts : (a : A) (rest : List ℕ) → Rest rest → Ends 32 (print a rest)
  pub again : (a : A) (rest : List ℕ) → Fits a → Rest rest → read (print a rest) ≡ Some (a, rest)
  pub takes : (bytes : List ℕ) (a : A) (rest : List ℕ) → read bytes ≡ Some (a, rest)
      → (bytes ≡ print a rest) × Fits a

-- nothing may follow
abbrev pub EndsHere : List ℕ → Type 0
EndsHere rest = rest ≡ []

pub word_takes : (bytes : List ℕ) (word : List ℕ × List ℕ) → leading_word bytes ≡ Some word
    → bytes ≡ 32 ∷ (word.0 ++ word.1)
unfolding leading_word
word_takes bytes word e =
    let b = bind_some (after 32 bytes) (λ rest. Some (until 32 rest)) word e in
    after_some 32 bytes b.0 b.1 ∙ ap (λ (rest : List ℕ). 32 ∷ rest) (until_whole 32 b.0)
    ∙ ap (λ (w : List ℕ × List ℕ). 32 ∷ (w.0 ++ w.1)) (some_is (until 32 b.0) word b.2)

pub word_again : (word rest : List ℕ) → Lacks 32 word → Ends 32 rest
    → leading_word (32 ∷ (word ++ rest)) ≡ Some (word, rest)
unfolding leading_word
word_again word rest lacks ends = ap Some (until_end 32 word rest lacks ends)

abbrev pub print_field : {A : Type 0} → (A → List ℕ) → A → List ℕ → List ℕ
print_field text a rest = 32 ∷ (text a ++ rest)

pub field_codec : {A : Type 0} {text : A → List ℕ} {read : List ℕ → Option A} {Fits : A → Type 0}
    → IsWord text read Fits → IsCodec (print_field text) (field_at read) Fits (Ends 32)
field_codec {A} {text} {read} {Fits} w = record {
  starts = λ a rest ends. refl;
  again =
      λ a rest fits ends. rw (word_again (text a) rest (w.plain a fits) ends, w.again a fits) refl;
  takes = λ bytes a rest e.
      let b =
      bind_some (leading_word bytes) (λ word. read word.0 >>= λ value. Some (value, word.1))
      (a, rest) e in
      let v = bind_some (read b.0.0) (λ value. Some (value, b.0.1)) (a, rest) b.2 in
      let same : (v.0, b.0.1) ≡ (a, rest) = some_is (v.0, b.0.1) (a, rest) v.2 in
      let t = w.takes b.0.0 v.0 v.1 in
      let parts : bytes ≡ 32 ∷ (text v.0 ++ b.0.1) =
      word_takes bytes b.0 b.1 ∙ ap (λ (x : List ℕ). 32 ∷ (x ++ b.0.1)) t.0 in
      subst (λ (x : A × List ℕ). (bytes ≡ 32 ∷ (text x.0 ++ x.1)) × Fits x.0) same (parts, t.1);
}

abbrev pub print_behind : {A : Type 0} → List ℕ → (A → List ℕ → List ℕ) → A → List ℕ → List ℕ
print_behind fixed print a rest = 32 ∷ (fixed ++ print a rest)

pub fixed_again : (fixed rest : List ℕ) → Lacks 32 fixed → Ends 32 rest
    → fixed_at fixed (32 ∷ (fixed ++ rest)) ≡ Some rest
unfolding fixed_at
fixed_again fixed rest lacks ends =
    rw (word_again fixed rest lacks ends, (bytes_eq-Decides fixed fixed).1 refl) refl

pub fixed_takes : (fixed bytes rest : List ℕ) → fixed_at fixed bytes ≡ Some rest
    → bytes ≡ 32 ∷ (fixed ++ rest)
unfolding fixed_at
fixed_takes fixed bytes rest e =
    let b =
    bind_some (leading_word bytes)
    (λ word. cond (bytes_eq word.0 fixed) (Some word.1) None) rest e in
    let h = cond_some (bytes_eq b.0.0 fixed) b.0.1 rest b.2 in
    word_takes bytes b.0 b.1 ∙ ap (λ (x : List ℕ). 32 ∷ (x ++ b.0.1))
    ((bytes_eq-Decides b.0.0 fixed).0 h.0) ∙ ap (λ (x : List ℕ). 32 ∷ (fixed ++ x)) h.1

pub behind_codec : {A : Type 0} {print : A → List ℕ → List ℕ} {read : List ℕ
    → Option (A × List ℕ)} {Fits : A → Type 0} {Rest : List ℕ → Type 0} (fixed : List ℕ)
    → Lacks 32 fixed → IsCodec print read Fits Rest
    → IsCodec (print_behind fixed print) (behind fixed read) Fits Rest
behind_codec {A} {print} {read} {Fits} {Rest} fixed lacks c = record {
  starts = λ a rest ends. refl;
  again =
      λ a rest fits ends. rw (fixed_again fixed (print a rest) lacks (c.starts a rest ends))
      (c.again a rest fits ends);
  takes = λ bytes a rest e.
      let b = bind_some (fixed_at fixed bytes) read (a, rest) e in
      let t = c.takes b.0 a rest b.2 in
      (fixed_takes fixed bytes b.0 b.1 ∙ ap (λ (x : List ℕ). 32 ∷ (fixed ++ x)) t.0, t.1);
}

abbrev pub print_both : {A B : Type 0} → (A → List ℕ → List ℕ) → (B → List ℕ → List ℕ) → A × B
    → List ℕ → List ℕ
print_both print others x rest = print x.0 (others x.1 rest)

pub both_codec : {A B : Type 0} {print : A → List ℕ → List ℕ} {read : List ℕ
    → Option (A × List ℕ)} {Fits : A → Type 0} {others : B → List ℕ → List ℕ} {reads : List ℕ
    → Option (B × List ℕ)} {FitsOthers : B → Type 0} {Rest : List ℕ → Type 0}
    → IsCodec print read Fits (Ends 32) → IsCodec others reads FitsOthers Rest
    → IsCodec (print_both print others) (both read reads) (λ x. Fits x.0 × FitsOthers x.1) Rest
both_codec {A} {B} {print} {read} {Fits} {others} {reads} {FitsOthers} {Rest} p q = record {
  starts = λ x rest ends. p.starts x.0 (others x.1 rest) (q.starts x.1 rest ends);
  again =
      λ x rest fits ends. rw (
        p.again x.0 (others x.1 rest) fits.0 (q.starts x.1 rest ends),
        q.again x.1 rest fits.1 ends,
      ) refl;
  takes = λ bytes x rest e.
      let a = bind_some (read bytes) (λ a. reads a.1 >>= λ b. Some ((a.0, b.0), b.1)) (x, rest) e in
      let b = bind_some (reads a.0.1) (λ b. Some ((a.0.0, b.0), b.1)) (x, rest) a.2 in
      let same : ((a.0.0, b.0.0), b.0.1) ≡ (x, rest) =
      some_is ((a.0.0, b.0.0), b.0.1) (x, rest) b.2 in
      let s = p.takes bytes a.0.0 a.0.1 a.1 in
      let t = q.takes a.0.1 b.0.0 b.0.1 b.1 in
      subst (λ (y : (A × B) × List ℕ). (bytes ≡ print y.0.0 (others y.0.1 y.1))
      × (Fits y.0.0 × FitsOthers y.0.1)) same (s.0 ∙ ap (print a.0.0) t.0, (s.1, t.1));
}

abbrev pub print_optional : {A : Type 0} → (A → List ℕ → List ℕ) → Option A → List ℕ → List ℕ
print_optional print None rest = rest
print_optional print (Some a) rest = print a rest

abbrev pub FitsIfAny : {A : Type 0} → (A → Type 0) → Option A → Type 0
FitsIfAny Fits None = Unit {0}
FitsIfAny Fits (Some a) = Fits a

pub optional_codec : {A : Type 0} {print : A → List ℕ → List ℕ} {read : List ℕ
    → Option (A × List ℕ)} {Fits : A → Type 0}
    → ((a : A) (rest : List ℕ) → eqb (length (print a rest)) 0 ≡ false)
    → IsCodec print read Fits EndsHere
    → IsCodec (print_optional print) (optional read) (FitsIfAny Fits) EndsHere
optional_codec {A} {print} {read} {Fits} longer c = record {
  starts = λ o rest last. optional_starts o rest last;
  again = λ o rest fits last. optional_again o rest fits last;
  takes = λ bytes o rest e.
      chosen ((bytes ≡ print_optional print o rest) × FitsIfAny Fits o) (eqb (length bytes) 0)
      (Some (None, bytes)) (read bytes >>= λ x. Some (Some x.0, x.1)) (o, rest)
      (λ is some. let same : (None, bytes) ≡ (o, rest) = some_is (None, bytes) (o, rest) some in
      subst (λ (y : Option A × List ℕ). (bytes ≡ print_optional print y.0 y.1)
      × FitsIfAny Fits y.0) same (refl, tt))
      (λ longer some.
      let b = bind_some (read bytes) (λ x. Some (Some x.0, x.1)) (o, rest) some in
      let same : (Some b.0.0, b.0.1) ≡ (o, rest) = some_is (Some b.0.0, b.0.1) (o, rest) b.2 in
      subst (λ (y : Option A × List ℕ). (bytes ≡ print_optional print y.0 y.1)
      × FitsIfAny Fits y.0) same (c.takes bytes b.0.0 b.0.1 b.1)) e;
}
  where
    optional_starts : (o : Option A) (rest : List ℕ) → EndsHere rest
        → Ends 32 (print_optional print o rest)
    optional_starts None rest last = rw last tt
    optional_starts (Some a) rest last = c.starts a rest last

    optional_again : (o : Option A) (rest : List ℕ) → FitsIfAny Fits o → EndsHere rest
        → optional read (print_optional print o rest) ≡ Some (o, rest)
    optional_again None rest fits last = rw last refl
    optional_again (Some a) rest fits last = rw (longer a rest, c.again a rest fits last) refl

-- ---- lines

pub whole_again : {A : Type 0} {print : A → List ℕ → List ℕ} {read : List ℕ
    → Option (A × List ℕ)} {Fits : A → Type 0} {Rest : List ℕ → Type 0}
    → IsCodec print read Fits Rest → Rest [] → (a : A) → Fits a → whole read (print a []) ≡ Some a
whole_again c ends a fits = rw (c.again a [] fits ends) refl

-- what a line was made from, and that its bytes are those of the fields
pub record IsMade {A L : Type 0} (print : A → List ℕ → List ℕ) (Fits : A → Type 0) (make : A
    → L) (bytes : List ℕ) (line : L) : Type 0 where
  pub fields : A
  pub made : make fields ≡ line
  pub printed : bytes ≡ print fields []
  pub fit : Fits fields

pub made_takes : {A L : Type 0} {print : A → List ℕ → List ℕ} {read : List ℕ
    → Option (A × List ℕ)} {Fits : A → Type 0} {Rest : List ℕ → Type 0}
    → IsCodec print read Fits Rest → (make : A → L) (bytes : List ℕ) (line : L)
    → (whole read bytes >>= λ x. Some (make x)) ≡ Some line → IsMade print Fits make bytes line
made_takes {A} {L} {print} {read} {Fits} c make bytes line e =
    let w = bind_some (whole read bytes) (λ x. Some (make x)) line e in
    let r = bind_some (read bytes) (λ x. cond (eqb (length x.1) 0) (Some x.0) None) w.0 w.1 in
    let h = cond_some (eqb (length r.0.1) 0) r.0.0 w.0 r.2 in
    let nothing : r.0.1 ≡ [] = nil_from_length r.0.1 (eqb-true _ _ h.0) in
    let t = c.takes bytes r.0.0 r.0.1 r.1 in
    record {
      fields = r.0.0;
      made = ap make h.1 ∙ some_is (make w.0) line w.2;
      printed = t.0 ∙ ap (print r.0.0) nothing;
      fit = t.1;
    }
