-- The places of a line are printed and read alike.
use Rattle.std.proofs.Common.{◌≡◌, ℕ, ◌^◌, ◌<◌, true, false, eqb, List, [], ◌∷◌, ◌++◌, Option}
use Rattle.std.proofs.Common.{Some, None, refl, sym, ap, subst, ◌∙◌, arith}
use Rattle.std.specs.Prelude.{IsTrue}
use Rattle.std.specs.Fmt.{decimal}
use Rattle.std.proofs.lemmas.Bool.{and_parts, eqb-true, eq-eqb, ne_eqb, both_ways}
use Rattle.std.proofs.lemmas.Option.{cond_some}
use Rattle.wit_model.specs.Trace.Reading.{◌>>=◌, number_of, accepted, parted_before, parted_at_last}
use Rattle.wit_model.specs.Trace.Reading.{site_of}
use Rattle.wit_model.specs.Trace.Spelling.{site_text}
use Rattle.wit_model.specs.Rules.Names.{is_file_name, is_file_byte}
use Rattle.wit_model.proofs.Spelling.Codecs.{IsWord, Lacks, Lacks-all, Lacks-append, bind_some}
use Rattle.wit_model.proofs.Spelling.Codecs.{some_is}
use Rattle.wit_model.proofs.Spelling.Words.{decimal_lacks, number_word}

-- digits hold no colon
parted_none : (byte : ℕ) (bytes : List ℕ) → Lacks byte bytes → parted_at_last byte bytes ≡ None
parted_none byte [] lacks = refl
parted_none byte (b ∷ bytes) lacks = rw (parted_none byte bytes lacks.1, lacks.0) refl

-- the last such byte parts
pub parted_here : (byte : ℕ) (front back : List ℕ) → parted_at_last byte back ≡ None
    → parted_at_last byte (front ++ byte ∷ back) ≡ Some (front, back)
parted_here byte [] back none = rw (none, eq-eqb byte byte refl) refl
parted_here byte (b ∷ front) back none = rw (parted_here byte front back none) refl

parted_step : (byte b : ℕ) (bytes : List ℕ) (o : Option (List ℕ × List ℕ)) (x : List ℕ × List ℕ)
    → ((y : List ℕ × List ℕ) → o ≡ Some y → bytes ≡ y.0 ++ byte ∷ y.1)
    → parted_before b (eqb b byte) bytes o ≡ Some x → b ∷ bytes ≡ x.0 ++ byte ∷ x.1
parted_step byte b bytes (Some y) x sofar e =
    let same : (b ∷ y.0, y.1) ≡ x = some_is (b ∷ y.0, y.1) x e in
    subst (λ (z : List ℕ × List ℕ). b ∷ bytes ≡ z.0 ++ byte ∷ z.1) same
    (ap (λ (w : List ℕ). b ∷ w) (sofar y refl))
parted_step byte b bytes None x sofar e =
    let h = cond_some (eqb b byte) ([], bytes) x e in
    let is : b ≡ byte = eqb-true b byte h.0 in
    subst (λ (z : List ℕ × List ℕ). b ∷ bytes ≡ z.0 ++ byte ∷ z.1) h.1
    (ap (λ (w : ℕ). w ∷ bytes) is)

parted_takes : (byte : ℕ) (bytes : List ℕ) (x : List ℕ × List ℕ)
    → parted_at_last byte bytes ≡ Some x → bytes ≡ x.0 ++ byte ∷ x.1
parted_takes byte [] x e = absurd cc
parted_takes byte (b ∷ bytes) x e =
    parted_step byte b bytes (parted_at_last byte bytes) x (parted_takes byte bytes) e

not_file_byte : (b : ℕ) → is_file_byte b ≡ true → eqb b 32 ≡ false
not_file_byte b file =
    ne_eqb b 32 (λ same. absurd (both_ways _ refl (ap is_file_byte (sym same) ∙ file)))

file_lacks : (file : List ℕ) → is_file_name file ≡ true → Lacks 32 file
file_lacks file h = Lacks-all is_file_byte 32 not_file_byte file (and_parts _ _ h).1

pub site_word : IsWord (λ x. site_text x.0 x.1) site_of (λ x. IsTrue (is_file_name x.0)
    × (x.1 < 2 ^ 32))
unfolding site_of
site_word = record {
  plain =
      λ x fits. Lacks-append 32 x.0 (58 ∷ decimal x.1) (file_lacks x.0 fits.0)
      (refl, decimal_lacks 32 refl x.1 (omega (arith, fits.1)));
  again =
      λ x fits. rw (
        parted_here 58 x.0 (decimal x.1)
            (parted_none 58 (decimal x.1) (decimal_lacks 58 refl x.1 (omega (arith, fits.1)))),
        fits.0,
        line.again x.1 fits.1,
      ) refl;
  takes = λ word x e.
      let p =
      bind_some (parted_at_last 58 word)
      (λ parts. accepted is_file_name parts.0 >>= λ file.
      number_of (2 ^ 32) parts.1 >>= λ line. Some (file, line)) x e in
      let f =
      bind_some (accepted is_file_name p.0.0)
      (λ file. number_of (2 ^ 32) p.0.1 >>= λ line. Some (file, line)) x p.2 in
      let n = bind_some (number_of (2 ^ 32) p.0.1) (λ line. Some (f.0, line)) x f.2 in
      let h = cond_some (is_file_name p.0.0) p.0.0 f.0 f.1 in
      let same : (f.0, n.0) ≡ x = some_is (f.0, n.0) x n.2 in
      let t = line.takes p.0.1 n.0 n.1 in
      let good : is_file_name f.0 ≡ true = ap is_file_name (sym h.1) ∙ h.0 in
      subst (λ (y : List ℕ × ℕ). (word ≡ site_text y.0 y.1)
      × (IsTrue (is_file_name y.0) × (y.1 < 2 ^ 32))) same (
        parted_takes 58 word p.0 p.1 ∙ ap (λ (w : List ℕ). w ++ 58 ∷ p.0.1) h.1
            ∙ ap (λ (w : List ℕ). f.0 ++ 58 ∷ w) t.0,
        (good, t.1),
      );
}
  where
    line : IsWord decimal (number_of (2 ^ 32)) (λ n. n < 2 ^ 32)
    line = number_word (2 ^ 32) (omega arith)
