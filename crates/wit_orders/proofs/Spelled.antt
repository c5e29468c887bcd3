-- A line is read just where it is spelled so.
use Rattle.std.proofs.Common.{◌≡◌, ℕ, true, false, cond, eqb, List, [], ◌∷◌, ◌++◌}
use Rattle.std.proofs.Common.{Some, None, refl, sym, ap, ◌∙◌, subst, append-nil}
use Rattle.std.proofs.Common.{length, codes, arith}
use Rattle.std.proofs.lemmas.Bool.{ne_eqb, eqb-true}
use Rattle.std.proofs.lemmas.List.{nil_from_length}
use Rattle.std.proofs.lemmas.Option.{cond_some}
use Rattle.wit_model.specs.Trace.Reading.{◌>>=◌, after, fixed_at}
use Rattle.wit_model.proofs.Spelling.Codecs.{bind_some, some_is, chosen, after_some, fixed_again}
use Rattle.wit_model.proofs.Spelling.Codecs.{fixed_takes}
use Rattle.wit_recordings.specs.Recordings.{NamedType}
use Rattle.wit_orders.specs.declared.reading.OrderLine.{OrderLine}
use Rattle.wit_orders.specs.declared.reading.OrderLine.TheVariants.{Listed, Pair}
use Rattle.wit_orders.specs.Reading.{type_text, first_type, second_type, is_remark, pair_of}
use Rattle.wit_orders.specs.Reading.{order_line}
use Rattle.wit_orders.specs.Spelling.{is_writable, Spells}
use Rattle.wit_orders.proofs.Types.{type_takes, type_again}

-- ---- what is spelled is read

abbrev arrowed : NamedType → List ℕ → List ℕ
arrowed b remark = codes " > " ++ (type_text b ++ remark)

second_again : (b : NamedType) (remark : List ℕ) → is_writable b ≡ true
    → second_type (arrowed b remark) ≡ Some (b, remark)
unfolding second_type
second_again b remark good =
    rw (fixed_again (codes ">") (32 ∷ (type_text b ++ remark)) (refl, tt) refl)
    (type_again b remark good)

pair_again : (a b : NamedType) (remark : List ℕ) → is_writable b ≡ true
    → is_remark remark ≡ true → pair_of a (arrowed b remark) ≡ Some (Pair a b)
unfolding pair_of
pair_again a b remark good remarks = rw (second_again b remark good, remarks) refl

spelled-read : (bytes : List ℕ) (said : OrderLine NamedType) → Spells bytes said
    → order_line bytes ≡ Some said
unfolding order_line
spelled-read bytes (Listed t) is =
    ap order_line (is.0 ∙ sym (append-nil (type_text t))) ∙ rw (type_again t [] is.1) refl
spelled-read bytes (Pair a b) is =
    let longer : eqb (length (arrowed b is.remark)) 0 ≡ false =
    ne_eqb _ 0 (λ e. absurd (omega arith)) in
    ap order_line is.written
    ∙ rw (type_again a (arrowed b is.remark) is.first, longer)
    (pair_again a b is.remark is.second is.remarks)

-- ---- what is read is spelled

second_takes : (bytes : List ℕ) (x : NamedType × List ℕ) → second_type bytes ≡ Some x
    → (bytes ≡ arrowed x.0 x.1) × (is_writable x.0 ≡ true)
unfolding second_type
second_takes bytes x e =
    let f = bind_some (fixed_at (codes ">") bytes) (λ rest. after 32 rest >>= first_type) x e in
    let s = bind_some (after 32 f.0) first_type x f.2 in
    let t = type_takes s.0 x s.2 in (
      fixed_takes (codes ">") bytes f.0 f.1
          ∙ ap (λ (w : List ℕ). 32 ∷ (codes ">" ++ w))
          (after_some 32 f.0 s.0 s.1 ∙ ap (λ (w : List ℕ). 32 ∷ w) t.0),
      t.1,
    )

-- of a line whose first type is read
behind-first : (bytes : List ℕ) (x : NamedType × List ℕ) (said : OrderLine NamedType)
    → first_type bytes ≡ Some x → pair_of x.0 x.1 ≡ Some said → Spells bytes said
unfolding pair_of
behind-first bytes x said first e =
    let y =
    bind_some (second_type x.1) (λ y. cond (is_remark y.1) (Some (Pair x.0 y.0)) None) said e in
    let h = cond_some (is_remark y.0.1) (Pair x.0 y.0.0) said y.2 in
    let one = type_takes bytes x first in
    let two = second_takes x.1 y.0 y.1 in
    subst (Spells bytes) h.1
    (record {
      remark = y.0.1;
      written = one.0 ∙ ap (λ (w : List ℕ). type_text x.0 ++ w) two.0;
      remarks = h.0;
      first = one.1;
      second = two.1;
    })

alone : (bytes : List ℕ) (x : NamedType × List ℕ) → first_type bytes ≡ Some x
    → eqb (length x.1) 0 ≡ true → Spells bytes (Listed x.0)
alone bytes x first none =
    let t = type_takes bytes x first in
    let empty : x.1 ≡ [] = nil_from_length x.1 (eqb-true (length x.1) 0 none) in (
      t.0 ∙ ap (λ (w : List ℕ). type_text x.0 ++ w) empty ∙ append-nil (type_text x.0),
      t.1,
    )

read-spelled : (bytes : List ℕ) (said : OrderLine NamedType) → order_line bytes ≡ Some said
    → Spells bytes said
unfolding order_line
read-spelled bytes said e =
    let x =
    bind_some (first_type bytes)
    (λ x. cond (eqb (length x.1) 0) (Some (Listed x.0)) (pair_of x.0 x.1)) said e in
    chosen (Spells bytes said) (eqb (length x.0.1) 0) (Some (Listed x.0.0)) (pair_of x.0.0 x.0.1)
    said
    (λ none is.
    subst (Spells bytes) (some_is (Listed x.0.0) said is) (alone bytes x.0 x.1 none))
    (λ more is. behind-first bytes x.0 said x.1 is) x.2

pub reads-spellings : (bytes : List ℕ) (said : OrderLine NamedType)
    → (order_line bytes ≡ Some said → Spells bytes said)
    × (Spells bytes said → order_line bytes ≡ Some said)
reads-spellings bytes said = (read-spelled bytes said, spelled-read bytes said)
