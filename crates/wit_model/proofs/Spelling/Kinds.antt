-- The lines that begin a trace, and those that make a lock, are printed and read alike.
use Rattle.std.proofs.Common.{◌≡◌, ℕ, ◌^◌, ◌<◌, true, cond, not, eqb, List, [], ◌∷◌, ◌++◌, length}
use Rattle.std.proofs.Common.{Option, Some, None, refl, sym, ap, subst, ◌∙◌, arith, codes}
use Rattle.std.specs.Prelude.{IsTrue, IfSome}
use Rattle.std.specs.Fmt.{decimal}
use Rattle.std.specs.List.{list_all}
use Rattle.std.proofs.lemmas.Bool.{and_parts, eqb-true}
use Rattle.std.proofs.lemmas.List.{length-append, nil_from_length}
use Rattle.std.proofs.lemmas.Option.{cond_some}
use Rattle.wit_model.specs.declared.lines.Line.{Line}
use Rattle.wit_model.specs.declared.lines.Line.TheVariants.{Header, Profile, Order, Bless, Init}
use Rattle.wit_model.specs.declared.lines.Version.{Version}
use Rattle.wit_model.specs.declared.calls.NewLock.{NewLock}
use Rattle.wit_model.specs.declared.locks.SeatNo.{SeatNo}
use Rattle.wit_model.specs.declared.locks.Class.{Class}
use Rattle.wit_model.specs.Rules.Names.{is_name}
use Rattle.wit_model.specs.Trace.Spelling.{version_text, class_text, lock_letters, flags_text}
use Rattle.wit_model.specs.Trace.Spelling.{quoted, spaced, lock_fields, list_fields}
use Rattle.wit_model.specs.Trace.Spelling.{IsSpellableLock, Spells}
use Rattle.wit_model.specs.Trace.Reading.{◌>>=◌, version_named, class_named, flags_of, field_at}
use Rattle.wit_model.specs.Trace.Reading.{labelled, leading_quoted, optional, both, whole}
use Rattle.wit_model.specs.Trace.Reading.{one_or_more, leading_seat, leading_type, whole_list}
use Rattle.wit_model.specs.Trace.Reading.{fixed_at, header_of, profile_of, order_of, bless_of}
use Rattle.wit_model.specs.Trace.Reading.{init_of}
use Rattle.wit_model.proofs.Spelling.Codecs.{IsCodec, EndsHere, FitsIfAny, Lacks-test, Ends}
use Rattle.wit_model.proofs.Spelling.Codecs.{bind_some, fixed_again, fixed_takes, print_field}
use Rattle.wit_model.proofs.Spelling.Codecs.{print_behind, print_both, print_optional, behind_codec}
use Rattle.wit_model.proofs.Spelling.Codecs.{both_codec, whole_again, made_takes}
use Rattle.wit_model.proofs.Spelling.Fields.{IsBelow, quoted_codec, type_name_codec, version_codec}
use Rattle.wit_model.proofs.Spelling.Fields.{count_codec, seat_codec, class_codec, lock_flags_codec}
use Rattle.wit_model.proofs.Spelling.Repeats.{print_each, AllFit, one_or_more_codec}

-- ---- lines

-- fields that are read are the rest of the line's spelling
pub kind_takes : {A : Type 0} {print : A → List ℕ → List ℕ} {read : List ℕ
    → Option (A × List ℕ)} {Fits : A → Type 0} {Rest : List ℕ → Type 0}
    → IsCodec print read Fits Rest → (make : A → Line) (keyword : List ℕ)
    → ((x : A) → Fits x → Spells (keyword ++ print x []) (make x)) → (rest : List ℕ) (line : Line)
    → (whole read rest >>= λ x. Some (make x)) ≡ Some line → Spells (keyword ++ rest) line
kind_takes {A} {print} c make keyword spells rest line e =
    let m = made_takes c make rest line e in
    let s = spells m.fields m.fit in
    subst (λ (l : Line). Spells (keyword ++ rest) l) m.made
    (ap (λ (w : List ℕ). keyword ++ w) m.printed ∙ s.0, s.1)

pub kind_again : {A : Type 0} {print : A → List ℕ → List ℕ} {read : List ℕ
    → Option (A × List ℕ)} {Fits : A → Type 0} {Rest : List ℕ → Type 0}
    → IsCodec print read Fits Rest → Rest [] → (make : A → Line) (x : A) → Fits x
    → (whole read (print x []) >>= λ x. Some (make x)) ≡ Some (make x)
kind_again c ends make x fits = ap (λ o. o >>= λ x. Some (make x)) (whole_again c ends x fits)

-- one value made of another
made_at_once : {A B C : Type 0} (o : Option A) (f : A → B) (g : B → C)
    → (o >>= λ x. Some (g (f x))) ≡ ((o >>= λ x. Some (f x)) >>= λ y. Some (g y))
made_at_once None f g = refl
made_at_once (Some x) f g = refl

-- ---- the header

abbrev header_make : (Version × (ℕ × (ℕ × (ℕ × ℕ)))) → Line
header_make x = Header x.0 x.1.0 x.1.1.0 x.1.1.1.0 x.1.1.1.1

abbrev print_count : List ℕ → ℕ → List ℕ → List ℕ
print_count label = print_behind label (print_field decimal)

abbrev pub print_header : (Version × (ℕ × (ℕ × (ℕ × ℕ)))) → List ℕ → List ℕ
print_header =
    print_both (print_field version_text) (print_both (print_count (codes "seats"))
    (print_both (print_count (codes "types"))
    (print_both (print_count (codes "locks")) (print_count (codes "chunks")))))

abbrev read_header : List ℕ → Option ((Version × (ℕ × (ℕ × (ℕ × ℕ)))) × List ℕ)
read_header =
    both (field_at version_named) (both (labelled (codes "seats")) (both (labelled (codes "types"))
    (both (labelled (codes "locks")) (labelled (codes "chunks")))))

abbrev FitsHeader : (Version × (ℕ × (ℕ × (ℕ × ℕ)))) → Type 0
FitsHeader x =
    Unit {0} × (IsBelow (2 ^ 32) x.1.0 × (IsBelow (2 ^ 32) x.1.1.0
    × (IsBelow (2 ^ 32) x.1.1.1.0 × IsBelow (2 ^ 32) x.1.1.1.1)))

header_codec : IsCodec print_header read_header FitsHeader (Ends 32)
header_codec =
    both_codec version_codec (both_codec (count (codes "seats") refl)
    (both_codec (count (codes "types") refl)
    (both_codec (count (codes "locks") refl) (count (codes "chunks") refl))))
  where
    count : (label : List ℕ) → list_all (λ b. not (eqb b 32)) label ≡ true
        → IsCodec (print_count label) (labelled label) (IsBelow (2 ^ 32)) (Ends 32)
    count label plain = behind_codec label (Lacks-test 32 label plain) count_codec

pub header_takes : (rest : List ℕ) (line : Line) → header_of rest ≡ Some line
    → Spells (codes "witness-trace" ++ rest) line
unfolding header_of
header_takes =
    kind_takes header_codec header_make (codes "witness-trace")
    (λ x fits. (refl, (fits.1.0, fits.1.1.0, fits.1.1.1.0, fits.1.1.1.1)))

pub header_again : (x : Version × (ℕ × (ℕ × (ℕ × ℕ)))) → FitsHeader x
    → header_of (print_header x []) ≡ Some (header_make x)
unfolding header_of
header_again = kind_again header_codec tt header_make

-- ---- the profile

pub profile_takes : (rest : List ℕ) (line : Line) → profile_of rest ≡ Some line
    → Spells (codes "profile" ++ rest) line
unfolding profile_of
profile_takes rest line e =
    let b =
    bind_some (fixed_at (codes "all") rest)
    (λ more. cond (eqb (length more) 0) (Some Profile) None) line e in
    let h = cond_some (eqb (length b.0) 0) Profile line b.2 in
    let nothing : b.0 ≡ [] = nil_from_length b.0 (eqb-true _ _ h.0) in
    let printed : rest ≡ codes " all" =
    fixed_takes (codes "all") rest b.0 b.1 ∙ ap (λ (w : List ℕ). codes " all" ++ w) nothing in
    subst (λ (l : Line). Spells (codes "profile" ++ rest) l) h.1
    (ap (λ (w : List ℕ). codes "profile" ++ w) printed, tt)

pub profile_again : profile_of (codes " all") ≡ Some Profile
unfolding profile_of
profile_again = rw (fixed_again (codes "all") [] (Lacks-test 32 (codes "all") refl) tt) refl

-- ---- the prelude

pub type_codec_at : IsCodec (print_both (print_field class_text) (print_field quoted)) leading_type
    (λ x. Unit {0} × IsTrue (is_name x.1)) (Ends 32)
unfolding leading_type
type_codec_at = both_codec class_codec (quoted_codec (Ends 32))

abbrev print_type : (Class × List ℕ) → List ℕ → List ℕ
print_type = print_both (print_field class_text) (print_field quoted)

abbrev FitsType : (Class × List ℕ) → Type 0
FitsType x = Unit {0} × IsTrue (is_name x.1)

-- each type takes some bytes of the line
pub type-lt : (x : Class × List ℕ) (rest : List ℕ) → length rest < length (print_type x rest)
type-lt x rest =
    omega (
      arith,
      length-append (class_text x.0) (32 ∷ (quoted x.1 ++ rest)),
      length-append (quoted x.1) rest,
    )

-- so what is left of a line gets shorter with each
pub type_shorter : (bytes : List ℕ) (x : Class × List ℕ) (rest : List ℕ)
    → leading_type bytes ≡ Some (x, rest) → length rest < length bytes
type_shorter bytes x rest e = let t = type_codec_at.takes bytes x rest e in rw t.0 (type-lt x rest)

order_codec : IsCodec (λ x rest. print_type x.0 (print_each print_type x.1 rest))
    (one_or_more leading_type) (λ x. FitsType x.0 × AllFit FitsType x.1) EndsHere
order_codec = one_or_more_codec type-lt type_codec_at

list_printed : (list : List (Class × List ℕ)) → spaced (list_fields list)
    ≡ print_each print_type list []
list_printed [] = refl
list_printed (x ∷ xs) = ap (print_type x) (list_printed xs)

list_fits : (list : List (Class × List ℕ)) → AllFit FitsType list
    → IsTrue (list_all (λ (x : Class × List ℕ). is_name x.1) list)
list_fits [] fits = refl
list_fits (x ∷ xs) fits = rw (fits.0.1, list_fits xs fits.1) refl

fits_list : (list : List (Class × List ℕ))
    → IsTrue (list_all (λ (x : Class × List ℕ). is_name x.1) list) → AllFit FitsType list
fits_list [] all = tt
fits_list (x ∷ xs) all = let h =
    and_parts (is_name x.1) (list_all (λ (x : Class × List ℕ). is_name x.1) xs) all in
    ((tt, h.0), fits_list xs h.1)

abbrev order_make : ((Class × List ℕ) × List (Class × List ℕ)) → Line
order_make x = Order (x.0 ∷ x.1)

order_spells : (x : Class × List ℕ) (xs : List (Class × List ℕ)) → FitsType x → AllFit FitsType xs
    → Spells (codes "order" ++ print_type x (print_each print_type xs [])) (Order (x ∷ xs))
order_spells x xs fits others = (
  ap (λ (w : List ℕ). codes "order" ++ w) (sym (list_printed (x ∷ xs))),
  (omega arith, list_fits (x ∷ xs) (fits, others)),
)

pub order_takes : (rest : List ℕ) (line : Line) → order_of rest ≡ Some line
    → Spells (codes "order" ++ rest) line
unfolding order_of whole_list
order_takes rest line e =
    kind_takes order_codec order_make (codes "order") (λ x fits. order_spells x.0 x.1 fits.0 fits.1)
    rest line (made_at_once (whole (one_or_more leading_type) rest) (λ x. x.0 ∷ x.1) Order ∙ e)

pub order_again : (list : List (Class × List ℕ)) → 0 < length list
    → IsTrue (list_all (λ (x : Class × List ℕ). is_name x.1) list)
    → order_of (spaced (list_fields list)) ≡ Some (Order list)
unfolding order_of whole_list
order_again [] some all = absurd (omega arith)
order_again (x ∷ xs) some all =
    ap order_of (list_printed (x ∷ xs))
    ∙ sym (made_at_once (whole (one_or_more leading_type) (print_each print_type (x ∷ xs) []))
    (λ x. x.0 ∷ x.1) Order)
    ∙ kind_again order_codec refl order_make (x, xs) (fits_list (x ∷ xs) all)

abbrev bless_make : (List ℕ × List ℕ) → Line
bless_make x = Bless x.0 x.1

bless_codec : IsCodec (print_both (print_field quoted) (print_field quoted))
    (both leading_quoted leading_quoted) (λ x. IsTrue (is_name x.0)
    × IsTrue (is_name x.1)) (Ends 32)
bless_codec = both_codec (quoted_codec (Ends 32)) (quoted_codec (Ends 32))

pub bless_takes : (rest : List ℕ) (line : Line) → bless_of rest ≡ Some line
    → Spells (codes "bless" ++ rest) line
unfolding bless_of
bless_takes = kind_takes bless_codec bless_make (codes "bless") (λ x fits. (refl, (fits.0, fits.1)))

pub bless_again : (x : List ℕ × List ℕ) → IsTrue (is_name x.0) × IsTrue (is_name x.1)
    → bless_of (print_both (print_field quoted) (print_field quoted) x []) ≡ Some (bless_make x)
unfolding bless_of
bless_again = kind_again bless_codec tt bless_make

-- ---- a lock is made

abbrev init_make : (ℕ × (Class × (ℕ × (List ℕ × Option (List ℕ))))) → Line
init_make x =
    Init (record { 0 = x.0 }) (record {
      class = x.1.0;
      flags = record { 0 = x.1.1.0 };
      name = x.1.1.1.0;
      type_name = x.1.1.1.1;
    })

init_codec : IsCodec (print_both (print_field decimal)
    (print_both (print_field class_text)
    (print_both (print_field (flags_text lock_letters))
    (print_both (print_field quoted) (print_optional (print_field quoted))))))
    (both leading_seat (both (field_at class_named)
    (both (field_at (flags_of lock_letters)) (both leading_quoted (optional leading_quoted)))))
    (λ x. IsBelow (2 ^ 16) x.0 × (Unit {0}
    × (IsBelow 4 x.1.1.0 × (IsTrue (is_name x.1.1.1.0)
    × FitsIfAny (λ name. IsTrue (is_name name)) x.1.1.1.1)))) EndsHere
init_codec =
    both_codec seat_codec (both_codec class_codec
    (both_codec lock_flags_codec (both_codec (quoted_codec (Ends 32)) type_name_codec)))

init_spells : (seat : ℕ) (class : Class) (flags : ℕ) (name : List ℕ) (type_name : Option (List ℕ))
    → seat < 2 ^ 16 → flags < 4 → IsTrue (is_name name)
    → FitsIfAny (λ name. IsTrue (is_name name)) type_name
    → Spells (codes "init" ++ print_field decimal seat
    (print_field class_text class
    (print_field (flags_text lock_letters) flags
    (print_field quoted name (print_optional (print_field quoted) type_name [])))))
    (init_make (seat, (class, (flags, (name, type_name)))))
init_spells seat class flags name None p q r s = (refl, (p, (q, r, tt)))
init_spells seat class flags name (Some t) p q r s = (refl, (p, (q, r, s)))

pub init_takes : (rest : List ℕ) (line : Line) → init_of rest ≡ Some line
    → Spells (codes "init" ++ rest) line
unfolding init_of
init_takes =
    kind_takes init_codec init_make (codes "init")
    (λ x fits. init_spells x.0 x.1.0 x.1.1.0 x.1.1.1.0 x.1.1.1.1 fits.0 fits.1.1.0
    fits.1.1.1.0 fits.1.1.1.1)

pub init_again : (seat : SeatNo) (lock : NewLock) → seat.0 < 2 ^ 16 → IsSpellableLock lock
    → init_of (spaced (decimal seat.0 ∷ lock_fields lock)) ≡ Some (Init seat lock)
unfolding init_of
init_again seat lock p q = at lock.type_name q.2
  where
    at : (name : Option (List ℕ)) → IfSome name (λ name. IsTrue (is_name name))
        → init_of (spaced (decimal seat.0 ∷ lock_fields (record lock { type_name = name })))
        ≡ Some (Init seat (record lock { type_name = name }))
    at None r =
        kind_again init_codec refl init_make
        (seat.0, (lock.class, (lock.flags.0, (lock.name, None)))) (p, (tt, (q.0, (q.1, tt))))
    at (Some t) r =
        kind_again init_codec refl init_make
        (seat.0, (lock.class, (lock.flags.0, (lock.name, Some t)))) (p, (tt, (q.0, (q.1, r))))
