-- What seats have, as their lines are counted.
use Rattle.std.proofs.Common.{◌≡◌, ◌≢◌, ℕ, zero, suc, ◌+◌, ◌-◌, ◌^◌, ◌<◌, ◌≤◌, ◌&&◌, Bool, true, false, eqb, List, [], ◌∷◌, ◌++◌}
use Rattle.std.proofs.Common.{Option, None, Some, length, take, drop, get_or, set, nat_lt}
use Rattle.std.proofs.Common.{refl, ap, ap₂, sym, ◌∙◌, subst, arith, append_assoc}
use Rattle.std.specs.Fmt.{decimal}
use Rattle.std.specs.Global.{Vec}
use Rattle.std.specs.List.{starts_with}
use Rattle.std.proofs.lemmas.Bool.{eqb-true, eq-eqb, ltb-true, ltb-false, false≢true}
use Rattle.std.proofs.lemmas.Fmt.{decimal_injective}
use Rattle.std.proofs.lemmas.List.{map-append, take_more, length-append, length-set}
use Rattle.std.proofs.lemmas.List.{get_or-set_same, get_or-set_other, get_or_append_left, get_or-append_right}
use Rattle.std.proofs.lemmas.List.Elements.{filter-append}
use Rattle.std.proofs.lemmas.Slice.Eq.{starts_is}
use Rattle.std.proofs.lemmas.Bool.Decides.{Decides-eqb}
use Rattle.wit_model.proofs.Spelling.Codecs.{until_end}
use Rattle.wit_model.proofs.Spelling.Words.{decimal_lacks}
use Rattle.wit_model.specs.Trace.Reading.{until}
use Rattle.wit_forecast.specs.Errands.{after_line, does, doing, had, makes, AreRests}
use Rattle.wit_forecast.specs.Owners.{after_space, field, goes_on, lines_in}

-- ---- a line has one seat

began : (bytes first : List ℕ) → starts_with eqb bytes first ≡ true
    → bytes ≡ first ++ drop (length first) bytes
began bytes first is = (starts_is Decides-eqb bytes first (starts_with eqb bytes first) refl).0 is

number_of : (seat : ℕ) → seat < 2 ^ 64 → (line : List ℕ) → goes_on (field seat) line ≡ true
    → (until 32 (after_space line)).0 ≡ decimal seat
number_of seat small line is =
    let rest = drop (length (field seat)) (after_space line) in
    ap (λ bytes. (until 32 bytes).0) (began (after_space line) (field seat) is ∙ append_assoc (decimal seat) (32 ∷ []) rest)
    ∙ ap (λ p. p.0) (until_end 32 (decimal seat) (32 ∷ rest) (decimal_lacks 32 refl seat small) refl)

pub one_seat : (s t : ℕ) → s < 2 ^ 64 → t < 2 ^ 64 → (line : List ℕ)
    → goes_on (field s) line ≡ true → goes_on (field t) line ≡ true → s ≡ t
one_seat s t small also line one other =
    decimal_injective s t small also
    (sym (number_of s small line one) ∙ number_of t also line other)

-- ---- counting

had-append : (shares : ℕ) (xs ys : List (List ℕ)) → had shares (xs ++ ys) ≡ had (had shares xs) ys
had-append shares [] ys = refl
had-append shares (x ∷ xs) ys = had-append (after_line x shares) xs ys

-- one more line
had_last : (seat : List ℕ) (body : List (Vec ℕ)) (line : Vec ℕ)
    → had 0 (doing seat (lines_in (body ++ line ∷ [])))
    ≡ had (had 0 (doing seat (lines_in body))) (doing seat (line.items ∷ []))
had_last seat body line =
    ap (λ lines. had 0 (doing seat lines)) (map-append (λ (l : Vec ℕ). l.items) body (line ∷ []))
    ∙ ap (had 0) (filter-append (does seat) (lines_in body) (line.items ∷ []))
    ∙ had-append 0 (doing seat (lines_in body)) (doing seat (line.items ∷ []))

-- of each seat
abbrev pub Counts : List ℕ → List (Vec ℕ) → Type 0
Counts counts body = (t : ℕ) → t < 257 → get_or counts t 0 ≡ had 0 (doing (field t) (lines_in body))

and_false : (b : Bool) → (b && false) ≡ false
and_false true = refl
and_false false = refl

passed : (seat : List ℕ) (line : List ℕ) (shares : ℕ) → does seat line ≡ false
    → had shares (doing seat (line ∷ [])) ≡ shares
passed seat line shares is = rw (is) refl

-- who makes a lock gets no share
makes_none : (seat line : List ℕ) → makes line ≡ true → does seat line ≡ false
makes_none seat line is = rw (is) (and_false (goes_on seat line))

pub after_making : (seat line : List ℕ) (shares : ℕ) → makes line ≡ true
    → had shares (doing seat (line ∷ [])) ≡ shares
after_making seat line shares is = passed seat line shares (makes_none seat line is)

pub after_another : (seat line : List ℕ) (shares : ℕ) → goes_on seat line ≡ true → makes line ≡ false
    → had shares (doing seat (line ∷ [])) ≡ after_line line shares
after_another seat line shares own other = rw (own, other) refl

pub counts_next : (counts : List ℕ) (seat after : ℕ) (body : List (Vec ℕ)) (line : Vec ℕ)
    → length counts ≡ 257 → seat < 257 → goes_on (field seat) line.items ≡ true
    → after ≡ had (get_or counts seat 0) (doing (field seat) (line.items ∷ []))
    → Counts counts body → Counts (set counts seat after) (body ++ line ∷ [])
counts_next counts seat after body line all small own is before = λ t less. go t less (eqb t seat) refl
  where
    not_other : (t : ℕ) → t < 257 → t ≢ seat → (b : Bool) → goes_on (field t) line.items ≡ b
        → does (field t) line.items ≡ false
    not_other t less differs true other =
        absurd (differs (one_seat t seat (omega (arith, less)) (omega (arith, small)) line.items other own))
    not_other t less differs false other = rw (other) refl

    go : (t : ℕ) → t < 257 → (b : Bool) → eqb t seat ≡ b
        → get_or (set counts seat after) t 0 ≡ had 0 (doing (field t) (lines_in (body ++ line ∷ [])))
    go t less true same =
        subst (λ t. get_or (set counts seat after) t 0 ≡ had 0 (doing (field t) (lines_in (body ++ line ∷ []))))
        (sym (eqb-true t seat same))
        (get_or-set_same counts seat after 0 (omega (arith, all, small)) ∙ is
        ∙ ap (λ n. had n (doing (field seat) (line.items ∷ []))) (before seat small)
        ∙ sym (had_last (field seat) body line))
    go t less false differs =
        let apart : t ≢ seat = λ same. false≢true (sym differs ∙ eq-eqb t seat same) in
        get_or-set_other counts seat t after 0 apart
        ∙ before t less
        ∙ sym (had_last (field t) body line
        ∙ passed (field t) line.items (had 0 (doing (field t) (lines_in body)))
        (not_other t less apart (goes_on (field t) line.items) refl))

-- ---- places

pub rests_next : (rests : List (Option ℕ)) (rest : Option ℕ) (body : List (Vec ℕ))
    → ((seat : ℕ) → rest ≡ Some seat
    → had 0 (doing (field seat) (lines_in (take (length rests) body))) ≡ 0)
    → AreRests rests body → AreRests (rests ++ rest ∷ []) body
rests_next rests rest body here before = λ place seat. go place seat (nat_lt place (length rests)) refl
  where
    Nothing : ℕ → ℕ → Type 0
    Nothing place seat = had 0 (doing (field seat) (lines_in (take place body))) ≡ 0

    new : (place seat k : ℕ) → length rests ≤ place → place - length rests ≡ k
        → get_or (rest ∷ []) k None ≡ Some seat → Nothing place seat
    new place seat zero after same is =
        let at : length rests ≡ place = omega (arith, after, same) in
        subst (λ n. Nothing n seat) at (here seat is)
    new place seat (suc k) after same is = absurd cc

    go : (place seat : ℕ) → (b : Bool) → nat_lt place (length rests) ≡ b
        → get_or (rests ++ rest ∷ []) place None ≡ Some seat → Nothing place seat
    go place seat true less is =
        before place seat
        (sym (get_or_append_left rests (rest ∷ []) None place (ltb-true place (length rests) less)) ∙ is)
    go place seat false not_less is =
        let after : length rests ≤ place = ltb-false place (length rests) not_less in
        new place seat (place - length rests) after refl
        (sym (get_or-append_right rests (rest ∷ []) (length rests) place None refl after) ∙ is)

-- ---- one line more

abbrev pub Kept : List ℕ → List (Option ℕ) → List (Vec ℕ) → ℕ → Type 0
Kept counts rests body place =
    (length counts ≡ 257)
    × (length rests ≡ place)
    × Counts counts (take place body)
    × AreRests rests body

pub kept_next : (counts : List ℕ) (rests all : List (Option ℕ)) (body : List (Vec ℕ)) (line : Vec ℕ)
    (seat shares after place : ℕ) (rest : Option ℕ) → Kept counts rests body place
    → place < length body → line ≡ get_or body place line → seat < 257
    → goes_on (field seat) line.items ≡ true → shares ≡ get_or counts seat 0
    → after ≡ had shares (doing (field seat) (line.items ∷ []))
    → ((number : ℕ) → rest ≡ Some number → (number ≡ seat) × (shares ≡ 0))
    → all ≡ rests ++ rest ∷ [] → Kept (set counts seat after) all body (place + 1)
kept_next counts rests all body line seat shares after place rest kept inside at small own is now rested added = (
  length-set counts seat after ∙ kept.0,
  ap length added ∙ length-append rests (rest ∷ []) ∙ ap (λ n. n + 1) kept.1,
  subst (Counts (set counts seat after)) (sym one_more)
      (counts_next counts seat after (take place body) line kept.0 small own
      (now ∙ ap (λ n. had n (doing (field seat) (line.items ∷ []))) is) kept.2),
  subst (λ rs. AreRests rs body) (sym added) (rests_next rests rest body nothing kept.3),
)
  where
    one_more : take (place + 1) body ≡ take place body ++ line ∷ []
    one_more = take_more body place line inside ∙ ap (λ (l : Vec ℕ). take place body ++ l ∷ []) (sym at)

    nothing : (number : ℕ) → rest ≡ Some number
        → had 0 (doing (field number) (lines_in (take (length rests) body))) ≡ 0
    nothing number told =
        let known = rested number told in
        ap₂ (λ n p. had 0 (doing (field n) (lines_in (take p body)))) known.0 kept.1
        ∙ sym (kept.2 seat small)
        ∙ sym is
        ∙ known.1
