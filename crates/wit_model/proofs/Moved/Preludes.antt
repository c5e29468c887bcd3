-- The prelude and the header of a migrated trace, and so all of it.
use Rattle.std.proofs.Common.{◌≡◌, ℕ, ◌+◌, Bool, true, false, cond, List, [], ◌∷◌, ◌++◌, Option}
use Rattle.std.proofs.Common.{None, Some, Result, Ok, refl, ap, ap₂, sym, ◌∙◌, subst, append_assoc}
use Rattle.wit_model.specs.declared.faults.Fault.{Fault}
use Rattle.wit_model.specs.declared.lines.Line.{Line}
use Rattle.wit_model.specs.declared.lines.Line.TheVariants.{Header, Order, Bless, OnLock}
use Rattle.wit_model.specs.declared.lines.Line.TheVariants as kind
use Rattle.wit_model.specs.declared.lines.Version.TheVariants.{One, Two}
use Rattle.wit_model.specs.declared.lines.Cause.TheVariants as why
use Rattle.wit_model.specs.Rules.Sizes.{sizes_of, are_within_limits}
use Rattle.wit_model.specs.Rules.Start.{start_fault}
use Rattle.wit_model.specs.Rules.State.{Story, fresh}
use Rattle.wit_model.specs.World.Scenes.{Scene, opening}
use Rattle.wit_model.specs.Trace.Moving.{Moving, Unmoved, Keeping, Moved, Written}
use Rattle.wit_model.specs.Trace.Moving.{MigrationsTellTheSame, moving_from, moving_ends}
use Rattle.wit_model.specs.Trace.Moving.{moving_opened, moving_outcome, moving_entered}
use Rattle.wit_model.specs.Trace.Moving as moving
use Rattle.wit_model.specs.Trace.Output.{Prelude, Unstarted, Opening, Stepping, BadLine}
use Rattle.wit_model.specs.Trace.Output.{empty_prelude, log_limit, text_before, course_at}
use Rattle.wit_model.specs.Trace.Output.{course_after, course_from}
use Rattle.wit_model.specs.Trace.Output as output
use Rattle.wit_model.specs.Trace.Spelling.{spelling, IsSpellable}
use Rattle.wit_model.proofs.Moved.Agreement.{all_read, calls-agree}
use Rattle.wit_model.proofs.Moved.FirstLines.{is_opening, moves-start}
use Rattle.wit_model.proofs.Moved.GoneOn.{IsRead, gone-on, was-read}
use Rattle.wit_model.proofs.Moved.Lines.{read-short, read-spelled}
use Rattle.wit_model.proofs.Moved.Tells.{all_stepped}
use Rattle.wit_model.proofs.Spelling.Laws.{line_takes}
use Rattle.wit_model.proofs.World.MovedAll.{opening-fits}
use Rattle.wit_model.proofs.Moved.KeptLines.{two, reached-one, reached-two, over-one, over-two}
use Rattle.wit_model.proofs.Moved.KeptLines.{kept-on}

record KeptAgrees (p : Prelude) (n : ℕ) (lines : List (List ℕ)) (tail : List ℕ)
    (kept written : List (List ℕ)) (story : Story) (count : ℕ) : Type 0 where
  text : List ℕ
  scene : Scene
  rest : List (List ℕ)
  none : tail ≡ []
  is : written ≡ kept ++ rest
  was : course_from (Opening p) n lines [] ≡ all_read text story count
  now : course_from (Opening (two p)) n rest [] ≡ all_stepped text scene count
  same : scene.story ≡ story

abbrev end_at : Prelude → List (List ℕ) → ℕ → Bool → Option (ℕ × Fault) → Written
end_at p kept n b o =
    cond b (moving_ends (Keeping p kept) n []) (moving_opened p kept o (λ q. moving_ends q n []))

-- the input ends with the prelude
end-agrees : (p : Prelude) (kept : List (List ℕ)) (n : ℕ) (tail : List ℕ) (story : Story)
    (count : ℕ) → p.version ≡ One
    → IsRead (moving_from (Keeping p kept) n [] tail) story count
    → KeptAgrees p n [] tail kept (moving_from (Keeping p kept) n [] tail).lines story count
end-agrees p kept n [] story count version ends =
    go (is_opening n []) refl (start_fault p.start) refl ends
  where
    go : (b : Bool) → is_opening n [] ≡ b → (o : Option (ℕ × Fault)) → start_fault p.start ≡ o
        → IsRead (end_at p kept n b o) story count
        → KeptAgrees p n [] [] kept (end_at p kept n b o).lines story count
    go true opened o good ends = let none = ends.1 in (cc)
    go false opened (Some refused) good ends = let none = ends.1 in (cc)
    go false opened None good ends =
        let same : output.Reading (fresh p.start) 0 ≡ output.Reading story count = ends.0 in
        let counts : 0 ≡ count = cc in
        record {
          text = [];
          scene = opening (fresh p.start);
          rest = [];
          none = refl;
          is = refl;
          was =
              ap (λ (r : Result output.Progress BadLine). course_at (Opening p) r
              (λ q. output.ends q n [])) (reached-one p version good n [] opened)
              ∙ ap (λ e. record { text = []; reached = e; bad = None }) same;
          now =
              ap (λ (r : Result output.Progress BadLine). course_at (Opening (two p)) r
              (λ q. output.ends q n [])) (reached-two p version good n [] opened)
              ∙ ap (λ c. all_stepped [] (opening (fresh p.start)) c) counts;
          same = cc;
        }
end-agrees p kept n (b ∷ tail) story count version ends =
    go (is_opening n (b ∷ tail)) (start_fault p.start) ends
  where
    go : (c : Bool) (o : Option (ℕ × Fault))
        → IsRead (cond c (moving_ends (Keeping p kept) n (b ∷ tail))
        (moving_opened p kept o (λ q. moving_ends q n (b ∷ tail)))) story count
        → KeptAgrees p n [] (b ∷ tail) kept
        (moving_from (Keeping p kept) n [] (b ∷ tail)).lines story count
    go true o ends = let none = ends.1 in (cc)
    go false (Some refused) ends = let none = ends.1 in (cc)
    go false None ends = let none = ends.1 in (cc)

-- what comes of this line and those behind it, once the prelude is over or not
abbrev next_of : ℕ → List ℕ → List (List ℕ) → List ℕ → Moving → Written
next_of n bytes lines tail q =
    moving.moving_after q n (moving_outcome q n bytes) (λ r. moving_from r (n + 1) lines tail)

abbrev line_at : Prelude → List (List ℕ) → (Moving → Written) → Bool → Option (ℕ × Fault) → Written
line_at p kept next b o = cond b (next (Keeping p kept)) (moving_opened p kept o next)

-- what follows a line of the prelude agrees
inside : (p : Prelude) (kept : List (List ℕ)) (n : ℕ) (bytes : List ℕ) (lines : List (List ℕ))
    (tail : List ℕ) (story : Story) (count : ℕ) → p.version ≡ One
    → ((p' : Prelude) (kept' : List (List ℕ)) → p'.version ≡ One
    → IsRead (moving_from (Keeping p' kept') (n + 1) lines tail) story count
    → KeptAgrees p' (n + 1) lines tail kept'
    (moving_from (Keeping p' kept') (n + 1) lines tail).lines story count)
    → is_opening n bytes ≡ true → IsRead (next_of n bytes lines tail (Keeping p kept)) story count
    → KeptAgrees p n (bytes ∷ lines) tail kept
    (next_of n bytes lines tail (Keeping p kept)).lines story count
inside p kept n bytes lines tail story count version on opened ends =
    let g =
    gone-on (Keeping p kept) n (moving_outcome (Keeping p kept) n bytes)
    (λ r. moving_from r (n + 1) lines tail) story count ends in
    let r = was-read (Keeping p kept) n bytes g.then g.lines g.is in
    let k = kept-on p kept n bytes r.line g.then g.lines version r.enters in
    let ih =
    on k.prelude (kept ++ bytes ∷ []) k.version
    (subst (λ q. IsRead (moving_from q (n + 1) lines tail) story count) k.next g.ends) in
    record {
      text = ih.text;
      scene = ih.scene;
      rest = bytes ∷ ih.rest;
      none = ih.none;
      is =
          ap (λ o. (moving.moving_after (Keeping p kept) n o
          (λ r. moving_from r (n + 1) lines tail)).lines) g.is
          ∙ (ap₂ (λ ls q. ls ++ (moving_from q (n + 1) lines tail).lines) k.none k.next
          ∙ (ih.is ∙ append_assoc kept (bytes ∷ []) ih.rest));
      was =
          ap (λ b. course_at (Opening p)
          (cond b (Ok (Opening p)) (output.opened p (start_fault p.start)))
          (λ q. course_after q n (output.outcome q n bytes)
          (λ u. course_from u (n + 1) lines []))) opened
          ∙ (ap (λ o. course_after (Opening p) n o (λ u. course_from u (n + 1) lines []))
          (read-short (Opening p) n bytes r.line r.short r.spelled ∙ k.one)
          ∙ ap (λ c. text_before [] c) ih.was);
      now =
          ap (λ b. course_at (Opening (two p))
          (cond b (Ok (Opening (two p))) (output.opened (two p) (start_fault p.start)))
          (λ q. course_after q n (output.outcome q n bytes)
          (λ u. course_from u (n + 1) ih.rest []))) opened
          ∙ (ap (λ o. course_after (Opening (two p)) n o (λ u. course_from u (n + 1) ih.rest []))
          (read-short (Opening (two p)) n bytes r.line r.short r.spelled ∙ k.both)
          ∙ ap (λ c. text_before [] c) ih.now);
      same = ih.same;
    }

-- and so does what follows the first line behind it
behind : (p : Prelude) (kept : List (List ℕ)) (n : ℕ) (bytes : List ℕ) (lines : List (List ℕ))
    (tail : List ℕ) (story : Story) (count : ℕ) → p.version ≡ One
    → is_opening n bytes ≡ false → start_fault p.start ≡ None
    → IsRead (next_of n bytes lines tail (Moved (fresh p.start) [] 0)) story count
    → KeptAgrees p n (bytes ∷ lines) tail kept
    (kept ++ (next_of n bytes lines tail (Moved (fresh p.start) [] 0)).lines) story count
behind p kept n bytes lines tail story count version over good ends =
    let x = opening (fresh p.start) in
    let a =
    calls-agree (bytes ∷ lines) x (opening-fits (fresh p.start) refl) 0 n tail
    story count ends in
    let q = Moved (fresh p.start) [] 0 in
    let g =
    gone-on q n (moving_outcome q n bytes) (λ r. moving_from r (n + 1) lines tail)
    story count ends in
    let r = was-read q n bytes g.then g.lines g.is in
    let first =
    moves-start n (fresh p.start) [] 0 bytes g.then g.lines over
    (output.call_of r.line) r.enters in
    let more = first.rest ++ (moving_from g.then (n + 1) lines tail).lines in
    let written : (next_of n bytes lines tail q).lines ≡ first.first ∷ more
    = ap (λ o. (moving.moving_after q n o (λ r. moving_from r (n + 1) lines tail)).lines) g.is
    ∙ ap (λ ls. ls ++ (moving_from g.then (n + 1) lines tail).lines) first.is in
    record {
      text = a.text;
      scene = a.now.scene;
      rest = (next_of n bytes lines tail q).lines;
      none = a.none;
      is = refl;
      was = over-one p version good n bytes over lines ∙ a.was;
      now = ap (λ ls. course_from (Opening (two p)) n ls []) written
          ∙ (over-two p version good n first.first first.ends more
          ∙ (ap (λ ls. course_from (Stepping x 0) n ls []) (sym written) ∙ a.now.ends n));
      same = a.now.same;
    }

by-line : (p : Prelude) (kept : List (List ℕ)) (n : ℕ) (bytes : List ℕ) (lines : List (List ℕ))
    (tail : List ℕ) (story : Story) (count : ℕ) → p.version ≡ One
    → ((p' : Prelude) (kept' : List (List ℕ)) → p'.version ≡ One
    → IsRead (moving_from (Keeping p' kept') (n + 1) lines tail) story count
    → KeptAgrees p' (n + 1) lines tail kept'
    (moving_from (Keeping p' kept') (n + 1) lines tail).lines story count)
    → IsRead (moving_from (Keeping p kept) n (bytes ∷ lines) tail) story count
    → KeptAgrees p n (bytes ∷ lines) tail kept
    (moving_from (Keeping p kept) n (bytes ∷ lines) tail).lines story count
by-line p kept n bytes lines tail story count version on ends =
    go (is_opening n bytes) refl (start_fault p.start) refl ends
  where
    go : (b : Bool) → is_opening n bytes ≡ b → (o : Option (ℕ × Fault)) → start_fault p.start ≡ o
        → IsRead (line_at p kept (next_of n bytes lines tail) b o) story count
        → KeptAgrees p n (bytes ∷ lines) tail kept
        (line_at p kept (next_of n bytes lines tail) b o).lines story count
    go true opened o good ends = inside p kept n bytes lines tail story count version on opened ends
    go false over (Some refused) good ends = let none = ends.1 in (cc)
    go false over None good ends =
        behind p kept n bytes lines tail story count version over good ends

prelude-agrees : (lines : List (List ℕ)) (p : Prelude) (kept : List (List ℕ)) (n : ℕ)
    (tail : List ℕ) (story : Story) (count : ℕ) → p.version ≡ One
    → IsRead (moving_from (Keeping p kept) n lines tail) story count
    → KeptAgrees p n lines tail kept
    (moving_from (Keeping p kept) n lines tail).lines story count
prelude-agrees [] p kept n tail story count version ends =
    end-agrees p kept n tail story count version ends
prelude-agrees (bytes ∷ lines) p kept n tail story count version ends =
    by-line p kept n bytes lines tail story count version
    (λ p' kept' v e. prelude-agrees lines p' kept' (n + 1) tail story count v e) ends

-- ---- the header

record Headed (then : Moving) (lines : List (List ℕ)) (line : Line) : Type 0 where
  prelude : Prelude
  version : prelude.version ≡ One
  header : Line
  next : then ≡ Keeping prelude []
  written : lines ≡ spelling header ∷ []
  one : output.entered Unstarted 1 line ≡ output.Goes (Opening prelude) []
  both : output.outcome Unstarted 1 (spelling header) ≡ output.Goes (Opening (two prelude)) []

headed : (bytes : List ℕ) (line : Line) (then : Moving) (lines : List (List ℕ)) → IsSpellable line
    → moving_entered Unmoved 1 bytes line ≡ moving.Goes then lines → Headed then lines line
headed bytes (Header One s t l c) then lines fits goes =
    go (are_within_limits (sizes_of s t l c log_limit)) refl goes
  where
    go : (b : Bool) → are_within_limits (sizes_of s t l c log_limit) ≡ b
        → cond b (moving.Goes (Keeping (empty_prelude One (sizes_of s t l c log_limit)) [])
        (spelling (Header Two s t l c) ∷ [])) (moving.Bad why.Limit) ≡ moving.Goes then lines
        → Headed then lines (Header One s t l c)
    go true within goes = record {
      prelude = empty_prelude One (sizes_of s t l c log_limit);
      version = refl;
      header = Header Two s t l c;
      next = cc;
      written = cc;
      one =
          ap (λ b. cond b (output.Goes (Opening (empty_prelude One (sizes_of s t l c log_limit)))
          []) (output.Bad why.Limit)) within;
      both = read-spelled Unstarted 1 (Header Two s t l c) fits (λ list same. (cc))
          ∙ ap (λ b. cond b (output.Goes (Opening (empty_prelude Two (sizes_of s t l c log_limit)))
          []) (output.Bad why.Limit)) within;
    }
    go false within goes = (cc)
headed bytes (Header Two s t l c) then lines fits goes = (cc)
headed bytes kind.Profile then lines fits goes = (cc)
headed bytes (Order list) then lines fits goes = (cc)
headed bytes (Bless a b) then lines fits goes = (cc)
headed bytes (kind.Init s lock) then lines fits goes = (cc)
headed bytes (OnLock l) then lines fits goes = (cc)
headed bytes (kind.Assert s l a) then lines fits goes = (cc)
headed bytes (kind.Warn s l f) then lines fits goes = (cc)
headed bytes (kind.Define s a b) then lines fits goes = (cc)
headed bytes (kind.Watch s w) then lines fits goes = (cc)

pub tells-same : MigrationsTellTheSame
tells-same [] [] story count reached whole = (cc)
tells-same [] (b ∷ tail) story count reached whole = (cc)
tells-same (bytes ∷ lines) tail story count reached whole =
    let g =
    gone-on Unmoved 1 (moving_outcome Unmoved 1 bytes)
    (λ r. moving_from r 2 lines tail) story count (reached, whole) in
    let r = was-read Unmoved 1 bytes g.then g.lines g.is in
    let h = headed bytes r.line g.then g.lines (line_takes bytes r.line r.spelled).1 r.enters in
    let a =
    prelude-agrees lines h.prelude [] 2 tail story count h.version
    (subst (λ q. IsRead (moving_from q 2 lines tail) story count) h.next g.ends) in
    let written : (moving_from Unmoved 1 (bytes ∷ lines) tail).lines ≡ spelling h.header ∷ a.rest
    = ap (λ o. (moving.moving_after Unmoved 1 o (λ r. moving_from r 2 lines tail)).lines) g.is
    ∙ (ap₂ (λ ls q. ls ++ (moving_from q 2 lines tail).lines) h.written h.next
    ∙ ap (λ ls. spelling h.header ∷ ls) a.is) in (
      a.none,
      record {
        text = a.text;
        story = story;
        scene = a.scene;
        count = count;
        was =
            ap (λ o. course_after Unstarted 1 o (λ u. course_from u 2 lines []))
            (read-short Unstarted 1 bytes r.line r.short r.spelled ∙ h.one)
            ∙ ap (λ c. text_before [] c) a.was;
        now = ap (λ ls. course_from Unstarted 1 ls []) written
            ∙ (ap (λ o. course_after Unstarted 1 o (λ u. course_from u 2 a.rest [])) h.both
            ∙ ap (λ c. text_before [] c) a.now);
        same = a.same;
      },
    )
