-- Behind the prelude each line and what is written of it tell the same.
use Rattle.std.proofs.Common.{◌≡◌, ℕ, ◌+◌, ◌^◌, ◌<◌, List, [], ◌∷◌, ◌++◌, Option, Result, Ok, Err}
use Rattle.std.proofs.Common.{None, refl, ap, ap₂, sym, ◌∙◌, subst}
use Rattle.wit_model.specs.declared.assertions.AssertAnswer.{AssertAnswer}
use Rattle.wit_model.specs.declared.faults.Fault.{Fault}
use Rattle.wit_model.specs.declared.flags.LockAssert.{LockAssert}
use Rattle.wit_model.specs.declared.flags.WarnFlags.{WarnFlags}
use Rattle.wit_model.specs.declared.locks.Instance.{Instance}
use Rattle.wit_model.specs.declared.locks.LockNo.{LockNo}
use Rattle.wit_model.specs.declared.calls.Call.{Call}
use Rattle.wit_model.specs.declared.calls.Reply.{Reply}
use Rattle.wit_model.specs.declared.lines.Cause.TheVariants as why
use Rattle.wit_model.specs.Rules.Assertions.{step_assert}
use Rattle.wit_model.specs.Rules.Files.{naming_answer}
use Rattle.wit_model.specs.Rules.State.{Story, state_of}
use Rattle.wit_model.specs.Rules.Step.{answer_of, grown}
use Rattle.wit_model.specs.Rules.Warnings.{warned, step_warn}
use Rattle.wit_model.specs.World.Moving.{LockStep, step_before, raw_moved}
use Rattle.wit_model.specs.World.Scenes.{Scene}
use Rattle.wit_model.specs.Trace.Moving.{Moving, Moved, answered, answered_at, line_alone, moves}
use Rattle.wit_model.specs.Trace.Moving.{moving_after, moving_from}
use Rattle.wit_model.specs.Trace.Moving as moving
use Rattle.wit_model.specs.Trace.Moving.{MovingOutcome, moving_outcome}
use Rattle.wit_model.specs.Trace.Output.{Course, Reading, Stepping, LineCall, Logs, LogsAt}
use Rattle.wit_model.specs.Trace.Output.{Asserts, Warns, Steps, NoCall, reply_text, called, makes}
use Rattle.wit_model.specs.Trace.Output.{at_file, with_file_in, makes_in, at_file_in, in_scene}
use Rattle.wit_model.specs.Trace.Output.{asserts, warns, call_of, calls, calls_in, text_before}
use Rattle.wit_model.specs.Trace.Output.{course_after, course_from}
use Rattle.wit_model.specs.Trace.Output as output
use Rattle.wit_model.proofs.Moved.Lines.{read-short, IsSmall, IsSmallCall, small-before}
use Rattle.wit_model.proofs.Moved.Lines.{small-behind, small-line}
use Rattle.wit_model.proofs.Moved.Tells.{all_stepped, Tells, line-tells, call-tells, unnamed}
use Rattle.wit_model.proofs.Spelling.Laws.{line_takes}
use Rattle.wit_model.proofs.World.Beside.{Fits, DoesStep, Does}
use Rattle.wit_model.proofs.World.MovedAll.{does, naming-fits}
use Rattle.wit_model.proofs.Moved.GoneOn.{IsRead, gone-on, was-read, was-answered}

abbrev pub all_read : List ℕ → Story → ℕ → Course
all_read text s m = record { text = text; reached = Reading s m; bad = None }

-- ---- a line's call

-- what a line and what is written of it come to, from this scene on
record LineAgrees (x : Scene) (m : ℕ) (c : LineCall) (bytes : List ℕ) (q : Moving)
    (lines : List (List ℕ)) : Type 0 where
  scene : Scene
  count : ℕ
  said : List ℕ
  fits : Fits scene
  next : q ≡ Moved scene.story scene.raw count
  was : calls x.story m c ≡ output.Goes (Reading scene.story count) said
  now : (rest : List (List ℕ)) (text : List ℕ) (s : Story) (k : ℕ) → Tells scene count rest text s k
      → Tells x m (lines ++ rest) (said ++ text) s k

-- the scene after a call and the steps beside it
after : {t : ℕ} {call : Call} {r : Reply} {z : Scene} (d : Does t call r z) (m : ℕ)
    → Moved (grown z.story t call r) (raw_moved z.story.history z.raw t call r) m
    ≡ Moved d.last.story d.last.raw m
after d m = ap₂ (λ s raw. Moved s raw m) (sym d.story) (sym d.shares)

module _ (x : Scene) (fits : Fits x) (m : ℕ) (bytes : List ℕ) where
  abbrev Reads : LineCall → Type 0
  Reads c = (z : Scene) (n : ℕ) → output.outcome (Stepping z m) n bytes ≡ calls_in z m c

  -- a call that a line makes where this scene stands, once its file is named
  module _ (z : Scene) (c : LineCall) (t : ℕ) (call : Call) (seat : t < 2 ^ 16)
      (small : IsSmallCall call) where
    -- the scene at the line, behind the step before it
    Before : Scene → Type 0
    Before first = (y : Scene) × DoesStep x t (step_before z.story.history t call) y
        × ((n : ℕ) → output.outcome (Stepping y m) n bytes ≡ makes_in first m t call)

    answered-agrees : Fits z → (q : Moving) (lines : List (List ℕ))
        → ((r : Reply) → answer_of z.story t call ≡ Ok r
        → calls x.story m c ≡ output.Goes (Reading (grown z.story t call r) m)
        (reply_text (grown z.story t call r) r))
        → ((first : Scene) → DoesStep z t (step_before z.story.history t call) first → Before first)
        → answered z.story z.raw m bytes t call (answer_of z.story t call) ≡ moving.Goes q lines
        → LineAgrees x m c bytes q lines
    unfolding Before
    answered-agrees fits_z q lines was before goes =
        let a = was-answered z.story z.raw m bytes t call (answer_of z.story t call) q lines goes in
        let d = does z fits_z t call a.reply a.is a.free in
        let y = before d.first d.before in
        record {
          scene = d.last;
          count = m;
          said = reply_text (grown z.story t call a.reply) a.reply;
          fits = d.fits;
          next = a.next ∙ after d m;
          was =
              was a.reply a.is ∙ ap (λ (s : Story). output.Goes (Reading s m)
              (reply_text (grown z.story t call a.reply) a.reply)) (sym d.story);
          now = λ rest text s k tells.
              subst (λ ls. Tells x m (ls ++ rest)
              (reply_text (grown z.story t call a.reply) a.reply ++ text) s k) (sym a.written)
              (call-tells x y.0 m t call a.reply z d bytes rest text s k seat
              (small-before z.story.history t call small)
              (small-behind z.story.history z.raw t call small)
              y.1 y.2 tells);
        }

  logs-agree : (t : ℕ) (call : Call) (q : Moving) (lines : List (List ℕ)) → IsSmall (Logs t call)
      → Reads (Logs t call)
      → answered x.story x.raw m bytes t call (answer_of x.story t call) ≡ moving.Goes q lines
      → LineAgrees x m (Logs t call) bytes q lines
  unfolding Before
  logs-agree t call q lines small reads goes =
      answered-agrees x (Logs t call) t call small.0 small.1 fits q lines
      (λ r is. ap (λ b. called x.story m t call b) is)
      (λ first done. (first, done, λ n. reads first n)) goes

  at-line : (t : ℕ) (file : List ℕ) (call : ℕ → Call) (f : ℕ) → Reads (LogsAt t file call)
      → naming_answer x.story file ≡ Ok f
      → (o : Option LockStep) (first : Scene) → DoesStep (with_file_in file x) t o first
      → (y : Scene) × DoesStep x t o y
      × ((n : ℕ) → output.outcome (Stepping y m) n bytes ≡ makes_in first m t (call f))
  at-line t file call f reads named o first done =
      let u = unnamed file x t o first done in (
        u.scene,
        u.does,
        λ n. reads u.scene n
            ∙ (ap (λ (a : Result ℕ Fault). at_file_in u.scene (λ s' g. makes_in s' m t (call g))
            file a) (ap (λ (y : Story). naming_answer y file) u.story ∙ named)
            ∙ ap (λ y. makes_in y m t (call f)) u.named),
      )

  file-named : (t : ℕ) (file : List ℕ) (call : ℕ → Call) (q : Moving) (lines : List (List ℕ))
      (na : Result ℕ Fault)
      → answered_at x.story x.raw m bytes t call file na ≡ moving.Goes q lines
      → (f : ℕ) × (na ≡ Ok f) × (answered (with_file_in file x).story x.raw m bytes t (call f)
      (answer_of (with_file_in file x).story t (call f)) ≡ moving.Goes q lines)
  file-named t file call q lines (Err fault) goes = (cc)
  file-named t file call q lines (Ok f) goes = (f, refl, goes)

  called-at : (t : ℕ) (file : List ℕ) (call : ℕ → Call) (f : ℕ) → naming_answer x.story file ≡ Ok f
      → (r : Reply) → answer_of (with_file_in file x).story t (call f) ≡ Ok r
      → calls x.story m (LogsAt t file call)
      ≡ output.Goes (Reading (grown (with_file_in file x).story t (call f) r) m)
      (reply_text (grown (with_file_in file x).story t (call f) r) r)
  called-at t file call f named r is =
      ap (λ (o : Result ℕ Fault). at_file x.story (λ s' g. makes s' m t (call g)) file o) named
      ∙ ap (λ b. called (with_file_in file x).story m t (call f) b) is

  logs_at-agree : (t : ℕ) (file : List ℕ) (call : ℕ → Call) (q : Moving) (lines : List (List ℕ))
      → IsSmall (LogsAt t file call) → Reads (LogsAt t file call)
      → answered_at x.story x.raw m bytes t call file (naming_answer x.story file)
      ≡ moving.Goes q lines → LineAgrees x m (LogsAt t file call) bytes q lines
  unfolding Before
  logs_at-agree t file call q lines small reads goes =
      let n = file-named t file call q lines (naming_answer x.story file) goes in
      answered-agrees (with_file_in file x) (LogsAt t file call) t (call n.0) small.0 (small.1 n.0)
      (naming-fits file x fits) q lines
      (called-at t file call n.0 n.1)
      (λ first done. at-line t file call n.0 reads n.1 _ first done) n.2

  -- a line that changes nothing of the story
  alone-agrees : (c : LineCall) (q : Moving) (lines : List (List ℕ)) (count : ℕ) (said : List ℕ)
      → Reads c → calls_in x m c ≡ in_scene x (calls x.story m c)
      → calls x.story m c ≡ output.Goes (Reading x.story count) said
      → line_alone x.raw bytes (calls x.story m c) ≡ moving.Goes q lines
      → LineAgrees x m c bytes q lines
  alone-agrees c q lines count said reads same is goes =
      let e : ◌≡◌ {A = MovingOutcome} (moving.Goes (Moved x.story x.raw count) (bytes ∷ []))
      (moving.Goes q lines) = ap (λ o. line_alone x.raw bytes o) (sym is) ∙ goes in
      record {
        scene = x;
        count = count;
        said = said;
        fits = fits;
        next = cc;
        was = is;
        now = λ rest text s k tells.
            subst (λ ls. Tells x m (ls ++ rest) (said ++ text) s k)
            (let written : bytes ∷ [] ≡ lines = cc in written)
            (line-tells x x m count bytes rest said text s k
            (λ n. reads x n ∙ (same ∙ ap (λ o. in_scene x o) is)) tells);
      }

  asserts-say : (l : ℕ) (a : Result AssertAnswer Fault) (q : Moving) (lines : List (List ℕ))
      → line_alone x.raw bytes (asserts x.story m l a) ≡ moving.Goes q lines
      → (count : ℕ) × (said : List ℕ)
      × (asserts x.story m l a ≡ output.Goes (Reading x.story count) said)
  asserts-say l (Ok a) q lines goes = (_, _, refl)
  asserts-say l (Err fault) q lines goes = (cc)

  warns-say : (counted : List Instance) (a : Result ℕ Fault) (q : Moving) (lines : List (List ℕ))
      → line_alone x.raw bytes (warns x.story m counted a) ≡ moving.Goes q lines
      → (count : ℕ) × (said : List ℕ)
      × (warns x.story m counted a ≡ output.Goes (Reading x.story count) said)
  warns-say counted (Ok a) q lines goes = (_, _, refl)
  warns-say counted (Err fault) q lines goes = (cc)

  asserts-agree : (t : ℕ) (l : LockNo) (flags : LockAssert) (q : Moving) (lines : List (List ℕ))
      → Reads (Asserts t l flags)
      → line_alone x.raw bytes (asserts x.story m l.0 (step_assert (state_of x.story) t l.0 flags))
      ≡ moving.Goes q lines → LineAgrees x m (Asserts t l flags) bytes q lines
  asserts-agree t l flags q lines reads goes =
      let said = asserts-say l.0 (step_assert (state_of x.story) t l.0 flags) q lines goes in
      alone-agrees (Asserts t l flags) q lines said.0 said.1 reads refl said.2 goes

  warns-agree : (t : ℕ) (l : Option LockNo) (flags : WarnFlags) (q : Moving) (lines : List (List ℕ))
      → Reads (Warns t l flags)
      → line_alone x.raw bytes (warns x.story m (warned (state_of x.story) t l flags)
      (step_warn (state_of x.story) t l flags)) ≡ moving.Goes q lines
      → LineAgrees x m (Warns t l flags) bytes q lines
  warns-agree t l flags q lines reads goes =
      let said =
      warns-say (warned (state_of x.story) t l flags)
      (step_warn (state_of x.story) t l flags) q lines goes in
      alone-agrees (Warns t l flags) q lines said.0 said.1 reads refl said.2 goes

  none-agrees : (c : LineCall) (q : Moving) (lines : List (List ℕ))
      → ◌≡◌ {A = MovingOutcome} (moving.Bad why.Syntax) (moving.Goes q lines)
      → LineAgrees x m c bytes q lines
  none-agrees c q lines goes = (cc)

  line-agrees : (c : LineCall) (q : Moving) (lines : List (List ℕ)) → IsSmall c → Reads c
      → moves x.story x.raw m bytes c ≡ moving.Goes q lines → LineAgrees x m c bytes q lines
  line-agrees (Logs t call) q lines small reads goes = logs-agree t call q lines small reads goes
  line-agrees (LogsAt t file call) q lines small reads goes =
      logs_at-agree t file call q lines small reads goes
  line-agrees (Asserts t l flags) q lines small reads goes =
      asserts-agree t l flags q lines reads goes
  line-agrees (Warns t l flags) q lines small reads goes = warns-agree t l flags q lines reads goes
  line-agrees (Steps t l step) q lines small reads goes = none-agrees (Steps t l step) q lines goes
  line-agrees NoCall q lines small reads goes = none-agrees NoCall q lines goes

-- ---- all lines behind the prelude

pub record Agrees (s : Story) (m n : ℕ) (lines : List (List ℕ)) (tail : List ℕ) (x : Scene)
    (moved : List (List ℕ)) (story : Story) (count : ℕ) : Type 0 where
  pub text : List ℕ
  pub none : tail ≡ []
  pub was : course_from (Reading s m) n lines [] ≡ all_read text story count
  pub now : Tells x m moved text story count

pub calls-agree : (lines : List (List ℕ)) (x : Scene) → Fits x
    → (m n : ℕ) (tail : List ℕ) (story : Story) (count : ℕ)
    → IsRead (moving_from (Moved x.story x.raw m) n lines tail) story count
    → Agrees x.story m n lines tail x
    (moving_from (Moved x.story x.raw m) n lines tail).lines story count
calls-agree [] x fits m n [] story count ends =
    let same : Reading x.story m ≡ Reading story count = ends.0 in
    let counts : m ≡ count = cc in
    record {
      text = [];
      none = refl;
      was = ap (λ e. record { text = []; reached = e; bad = None }) same;
      now = record { scene = x; same = cc; ends = λ k. ap (λ c. all_stepped [] x c) counts };
    }
calls-agree [] x fits m n (b ∷ tail) story count ends = let none = ends.1 in (cc)
calls-agree (bytes ∷ lines) x fits m n tail story count ends =
    let q = Moved x.story x.raw m in
    let o = moving_outcome q n bytes in
    let g = gone-on q n o (λ r. moving_from r (n + 1) lines tail) story count ends in
    let r = was-read q n bytes g.then g.lines g.is in
    let spells = line_takes bytes r.line r.spelled in
    let a =
    line-agrees x fits m bytes (call_of r.line) g.then g.lines (small-line r.line spells.1)
    (λ z k. read-short (Stepping z m) k bytes r.line r.short r.spelled) r.enters in
    let rest =
    calls-agree lines a.scene a.fits a.count (n + 1) tail story count
    (subst (λ p. IsRead (moving_from p (n + 1) lines tail) story count) a.next g.ends) in
    let written : (moving_from q n (bytes ∷ lines) tail).lines ≡ g.lines
    ++ (moving_from (Moved a.scene.story a.scene.raw a.count) (n + 1) lines tail).lines
    = ap (λ p. (moving_after q n p (λ r. moving_from r (n + 1) lines tail)).lines) g.is
    ∙ ap (λ p. g.lines ++ (moving_from p (n + 1) lines tail).lines) a.next in
    record {
      text = a.said ++ rest.text;
      none = rest.none;
      was =
          ap (λ p. course_after (Reading x.story m) n p (λ r. course_from r (n + 1) lines []))
          (read-short (Reading x.story m) n bytes r.line r.short r.spelled ∙ a.was)
          ∙ ap (λ c. text_before a.said c) rest.was;
      now =
          subst (λ ls. Tells x m ls (a.said ++ rest.text) story count) (sym written)
          (a.now _ rest.text story count rest.now);
    }
