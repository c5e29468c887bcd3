-- What a look and a machine's answer say of the bytes.
use Rattle.std.proofs.Common.{◌≡◌, ◌≢◌, ℕ, ◌+◌, ◌<◌, ◌≤◌, List, [], ◌∷◌, ◌++◌, length, take, drop}
use Rattle.std.proofs.Common.{get_or, Bor, Option, None, Some, IfSome, Result, Ok, Err, IfOk, inl}
use Rattle.std.proofs.Common.{inr, refl, sym, ap, ◌∙◌, append-nil, append_assoc, subst, arith}
use Rattle.std.proofs.Common.{take-append-drop, length-append, length-take}
use Rattle.std.specs.Global.{Vec}
use Rattle.std.specs.Io.{StartsWith}
use Rattle.std.specs.Io.BufRead.{DropsConsumable, FillKeeps}
use Rattle.std.specs.Io.KnownBytes.{Consumes, Keeps}
use Rattle.std.proofs.KnownBytes.{Consumes-nil, Consumes-kept}
use Rattle.std.proofs.lemmas.List.{get_or-take, take-take, take_more}
use Rattle.std.proofs.lemmas.List.Elements.{All-append}
use lib.Seq.{take-append_seam}
use Rattle.wit_model.specs.declared.lines.Cause.TheVariants.{Long, Cut}
use Rattle.wit_stream.specs.Text.{text_of, HasNoFeed}
use Rattle.wit_stream.specs.Machine.{Follows, BreaksAt}
use Rattle.wit_stream.specs.Stream.{Advances, IsInput, OutputFrom, TakesLast, TakesLine, TakesPart}
use Rattle.wit_stream.specs.declared.machine.Step.{Step}
use Rattle.wit_stream.specs.declared.machine.Step.TheVariants.{Goes, Ends}
use Rattle.wit_stream.specs.declared.summary.Summary.{Summary}
use Rattle.wit_stream.proofs.TextLemmas.{text_of-line, text_of-tail, first_of-line}
use Rattle.wit_grammar.specs.declared.parse.TheConstants.{LONGEST}

-- a line of more than 4,096 bytes breaks the text off
pub breaks_long : (line bytes : List ℕ) → HasNoFeed line → LONGEST < length line
    → BreaksAt Long line (text_of (line ++ bytes)).lines (text_of (line ++ bytes)).tail
breaks_long line bytes plain long =
    (long, rw (first_of-line line bytes plain) (take-append_seam line _))

-- so does a line at the end of the input
pub breaks_cut : (line : List ℕ) → HasNoFeed line → 0 < length line → length line ≤ LONGEST
    → BreaksAt Cut line (text_of line).lines (text_of line).tail
breaks_cut line plain some short =
    let e : text_of line ≡ _ = text_of-tail line plain in
    (some, short, ap (λ t. t.lines) e, ap (λ t. t.tail) e)

-- a line that the input ends in
pub cut_output : {E : Type 0} {M : Type 0} (allows : M → ℕ → List (List ℕ) → List ℕ → List ℕ
    → Summary → Type 0) (m : M) (number : ℕ) (line : List ℕ) (answer : Result (Vec ℕ × Summary) E)
    → HasNoFeed line → 0 < length line → length line ≤ LONGEST
    → IfOk answer (λ r. (lines : List (List ℕ)) (tail : List ℕ) → BreaksAt Cut line lines tail
    → allows m number lines tail r.0.items r.1)
    → IfOk answer (λ r. OutputFrom allows m number line r.0.items r.1)
cut_output allows m number line (Err e) plain some short h = tt
cut_output allows m number line (Ok r) plain some short h = h _ _ (breaks_cut line plain some short)

module _ {E : Type 0} (r mid r' : Option (List ℕ)) (limit : Option ℕ)
    (answer : Result (Bor (List ℕ)) E) (shown : Bor (List ℕ)) (is : answer ≡ Ok shown)
    (front : IfSome r (λ xs. IfOk answer (λ s. StartsWith xs s.now)))
    (filled : FillKeeps r mid limit answer) where
  -- a reader that shows these bytes and gives up n of them loses the first n
  pub consumed : (n : ℕ) → n ≤ length shown.now → DropsConsumable mid r' limit n
      → Consumes r r' (take n shown.now)
  consumed n within drops =
      go r mid limit (subst (λ a. IfSome r (λ xs. IfOk a (λ s. StartsWith xs s.now))) is front)
      (subst (FillKeeps r mid limit) is filled) drops
    where
      room_for : (o : Option ℕ) → IfSome o (λ k. length shown.now ≤ k) → IfSome o (λ k. n ≤ k)
      room_for None h = tt
      room_for (Some k) h = omega (arith, h, within)

      go : (a b : Option (List ℕ)) (o : Option ℕ) → IfSome a (λ xs. StartsWith xs shown.now)
          → Keeps a b × IfSome a (λ _. IfSome o (λ k. length shown.now ≤ k))
          → DropsConsumable b r' o n → Consumes a r' (take n shown.now)
      go None b o starts kept drops = tt
      go (Some xs) None o starts kept drops = absurd kept.0
      go (Some xs) (Some ys) o starts kept drops =
          let e : r' ≡ Some (drop n ys) = drops (room_for o kept.1) in
          rw e (sym (take-append-drop n xs) ∙ ap (λ l. l ++ drop n xs)
          (sym (take-take n (length shown.now) xs within) ∙ ap (take n) starts)
          ∙ ap (λ l. take n shown.now ++ drop n l) (sym kept.0))

-- the bytes up to a line feed, and the line feed
with_feed : (bytes : List ℕ) (n : ℕ) → n < length bytes → get_or bytes n 0 ≡ 10
    → take (n + 1) bytes ≡ take n bytes ++ 10 ∷ []
with_feed bytes n within is = take_more bytes n 0 within ∙ ap (λ b. take n bytes ++ b ∷ []) is

-- a reader that shows nothing has nothing left
pub all_taken : {E : Type 0} (r : Option (List ℕ)) (answer : Result (Bor (List ℕ)) E)
    (shown : Bor (List ℕ)) → answer ≡ Ok shown
    → IfSome r (λ xs. IfOk answer (λ s. length s.now ≡ 0 → xs ≡ [])) → length shown.now ≡ 0
    → IsInput r []
all_taken None answer shown is end none = tt
all_taken (Some xs) answer shown is end none =
    subst (λ a. IfOk a (λ s. length s.now ≡ 0 → xs ≡ [])) is end none

module _ {M : Type 0} (allows : M → ℕ → List (List ℕ) → List ℕ → List ℕ → Summary
    → Type 0) (old new : M) (number : ℕ) (r r' : Option (List ℕ)) (line line' : List ℕ) where
  -- the rest of a line was taken, and the machine read it
  pub advances_line : (shown : List ℕ) (len within : ℕ) (text : List ℕ) (step : Step)
      → Consumes r r' (take (len + 1) shown) → len < length (take within shown)
      → HasNoFeed (take len (take within shown)) → get_or (take within shown) len 0 ≡ 10
      → HasNoFeed line → length line + len ≤ LONGEST → line' ≡ []
      → Follows allows old new number (line ++ take len shown) text step
      → Advances (OutputFrom allows) old new number r r' line line' text (Some step)
  advances_line shown len within text step taken less plain_seen feed plain short none follows =
      let few : len ≤ within = omega (arith, less, length-take within shown) in
      let same : take len (take within shown) ≡ take len shown = take-take len within shown few in
      let at : get_or shown len 0 ≡ 10 =
      sym (get_or-take within shown len 0 (omega (arith, less, length-take within shown)))
      ∙ feed in
      let bytes : take (len + 1) shown ≡ take len shown ++ 10 ∷ [] =
      with_feed shown len (omega (arith, less, length-take within shown)) at in
      go (take len shown) step (subst (Consumes r r') bytes taken) (subst HasNoFeed same plain_seen)
      (omega (arith, short, length-take len shown)) follows
    where
      go : (rest : List ℕ) (s : Step) → Consumes r r' (rest ++ 10 ∷ []) → HasNoFeed rest
          → length line + length rest ≤ LONGEST → Follows allows old new number (line ++ rest) text s
          → Advances (OutputFrom allows) old new number r r' line line' text (Some s)
      go rest Goes took plain_rest fits h = record {
        rest = rest;
        taken = took;
        plain = plain_rest;
        none = none;
        told =
            λ input more summary more_is.
            rw (text_of-line (line ++ rest) input
            (All-append (λ b. b ≢ 10) line rest plain plain_rest))
            (h (text_of input).lines (text_of input).tail more summary more_is);
      }
      go rest (Ends summary) took plain_rest fits h =
          let all = All-append (λ b. b ≢ 10) line rest plain plain_rest in
          record {
            rest = rest ++ 10 ∷ [];
            taken = took;
            one =
                record {
                  line = line ++ rest;
                  plain = all;
                  short = omega (arith, fits, length-append line rest);
                  is =
                      inr (sym (append_assoc line rest (10 ∷ [])));
                };
            last = inr (λ more.
                let e : (line ++ (rest ++ 10 ∷ [])) ++ more ≡ (line ++ rest) ++ 10 ∷ more =
                simp append_assoc in
                subst (λ l. OutputFrom allows old number l text summary) (sym e)
                (rw (text_of-line (line ++ rest) more all)
                (h (text_of more).lines (text_of more).tail)));
          }

  -- the reader was at its end
  pub advances_end : (text : List ℕ) (summary : Summary) → IsInput r [] → Keeps r r'
      → HasNoFeed line → length line ≤ LONGEST
      → OutputFrom allows old number line text summary
      → Advances (OutputFrom allows) old new number r r' line line' text (Some (Ends summary))
  advances_end text summary all kept plain short h = record {
    rest = [];
    taken = Consumes-kept r r r' [] (Consumes-nil r) kept;
    one =
        record {
          line = line;
          plain = plain;
          short = omega (arith, short);
          is = inl (append-nil line);
        };
    last = inl (all, rw (append-nil (line ++ []), append-nil line) h);
  }

  -- the beginning of a line that is too long was taken
  pub advances_long : (part text : List ℕ) (summary : Summary) → Consumes r r' part
      → HasNoFeed (line ++ part) → length (line ++ part) ≡ 4097
      → ((lines : List (List ℕ)) (tail : List ℕ) → BreaksAt Long (line ++ part) lines tail
      → allows old number lines tail text summary)
      → Advances (OutputFrom allows) old new number r r' line line' text (Some (Ends summary))
  advances_long part text summary taken plain long h = record {
    rest = part;
    taken = taken;
    one = record { line = line ++ part; plain = plain; short = omega (arith, long); is = inl refl };
    last = inr (λ more. h _ _ (breaks_long (line ++ part) more plain (omega (arith, long))));
  }

-- a machine that shows by the same
pub shown_so : {V M : Type 0} (allows : V → M → ℕ → List (List ℕ) → List ℕ → List ℕ → Summary
    → Type 0) (v w : V) → v ≡ w → (old new : M) (number : ℕ) (r r' : Option (List ℕ))
    (line line' text : List ℕ) (answer : Option Step)
    → Advances (OutputFrom (allows v)) old new number r r' line line' text answer
    → Advances (OutputFrom (allows w)) old new number r r' line line' text answer
shown_so allows v w is old new number r r' line line' text answer h =
    subst (λ x. Advances (OutputFrom (allows x)) old new number r r' line line' text answer) is h

module _ {M : Type 0} (output : M → ℕ → List ℕ → List ℕ → Summary → Type 0) (old new : M)
    (number : ℕ) (r r' : Option (List ℕ)) (line line' text : List ℕ) (answer : Option Step) where
  -- the line goes on
  pub answer_none : Advances output old new number r r' line line' text answer → answer ≡ None
      → TakesPart r r' line line' × (new ≡ old) × (text ≡ [])
  answer_none h is = subst (Advances output old new number r r' line line' text) is h

  -- a line's text
  pub answer_goes : (step : Step)
      → Advances output old new number r r' line line' text answer → answer ≡ Some step
      → step ≡ Goes → TakesLine output old new number r r' line line' text
  answer_goes step h is goes =
      subst (Advances output old new number r r' line line' text) (is ∙ ap Some goes) h

  -- the last text
  pub answer_ends : (step : Step) (summary : Summary)
      → Advances output old new number r r' line line' text answer → answer ≡ Some step
      → step ≡ Ends summary → TakesLast output old number r r' line text summary
  answer_ends step summary h is ends =
      subst (Advances output old new number r r' line line' text) (is ∙ ap Some ends) h
