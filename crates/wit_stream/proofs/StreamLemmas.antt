-- A stream from one look to the next.
use Rattle.std.proofs.Common.{◌≡◌, ◌≢◌, ℕ, ◌+◌, ◌^◌, ◌≤◌, arith, List, [], ◌∷◌, ◌++◌, Option, inr}
use Rattle.std.proofs.Common.{sym, ap, ◌∙◌, subst, append_assoc, append-nil, add-zero}
use Rattle.std.proofs.KnownBytes.{Appends-trans, Consumes-trans, Consumes-kept}
use Rattle.std.specs.Io.KnownBytes.{Keeps, Appends, Consumes}
use Rattle.std.proofs.lemmas.List.Elements.{All-append, All-nil}
use Rattle.wit_stream.specs.Text.{feeds}
use Rattle.wit_stream.specs.Stream.{AppendsFront, ReadingGoesOn, IsInput, IsLastText, IsSpent}
use Rattle.wit_stream.specs.Stream.{ReadsToEnd, TakesLast, TakesLine, TakesPart, AppendsAndKeeps}
use Rattle.wit_stream.specs.Stream.{WritesFront, WritesLines, WritesOutput}
use Rattle.wit_stream.specs.declared.summary.Summary.{Summary}
use Rattle.wit_stream.proofs.TextLemmas.{feeds-append, feeds-line}
use Rattle.wit_stream.proofs.StreamInputs.{Going, HasOutputs, rest_of, IsInput-rest, IsInput-more}
use Rattle.wit_stream.proofs.StreamInputs.{last_input, last_map, AppendsFront-of, front_of}

module _ {P : Type 0} {output : P → ℕ → List ℕ → List ℕ → Summary
    → Type 0} {start at : P} {r0 r w0 w : Option (List ℕ)} {number : ℕ} where
  -- the lines so far, behind which the reading goes on
  goes_on : (begun kept : List ℕ) → (going : Going output start at r0 r w0 w number begun kept)
      → ReadingGoesOn output start going.lines going.wrote
  goes_on begun kept going =
      record {
        at = at;
        on = λ more rest summary h. going.same more rest summary
            (rw going.counted h);
      }

  -- a look took bytes of a line, which goes on
  pub going_part : (at' : P) (r' : Option (List ℕ)) (line line' kept : List ℕ)
      → Going output start at r0 r w0 w number line kept → TakesPart r r' line line' → at' ≡ at
      → Going output start at' r0 r' w0 w number line' kept
  going_part at' r' line line' kept going took same = rw (same, took.begun) (record {
    lines = going.lines;
    wrote = going.wrote;
    whole = going.whole;
    read =
        subst (Consumes r0 r') (append_assoc going.lines line took.part)
        (Consumes-trans r0 r r' (going.lines ++ line) took.part going.read took.taken);
    sent = going.sent;
    written = going.written;
    all = going.all;
    counted = going.counted;
    plain = All-append (λ b. b ≢ 10) line took.part going.plain took.plain;
    same = going.same;
  })

  -- more of what was kept is written
  pub going_told : (w' : Option (List ℕ)) (line kept kept' : List ℕ)
      → Going output start at r0 r w0 w number line kept → AppendsAndKeeps w w' kept kept'
      → Going output start at r0 r w0 w' number line kept'
  going_told w' line kept kept' going told = record {
    lines = going.lines;
    wrote = going.wrote;
    whole = going.whole;
    read = going.read;
    sent = going.sent ++ told.sent;
    written = Appends-trans w0 w w' going.sent told.sent going.written told.written;
    all =
        going.all ∙ ap (λ t. going.sent ++ t) told.all
        ∙ sym (append_assoc going.sent told.sent kept');
    counted = going.counted;
    plain = going.plain;
    same = going.same;
  }

  -- nothing is kept: all texts are written
  all_written : (line : List ℕ) → (going : Going output start at r0 r w0 w number line [])
      → Appends w0 w going.wrote
  all_written line going =
      subst (Appends w0 w) (sym (going.all ∙ append-nil going.sent)) going.written

  -- what came once a look took the rest of a line
  came_line : (r' : Option (List ℕ)) (line rest kept : List ℕ)
      → (going : Going output start at r0 r w0 w number line kept) → Consumes r r' rest
      → Consumes r0 r' (going.lines ++ (line ++ rest))
  came_line r' line rest kept going took =
      subst (Consumes r0 r') (append_assoc going.lines line rest)
      (Consumes-trans r0 r r' (going.lines ++ line) rest going.read took)

  -- a look took a line, and its text is kept
  pub going_line : (next : P) (r' : Option (List ℕ)) (line line' kept text : List ℕ)
      → Going output start at r0 r w0 w number line kept
      → TakesLine output at next number r r' line line' text
      → Going output start next r0 r' w0 w (number + 1) line' (kept ++ text)
  going_line next r' line line' kept text going took =
      let bytes = line ++ took.rest in
      let came : going.lines ++ (line ++ (took.rest ++ 10 ∷ []))
      ≡ (going.lines ++ (bytes ++ 10 ∷ [])) ++ [] = simp (append_assoc, append-nil) in
      let feed : feeds (bytes ++ 10 ∷ []) ≡ 1 =
      feeds-append bytes (10 ∷ []) ∙ ap (λ n. n + 1)
      (feeds-line bytes (All-append (λ b. b ≢ 10) line took.rest going.plain took.plain)) in
      rw took.none (record {
        lines = going.lines ++ (bytes ++ 10 ∷ []);
        wrote = going.wrote ++ text;
        whole = inr (going.lines ++ bytes, sym (append_assoc going.lines bytes (10 ∷ [])));
        read =
            subst (Consumes r0 r') came (came_line r' line
            (took.rest ++ 10 ∷ []) kept going took.taken);
        sent = going.sent;
        written = going.written;
        all = ap (λ t. t ++ text) going.all ∙ append_assoc going.sent kept text;
        counted =
            ap (λ n. n + 1) (going.counted ∙ ap (λ n. feeds going.lines + n) (sym feed)
            ∙ sym (feeds-append going.lines (bytes ++ 10 ∷ [])));
        plain = All-nil (λ b. b ≢ 10);
        same = λ more t summary h.
            let k : output at number ((bytes ++ 10 ∷ []) ++ more) (text ++ t) summary =
            subst (λ l. output at number l (text ++ t) summary)
            (sym (append_assoc bytes (10 ∷ []) more)) (took.told more t summary h) in
            let e : (going.lines ++ (bytes ++ 10 ∷ [])) ++ more
            ≡ going.lines ++ ((bytes ++ 10 ∷ []) ++ more) =
            append_assoc going.lines (bytes ++ 10 ∷ []) more in
            subst (λ l. output start 1 l ((going.wrote ++ text) ++ t) summary) (sym e)
            (subst (λ l. output start 1 (going.lines ++ ((bytes ++ 10 ∷ []) ++ more)) l summary)
            (sym (append_assoc going.wrote text t))
            (going.same ((bytes ++ 10 ∷ []) ++ more) (text ++ t) summary k));
      })

  -- what came, and the last line, are the input
  came_all : (line rest : List ℕ) → (going : Going output start at r0 r w0 w number line [])
      → IsInput r rest → IsInput r0 (going.lines ++ (line ++ rest))
  came_all line rest going all =
      subst (IsInput r0) (append_assoc going.lines line rest)
      (IsInput-more r0 r (going.lines ++ line) rest going.read all)

  -- the last text, behind those before it
  all_last : (r' : Option (List ℕ)) (line text : List ℕ) (summary : Summary)
      → (going : Going output start at r0 r w0 w number line [])
      → (took : TakesLast output at number r r' line text summary)
      → IsLastText (IsInput r0 (going.lines ++ (line ++ took.rest)))
      (λ more. output start 1 ((going.lines ++ (line ++ took.rest)) ++ more)
      (going.wrote ++ text) summary)
  all_last r' line text summary going took =
      last_map _ _ _ _ (came_all line took.rest going)
      (λ more h. subst (λ l. output start 1 l (going.wrote ++ text) summary)
      (sym (append_assoc going.lines (line ++ took.rest) more))
      (going.same ((line ++ took.rest) ++ more) text summary h)) took.last

  -- a look took the last line, and the last text is written
  pub going_last : (r' w' : Option (List ℕ)) (line text : List ℕ) (summary : Summary)
      → Going output start at r0 r w0 w number line []
      → TakesLast output at number r r' line text summary → Appends w w' text
      → WritesOutput (output start 1) r0 w0 w' summary
  going_last r' w' line text summary going took p =
      let came = going.lines ++ (line ++ took.rest) in
      let last =
      last_input r0 r' came _ (came_line r' line took.rest [] going took.taken)
      (all_last r' line text summary going took) in
      record {
        input = came ++ last.0;
        text = going.wrote ++ text;
        is_input = last.1.1;
        is_output = last.1.0;
        written = Appends-trans w0 w w' going.wrote text (all_written line going) p;
      }

  -- what was taken then
  pub going_end : (r' w' : Option (List ℕ)) (line text : List ℕ) (summary : Summary)
      → Going output start at r0 r w0 w number line []
      → TakesLast output at number r r' line text summary → Appends w w' text
      → ReadsToEnd output start r0 r' w0 w' summary
  going_end r' w' line text summary going took p = record {
    lines = going.lines;
    last = line ++ took.rest;
    told = going.wrote;
    text = going.wrote ++ text;
    whole = going.whole;
    goes = goes_on line [] going;
    one = took.one;
    read = came_line r' line took.rest [] going took.taken;
    is_last =
        last_map _ _ _ _ (came_all line took.rest going)
        (λ more h. going.same ((line ++ took.rest) ++ more) text summary h) took.last;
    written = Appends-trans w0 w w' going.wrote text (all_written line going) p;
  }

  -- nothing more is written
  pub going_front : (begun kept : List ℕ) → Going output start at r0 r w0 w number begun kept
      → HasOutputs (output at number) → WritesFront (output start 1) r0 w0 w
  going_front begun kept going outputs =
      let out = outputs (begun ++ rest_of r) in
      record {
        input = going.lines ++ (begun ++ rest_of r);
        text = going.wrote ++ out.0;
        summary = out.1.0;
        is_input =
            subst (IsInput r0) (append_assoc going.lines begun (rest_of r))
            (IsInput-rest r0 r (going.lines ++ begun) going.read);
        is_output = going.same (begun ++ rest_of r) out.0 out.1.0 out.1.1;
        written =
            AppendsFront-of w0 w going.sent (kept ++ out.0) (going.wrote ++ out.0) going.written
            (ap (λ t. t ++ out.0) going.all ∙ append_assoc going.sent kept out.0);
      }

  -- or a beginning of what is kept
  pub going_kept_front : (w' : Option (List ℕ)) (begun kept : List ℕ)
      → Going output start at r0 r w0 w number begun kept → HasOutputs (output at number)
      → AppendsFront w w' kept
      → WritesFront (output start 1) r0 w0 w'
  going_kept_front w' begun kept going outputs p =
      let out = outputs (begun ++ rest_of r) in
      let e : going.wrote ++ out.0 ≡ going.sent ++ (kept ++ out.0) =
      ap (λ t. t ++ out.0) going.all ∙ append_assoc going.sent kept out.0 in
      front_of r0 w0 w w' (going.lines ++ (begun ++ rest_of r)) going.sent kept out.0 out.1.0
      (subst (IsInput r0) (append_assoc going.lines begun (rest_of r))
      (IsInput-rest r0 r (going.lines ++ begun) going.read))
      (subst (λ t. output start 1 (going.lines ++ (begun ++ rest_of r)) t out.1.0) e
      (going.same (begun ++ rest_of r) out.0 out.1.0 out.1.1)) going.written p

  -- nor is more taken
  pub going_kept : (r' : Option (List ℕ)) (begun : List ℕ)
      → Going output start at r0 r w0 w number begun [] → Keeps r r'
      → WritesLines output start r0 r' w0 w
  going_kept r' begun going kept = record {
    lines = going.lines;
    begun = begun;
    text = going.wrote;
    whole = going.whole;
    plain = going.plain;
    goes = goes_on begun [] going;
    read = Consumes-kept r0 r r' (going.lines ++ begun) going.read kept;
    written = all_written begun going;
  }

  -- the looks and the lines are spent
  pub going_spent : (begun kept : List ℕ) (looks : ℕ)
      → Going output start at r0 r w0 w number begun kept → number ≤ looks + 1
      → 2 ^ 64 ≤ looks + number → IsSpent r0 r looks
  going_spent begun kept looks going few enough =
      let same : feeds (going.lines ++ begun) ≡ feeds going.lines =
      feeds-append going.lines begun ∙ ap (λ n. feeds going.lines + n)
      (feeds-line begun going.plain) ∙ add-zero (feeds going.lines) in
      record {
        came = going.lines ++ begun;
        read = going.read;
        lines = omega (arith, same, going.counted, few);
        spent = omega (arith, same, going.counted, enough);
      }

  -- a beginning of the last text is written
  pub going_last_front : (r' w' : Option (List ℕ)) (line text : List ℕ) (summary : Summary)
      → Going output start at r0 r w0 w number line []
      → TakesLast output at number r r' line text summary → AppendsFront w w' text
      → WritesFront (output start 1) r0 w0 w'
  going_last_front r' w' line text summary going took p =
      let came = going.lines ++ (line ++ took.rest) in
      let last =
      last_input r0 r' came _ (came_line r' line took.rest [] going took.taken)
      (all_last r' line text summary going took) in
      let k : output start 1 (came ++ last.0) (going.wrote ++ (text ++ [])) summary =
      rw (append-nil text) last.1.0 in
      front_of r0 w0 w w' (came ++ last.0) going.wrote text [] summary last.1.1 k
      (all_written line going) p
