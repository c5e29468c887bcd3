-- What a run reads and writes, by what is seen of its machine.
use Rattle.std.proofs.Common.{◌≡◌, ℕ, List, Option, Result, Ok, Err, IfOk, subst}
use Rattle.wit_stream.specs.Stream.{ReadingGoesOn, ReadsToEnd, WritesLines}
use Rattle.wit_stream.specs.declared.summary.Summary.{Summary}

-- what the machine allows goes by what is seen of it
abbrev pub by_seen : {M S : Type 0} → (M → S) → (S → ℕ → List ℕ → List ℕ → Summary → Type 0) → M
    → ℕ → List ℕ → List ℕ → Summary → Type 0
by_seen see output m = output (see m)

module _ {M S : Type 0} (see : M → S) (output : S → ℕ → List ℕ → List ℕ → Summary → Type 0) (m : M)
    (s : S) (is : see m ≡ s) where
  goes-on : (lines text : List ℕ) → ReadingGoesOn (by_seen see output) m lines text
      → ReadingGoesOn output (see m) lines text
  goes-on lines text goes = record { at = see goes.at; on = goes.on }

  -- the end of a run
  pub run-end : {E : Type 0} (r0 r w0 w : Option (List ℕ)) (answer : Result Summary E)
      → IfOk answer (ReadsToEnd (by_seen see output) m r0 r w0 w)
      → IfOk answer (ReadsToEnd output s r0 r w0 w)
  run-end r0 r w0 w (Err e) h = tt
  run-end r0 r w0 w (Ok summary) h =
      subst (λ from. ReadsToEnd output from r0 r w0 w summary) is
      (record {
        lines = h.lines;
        last = h.last;
        told = h.told;
        text = h.text;
        whole = h.whole;
        goes = goes-on h.lines h.told h.goes;
        one = h.one;
        read = h.read;
        is_last = h.is_last;
        written = h.written;
      })

  -- what stands after a failed look
  pub run-lines : (r0 r w0 w : Option (List ℕ)) → WritesLines (by_seen see output) m r0 r w0 w
      → WritesLines output s r0 r w0 w
  run-lines r0 r w0 w h =
      subst (λ from. WritesLines output from r0 r w0 w) is
      (record {
        lines = h.lines;
        begun = h.begun;
        text = h.text;
        whole = h.whole;
        plain = h.plain;
        goes = goes-on h.lines h.text h.goes;
        read = h.read;
        written = h.written;
      })
