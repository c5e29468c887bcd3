use Rattle.std.proofs.Common.{◌≡◌, ℕ, List, ◌∷◌, ◌++◌, map, take, drop, refl, ap, ap₂, sym, ◌∙◌, subst}
use Rattle.std.proofs.lemmas.List.{append_assoc, take-map, drop-map}
use Rattle.wit_findings.specs.Findings.{AreEnds, nothing_summed, summed, sums}
use Rattle.wit_findings.specs.Runs.{place_of}
use Rattle.wit_findings.specs.Told.{Told, told}
use Rattle.wit_findings.proofs.Runs.{both-end, sums-both}
use Rattle.wit_findings.proofs.processes.Processes.put_ends.Goals as goal

pub returns : goal.returns
returns c =
    let items = c.args.self.now.others.items in
    let t : Told = told c.args.self.now.current in
    let before : List Told = map told c.split_at.result.0.now in
    let behind : List Told = map told c.split_at.result.1.now in
    let place : c.place_of-place.result ≡ place_of t.process (map told items) =
    c.place_of-place.ensures.value
    ∙ ap (λ rs. place_of t.process (map told rs)) c.deref.ensures.value in
    let front : before ≡ take (place_of t.process (map told items)) (map told items) =
    ap (map told) (c.split_at.ensures.front
    ∙ ap (take c.place_of-place.result) c.deref-2.ensures.value)
    ∙ sym (take-map told c.place_of-place.result items) ∙ ap (λ n. take n (map told items)) place in
    let back : behind ≡ drop (place_of t.process (map told items)) (map told items) =
    ap (map told) (c.split_at.ensures.back
    ∙ ap (drop c.place_of-place.result) c.deref-2.ensures.value)
    ∙ sym (drop-map told c.place_of-place.result items) ∙ ap (λ n. drop n (map told items)) place in
    let first = c.in_ok-put_each.ensures in
    let one = c.in_ok-put_end.ensures in
    let last = c.in_ok-put_each-2.ensures in
    let text : List ℕ = c.args.text.now.items in
    record {
      ends = first.more ++ (one.more ++ last.more);
      are =
          subst (λ ts. AreEnds ts (first.more ++ (one.more ++ last.more)))
          (ap₂ (λ ts us. ts ++ t ∷ us) front back)
          (both-end before (t ∷ behind) first.more (one.more ++ last.more) first.is
          (record {
            first = one.more;
            rest = last.more;
            parted = refl;
            tells = one.is;
            goes_on = last.is;
          }));
      written =
          last.all ∙ ap (λ xs. xs ++ last.more) (one.all ∙ ap (λ xs. xs ++ one.more) first.all)
          ∙ append_assoc (text ++ first.more) one.more last.more
          ∙ append_assoc text first.more (one.more ++ last.more);
      sum =
          c.sum-2.ensures
          ∙ ap (sums before) (c.sum_with.ensures ∙ ap (summed t) c.sum.ensures)
          ∙ sums-both before (t ∷ behind) nothing_summed
          ∙ ap₂ (λ ts us. sums (ts ++ t ∷ us) nothing_summed) front back;
    }
