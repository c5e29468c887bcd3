use Rattle.std.proofs.Common.{List, ℕ, arith, subst, sym, ◌∙◌}
use Rattle.std.proofs.lemmas.Slice.Eq.{bytes_eq-Decides}
use Rattle.wit_table.specs.Known.{HasFile}
use Rattle.wit_table.proofs.Recent.{known-at}
use Rattle.wit_table.proofs.table.Table.has_name.Goals as goal

pub returns : goal.returns
returns c same =
    let some = c.if-file-eq0.false in
    let inside = c.if-file-files.false in
    let count = c.files.ensures.files in
    subst (λ (name : List ℕ). HasFile c.args.self.now name c.args.file.0)
    ((bytes_eq-Decides _ _).0 (sym c.eq.ensures ∙ same)) (
      (omega (arith, some), omega (arith, inside, count)),
      c.file_name.ensures.good,
      known-at c.args.self.now.files c.args.file.0 _ (omega (arith, some))
          (omega (arith, inside, count)) c.file_name.ensures.name,
      c.file_name.ensures.number,
    )
