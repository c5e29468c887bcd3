use Rattle.std.proofs.Common.{arith}
use Rattle.wit_table.proofs.Recent.{known-at}
use Rattle.wit_table.proofs.table.Table.recent_file.Goals as goal

pub returns : goal.returns
returns c =
    let some = c.if-self-eq0.false in
    let inside = c.if-self-files.false in
    let count = c.files.ensures.files in (
      (omega (arith, some), omega (arith, inside, count)),
      c.file_name.ensures.good,
      known-at c.args.self.now.files c.self.inside.recent.0 _ (omega (arith, some))
          (omega (arith, inside, count)) c.file_name.ensures.name,
      c.file_name.ensures.number,
    )
