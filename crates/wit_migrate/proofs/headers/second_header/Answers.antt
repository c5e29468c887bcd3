use Rattle.std.proofs.Common.{arith}
use Rattle.wit_model.specs.declared.lines.Version.TheVariants.{Two}
use Rattle.wit_migrate.proofs.MigrateLemmas.{header_spelled}
use Rattle.wit_migrate.proofs.headers.second_header.Goals as goal

pub print_line-requires : goal.print_line-requires
print_line-requires c =
    let seats = c.ranges.seats in
    let types = c.ranges.types in
    let locks = c.ranges.locks in
    let chunks = c.ranges.chunks in
    header_spelled Two c.args.seats c.args.types c.args.locks c.args.chunks (omega (arith, seats))
    (omega (arith, types)) (omega (arith, locks)) (omega (arith, chunks))
