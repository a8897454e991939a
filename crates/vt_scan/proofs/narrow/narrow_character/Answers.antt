use Rattle.std.proofs.Common.{◌<◌, length, arith}
use Rattle.std.proofs.lemmas.Bool.Decides.{nat_tests}
use Rattle.vt_scan.proofs.Characters.{coded_narrow, first_narrow}
use Rattle.vt_scan.proofs.narrow.narrow_character.Goals as goal

pub returns-then-is_between-clause-narrow : goal.returns-then-is_between-clause-narrow
returns-then-is_between-clause-narrow c =
    let empty = c.if-is_empty.ensures in
    let some : 0 < length c.args.bytes.now = grind (arith, nat_tests) in
    let printable = c.is_between.ensures c.if-is_between.true in
    first_narrow c.args.bytes.now c.from.result some printable.0 printable.1 c.from.ensures

pub returns-then-first-ge128-clause-narrow : goal.returns-then-first-ge128-clause-narrow
returns-then-first-ge128-clause-narrow c =
    coded_narrow c.args.bytes.now c.narrow_coded.result c.narrow_coded.ensures.coded
