use Rattle.std.proofs.Common.{ℕ, subst, sym}
use Rattle.vt100_c.proofs.Answering.{unit_read}
use Rattle.vt100_c.proofs.reading.read_unit.Goals as goal
use Rattle.vt100_c.specs.Reading.{ReadsUnit}

pub returns : goal.returns
returns c =
    let unit = c.process_unit-count in
    subst (λ (status : ℕ). ReadsUnit c.args.parser.now c.args.bytes.now unit.result.0 status unit.new.self)
    (sym c.answered.ensures)
    (unit_read c.args.parser.now unit.new.self c.args.bytes.now unit.result.0 unit.result.1 unit.ensures.call
    unit.ensures.erased unit.ensures.erased_none)
