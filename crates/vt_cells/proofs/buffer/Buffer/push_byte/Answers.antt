use Rattle.std.proofs.Common.{ap, arith, length}
use Rattle.vt_cells.proofs.Sinks.{byte_pushed}
use Rattle.vt_cells.proofs.buffer.Buffer.push_byte.Goals as goal

pub invariant_of-self : goal.invariant_of-self
invariant_of-self c =
    let size = c.self.told in
    let same = ap length c.self.view_is in
    let measured = c.self.invariant.measured in
    byte_pushed c.self.inside.len c.self.inside.bytes c.args.byte c.self.invariant (omega (arith, size))
    (omega (arith, c.requires.room, same, measured)) c.requires.ascii
