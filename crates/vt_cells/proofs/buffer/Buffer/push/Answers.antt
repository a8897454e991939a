use Rattle.std.proofs.Common.{◌+◌, ◌-◌, ◌∙◌, ap, length, arith}
use Rattle.vt_cells.proofs.Sinks.{pushed}
use Rattle.vt_cells.proofs.buffer.Buffer.push.Goals as goal

pub invariant_of-self : goal.invariant_of-self
invariant_of-self c =
    pushed c.self.inside.len (c.self.inside.len + length c.args.text.now - c.self.inside.len)
    c.self.inside.bytes c.copy.new.to c.args.text.now
    c.self.invariant (omega (arith, c.self.told, c.self.invariant.bounded))
    (omega (arith, c.requires, ap length c.self.view_is)) (c.copy.ensures ∙ c.as_bytes.ensures.value) c.utf8.text
