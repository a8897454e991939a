use Rattle.vt_cells.proofs.Texts.{unchanged_switches}
use Rattle.std.proofs.Common.{◌∙◌, sym}
use Rattle.vt_cells.proofs.buffer.Buffer.push_switches.Goals as goal

pub returns-then-has_switches_of : goal.returns-then-has_switches_of
returns-then-has_switches_of c =
    unchanged_switches c.args.was c.args.new c.args.self.now c.args.lead 12
    (sym c.has_switches_of.ensures ∙ c.if-has_switches_of.true)
