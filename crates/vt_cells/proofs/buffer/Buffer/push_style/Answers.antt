use Rattle.vt_cells.proofs.Attributes.{intensity_part}
use Rattle.vt_cells.proofs.Texts.{appends_then}
use Rattle.vt_cells.specs.Internals.{switches_part}
use Rattle.vt_cells.proofs.buffer.Buffer.push_style.Goals as goal

pub returns : goal.returns
returns c =
    let was = c.args.was in
    let new = c.args.new in
    appends_then c.args.self.now c.push_intensity-lead.new.self c.push_switches.new.self c.args.lead
    c.push_intensity-lead.result c.push_switches.result 4 12 (intensity_part was new) (switches_part was new)
    c.push_intensity-lead.ensures c.push_switches.ensures
