use Rattle.std.proofs.Common.{◌∙◌}
use Rattle.vt_rows.proofs.Texts.{narrow_printable}
use Rattle.vt_grid.proofs.Texts.{text_printed}
use Rattle.vt_grid.proofs.grid.Grid.print_text.Goals as goal

pub returns : goal.returns
returns c =
    c.put_text.ensures.value
    ∙ text_printed c.args.text.now c.args.attrs c.args.self.now
    c.put_text.ensures.page c.requires.nonempty
    (narrow_printable c.args.text.now c.requires.printable) c.requires.room
