use Rattle.std.proofs.Common.{◌∙◌, zero-add}
use Rattle.vt_cells.proofs.Cells.{IsKept-first, cell_of-first, zeros_at}
use Rattle.vt_cells.proofs.cell.making.glyph.Goals as goal

pub invariant_of-result : goal.invariant_of-result
invariant_of-result c =
    rw c.text.ensures (record {
      kept = IsKept-first c.args.c _ _ c.args.wide c.args.attrs c.ranges.c.0 c.requires.reported
          c.requires.columns (c.push_char-len.ensures.len ∙ zero-add _) c.push_char-len.ensures.text;
      room = c.push_char-len.array_long;
      zeros = λ k le. c.push_char-len.ensures.rest k le ∙ zeros_at 30 k;
    })

pub returns : goal.returns
returns c = rw c.text.ensures (cell_of-first _ c.args.c c.args.wide c.args.attrs c.push_char-len.ensures.text)
