use Rattle.std.proofs.Common.{◌∙◌, ap, arith, false, length, sym}
use Rattle.std.proofs.Math.Utf8.{low_scalar}
use Rattle.vt_cells.proofs.Cells.{IsKept-first, cell_of-first, zeros_at}
use Rattle.vt_cells.proofs.Glyphs.{one_byte, columns_of-ascii}
use Rattle.vt_cells.proofs.cell.making.ascii.Goals as goal

pub invariant_of-result : goal.invariant_of-result
invariant_of-result c =
    let spelled = c.push_byte-len.ensures.text ∙ sym (one_byte c.args.byte (omega arith)) in
    rw c.text.ensures (record {
      kept = IsKept-first c.args.byte _ _ false c.args.attrs (low_scalar c.args.byte (omega arith))
          (λ e. absurd (omega (arith, e)))
          (columns_of-ascii c.args.byte c.requires.low c.requires.high)
          (c.push_byte-len.ensures.len ∙ ap length (sym (one_byte c.args.byte (omega arith)))) spelled;
      room = c.push_byte-len.array_long;
      zeros = λ k le. c.push_byte-len.ensures.rest k le ∙ zeros_at 30 k;
    })

pub returns : goal.returns
returns c =
    let spelled = c.push_byte-len.ensures.text ∙ sym (one_byte c.args.byte (omega arith)) in
    rw c.text.ensures (cell_of-first _ c.args.byte false c.args.attrs spelled)
