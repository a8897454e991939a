use Rattle.std.proofs.Common.{◌≡◌, ap, arith, sym, ◌∙◌}
use Rattle.vt_cells.specs.Cell.{is_blank, is_right_half}
use Rattle.vt_cells.proofs.Cells.{IsKept-mark}
use Rattle.vt_cells.proofs.cell.editing.put_mark.Goals as goal

pub invariant_of-cell : goal.invariant_of-cell
invariant_of-cell c =
    let old = c.cell.invariant in
    let len : c.len-len.result ≡ c.cell.inside.head.shape.len =
    c.len-len.ensures ∙ ap (λ s. s.len) c.shape-shape.ensures in
    let wide : c.wide.result ≡ c.cell.inside.head.shape.wide =
    c.wide.ensures ∙ ap (λ s. s.wide) c.shape-shape.ensures in
    rw c.text-cell-inside.ensures (record {
      kept = rw c.attrs.ensures (IsKept-mark c.args.c _ _ _ _ _ _ _ _ c.ranges.c.0 c.requires.mark old.kept
          (ap is_blank c.cell.view_is ∙ c.requires.glyph) (ap is_right_half c.cell.view_is ∙ c.requires.shown)
          (rw (sym len) c.if-len-lt-MARK_LIMIT.true) (rw (sym len) c.push_char-longer.ensures.len)
          (rw (sym len) c.push_char-longer.ensures.text) wide);
      room = c.push_char-longer.array_long;
      zeros = λ k le. c.push_char-longer.ensures.rest k le
          ∙ old.zeros k (omega (arith, len, c.push_char-longer.ensures.len));
    })
