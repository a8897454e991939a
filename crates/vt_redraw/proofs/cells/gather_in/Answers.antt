use Rattle.std.proofs.Common.{◌≡◌, ◌+◌, ◌++◌, ◌∙◌, Bool, List, ℕ, ap, arith, false, subst, sym}
use Rattle.std.proofs.Common.{drop}
use Rattle.vt_cells.specs.Internals.{buffered_text}
use Rattle.vt_cells.specs.Cell.{text_of}
use Rattle.vt_rows.specs.Cells.{at}
use Rattle.vt_redraw.specs.Internals.{Leads, cells_from}
use Rattle.vt_redraw.specs.Script.{pen_in, pen_past, shifts, wrapped_after_glyph}
use Rattle.vt_redraw.proofs.Writing.{alike_inside, alike_leads, glyph_text, read_at}
use Rattle.vt_redraw.proofs.CellSteps.{leads_then}
use Rattle.vt_redraw.proofs.cells.gather_in.Goals as goal

pub loop-is_shifted-preserved : goal.loop-is_shifted-preserved
loop-is_shifted-preserved c =
    let l = c.loop-is_shifted in
    let xs = c.args.cells.now.cells in
    let ys = c.args.over.now.cells in
    let own = c.own_cells-own.result.now in
    let others = c.own_cells-others.result.now in
    let like = c.args.like.now in
    let pen = c.args.pen.now in
    let n = c.columns-count.result in
    let is_wrapped = c.wrapped_after_glyph-is_wrapped.result in
    let next = l.col + n in
    let alike = c.is_alike.ensures c.if-is_alike.true in
    let text = glyph_text like c.contents-bytes.ensures.sound c.requires.glyph in
    let from = c.from.ensures in
    let here = alike.inside in
    let x : at own l.col ≡ c.index-own-from.result =
    read_at own _ _ _ c.index-own-from.is from (omega (arith, from, here)) in
    let pushed : c.push.new.self ≡ l.buffer ++ text_of (at own l.col) =
    c.push.ensures ∙ ap (λ (more : List ℕ). l.buffer ++ more) (c.contents.ensures.value ∙ ap text_of (sym x)) in
    let flags : is_wrapped ≡ wrapped_after_glyph l.is_wrapped _ (drop next ys) =
    c.wrapped_after_glyph-is_wrapped.ensures ∙ ap (λ w. wrapped_after_glyph l.is_wrapped w (drop next ys))
    c.is_wide-wide.ensures in
    let shifted = c.shifts-is_shifted.result in
    let after : shifted ≡ shifts pen.form (text_of (at own l.col)) =
    c.shifts-is_shifted.ensures ∙ ap (λ cell. shifts c.args.form (text_of cell)) (sym x)
    ∙ ap (λ form. shifts form (text_of (at own l.col))) (sym c.requires.form) in
    let test = c.loop-is_shifted-test.true in
    let still : l.is_shifted ≡ false = grind (arith, test) in
    let order = l.invariant.order in
    record {
      leads =
          λ before. leads_then (buffered_text before c.args.buffer.now) (buffered_text before l.buffer)
          (buffered_text before c.push.new.self)
          (cells_from pen.row pen.col pen c.args.wrapped.now xs ys)
          (cells_from pen.row l.col (record (pen_in pen.form pen.row l.col pen.attrs) { is_shifted = l.is_shifted })
          l.is_wrapped xs ys)
          (cells_from pen.row next (record (pen_in pen.form pen.row next pen.attrs) { is_shifted = shifted })
          is_wrapped xs ys)
          (l.invariant.leads before)
          (subst (λ (b : Bool). Leads (buffered_text before c.push.new.self)
          (cells_from pen.row next (record (pen_in pen.form pen.row next pen.attrs) { is_shifted = b })
          is_wrapped xs ys)
          (buffered_text before l.buffer)
          (cells_from pen.row l.col (record (pen_in pen.form pen.row l.col pen.attrs) { is_shifted = l.is_shifted })
          l.is_wrapped xs ys))
          (sym after)
          (subst (λ (b : Bool). Leads (buffered_text before c.push.new.self)
          (cells_from pen.row next (pen_past pen.form pen.row next pen.attrs (text_of (at own l.col))) is_wrapped xs ys)
          (buffered_text before l.buffer)
          (cells_from pen.row l.col (record (pen_in pen.form pen.row l.col pen.attrs) { is_shifted = b })
          l.is_wrapped xs ys))
          (sym still)
          (alike_leads pen.form pen.row l.col n pen.attrs l.is_wrapped is_wrapped like own others xs ys before l.buffer
          c.push.new.self alike
          text c.requires.attrs c.own_cells-own.ensures.first c.own_cells-own.ensures.inside
          c.own_cells-others.ensures.first c.own_cells-others.ensures.blank c.requires.range.inside
          c.columns-count.ensures pushed flags)));
      order = omega (arith, order);
      inside =
          alike_inside l.col n like own others xs ys alike c.own_cells-own.ensures.first
          c.own_cells-own.ensures.inside c.requires.range c.columns-count.ensures;
    }
