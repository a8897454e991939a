use Rattle.std.proofs.Common.{◌≡◌, ◌+◌, ◌++◌, ◌∙◌, Bool, List, ℕ, ap, arith, subst, sym}
use Rattle.std.proofs.Common.{◌<◌, drop, length}
use Rattle.vt_cells.specs.Internals.{buffered_text}
use Rattle.vt_cells.specs.Cell.{is_wide, text_of}
use Rattle.vt_cells.specs.Glyph.{glyph_columns}
use Rattle.vt_rows.specs.Cells.{at}
use Rattle.vt_redraw.specs.Internals.{Leads, cells_from}
use Rattle.vt_redraw.specs.declared.pen.Pen.{Pen}
use Rattle.vt_redraw.specs.Script.{pen_in}
use Rattle.vt_redraw.proofs.Writing.{alike_inside, alike_leads, narrow_keeps, read_at, short_past}
use Rattle.vt_redraw.proofs.CellSteps.{leads_then}
use Rattle.vt_redraw.proofs.cells.gather_alike.Goals as goal

pub loop-own-preserved : goal.loop-own-preserved
loop-own-preserved c =
    let l = c.loop-own in
    let xs = c.args.cells.now.cells in
    let ys = c.args.over.now.cells in
    let own = c.own_cells-own.result.now in
    let others = c.own_cells-others.result.now in
    let like = c.args.like.now in
    let pen = c.args.pen.now in
    let wrapped = c.args.wrapped in
    let columns : 1 ≡ glyph_columns (is_wide like) = ap glyph_columns (sym c.requires.narrow) in
    let next = l.col + 1 in
    let alike = c.is_alike.ensures c.if-is_alike.true in
    let text : 0 < length (text_of like) = omega (arith, c.requires.one) in
    let one : length (text_of (at own l.col)) ≡ 1 = ap (λ head. head.shape.len) alike.head ∙ c.requires.one in
    let from = c.from.ensures in
    let here = alike.inside in
    let x : at own l.col ≡ c.index-own-from.result =
    read_at own _ _ _ c.index-own-from.is from (omega (arith, from, here)) in
    let pushed : c.push_one.new.self ≡ l.buffer ++ text_of (at own l.col) =
    c.push_one.ensures ∙ ap (λ (more : List ℕ). l.buffer ++ more) (c.contents.ensures.value ∙ ap text_of (sym x)) in
    let flags = narrow_keeps wrapped (is_wide like) (drop next ys) c.requires.narrow in
    let order = l.invariant.order in
    record {
      leads =
          λ before. leads_then (buffered_text before c.args.buffer.now) (buffered_text before l.buffer)
          (buffered_text before c.push_one.new.self)
          (cells_from pen.row pen.col pen wrapped xs ys)
          (cells_from pen.row l.col (record pen { col = l.col }) wrapped xs ys)
          (cells_from pen.row next (record pen { col = next }) wrapped xs ys) (l.invariant.leads before)
          (subst (λ (b : Bool). Leads (buffered_text before c.push_one.new.self)
          (cells_from pen.row next (record pen { col = next; is_shifted = b }) wrapped xs ys) (buffered_text before
          l.buffer)
          (cells_from pen.row l.col (record pen { col = l.col; is_shifted = b }) wrapped xs ys)) (sym c.requires.placed)
          (subst (λ (p : Pen). Leads (buffered_text before c.push_one.new.self)
          (cells_from pen.row next p wrapped xs ys) (buffered_text before l.buffer)
          (cells_from pen.row l.col (pen_in pen.form pen.row l.col pen.attrs) wrapped xs ys))
          (short_past pen.form pen.row next pen.attrs (text_of (at own l.col)) one)
          (alike_leads pen.form pen.row l.col 1 pen.attrs wrapped wrapped like own others xs ys before l.buffer
          c.push_one.new.self alike
          text c.requires.attrs c.own_cells-own.ensures.first c.own_cells-own.ensures.inside
          c.own_cells-others.ensures.first c.own_cells-others.ensures.blank c.requires.range.inside
          columns pushed flags)));
      order = omega (arith, order);
      inside =
          alike_inside l.col 1 like own others xs ys alike c.own_cells-own.ensures.first
          c.own_cells-own.ensures.inside c.requires.range columns;
    }

pub push_one-requires-clause-one : goal.push_one-requires-clause-one
push_one-requires-clause-one c =
    let alike = c.is_alike.ensures c.if-is_alike.true in
    let from = c.from.ensures in
    let here = alike.inside in
    let x : at c.own_cells-own.result.now c.loop-own.col ≡ c.index-own-from.result =
    read_at c.own_cells-own.result.now _ _ _ c.index-own-from.is from (omega (arith, from, here)) in
    ap length c.contents.ensures.value
    ∙ (ap (λ cell. length (text_of cell)) (sym x) ∙ (ap (λ head. head.shape.len) alike.head ∙ c.requires.one))
