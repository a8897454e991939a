use Rattle.std.proofs.Common.{◌∙◌, ℕ, ap, arith, length, subst, sym}
use Rattle.vt_cells.specs.Attrs.{Attrs}
use Rattle.vt_cells.specs.Cell.{text_of}
use Rattle.vt_cells.proofs.Cells.{text_short}
use Rattle.std.specs.Prelude.{Some}
use Rattle.vt_redraw.specs.Limited.{IsEach}
use Rattle.vt_redraw.proofs.LeastLengths.{change_small, each_drawn, each_undrawn}
use Rattle.vt_redraw.proofs.limited.draw_over_blank.Goals as goal

pub returns-then-is_undrawn-clause-each : goal.returns-then-is_undrawn-clause-each
returns-then-is_undrawn-clause-each c =
    each_undrawn c.args.was c.args.cell.now c.contents-each.ensures.sound (sym c.is_undrawn.ensures ∙ c.if-is_undrawn.true)

pub returns-clause-each : goal.returns-clause-each
returns-clause-each c =
    let drawn = each_drawn c.args.cell.now c.contents-each.ensures.sound (sym c.is_undrawn.ensures ∙ c.if-is_undrawn.false) in
    subst (λ (n : ℕ). IsEach (Some c.attrs-attrs.result) n c.args.cell.now) (sym (ap length c.contents-each.ensures.value))
    (subst (λ (a : Attrs). IsEach (Some a) (length (text_of c.args.cell.now)) c.args.cell.now) (sym c.attrs-attrs.ensures) drawn)

pub returns-clause-small : goal.returns-clause-small
returns-clause-small c =
    let change = change_small c.args.was (c.attrs-attrs.result) in
    let text = text_short c.args.cell.now c.contents-each.ensures.sound in
    let len = ap length c.contents-each.ensures.value in
    omega (arith, change, text, len, c.change_least.ensures)
