use Rattle.std.proofs.Common.{All, subst, take_all}
use Rattle.std.specs.Int.RustNames.{bit_or}
use Rattle.std.proofs.lemmas.List.Elements.{All-more, All-weaker}
use Rattle.vt_redraw.specs.Internals.{IsWithin}
use Rattle.vt_redraw.proofs.SteadyTests.{within_left, within_right}
use Rattle.vt_redraw.proofs.steadiness.lens_of.Goals as goal

pub loop-cell-preserved : goal.loop-cell-preserved
loop-cell-preserved c =
    let len = c.text_len-lens.result in
    let lens = c.loop-cell.lens in
    All-more (IsWithin (bit_or lens len)) c.args.cells.now c.loop-cell.cell-index c.cell-item.result
    c.loop-cell-test.true
    (All-weaker (IsWithin lens) (IsWithin (bit_or lens len)) (within_left lens len) _ c.loop-cell.invariant)
    (subst (IsWithin (bit_or lens len)) c.cell-item.is (within_right lens len _ c.text_len-lens.ensures))

pub returns : goal.returns
returns c =
    subst (All (IsWithin c.loop-cell.lens)) (take_all c.loop-cell.cell-index c.args.cells.now c.loop-cell-test.false)
    c.loop-cell.invariant
