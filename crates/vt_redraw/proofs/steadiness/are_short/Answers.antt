use Rattle.std.proofs.Common.{arith, false, ltb-true, ◌≡◌}
use Rattle.std.specs.Int.RustNames.{bit_or}
use Rattle.std.proofs.lemmas.List.Elements.{All-weaker}
use Rattle.vt_cells.specs.Cell.{CellValue}
use Rattle.vt_redraw.specs.Internals.{IsWithin}
use Rattle.vt_redraw.specs.Steady.{has_selector}
use Rattle.vt_redraw.proofs.SteadyTests.{or_le_left, or_le_right, within_right, within_short, within_sixteen}
use Rattle.vt_redraw.proofs.steadiness.are_short.Goals as goal

pub loop-rest-preserved : goal.loop-rest-preserved
loop-rest-preserved c = λ bound le within.
    let lens = c.loop-rest.lens in
    let a = c.lens_of_eight.result in
    let b = c.lens_of_eight-in-loop-rest.result in
    c.loop-rest.invariant bound (omega (arith, le, or_le_left lens (bit_or a b)))
    (within_sixteen a b bound _ c.loop-rest.rest.now
    (omega (arith, le, or_le_right lens (bit_or a b), or_le_left a b))
    (omega (arith, le, or_le_right lens (bit_or a b), or_le_right a b)) (omega arith)
    c.lens_of_eight.ensures c.lens_of_eight-in-loop-rest.ensures within)

pub returns : goal.returns
returns c holds =
    let lens = c.loop-rest.lens in
    let more = c.lens_of-lens.result in
    let both = bit_or lens more in
    let rest = All-weaker (IsWithin more) (IsWithin both) (within_right lens more) c.loop-rest.rest.now
    c.lens_of-lens.ensures in
    All-weaker (IsWithin both) (λ (cell : CellValue). has_selector cell ≡ false)
    (within_short both (ltb-true both 4 holds)) c.args.cells.now
    (c.loop-rest.invariant both (or_le_left lens more) rest)
