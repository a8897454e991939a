use Rattle.std.proofs.Common.{arith}
use Rattle.vt_redraw.proofs.SteadyTests.{within_both}
use Rattle.vt_redraw.proofs.steadiness.lens_of_eight.Goals as goal

pub returns : goal.returns
returns c =
    within_both c.lens_of_four.result c.lens_of_four-2.result 4 _ c.args.cells.now (omega (arith, c.requires))
    c.lens_of_four.ensures c.lens_of_four-2.ensures
