use Rattle.std.proofs.Common.{refl}
use Rattle.vt_redraw.proofs.SteadyTests.{row_tells}
use Rattle.vt_redraw.proofs.steadiness.is_steady_at.Goals as goal

pub returns-then-is_short_at : goal.returns-then-is_short_at
returns-then-is_short_at c = (λ t. c.is_short_at.ensures c.if-is_short_at.true, λ steady. refl)

pub returns : goal.returns
returns c =
    row_tells c.args.view.now.width c.row.result _ c.is_steady_row.result c.row.ensures.value
    c.row.ensures.sound.columns c.is_steady_row.ensures
