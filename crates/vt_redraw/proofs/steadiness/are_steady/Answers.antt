use Rattle.std.proofs.Common.{◌∙◌, All, refl, subst, sym, take_all}
use Rattle.std.proofs.lemmas.List.Elements.{All-more}
use Rattle.vt_redraw.specs.Internals.{FitsColumns}
use Rattle.vt_redraw.specs.Steady.{IsSteadyCell}
use Rattle.vt_redraw.proofs.steadiness.are_steady.Goals as goal

pub is_steady_cell-requires : goal.is_steady_cell-requires
is_steady_cell-requires c =
    subst (FitsColumns c.args.cols) (sym c.cell-item.is)
    (c.requires c.loop-cell.cell-index c.cell-item.result c.loop-cell-test.true)

pub returns-then-not-is_steady_cell : goal.returns-then-not-is_steady_cell
returns-then-not-is_steady_cell c = (
  λ t. absurd (cc),
  λ all. sym c.if-not-is_steady_cell.true
      ∙ c.is_steady_cell.ensures.1 (subst (IsSteadyCell c.args.cols) (sym c.cell-item.is)
      (all c.loop-cell.cell-index c.cell-item.result c.loop-cell-test.true)),
)

pub loop-cell-preserved : goal.loop-cell-preserved
loop-cell-preserved c =
    All-more (IsSteadyCell c.args.cols) c.args.cells.now c.loop-cell.cell-index c.cell-item.result
    c.loop-cell-test.true c.loop-cell.invariant
    (subst (IsSteadyCell c.args.cols) c.cell-item.is (c.is_steady_cell.ensures.0 c.if-not-is_steady_cell.false))

pub returns : goal.returns
returns c = (
  λ t. subst (All (IsSteadyCell c.args.cols)) (take_all c.loop-cell.cell-index c.args.cells.now c.loop-cell-test.false)
      c.loop-cell.invariant,
  λ all. refl,
)
