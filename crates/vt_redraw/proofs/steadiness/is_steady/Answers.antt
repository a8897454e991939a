use Rattle.std.proofs.Common.{◌∙◌, All, arith, refl, subst, sym, take_all}
use Rattle.std.proofs.lemmas.List.Elements.{All-more, All-nil}
use Rattle.vt_cells.specs.Attrs.{default_attrs}
use Rattle.vt_rows.specs.Row.{blank_row}
use Rattle.vt_redraw.specs.Internals.{IsSteadyRow}
use Rattle.vt_redraw.proofs.steadiness.is_steady.Goals as goal

pub loop-row-init : goal.loop-row-init
loop-row-init c = All-nil (IsSteadyRow c.args.view.now.width)

pub returns-then-not-is_steady_at : goal.returns-then-not-is_steady_at
returns-then-not-is_steady_at c = (
  λ t. absurd (cc),
  λ all. sym c.if-not-is_steady_at.true
      ∙ c.is_steady_at.ensures.1
      (all c.loop-row.row (blank_row default_attrs c.args.view.now.width)
      (omega (arith, c.rows-rows.ensures.value, c.loop-row-test.true))),
)

pub loop-row-preserved : goal.loop-row-preserved
loop-row-preserved c =
    All-more (IsSteadyRow c.args.view.now.width) c.args.view.now.rows c.loop-row.row
    (blank_row default_attrs c.args.view.now.width) (omega (arith, c.rows-rows.ensures.value, c.loop-row-test.true))
    c.loop-row.invariant (c.is_steady_at.ensures.0 c.if-not-is_steady_at.false)

pub returns : goal.returns
returns c = (
  λ t. subst (All (IsSteadyRow c.args.view.now.width)) (take_all c.loop-row.row c.args.view.now.rows
      (omega (arith, c.rows-rows.ensures.value, c.loop-row-test.false))) c.loop-row.invariant,
  λ all. refl,
)
