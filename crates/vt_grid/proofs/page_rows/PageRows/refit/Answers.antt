use Rattle.std.proofs.Common.{◌-◌, ℕ, length, ap, ◌∙◌, arith}
use Rattle.vt_grid.specs.Resize.{rows_resized, window}
use Rattle.vt_grid.specs.PageRows.{PageRowsValue}
use Rattle.vt_grid.proofs.Resizing.{settled}
use Rattle.vt_grid.proofs.page_rows.PageRows.refit.Goals as goal

pub returns-clause-rows : goal.returns-clause-rows
returns-clause-rows c =
    let own = c.args.self.now in
    let fresh = c.args.fresh in
    let h = length fresh.rows in
    let either = c.requires.either in
    ap (λ (s : PageRowsValue). s.rows) c.fresh.view_is
    ∙ (ap (λ (s : PageRowsValue). s.rows) c.wrap.ensures
    ∙ (settled own.width fresh.width c.fill.new.fresh.width h c.from.result c.from-2.result
    (c.len-last.result - 1) c.args.above.now.rows own.rows fresh.rows c.fill.new.fresh.rows
    (ap (λ (s : PageRowsValue). s.rows) c.requires.blank) c.fill.ensures.width
    (omega (arith, c.requires.inside)) (ap (λ (n : ℕ). n - 1) c.len-last.ensures) c.fill.ensures.len
    (λ some. omega (arith, either (omega (arith, some, c.from-2.ensures)), c.from.ensures)) c.fill.ensures.by_index
    ∙ (λ z. rows_resized fresh.width
    (window own.width h (c.from.ensures z) (c.from-2.ensures z) c.args.above.now.rows own.rows))))

pub returns-clause-width : goal.returns-clause-width
returns-clause-width c =
    ap (λ (s : PageRowsValue). s.width) c.fresh.view_is
    ∙ (ap (λ (s : PageRowsValue). s.width) c.wrap.ensures ∙ c.fill.ensures.width)
