use Rattle.std.proofs.Common.{◌∙◌, ℕ, length, ap, subst, sym, arith}
use Rattle.vt_grid.specs.Flat.{IsBlankFrom, used_columns}
use Rattle.vt_grid.specs.PageRows.{PageRowsValue, page_row}
use Rattle.vt_grid.proofs.Bounds.{used_inside}
use Rattle.vt_grid.proofs.Flats.{columns_counted}
use Rattle.vt_grid.proofs.page_rows.PageRows.used_len.Goals as goal

pub returns-clause-inside : goal.returns-clause-inside
returns-clause-inside c =
    let flat = c.self.inside.flat in
    let all = ap (λ (s : PageRowsValue). length s.rows) c.self.view_is in
    omega (
      arith,
      c.used_columns.ensures,
      used_inside flat.columns.shown c.groups.result,
      columns_counted flat c.args.row c.self.invariant (omega (arith, c.requires, all)),
      ap (λ (s : PageRowsValue). length (page_row s c.args.row).cells) c.self.view_is,
    )

pub returns-clause-blank : goal.returns-clause-blank
returns-clause-blank c =
    subst (λ (n : ℕ). IsBlankFrom n (page_row c.args.self.now c.args.row).cells)
    (sym (c.used_columns.ensures ∙ ap (λ (s : PageRowsValue). used_columns s.width c.groups.result) c.self.view_is))
    c.groups.ensures
