use Rattle.std.proofs.Common.{List, take, map, refl, sym, ap, subst, ◌∙◌, arith}
use Rattle.std.specs.List.{FoldsTo}
use Rattle.std.proofs.lemmas.List.{drop_all, length-take}
use Rattle.vt_cells.specs.Attrs.{default_attrs}
use Rattle.vt_rows.specs.Row.{RowValue, blank_row, trimmed_row}
use Rattle.vt_grid.proofs.ScrollbackRows.{first_more}
use Rattle.vt_grid.proofs.row_lists.report_trimmed.Goals as goal

pub loop-k-preserved : goal.loop-k-preserved
loop-k-preserved g c =
    let page = c.args.page.now in
    let row = c.trimmed.ensures ∙ ap trimmed_row c.row-row.ensures in
    let more =
    first_more c.args.count c.loop-k.k page.rows (blank_row default_attrs page.width) (omega arith) c.requires.inside in
    λ z told.
    c.loop-k.invariant z
    (subst (λ (rows : List RowValue). FoldsTo g.L.Leaving.leaves c.loop-k.leaving rows z) (sym more) (
      c.leave.new.self,
      subst (λ (r : RowValue). g.L.Leaving.leaves c.loop-k.leaving r c.leave.new.self) row c.leave.ensures,
      told,
    ))

pub returns : goal.returns
returns g c =
    let page = c.args.page.now in
    let none = ap (map trimmed_row)
    (drop_all c.loop-k.k (take c.args.count page.rows) (omega (arith, length-take c.args.count page.rows))) in
    c.loop-k.invariant c.loop-k.leaving
    (subst (λ (rows : List RowValue). FoldsTo g.L.Leaving.leaves c.loop-k.leaving rows c.loop-k.leaving)
    (sym none) refl)
