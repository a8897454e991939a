use Rattle.vt_grid.proofs.Flats.{fresh_flat}
use Rattle.vt_grid.proofs.page_rows.PageRows.new.Goals as goal

pub invariant_of-result : goal.invariant_of-result
invariant_of-result c =
    (fresh_flat c.args.size.rows c.args.size.cols c.in_ok-flat.flat
    c.in_ok-flat.ensures.cells c.in_ok-flat.ensures.lines c.in_ok-flat.ensures.columns).1

pub returns-clause-ok : goal.returns-clause-ok
returns-clause-ok c =
    (fresh_flat c.args.size.rows c.args.size.cols c.in_ok-flat.flat
    c.in_ok-flat.ensures.cells c.in_ok-flat.ensures.lines c.in_ok-flat.ensures.columns).0
