use Rattle.std.proofs.Common.{◌∙◌, ap, sym, subst, arith}
use Rattle.vt_grid.specs.Scrollback.{Scrollback, IsScrollback, with_view}
use Rattle.vt_grid.proofs.ScrollbackRows.{IsScrollback-with_view, with_view_is}
use Rattle.vt_grid.proofs.scrollback.Scrollback.set_offset.Goals as goal

pub invariant_of-self : goal.invariant_of-self
invariant_of-self c =
    let inside = c.self.inside in
    let above : Scrollback = record {
      rows = inside.rows.items;
      capacity = inside.capacity;
      theoretical = inside.theoretical;
      offset = inside.offset;
    } in
    subst IsScrollback (sym (with_view_is c.args.size.rows c.args.size.cols c.args.n c.min-offset.result
    above c.grow_in_view.new.rows.items (omega (arith, inside.rows.ok.0)) c.grow_in_view.ensures))
    (IsScrollback-with_view c.args.size.rows c.args.size.cols c.args.n above c.self.invariant)

pub returns-clause-ok : goal.returns-clause-ok
returns-clause-ok c =
    let inside = c.self.inside in
    let above : Scrollback = record {
      rows = inside.rows.items;
      capacity = inside.capacity;
      theoretical = inside.theoretical;
      offset = inside.offset;
    } in
    with_view_is c.args.size.rows c.args.size.cols c.args.n c.min-offset.result above
    c.grow_in_view.new.rows.items (omega (arith, inside.rows.ok.0)) c.grow_in_view.ensures
    ∙ ap (with_view c.args.size.rows c.args.size.cols c.args.n) c.self.view_is
