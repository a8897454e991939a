use Rattle.std.proofs.Common.{◌++◌, ◌∷◌, [], length, take, sym, ap, ◌∙◌, arith}
use Rattle.std.proofs.lemmas.List.{length-map, length-take}
use Rattle.vt_cells.specs.Attrs.{default_attrs}
use Rattle.vt_rows.specs.Row.{RowValue, blank_row, trimmed_row}
use Rattle.vt_grid.proofs.ScrollbackRows.{copied_more}
use Rattle.vt_grid.proofs.row_lists.trimmed_rows.Goals as goal

pub push_reserved-requires : goal.push_reserved-requires
push_reserved-requires c =
    let rows = c.args.page.now.rows in
    let n = ap length c.loop-k.invariant.copied in
    omega (
      arith,
      n,
      length-map (take c.loop-k.k rows) trimmed_row,
      length-take c.loop-k.k rows,
      c.requires.inside,
      c.loop-k.invariant.room,
      c.loop-k.copies.ok.0,
    )

pub loop-k-preserved : goal.loop-k-preserved
loop-k-preserved c =
    let page = c.args.page.now in
    let row = c.in_ok-trimmed_copy.ensures.ok
    ∙ (λ z. record {
      cells = c.used_cells-cells.ensures z;
      wrapped = (c.wrapped.ensures ∙ ap (λ (r : RowValue). r.wrapped) c.row-row.ensures) z;
    }) in
    record {
      copied =
          c.push_reserved.ensures.items
          ∙ ((λ z. c.loop-k.invariant.copied z ++ row z ∷ [])
          ∙ sym
          (copied_more c.loop-k.k page.rows (blank_row default_attrs page.width) (omega (arith, c.requires.inside))));
      room = omega (arith, c.loop-k.invariant.room, c.push_reserved.ensures);
    }
