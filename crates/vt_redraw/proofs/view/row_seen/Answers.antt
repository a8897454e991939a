use Rattle.std.proofs.Common.{◌<◌, ⊎_elim, length, sym, ◌∙◌, arith}
use Rattle.std.proofs.lemmas.Bool.{false≢true, cases_lt}
use Rattle.std.proofs.lemmas.List.Elements.{All-get_or}
use Rattle.vt_cells.specs.Attrs.{default_attrs}
use Rattle.vt_rows.specs.Row.{IsRow, blank_row}
use Rattle.vt_grid.specs.Scrollback.{visible}
use Rattle.vt_redraw.proofs.Viewing.{row_past, seen_is, visible_length}
use Rattle.vt_redraw.proofs.view.row_seen.Goals as goal

pub visible_row-requires : goal.visible_row-requires
visible_row-requires c k d h = All-get_or (IsRow c.args.rows.now.width) c.args.rows.now.rows k d h c.requires.page

pub returns-in-None : goal.returns-in-None
returns-in-None c =
    let above = c.args.above.now in
    let rows = c.args.rows.now.rows in
    let tall = visible_length above rows in
    c.blank.ensures
    ∙ sym (row_past c.args.is_last c.args.cols (visible above rows) c.args.row
    (⊎_elim (λ (h : c.args.row < length rows). absurd (false≢true (c.in-None.ensures.inside.1 h)))
    (λ past. omega arith) (cases_lt c.args.row (length rows))))

pub returns-in-Some : goal.returns-in-Some
returns-in-Some c =
    seen_is c.args.is_last c.ends.result c.args.above.now c.args.rows.now.rows c.args.cols c.args.row
    c.in-Some.found c.cut.result c.ends.ensures (c.in-Some.ensures.value (blank_row default_attrs c.args.cols))
    c.cut.ensures
