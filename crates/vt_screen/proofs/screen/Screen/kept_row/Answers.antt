use Rattle.std.proofs.Common.{◌≡◌, ◌<◌, ◌++◌, List, ap, length, sym, ◌∙◌, arith}
use Rattle.std.proofs.lemmas.List.{length-append}
use Rattle.std.proofs.lemmas.Option.{slice_get_read}
use Rattle.std.specs.List.{slice_get}
use Rattle.vt_rows.specs.Row.{RowValue}
use Rattle.vt_screen.specs.Capture.{all_rows}
use Rattle.vt_screen.proofs.MadeCaptures.{above_rows}
use Rattle.vt_screen.proofs.screen.Screen.kept_row.Goals as goal

pub returns : goal.returns
returns c =
    let row = c.stacked_row.result in
    let kept = c.self.inside.scrollback.rows in
    let page = c.rows-2.result.now.rows in
    let above = above_rows c.self.inside.is_alternate c.self.inside.scrollback
    c.self.inside.other_scrollback c.self.invariant.nothing in
    let all : all_rows c.args.self.now ≡ kept ++ page =
    sym (ap all_rows c.self.view_is) ∙ ap (λ (rows : List RowValue). rows ++ c.self.inside.grid.rows) above
    ∙ ap (λ (rows : List RowValue). kept ++ rows) (sym c.rows-2.ensures.rows) in
    let size : c.stacked_len.result ≡ length (kept ++ page) =
    omega (
      arith,
      c.stacked_len.ensures,
      length-append kept page,
      ap length c.rows.ensures.rows,
      ap length c.rows-2.ensures.rows,
    ) in
    let inside : c.args.index < c.stacked_len.result = omega (arith, c.if-index-stacked_len.false) in
    sym (ap (λ (rows : List RowValue). slice_get rows c.args.index) all
    ∙ slice_get_read (kept ++ page) c.stacked_len.result c.args.index row size inside (c.stacked_row.ensures row))
