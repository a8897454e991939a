use Rattle.std.proofs.Common.{◌≡◌, ◌∙◌, ◌<◌, ℕ, Bool, true, nat_lt, length, get_or, ap, arith}
use Rattle.std.specs.Prelude.{if◌then◌else◌}
use Rattle.std.proofs.lemmas.Bool.Decides.{nat_tests}
use Rattle.vt_rows.specs.Row.{RowValue}
use Rattle.vt_grid.specs.Flat.{rows_of}
use Rattle.vt_grid.specs.PageRows.{PageRowsValue}
use Rattle.vt_grid.proofs.Widths.{HasColumns, narrowed, row_cut}
use Rattle.vt_grid.proofs.page_rows.PageRows.narrow_to.Goals as goal

pub invariant_of-self : goal.invariant_of-self
invariant_of-self c =
    let mid = c.loop-row.self in
    let flat = c.self-2.inside.flat in
    let first = c.args.self.now in
    let inv = c.loop-row.invariant in
    let view = c.self-2.view_is in
    let size : length (rows_of flat) ≡ length first.rows = ap (λ (s : PageRowsValue). length s.rows) view ∙ inv.len in
    let row : (k : ℕ) (d : RowValue) → k < length first.rows →
    get_or (rows_of flat) k d ≡ row_cut c.args.width (get_or first.rows k d) =
    λ k d h.
    let t : nat_lt k c.loop-row.row ≡ true =
    let end = c.loop-row-test.false in let rows = c.size-row-end.ensures.rows in grind (arith, nat_tests, h, end, rows) in
    ap (λ (s : PageRowsValue). get_or s.rows k d) view
    ∙ (inv.cut k d h
    ∙ ap (λ (b : Bool). if b then row_cut c.args.width (get_or first.rows k d) else get_or first.rows k d) t) in
    let has : HasColumns c.args.width flat c.set_columns.new.self = record {
      cells = c.set_columns.ensures.cells;
      columns = c.set_columns.ensures.columns;
      len = c.set_columns.ensures.len;
      lines = c.set_columns.ensures.lines;
    } in
    let all = narrowed c.args.width first flat c.set_columns.new.self c.self-2.invariant has c.requires.sound
    c.requires.fits (ap (λ (s : PageRowsValue). s.width) view ∙ inv.width) size row in
    all.1

pub returns : goal.returns
returns c =
    let mid = c.loop-row.self in
    let flat = c.self-2.inside.flat in
    let first = c.args.self.now in
    let inv = c.loop-row.invariant in
    let view = c.self-2.view_is in
    let size : length (rows_of flat) ≡ length first.rows = ap (λ (s : PageRowsValue). length s.rows) view ∙ inv.len in
    let row : (k : ℕ) (d : RowValue) → k < length first.rows →
    get_or (rows_of flat) k d ≡ row_cut c.args.width (get_or first.rows k d) =
    λ k d h.
    let t : nat_lt k c.loop-row.row ≡ true =
    let end = c.loop-row-test.false in let rows = c.size-row-end.ensures.rows in grind (arith, nat_tests, h, end, rows) in
    ap (λ (s : PageRowsValue). get_or s.rows k d) view
    ∙ (inv.cut k d h
    ∙ ap (λ (b : Bool). if b then row_cut c.args.width (get_or first.rows k d) else get_or first.rows k d) t) in
    let has : HasColumns c.args.width flat c.set_columns.new.self = record {
      cells = c.set_columns.ensures.cells;
      columns = c.set_columns.ensures.columns;
      len = c.set_columns.ensures.len;
      lines = c.set_columns.ensures.lines;
    } in
    let all = narrowed c.args.width first flat c.set_columns.new.self c.self-2.invariant has c.requires.sound
    c.requires.fits (ap (λ (s : PageRowsValue). s.width) view ∙ inv.width) size row in
    all.0
