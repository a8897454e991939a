use Rattle.std.proofs.Common.{◌≡◌, length, ap, arith}
use Rattle.std.proofs.lemmas.List.Elements.{All-get_or}
use Rattle.vt_cells.specs.Attrs.{default_attrs}
use Rattle.vt_rows.specs.Row.{blank_row}
use Rattle.vt_grid.specs.PageRows.{PageRowsValue}
use Rattle.vt_grid.proofs.Resizing.{all_blank, refilled_by, still_fresh}
use Rattle.vt_grid.proofs.page_rows.resizing.fill.Goals as goal

pub give_back-requires-clause-blank : goal.give_back-requires-clause-blank
give_back-requires-clause-blank c = λ k d h.
    All-get_or (λ row. row ≡ blank_row default_attrs (length row.cells)) c.args.fresh.now.rows k d
    (omega (arith, h, c.requires.inside))
    (all_blank (length c.args.fresh.now.rows) c.args.fresh.now.width
    c.args.fresh.now.rows (ap (λ (s : PageRowsValue). s.rows) c.requires.blank))

pub take_rows-requires-clause-blank : goal.take_rows-requires-clause-blank
take_rows-requires-clause-blank c =
    still_fresh c.args.up c.args.above.now.rows c.args.fresh.now.rows c.give_back.new.page.rows c.give_back.ensures.len
    (all_blank (length c.args.fresh.now.rows) c.args.fresh.now.width
    c.args.fresh.now.rows (ap (λ (s : PageRowsValue). s.rows) c.requires.blank))
    c.give_back.ensures.by_index

pub returns-clause-by_index : goal.returns-clause-by_index
returns-clause-by_index c =
    refilled_by c.args.down c.args.up c.args.above.now.rows c.args.rows.now.rows
    c.args.fresh.now.rows c.give_back.new.page.rows c.take_rows.new.self.rows
    c.give_back.ensures.len c.give_back.ensures.by_index c.take_rows.ensures.by_index
