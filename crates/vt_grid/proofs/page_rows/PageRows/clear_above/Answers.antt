use Rattle.std.proofs.Common.{◌++◌, drop, replicate, ◌∙◌, arith}
use Rattle.vt_rows.specs.Row.{blank_row}
use Rattle.vt_grid.proofs.Scrolls.{blank_before}
use Rattle.vt_grid.proofs.page_rows.PageRows.clear_above.Goals as goal

pub returns : goal.returns
returns c =
    blank_before c.from.result c.args.attrs c.args.self.now c.clear_rows.new.self
    (omega (arith, c.requires.inside, c.from.ensures)) c.clear_rows.ensures.len
    c.clear_rows.ensures.width c.clear_rows.ensures.by_index
    ∙ (λ z. record (c.args.self.now) {
      rows =
          replicate (c.from.ensures z) (blank_row c.args.attrs c.args.self.now.width)
          ++ drop (c.from.ensures z) c.args.self.now.rows;
    })
