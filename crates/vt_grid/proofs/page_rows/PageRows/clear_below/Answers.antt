use Rattle.std.proofs.Common.{◌+◌, ◌-◌, ◌++◌, length, take, replicate, ◌∙◌, arith}
use Rattle.vt_rows.specs.Row.{blank_row}
use Rattle.vt_grid.proofs.Scrolls.{blank_from}
use Rattle.vt_grid.proofs.page_rows.PageRows.clear_below.Goals as goal

pub returns : goal.returns
returns c =
    let own = c.args.self.now in
    blank_from (c.from.result + 1) c.len-end.result c.args.attrs own c.clear_rows.new.self
    (omega (arith, c.requires.inside, c.from.ensures)) c.len-end.ensures
    c.clear_rows.ensures.len c.clear_rows.ensures.width c.clear_rows.ensures.by_index
    ∙ (λ z.
    record {
      rows =
          take (c.from.ensures z + 1) own.rows
          ++ replicate (length own.rows - (c.from.ensures z + 1)) (blank_row c.args.attrs own.width);
      width = own.width;
    })
