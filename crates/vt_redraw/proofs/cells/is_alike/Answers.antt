use Rattle.std.proofs.Common.{◌≡◌, ◌∙◌, ap, arith, sym}
use Rattle.vt_cells.proofs.Packing.{head_of-same}
use Rattle.vt_cells.specs.Cell.{CellValue, same_cell}
use Rattle.vt_cells.specs.Internals.{head_of_cell}
use Rattle.vt_rows.specs.Cells.{at}
use Rattle.vt_redraw.proofs.Writing.{read_at, refuted}
use Rattle.vt_redraw.proofs.cells.is_alike.Goals as goal

pub returns-then-col-others : goal.returns-then-col-others
returns-then-col-others c = λ _.
    let own = c.args.own.now in
    let col = c.from-col.ensures in
    let here = c.if-col-own.false in
    let high = c.if-col-others.true in
    let x : at own c.args.col ≡ c.index-own-col.result =
    read_at own _ _ _ c.index-own-col.is col here in
    record {
      inside = omega arith;
      head =
          ap head_of_cell x
          ∙ head_of-same _ _ (sym c.has_head_of.ensures.value ∙ c.if-not-has_head_of.false);
      other = λ low. absurd (omega arith);
    }

pub returns-else-col-others : goal.returns-else-col-others
returns-else-col-others c = λ yes.
    let own = c.args.own.now in
    let col = c.from-col.ensures in
    let here = c.if-col-own.false in
    let low = c.if-col-others.false in
    let x : at own c.args.col ≡ c.index-own-col.result =
    read_at own _ _ _ c.index-own-col.is col here in
    let z : at own c.args.col ≡ c.index-own-col-else-col-others.result =
    read_at own _ _ _ c.index-own-col-else-col-others.is col here in
    let y : at c.args.others.now c.args.col ≡ c.index-others-col.result =
    read_at c.args.others.now _ _ _ c.index-others-col.is col low in
    record {
      inside = omega arith;
      head =
          ap head_of_cell x
          ∙ head_of-same _ _ (sym c.has_head_of.ensures.value ∙ c.if-not-has_head_of.false);
      other =
          λ _. ap (λ (w : CellValue). same_cell w (at c.args.others.now c.args.col)) z
          ∙ (ap (same_cell c.index-own-col-else-col-others.result) y ∙ (sym c.eq.ensures.test ∙ refuted c.eq.result yes));
    }
