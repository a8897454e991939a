use Rattle.std.proofs.Common.{arith, eqb-true}
use Rattle.vt_cells.proofs.Cells.{four_cells, same_at, or_none_left, or_none_right}
use Rattle.vt_cells.proofs.cell_runs.four_same.Goals as goal

pub returns : goal.returns
returns c holds =
    let own = c.args.own.now in
    let others = c.args.others.now in
    let none = eqb-true _ 0 holds in
    let three = or_none_left _ _ none in
    let two = or_none_left _ _ three in
    four_cells own others c.requires.own c.requires.others
    (same_at own others 0 _ _ (omega (arith, c.requires.own)) (omega (arith, c.requires.others))
    c.index-own-0.is c.index-others-0.is (c.odd_bits.ensures (or_none_left _ _ two)))
    (same_at own others 1 _ _ (omega (arith, c.requires.own)) (omega (arith, c.requires.others))
    c.index-own-1.is c.index-others-1.is (c.odd_bits-2.ensures (or_none_right _ _ two)))
    (same_at own others 2 _ _ (omega (arith, c.requires.own)) (omega (arith, c.requires.others))
    c.index-own-2.is c.index-others-2.is (c.odd_bits-3.ensures (or_none_right _ _ three)))
    (same_at own others 3 _ _ (omega (arith, c.requires.own)) (omega (arith, c.requires.others))
    c.index-own-3.is c.index-others-3.is (c.odd_bits-4.ensures (or_none_right _ _ none)))
