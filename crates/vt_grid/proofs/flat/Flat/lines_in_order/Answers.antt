use Rattle.std.proofs.Common.{length, sym, ap, ◌∙◌, arith}
use Rattle.vt_grid.proofs.Flats.{length-in_order, in_order_more}
use Rattle.vt_grid.proofs.flat.Flat.lines_in_order.Goals as goal

pub push_reserved-requires : goal.push_reserved-requires
push_reserved-requires c =
    let n = ap length c.loop-place.invariant.made ∙ length-in_order c.loop-place.place in
    omega (arith, n, c.loop-place.invariant.room, c.loop-place.lines.ok.0)

pub loop-place-preserved : goal.loop-place-preserved
loop-place-preserved c = record {
  made = rw (c.push_reserved.ensures.items, c.loop-place.invariant.made) (sym (in_order_more c.loop-place.place));
  room = omega (arith, c.loop-place.invariant.room, c.push_reserved.ensures);
}
