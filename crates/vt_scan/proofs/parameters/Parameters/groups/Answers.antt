-- The groups of the array, in order.
use Rattle.std.proofs.Common.{arith, ◌<◌, get_or, rules, take, drop}
use Rattle.vt_scan.proofs.ParameterGroups.{Ascends-below, next_rises}
use Rattle.vt_scan.proofs.parameters.Parameters.groups.Goals as goal

pub offset_bounds-self-inside-start : goal.offset_bounds-self-inside-start
offset_bounds-self-inside-start c =
    let below : c.loop-i.start < c.self.inside.len =
    Ascends-below c.loop-i.start (drop c.loop-i.i (take c.self.inside.closed c.self.inside.ends))
    c.self.inside.len c.loop-i.invariant.1 in
    let small : c.loop-i.start < 32 = omega arith in
    search rules

pub slice_bounds-push-end : goal.slice_bounds-push-end
slice_bounds-push-end c =
    let next = next_rises c.loop-i.start c.self.inside.ends c.loop-i.i c.self.inside.closed
    c.self.inside.len (omega arith) (omega arith) c.loop-i.invariant.1 in
    let rises : c.loop-i.start < get_or c.self.inside.ends c.loop-i.i 0 = next.0 in
    let small : get_or c.self.inside.ends c.loop-i.i 0 < 32 = omega (arith, next.1) in
    search rules
