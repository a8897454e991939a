-- The first number of a group is at the start of the group.
use Rattle.std.proofs.Common.{◌<◌, ◌∙◌, List, [], ap, arith, get_or, length, rules, sym}
use Rattle.vt_scan.specs.Parameters.{GroupTable}
use Rattle.vt_scan.proofs.ParameterGroups.{group_lies, group_none, groups_count}
use Rattle.vt_scan.proofs.parameters.Parameters.number.Goals as goal

pub returns-then-i-self : goal.returns-then-i-self
returns-then-i-self c =
    let p = c.self.inside in
    let count = groups_count p.ends p.closed p.len p.numbers (omega arith) in
    let same = ap (λ (t : GroupTable). length t.groups) c.self.view_is in
    ap (λ (group : List _). get_or group 0 0)
    (sym (group_none c.args.self.now.groups c.args.i (omega (arith, count, same, c.if-i-self.true))))

pub offset_bounds-self-inside-group_start : goal.offset_bounds-self-inside-group_start
offset_bounds-self-inside-group_start c =
    let p = c.self.inside in
    let lies = group_lies p.ends p.closed p.len p.numbers c.args.i (omega arith) c.self.invariant.2 (omega arith) in
    let small : c.group_start.result < 32 = omega (arith, c.group_start.ensures, lies.rises, lies.inside) in
    search rules

pub bounds-self-inside-group_start : goal.bounds-self-inside-group_start
bounds-self-inside-group_start c =
    let p = c.self.inside in
    let lies = group_lies p.ends p.closed p.len p.numbers c.args.i (omega arith) c.self.invariant.2 (omega arith) in
    omega (arith, c.group_start.ensures, lies.rises, lies.inside)

pub returns : goal.returns
returns c =
    let p = c.self.inside in
    let lies = group_lies p.ends p.closed p.len p.numbers c.args.i (omega arith) c.self.invariant.2 (omega arith) in
    rw c.group_start.ensures
    (lies.first ∙ ap (λ (t : GroupTable). get_or (get_or t.groups c.args.i []) 0 0) c.self.view_is)
