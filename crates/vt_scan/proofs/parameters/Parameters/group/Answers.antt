-- A group consists of the numbers between its start and its end.
use Rattle.std.proofs.Common.{◌<◌, ◌≤◌, ◌∙◌, [], ap, arith, get_or, length, rules}
use Rattle.vt_scan.specs.Parameters.{GroupTable}
use Rattle.vt_scan.proofs.ParameterGroups.{group_lies, groups_count}
use Rattle.vt_scan.proofs.parameters.Parameters.group.Goals as goal

pub group_start-start-requires : goal.group_start-start-requires
group_start-start-requires c =
    let p = c.self.inside in
    let count = groups_count p.ends p.closed p.len p.numbers (omega arith) in
    let same = ap (λ (t : GroupTable). length t.groups) c.self.view_is in
    omega (arith, count, same, c.requires)

pub offset_bounds-self-inside-start : goal.offset_bounds-self-inside-start
offset_bounds-self-inside-start c =
    let p = c.self.inside in
    let count = groups_count p.ends p.closed p.len p.numbers (omega arith) in
    let same = ap (λ (t : GroupTable). length t.groups) c.self.view_is in
    let few : c.args.i ≤ p.closed = omega (arith, count, same, c.requires) in
    let lies = group_lies p.ends p.closed p.len p.numbers c.args.i (omega arith) c.self.invariant.2 few in
    let small : c.group_start-start.result < 32 =
    omega (arith, c.group_start-start.ensures, lies.rises, lies.inside) in
    search rules

pub slice_bounds-result-count : goal.slice_bounds-result-count
slice_bounds-result-count c =
    let p = c.self.inside in
    let count = groups_count p.ends p.closed p.len p.numbers (omega arith) in
    let same = ap (λ (t : GroupTable). length t.groups) c.self.view_is in
    let few : c.args.i ≤ p.closed = omega (arith, count, same, c.requires) in
    let lies = group_lies p.ends p.closed p.len p.numbers c.args.i (omega arith) c.self.invariant.2 few in
    omega (arith, c.group_start-start.ensures, c.group_end-end.ensures, lies.rises)

pub slice_bounds-result-start : goal.slice_bounds-result-start
slice_bounds-result-start c =
    let p = c.self.inside in
    let count = groups_count p.ends p.closed p.len p.numbers (omega arith) in
    let same = ap (λ (t : GroupTable). length t.groups) c.self.view_is in
    let few : c.args.i ≤ p.closed = omega (arith, count, same, c.requires) in
    let lies = group_lies p.ends p.closed p.len p.numbers c.args.i (omega arith) c.self.invariant.2 few in
    let rises : c.group_start-start.result ≤ c.group_end-end.result =
    omega (arith, c.group_start-start.ensures, c.group_end-end.ensures, lies.rises) in
    let small : c.group_end-end.result ≤ 32 = omega (arith, c.group_end-end.ensures, lies.inside) in
    search rules

pub slice_bounds-result-end : goal.slice_bounds-result-end
slice_bounds-result-end c =
    let p = c.self.inside in
    let count = groups_count p.ends p.closed p.len p.numbers (omega arith) in
    let same = ap (λ (t : GroupTable). length t.groups) c.self.view_is in
    let few : c.args.i ≤ p.closed = omega (arith, count, same, c.requires) in
    let lies = group_lies p.ends p.closed p.len p.numbers c.args.i (omega arith) c.self.invariant.2 few in
    let rises : c.group_start-start.result ≤ c.group_end-end.result =
    omega (arith, c.group_start-start.ensures, c.group_end-end.ensures, lies.rises) in
    let small : c.group_end-end.result ≤ 32 = omega (arith, c.group_end-end.ensures, lies.inside) in
    search rules

pub returns : goal.returns
returns c =
    let p = c.self.inside in
    let count = groups_count p.ends p.closed p.len p.numbers (omega arith) in
    let same = ap (λ (t : GroupTable). length t.groups) c.self.view_is in
    let few : c.args.i ≤ p.closed = omega (arith, count, same, c.requires) in
    let lies = group_lies p.ends p.closed p.len p.numbers c.args.i (omega arith) c.self.invariant.2 few in
    rw (c.group_start-start.ensures, c.group_end-end.ensures)
    (lies.part ∙ ap (λ (t : GroupTable). get_or t.groups c.args.i []) c.self.view_is)
