-- There are as many numbers as groups, or more.
use Rattle.std.proofs.Common.{◌≡◌, ◌+◌, ◌-◌, ◌∙◌, ◌∷◌, [], ℕ, ap, arith, length, map, sym, take}
use Rattle.std.proofs.lemmas.List.{length-take}
use Rattle.vt_scan.specs.Parameters.{GroupTable, total}
use Rattle.vt_scan.proofs.Lists.{lone_groups}
use Rattle.vt_scan.proofs.ParameterGroups.{groups_count, groups_from-total}
use Rattle.vt_scan.proofs.parameters.Parameters.lone_numbers.Goals as goal

pub returns-then-self-count-clause-none : goal.returns-then-self-count-clause-none
returns-then-self-count-clause-none c = λ none.
    let p = c.self.inside in
    let count = groups_count p.ends p.closed p.len p.numbers (omega arith) in
    let same = ap (λ (t : GroupTable). length t.groups) c.self.view_is in
    let all = groups_from-total 0 (take p.closed p.ends) p.len p.numbers c.self.invariant.2 (omega arith) in
    let total_same = ap (λ (t : GroupTable). total t.groups) c.self.view_is in
    omega (arith, count, same, all, total_same, c.if-self-count.true, c.self.invariant.1)

pub returns-clause-some : goal.returns-clause-some
returns-clause-some c =
    let p = c.self.inside in
    let size : p.len ≡ 0 + length (take p.closed p.ends) + 1 =
    omega (arith, length-take p.closed p.ends, c.if-self-count.false) in
    let whole : p.len - 0 ≡ p.len = omega arith in
    ap (λ (t : GroupTable). t.groups) (sym c.self.view_is)
    ∙ lone_groups 0 (take p.closed p.ends) p.len p.numbers c.self.invariant.2 (omega arith) size
    ∙ ap (λ k. map (λ (number : ℕ). number ∷ []) (take k p.numbers)) whole
