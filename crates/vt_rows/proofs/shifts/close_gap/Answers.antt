use Rattle.std.proofs.Common.{◌≡◌, ◌+◌, ◌-◌, ◌∙◌, ℕ, ap, arith, length}
use Rattle.std.proofs.lemmas.Bool.Decides.{nat_tests}
use Rattle.vt_cells.specs.Cell.{default_blank}
use Rattle.vt_rows.specs.Cells.{at}
use Rattle.vt_rows.specs.Internals.{rotation_source}
use Rattle.vt_rows.proofs.shifts.close_gap.Goals as goal

pub returns-then-count-eq1-clause-before : goal.returns-then-count-eq1-clause-before
returns-then-count-eq1-clause-before c = λ k lt.
    let cells = c.args.cells.now in
    let from : rotation_source c.args.column (length cells) c.args.count k ≡ k = grind (arith, nat_tests) in
    c.turn.ensures.by_index k default_blank ∙ ap (λ (j : ℕ). at cells j) from

pub returns-then-count-eq1-clause-after : goal.returns-then-count-eq1-clause-after
returns-then-count-eq1-clause-after c = λ k ge lt.
    let cells = c.args.cells.now in
    let column = c.args.column in
    let from : rotation_source column (length cells) c.args.count k ≡ column + c.args.count + (k - column) =
    grind (arith, nat_tests) in
    c.turn.ensures.by_index k default_blank ∙ ap (λ (j : ℕ). at cells j) from

pub returns-clause-before : goal.returns-clause-before
returns-clause-before c = λ k lt. c.copy_within.ensures.by_index.1 k default_blank lt

pub returns-clause-after : goal.returns-clause-after
returns-clause-after c = λ k ge lt.
    c.copy_within.ensures.by_index.0 k default_blank ge (omega (arith, ge, lt, c.requires))
