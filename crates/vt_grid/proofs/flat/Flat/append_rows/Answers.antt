use Rattle.std.proofs.Common.{◌≡◌, ◌*◌, ◌-◌, ◌≤◌, ◌++◌, ◌∙◌, Bool, length, replicate, take, vec_len, ap, arith}
use Rattle.std.specs.Prelude.{if◌then◌else◌}
use Rattle.std.proofs.lemmas.List.{take_all}
use Rattle.vt_grid.proofs.flat.Flat.append_rows.Goals as goal

pub returns-clause-cells : goal.returns-clause-cells
returns-clause-cells c =
    let flat = c.args.self.now in
    let cells = flat.cells.items in
    let n = c.from.result * c.from-2.result in
    let end : n ≡ c.args.rows * flat.columns.stored = λ z. c.from.ensures z * c.from-2.ensures z in
    let many : length flat.lines.items * flat.columns.stored ≤ c.args.rows * flat.columns.stored = grind (arith, c.requires.more) in
    let len : vec_len flat.cells ≡ length cells = flat.cells.ok.0 in
    let ok = c.resize.ensures.succeeds (omega (arith, end, c.requires.room.cells)) in
    let all : take n cells ≡ cells = take_all n cells (omega (arith, end, many, c.requires.flat.table.filled)) in
    let count : n - vec_len flat.cells ≡ c.args.rows * flat.columns.stored - length cells = omega (arith, end, len) in
    c.resize.ensures.items
    ∙ (ap (λ (ok : Bool). if ok then take n cells ++ replicate (n - vec_len flat.cells) c.default_blank.result else cells) ok
    ∙ (λ z. all z ++ replicate (count z) (c.default_blank.ensures z)))
