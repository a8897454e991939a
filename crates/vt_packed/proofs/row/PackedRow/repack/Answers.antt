use Rattle.std.proofs.Common.{◌-◌, List, arith, length, subst, take}
use Rattle.std.specs.Prelude.{◌^◌, vec_capacity}
use Rattle.std.proofs.Math.Nat.{min-le_left}
use Rattle.vt_cells.specs.Cell.{CellValue}
use Rattle.vt_packed.specs.Packed.{Packs, packed_text}
use Rattle.vt_packed.proofs.PackedCells.{IsPacked-packs, packs_back}
use Rattle.vt_packed.proofs.Sizes.{bounded_le, fits_old}
use Rattle.vt_packed.proofs.row.PackedRow.repack.Goals as goal

pub returns-in_err-reserve_total-clause-fits : goal.returns-in_err-reserve_total-clause-fits
returns-in_err-reserve_total-clause-fits c = λ fits.
    let row = c.self.inside in
    let cells = c.args.cells.now in
    let fit = fits_old cells (take c.trimmed_len.result cells) c.args.wrapped row.runs.items row.text.items row.cols row.wrapped
    c.args.self.now c.trimmed_len.ensures.value c.self.invariant c.self.view_is fits in
    let wrong = c.in_err-reserve_total.ensures.fits (omega (arith, fit.0, c.size_of-size.ensures.runs, row.runs.ok.0)) in
    absurd (cc)

pub returns-in_err-reserve_total-2-clause-fits : goal.returns-in_err-reserve_total-2-clause-fits
returns-in_err-reserve_total-2-clause-fits c = λ fits.
    let row = c.self.inside in
    let cells = c.args.cells.now in
    let kept = take c.trimmed_len.result cells in
    let fit = fits_old cells kept c.args.wrapped row.runs.items row.text.items row.cols row.wrapped
    c.args.self.now c.trimmed_len.ensures.value c.self.invariant c.self.view_is fits in
    let cut = min-le_left (length (packed_text kept)) (2 ^ 64 - 1) in
    let wrong = c.in_err-reserve_total-2.ensures.fits
    (omega (arith, fit.1, cut, c.size_of-size.ensures.text, row.text.ok.0)) in
    absurd (cc)

pub push_cells-requires-clause-text : goal.push_cells-requires-clause-text
push_cells-requires-clause-text c =
    let kept = take c.trimmed_len.result c.args.cells.now in
    bounded_le (length (packed_text kept)) (2 ^ 64 - 1) (vec_capacity c.clear-2.new.self)
    (omega (arith, c.size_of-size.ensures.text, c.in_ok-reserve_total-2.ensures.room, c.clear-2.ensures.capacity))
    (omega (arith, c.clear-2.new.self.small))

pub invariant_of-self-2 : goal.invariant_of-self-2
invariant_of-self-2 c =
    let runs = c.push_cells.new.runs.items in
    let text = c.push_cells.new.text.items in
    IsPacked-packs c.args.cells.now runs text c.requires
    (subst (λ (xs : List CellValue). Packs xs runs text) c.trimmed_len.ensures.value c.push_cells.ensures)

pub returns-clause-ok : goal.returns-clause-ok
returns-clause-ok c =
    let runs = c.push_cells.new.runs.items in
    let text = c.push_cells.new.text.items in
    let back = packs_back c.args.cells.now runs text c.requires
    (subst (λ (xs : List CellValue). Packs xs runs text) c.trimmed_len.ensures.value c.push_cells.ensures) in
    λ i. record { cells = back i; wrapped = c.args.wrapped }
