use Rattle.std.proofs.Common.{◌≡◌, ◌+◌, ◌-◌, ◌++◌, ◌∷◌, ◌∙◌, [], ap, arith, length, refl, sym, take, take_all, false, List, ℕ}
use Rattle.std.specs.Prelude.{◌^◌, min}
use Rattle.std.proofs.lemmas.List.{length-append, take_more}
use Rattle.vt_cells.specs.Cell.{CellValue}
use Rattle.vt_packed.specs.Packed.{packed_runs, packed_text}
use Rattle.vt_packed.specs.declared.runs.Run.{Run}
use Rattle.vt_packed.specs.Internals.{full_run, last_or}
use Rattle.vt_packed.proofs.PackedCells.{packed_runs-more, packed_text-more}
use Rattle.vt_packed.proofs.Sizes.{bounded_sum}
use Rattle.vt_packed.proofs.size.size_of.Goals as goal

pub loop-cell-init : goal.loop-cell-init
loop-cell-init c = record {
  count = refl;
  few = omega arith;
  last = λ i. record { attrs = c.new.ensures i; wide = false; count = 65535 };
  len = omega arith;
}

pub loop-cell-preserved : goal.loop-cell-preserved
loop-cell-preserved c =
    let cells = c.args.cells.now in
    let at = c.loop-cell.cell-index in
    let cell = c.cell-item.result in
    let front = take at cells in
    let adds = c.count_cell-runs.ensures.adds (packed_runs front) c.loop-cell.invariant.last in
    let next : take (at + 1) cells ≡ front ++ cell ∷ [] =
    take_more cells at cell c.loop-cell-test.true ∙ ap (λ (x : CellValue). front ++ x ∷ []) (sym c.cell-item.is) in
    let runs = packed_runs-more front cell ∙ ap packed_runs (sym next) in
    let text = packed_text-more front cell ∙ ap packed_text (sym next) in
    let sum = length-append (packed_text front) (packed_text (cell ∷ [])) in
    let count = ap (λ (rs : List Run). length rs) runs in
    let len = ap (λ (bytes : List ℕ). length bytes) text in
    let whole : length (packed_text front) + c.text_len.result ≡ length (packed_text (take (at + 1) cells)) =
    omega (arith, c.text_len.ensures, sum, len) in
    record {
      count = omega (arith, adds.has_count, c.loop-cell.invariant.count, count);
      few = omega (arith, c.loop-cell.invariant.few, c.count_cell-runs.ensures.few);
      last = adds.is_last ∙ ap (last_or full_run) runs;
      len = bounded_sum (length (packed_text front)) c.text_len.result c.loop-cell.text c.saturating_add-text.result (2 ^ 64 - 1)
          c.loop-cell.invariant.len c.saturating_add-text.ensures
          ∙ ap (λ (n : ℕ). min n (2 ^ 64 - 1)) whole;
    }

pub returns-clause-runs : goal.returns-clause-runs
returns-clause-runs c =
    c.loop-cell.invariant.count
    ∙ ap (λ (xs : List CellValue). length (packed_runs xs)) (take_all c.loop-cell.cell-index c.args.cells.now c.loop-cell-test.false)

pub returns-clause-text : goal.returns-clause-text
returns-clause-text c =
    c.loop-cell.invariant.len
    ∙ ap (λ (xs : List CellValue). min (length (packed_text xs)) (2 ^ 64 - 1))
    (take_all c.loop-cell.cell-index c.args.cells.now c.loop-cell-test.false)
