use Rattle.std.proofs.Common.{◌≡◌, ◌+◌, ◌++◌, ◌∷◌, ◌∙◌, [], List, ℕ, ap, arith, length, subst, sym, take, take_all}
use Rattle.std.proofs.lemmas.List.{take_more}
use Rattle.vt_cells.specs.Cell.{CellValue}
use Rattle.vt_packed.specs.declared.runs.Run.{Run}
use Rattle.vt_packed.specs.Internals.{runs_with}
use Rattle.vt_packed.specs.Packed.{Packs, packed_text}
use Rattle.vt_packed.proofs.PackedCells.{packs_more, packs_none, runs_fit, text_fits}
use Rattle.vt_packed.proofs.packing.push_cells.Goals as goal

pub loop-cell-init : goal.loop-cell-init
loop-cell-init c = record {
  packs = rw (c.requires.no_runs, c.requires.no_text) packs_none;
  runs_room = c.requires.runs;
  text_room = c.requires.text;
}

pub push_cell-requires-clause-runs : goal.push_cell-requires-clause-runs
push_cell-requires-clause-runs c =
    let cells = c.args.cells.now in
    let at = c.loop-cell.cell-index in
    let cell = c.cell-item.result in
    let next : take (at + 1) cells ≡ take at cells ++ cell ∷ [] =
    take_more cells at cell c.loop-cell-test.true ∙ ap (λ (x : CellValue). take at cells ++ x ∷ []) (sym c.cell-item.is) in
    let fit = runs_fit cells (take at cells) cell (at + 1) next in
    let same = ap (λ (rs : List Run). length (runs_with rs cell)) c.loop-cell.invariant.packs.are_runs in
    omega (arith, fit, same, c.loop-cell.invariant.runs_room)

pub push_cell-requires-clause-text : goal.push_cell-requires-clause-text
push_cell-requires-clause-text c =
    let cells = c.args.cells.now in
    let at = c.loop-cell.cell-index in
    let cell = c.cell-item.result in
    let next : take (at + 1) cells ≡ take at cells ++ cell ∷ [] =
    take_more cells at cell c.loop-cell-test.true ∙ ap (λ (x : CellValue). take at cells ++ x ∷ []) (sym c.cell-item.is) in
    let fit = text_fits cells (take at cells) cell (at + 1) next in
    let same = ap (λ (bytes : List ℕ). length (bytes ++ packed_text (cell ∷ []))) c.loop-cell.invariant.packs.is_text in
    omega (arith, fit, same, c.loop-cell.invariant.text_room)

pub loop-cell-preserved : goal.loop-cell-preserved
loop-cell-preserved c =
    let cells = c.args.cells.now in
    let at = c.loop-cell.cell-index in
    let cell = c.cell-item.result in
    let wrote = c.push_cell.ensures in
    record {
      packs = subst (λ (xs : List CellValue). Packs xs c.push_cell.new.runs.items c.push_cell.new.text.items)
          (sym (take_more cells at cell c.loop-cell-test.true
          ∙ ap (λ (x : CellValue). take at cells ++ x ∷ []) (sym c.cell-item.is)))
          (packs_more (take at cells) cell c.loop-cell.runs.items c.push_cell.new.runs.items c.loop-cell.text.items
          c.push_cell.new.text.items c.loop-cell.invariant.packs wrote.runs wrote.text wrote.sound);
      runs_room = omega (arith, wrote.runs_capacity, c.loop-cell.invariant.runs_room);
      text_room = omega (arith, wrote.text_capacity, c.loop-cell.invariant.text_room);
    }

pub returns : goal.returns
returns c =
    subst (λ (xs : List CellValue). Packs xs c.loop-cell.runs.items c.loop-cell.text.items)
    (take_all c.loop-cell.cell-index c.args.cells.now c.loop-cell-test.false) c.loop-cell.invariant.packs
