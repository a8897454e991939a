use Rattle.std.proofs.Common.{◌≤◌, length, take}
use Rattle.std.specs.Prelude.{vec_capacity}
use Rattle.vt_packed.specs.Packed.{Packs, packed_runs, packed_text}
use Rattle.vt_packed.proofs.packing.push_cells.Given as goal

-- The loop invariant: the cells before the current one are packed, and there is memory for all.
abbrev pub invariant-loop-cell : goal.invariant-loop-cell
invariant-loop-cell l = record {
  packs : Packs (take l.cell-index l.cells) l.runs.items l.text.items;
  runs_room : length (packed_runs l.cells) ≤ vec_capacity l.runs;
  text_room : length (packed_text l.cells) ≤ vec_capacity l.text;
}
