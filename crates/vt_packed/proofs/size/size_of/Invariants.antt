use Rattle.std.proofs.Common.{◌≡◌, ◌≤◌, ◌-◌, length, take}
use Rattle.std.specs.Prelude.{◌^◌, min}
use Rattle.vt_packed.specs.Packed.{packed_runs, packed_text}
use Rattle.vt_packed.specs.Internals.{full_run, last_or}
use Rattle.vt_packed.proofs.size.size_of.Given as goal

-- The loop invariant: the size and the last run are those of the cells before the current one.
abbrev pub invariant-loop-cell : goal.invariant-loop-cell
invariant-loop-cell l = record {
  count : l.runs ≡ length (packed_runs (take l.cell-index l.cells));
  few : l.runs ≤ l.cell-index;
  last : l.last ≡ last_or full_run (packed_runs (take l.cell-index l.cells));
  len : l.text ≡ min (length (packed_text (take l.cell-index l.cells))) (2 ^ 64 - 1);
}
