-- The loop invariant: the cells written so far are glyphs of the text.
use Rattle.std.proofs.Common.{◌≡◌, ◌-◌, ◌≤◌, length, take}
use Rattle.vt_rows.specs.Texts.{glyphs_of}
use Rattle.vt_rows.proofs.cells.write_text.Given as goal

abbrev pub invariant-loop-done : goal.invariant-loop-done
invariant-loop-done l = record {
  within : l.done ≤ l.len;
  len : length l.cells ≡ l.len;
  same : take l.done l.cells ≡ glyphs_of l.attrs (take l.done l.text);
}

abbrev pub decreases-loop-done : goal.decreases-loop-done
decreases-loop-done l = l.len - l.done
