use Rattle.std.proofs.Common.{◌≡◌, IsUtf8, chars}
use Rattle.std.specs.List.{list_any}
use Rattle.vt_cells.specs.Glyph.{is_selector}
use Rattle.vt_redraw.specs.Steady.{has_selector}
use Rattle.vt_redraw.proofs.steadiness.has_selector.Given as goal

abbrev pub invariant-loop-c : goal.invariant-loop-c
invariant-loop-c l = IsUtf8 l.c-iterator.rest.now
    × (list_any is_selector (chars l.c-iterator.rest.now) ≡ has_selector l.cell)
