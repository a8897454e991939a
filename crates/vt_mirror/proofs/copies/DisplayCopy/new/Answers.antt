use Rattle.std.proofs.Common.{◌↔◌, IsTrue, subst, sym}
use Rattle.vt_mirror.specs.Mirror.{ShowsAlike}
use Rattle.vt_redraw.specs.Steady.{IsSteady}
use Rattle.vt_screen.specs.Screen.{ScreenValue}
use Rattle.vt_screen.specs.Shown.{display}
use Rattle.vt_mirror.proofs.copies.DisplayCopy.new.Goals as goal

pub invariant_of-result : goal.invariant_of-result
invariant_of-result c = (
  subst (λ (s : ScreenValue). ShowsAlike s c.in_ok-copy.copy) (sym c.of-of.ensures)
      (record { shown = c.in_ok-copy.ensures.shown; size = c.in_ok-copy.ensures.size }),
  subst (λ (s : ScreenValue). IsTrue c.is_steady-is_steady.result ↔ IsSteady (display s)) (sym c.of-of.ensures)
      c.is_steady-is_steady.ensures,
)
