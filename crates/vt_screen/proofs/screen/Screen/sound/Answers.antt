use Rattle.std.proofs.Common.{rules, subst}
use Rattle.vt_cells.proofs.Packing.{attrs_fit}
use Rattle.vt_cells.specs.Op.{FitsAttrs}
use Rattle.vt_screen.specs.Screen.{ScreenValue, AreColored}
use Rattle.vt_screen.proofs.screen.Screen.sound.Goals as goal

pub returns-clause-colored : goal.returns-clause-colored
returns-clause-colored c =
    let fits : FitsAttrs c.attrs.result = search (rules, attrs_fit) in
    record {
      rows = subst (λ (s : ScreenValue). AreColored s.page.rows) c.self.view_is c.self.invariant.colored;
      above = subst (λ (s : ScreenValue). AreColored s.scrollback.rows) c.self.view_is c.self.invariant.above.colored;
      attrs = subst FitsAttrs c.attrs.ensures fits;
    }
