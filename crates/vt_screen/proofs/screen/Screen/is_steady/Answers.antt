use Rattle.std.proofs.Common.{◌↔◌, IsTrue, subst}
use Rattle.vt_redraw.specs.Picture.{Picture}
use Rattle.vt_redraw.specs.Steady.{IsSteady}
use Rattle.vt_screen.proofs.screen.Screen.is_steady.Goals as goal

pub returns : goal.returns
returns c =
    subst (λ (p : Picture). IsTrue c.is_steady.result ↔ IsSteady p) c.view.ensures.value c.is_steady.ensures
