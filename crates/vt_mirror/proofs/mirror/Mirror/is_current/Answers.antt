use Rattle.std.proofs.Common.{Some, subst, ap, ◌≡◌, ◌∙◌}
use Rattle.vt_screen.specs.Screen.{ScreenValue}
use Rattle.vt_mirror.specs.Mirror.{MirrorValue, note_of}
use Rattle.vt_mirror.proofs.Sharing.{CopiesScreen}
use Rattle.vt_mirror.proofs.mirror.Mirror.is_current.Goals as goal

pub returns-clause-noted : goal.returns-clause-noted
returns-clause-noted c = λ is.
    let it = c.is_current.ensures.noted is in
    let same : it.0 ≡ c.self.inside.parser.screen =
    subst (CopiesScreen c.self.inside.parser) it.2 c.self.invariant.current in
    subst (λ (m : MirrorValue). note_of m.viewers c.args.viewer ≡ Some m.parser.screen) c.self.view_is
    (it.1 ∙ ap (λ (s : ScreenValue). Some s) same)
