use Rattle.std.proofs.Common.{ℕ, List, subst, sym}
use Rattle.std.specs.Prelude.{string_bytes}
use Rattle.vt_screen.specs.Screen.{ScreenValue}
use Rattle.vt_screen.specs.Shown.{form_of}
use Rattle.vt_mirror.specs.Kept.{IsRedraw}
use Rattle.vt_mirror.proofs.Sharing.{redraw_of, sharing_redrawn}
use Rattle.vt_mirror.proofs.mirror.Mirror.full.Goals as goal

pub invariant_of-self : goal.invariant_of-self
invariant_of-self c =
    sharing_redrawn c.self.inside.parser c.self.inside.viewers c.keep_redraw.new.self c.args.portable c.as_str.result.now
    c.keep_redraw.ensures
    (subst (λ (t : List ℕ). IsRedraw (form_of c.args.portable) c.self.inside.parser.screen t) (sym c.as_str.ensures.value)
    (subst (λ (s : ScreenValue). IsRedraw (form_of c.args.portable) s (string_bytes c.in_ok-text.text))
    c.screen-screen.ensures.value
    (redraw_of c.args.portable c.screen-screen.result.now (string_bytes c.in_ok-text.text) c.in_ok-text.ensures.text
    c.in_ok-text.ensures.redraws c.in_ok-text.ensures.controls c.in_ok-text.ensures.again c.in_ok-text.ensures.portable)))
    c.self.invariant
