use Rattle.std.proofs.Common.{refl, subst, ◌≡◌}
use Rattle.std.specs.Prelude.{IfSome}
use Rattle.vt_screen.specs.Screen.{ScreenValue}
use Rattle.vt_mirror.proofs.Bookkeeping.{noted_copy, noted_same}
use Rattle.vt_mirror.proofs.Sharing.{sharing_noted}
use Rattle.vt_mirror.proofs.mirror.Mirror.note.Goals as goal

pub invariant_of-self : goal.invariant_of-self
invariant_of-self c =
    sharing_noted c.self.inside.parser c.self.inside.viewers c.note.new.self
    (noted_same (record { parser = c.self.inside.parser; viewers = c.self.inside.viewers.viewers; current = c.self.inside.viewers.current_viewers })
    (record { parser = c.self.inside.parser; viewers = c.note.new.self.viewers; current = c.note.new.self.current_viewers })
    refl c.in_err-note.ensures.err c.self.invariant.sized)
    (subst (λ (s : ScreenValue). IfSome c.note.new.self.current (λ copy. copy ≡ s)) c.screen-screen.ensures.value
    c.in_err-note.ensures.current)
    c.in_err-note.ensures.texts c.self.invariant

pub invariant_of-self-2 : goal.invariant_of-self-2
invariant_of-self-2 c =
    sharing_noted c.self.inside.parser c.self.inside.viewers c.note.new.self
    (noted_copy (record { parser = c.self.inside.parser; viewers = c.self.inside.viewers.viewers; current = c.self.inside.viewers.current_viewers })
    (record { parser = c.self.inside.parser; viewers = c.note.new.self.viewers; current = c.note.new.self.current_viewers }) c.args.viewer c.screen-screen.result.now
    refl c.in_ok-note.ensures.ok c.screen-screen.ensures.value c.self.invariant.sized)
    (subst (λ (s : ScreenValue). IfSome c.note.new.self.current (λ copy. copy ≡ s)) c.screen-screen.ensures.value
    c.in_ok-note.ensures.current)
    c.in_ok-note.ensures.texts c.self.invariant
