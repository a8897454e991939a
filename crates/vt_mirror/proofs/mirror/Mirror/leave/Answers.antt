use Rattle.std.proofs.Common.{refl}
use Rattle.vt_mirror.proofs.Bookkeeping.{noted_leave}
use Rattle.vt_mirror.proofs.Sharing.{sharing_viewers}
use Rattle.vt_mirror.proofs.mirror.Mirror.leave.Goals as goal

pub invariant_of-self : goal.invariant_of-self
invariant_of-self c =
    sharing_viewers c.self.inside.parser c.self.inside.viewers c.leave.new.self c.leave.ensures.rest
    (noted_leave (record { parser = c.self.inside.parser; viewers = c.self.inside.viewers.viewers; current = c.self.inside.viewers.current_viewers })
    (record { parser = c.self.inside.parser; viewers = c.leave.new.self.viewers; current = c.leave.new.self.current_viewers })
    c.args.viewer c.leave.result refl c.leave.ensures.call c.self.invariant.sized)
    c.self.invariant
