use Rattle.std.proofs.Common.{refl}
use Rattle.vt_mirror.proofs.Bookkeeping.{noted_join}
use Rattle.vt_mirror.proofs.Sharing.{sharing_viewers}
use Rattle.vt_mirror.proofs.mirror.Mirror.join.Goals as goal

pub invariant_of-self : goal.invariant_of-self
invariant_of-self c =
    sharing_viewers c.self.inside.parser c.self.inside.viewers c.join.new.self c.join.ensures.rest
    (noted_join (record { parser = c.self.inside.parser; viewers = c.self.inside.viewers.viewers; current = c.self.inside.viewers.current_viewers })
    (record { parser = c.self.inside.parser; viewers = c.join.new.self.viewers; current = c.join.new.self.current_viewers })
    c.join.result refl c.join.ensures.call c.self.invariant.sized)
    c.self.invariant
