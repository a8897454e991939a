use Rattle.vt_mirror.proofs.Sharing.{sharing_parser, sharing_resized}
use Rattle.vt_mirror.proofs.mirror.Mirror.set_size.Goals as goal

pub invariant_of-self : goal.invariant_of-self
invariant_of-self c =
    sharing_parser c.self.inside.parser c.set_size.new.self c.self.inside.viewers c.in_err-set_size.ensures.err
    c.self.invariant

pub invariant_of-self-2 : goal.invariant_of-self-2
invariant_of-self-2 c =
    sharing_resized c.set_size.new.self c.self.inside.viewers c.discard_all.new.self c.discard_all.ensures
