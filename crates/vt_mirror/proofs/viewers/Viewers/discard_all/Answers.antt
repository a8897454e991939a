use Rattle.vt_mirror.specs.Kept.{copies_of, screens_of}
use Rattle.vt_mirror.proofs.Keeping.{cleared_viewers, shared_cleared}
use Rattle.vt_mirror.proofs.viewers.Viewers.discard_all.Goals as goal

pub invariant_of-self : goal.invariant_of-self
invariant_of-self c = record {
  viewers =
      cleared_viewers
      (record { last = c.self.inside.last; numbers = c.self.inside.numbers.keys; notes = screens_of c.self.inside.notes.entries })
      c.clear.new.self.entries c.clear.ensures.empty c.self.invariant.viewers;
  shared =
      shared_cleared
      (copies_of c.self.inside.notes.entries c.self.inside.current c.self.inside.texts)
      c.clear.new.self.entries c.self.inside.version c.clear.ensures.empty c.self.invariant.shared;
  numbered = c.self.invariant.numbered;
}
