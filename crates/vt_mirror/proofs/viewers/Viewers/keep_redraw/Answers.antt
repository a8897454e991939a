use Rattle.vt_mirror.specs.Kept.{copies_of}
use Rattle.vt_mirror.proofs.Keeping.{redraw_kept, shared_redrawn}
use Rattle.vt_mirror.proofs.viewers.Viewers.keep_redraw.Goals as goal

pub invariant_of-self : goal.invariant_of-self
invariant_of-self c = record {
  viewers = c.self.invariant.viewers;
  shared =
      shared_redrawn (copies_of c.self.inside.notes.entries c.self.inside.current c.self.inside.texts)
      c.self.inside.version c.args.portable c.args.text.now c.keep_redraw.new.self c.keep_redraw.ensures
      c.self.invariant.shared;
  numbered = c.self.invariant.numbered;
}

pub returns : goal.returns
returns c =
    redraw_kept _ _ c.keep_redraw.new.self c.args.portable c.args.text.now c.self.view_is c.keep_redraw.ensures
