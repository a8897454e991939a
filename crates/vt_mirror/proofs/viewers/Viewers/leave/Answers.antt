use Rattle.std.proofs.Common.{ap, refl, subst}
use Rattle.vt_mirror.specs.Calls.{Leaves}
use Rattle.vt_mirror.specs.Kept.{KeptValue, copies_of, screens_of}
use Rattle.vt_mirror.specs.Mirror.{ViewersValue}
use Rattle.vt_mirror.proofs.Sharing.{current_left}
use Rattle.vt_mirror.proofs.Keeping.{fewer_kept, kept_left, note_left, note_left_viewers}
use Rattle.vt_mirror.proofs.viewers.Viewers.leave.Goals as goal

pub invariant_of-self : goal.invariant_of-self
invariant_of-self c = record {
  viewers =
      note_left_viewers
      (record { last = c.self.inside.last; numbers = c.self.inside.numbers.keys; notes = screens_of c.self.inside.notes.entries })
      c.args.viewer c.self.inside.numbers c.remove-2.new.self c.self.inside.notes c.remove.new.self
      refl refl c.remove-2.ensures.updates c.remove.ensures.updates c.self.invariant.viewers;
  shared =
      fewer_kept
      (copies_of c.self.inside.notes.entries c.self.inside.current c.self.inside.texts)
      (copies_of c.remove.new.self.entries c.self.inside.current c.self.inside.texts)
      c.self.inside.version
      (λ note is. kept_left c.args.viewer c.self.inside.notes c.remove.new.self
      (copies_of c.self.inside.notes.entries c.self.inside.current c.self.inside.texts) note refl
      c.remove.ensures.updates is)
      c.self.invariant.shared;
  numbered = c.self.invariant.numbered;
}

pub returns-clause-call : goal.returns-clause-call
returns-clause-call c =
    let old : ViewersValue =
    record { last = c.self.inside.last; numbers = c.self.inside.numbers.keys; notes = screens_of c.self.inside.notes.entries } in
    subst (λ (k : KeptValue). Leaves k.viewers c.args.viewer c.remove-2.result
    (record { last = c.self.inside.last; numbers = c.remove-2.new.self.keys; notes = screens_of c.remove.new.self.entries }))
    c.self.view_is (record {
      was = c.remove-2.ensures.test;
      last = refl;
      puts =
          note_left old c.args.viewer c.self.inside.numbers c.remove-2.new.self c.self.inside.notes c.remove.new.self
          refl refl c.remove-2.ensures.updates c.remove.ensures.updates;
    })

pub returns-clause-current : goal.returns-clause-current
returns-clause-current c =
    let old : ViewersValue =
    record { last = c.self.inside.last; numbers = c.self.inside.numbers.keys; notes = screens_of c.self.inside.notes.entries } in
    current_left c.args.self.now.current_viewers old
    (record old { numbers = c.remove-2.new.self.keys; notes = screens_of c.remove.new.self.entries })
    c.self.inside.notes c.remove.new.self c.self.inside.current c.args.viewer _
    c.self.invariant.viewers refl
    (note_left_viewers old c.args.viewer c.self.inside.numbers c.remove-2.new.self c.self.inside.notes c.remove.new.self
    refl refl c.remove-2.ensures.updates c.remove.ensures.updates c.self.invariant.viewers)
    refl c.remove.ensures.updates (ap (λ (k : KeptValue). k.current_viewers) c.self.view_is) refl
