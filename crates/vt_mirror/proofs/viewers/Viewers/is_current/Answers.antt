use Rattle.std.proofs.Common.{None, Some, ap, refl, sym, ◌∙◌}
use Rattle.std.specs.declared.option.Option.{Option}
use Rattle.vt_mirror.specs.Kept.{KeptValue, copies_of, is_of_current, noted_at, screens_of}
use Rattle.vt_mirror.specs.Mirror.{ViewersValue}
use Rattle.vt_mirror.specs.declared.copies.Note.{Note}
use Rattle.vt_mirror.proofs.Sharing.{no_current, seen_current}
use Rattle.vt_mirror.proofs.Keeping.{found_current}
use Rattle.vt_mirror.proofs.viewers.Viewers.is_current.Goals as goal

pub returns-in_default-clause-exact : goal.returns-in_default-clause-exact
returns-in_default-clause-exact c =
    let viewers : ViewersValue =
    record { last = c.self.inside.last; numbers = c.self.inside.numbers.keys; notes = screens_of c.self.inside.notes.entries } in
    ap (λ (o : Option Note). is_of_current o (noted_at c.self.inside.notes.entries c.args.viewer)) (sym c.in_default.is)
    ∙ seen_current viewers c.self.inside.notes.entries c.self.inside.current c.args.self.now.current_viewers c.args.viewer
    (noted_at c.self.inside.notes.entries c.args.viewer)
    c.self.invariant.viewers refl (ap (λ (k : KeptValue). k.current_viewers) c.self.view_is) refl

pub returns-in-None-clause-exact : goal.returns-in-None-clause-exact
returns-in-None-clause-exact c =
    let viewers : ViewersValue =
    record { last = c.self.inside.last; numbers = c.self.inside.numbers.keys; notes = screens_of c.self.inside.notes.entries } in
    sym (no_current c.self.inside.current)
    ∙ seen_current viewers c.self.inside.notes.entries c.self.inside.current c.args.self.now.current_viewers c.args.viewer None
    c.self.invariant.viewers refl (ap (λ (k : KeptValue). k.current_viewers) c.self.view_is) c.in-None.ensures.value

pub returns-in-Some-get-clause-exact : goal.returns-in-Some-get-clause-exact
returns-in-Some-get-clause-exact c =
    let viewers : ViewersValue =
    record { last = c.self.inside.last; numbers = c.self.inside.numbers.keys; notes = screens_of c.self.inside.notes.entries } in
    c.is_of_version.ensures.test
    ∙ (ap (λ (o : Option Note). is_of_current o (Some c.in-Some-get.note.now)) (sym c.in-Some.is)
    ∙ seen_current viewers c.self.inside.notes.entries c.self.inside.current c.args.self.now.current_viewers c.args.viewer
    (Some c.in-Some-get.note.now)
    c.self.invariant.viewers refl (ap (λ (k : KeptValue). k.current_viewers) c.self.view_is) c.in-Some-get.ensures.value)

pub returns-in-Some-get-clause-noted : goal.returns-in-Some-get-clause-noted
returns-in-Some-get-clause-noted c = λ is.
    found_current c.args.self.now.viewers
    (copies_of c.self.inside.notes.entries c.self.inside.current c.self.inside.texts)
    c.self.inside.version c.args.self.now.current c.args.viewer c.in-Some-get.note.now c.in-Some.current
    (sym (ap (λ (k : KeptValue). k.viewers.notes) c.self.view_is)) (sym (ap (λ (k : KeptValue). k.current) c.self.view_is))
    c.self.invariant.shared c.in-Some-get.ensures.value c.in-Some.is (c.is_of_version.ensures.equal.0 is)
