use Rattle.std.proofs.Common.{◌≡◌, IfSome, Some, None, refl, sym, subst, ap, ◌∙◌}
use Rattle.std.proofs.lemmas.Option.{IfSome_then}
use Rattle.vt_mirror.specs.Kept.{HoldsDiff, IsKeptAs, KeptValue, copies_of, screens_of}
use Rattle.vt_mirror.specs.Mirror.{ViewersValue, note_of}
use Rattle.vt_mirror.specs.declared.texts.KeptDiff.{KeptDiff}
use Rattle.vt_mirror.proofs.Keeping.{found_diff, found_note}
use Rattle.vt_mirror.proofs.viewers.Viewers.noted.Goals as goal

pub returns-in-Some-clause-some : goal.returns-in-Some-clause-some
returns-in-Some-clause-some c =
    let viewers : ViewersValue =
    record { last = c.self.inside.last; numbers = c.self.inside.numbers.keys; notes = screens_of c.self.inside.notes.entries } in
    sym (found_note viewers c.self.inside.notes.entries c.args.viewer (Some c.in-Some.note.now) refl c.in-Some.ensures.value
    ∙ ap (λ (k : KeptValue). note_of k.viewers c.args.viewer) c.self.view_is)

pub returns-in-Some-clause-kept : goal.returns-in-Some-clause-kept
returns-in-Some-clause-kept c =
    let viewers : ViewersValue =
    record { last = c.self.inside.last; numbers = c.self.inside.numbers.keys; notes = screens_of c.self.inside.notes.entries } in
    subst (λ (k : KeptValue). IfSome c.diff.result (λ text. (diff : KeptDiff) × HoldsDiff k.texts diff
    × (note_of k.viewers c.args.viewer ≡ Some diff.from.screen) × IsKeptAs c.args.options text.now diff))
    c.self.view_is (IfSome_then c.diff.result c.diff.ensures (λ text it. (
      it.0,
      it.1,
      found_diff viewers (copies_of c.self.inside.notes.entries c.self.inside.current c.self.inside.texts)
          c.self.inside.version c.args.viewer c.in-Some.note.now it.0 refl c.self.invariant.shared
          c.in-Some.ensures.value it.1 it.2,
      it.3,
    )))

pub returns-in-None-clause-none : goal.returns-in-None-clause-none
returns-in-None-clause-none c =
    let viewers : ViewersValue =
    record { last = c.self.inside.last; numbers = c.self.inside.numbers.keys; notes = screens_of c.self.inside.notes.entries } in
    sym (found_note viewers c.self.inside.notes.entries c.args.viewer None refl c.in-None.ensures.value
    ∙ ap (λ (k : KeptValue). note_of k.viewers c.args.viewer) c.self.view_is)
