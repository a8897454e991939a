use Rattle.std.proofs.Common.{◌≡◌, ◌⊎◌, Some, refl, subst, sym}
use Rattle.vt_mirror.specs.Kept.{HoldsDiff, IsKeptAs, KeptValue, copies_of, screens_of}
use Rattle.vt_mirror.specs.Mirror.{note_of}
use Rattle.vt_mirror.specs.declared.texts.KeptDiff.{KeptDiff}
use Rattle.vt_mirror.proofs.Keeping.{kept_noted, shared_texts}
use Rattle.vt_mirror.proofs.viewers.Viewers.keep_diff.Goals as goal

pub invariant_of-self : goal.invariant_of-self
invariant_of-self c = record {
  viewers = c.self.invariant.viewers;
  shared =
      shared_texts (copies_of c.self.inside.notes.entries c.self.inside.current c.self.inside.texts)
      c.self.inside.version c.args.viewer c.in-Some.note.now c.args.options c.args.text.now c.keep_diff.new.self
      (sym c.in-Some.ensures.value) c.keep_diff.ensures.diffs c.self.invariant.shared;
  numbered = c.self.invariant.numbered;
}

pub returns-clause-diffs : goal.returns-clause-diffs
returns-clause-diffs c =
    subst (λ (k : KeptValue). (diff : KeptDiff) → HoldsDiff c.keep_diff.new.self diff →
    HoldsDiff k.texts diff ⊎ ((note_of k.viewers c.args.viewer ≡ Some diff.from.screen)
    × IsKeptAs c.args.options c.args.text.now diff))
    c.self.view_is
    (kept_noted
    (record { last = c.self.inside.last; numbers = c.self.inside.numbers.keys; notes = screens_of c.self.inside.notes.entries })
    c.self.inside.notes.entries c.args.viewer c.self.inside.texts c.keep_diff.new.self c.in-Some.note.now c.args.options
    c.args.text.now refl c.in-Some.ensures.value c.keep_diff.ensures.diffs)
