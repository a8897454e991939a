use Rattle.std.proofs.Common.{List, None, ℕ, ap, subst, sym, ◌∙◌}
use Rattle.vt_screen.specs.Screen.{ScreenValue}
use Rattle.vt_mirror.specs.Kept.{AreShared, KeptValue, copies_of, screens_of}
use Rattle.vt_mirror.specs.Mirror.{AreViewers, ViewersValue}
use Rattle.vt_mirror.specs.declared.texts.Texts.{Texts}
use Rattle.vt_mirror.proofs.Sharing.{kept_changed}
use Rattle.vt_mirror.proofs.Keeping.{next_numbered, next_screens, shared_next}
use Rattle.vt_mirror.proofs.viewers.Viewers.discard_current.Goals as goal

pub invariant_of-self : goal.invariant_of-self
invariant_of-self c =
    let same = next_screens c.self.inside.version c.self.inside.notes.entries c.ensure_next_version.new.version
    c.ensure_next_version.new.notes.entries c.ensure_next_version.ensures in
    record {
      viewers =
          subst (λ (es : List (ℕ × ScreenValue)).
          AreViewers (record { last = c.self.inside.last; numbers = c.self.inside.numbers.keys; notes = es }))
          (sym same) c.self.invariant.viewers;
      shared =
          subst (λ (t : Texts). AreShared (copies_of c.ensure_next_version.new.notes.entries None t)
          c.ensure_next_version.new.version) (sym c.new.ensures)
          (shared_next (copies_of c.self.inside.notes.entries c.self.inside.current c.self.inside.texts)
          c.self.inside.version c.ensure_next_version.new.version c.ensure_next_version.new.notes.entries
          c.ensure_next_version.ensures c.self.invariant.shared);
      numbered =
          next_numbered c.self.inside.version c.self.inside.notes.entries c.ensure_next_version.new.version
          c.ensure_next_version.new.notes.entries c.ensure_next_version.ensures;
    }

pub returns : goal.returns
returns c =
    let old : ViewersValue =
    record { last = c.self.inside.last; numbers = c.self.inside.numbers.keys; notes = screens_of c.self.inside.notes.entries } in
    let same = next_screens c.self.inside.version c.self.inside.notes.entries c.ensure_next_version.new.version
    c.ensure_next_version.new.notes.entries c.ensure_next_version.ensures in
    kept_changed old c.ensure_next_version.new.notes.entries c.args.self.now.viewers c.new.result
    (ap (λ (es : List (ℕ × ScreenValue)). record old { notes = es }) same
    ∙ ap (λ (k : KeptValue). k.viewers) c.self.view_is)
    c.new.ensures
