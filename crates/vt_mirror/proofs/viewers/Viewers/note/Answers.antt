use Rattle.std.proofs.Common.{ℕ, List, Some, true, ◌≡◌, ap, refl, subst, sym, ◌∙◌}
use Rattle.vt_screen.specs.Screen.{ScreenValue}
use Rattle.vt_mirror.specs.Kept.{AreKept, KeptValue, copies_of, current_in, screens_of}
use Rattle.vt_mirror.specs.Mirror.{Puts, ViewersValue, is_viewer}
use Rattle.vt_mirror.specs.declared.copies.Note.{Note}
use Rattle.vt_mirror.proofs.Bookkeeping.{if_refused, if_taken, on_err}
use Rattle.vt_mirror.proofs.Sharing.{current_put, current_renewed}
use Rattle.vt_mirror.proofs.Keeping.{fewer_kept, kept_put, note_put, note_put_viewers, numbered_renewed, shared_renewed}
use Rattle.vt_mirror.proofs.viewers.Viewers.note.Goals as goal

-- No copy could be made.
pub invariant_of-self : goal.invariant_of-self
invariant_of-self c = record {
  viewers = c.self.invariant.viewers;
  shared =
      shared_renewed c.args.screen.now
      (copies_of c.self.inside.notes.entries c.self.inside.current c.self.inside.texts)
      c.self.inside.version c.current_note.new.version c.current_note.new.current
      c.current_note.ensures.renewed c.self.invariant.shared;
  numbered =
      numbered_renewed c.args.screen.now c.self.inside.version c.self.inside.current c.current_note.new.version
      c.current_note.new.current c.current_note.ensures.renewed c.self.invariant.numbered;
}

-- The copy could not be recorded.
pub invariant_of-self-then-is_err : goal.invariant_of-self-then-is_err
invariant_of-self-then-is_err c =
    subst (λ (es : List (ℕ × Note)). AreKept
    (record { last = c.self.inside.last; numbers = c.self.inside.numbers.keys; notes = screens_of es })
    (copies_of es c.current_note.new.current c.self.inside.texts) c.current_note.new.version)
    (sym (if_refused c.insert.result (c.insert.new.self.entries ≡ c.self.inside.notes.entries)
    (sym c.if-is_err.ensures.value) c.insert.ensures.err)) (record {
      viewers = c.self.invariant.viewers;
      shared =
          shared_renewed c.args.screen.now
          (copies_of c.self.inside.notes.entries c.self.inside.current c.self.inside.texts)
          c.self.inside.version c.current_note.new.version c.current_note.new.current
          c.current_note.ensures.renewed c.self.invariant.shared;
      numbered =
          numbered_renewed c.args.screen.now c.self.inside.version c.self.inside.current c.current_note.new.version
          c.current_note.new.current c.current_note.ensures.renewed c.self.invariant.numbered;
    })

pub invariant_of-self-2 : goal.invariant_of-self-2
invariant_of-self-2 c =
    let old : ViewersValue =
    record { last = c.self.inside.last; numbers = c.self.inside.numbers.keys; notes = screens_of c.self.inside.notes.entries } in
    let updates = if_taken c.insert.result _ (sym c.if-is_err.ensures.value) c.insert.ensures.updates in
    record {
      viewers =
          note_put_viewers old c.args.viewer c.in_ok-note.note c.self.inside.notes c.insert.new.self refl updates
          (ap (λ (k : KeptValue). is_viewer k.viewers c.args.viewer) c.self.view_is ∙ c.requires.viewer)
          c.self.invariant.viewers;
      shared =
          fewer_kept
          (copies_of c.self.inside.notes.entries c.current_note.new.current c.self.inside.texts)
          (copies_of c.insert.new.self.entries c.current_note.new.current c.self.inside.texts)
          c.current_note.new.version
          (λ note is. kept_put c.args.viewer c.args.screen.now c.self.inside.notes c.insert.new.self
          (copies_of c.self.inside.notes.entries c.current_note.new.current c.self.inside.texts)
          c.in_ok-note.note note refl updates c.in_ok-note.ensures.ok is)
          (shared_renewed c.args.screen.now
          (copies_of c.self.inside.notes.entries c.self.inside.current c.self.inside.texts)
          c.self.inside.version c.current_note.new.version c.current_note.new.current
          c.current_note.ensures.renewed c.self.invariant.shared);
      numbered =
          numbered_renewed c.args.screen.now c.self.inside.version c.self.inside.current c.current_note.new.version
          c.current_note.new.current c.current_note.ensures.renewed c.self.invariant.numbered;
    }

pub returns-clause-ok : goal.returns-clause-ok
returns-clause-ok c =
    let old : ViewersValue =
    record { last = c.self.inside.last; numbers = c.self.inside.numbers.keys; notes = screens_of c.self.inside.notes.entries } in
    let updates = if_taken c.insert.result _ (sym c.if-is_err.ensures.value) c.insert.ensures.updates in
    subst (λ (k : KeptValue). Puts k.viewers c.args.viewer true
    (Some c.args.screen.now) (record old { notes = screens_of c.insert.new.self.entries }))
    c.self.view_is
    (subst (λ (s : ScreenValue). Puts old c.args.viewer true (Some s)
    (record old { notes = screens_of c.insert.new.self.entries })) c.in_ok-note.ensures.ok.screen
    (note_put old c.args.viewer c.in_ok-note.note c.self.inside.notes c.insert.new.self refl updates
    (ap (λ (k : KeptValue). is_viewer k.viewers c.args.viewer) c.self.view_is ∙ c.requires.viewer)))

-- If no copy could be made, or the copy could not be recorded, the same viewers are current as before.
pub returns-in_err-note-clause-unnoted : goal.returns-in_err-note-clause-unnoted
returns-in_err-note-clause-unnoted c =
    on_err c.from_residual.result _ (
    current_renewed c.self.inside.numbers.keys c.args.screen.now
    (copies_of c.self.inside.notes.entries c.self.inside.current c.self.inside.texts)
    c.self.inside.version c.current_note.new.version c.current_note.new.current c.current_note.ensures.renewed
    c.self.invariant.shared
    ∙ ap (λ (k : KeptValue). k.current_viewers) c.self.view_is)

pub returns-then-is_err-clause-unnoted : goal.returns-then-is_err-clause-unnoted
returns-then-is_err-clause-unnoted c =
    ap (λ (es : List (ℕ × Note)). current_in c.self.inside.numbers.keys es c.current_note.new.current)
    (if_refused c.insert.result (c.insert.new.self.entries ≡ c.self.inside.notes.entries)
    (sym c.if-is_err.ensures.value) c.insert.ensures.err)
    ∙ (current_renewed c.self.inside.numbers.keys c.args.screen.now
    (copies_of c.self.inside.notes.entries c.self.inside.current c.self.inside.texts)
    c.self.inside.version c.current_note.new.version c.current_note.new.current c.current_note.ensures.renewed
    c.self.invariant.shared
    ∙ ap (λ (k : KeptValue). k.current_viewers) c.self.view_is)

pub returns-clause-noted : goal.returns-clause-noted
returns-clause-noted c =
    let old : ViewersValue =
    record { last = c.self.inside.last; numbers = c.self.inside.numbers.keys; notes = screens_of c.self.inside.notes.entries } in
    let copies = copies_of c.self.inside.notes.entries c.self.inside.current c.self.inside.texts in
    let updates = if_taken c.insert.result _ (sym c.if-is_err.ensures.value) c.insert.ensures.updates in
    let renewed = c.current_note.ensures.renewed in
    current_put c.args.self.now.current_viewers old (record old { notes = screens_of c.insert.new.self.entries })
    c.self.inside.notes c.insert.new.self copies c.args.viewer c.args.screen.now
    c.self.inside.version c.current_note.new.version c.current_note.new.current c.in_ok-note.note _
    c.self.invariant.viewers refl
    (note_put_viewers old c.args.viewer c.in_ok-note.note c.self.inside.notes c.insert.new.self refl updates
    (ap (λ (k : KeptValue). is_viewer k.viewers c.args.viewer) c.self.view_is ∙ c.requires.viewer)
    c.self.invariant.viewers)
    refl refl updates renewed c.self.invariant.shared c.in_ok-note.ensures.ok
    (numbered_renewed c.args.screen.now c.self.inside.version c.self.inside.current c.current_note.new.version
    c.current_note.new.current renewed c.self.invariant.numbered)
    (ap (λ (k : KeptValue). k.current_viewers) c.self.view_is) refl
