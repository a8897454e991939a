use Rattle.std.proofs.Common.{◌≡◌, ◌∙◌, ℕ, List, ◌∷◌, ◌++◌, ap, chars, encode_utf8, length, subst, sym, Some, ⊎_elim}
use Rattle.std.specs.List.{AllByRecursion}
use mathlib.Core.Bool.{beq}
use Rattle.std.proofs.StrCases.{chars_of_empty}
use Rattle.std.proofs.lemmas.Str.{IsUtf8-past_char, chars_past_char}
use Rattle.vt_cells.specs.Cell.{text_of}
use Rattle.vt_cells.specs.Glyph.{columns_of, glyph_columns, IsMark}
use Rattle.vt_redraw.proofs.SteadyTests.{IsPrintedTo, glyph_not_half, no_empty_glyph, printed_all, printed_first}
use Rattle.vt_redraw.proofs.SteadyTests.{printed_mark, printed_narrowed, spelled, two_or_one}
use Rattle.vt_redraw.proofs.steadiness.prints_itself.Goals as goal

-- The bytes of the text begin with those of its first character.
begins : (c : goal.After-new) →
    c.contents.result.now ≡ encode_utf8 c.in-Some.first ++ c.next.new.self.rest.now
begins c = sym c.chars-chars.ensures.rest ∙ c.in-Some.ensures.steps.0

-- The characters of the text are its first character and the others.
spelling : (c : goal.After-new) → chars (text_of c.args.cell.now) ≡ c.in-Some.first ∷ chars c.next.new.self.rest.now
spelling c =
    ap chars (sym c.contents.ensures.value)
    ∙ chars_past_char c.contents.result.now c.next.new.self.rest.now c.in-Some.first c.contents.utf8 (begins c)

pub returns-in_default : goal.returns-in_default
returns-in_default c =
    absurd (no_empty_glyph c.args.cell.now c.requires.glyph c.contents.ensures.sound
    (ap length (sym c.contents.ensures.value ∙ sym c.chars-chars.ensures.rest) ∙ c.in_default.ensures.steps.0.0))

pub glyph-printed-requires-clause-reported : goal.glyph-printed-requires-clause-reported
glyph-printed-requires-clause-reported c =
    (spelled c.args.cell.now c.in-Some.first _ c.requires.glyph c.contents.ensures.sound (spelling c)).reported

pub glyph-printed-requires-clause-columns : goal.glyph-printed-requires-clause-columns
glyph-printed-requires-clause-columns c =
    let h = spelled c.args.cell.now c.in-Some.first _ c.requires.glyph c.contents.ensures.sound (spelling c) in
    rw (c.eq-wide.ensures, c.columns.ensures) (two_or_one c.in-Some.first h.drawn h.shown)

pub loop-mark-init : goal.loop-mark-init
loop-mark-init c =
    let later = IsUtf8-past_char c.contents.result.now c.next.new.self.rest.now c.in-Some.first c.contents.utf8
    (sym c.chars-chars.ensures.rest ∙ c.in-Some.ensures.steps.0) in
    let spelt : chars (text_of c.args.cell.now) ≡ c.in-Some.first ∷ chars c.next.new.self.rest.now =
    ap chars (sym c.contents.ensures.value)
    ∙ chars_past_char c.contents.result.now c.next.new.self.rest.now c.in-Some.first c.contents.utf8
    (sym c.chars-chars.ensures.rest ∙ c.in-Some.ensures.steps.0) in
    let h = spelled c.args.cell.now c.in-Some.first _ c.requires.glyph c.contents.ensures.sound spelt in
    let columns : columns_of c.in-Some.first ≡ Some (glyph_columns c.eq-wide.result) =
    rw (c.eq-wide.ensures, c.columns.ensures) (two_or_one c.in-Some.first h.drawn h.shown) in
    rw (c.into_iter-mark-iterator.ensures.into_iter_gives, c.glyph-printed.ensures) (
      later,
      printed_first c.args.cols c.args.cell.now c.in-Some.first (chars c.next.new.self.rest.now) c.eq-wide.result
          c.new.result c.requires.glyph c.contents.ensures.sound c.requires.fits spelt columns,
    )

pub append-requires-clause-shown : goal.append-requires-clause-shown
append-requires-clause-shown c = glyph_not_half c.loop-mark.printed c.loop-mark.invariant.1.glyph

pub append-requires-clause-mark : goal.append-requires-clause-mark
append-requires-clause-mark c =
    let held = c.loop-mark.invariant in
    (subst (λ (cs : List ℕ). AllByRecursion IsMark cs)
    (chars_past_char _ _ c.in-Some-mark.mark held.0 c.in-Some-mark.ensures.steps.0) held.1.marks).0.1

pub returns-then-not-follows : goal.returns-then-not-follows
returns-then-not-follows c =
    let held = c.loop-mark.invariant in
    let parts = c.in-Some-mark.ensures.steps.0 in
    let before = subst (IsPrintedTo c.args.cols c.args.cell.now c.loop-mark.printed c.loop-mark.wide)
    (chars_past_char _ _ c.in-Some-mark.mark held.0 parts) held.1 in (
      λ t. absurd (cc),
      λ steady. absurd (printed_narrowed c.args.cols c.args.cell.now c.loop-mark.printed c.append.new.cell
          c.loop-mark.wide c.width_after-follows.result c.in-Some-mark.mark _ before c.append.ensures
          c.width_after-follows.ensures c.if-wide.true c.if-not-follows.true steady),
    )

pub loop-mark-preserved : goal.loop-mark-preserved
loop-mark-preserved c =
    let held = c.loop-mark.invariant in
    let parts = c.in-Some-mark.ensures.steps.0 in
    let before = subst (IsPrintedTo c.args.cols c.args.cell.now c.loop-mark.printed c.loop-mark.wide)
    (chars_past_char _ _ c.in-Some-mark.mark held.0 parts) held.1 in (
      IsUtf8-past_char _ _ c.in-Some-mark.mark held.0 parts,
      printed_mark c.args.cols c.args.cell.now c.loop-mark.printed c.append.new.cell c.loop-mark.wide
          c.width_after-follows.result c.in-Some-mark.mark _ before c.append.ensures
          c.width_after-follows.ensures (λ w. ⊎_elim (λ both. both.1) (λ no. absurd (cc)) c.else-wide.either),
    )

pub returns : goal.returns
returns c =
    let held = c.loop-mark.invariant.1 in
    printed_all c.args.cols c.args.cell.now c.loop-mark.printed c.loop-mark.wide
    (subst (IsPrintedTo c.args.cols c.args.cell.now c.loop-mark.printed c.loop-mark.wide)
    (chars_of_empty _ c.in-None.ensures.steps.0.0) held)
    _ (ap (beq c.loop-mark.wide) c.is_wide.ensures)
