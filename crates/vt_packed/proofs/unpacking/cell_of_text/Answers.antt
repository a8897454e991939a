use Rattle.std.proofs.Common.{◌<◌, ◌∙◌, List, ℕ, ap, arith, chars, length, subst, sym}
use Rattle.std.specs.List.{AllByRecursion}
use Rattle.std.proofs.StrCases.{chars_of_empty}
use Rattle.std.proofs.lemmas.Str.{IsUtf8-past_char, chars_past_char}
use Rattle.vt_cells.specs.Cell.{IsCell}
use Rattle.vt_cells.specs.Glyph.{IsMark}
use Rattle.vt_packed.specs.Internals.{IsBuiltTo}
use Rattle.vt_packed.proofs.Unpacked.{blank_cell, built_all, built_first, built_more, built_not_half, empty_len, glyph_cell}
use Rattle.vt_packed.proofs.Unpacked.{glyph_text, some_len, spelled, text_utf8, two_or_one}
use Rattle.vt_packed.proofs.unpacking.cell_of_text.Goals as goal

pub returns-then-is_empty : goal.returns-then-is_empty
returns-then-is_empty c =
    c.blank.ensures ∙ blank_cell c.args.wide c.args.text.now c.args.attrs c.requires (empty_len _ _ c.is_empty.ensures c.if-is_empty.true)

pub from_utf8_unchecked-text-requires : goal.from_utf8_unchecked-text-requires
from_utf8_unchecked-text-requires c =
    text_utf8 c.args.wide c.args.text.now c.requires (some_len _ _ c.is_empty.ensures c.if-is_empty.false)

pub returns-in_default : goal.returns-in_default
returns-in_default c =
    let none = ap length (sym c.from_utf8_unchecked-text.ensures ∙ sym c.chars-chars.ensures.rest)
    ∙ c.in_default.ensures.steps.0.0 in
    absurd (omega (arith, none, some_len _ _ c.is_empty.ensures c.if-is_empty.false))

pub glyph-built-requires-clause-reported : goal.glyph-built-requires-clause-reported
glyph-built-requires-clause-reported c =
    let whole = c.args.text.now in
    let some : 0 < length whole = some_len _ _ c.is_empty.ensures c.if-is_empty.false in
    let g = glyph_text c.args.wide whole c.requires some in
    let begins = sym (c.chars-chars.ensures.rest ∙ c.from_utf8_unchecked-text.ensures) ∙ c.in-Some.ensures.steps.0 in
    (spelled whole c.args.wide c.in-Some.first _ g
    (chars_past_char whole c.next.new.self.rest.now c.in-Some.first (text_utf8 c.args.wide whole c.requires some)
    begins)).reported

pub glyph-built-requires-clause-columns : goal.glyph-built-requires-clause-columns
glyph-built-requires-clause-columns c =
    let whole = c.args.text.now in
    let some : 0 < length whole = some_len _ _ c.is_empty.ensures c.if-is_empty.false in
    let g = glyph_text c.args.wide whole c.requires some in
    let begins = sym (c.chars-chars.ensures.rest ∙ c.from_utf8_unchecked-text.ensures) ∙ c.in-Some.ensures.steps.0 in
    let h = spelled whole c.args.wide c.in-Some.first _ g
    (chars_past_char whole c.next.new.self.rest.now c.in-Some.first (text_utf8 c.args.wide whole c.requires some)
    begins) in
    rw (c.eq-is_wide.ensures, c.columns.ensures) (two_or_one c.in-Some.first h.drawn h.shown)

pub loop-mark-init : goal.loop-mark-init
loop-mark-init c =
    let whole = c.args.text.now in
    let rest = c.next.new.self.rest.now in
    let some : 0 < length whole = some_len _ _ c.is_empty.ensures c.if-is_empty.false in
    let g = glyph_text c.args.wide whole c.requires some in
    let utf8 = text_utf8 c.args.wide whole c.requires some in
    let begins = sym (c.chars-chars.ensures.rest ∙ c.from_utf8_unchecked-text.ensures) ∙ c.in-Some.ensures.steps.0 in
    let h = spelled whole c.args.wide c.in-Some.first (chars rest) g (chars_past_char whole rest c.in-Some.first utf8 begins) in
    rw c.into_iter-mark-iterator.ensures.into_iter_gives (
      IsUtf8-past_char whole rest c.in-Some.first utf8 begins,
      built_first whole c.in-Some.first (chars rest) c.eq-is_wide.result c.args.attrs c.glyph-built.result h c.glyph-built.ensures,
    )

pub append-requires-clause-shown : goal.append-requires-clause-shown
append-requires-clause-shown c = built_not_half _ _ _ _ c.loop-mark.invariant.1

pub append-requires-clause-mark : goal.append-requires-clause-mark
append-requires-clause-mark c =
    let held = c.loop-mark.invariant in
    (subst (λ (cs : List ℕ). AllByRecursion IsMark cs)
    (chars_past_char _ _ c.in-Some-mark.mark held.0 c.in-Some-mark.ensures.steps.0) held.1.are_marks).0.1

pub loop-mark-preserved : goal.loop-mark-preserved
loop-mark-preserved c =
    let held = c.loop-mark.invariant in
    let parts = c.in-Some-mark.ensures.steps.0 in
    let before = subst (λ (cs : List ℕ). IsBuiltTo c.args.text.now cs c.args.attrs c.loop-mark.built)
    (chars_past_char _ _ c.in-Some-mark.mark held.0 parts) held.1 in (
      IsUtf8-past_char _ _ c.in-Some-mark.mark held.0 parts,
      built_more c.args.text.now c.in-Some-mark.mark _ c.args.attrs c.loop-mark.built c.append.new.cell before
          c.append.ensures,
    )

pub set_wide-requires : goal.set_wide-requires
set_wide-requires c =
    let whole = c.args.text.now in
    let some : 0 < length whole = some_len _ _ c.is_empty.ensures c.if-is_empty.false in
    let built = subst (λ (cs : List ℕ). IsBuiltTo whole cs c.args.attrs c.loop-mark.built)
    (chars_of_empty _ c.in-None.ensures.steps.0.0) c.loop-mark.invariant.1 in
    subst IsCell (sym (built_all whole c.args.attrs c.loop-mark.built c.args.wide built))
    (glyph_text c.args.wide whole c.requires some)

pub returns : goal.returns
returns c =
    let whole = c.args.text.now in
    let some : 0 < length whole = some_len _ _ c.is_empty.ensures c.if-is_empty.false in
    let built = subst (λ (cs : List ℕ). IsBuiltTo whole cs c.args.attrs c.loop-mark.built)
    (chars_of_empty _ c.in-None.ensures.steps.0.0) c.loop-mark.invariant.1 in
    c.set_wide.ensures
    ∙ (built_all whole c.args.attrs c.loop-mark.built c.args.wide built ∙ glyph_cell c.args.wide whole c.args.attrs some)
