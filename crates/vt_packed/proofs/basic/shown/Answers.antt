use Rattle.std.proofs.Common.{◌≡◌, ◌∷◌, ◌∙◌, [], subst}
use Rattle.vt_rows.specs.Basic.{shown_text}
use Rattle.vt_packed.specs.Items.{Item, first_cell}
use Rattle.vt_packed.proofs.Unpacked.{empty_len, some_len, text_utf8}
use Rattle.vt_packed.proofs.Written.{shown_blank, shown_glyph}
use Rattle.vt_packed.proofs.basic.shown.Goals as goal

pub returns-then-is_empty : goal.returns-then-is_empty
returns-then-is_empty c =
    let i = c.item.inside in
    subst (λ (item : Item). 0x20 ∷ [] ≡ shown_text (first_cell item)) c.item.view_is
    (shown_blank i.wide i.text.now i.attrs c.item.invariant (empty_len _ _ c.is_empty.ensures c.if-is_empty.true))

pub from_utf8_unchecked-requires : goal.from_utf8_unchecked-requires
from_utf8_unchecked-requires c =
    let i = c.item.inside in
    text_utf8 i.wide i.text.now c.item.invariant (some_len _ _ c.is_empty.ensures c.if-is_empty.false)

pub returns-else-is_empty : goal.returns-else-is_empty
returns-else-is_empty c =
    let i = c.item.inside in
    c.from_utf8_unchecked.ensures
    ∙ subst (λ (item : Item). i.text.now ≡ shown_text (first_cell item)) c.item.view_is
    (shown_glyph i.wide i.text.now i.attrs (some_len _ _ c.is_empty.ensures c.if-is_empty.false))
