use Rattle.std.proofs.Common.{◌≡◌, ◌∙◌, [], ap, sym, subst, true, false}
use Rattle.vt_cells.specs.Attrs.{same_attrs}
use Rattle.vt_cells.specs.Cell.{attrs_of}
use Rattle.vt_cells.specs.Op.{change_text}
use Rattle.vt_rows.specs.Basic.{attrs_after}
use Rattle.vt_packed.specs.Items.{Item, first_cell}
use Rattle.vt_packed.proofs.Unpacked.{empty_len, some_len}
use Rattle.vt_packed.proofs.Written.{default_kept, own_blank, own_glyph, same_kept}
use Rattle.vt_packed.proofs.basic.keeps_attrs.Goals as goal

pub returns-then-is_same-clause-yes : goal.returns-then-is_same-clause-yes
returns-then-is_same-clause-yes c = λ _.
    let i = c.item.inside in
    let attrs = c.args.attrs.now in
    subst (λ (item : Item). (attrs_after attrs (first_cell item) ≡ attrs)
    × (change_text attrs (attrs_after attrs (first_cell item)) ≡ []))
    c.item.view_is (same_kept attrs i.attrs i.wide i.text.now (sym c.is_same.ensures ∙ c.if-is_same.true))

pub returns-then-is_same-clause-no : goal.returns-then-is_same-clause-no
returns-then-is_same-clause-no c = λ (f : true ≡ false). absurd (cc)

pub returns-clause-yes : goal.returns-clause-yes
returns-clause-yes c = λ t.
    let i = c.item.inside in
    let attrs = c.args.attrs.now in
    subst (λ (item : Item). (attrs_after attrs (first_cell item) ≡ attrs)
    × (change_text attrs (attrs_after attrs (first_cell item)) ≡ []))
    c.item.view_is (default_kept attrs i.attrs i.wide i.text.now c.item.invariant
    (empty_len _ _ c.is_empty.ensures c.if-not-is_empty.false)
    (ap (same_attrs i.attrs) (sym c.new.ensures) ∙ (sym c.is_same-2.ensures ∙ t)))

pub returns-clause-no : goal.returns-clause-no
returns-clause-no c = λ f.
    let i = c.item.inside in
    let attrs = c.args.attrs.now in
    subst (λ (item : Item). attrs_after attrs (first_cell item) ≡ attrs_of (first_cell item))
    c.item.view_is (own_blank attrs i.attrs i.wide i.text.now c.item.invariant
    (empty_len _ _ c.is_empty.ensures c.if-not-is_empty.false)
    (ap (same_attrs i.attrs) (sym c.new.ensures) ∙ (sym c.is_same-2.ensures ∙ f)))

pub returns-then-not-is_empty-clause-yes : goal.returns-then-not-is_empty-clause-yes
returns-then-not-is_empty-clause-yes c = λ (t : false ≡ true). absurd (cc)

pub returns-then-not-is_empty-clause-no : goal.returns-then-not-is_empty-clause-no
returns-then-not-is_empty-clause-no c = λ _.
    let i = c.item.inside in
    let attrs = c.args.attrs.now in
    subst (λ (item : Item). attrs_after attrs (first_cell item) ≡ attrs_of (first_cell item))
    c.item.view_is (own_glyph attrs i.attrs i.wide i.text.now (some_len _ _ c.is_empty.ensures c.if-not-is_empty.true))
