use Rattle.std.proofs.Common.{◌≡◌, subst}
use Rattle.vt_cells.specs.Cell.{attrs_of}
use Rattle.vt_packed.specs.Items.{Item, first_cell, style_of}
use Rattle.vt_packed.proofs.Written.{item_attrs}
use Rattle.vt_packed.proofs.basic.item_attrs.Goals as goal

pub returns : goal.returns
returns c =
    let i = c.item.inside in
    subst (λ (item : Item). i.attrs ≡ attrs_of (first_cell item)) c.item.view_is
    (item_attrs (record { style = style_of i.attrs i.wide; text = i.text.now }))
