use Rattle.std.proofs.Common.{◌≡◌, ◌+◌, ◌<◌, ◌∙◌, ap, arith, length, sym}
use Rattle.std.proofs.lemmas.List.{length-set}
use Rattle.vt_packed.specs.Items.{Item}
use Rattle.vt_packed.proofs.Unpacked.{put_both, put_cut, put_narrow}
use Rattle.vt_packed.proofs.unpacking.put_item.Goals as goal

pub returns-then-not-item-clause-written : goal.returns-then-not-item-clause-written
returns-then-not-item-clause-written c = λ all rest w.
    put_narrow all c.args.cells.now c.args.column c.args.item.now c.first_cell.result rest c.requires c.first_cell.ensures
    (ap (λ (i : Item). i.style.wide) (sym c.item.view_is) ∙ c.if-not-item.true) w

pub returns-then-column-cells-clause-written : goal.returns-then-column-cells-clause-written
returns-then-column-cells-clause-written c = λ all rest w.
    let cells = c.args.cells.now in
    let size = length-set cells c.args.column c.first_cell.result in
    let end : c.args.column + 1 ≡ length cells = omega (arith, c.if-column-cells.true, size) in
    put_cut all cells c.args.column c.args.item.now c.first_cell.result rest c.requires c.first_cell.ensures
    (ap (λ (i : Item). i.style.wide) (sym c.item.view_is) ∙ c.if-not-item.false) end w

pub returns-clause-written : goal.returns-clause-written
returns-clause-written c = λ all rest w.
    let cells = c.args.cells.now in
    let size = length-set cells c.args.column c.first_cell.result in
    let inside : c.args.column + 1 < length cells = omega (arith, c.if-column-cells.false, size, c.requires) in
    put_both all cells c.args.column c.args.item.now c.first_cell.result c.right_half.result rest inside
    c.first_cell.ensures (ap (λ (i : Item). i.style.wide) (sym c.item.view_is) ∙ c.if-not-item.false)
    c.right_half.ensures w
