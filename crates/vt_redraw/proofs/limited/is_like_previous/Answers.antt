use Rattle.std.proofs.Common.{◌∙◌, ◌-◌, ap, arith, refl, subst, sym}
use Rattle.std.proofs.lemmas.List.{get_or_read_under}
use Rattle.vt_cells.proofs.Packing.{head_of-same}
use Rattle.vt_cells.specs.Cell.{IsCell, default_blank}
use Rattle.vt_cells.specs.Internals.{head_of_cell}
use Rattle.vt_redraw.proofs.limited.is_like_previous.Goals as goal

pub returns-then-col-gt0-clause-sound : goal.returns-then-col-gt0-clause-sound
returns-then-col-gt0-clause-sound c _ =
    subst IsCell (get_or_read_under c.args.cells.now c.args.col _ c.index-cells-col.result default_blank c.index-cells-col.is
    c.requires refl) c.has_head_of.ensures.sound

pub returns-then-col-gt0-clause-head : goal.returns-then-col-gt0-clause-head
returns-then-col-gt0-clause-head c t =
    let here = get_or_read_under c.args.cells.now c.args.col _ c.index-cells-col.result default_blank c.index-cells-col.is
    c.requires refl in
    let before = get_or_read_under c.args.cells.now (c.args.col - 1) _ c.index-cells-col-then-col-gt0.result default_blank
    c.index-cells-col-then-col-gt0.is (omega (arith, c.requires)) refl in
    let same = head_of-same (head_of_cell c.index-cells-col.result) (head_of_cell c.index-cells-col-then-col-gt0.result)
    (sym c.has_head_of.ensures.value ∙ t) in
    ap head_of_cell (sym here) ∙ (same ∙ ap head_of_cell before)
