use Rattle.std.proofs.Common.{◌≡◌, ◌++◌, length, take, drop, sym, subst, ◌∙◌, arith}
use Rattle.std.specs.Prelude.{All}
use Rattle.std.proofs.lemmas.List.{take-append-le, take_all}
use Rattle.vt_cells.specs.Cell.{IsCell}
use Rattle.vt_rows.specs.Cells.{IsPaired}
use Rattle.test_packed.proofs.rows.cells_of.Goals as goal

pub loop-column-preserved : goal.loop-column-preserved
loop-column-preserved c =
    let at = c.loop-column in
    let new = c.put.new.cells in
    let behind = drop (length new) at.cells.items in
    let long : length new ≡ at.cells.len = omega (arith, c.put.auto.cells, c.deref_mut.ensures.len) in
    let same : take at.cells.len (new ++ behind) ≡ new =
    take-append-le at.cells.len new behind (omega (arith, long)) ∙ take_all at.cells.len new (omega (arith, long)) in
    record {
      paired = subst IsPaired (sym same) c.put.ensures.paired;
      sound =
          subst (All IsCell) (sym same)
          (c.put.ensures.sound (subst (All IsCell) (sym c.deref_mut.ensures.value) at.invariant.sound));
    }
