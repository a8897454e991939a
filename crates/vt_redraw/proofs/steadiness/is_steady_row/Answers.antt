use Rattle.std.proofs.Common.{◌↔◌, All, IsTrue, arith, length, subst, sym}
use Rattle.std.proofs.lemmas.List.Elements.{All-take}
use Rattle.vt_redraw.specs.Internals.{FitsColumns}
use Rattle.vt_redraw.specs.Steady.{IsSteadyCell}
use Rattle.vt_redraw.proofs.Halves.{paired_of}
use Rattle.vt_redraw.proofs.SteadyTests.{row_fits, steady_so}
use Rattle.vt_redraw.proofs.steadiness.is_steady_row.Goals as goal

pub are_steady-requires : goal.are_steady-requires
are_steady-requires c =
    let row = c.args.row.now in
    let own = c.own_cells in
    subst (λ n. All (FitsColumns n) own.result.now) (sym c.cols.ensures)
    (subst (All (FitsColumns (length row.cells))) (sym own.ensures.first)
    (All-take (FitsColumns (length row.cells)) (length own.result.now) row.cells
    (row_fits (length row.cells) row.cells (paired_of row.cells c.requires.paired) (omega arith))))

pub returns : goal.returns
returns c =
    let row = c.args.row.now in
    let own = c.own_cells in
    let so = steady_so (length row.cells) (length own.result.now) own.result.now row.cells own.ensures.first
    own.ensures.blank in
    let tells = subst (λ n. IsTrue c.are_steady.result ↔ All (IsSteadyCell n) own.result.now) c.cols.ensures
    c.are_steady.ensures in
    (λ t. so.0 (tells.0 t), λ all. tells.1 (so.1 all))
