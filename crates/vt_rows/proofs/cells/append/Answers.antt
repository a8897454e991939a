use Rattle.std.proofs.Common.{◌<◌, length, refl}
use Rattle.std.proofs.lemmas.List.{get_or_default}
use Rattle.std.proofs.lemmas.List.Elements.{All-get_or}
use Rattle.vt_cells.specs.Cell.{default_blank, IsCell}
use Rattle.vt_cells.proofs.Cells.{IsCell-marked}
use Rattle.vt_rows.specs.Cells.{at}
use Rattle.vt_rows.proofs.Edits.{IsPaired-marked_at, All-marked_at}
use Rattle.vt_rows.proofs.cells.append.Goals as goal

pub returns-clause-value : goal.returns-clause-value
returns-clause-value c =
    let inside : c.args.column < length c.args.cells.now = c.requires.inside in
    rw
    (c.append.ensures, get_or_default c.args.cells.now c.args.column c.index-cells-column.result default_blank inside)
    refl

pub returns-clause-paired : goal.returns-clause-paired
returns-clause-paired c =
    λ p. rw (returns-clause-value c) (IsPaired-marked_at c.args.column c.args.mark c.args.cells.now p)

pub returns-clause-sound : goal.returns-clause-sound
returns-clause-sound c = λ all.
    let cells = c.args.cells.now in
    let k = c.args.column in
    rw (returns-clause-value c)
    (All-marked_at k c.args.mark cells
    (IsCell-marked c.args.mark (at cells k) (c.ranges.mark.0, c.requires.mark)
    (All-get_or IsCell cells k default_blank c.requires.inside all))
    all)
