use Rattle.std.proofs.Common.{◌≡◌, ◌∙◌, List, length, drop, set, ap, arith}
use Rattle.std.proofs.lemmas.List.{length-drop}
use Rattle.vt_grid.specs.declared.flat.Line.{Line}
use Rattle.vt_grid.specs.Lines.{LinesValue}
use Rattle.vt_grid.proofs.Bounds.{window-set}
use Rattle.vt_grid.proofs.flat.lines.Lines.set.Goals as goal

pub returns : goal.returns
returns c =
    let s = c.self.inside in
    let entries = s.entries.items in
    let row = c.args.row in
    let view : drop s.start entries ≡ c.args.self.now.items = ap (λ (v : LinesValue). v.items) c.self.view_is in
    window-set s.start entries row c.args.line (omega (arith, c.requires, length-drop s.start entries, ap length view))
    ∙ ap (λ (xs : List Line). set xs row c.args.line) view
