use Rattle.std.proofs.Common.{◌≡◌, ℕ, ◌+◌, ◌<◌, length, take, min, sym, subst, ◌∙◌, ap, List, arith}
use Rattle.std.proofs.lemmas.List.{length-take}
use Rattle.std.specs.List.{FoldsTo}
use Rattle.vt_rows.specs.Row.{RowValue}
use Rattle.vt_grid.specs.Scrollback.{Scrollback, Sends, greatest}
use Rattle.vt_grid.proofs.ScrollbackRows.{passed_is, passed_reports}
use Rattle.vt_grid.proofs.scrollback.Scrollback.pass.Goals as goal

pub returns : goal.returns
returns g c = λ height width.
    let inside = c.self.inside in
    let above : Scrollback = record {
      rows = inside.rows.items;
      capacity = inside.capacity;
      theoretical = inside.theoretical;
      offset = inside.offset;
    } in
    let new : Scrollback = record {
      rows = inside.rows.items;
      capacity = inside.capacity;
      theoretical = c.saturating_add-self-inside.result;
      offset = inside.offset;
    } in
    let gone = take c.args.count c.args.page.now.rows in
    let n : length gone ≡ c.args.count =
    omega (arith, length-take c.args.count c.args.page.now.rows, c.requires.page.inside) in
    let some : 0 < length gone = omega (arith, n, c.requires.nonempty) in
    let none = ap (λ (a : Scrollback). a.capacity) c.self.view_is ∙ c.requires.none in
    subst (λ (old : Scrollback). Sends g.L.Leaving.leaves height width
    gone old c.args.leaving.now new c.report_trimmed.new.leaving)
    c.self.view_is (
      passed_is height width gone above c.saturating_add-self-inside.result c.self.invariant none some
          (c.saturating_add-self-inside.ensures ∙ ap (λ (m : ℕ). min (inside.theoretical + m) greatest) (sym n)),
      subst (λ (rows : List RowValue). FoldsTo g.L.Leaving.leaves c.args.leaving.now rows c.report_trimmed.new.leaving)
          (sym (passed_reports gone above c.self.invariant none some)) c.report_trimmed.ensures,
    )
