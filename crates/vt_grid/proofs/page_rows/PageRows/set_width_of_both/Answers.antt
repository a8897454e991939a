use Rattle.std.proofs.Common.{◌≢◌, ◌∙◌, ◌<◌, ◌≤◌, subst, sym, ap, arith}
use Rattle.std.specs.Prelude.{All}
use Rattle.vt_rows.specs.Row.{IsRow}
use Rattle.vt_grid.specs.PageRows.{PageRowsValue, with_width}
use Rattle.vt_grid.proofs.Widths.{HasColumns, widened}
use Rattle.vt_grid.proofs.page_rows.PageRows.set_width_of_both.Goals as goal

pub invariant_of-self : goal.invariant_of-self
invariant_of-self c =
    let flat = c.self.inside.flat in
    let w = c.args.width in
    let view = c.self.view_is in
    let other : w ≢ flat.columns.shown = λ e. c.requires.other (e ∙ ap (λ (s : PageRowsValue). s.width) view) in
    let least : flat.columns.shown ≤ w = c.if-width-self.false in
    let more : flat.columns.shown < w = grind (arith, other, least) in
    let has : HasColumns w flat c.set_columns.new.self = record {
      cells = c.set_columns.ensures.cells;
      columns = c.set_columns.ensures.columns;
      len = c.set_columns.ensures.len;
      lines = c.set_columns.ensures.lines;
    } in
    let sound = subst (λ (s : PageRowsValue). All (IsRow s.width) s.rows) (sym view) c.requires.sound in
    let all = widened w flat c.set_columns.new.self c.self.invariant has sound more c.if-width-self-2.false in
    all.1

pub invariant_of-other : goal.invariant_of-other
invariant_of-other c =
    let flat = c.other.inside.flat in
    let w = c.args.width in
    let view = c.other.view_is in
    let other : w ≢ flat.columns.shown = λ e. c.requires.other (e ∙ (ap (λ (s : PageRowsValue). s.width) view ∙ c.requires.equal)) in
    let least : flat.columns.shown ≤ w = omega (
      arith,
      c.if-width-self.false,
      c.requires.equal,
      ap (λ (s : PageRowsValue). s.width) view,
      ap (λ (s : PageRowsValue). s.width) c.self.view_is,
    ) in
    let more : flat.columns.shown < w = grind (arith, other, least) in
    let has : HasColumns w flat c.set_columns-2.new.self = record {
      cells = c.set_columns-2.ensures.cells;
      columns = c.set_columns-2.ensures.columns;
      len = c.set_columns-2.ensures.len;
      lines = c.set_columns-2.ensures.lines;
    } in
    let sound = subst (λ (s : PageRowsValue). All (IsRow s.width) s.rows) (sym view) c.requires.other_sound in
    let all = widened w flat c.set_columns-2.new.self c.other.invariant has sound more c.if-width-other.false in
    all.1

pub returns-clause-done : goal.returns-clause-done
returns-clause-done c =
    let flat = c.self.inside.flat in
    let w = c.args.width in
    let view = c.self.view_is in
    let other : w ≢ flat.columns.shown = λ e. c.requires.other (e ∙ ap (λ (s : PageRowsValue). s.width) view) in
    let least : flat.columns.shown ≤ w = c.if-width-self.false in
    let more : flat.columns.shown < w = grind (arith, other, least) in
    let has : HasColumns w flat c.set_columns.new.self = record {
      cells = c.set_columns.ensures.cells;
      columns = c.set_columns.ensures.columns;
      len = c.set_columns.ensures.len;
      lines = c.set_columns.ensures.lines;
    } in
    let sound = subst (λ (s : PageRowsValue). All (IsRow s.width) s.rows) (sym view) c.requires.sound in
    let all = widened w flat c.set_columns.new.self c.self.invariant has sound more c.if-width-self-2.false in
    λ _. all.0 ∙ ap (with_width w) view

pub returns-clause-other_done : goal.returns-clause-other_done
returns-clause-other_done c =
    let flat = c.other.inside.flat in
    let w = c.args.width in
    let view = c.other.view_is in
    let other : w ≢ flat.columns.shown = λ e. c.requires.other (e ∙ (ap (λ (s : PageRowsValue). s.width) view ∙ c.requires.equal)) in
    let least : flat.columns.shown ≤ w = omega (
      arith,
      c.if-width-self.false,
      c.requires.equal,
      ap (λ (s : PageRowsValue). s.width) view,
      ap (λ (s : PageRowsValue). s.width) c.self.view_is,
    ) in
    let more : flat.columns.shown < w = grind (arith, other, least) in
    let has : HasColumns w flat c.set_columns-2.new.self = record {
      cells = c.set_columns-2.ensures.cells;
      columns = c.set_columns-2.ensures.columns;
      len = c.set_columns-2.ensures.len;
      lines = c.set_columns-2.ensures.lines;
    } in
    let sound = subst (λ (s : PageRowsValue). All (IsRow s.width) s.rows) (sym view) c.requires.other_sound in
    let all = widened w flat c.set_columns-2.new.self c.other.invariant has sound more c.if-width-other.false in
    λ _. all.0 ∙ ap (with_width w) view
