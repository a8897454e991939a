use Rattle.std.proofs.Common.{◌≡◌, ◌+◌, ◌∙◌, length, drop, get_or, ap, arith}
use Rattle.std.proofs.lemmas.List.{with_items_is}
use Rattle.vt_rows.specs.Internals.{rotation_source}
use Rattle.vt_grid.specs.Flat.{line_at, no_line}
use Rattle.vt_grid.specs.Lines.{LinesValue}
use Rattle.vt_grid.proofs.Bounds.{window-turned}
use Rattle.vt_grid.proofs.flat.lines.Lines.rotate_many.Goals as goal

pub returns-then-to-from-clause-lines : goal.returns-then-to-from-clause-lines
returns-then-to-from-clause-lines c =
    let s = c.self.inside in
    let entries = s.entries in
    let now = c.turn.new.items in
    let from = c.args.from in
    let to = c.args.to in
    let count = c.args.count in
    let view : drop s.start entries.items ≡ c.args.self.now.items = ap (λ (v : LinesValue). v.items) c.self.view_is in
    let size : length now ≡ length entries.items = c.turn.ensures.len ∙ ap length c.deref_mut.ensures.value in
    let whole = with_items_is entries now (omega (arith, size, entries.ok.0)) in
    λ k.
    (λ z. line_at (drop s.start (whole z)) k)
    ∙ (window-turned s.start from to count entries.items now
    (λ j. c.turn.ensures.by_index j no_line
    ∙ (λ z. get_or (c.deref_mut.ensures.value z) (rotation_source (s.start + from) (s.start + to) count j) no_line)) k
    ∙ (λ z. line_at (view z) (rotation_source from to count k)))
