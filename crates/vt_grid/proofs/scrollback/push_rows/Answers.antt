use Rattle.std.proofs.Common.{◌≡◌, ℕ, ◌+◌, ◌-◌, ◌≤◌, ◌∷◌, length, min, ap, sym, subst, ◌∙◌, arith}
use Rattle.std.proofs.lemmas.List.Elements.{All-head, All-tail}
use Rattle.std.specs.Vec.Iter.{into_iter_items}
use Rattle.vt_rows.specs.Row.{RowValue, IsRow}
use Rattle.vt_grid.proofs.ScrollbackRows.{All-pushed, row_kept, row_counted, room_left, row_sent}
use Rattle.vt_grid.proofs.scrollback.push_rows.Goals as goal

pub loop-row-preserved : goal.loop-row-preserved
loop-row-preserved g c =
    let at = c.loop-row in
    let row = c.in-Some.row in
    let rest = into_iter_items c.next.new.self in
    let steps : into_iter_items at.row-iterator ≡ row ∷ into_iter_items c.next.new.self = c.in-Some.ensures.steps.0 in
    let kept = c.push_row.ensures.rows in
    let counted = row_counted c.args.capacity at.kept.items c.push_row.new.kept.items row kept in
    let was = at.invariant.2 in
    let P : RowValue → Type 0 = λ row. IsRow (length row.cells) row in
    let whole = rw steps at was.sound in (
      tt,
      tt,
      record {
        kept = row_kept c.args.capacity at.kept.items c.push_row.new.kept.items rest row kept ∙ (rw steps at was.kept);
        sent =
            λ z told. (rw steps at was.sent) z
            (row_sent g.L.Leaving.leaves c.args.capacity at.kept.items c.push_row.new.kept.items
            rest row at.leaving c.push_row.new.leaving z kept c.push_row.ensures.reported told);
        inside = omega (arith, counted);
        room =
            room_left c.args.capacity (length at.kept.items) (length c.push_row.new.kept.items)
            (length (into_iter_items c.next.new.self)) (length (into_iter_items at.row-iterator)) _ counted
            (ap length steps) was.inside (subst
            (λ (n : ℕ). length at.kept.items
            + min (length (into_iter_items at.row-iterator)) (c.args.capacity - length at.kept.items)
            ≤ n)
            (sym c.push_row.ensures.capacity) was.room);
        sound = All-tail P row (into_iter_items c.next.new.self) whole;
        sound_kept =
            All-pushed c.args.capacity at.kept.items c.push_row.new.kept.items row kept
            (All-head P row (into_iter_items c.next.new.self) whole) was.sound_kept;
      },
    )
