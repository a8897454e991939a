use Rattle.std.proofs.Common.{◌≡◌, ℕ, ◌+◌, ◌<◌, ◌≤◌, ◌==◌, ◌++◌, List, length}
use Rattle.std.proofs.Common.{take, map, min, sym, ap, subst, ◌∙◌, arith}
use Rattle.std.specs.Prelude.{All, if◌then◌else◌}
use Rattle.std.proofs.lemmas.List.{length-map, length-take}
use Rattle.std.proofs.lemmas.List.Elements.{All-take}
use Rattle.vt_rows.specs.Row.{RowValue, IsRow, trimmed_row}
use Rattle.vt_grid.specs.Scrollback.{Scrollback, IsScrollback, Sends, before_last}
use Rattle.vt_grid.specs.Scrollback.{greatest, kept_after, last_of, narrow_rows}
use Rattle.std.specs.List.{FoldsTo}
use Rattle.vt_grid.specs.Internals.{in_view}
use Rattle.vt_grid.proofs.ScrollbackRows.{All-copied, All-kept, IsScrollback-pushed, kept_by_steps, pushed_is}
use Rattle.vt_grid.proofs.ScrollbackRows.{spare_made, reported_by_steps}
use Rattle.vt_grid.proofs.scrollback.Scrollback.keep.Goals as goal

pub push_rows-requires-clause-room : goal.push_rows-requires-clause-room
push_rows-requires-clause-room g c =
    let rows = c.args.page.now.rows in
    let size = ap length c.in_ok-copies.ensures.ok ∙ length-map (take c.args.count rows) trimmed_row in
    let same = ap length c.reserve.ensures.items in
    omega (
      arith,
      size,
      same,
      length-take c.args.count rows,
      c.requires.page.rows.inside,
      c.in_ok-reserve.ensures,
      c.reserve.ensures,
      c.self.inside.rows.ok.0,
      c.len.ensures,
    )

pub push_rows-requires-clause-sound : goal.push_rows-requires-clause-sound
push_rows-requires-clause-sound g c =
    All-copied c.args.page.now.width c.args.count c.args.page.now.rows
    c.in_ok-copies.copies.items c.requires.page.rows.sound c.in_ok-copies.ensures.ok

pub grow_in_view-requires-clause-sound : goal.grow_in_view-requires-clause-sound
grow_in_view-requires-clause-sound g c =
    let inside = c.self.inside in
    let above : Scrollback = record {
      rows = inside.rows.items;
      capacity = inside.capacity;
      theoretical = inside.theoretical;
      offset = inside.offset;
    } in
    let rows = c.args.page.now.rows in
    let gone = take c.args.count rows in
    let n : length gone ≡ c.args.count = omega (arith, length-take c.args.count rows, c.requires.page.rows.inside) in
    let pushed_rows : c.push_rows.new.kept.items
    ≡ last_of inside.capacity (c.reserve.new.self.items ++ map trimmed_row gone) =
    c.push_rows.ensures.rows
    ∙ ap (λ (xs : List RowValue). last_of inside.capacity (c.reserve.new.self.items ++ xs)) c.in_ok-copies.ensures.ok in
    let kept = kept_by_steps gone above c.reserve.new.self.items c.push_rows.new.kept.items
    c.saturating_add-self-inside.result c.followed-self-inside.result c.len-2.result
    c.reserve.ensures.items pushed_rows
    (c.saturating_add-self-inside.ensures ∙ ap (λ (m : ℕ). min (inside.theoretical + m) greatest) (sym n))
    (c.len-2.ensures ∙ c.push_rows.new.kept.ok.0)
    (c.followed-self-inside.ensures
    ∙ ap (λ (m : ℕ). if inside.offset == 0 then 0 else min (inside.offset + m) c.len-2.result) (sym n)) in
    All-kept c.args.page.now.width inside.capacity gone inside.rows.items c.reserve.new.self.items
    c.push_rows.new.kept.items (All-take (IsRow c.args.page.now.width) c.args.count rows c.requires.page.rows.sound)
    c.self.invariant.sound c.reserve.ensures.items pushed_rows

pub grow_in_view-requires-clause-spare : goal.grow_in_view-requires-clause-spare
grow_in_view-requires-clause-spare g c =
    let inside = c.self.inside in
    let above : Scrollback = record {
      rows = inside.rows.items;
      capacity = inside.capacity;
      theoretical = inside.theoretical;
      offset = inside.offset;
    } in
    let rows = c.args.page.now.rows in
    let gone = take c.args.count rows in
    let n : length gone ≡ c.args.count = omega (arith, length-take c.args.count rows, c.requires.page.rows.inside) in
    let pushed_rows : c.push_rows.new.kept.items
    ≡ last_of inside.capacity (c.reserve.new.self.items ++ map trimmed_row gone) =
    c.push_rows.ensures.rows
    ∙ ap (λ (xs : List RowValue). last_of inside.capacity (c.reserve.new.self.items ++ xs)) c.in_ok-copies.ensures.ok in
    let kept = kept_by_steps gone above c.reserve.new.self.items c.push_rows.new.kept.items
    c.saturating_add-self-inside.result c.followed-self-inside.result c.len-2.result
    c.reserve.ensures.items pushed_rows
    (c.saturating_add-self-inside.ensures ∙ ap (λ (m : ℕ). min (inside.theoretical + m) greatest) (sym n))
    (c.len-2.ensures ∙ c.push_rows.new.kept.ok.0)
    (c.followed-self-inside.ensures
    ∙ ap (λ (m : ℕ). if inside.offset == 0 then 0 else min (inside.offset + m) c.len-2.result) (sym n)) in
    let few : narrow_rows c.args.size.cols (in_view c.args.size.rows (kept_after gone above)) ≤ c.allocations.result
    = subst (λ (old : Scrollback). narrow_rows c.args.size.cols (in_view c.args.size.rows (kept_after gone old))
    ≤ c.allocations.result)
    (sym c.self.view_is) (c.allocations.ensures gone n) in
    spare_made c.args.size.cols c.from.result c.args.size.rows c.allocations.result gone above c.push_rows.new.kept.items
    c.saturating_add-self-inside.result c.followed-self-inside.result c.in_ok-spare.spare.items
    kept few c.in_ok-spare.ensures.ok c.from.ensures

pub invariant_of-self-2 : goal.invariant_of-self-2
invariant_of-self-2 g c =
    let inside = c.self.inside in
    let above : Scrollback = record {
      rows = inside.rows.items;
      capacity = inside.capacity;
      theoretical = inside.theoretical;
      offset = inside.offset;
    } in
    let rows = c.args.page.now.rows in
    let gone = take c.args.count rows in
    let n : length gone ≡ c.args.count = omega (arith, length-take c.args.count rows, c.requires.page.rows.inside) in
    let pushed_rows : c.push_rows.new.kept.items
    ≡ last_of inside.capacity (c.reserve.new.self.items ++ map trimmed_row gone) =
    c.push_rows.ensures.rows
    ∙ ap (λ (xs : List RowValue). last_of inside.capacity (c.reserve.new.self.items ++ xs)) c.in_ok-copies.ensures.ok in
    let kept = kept_by_steps gone above c.reserve.new.self.items c.push_rows.new.kept.items
    c.saturating_add-self-inside.result c.followed-self-inside.result c.len-2.result
    c.reserve.ensures.items pushed_rows
    (c.saturating_add-self-inside.ensures ∙ ap (λ (m : ℕ). min (inside.theoretical + m) greatest) (sym n))
    (c.len-2.ensures ∙ c.push_rows.new.kept.ok.0)
    (c.followed-self-inside.ensures
    ∙ ap (λ (m : ℕ). if inside.offset == 0 then 0 else min (inside.offset + m) c.len-2.result) (sym n)) in
    let wide : All (IsRow c.args.size.cols) gone =
    subst (λ (m : ℕ). All (IsRow m) gone) (sym c.requires.page.width)
    (All-take (IsRow c.args.page.now.width) c.args.count rows c.requires.page.rows.sound) in
    let all = pushed_is c.args.size.rows c.args.size.cols gone above c.push_rows.new.kept.items
    c.grow_in_view.new.rows.items c.saturating_add-self-inside.result c.followed-self-inside.result
    (omega (arith, n, c.requires.nonempty)) kept c.grow_in_view.ensures in
    subst IsScrollback (sym all)
    (IsScrollback-pushed c.args.size.rows c.args.size.cols gone above wide c.self.invariant)

pub returns : goal.returns
returns g c =
    let inside = c.self.inside in
    let above : Scrollback = record {
      rows = inside.rows.items;
      capacity = inside.capacity;
      theoretical = inside.theoretical;
      offset = inside.offset;
    } in
    let rows = c.args.page.now.rows in
    let gone = take c.args.count rows in
    let n : length gone ≡ c.args.count = omega (arith, length-take c.args.count rows, c.requires.page.rows.inside) in
    let pushed_rows : c.push_rows.new.kept.items
    ≡ last_of inside.capacity (c.reserve.new.self.items ++ map trimmed_row gone) =
    c.push_rows.ensures.rows
    ∙ ap (λ (xs : List RowValue). last_of inside.capacity (c.reserve.new.self.items ++ xs)) c.in_ok-copies.ensures.ok in
    let kept = kept_by_steps gone above c.reserve.new.self.items c.push_rows.new.kept.items
    c.saturating_add-self-inside.result c.followed-self-inside.result c.len-2.result
    c.reserve.ensures.items pushed_rows
    (c.saturating_add-self-inside.ensures ∙ ap (λ (m : ℕ). min (inside.theoretical + m) greatest) (sym n))
    (c.len-2.ensures ∙ c.push_rows.new.kept.ok.0)
    (c.followed-self-inside.ensures
    ∙ ap (λ (m : ℕ). if inside.offset == 0 then 0 else min (inside.offset + m) c.len-2.result) (sym n)) in
    let new : Scrollback = record {
      rows = c.grow_in_view.new.rows.items;
      capacity = inside.capacity;
      theoretical = c.saturating_add-self-inside.result;
      offset = c.followed-self-inside.result;
    } in
    let some : 0 < length gone = omega (arith, n, c.requires.nonempty) in
    let all = pushed_is c.args.size.rows c.args.size.cols gone above c.push_rows.new.kept.items
    c.grow_in_view.new.rows.items c.saturating_add-self-inside.result
    c.followed-self-inside.result some kept c.grow_in_view.ensures in
    let told = subst (λ (xs : List RowValue). FoldsTo g.L.Leaving.leaves c.args.leaving.now
    (before_last inside.capacity (c.reserve.new.self.items ++ xs)) c.push_rows.new.leaving)
    c.in_ok-copies.ensures.ok c.push_rows.ensures.reported in
    let sent = subst (λ (old : Scrollback). Sends g.L.Leaving.leaves c.args.size.rows
    c.args.size.cols gone old c.args.leaving.now new c.push_rows.new.leaving)
    c.self.view_is (
      all,
      reported_by_steps g.L.Leaving.leaves gone above c.reserve.new.self.items
          c.args.leaving.now c.push_rows.new.leaving some c.reserve.ensures.items told,
    ) in
    record { sent = sent; refused = record { err = tt; memory = tt } }
