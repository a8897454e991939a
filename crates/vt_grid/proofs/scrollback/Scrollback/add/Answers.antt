use Rattle.std.proofs.Common.{◌≡◌, ℕ, ◌+◌, ◌<◌, length, take, min, ap, sym, subst, ◌∙◌, arith}
use Rattle.std.proofs.lemmas.List.{length-take}
use Rattle.std.proofs.lemmas.List.Elements.{All-take}
use Rattle.vt_rows.specs.Row.{IsRow}
use Rattle.vt_grid.specs.Scrollback.{Scrollback, IsScrollback, greatest, scrollback_after_push}
use Rattle.vt_grid.proofs.ScrollbackRows.{IsScrollback-pushed, added_is}
use Rattle.vt_grid.proofs.scrollback.Scrollback.add.Goals as goal

pub invariant_of-self-2 : goal.invariant_of-self-2
invariant_of-self-2 c =
    let inside = c.self.inside in
    let above : Scrollback = record {
      rows = inside.rows.items;
      capacity = inside.capacity;
      theoretical = inside.theoretical;
      offset = inside.offset;
    } in
    let rows = c.args.page.now.rows in
    let gone = take 1 rows in
    let n : length gone ≡ 1 = omega (arith, length-take 1 rows, c.requires.page.inside) in
    let room = subst (λ (a : Scrollback). length a.rows < a.capacity) (sym c.self.view_is) c.requires.room in
    let hidden = ap (λ (a : Scrollback). a.offset) c.self.view_is ∙ c.requires.hidden in
    let all = added_is 0 c.args.page.now.width gone above c.push_copy.new.rows.items
    c.saturating_add-self-inside.result room hidden n c.in_ok-push_copy.ensures.rows
    (c.saturating_add-self-inside.ensures ∙ ap (λ (m : ℕ). min (inside.theoretical + m) greatest) (sym n)) in
    subst IsScrollback (sym all) (IsScrollback-pushed 0 c.args.page.now.width gone above
    (All-take (IsRow c.args.page.now.width) 1 rows c.requires.page.sound) c.self.invariant)

pub returns-clause-added : goal.returns-clause-added
returns-clause-added c = λ height width.
    let inside = c.self.inside in
    let above : Scrollback = record {
      rows = inside.rows.items;
      capacity = inside.capacity;
      theoretical = inside.theoretical;
      offset = inside.offset;
    } in
    let new : Scrollback = record {
      rows = c.push_copy.new.rows.items;
      capacity = inside.capacity;
      theoretical = c.saturating_add-self-inside.result;
      offset = inside.offset;
    } in
    let gone = take 1 c.args.page.now.rows in
    let n : length gone ≡ 1 = omega (arith, length-take 1 c.args.page.now.rows, c.requires.page.inside) in
    let room = subst (λ (a : Scrollback). length a.rows < a.capacity) (sym c.self.view_is) c.requires.room in
    let hidden = ap (λ (a : Scrollback). a.offset) c.self.view_is ∙ c.requires.hidden in
    subst (λ (old : Scrollback). new ≡ scrollback_after_push height width gone old) c.self.view_is
    (added_is height width gone above c.push_copy.new.rows.items
    c.saturating_add-self-inside.result room hidden n c.in_ok-push_copy.ensures.rows
    (c.saturating_add-self-inside.ensures ∙ ap (λ (m : ℕ). min (inside.theoretical + m) greatest) (sym n)))
