use Rattle.std.proofs.Common.{◌≡◌, ℕ, ◌+◌, ◌<◌, List, length, take, min, ap, sym, subst, ◌∙◌, arith}
use Rattle.std.specs.List.{FoldsTo}
use Rattle.std.proofs.lemmas.List.{length-take}
use Rattle.std.proofs.lemmas.List.Elements.{All-take}
use Rattle.vt_rows.specs.Row.{RowValue, IsRow}
use Rattle.vt_grid.specs.Scrollback.{Scrollback, IsScrollback, Sends, greatest}
use Rattle.vt_grid.proofs.ScrollbackRows.{IsScrollback-pushed, turned_is, turned_reports}
use Rattle.vt_grid.proofs.scrollback.Scrollback.recycle_oldest.Goals as goal

pub invariant_of-self-2 : goal.invariant_of-self-2
invariant_of-self-2 g c =
    let inside = c.self.inside in
    let above : Scrollback = record {
      rows = inside.rows.items;
      capacity = inside.capacity;
      theoretical = inside.theoretical;
      offset = inside.offset;
    } in
    let rows = c.args.page.now.rows in
    let gone = take 1 rows in
    let n : length gone ≡ 1 = omega (arith, length-take 1 rows, c.requires.page.inside) in
    let full = ap (λ (a : Scrollback). length a.rows) c.self.view_is
    ∙ (c.requires.full ∙ sym (ap (λ (a : Scrollback). a.capacity) c.self.view_is)) in
    let some : 0 < inside.capacity = subst (λ (a : Scrollback). 0 < a.capacity) (sym c.self.view_is) c.requires.nonempty in
    let hidden = ap (λ (a : Scrollback). a.offset) c.self.view_is ∙ c.requires.hidden in
    let all = turned_is 0 c.args.page.now.width gone above c.recycle_oldest.new.rows.items
    c.saturating_add-self-inside.result full some hidden n c.in_ok-recycle_oldest.ensures.rows
    (c.saturating_add-self-inside.ensures ∙ ap (λ (m : ℕ). min (inside.theoretical + m) greatest) (sym n)) in
    subst IsScrollback (sym all) (IsScrollback-pushed 0 c.args.page.now.width gone above
    (All-take (IsRow c.args.page.now.width) 1 rows c.requires.page.sound) c.self.invariant)

pub returns-clause-pushed : goal.returns-clause-pushed
returns-clause-pushed g c = λ height width.
    let inside = c.self.inside in
    let above : Scrollback = record {
      rows = inside.rows.items;
      capacity = inside.capacity;
      theoretical = inside.theoretical;
      offset = inside.offset;
    } in
    let new : Scrollback = record {
      rows = c.recycle_oldest.new.rows.items;
      capacity = inside.capacity;
      theoretical = c.saturating_add-self-inside.result;
      offset = inside.offset;
    } in
    let rows = c.args.page.now.rows in
    let gone = take 1 rows in
    let n : length gone ≡ 1 = omega (arith, length-take 1 rows, c.requires.page.inside) in
    let full = ap (λ (a : Scrollback). length a.rows) c.self.view_is
    ∙ (c.requires.full ∙ sym (ap (λ (a : Scrollback). a.capacity) c.self.view_is)) in
    let some : 0 < inside.capacity = subst (λ (a : Scrollback). 0 < a.capacity) (sym c.self.view_is) c.requires.nonempty in
    let hidden = ap (λ (a : Scrollback). a.offset) c.self.view_is ∙ c.requires.hidden in
    let sent = subst (λ (old : Scrollback). Sends g.L.Leaving.leaves height
    width gone old c.args.leaving.now new c.recycle_oldest.new.leaving)
    c.self.view_is (
      turned_is height width gone above c.recycle_oldest.new.rows.items
          c.saturating_add-self-inside.result full some hidden n c.in_ok-recycle_oldest.ensures.rows
          (c.saturating_add-self-inside.ensures ∙ ap (λ (m : ℕ). min (inside.theoretical + m) greatest) (sym n)),
      subst (λ (gone : List RowValue). FoldsTo g.L.Leaving.leaves c.args.leaving.now gone c.recycle_oldest.new.leaving)
          (sym (turned_reports gone above full some n)) c.in_ok-recycle_oldest.ensures.reported,
    ) in
    record { sent = sent; refused = record { err = tt; memory = tt } }
