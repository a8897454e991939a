use Rattle.std.proofs.Common.{refl, ◌≡◌, ℕ, ◌+◌, ◌-◌, ◌<◌, ◌∙◌, List, length, take, set}
use Rattle.std.proofs.Common.{get_or, sym, ap, subst, nat_le, nat_lt, ◌&&◌, arith}
use Rattle.std.proofs.lemmas.Bool.Decides.{nat_tests}
use Rattle.std.specs.VecDeque.{deque_len}
use Rattle.std.proofs.lemmas.List.{length-take, length-set, take_all}
use Rattle.vt_cells.specs.Attrs.{default_attrs}
use Rattle.vt_rows.specs.Cells.{IsPaired}
use Rattle.vt_rows.specs.Row.{RowValue, blank_row, resized_row}
use Rattle.vt_grid.specs.PageRows.{PageRowsValue}
use Rattle.vt_grid.proofs.Scrolls.{MovedInto, moved_none, still_blank, moved_more, moved_all, last_taken, last_paired}
use Rattle.vt_grid.proofs.Scrolls.{left_taken, none_left}
use Rattle.vt_grid.proofs.scrollback.give_rows.Goals as goal

pub loop-k-init : goal.loop-k-init
loop-k-init c =
    let n = c.args.up in
    let kept = c.args.kept.now.items in
    record {
      moved = moved_none (λ j. length kept + j - n) n n kept c.args.page.now.rows (omega arith);
      long = refl;
      left = sym (take_all (length kept + n - n) kept (omega arith));
      width = refl;
      few = omega arith;
      nonempty = omega arith;
    }

pub returns-in_default-clause-kept : goal.returns-in_default-clause-kept
returns-in_default-clause-kept c =
    let at = c.loop-k in
    let n = c.args.up in
    let kept = c.args.kept.now.items in
    let inv = at.invariant in
    let none : length at.kept.items ≡ 0 = sym at.kept.ok.0 ∙ (c.in_default.ensures).cases.0 in
    let end : length kept + at.k - n ≡ 0 =
    sym (ap length inv.left ∙ omega (arith, length-take (length kept + at.k - n) kept, inv.few)) ∙ none in
    none_left (deque_len at.kept - 1) (length kept - n) kept at.kept.items
    c.pop_back.new.self.items none (c.in_default.ensures).rest (omega (arith, end))

pub returns-in_default-clause-by_index : goal.returns-in_default-clause-by_index
returns-in_default-clause-by_index c =
    let at = c.loop-k in
    let n = c.args.up in
    let kept = c.args.kept.now.items in
    let inv = at.invariant in
    let none : length at.kept.items ≡ 0 = sym at.kept.ok.0 ∙ (c.in_default.ensures).cases.0 in
    let end : length kept + at.k - n ≡ 0 =
    sym (ap length inv.left ∙ omega (arith, length-take (length kept + at.k - n) kept, inv.few)) ∙ none in
    moved_all (λ j. length kept + j - n) at.k n kept c.args.page.now.rows
    at.page.rows (λ j. nat_lt j n && nat_le n (length kept + j))
    (λ j h. let some = inv.nonempty in grind (arith, nat_tests)) inv.moved

pub fit_row-requires-clause-blank : goal.fit_row-requires-clause-blank
fit_row-requires-clause-blank c =
    let at = c.loop-k in
    let n = c.args.up in
    let kept = c.args.kept.now.items in
    let d = blank_row default_attrs at.page.width in
    let s : at.k ≡ (at.k - 1) + 1 = omega arith in
    let still = still_blank (λ j. length kept + j - n) (at.k - 1) n kept c.args.page.now.rows at.page.rows d
    (subst (λ (k : ℕ). MovedInto (λ j. length kept + j - n) k n kept c.args.page.now.rows at.page.rows)
    s at.invariant.moved) in
    subst (λ (row : RowValue). row ≡ blank_row default_attrs (length row.cells)) (sym still)
    (c.requires.blank (at.k - 1) d (omega (arith, at.invariant.few)))

pub fit_row-requires-clause-paired : goal.fit_row-requires-clause-paired
fit_row-requires-clause-paired c =
    let at = c.loop-k in
    let n = c.args.up in
    let kept = c.args.kept.now.items in
    let inv = at.invariant in
    let len : deque_len at.kept ≡ length kept + at.k - n =
    at.kept.ok.0 ∙ (ap length inv.left ∙ omega (arith, length-take (length kept + at.k - n) kept, inv.few)) in
    let found : c.in-Some.row ≡ get_or at.kept.items (length kept + (at.k - 1) - n) c.in-Some.row
    = c.in-Some.ensures.lookup ∙ ap (λ (i : ℕ). get_or at.kept.items i c.in-Some.row) (omega (arith, len, inv.nonempty)) in
    let some : 0 < deque_len at.kept = omega (arith, c.in-Some.ensures.cases) in
    let there = last_taken (length kept + at.k - n) (length kept + (at.k - 1) - n) kept
    at.kept.items c.in-Some.row inv.left (omega (arith, len, some)) (omega (arith, inv.few)) found in
    subst IsPaired (sym c.cells.ensures)
    (last_paired (length kept + (at.k - 1) - n) kept c.in-Some.row
    (omega (arith, len, some, inv.few)) there c.requires.sound)

pub loop-k-preserved : goal.loop-k-preserved
loop-k-preserved c =
    let at = c.loop-k in
    let n = c.args.up in
    let kept = c.args.kept.now.items in
    let inv = at.invariant in
    let s : at.k ≡ (at.k - 1) + 1 = omega arith in
    let len : deque_len at.kept ≡ length kept + at.k - n =
    at.kept.ok.0 ∙ (ap length inv.left ∙ omega (arith, length-take (length kept + at.k - n) kept, inv.few)) in
    let found : c.in-Some.row ≡ get_or at.kept.items (length kept + (at.k - 1) - n) c.in-Some.row
    = c.in-Some.ensures.lookup ∙ ap (λ (i : ℕ). get_or at.kept.items i c.in-Some.row) (omega (arith, len, inv.nonempty)) in
    let some : 0 < deque_len at.kept = omega (arith, c.in-Some.ensures.cases) in
    let there = last_taken (length kept + at.k - n) (length kept + (at.k - 1) - n) kept
    at.kept.items c.in-Some.row inv.left (omega (arith, len, some)) (omega (arith, inv.few)) found in
    let row = c.in-Some.row in
    let d = blank_row default_attrs at.page.width in
    let new = resized_row (length (get_or at.page.rows (at.k - 1) d).cells) row in
    let rows : c.fit_row.new.self.rows ≡ set at.page.rows (at.k - 1) new =
    ap (λ (s : PageRowsValue). s.rows) c.fit_row.ensures
    ∙ (λ z. set at.page.rows (at.k - 1)
    (resized_row (length (get_or at.page.rows (at.k - 1) d).cells)
    (record { cells = c.cells.ensures z; wrapped = c.wrapped.ensures z }))) in
    record {
      moved =
          subst
          (λ (fresh : List RowValue). MovedInto (λ j. length kept + j - n) (at.k - 1) n kept c.args.page.now.rows fresh)
          (sym rows)
          (moved_more (λ j. length kept + j - n) (at.k - 1) n kept c.args.page.now.rows at.page.rows
          row d new (omega (arith, inv.few)) (omega (arith, inv.few, c.requires.inside)) inv.long
          (omega (arith, len, some, inv.few)) there refl
          (subst (λ (k : ℕ). MovedInto (λ j. length kept + j - n) k n kept c.args.page.now.rows at.page.rows)
          s inv.moved));
      long = ap length rows ∙ (length-set at.page.rows (at.k - 1) new ∙ inv.long);
      left =
          left_taken (length kept + at.k - n) (length kept + (at.k - 1) - n)
          kept at.kept.items c.pop_back.new.self.items inv.left (omega arith)
          (c.in-Some.ensures.rest ∙ ap (λ (m : ℕ). take m at.kept.items) (omega (arith, len, some)));
      width = ap (λ (s : PageRowsValue). s.width) c.fit_row.ensures ∙ inv.width;
      few = omega (arith, inv.few);
      nonempty = omega (arith, len, some);
    }

pub returns-clause-kept : goal.returns-clause-kept
returns-clause-kept c =
    let at = c.loop-k in
    at.invariant.left ∙ ap (λ (m : ℕ). take m c.args.kept.now.items) (omega arith)

pub returns-clause-by_index : goal.returns-clause-by_index
returns-clause-by_index c =
    let at = c.loop-k in
    let n = c.args.up in
    let kept = c.args.kept.now.items in
    let inv = at.invariant in
    moved_all (λ j. length kept + j - n) at.k n kept c.args.page.now.rows
    at.page.rows (λ j. nat_lt j n && nat_le n (length kept + j))
    (λ j h. let some = inv.nonempty in grind (arith, nat_tests)) inv.moved
