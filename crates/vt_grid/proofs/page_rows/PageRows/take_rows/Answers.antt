use Rattle.std.proofs.Common.{refl, ◌≡◌, ℕ, ◌+◌, ◌-◌, ◌<◌, ◌∙◌, ◌&&◌, List, length, min}
use Rattle.std.proofs.Common.{set, get_or, sym, ap, subst, nat_le, nat_lt, arith}
use Rattle.std.proofs.lemmas.Bool.Decides.{nat_tests}
use Rattle.std.proofs.lemmas.List.{length-set, get_or_default}
use Rattle.vt_cells.specs.Attrs.{default_attrs}
use Rattle.vt_rows.specs.Row.{RowValue, blank_row, resized_row}
use Rattle.vt_grid.specs.PageRows.{PageRowsValue}
use Rattle.vt_grid.proofs.Scrolls.{MovedInto, moved_none, moved_more, moved_all, still_blank}
use Rattle.vt_grid.proofs.page_rows.PageRows.take_rows.Goals as goal

pub loop-k-init : goal.loop-k-init
loop-k-init c =
    let old = c.args.self.now.rows in
    let from = c.args.rows.now.rows in
    let k : c.min-k.result ≡ min (length old - c.args.up) (length from - c.args.down) =
    omega (arith, c.min-k.ensures, c.len.ensures, c.saturating_sub.ensures, c.len-2.ensures) in
    record {
      moved =
          moved_none (λ j. c.args.down + (j - c.args.up)) (c.args.up + c.min-k.result)
          (c.args.up + min (length old - c.args.up) (length from - c.args.down)) from old (omega (arith, k));
      long = refl;
      width = refl;
      few = omega (arith, k);
    }

pub row-row-requires-clause-inside : goal.row-row-requires-clause-inside
row-row-requires-clause-inside c = omega (arith, c.loop-k.invariant.few)

pub overflow_add-up : goal.overflow_add-up
overflow_add-up c = omega (arith, c.loop-k.invariant.few, c.len.ensures, c.len.type_inv, c.requires.inside)

pub fit_row-requires-clause-blank : goal.fit_row-requires-clause-blank
fit_row-requires-clause-blank c =
    let at = c.loop-k in
    let up = c.args.up in
    let k = at.k - 1 in
    let old = c.args.self.now.rows in
    let d = blank_row default_attrs at.self.width in
    let n = up + min (length old - up) (length c.args.rows.now.rows - c.args.down) in
    let s : up + at.k ≡ (up + k) + 1 = omega arith in
    let still = still_blank (λ j. c.args.down + (j - up)) (up + k) n c.args.rows.now.rows old at.self.rows d
    (subst (λ (i : ℕ). MovedInto (λ j. c.args.down + (j - up)) i n c.args.rows.now.rows old at.self.rows)
    s at.invariant.moved) in
    subst (λ (row : RowValue). row ≡ blank_row default_attrs (length row.cells)) (sym still)
    (c.requires.blank (up + k) d (omega arith) (omega (arith, at.invariant.few)))

pub loop-k-preserved : goal.loop-k-preserved
loop-k-preserved c =
    let at = c.loop-k in
    let inv = at.invariant in
    let up = c.args.up in
    let k = at.k - 1 in
    let old = c.args.self.now.rows in
    let from = c.args.rows.now.rows in
    let source : ℕ → ℕ = λ j. c.args.down + (j - up) in
    let d = blank_row default_attrs at.self.width in
    let n = up + min (length old - up) (length from - c.args.down) in
    let s : up + at.k ≡ (up + k) + 1 = omega arith in
    let place : c.args.down + k ≡ c.args.down + (up + k - up) = omega arith in
    let there : c.args.down + (up + k - up) < length from = omega (arith, inv.few) in
    let row = c.row-row.result in
    let found : row ≡ get_or from (c.args.down + (up + k - up)) row =
    c.row-row.ensures
    ∙ (ap (λ (i : ℕ). get_or from i (blank_row default_attrs c.args.rows.now.width)) place
    ∙ get_or_default from (c.args.down + (up + k - up)) (blank_row default_attrs c.args.rows.now.width) row there) in
    let new = resized_row (length (get_or at.self.rows (up + k) d).cells) row in
    let rows : c.fit_row.new.self.rows ≡ set at.self.rows (up + k) new =
    ap (λ (s : PageRowsValue). s.rows) c.fit_row.ensures
    ∙ (λ z. set at.self.rows (up + k)
    (resized_row (length (get_or at.self.rows (up + k) d).cells)
    (record { cells = c.cells.ensures.value z; wrapped = c.wrapped.ensures z }))) in
    record {
      moved = subst (λ (fresh : List RowValue). MovedInto source (up + k) n from old fresh) (sym rows)
          (moved_more source (up + k) n from old at.self.rows row d new
          (omega (arith, inv.few)) (omega (arith, inv.few)) inv.long there found refl
          (subst (λ (i : ℕ). MovedInto source i n from old at.self.rows) s inv.moved));
      long = ap length rows ∙ (length-set at.self.rows (up + k) new ∙ inv.long);
      width = ap (λ (s : PageRowsValue). s.width) c.fit_row.ensures ∙ inv.width;
      few = omega (arith, inv.few);
    }

pub returns-clause-by_index : goal.returns-clause-by_index
returns-clause-by_index c =
    let at = c.loop-k in
    let up = c.args.up in
    let old = c.args.self.now.rows in
    let from = c.args.rows.now.rows in
    moved_all (λ j. c.args.down + (j - up)) (up + at.k) (up + min (length old - up) (length from - c.args.down))
    from old at.self.rows (λ j. nat_le up j && nat_lt (c.args.down + (j - up)) (length from))
    (λ j h. grind (arith, nat_tests)) at.invariant.moved
