use Rattle.std.proofs.Common.{◌≡◌, ◌+◌, ◌-◌, ◌≤◌, ◌∙◌, ℕ, length, get_or, sym, ap, subst, arith}
use Rattle.std.proofs.lemmas.List.{length-replicate}
use Rattle.vt_cells.specs.Attrs.{default_attrs}
use Rattle.vt_cells.specs.Cell.{default_blank}
use Rattle.vt_rows.specs.Internals.{rotation_source}
use Rattle.vt_rows.specs.Row.{RowValue, blank_row}
use Rattle.vt_grid.specs.declared.flat.Columns.{Columns}
use Rattle.vt_grid.specs.Flat.{rows_of}
use Rattle.vt_grid.specs.Internals.{given_back}
use Rattle.vt_grid.specs.PageRows.{PageRowsValue}
use Rattle.vt_grid.proofs.Flats.{flat_turned, rows_turned}
use Rattle.vt_grid.proofs.Heights.{brought_back, turned_blank}
use Rattle.vt_grid.proofs.Scrolls.{counted_turned}
use Rattle.vt_grid.proofs.page_rows.PageRows.bring_back.Goals as goal

pub invariant_of-self : goal.invariant_of-self
invariant_of-self c =
    let flat = c.self.inside.flat in
    let all = ap (λ (s : PageRowsValue). length s.rows) c.self.view_is in
    flat_turned 0 c.len-len.result (c.len-len.result - c.from-up.result) flat c.rotate.new.self
    c.self.invariant (omega arith) (omega (arith, all, c.len-len.ensures))
    c.rotate.ensures.cells c.rotate.ensures.columns c.rotate.ensures.len c.rotate.ensures.lines

pub give_back-requires-clause-inside : goal.give_back-requires-clause-inside
give_back-requires-clause-inside c = omega (
  arith,
  c.requires.inside,
  c.from-up.ensures,
  ap (λ (s : PageRowsValue). length s.rows) c.self.view_is,
  counted_turned c.self.inside.flat c.rotate.new.self c.rotate.ensures.len,
)

pub give_back-requires-clause-blank : goal.give_back-requires-clause-blank
give_back-requires-clause-blank c = λ k d h.
    let flat = c.self.inside.flat in
    let own = c.args.self.now in
    let n = c.len-len.result in
    let up = c.from-up.result in
    let all = ap (λ (s : PageRowsValue). length s.rows) c.self.view_is in
    let room : up ≤ n = omega (arith, c.requires.inside, c.from-up.ensures, c.len-len.ensures) in
    let i = k + (n - up) in
    let blank : get_or (rows_of c.rotate.new.self) k d ≡ blank_row default_attrs own.width =
    rows_turned 0 n (n - up) flat c.rotate.new.self (omega arith) (omega (arith, all, c.len-len.ensures))
    c.rotate.ensures.cells c.rotate.ensures.columns c.rotate.ensures.len c.rotate.ensures.lines k d
    (omega (arith, all, c.len-len.ensures, room, h))
    ∙ (ap (λ (j : ℕ). get_or (rows_of flat) j d) (turned_blank n up k room h)
    ∙ (ap (λ (s : PageRowsValue). get_or s.rows i d) c.self.view_is
    ∙ c.requires.blank i d (omega (arith, c.len-len.ensures, c.from-up.ensures, room))
    (omega (arith, c.len-len.ensures, room, h)))) in
    subst (λ (row : RowValue). row ≡ blank_row default_attrs (length row.cells)) (sym blank)
    (ap (blank_row default_attrs) (sym (length-replicate own.width default_blank)))

pub wrap-requires : goal.wrap-requires
wrap-requires c = omega (
  arith,
  c.requires.nonempty,
  c.len-len.ensures,
  c.give_back.ensures.len,
  ap (λ (s : PageRowsValue). length s.rows) c.self.view_is,
  counted_turned c.self.inside.flat c.rotate.new.self c.rotate.ensures.len,
)

pub returns-clause-rows : goal.returns-clause-rows
returns-clause-rows c = λ own few e.
    let flat = c.self.inside.flat in
    let old = c.args.self.now in
    let h = length old.rows in
    let n = c.len-len.result in
    let up = c.from-up.result in
    let turned = rows_of c.rotate.new.self in
    let all : length (rows_of flat) ≡ h = ap (λ (s : PageRowsValue). length s.rows) c.self.view_is in
    let count : length turned ≡ h = counted_turned flat c.rotate.new.self c.rotate.ensures.len ∙ all in
    ap (λ (s : PageRowsValue). s.rows) c.wrap.ensures
    ∙ brought_back old.width c.give_back.new.page.width h c.args.up (n - 1) c.args.above.now.rows own old.rows turned
    c.give_back.new.page.rows e few c.requires.nonempty c.requires.sound (c.give_back.ensures.len ∙ count)
    (c.give_back.ensures.width
    ∙ (ap (λ (v : Columns). v.shown) c.rotate.ensures.columns ∙ ap (λ (s : PageRowsValue). s.width) c.self.view_is))
    (ap (λ (m : ℕ). m - 1) c.len-len.ensures)
    (λ k d l.
    rows_turned 0 n (n - up) flat c.rotate.new.self (omega arith) (omega (arith, all, c.len-len.ensures))
    c.rotate.ensures.cells c.rotate.ensures.columns c.rotate.ensures.len c.rotate.ensures.lines k d
    (omega (arith, all, l))
    ∙ (λ z. get_or (c.self.view_is z).rows
    (rotation_source 0 (c.len-len.ensures z) (c.len-len.ensures z - c.from-up.ensures z) k) d))
    (λ k d l.
    c.give_back.ensures.by_index k d (omega (arith, count, l))
    ∙ ap (λ (u : ℕ). given_back u c.args.above.now.rows (get_or turned k d) k d) c.from-up.ensures)
