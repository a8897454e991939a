use Rattle.std.proofs.Common.{◌≡◌, ℕ, ◌+◌, ◌-◌, ◌<◌, length, take, drop, get_or, ap, subst, ◌∙◌, arith}
use Rattle.std.proofs.lemmas.List.{get_or_default}
use Rattle.vt_grid.specs.Scrollback.{grown_row}
use Rattle.vt_grid.specs.Internals.{grown_from}
use Rattle.vt_grid.proofs.Growing.{spare_first, spare_one, grown_at, grown_set, grown_whole}
use Rattle.vt_grid.proofs.scrollback.grow_in_view.Goals as goal

pub grow_row-requires-clause-spare : goal.grow_row-requires-clause-spare
grow_row-requires-clause-spare c =
    let at = c.loop-k in
    let rows = c.args.rows.now.items in
    let first = c.len-len.result - c.args.offset in
    let next = first + c.args.size.rows - (at.k + 1) in
    let inside : at.k < length rows = omega (arith, c.args.rows.now.ok.0) in
    let row : c.index_mut.result.now ≡ get_or rows at.k c.index_mut.result.now
    = c.index_mut.ensures.value
    ∙ grown_at c.args.size.cols first at.k rows at.rows.items
    c.index_mut.result.now at.invariant.begun inside at.invariant.grown in
    rw c.from-in-loop-k.ensures
    (spare_one c.args.size.cols (take next (drop (at.k + 1) rows)) at.spare.items c.index_mut.result.now
    (spare_first c.args.size.cols (first + c.args.size.rows - at.k) next at.k rows
    at.spare.items c.index_mut.result.now inside (omega arith) row at.invariant.spare))

pub loop-k-preserved : goal.loop-k-preserved
loop-k-preserved c =
    let at = c.loop-k in
    let rows = c.args.rows.now.items in
    let first = c.len-len.result - c.args.offset in
    let next = first + c.args.size.rows - (at.k + 1) in
    let inside : at.k < length rows = omega (arith, c.args.rows.now.ok.0) in
    let found : c.index_mut.result.now ≡ get_or rows at.k c.index_mut.result.now
    = c.index_mut.ensures.value
    ∙ grown_at c.args.size.cols first at.k rows at.rows.items
    c.index_mut.result.now at.invariant.begun inside at.invariant.grown in
    let other : get_or rows at.k c.index_mut.result.now ≡ get_or rows at.k c.grow_row.new.row =
    get_or_default rows at.k c.index_mut.result.now c.grow_row.new.row inside in
    let row : c.grow_row.new.row ≡ grown_row c.args.size.cols (get_or rows at.k c.grow_row.new.row)
    = rw c.from-in-loop-k.ensures at c.grow_row.ensures.row ∙ ap (grown_row c.args.size.cols) (found ∙ other) in
    record {
      grown =
          grown_set c.args.size.cols first at.k rows at.rows.items
          c.grow_row.new.row at.invariant.begun inside at.invariant.grown row;
      spare = (rw c.from-in-loop-k.ensures at c.grow_row.ensures.spare) (take next (drop (at.k + 1) rows))
          (spare_first c.args.size.cols (first + c.args.size.rows - at.k) next at.k rows
          at.spare.items c.index_mut.result.now inside (omega arith) found at.invariant.spare);
      begun = omega (arith, at.invariant.begun);
    }

pub returns : goal.returns
returns c =
    let rows = c.args.rows.now.items in
    let len : c.len-len.result ≡ length rows = c.len-len.ensures ∙ c.args.rows.now.ok.0 in
    let first = c.len-len.result - c.args.offset in
    subst (λ (n : ℕ). c.loop-k.rows.items ≡ grown_from (n - c.args.offset) c.args.size.rows c.args.size.cols rows) len
    (grown_whole c.args.size.cols first c.args.size.rows c.loop-k.k rows
    c.loop-k.rows.items (omega arith) (omega arith) c.loop-k.invariant.grown)
