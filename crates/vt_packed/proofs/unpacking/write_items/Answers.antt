use Rattle.std.proofs.Common.{◌∙◌, List, arith, refl, subst}
use Rattle.vt_packed.specs.Items.{Item, cells_of}
use Rattle.vt_packed.specs.Internals.{IsWrittenTo}
use Rattle.vt_packed.proofs.Unpacked.{written_all, written_cleared, written_none}
use Rattle.vt_packed.proofs.unpacking.write_items.Goals as goal

pub loop-column-init : goal.loop-column-init
loop-column-init c = record { len = refl; written = written_none (cells_of c.args.items.now) c.args.cells.now }

pub loop-column-preserved : goal.loop-column-preserved
loop-column-preserved c =
    let all = cells_of c.args.items.now in
    record {
      len = c.put_item-column.ensures.len ∙ c.loop-column.invariant.len;
      written =
          c.put_item-column.ensures.written all (cells_of c.next.new.self)
          (subst (λ (items : List Item). IsWrittenTo all c.loop-column.cells c.loop-column.column (cells_of items))
          c.in-Some.ensures c.loop-column.invariant.written);
    }

pub returns-in_default-clause-value : goal.returns-in_default-clause-value
returns-in_default-clause-value c = λ k _.
    let all = cells_of c.args.items.now in
    written_cleared all c.loop-column.cells c.clear_from.new.cells c.loop-column.column
    (subst (λ (items : List Item). IsWrittenTo all c.loop-column.cells c.loop-column.column (cells_of items))
    c.in_default.ensures c.loop-column.invariant.written) c.loop-column-test.true c.clear_from.ensures.before
    c.clear_from.ensures.cleared k

pub returns-clause-value : goal.returns-clause-value
returns-clause-value c = λ k h.
    written_all (cells_of c.args.items.now) c.loop-column.cells c.loop-column.column (cells_of c.loop-column.items)
    c.loop-column.invariant.written c.loop-column-test.false k (omega (arith, h, c.loop-column.invariant.len))
