use Rattle.std.proofs.Common.{◌+◌, ℕ, ap, arith, drop, refl, subst, sym}
use Rattle.std.specs.Prelude.{Option}
use Rattle.std.proofs.lemmas.List.{get_or_read_under}
use Rattle.vt_cells.specs.Attrs.{Attrs}
use Rattle.vt_cells.specs.Cell.{default_blank}
use Rattle.vt_rows.specs.Cells.{at}
use Rattle.vt_redraw.specs.Limited.{IsEach, drawn_least}
use Rattle.vt_redraw.proofs.LeastLengths.{drawn_again, drawn_next, each_again, each_next}
use Rattle.vt_redraw.proofs.limited.drawn_least.Goals.{then-not-is_like_previous, else-not-is_like_previous}
use Rattle.vt_redraw.proofs.limited.drawn_least.Goals as goal

pub loop-col-preserved : goal.loop-col-preserved
loop-col-preserved c =
    let l = c.loop-col in
    let xs = c.args.cells.now in
    let now = c.if-not-is_like_previous in
    elim c.if-not-is_like_previous.branch [
      | then-not-is_like_previous w ↦
          let drawn = w.draw_over_blank-drawn in
          let x = w.index-cells-col.result in
          let next = drawn_next l.was drawn.result.was drawn.result.change drawn.result.each xs l.col x
          c.loop-col-test.true w.index-cells-col.is drawn.ensures.sum in
          let here = get_or_read_under xs l.col _ x default_blank w.index-cells-col.is c.loop-col-test.true refl in
          let was = ap (λ (a : Option Attrs). drawn_least a (drop (l.col + 1) xs)) w.was-is in
          record {
            sum = omega (arith, next, was, w.len-is, w.each-is, l.invariant.sum);
            small = omega (arith, drawn.ensures.small, w.len-is, w.each-is, l.invariant.small);
            short = omega (arith, drawn.ensures.small, w.each-is);
            each = λ _. each_next now.was now.each xs l.col
                (subst (λ (a : Option Attrs). IsEach a now.each (at xs l.col)) (sym w.was-is)
                (subst (λ (n : ℕ). IsEach drawn.result.was n (at xs l.col)) (sym w.each-is)
                (subst (IsEach drawn.result.was drawn.result.each) here drawn.ensures.each)));
          }
      | else-not-is_like_previous w ↦
          let like = w.if-not-is_like_previous.false in
          let head = c.is_like_previous.ensures.head like in
          let each = l.invariant.each (c.is_like_previous.ensures.some like) in
          let next = drawn_again l.was l.each xs l.col c.loop-col-test.true (c.is_like_previous.ensures.sound like) head each in
          let was = ap (λ (a : Option Attrs). drawn_least a (drop (l.col + 1) xs)) w.was-is in
          record {
            sum = omega (arith, next, was, w.len-is, w.each-is, l.invariant.sum);
            small = omega (arith, w.len-is, w.each-is, l.invariant.small, l.invariant.short);
            short = omega (arith, w.each-is, l.invariant.short);
            each = λ _. each_next now.was now.each xs l.col
                (subst (λ (a : Option Attrs). IsEach a now.each (at xs l.col)) (sym w.was-is)
                (subst (λ (n : ℕ). IsEach l.was n (at xs l.col)) (sym w.each-is)
                (each_again l.was l.each xs l.col head each)));
          }
    ]
