use Rattle.std.proofs.Common.{◌≡◌, ◌+◌, ◌∷◌, ◌++◌, [], true, false, length, sym, ap, ap₂, ◌∙◌, arith}
use Rattle.std.specs.Str.Iter.{char_indices_rest}
use Rattle.std.specs.Char.{encode_utf8}
use Rattle.std.proofs.lemmas.List.{length-append}
use Rattle.vt_rows.specs.CaptureRows.{ends_row, overflows}
use Rattle.vt_rows.specs.Internals.{rows_of}
use Rattle.vt_rows.specs.Stretches.{columns_added, is_within_after}
use Rattle.vt_rows.proofs.CaptureRows.{row_ended, row_full, row_goes_on, row_last, front_part}
use Rattle.vt_rows.proofs.CaptureRows.{after_line_end, back_part, boundary_after, line_end}
use Rattle.vt_rows.proofs.CaptureRows.{ends_within-more, columns_in-more, bound_kept, length_more}
use Rattle.vt_rows.proofs.capture.rows.split_row.Goals as goal

pub range_from-requires : goal.range_from-requires
range_from-requires c positive =
    let inv = c.loop-at.invariant.2 in
    let steps = c.in-Some.ensures.steps in
    let place = steps.0 ∙ inv.2 in
    let ends : ends_row inv.0 c.in-Some.c ≡ true = rw inv.4 at (sym c.is_row_end.ensures ∙ c.if-is_row_end.true) in
    boundary_after c.args.text.now inv.0 _ _ c.in-Some.c c.in-Some.at
    inv.1.parts inv.1.utf8 steps.1 place (line_end inv.0 c.in-Some.c ends)

pub returns-then-is_row_end : goal.returns-then-is_row_end
returns-then-is_row_end c =
    let inv = c.loop-at.invariant.2 in
    let steps = c.in-Some.ensures.steps in
    let place = steps.0 ∙ inv.2 in
    let ends : ends_row inv.0 c.in-Some.c ≡ true = rw inv.4 at (sym c.is_row_end.ensures ∙ c.if-is_row_end.true) in
    let front = c.range.ensures.value ∙ front_part c.args.text.now _ _ c.in-Some.at inv.1.parts place in
    let back = c.range_from.ensures.value
    ∙ after_line_end c.args.text.now inv.0 _ _ c.in-Some.c c.in-Some.at
    inv.1.parts steps.1 place (line_end inv.0 c.in-Some.c ends) in
    row_ended c.args.width c.args.text.now inv.0 _ _ c.in-Some.c inv.1 steps.1 ends
    ∙ ap₂ (λ first rest. first ∷ rows_of c.args.width rest) (sym front) (sym back)

pub returns-then-is_overflow : goal.returns-then-is_overflow
returns-then-is_overflow c =
    let inv = c.loop-at.invariant.2 in
    let steps = c.in-Some.ensures.steps in
    let place = steps.0 ∙ inv.2 in
    let goes : ends_row inv.0 c.in-Some.c ≡ false = rw inv.4 at (sym c.is_row_end.ensures ∙ c.if-is_row_end.false) in
    let full : overflows c.args.width inv.0 c.in-Some.c ≡ true =
    rw (inv.3, inv.4) at (sym c.is_overflow.ensures ∙ c.if-is_overflow.true) in
    let front =
    c.range-then-is_overflow.ensures.value ∙ front_part c.args.text.now _ _ c.in-Some.at inv.1.parts place in
    let back =
    c.range_from-then-is_overflow.ensures.value ∙ back_part c.args.text.now _ _ c.in-Some.at inv.1.parts place in
    row_full c.args.width c.args.text.now inv.0 _ _ c.in-Some.c inv.1 steps.1 goes full
    ∙ ap₂ (λ first rest. first ∷ rows_of c.args.width rest) (sym front) (sym back)

pub loop-at-preserved : goal.loop-at-preserved
loop-at-preserved c =
    let inv = c.loop-at.invariant.2 in
    let steps = c.in-Some.ensures.steps in
    let can = c.loop-at.invariant.0 in
    let goes : ends_row inv.0 c.in-Some.c ≡ false = rw inv.4 at (sym c.is_row_end.ensures ∙ c.if-is_row_end.false) in
    let fits : overflows c.args.width inv.0 c.in-Some.c ≡ false =
    rw (inv.3, inv.4) at (sym c.is_overflow.ensures ∙ c.if-is_overflow.false) in
    let sizes = ap length steps.1 ∙ length-append (encode_utf8 c.in-Some.c) (char_indices_rest c.next.new.self) in
    let columns = c.with-reach.ensures.columns
    ∙ ap₂ (λ used within. used + columns_added within c.in-Some.c) inv.3 inv.4
    ∙ sym (columns_in-more inv.0 c.in-Some.c) in
    let within = c.with-reach.ensures.within ∙ ap (λ b. is_within_after b c.in-Some.c) inv.4
    ∙ sym (ends_within-more inv.0 c.in-Some.c) in
    let place = steps.2 ∙ ap (λ n. n + length (encode_utf8 c.in-Some.c)) inv.2 ∙ sym (length_more inv.0 c.in-Some.c) in
    let least = bound_kept c.args.width inv.0 c.in-Some.c fits (rw inv.3 at inv.5) in (
      omega (arith, sizes, steps.2, can),
      tt,
      (
        inv.0 ++ c.in-Some.c ∷ [],
        row_goes_on c.args.width c.args.text.now inv.0 _ _ c.in-Some.c inv.1 steps.1 goes fits,
        place,
        columns,
        within,
        rw (sym columns) at least,
      ),
    )

pub returns : goal.returns
returns c =
    let inv = c.loop-at.invariant.2 in
    row_last c.args.width c.args.text.now inv.0 _ inv.1 c.in-None.ensures.steps.0
