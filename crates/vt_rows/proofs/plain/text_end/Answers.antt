use Rattle.std.proofs.Common.{List, ◌≡◌, ℕ, ◌-◌, ◌<◌, length, take, ◌∙◌, sym, ap, arith}
use Rattle.std.proofs.lemmas.List.{get_or_default, length-take-le}
use Rattle.vt_cells.specs.Cell.{CellValue, default_blank, is_glyph}
use Rattle.vt_rows.specs.Cells.{at}
use Rattle.vt_rows.proofs.Edits.{at-past}
use Rattle.vt_rows.proofs.RowTexts.{up_to_is}
use Rattle.vt_rows.proofs.Rows.{at-trimmed}
use Rattle.vt_rows.proofs.plain.text_end.Goals as goal

pub loop-len-init : goal.loop-len-init
loop-len-init c =
    let cells = c.args.cells.now in
    let n = c.trimmed_len-len.result in
    let inside = c.trimmed_len-len.ensures.inside in
    let size = length-take-le n cells inside in (
      inside,
      λ k le. ap is_glyph (sym (at-trimmed cells k)
          ∙ (ap (λ (ys : List CellValue). at ys k) (sym c.trimmed_len-len.ensures.value)
          ∙ at-past (take n cells) k (omega (arith, size, le)))),
    )

pub returns-else-not-has_contents-clause-value : goal.returns-else-not-has_contents-clause-value
returns-else-not-has_contents-clause-value c =
    let cells = c.args.cells.now in
    let len = c.loop-len.len in
    up_to_is cells len c.loop-len.invariant.0 c.loop-len.invariant.1 (λ j e.
    let lt : len - 1 < length cells = omega (arith, e, c.loop-len.invariant.0) in
    let i : j ≡ len - 1 = omega (arith, e) in
    ap (λ (m : ℕ). is_glyph (at cells m)) i
    ∙ (ap is_glyph (sym (c.index-cells-len.is
    ∙ get_or_default cells (len - 1) c.index-cells-len.result default_blank lt))
    ∙ (sym c.has_contents.ensures ∙ c.if-not-has_contents.false)))

pub returns-after-loop-len-clause-value : goal.returns-after-loop-len-clause-value
returns-after-loop-len-clause-value c =
    up_to_is c.args.cells.now c.loop-len.len c.loop-len.invariant.0 c.loop-len.invariant.1
    (λ j e. absurd (omega (arith, e, c.loop-len-test.false)))
