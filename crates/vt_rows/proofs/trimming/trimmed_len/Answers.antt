use Rattle.std.proofs.Common.{◌≡◌, ℕ, ◌-◌, ◌+◌, ◌<◌, length, inl, inr, ◌∙◌, sym, ap, arith}
use Rattle.std.specs.List.{slice_range}
use Rattle.std.proofs.lemmas.Bool.{cases_eq}
use Rattle.std.proofs.lemmas.List.{get_or_default}
use Rattle.vt_cells.specs.Cell.{default_blank, is_default_blank}
use Rattle.vt_rows.specs.Cells.{at}
use Rattle.vt_rows.proofs.Rows.{trimmed_is, default_same, eight_more}
use Rattle.vt_rows.proofs.trimming.trimmed_len.Goals as goal

pub loop-len-preserved : goal.loop-len-preserved
loop-len-preserved c =
    let len = c.loop-len.len in
    let whole : len - 8 + 8 ≡ len = omega arith in (
      omega arith,
      eight_more c.args.cells.now (len - 8)
          (ap (λ (n : ℕ). slice_range c.args.cells.now (len - 8) n) whole
          ∙ c.eight_default.ensures c.if-eight_default.true)
          (λ k le. c.loop-len.invariant.1 k (omega arith)),
    )

pub loop-len-2-preserved : goal.loop-len-2-preserved
loop-len-2-preserved c = (
  omega arith,
  λ k le. elim (cases_eq (k + 1) c.loop-len-2.len) [
    | inl last ↦
        let lt : c.loop-len-2.len - 1 < length c.args.cells.now = omega arith in
        let i : k ≡ c.loop-len-2.len - 1 = omega arith in
        ap (λ (j : ℕ). at c.args.cells.now j) i
        ∙ (sym (c.index-cells-len.is
        ∙ get_or_default c.args.cells.now (c.loop-len-2.len - 1) c.index-cells-len.result default_blank lt)
        ∙ default_same c.index-cells-len.result (sym c.is_default.ensures ∙ c.if-is_default.true))
    | inr more ↦ c.loop-len-2.invariant.1 k (omega arith)
  ],
)

pub returns-else-is_default-clause-value : goal.returns-else-is_default-clause-value
returns-else-is_default-clause-value c =
    trimmed_is c.args.cells.now c.loop-len-2.len c.loop-len-2.invariant.0 c.loop-len-2.invariant.1 (λ j e.
    let lt : c.loop-len-2.len - 1 < length c.args.cells.now = omega arith in
    let i : j ≡ c.loop-len-2.len - 1 = omega arith in
    ap (λ (m : ℕ). is_default_blank (at c.args.cells.now m)) i
    ∙ (ap is_default_blank (sym (c.index-cells-len.is
    ∙ get_or_default c.args.cells.now (c.loop-len-2.len - 1) c.index-cells-len.result default_blank lt))
    ∙ (sym c.is_default.ensures ∙ c.if-is_default.false)))

pub returns-after-loop-len-2-clause-value : goal.returns-after-loop-len-2-clause-value
returns-after-loop-len-2-clause-value c =
    trimmed_is c.args.cells.now c.loop-len-2.len c.loop-len-2.invariant.0
    c.loop-len-2.invariant.1 (λ j e. absurd (omega arith))
