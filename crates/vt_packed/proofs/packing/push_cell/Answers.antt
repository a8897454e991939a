use Rattle.std.proofs.Common.{◌≡◌, ◌+◌, ◌≤◌, ◌++◌, ◌∷◌, ◌∙◌, [], List, ℕ, Bool, ap, ap₂, append-nil, arith, length, subst, sym}
use Rattle.std.specs.Prelude.{vec_capacity}
use Rattle.std.proofs.lemmas.List.{length-append}
use Rattle.vt_cells.specs.Attrs.{Attrs}
use Rattle.vt_cells.proofs.Cells.{text_short}
use Rattle.vt_packed.specs.declared.runs.Run.{Run}
use Rattle.vt_packed.specs.Internals.{pushed, runs_with}
use Rattle.vt_packed.specs.Items.{stored_text, style_of}
use Rattle.vt_packed.specs.Packed.{packed_text}
use Rattle.vt_packed.proofs.PackedCells.{runs_with-half, runs_with-item, text_of-half, text_of-item}
use Rattle.vt_packed.proofs.packing.push_cell.Goals as goal

pub returns-then-is_wide_continuation-clause-runs : goal.returns-then-is_wide_continuation-clause-runs
returns-then-is_wide_continuation-clause-runs c =
    sym (runs_with-half c.args.runs.now.items c.args.cell.now
    (sym c.is_wide_continuation.ensures ∙ c.if-is_wide_continuation.true))

pub returns-then-is_wide_continuation-clause-text : goal.returns-then-is_wide_continuation-clause-text
returns-then-is_wide_continuation-clause-text c =
    let text = c.args.text.now.items in
    sym (ap (λ (bytes : List ℕ). text ++ bytes)
    (text_of-half c.args.cell.now (sym c.is_wide_continuation.ensures ∙ c.if-is_wide_continuation.true))
    ∙ append-nil text)

pub push_style-requires : goal.push_style-requires
push_style-requires c =
    let same : runs_with c.args.runs.now.items c.args.cell.now
    ≡ pushed c.args.runs.now.items (style_of c.attrs.result c.is_wide.result) =
    runs_with-item c.args.runs.now.items c.args.cell.now
    (sym c.is_wide_continuation.ensures ∙ c.if-is_wide_continuation.false)
    ∙ ap₂ (λ (attrs : Attrs) (wide : Bool). pushed c.args.runs.now.items (style_of attrs wide)) (sym c.attrs.ensures)
    (sym c.is_wide.ensures) in
    subst (λ (rs : List Run). length rs ≤ vec_capacity c.args.runs.now) same c.requires.runs

pub push_text-requires-clause-short : goal.push_text-requires-clause-short
push_text-requires-clause-short c =
    omega (
      arith,
      text_short c.args.cell.now c.contents-contents.ensures.sound,
      c.as_bytes.ensures.len,
      ap length c.contents-contents.ensures.value,
    )

pub push_text-requires-clause-room : goal.push_text-requires-clause-room
push_text-requires-clause-room c =
    let text = c.args.text.now in
    let own = c.as_bytes.ensures.value ∙ c.contents-contents.ensures.value in
    let item = text_of-item c.args.cell.now (sym c.is_wide_continuation.ensures ∙ c.if-is_wide_continuation.false) in
    let len = ap (λ (bytes : List ℕ). length bytes) (ap stored_text own ∙ sym item) in
    let sum = length-append text.items (packed_text (c.args.cell.now ∷ [])) in
    omega (arith, c.requires.text, len, sum, text.ok.0)

pub returns-clause-runs : goal.returns-clause-runs
returns-clause-runs c =
    c.push_style.ensures.runs
    ∙ (ap₂ (λ (attrs : Attrs) (wide : Bool). pushed c.args.runs.now.items (style_of attrs wide)) c.attrs.ensures
    c.is_wide.ensures
    ∙ sym (runs_with-item c.args.runs.now.items c.args.cell.now
    (sym c.is_wide_continuation.ensures ∙ c.if-is_wide_continuation.false)))

pub returns-clause-text : goal.returns-clause-text
returns-clause-text c =
    let text = c.args.text.now.items in
    let own = c.as_bytes.ensures.value ∙ c.contents-contents.ensures.value in
    c.push_text.ensures.ok
    ∙ ap (λ (bytes : List ℕ). text ++ bytes)
    (ap stored_text own
    ∙ sym (text_of-item c.args.cell.now (sym c.is_wide_continuation.ensures ∙ c.if-is_wide_continuation.false)))
