use Rattle.std.proofs.Common.{◌≡◌, ◌+◌, ◌-◌, ◌<◌, ◌∷◌, ◌∙◌, [], List, ap, arith, length, sym}
use Rattle.std.proofs.lemmas.List.{get_or_default, length-append}
use Rattle.vt_packed.specs.Items.{style_of}
use Rattle.vt_packed.specs.Packed.{extends, run_of}
use Rattle.vt_packed.specs.declared.runs.Run.{Run}
use Rattle.vt_packed.proofs.Styles.{pushed_begun, pushed_first, pushed_joined}
use Rattle.vt_packed.proofs.runs.push_style.Goals as goal

pub push_reserved-requires : goal.push_reserved-requires
push_reserved-requires c =
    let runs = c.args.runs.now in
    let style = style_of c.args.attrs c.args.wide in
    let none : length runs.items ≡ 0 = omega (arith, runs.ok.0, c.len-len.ensures, c.if-len-eq0.true) in
    let more = ap (λ (rs : List Run). length rs) (pushed_first runs.items style none) in
    let sum = length-append runs.items (run_of style ∷ []) in
    omega (arith, more, sum, c.requires, runs.ok.0)

pub returns-then-len-eq0-clause-runs : goal.returns-then-len-eq0-clause-runs
returns-then-len-eq0-clause-runs c =
    let runs = c.args.runs.now in
    let none : length runs.items ≡ 0 = omega (arith, runs.ok.0, c.len-len.ensures, c.if-len-eq0.true) in
    c.push_reserved.ensures.items ∙ pushed_first runs.items (style_of c.args.attrs c.args.wide) none

pub returns-then-is_extended-clause-runs : goal.returns-then-is_extended-clause-runs
returns-then-is_extended-clause-runs c =
    let runs = c.args.runs.now in
    let style = style_of c.args.attrs c.args.wide in
    let k = c.len-len.result - 1 in
    let run = c.index_mut.result.now in
    let last : k + 1 ≡ length runs.items = omega (arith, runs.ok.0, c.len-len.ensures, c.if-len-eq0.false) in
    let inside : k < length runs.items = omega (arith, last) in
    let same = c.index.ensures
    ∙ (get_or_default runs.items k c.index.result.now run inside ∙ sym c.index_mut.ensures.value) in
    pushed_joined runs.items k run style last c.index_mut.ensures.value
    (ap (extends style) (sym same) ∙ (sym c.is_extended.ensures ∙ c.if-is_extended.true))

pub push_reserved-requires-2 : goal.push_reserved-requires-2
push_reserved-requires-2 c =
    let runs = c.args.runs.now in
    let style = style_of c.args.attrs c.args.wide in
    let k = c.len-len.result - 1 in
    let last : k + 1 ≡ length runs.items = omega (arith, runs.ok.0, c.len-len.ensures, c.if-len-eq0.false) in
    let begun = pushed_begun runs.items k c.index.result.now style last c.index.ensures
    (sym c.is_extended.ensures ∙ c.if-is_extended.false) in
    let more = ap (λ (rs : List Run). length rs) begun in
    let sum = length-append runs.items (run_of style ∷ []) in
    omega (arith, more, sum, c.requires, runs.ok.0)

pub returns-clause-runs : goal.returns-clause-runs
returns-clause-runs c =
    let runs = c.args.runs.now in
    let style = style_of c.args.attrs c.args.wide in
    let k = c.len-len.result - 1 in
    let last : k + 1 ≡ length runs.items = omega (arith, runs.ok.0, c.len-len.ensures, c.if-len-eq0.false) in
    c.push_reserved-2.ensures.items
    ∙ pushed_begun runs.items k c.index.result.now style last c.index.ensures
    (sym c.is_extended.ensures ∙ c.if-is_extended.false)
