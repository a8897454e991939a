use Rattle.std.proofs.Common.{◌≡◌, ◌+◌, ◌-◌, ◌++◌, ◌∙◌, ℕ, length, take, drop, ap, arith}
use Rattle.std.proofs.lemmas.List.{drop-drop, length-take, length-drop}
use Rattle.std.proofs.lemmas.Slice.{take-put_mid_below}
use Rattle.std.proofs.Math.Seq.{drop-append_seam}
use borrow.Rule.Slice.PartMut.{put_mid}
use Rattle.vt_cells.specs.Attrs.{default_attrs}
use Rattle.vt_rows.specs.Cells.{blanks}
use Rattle.vt_rows.specs.Internals.{end_blanked}
use Rattle.vt_grid.proofs.Widths.{cut_is}
use Rattle.vt_grid.proofs.page_rows.widths.cut.Goals as goal

pub returns : goal.returns
returns c =
    let cells = c.args.cells.now in
    let w = c.args.width in
    let m = c.max.result in
    let n = m - w in
    let own = c.clear.new.cells in
    let fits = c.requires.fits in
    let count : length (take n (drop w cells)) ≡ n =
    omega (arith, length-take n (drop w cells), length-drop w cells, c.max.ensures, c.requires.inside, fits) in
    let new : own ≡ blanks default_attrs n = c.clear.ensures ∙ (λ z. blanks (c.new.ensures z) (count z)) in
    let first : take w (put_mid w n cells own) ≡ take w cells =
    take-put_mid_below w n cells own w (omega arith) (omega (arith, fits)) in
    let size : w ≡ length (take w cells) = omega (arith, length-take w cells, fits) in
    let end : w + n ≡ m = omega (arith, c.max.ensures) in
    let rest : drop w (put_mid w n cells own) ≡ own ++ drop n (drop w cells) =
    ap (λ (j : ℕ). drop j (take w cells ++ (own ++ drop n (drop w cells)))) size
    ∙ drop-append_seam (take w cells) (own ++ drop n (drop w cells)) in
    let last : drop n (drop w cells) ≡ drop m cells = drop-drop n w cells ∙ ap (λ (j : ℕ). drop j cells) end in
    (λ z. (c.blank_end.ensures ∙ ap end_blanked first) z ++ (rest ∙ (λ y. new y ++ last y)) z)
    ∙ cut_is w m cells c.requires.paired (omega (arith, c.max.ensures)) (omega (arith, c.max.ensures, c.requires.inside, fits))
    (λ k h. c.requires.blank k (omega (arith, c.max.ensures, h)))
