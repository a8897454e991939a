-- Equality of cells as `==` computes it, in a form that the laws of the standard library apply to. This equality agrees
-- with `same_cell`.
use Rattle.std.specs.Prelude.{ℕ, Bool, nat_eq, bytes_eq, if◌then◌else◌}
use mathlib.Core.Bool.{beq}
use Rattle.std.specs.Ordering.{on, eq_of_both}
use Rattle.std.specs.Cmp.{IsEquivalence}
use Rattle.std.specs.Cmp.{bool_eq_equiv}
use Rattle.std.proofs.lemmas.Cmp.{nat_eq_equiv, nat_list_eq_equiv, on_equiv, and_equiv}
use Rattle.vt_cells.specs.Cell.{CellValue, blank, glyph, right_half, text_of, attrs_of}
use Rattle.vt_cells.specs.contracts.attrs.IntensityPartialEq.TheImpl as intensity
use Rattle.vt_cells.specs.contracts.attrs.IntensityEq.TheImpl.Laws.{laws-law as intensity_laws}
use Rattle.vt_cells.specs.contracts.color.ColorPartialEq.TheImpl as colors
use Rattle.vt_cells.specs.contracts.color.ColorEq.TheImpl.Laws.{laws-law as color_laws}
use Rattle.vt_cells.specs.Attrs.{Attrs}

-- Equality of attributes, as `==` computes it.
abbrev pub attrs_eq : Attrs → Attrs → Bool
attrs_eq =
    eq_of_both (on (λ a. a.fgcolor) (colors.ghosts).eq) (eq_of_both (on (λ a. a.bgcolor) (colors.ghosts).eq)
    (eq_of_both (on (λ a. a.intensity) (intensity.ghosts).eq) (eq_of_both (on (λ a. a.italic) beq)
    (eq_of_both (on (λ a. a.underline) beq) (on (λ a. a.inverse) beq)))))

-- Equality of attributes, as `==` computes it, is an equivalence relation.
pub attrs_eq_equiv : IsEquivalence attrs_eq
attrs_eq_equiv =
    and_equiv (on_equiv (λ a. a.fgcolor) color_laws) (and_equiv (on_equiv (λ a. a.bgcolor) color_laws)
    (and_equiv (on_equiv (λ a. a.intensity) intensity_laws) (and_equiv (on_equiv (λ a. a.italic) bool_eq_equiv)
    (and_equiv (on_equiv (λ a. a.underline) bool_eq_equiv) (on_equiv (λ a. a.inverse) bool_eq_equiv)))))

-- A distinct number for each kind of cell: blank, narrow glyph, wide glyph and continuation cell.
abbrev pub kind_of : CellValue → ℕ
kind_of (blank attrs) = 0
kind_of (glyph text wide attrs) = if wide then 2 else 1
kind_of right_half = 3

-- Equality of cells, as `==` computes it.
abbrev pub cell_eq : CellValue → CellValue → Bool
cell_eq = eq_of_both (on kind_of nat_eq) (eq_of_both (on text_of bytes_eq) (on attrs_of attrs_eq))

-- Equality of cells, as `==` computes it, is an equivalence relation.
pub cell_eq_equiv : IsEquivalence cell_eq
cell_eq_equiv =
    and_equiv (on_equiv kind_of nat_eq_equiv)
    (and_equiv (on_equiv text_of nat_list_eq_equiv) (on_equiv attrs_of attrs_eq_equiv))
