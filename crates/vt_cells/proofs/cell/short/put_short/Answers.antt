use Rattle.std.proofs.Common.{List, ℕ, ◌∙◌, ap, sym, subst}
use Rattle.vt_cells.specs.Internals.{IsStored, cell_of_parts}
use Rattle.vt_cells.proofs.Cells.{front_put}
use Rattle.vt_cells.proofs.cell.short.put_short.Goals as goal

pub invariant_of-cell : goal.invariant_of-cell
invariant_of-cell c =
    subst (IsStored c.new.inside.head)
    (sym (c.put_word.ensures ∙ front_put _ _ _ _ _ _ _ c.new.invariant c.new.view_is c.requires.new c.cell.invariant
    c.cell.view_is c.requires.old c.front_word.ensures))
    c.new.invariant

pub returns : goal.returns
returns c =
    ap (λ (bytes : List ℕ). cell_of_parts c.new.inside.head bytes)
    (c.put_word.ensures ∙ front_put _ _ _ _ _ _ _ c.new.invariant c.new.view_is c.requires.new c.cell.invariant
    c.cell.view_is c.requires.old c.front_word.ensures)
    ∙ c.new.view_is
