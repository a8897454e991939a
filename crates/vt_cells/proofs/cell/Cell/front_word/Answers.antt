use Rattle.std.proofs.Common.{arith, refl, rules, ◌∙◌}
use Rattle.std.proofs.lemmas.Nat.{le_bytes_8}
use Rattle.vt_cells.proofs.Cells.{front_stored, first_eight}
use Rattle.vt_cells.proofs.cell.Cell.front_word.Goals as goal

pub returns : goal.returns
returns c =
    le_bytes_8 _ _ refl (search rules) c.from_le_bytes.ensures
    ∙ first_eight c.self.inside.contents (omega (arith, c.self.invariant.room))
    ∙ front_stored _ _ _ c.self.invariant c.self.view_is
