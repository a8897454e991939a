use Rattle.std.proofs.Common.{ap, arith}
use Rattle.vt_cells.proofs.Cells.{head_stored, other_words, same_words}
use Rattle.vt_cells.proofs.cell.Cell.has_text_of.Goals as goal

pub returns-then-front_word : goal.returns-then-front_word
returns-then-front_word c =
    other_words _ _ _ _ c.front_word.type_inv c.front_word-2.type_inv
    c.front_word.ensures c.front_word-2.ensures c.if-front_word.true

pub returns-then-not-is_long : goal.returns-then-not-is_long
returns-then-not-is_long c =
    let len = ap (λ h. h.shape.len) (head_stored _ _ _ c.self.invariant c.self.view_is) in
    same_words _ _ _ _ c.front_word.ensures c.front_word-2.ensures c.if-front_word.false
    c.requires (omega (arith, len, c.is_long.ensures.short c.if-not-is_long.true))
