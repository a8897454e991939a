use Rattle.std.proofs.Common.{arith, ◌∙◌, refl}
use Rattle.vt_cells.proofs.Glyphs.{two_bytes, three_bytes, four_bytes, add_two, add_three, add_four}
use Rattle.vt_cells.proofs.cell.making.push_char.Goals as goal

pub returns-then-code-lt2048-clause-text : goal.returns-then-code-lt2048-clause-text
returns-then-code-lt2048-clause-text c =
    add_two _ _ _ _ _ c.push_byte-lead.ensures.text c.push_byte-then-code-lt2048.ensures.text
    ∙ rw (c.low_bits.ensures, two_bytes c.args.c (omega arith) (omega arith)) refl

pub returns-then-code-lt2048-clause-len : goal.returns-then-code-lt2048-clause-len
returns-then-code-lt2048-clause-len c = rw (two_bytes c.args.c (omega arith) (omega arith)) (omega arith)

pub returns-then-code-lt65536-clause-text : goal.returns-then-code-lt65536-clause-text
returns-then-code-lt65536-clause-text c =
    add_three _ _ _ _ _ _ _ c.push_byte-lead-then-code-lt65536.ensures.text
    c.push_byte-second.ensures.text c.push_byte-then-code-lt65536.ensures.text
    ∙ rw (
      c.low_bits-then-code-lt65536.ensures,
      c.low_bits-then-code-lt65536-2.ensures,
      three_bytes c.args.c (omega arith) (omega arith),
    ) refl

pub returns-then-code-lt65536-clause-len : goal.returns-then-code-lt65536-clause-len
returns-then-code-lt65536-clause-len c = rw (three_bytes c.args.c (omega arith) (omega arith)) (omega arith)

pub returns-else-code-lt65536-clause-text : goal.returns-else-code-lt65536-clause-text
returns-else-code-lt65536-clause-text c =
    add_four _ _ _ _ _ _ _ _ _ c.push_byte-lead-else-code-lt65536.ensures.text
    c.push_byte-second-else-code-lt65536.ensures.text
    c.push_byte-third.ensures.text c.push_byte-else-code-lt65536.ensures.text
    ∙ rw (
      c.low_bits-else-code-lt65536.ensures,
      c.low_bits-else-code-lt65536-2.ensures,
      c.low_bits-else-code-lt65536-3.ensures,
      four_bytes c.args.c (omega arith),
    ) refl

pub returns-else-code-lt65536-clause-len : goal.returns-else-code-lt65536-clause-len
returns-else-code-lt65536-clause-len c = rw (four_bytes c.args.c (omega arith)) (omega arith)
