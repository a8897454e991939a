use Rattle.std.proofs.Common.{IsUtf8, chars}
use Rattle.vt_packed.specs.Internals.{IsBuiltTo}
use Rattle.vt_packed.proofs.unpacking.cell_of_text.Given as goal

-- The loop invariant: the characters that have not been read complete the glyph.
abbrev pub invariant-loop-mark : goal.invariant-loop-mark
invariant-loop-mark l = IsUtf8 l.mark-iterator.rest.now
    × IsBuiltTo l.fn.text (chars l.mark-iterator.rest.now) l.fn.attrs l.built
