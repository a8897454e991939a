use Rattle.std.proofs.Common.{◌≤◌, ◌-◌, length}
use Rattle.vt_screen.proofs.ReadTexts.{AreKnownTo}
use Rattle.vt_screen.proofs.short_moves.elements.sgr_len.Given as goal

-- The loop invariant: the numbers before `end` are known, and more may follow.
abbrev pub invariant-loop-number : goal.invariant-loop-number
invariant-loop-number l = record {
  inside : l.end ≤ length l.bytes;
  known : AreKnownTo (32 - l._number) l.wanted l.bytes l.end;
}
