use Rattle.std.proofs.Common.{◌≡◌, ◌-◌, ◌≤◌, length}
use Rattle.vt_rows.specs.Internals.{pieces_from}
use Rattle.vt_rows.proofs.capture.plain.BasicFormattedToPlainIndexedIterator.next.Given as goal

-- The loop invariant: the text skipped so far contains no piece.
abbrev pub invariant-loop-self : goal.invariant-loop-self
invariant-loop-self l =
    (length l.self-inside.rest.now ≤ l.self-inside.len)
    × (pieces_from (l.self-inside.len - length l.self-inside.rest.now) l.self-inside.rest.now
    ≡ pieces_from (l.initial.self-inside.len - length l.initial.self-inside.rest.now) l.initial.self-inside.rest.now)

abbrev pub decreases-loop-self : goal.decreases-loop-self
decreases-loop-self l = length l.self-inside.rest.now
