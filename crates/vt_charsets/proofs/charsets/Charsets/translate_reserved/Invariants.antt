-- The translation of the remaining bytes completes that of all bytes, and there is room for it.
use Rattle.std.proofs.Common.{length, ◌+◌, ◌*◌, ◌≤◌, vec_capacity, vec_len}
use Rattle.vt_charsets.proofs.Joined.{Left}
use Rattle.vt_charsets.proofs.charsets.Charsets.translate_reserved.Given as goal

abbrev pub invariant-loop-rest : goal.invariant-loop-rest
invariant-loop-rest l = record {
  left : Left l.fn.self l.fn.bytes l.fn.sink.items l.self l.sink.items l.rest;
  room : vec_len l.sink + 3 * length l.rest ≤ vec_capacity l.sink;
}

abbrev pub decreases-loop-rest : goal.decreases-loop-rest
decreases-loop-rest l = length l.rest
