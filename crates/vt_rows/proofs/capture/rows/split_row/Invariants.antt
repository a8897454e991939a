use Rattle.std.proofs.Common.{◌≡◌, ◌+◌, ◌≤◌, ℕ, List, length, encode_utf8_all}
use Rattle.std.specs.Str.Iter.{char_indices_offset, char_indices_rest}
use Rattle.vt_rows.specs.Stretches.{columns_in, ends_within}
use Rattle.vt_rows.proofs.CaptureRows.{IsRead}
use Rattle.vt_rows.proofs.capture.rows.split_row.Given as goal

-- The loop invariant: the characters read so far are the current row.
abbrev pub invariant-loop-at : goal.invariant-loop-at
invariant-loop-at l =
    (goal.iterator-loop-at).can_next l.at-iterator
    × (goal.iterator-loop-at).is_finite l.at-iterator
    × ((row : List ℕ)
    × IsRead l.width l.text row (char_indices_rest l.at-iterator)
    × (char_indices_offset l.at-iterator ≡ length (encode_utf8_all row))
    × (l.reach.columns ≡ columns_in row)
    × (l.reach.is_within ≡ ends_within row)
    × (l.reach.columns ≤ l.width + 2))
