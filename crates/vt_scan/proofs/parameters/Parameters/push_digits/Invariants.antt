-- The loop invariant: the digits before the current one are read, and the last number is theirs.
use Rattle.std.proofs.Common.{◌≡◌, ◌+◌, ◌-◌, ◌≤◌, ◌++◌, List, ℕ, length, set, take}
use Rattle.vt_scan.specs.Internals.{groups_from}
use Rattle.vt_scan.specs.Parameters.{table_of}
use Rattle.vt_scan.specs.Texts.{IsParameterText}
use Rattle.vt_scan.proofs.ParameterNumbers.{table}
use Rattle.vt_scan.proofs.parameters.Parameters.push_digits.Given as goal

abbrev pub invariant-loop-count : goal.invariant-loop-count
invariant-loop-count l = record {
  inside : l.count ≤ length l.bytes;
  parameters : IsParameterText (take l.count l.bytes);
  last : l.self-inside.len ≡ l.last + 1;
  read : (text : List ℕ) → l.fn.self ≡ table_of text →
      table (groups_from 0 (take l.self-inside.closed l.self-inside.ends) l.self-inside.len
      (set l.self-inside.numbers l.last l.number)) l.self-inside.is_cut
      ≡ table_of (text ++ take l.count l.bytes);
}

abbrev pub decreases-loop-count : goal.decreases-loop-count
decreases-loop-count l = length l.bytes - l.count
