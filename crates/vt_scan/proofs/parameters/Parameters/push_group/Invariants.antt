-- The loop invariant: the digits before the current one are read, and the number of a new group is theirs.
use Rattle.std.proofs.Common.{◌≡◌, ◌+◌, ◌-◌, ◌≤◌, ◌++◌, ◌∷◌, [], List, ℕ, length, set, take}
use Rattle.vt_scan.specs.Internals.{groups_from}
use Rattle.vt_scan.specs.Parameters.{table_of}
use Rattle.vt_scan.specs.Texts.{IsParameterText}
use Rattle.vt_scan.proofs.ParameterNumbers.{table}
use Rattle.vt_scan.proofs.parameters.Parameters.push_group.Given as goal

abbrev pub invariant-loop-count : goal.invariant-loop-count
invariant-loop-count l = record {
  inside : l.count ≤ length l.bytes;
  parameters : IsParameterText (take l.count l.bytes);
  read : (text : List ℕ) → l.fn.self ≡ table_of text →
      table (groups_from 0 (take (l.self-inside.closed + 1) (set l.self-inside.ends l.self-inside.closed l.place))
      (l.place + 1) (set l.self-inside.numbers l.place l.number)) l.self-inside.is_cut
      ≡ table_of ((text ++ 0x3B ∷ []) ++ take l.count l.bytes);
}

abbrev pub decreases-loop-count : goal.decreases-loop-count
decreases-loop-count l = length l.bytes - l.count
