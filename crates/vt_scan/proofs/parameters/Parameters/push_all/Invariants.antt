-- The loop invariant: the bytes before the current one are read.
use Rattle.std.proofs.Common.{◌≡◌, ◌-◌, ◌≤◌, ◌++◌, List, ℕ, length, take}
use Rattle.vt_scan.specs.Parameters.{table_of}
use Rattle.vt_scan.specs.Texts.{IsParameterText}
use Rattle.vt_scan.proofs.parameters.Parameters.push_all.Given as goal

abbrev pub invariant-loop-count : goal.invariant-loop-count
invariant-loop-count l = record {
  inside : l.count ≤ length l.bytes;
  parameters : IsParameterText (take l.count l.bytes);
  read : (text : List ℕ) → l.fn.self ≡ table_of text → l.self ≡ table_of (text ++ take l.count l.bytes);
}

abbrev pub decreases-loop-count : goal.decreases-loop-count
decreases-loop-count l = length l.bytes - l.count
