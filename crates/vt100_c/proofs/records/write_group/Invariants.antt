-- The loop invariant: the numbers before the current one are written after the initial bytes.
use Rattle.std.proofs.Common.{◌≡◌, ◌++◌, take}
use Rattle.std.specs.Int.{w16, to_le_bytes}
use Rattle.std.specs.List.{flat_map}
use Rattle.vt100_c.proofs.records.write_group.Given as goal

abbrev pub invariant-loop-number : goal.invariant-loop-number
invariant-loop-number l =
    l.joined.items ≡ l.initial.joined.items ++ flat_map (to_le_bytes w16) (take l.number-index l.group)
