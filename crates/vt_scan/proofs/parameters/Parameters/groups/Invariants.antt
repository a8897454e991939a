-- The loop invariant: the groups found so far, followed by those from index `start` on, are all groups.
use Rattle.std.proofs.Common.{◌≡◌, ◌++◌, length, take, drop}
use Rattle.vt_scan.specs.Internals.{Ascends, groups_from}
use Rattle.vt_scan.proofs.parameters.Parameters.groups.Given as goal

abbrev pub invariant-loop-i : goal.invariant-loop-i
invariant-loop-i l =
    (length l.groups ≡ l.i)
    × Ascends l.start (drop l.i (take l.self-inside.closed l.self-inside.ends)) l.self-inside.len
    × (l.groups
    ++ groups_from l.start (drop l.i (take l.self-inside.closed l.self-inside.ends))
    l.self-inside.len l.self-inside.numbers
    ≡ l.self.groups)
