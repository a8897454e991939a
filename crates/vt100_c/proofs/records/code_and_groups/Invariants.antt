-- The loop invariant: the groups before the current one are written after the character.
use Rattle.std.proofs.Common.{◌≡◌, ◌++◌, map, take}
use Rattle.std.specs.Int.{w32, to_le_bytes}
use Rattle.std.specs.List.{flat_map}
use Rattle.vt100_c.specs.Records.{group_of}
use Rattle.vt100_c.proofs.records.code_and_groups.Given as goal

abbrev pub invariant-loop-group : goal.invariant-loop-group
invariant-loop-group l =
    l.joined.items
    ≡ to_le_bytes w32 l.fn.code ++ flat_map group_of (map (λ group. group.now) (take l.group-index l.groups))
