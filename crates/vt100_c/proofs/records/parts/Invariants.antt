-- The loop invariant: the strings before the current one are written, each after its length.
use Rattle.std.proofs.Common.{◌≡◌, map, take}
use Rattle.std.specs.List.{flat_map}
use Rattle.vt100_c.specs.Records.{part_of}
use Rattle.vt100_c.proofs.records.parts.Given as goal

abbrev pub invariant-loop-text : goal.invariant-loop-text
invariant-loop-text l = l.joined.items ≡ flat_map part_of (map (λ text. text.now) (take l.text-index l.texts))
