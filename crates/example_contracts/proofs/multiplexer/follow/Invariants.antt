-- The loop invariant: the terminal has received the diffs sent so far.
use Rattle.std.proofs.Common.{take}
use Rattle.example_contracts.specs.Remote.{HasFollowed}
use Rattle.example_contracts.proofs.multiplexer.follow.Given as goal

abbrev pub invariant-loop-next : goal.invariant-loop-next
invariant-loop-next g l = HasFollowed l.fn.first (take l.next-index l.nexts) l.prev l.fn.remote l.remote
