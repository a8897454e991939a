-- The loop invariant: the terminal has received the part of the text that was sent so far.
use Rattle.example_contracts.specs.Remote.{IsCut}
use Rattle.example_contracts.proofs.multiplexer.send_cut.Given as goal

abbrev pub invariant-loop-size : goal.invariant-loop-size
invariant-loop-size g l = IsCut l.fn.text l.rest l.fn.remote l.remote
