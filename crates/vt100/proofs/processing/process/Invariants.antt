-- The loop invariant: the bytes before the remaining ones have been read, and their erasures have been counted.
use Rattle.std.proofs.Common.{◌≡◌, ◌≤◌, ℕ, length, drop, take}
use Rattle.vt100.specs.Erasures.{CountsErasures}
use Rattle.vt100.specs.Parser.{Ran, parser_value}
use Rattle.vt100.proofs.processing.process.Given as goal

abbrev pub invariant-loop-rest : goal.invariant-loop-rest
invariant-loop-rest g l = (at : ℕ) × (at ≤ length l.bytes) × (l.rest ≡ drop at l.bytes)
    × Ran g.CB.Callbacks.does (parser_value l.fn.scanner l.fn.screen l.fn.callbacks)
    (take at l.bytes) (parser_value l.scanner l.screen l.callbacks)
    × CountsErasures l.fn.scanner (take at l.bytes) l.fn.erasures l.erasures

abbrev pub decreases-loop-rest : goal.decreases-loop-rest
decreases-loop-rest g l = length l.rest
