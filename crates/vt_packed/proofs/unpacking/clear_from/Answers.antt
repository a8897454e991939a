use Rattle.std.proofs.Common.{arith, inl, inr, length}
use Rattle.std.proofs.lemmas.Bool.{cases_lt}
use Rattle.vt_rows.proofs.Edits.{at-past}
use Rattle.vt_packed.proofs.unpacking.clear_from.Goals as goal

pub returns-clause-cleared : goal.returns-clause-cleared
returns-clause-cleared c = λ j le. elim (cases_lt j (length c.args.cells.now)) [
  | inl lt ↦ c.loop-k.invariant.cleared j le (omega arith)
  | inr past ↦ at-past c.loop-k.cells j (omega (arith, c.loop-k.invariant.len))
]
