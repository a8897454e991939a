-- Runs over input that is split.
use Rattle.std.proofs.Common.{ap}
use Rattle.vt_scan.specs.Automaton.{Step}
use Rattle.vt_scan.proofs.Readback.{run-append}
use Rattle.vt_scan.proofs.laws.pieces.Goals as goal

pub returns : goal.returns
returns c = record {
  state = λ s a b. ap (λ (step : Step). step.state) (run-append s a b);
  events = λ s a b. ap (λ (step : Step). step.events) (run-append s a b);
}
