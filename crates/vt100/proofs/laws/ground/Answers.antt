-- A parser in ground state stands for the start, so its run is the one from the start.
use Rattle.vt_scan.specs.Automaton.{start}
use Rattle.vt100.proofs.laws.ground.Goals as goal

pub returns : goal.returns
returns g c = record {
  events = λ p q bytes stands ran. (ran start stands).1;
  scanner = λ p q bytes stands ran. (ran start stands).0;
}
