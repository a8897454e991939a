-- Runs keep the size of the screen.
use Rattle.vt100.proofs.PlainParsers.{quiet_leaves, some_ran_size, some_stopped_size}
use Rattle.vt100.proofs.laws.sizes.Goals as goal

pub returns : goal.returns
returns g c = record {
  ran = some_ran_size g.CB.Callbacks.does;
  stopped = some_stopped_size g.CB.Callbacks.does;
  nobody = quiet_leaves;
}
