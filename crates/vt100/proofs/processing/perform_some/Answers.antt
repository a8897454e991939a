use Rattle.std.proofs.Common.{refl, rules}
use Rattle.vt_screen.specs.Run.{state}
use Rattle.vt100.proofs.processing.perform_some.Goals as goal

pub returns : goal.returns
returns g c = record {
  done = rw c.in-Some.is (state c.perform.new.callbacks c.perform.new.screen, c.in_ok-perform.ensures.done, refl);
  stopped = search rules;
  memory = tt;
}
