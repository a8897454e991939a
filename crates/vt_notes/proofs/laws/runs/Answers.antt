-- The screen and the notes after a run.
use Rattle.vt_notes.proofs.Runs.{done_run}
use Rattle.vt_notes.proofs.laws.runs.Goals as goal

pub returns : goal.returns
returns c = record {
  shown = λ old new bytes scan ran stands. (done_run old new bytes scan ran stands).shown;
  complete = λ old new bytes scan ran stands. (done_run old new bytes scan ran stands).complete;
  noted = λ old new bytes scan ran stands. (done_run old new bytes scan ran stands).noted;
}
