use Rattle.std.proofs.Common.{ap}
use Rattle.vt100.proofs.Streams.{recorded_text}
use Rattle.vt_notes.specs.Noting.{Recorded, Records}
use Rattle.vt_notes.proofs.Runs.{recorder}
use Rattle.vt_notes.proofs.laws.recorded.Goals as goal

pub returns : goal.returns
returns c = record {
  recorder = recorder;
  text = λ rows cols capacity p q calls fresh nothing none makes main whole.
      recorded_text Records (λ r. r.text) (λ r. r.state) (λ r. r.is_whole) recorder rows cols capacity p q calls fresh
      (ap (λ (r : Recorded). r.text) nothing) (ap (λ (r : Recorded). r.state) nothing) none makes main whole;
}
