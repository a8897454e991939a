use Rattle.vt100_c.proofs.Gathering.{parts_read}
use Rattle.vt100_c.proofs.laws.parts.Goals as goal

pub returns : goal.returns
returns c = record {
  screen = λ p q parts records scan stands reads. (parts_read parts p q records scan stands reads).screen;
  scanner = λ p q parts records scan stands reads. (parts_read parts p q records scan stands reads).scanner;
  erased = λ p q parts records scan stands reads. (parts_read parts p q records scan stands reads).erased;
  records = λ p q parts records scan stands empty reads. (parts_read parts p q records scan stands reads).logged empty;
}
