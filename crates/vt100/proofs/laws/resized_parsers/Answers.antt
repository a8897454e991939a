use Rattle.vt100.proofs.PlainParsers.{resized_cols, resized_parser, resized_rows}
use Rattle.vt100.proofs.laws.resized_parsers.Goals as goal

pub returns : goal.returns
returns g c = record { plain = resized_parser; rows = resized_rows; cols = resized_cols }
