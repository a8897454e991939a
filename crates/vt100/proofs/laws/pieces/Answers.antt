-- Runs over bytes that come in chunks.
use Rattle.vt100.proofs.Streams.{some_parted, some_parted_list}
use Rattle.vt100.proofs.Running.{ran_then, ran_joined}
use Rattle.vt100.proofs.laws.pieces.Goals as goal

pub returns : goal.returns
returns g c = record {
  two = λ p q r a b. ran_then g.CB.Callbacks.does p q r a b;
  list = λ p q pieces. ran_joined g.CB.Callbacks.does p q pieces;
  parted = λ p r a b. some_parted g.CB.Callbacks.does p r a b;
  parted_list = λ p r piece pieces. some_parted_list g.CB.Callbacks.does p r piece pieces;
}
