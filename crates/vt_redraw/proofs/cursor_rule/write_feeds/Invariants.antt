use Rattle.std.proofs.Common.{◌≡◌, ◌++◌}
use Rattle.std.specs.Prelude.{replicate}
use Rattle.vt_cells.specs.Op.{LineFeed, bytes_of_all}
use Rattle.vt_redraw.proofs.cursor_rule.write_feeds.Given as goal

abbrev pub invariant-loop : goal.invariant-loop
invariant-loop g l = g.S.Sink.text l.sink ≡ g.S.Sink.text l.initial.sink ++ bytes_of_all (replicate l.counter LineFeed)
