-- A character that is reported or printed.
use Rattle.std.proofs.Common.{sym, ◌∙◌}
use Rattle.std.proofs.lemmas.Bool.{false≢true}
use Rattle.vt_screen.specs.Calls.{UnhandledChar}
use Rattle.vt100.proofs.Stepping.{reported_steps, called}
use Rattle.vt100.proofs.perform.print.Goals as goal

pub returns-then-is_reported : goal.returns-then-is_reported
returns-then-is_reported g c =
    rw (reported_steps c.args.character (sym c.is_reported.ensures ∙ c.if-is_reported.true))
    (record {
      done = called g.CB.Callbacks.does (UnhandledChar c.args.character) _ _ _ _ c.unhandled_char.ensures;
      stopped = λ e. absurd (false≢true e);
      memory = tt;
    })
