use Rattle.std.proofs.Common.{sym, subst}
use Rattle.vt_screen.specs.Screen.{IsScreen, ScreenValue}
use Rattle.vt_screen.specs.Shown.{IsReader, KeepsRest, Redraws, display}
use Rattle.example_contracts.proofs.Sending.{redrawn}
use Rattle.example_contracts.proofs.multiplexer.send_redraw.Goals as goal

pub returns-clause-shows : goal.returns-clause-shows
returns-clause-shows g c = λ steady plain size.
    let self = c.args.screen.now in
    redrawn self c.as_bytes.result.now c.process.result c.args.remote.now c.process.new.self
    (subst (Redraws (display self) (IsReader (display self)) KeepsRest)
    (sym c.as_bytes.ensures.value) c.in_ok-text.ensures.redraws) steady
    (subst (λ (s : ScreenValue). IsScreen s) c.screen.ensures.value c.size.ensures.whole)
    plain size c.process.ensures.call.quiet
