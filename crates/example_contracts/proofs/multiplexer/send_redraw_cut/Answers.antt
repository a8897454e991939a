use Rattle.std.proofs.Common.{sym, subst, Ok}
use Rattle.vt_screen.specs.Screen.{IsScreen, ScreenValue}
use Rattle.vt_screen.specs.Shown.{IsReader, KeepsRest, Redraws, display}
use Rattle.example_contracts.proofs.Sending.{redrawn}
use Rattle.example_contracts.proofs.multiplexer.send_redraw_cut.Goals as goal

pub returns-clause-shows : goal.returns-clause-shows
returns-clause-shows g c = λ steady plain size.
    let self = c.args.screen.now in
    redrawn self c.as_bytes.result.now (Ok tt) c.args.remote.now c.send_cut.new.remote
    (subst (Redraws (display self) (IsReader (display self)) KeepsRest)
    (sym c.as_bytes.ensures.value) c.in_ok-text.ensures.redraws) steady
    (subst (λ (s : ScreenValue). IsScreen s) c.screen.ensures.value c.size.ensures.whole)
    plain size c.in_ok-send_cut.ensures.reads
