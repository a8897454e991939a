use Rattle.std.proofs.Common.{sym, subst, Ok}
use Rattle.vt_screen.specs.Screen.{IsScreen, ScreenValue}
use Rattle.vt_screen.specs.Shown.{IsReaderOf, KeepsRest, Redraws, display}
use Rattle.example_contracts.proofs.Sending.{differing}
use Rattle.example_contracts.proofs.multiplexer.send_difference_cut.Goals as goal

pub returns-clause-shows : goal.returns-clause-shows
returns-clause-shows g c = λ steady was.
    let self = c.args.screen.now in
    differing self c.args.prev.now c.as_bytes.result.now (Ok tt) c.args.remote.now c.send_cut.new.remote
    (subst (Redraws (display self) (IsReaderOf (display self) (display c.args.prev.now)) KeepsRest)
    (sym c.as_bytes.ensures.value) c.in_ok-text.ensures.redraws) steady
    c.requires (subst (λ (s : ScreenValue). IsScreen s) c.screen.ensures.value c.size.ensures.whole)
    was c.in_ok-send_cut.ensures.reads
