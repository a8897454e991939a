use Rattle.std.proofs.Common.{sym, subst}
use Rattle.vt_screen.specs.Screen.{IsScreen, ScreenValue}
use Rattle.vt_screen.specs.Shown.{IsReaderOf, KeepsRest, Redraws, display}
use Rattle.example_contracts.proofs.Sending.{differing}
use Rattle.example_contracts.proofs.multiplexer.send_short_difference.Goals as goal

pub returns-clause-shows : goal.returns-clause-shows
returns-clause-shows g c = λ steady was.
    let self = c.args.screen.now in
    differing self c.args.prev.now c.as_bytes.result.now c.process.result c.args.remote.now c.process.new.self
    (subst (Redraws (display self) (IsReaderOf (display self) (display c.args.prev.now)) KeepsRest)
    (sym c.as_bytes.ensures.value) c.in_ok-text.ensures.redraws) steady
    c.requires (subst (λ (s : ScreenValue). IsScreen s) c.screen.ensures.value c.size.ensures.whole)
    was c.process.ensures.call.quiet
