use Rattle.std.proofs.Common.{subst}
use Rattle.vt_screen.specs.Screen.{IsScreen, ScreenValue}
use Rattle.vt_mirror.specs.Watching.{ReadsText}
use Rattle.std.specs.Prelude.{List, ℕ}
use Rattle.example_contracts.proofs.Viewing.{read_at_once}
use Rattle.example_contracts.proofs.mirroring.read_text.Goals as goal

pub returns-clause-reads : goal.returns-clause-reads
returns-clause-reads g c =
    subst (λ (text : List ℕ). ReadsText text c.args.terminal.now c.process.new.self) c.as_bytes.ensures.value
    (read_at_once c.as_bytes.result.now c.process.result c.args.terminal.now c.process.new.self
    (subst (λ (s : ScreenValue). IsScreen s) c.screen.ensures.value c.size.ensures.whole) c.process.ensures.call.quiet)
