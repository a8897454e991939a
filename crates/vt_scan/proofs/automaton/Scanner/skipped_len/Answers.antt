-- The bytes of an ignored string have no events.
use Rattle.std.proofs.Common.{sym, ap, ◌∙◌, take}
use Rattle.vt_scan.specs.Scanner.{ScannerValue}
use Rattle.vt_scan.proofs.Leading.{skip_feeds}
use Rattle.vt_scan.proofs.automaton.Scanner.skipped_len.Goals as goal

pub returns-in-Skip-clause-fed : goal.returns-in-Skip-clause-fed
returns-in-Skip-clause-fed c =
    skip_feeds c.args.self.now (take c.unended_len.result c.args.bytes.now)
    (sym (ap (λ (h : ScannerValue). h.kind) c.self.view_is) ∙ c.in-Skip.is) c.unended_len.ensures.unended
