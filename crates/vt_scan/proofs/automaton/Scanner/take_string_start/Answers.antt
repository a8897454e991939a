-- `]`, or a byte that introduces a string that is ignored, after ESC.
use Rattle.std.proofs.Common.{◌∙◌, sym}
use Rattle.vt_scan.proofs.Leading.{command_begins, skip_begins}
use Rattle.vt_scan.proofs.automaton.Scanner.take_string_start.Goals as goal

pub returns-then-byte-eq93-clause-fed : goal.returns-then-byte-eq93-clause-fed
returns-then-byte-eq93-clause-fed c = λ is.
    command_begins c.args.self.now c.begin.new.self c.args.byte c.requires c.if-byte-eq93.true c.begin.ensures

pub returns-then-is_skipped-clause-fed : goal.returns-then-is_skipped-clause-fed
returns-then-is_skipped-clause-fed c = λ is.
    skip_begins c.args.self.now c.begin-then-is_skipped.new.self c.args.byte c.requires
    (sym c.is_skip_start-is_skipped.ensures ∙ c.if-is_skipped.true) c.begin-then-is_skipped.ensures
