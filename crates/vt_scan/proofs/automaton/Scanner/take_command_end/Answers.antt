-- BEL or ESC within an operating system command.
use Rattle.vt_scan.proofs.Leading.{bell_feeds, escape_ends}
use Rattle.vt_scan.proofs.automaton.Scanner.take_command_end.Goals as goal

pub returns-then-byte-eq7-clause-fed : goal.returns-then-byte-eq7-clause-fed
returns-then-byte-eq7-clause-fed c = λ is.
    bell_feeds c.args.self.now c.begin.new.self c.args.byte c.requires c.if-byte-eq7.true c.begin.ensures

pub returns-then-byte-eq27-clause-fed : goal.returns-then-byte-eq27-clause-fed
returns-then-byte-eq27-clause-fed c = λ is.
    escape_ends c.args.self.now c.begin-then-byte-eq27.new.self c.args.byte c.requires c.if-byte-eq27.true c.begin-then-byte-eq27.ensures
