-- An operating system command is read from its bytes alone.
use Rattle.std.proofs.Common.{◌≡◌, ◌∙◌, ◌++◌, ap, arith, take, rules}
use Rattle.vt_scan.specs.Scanner.{ScannerValue}
use Rattle.vt_scan.proofs.Leading.{command_feeds, command_turn}
use Rattle.vt_scan.proofs.Steps.{stands_in_command}
use Rattle.vt_scan.proofs.automaton.Scanner.collect_text.Goals as goal

pub invariant_of-self : goal.invariant_of-self
invariant_of-self c = stands_in_command _ (ap (λ (h : ScannerValue). h.kind) c.self.view_is ∙ c.requires)

pub invariant_of-self-2 : goal.invariant_of-self-2
invariant_of-self-2 c = stands_in_command _ (ap (λ (h : ScannerValue). h.kind) c.self.view_is ∙ c.requires)

pub returns-then-is_err-clause-text : goal.returns-then-is_err-clause-text
returns-then-is_err-clause-text c = λ _.
    command_turn c.args.self.now.kind c.args.bytes.now c.text_len-count.result c.requires
    (omega (arith, c.if-count-eq0.false)) c.text_len-count.ensures.inside c.text_len-count.ensures.text

pub returns-clause-fed : goal.returns-clause-fed
returns-clause-fed c =
    let text = take c.text_len-count.result c.args.bytes.now in
    let more : c.extend_from_slice.new.self.items ≡ c.self.inside.text.items ++ text = search rules in
    command_feeds c.args.self.now _ text c.requires
    (ap (λ (h : ScannerValue). h.kind) c.self.view_is ∙ c.requires)
    (more ∙ ap (λ (h : ScannerValue). h.text ++ text) c.self.view_is) c.text_len-count.ensures.text
