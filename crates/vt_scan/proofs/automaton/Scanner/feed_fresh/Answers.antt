-- A byte when no character is incomplete.
use Rattle.std.proofs.Common.{◌∙◌, ◌≢◌, ap, sym, arith}
use Rattle.vt_scan.specs.Scanner.{ScannerValue}
use Rattle.vt_scan.proofs.Steps.{fresh_character, fresh_control, fresh_escape, fresh_begun, fresh_broken, stands_plain}
use Rattle.vt_scan.proofs.automaton.Scanner.feed_fresh.Goals as goal

pub returns-then-begin-clause-follows : goal.returns-then-begin-clause-follows
returns-then-begin-clause-follows c =
    fresh_begun _ c.args.byte c.none-then-begin.result (ap (λ (h : ScannerValue). h.kind) c.self.view_is ∙ c.requires.kind)
    c.if-begin.ensures.keeps (omega arith) (sym c.if-begin.ensures.value) c.none-then-begin.ensures

pub returns-in-27-clause-follows : goal.returns-in-27-clause-follows
returns-in-27-clause-follows c =
    fresh_escape c.args.self.now c.begin.new.self c.args.byte c.none.result c.in-27.is c.begin.ensures c.none.ensures

pub returns-in-0-to-31-clause-follows : goal.returns-in-0-to-31-clause-follows
returns-in-0-to-31-clause-follows c =
    fresh_control c.args.self.now c.args.byte c.one.result c.requires.kind c.requires.unfinished
    (omega arith) (let other : c.args.byte ≢ 0x1B = omega arith in other) c.one.ensures

pub returns-in-32-to-127-clause-follows : goal.returns-in-32-to-127-clause-follows
returns-in-32-to-127-clause-follows c =
    fresh_character c.args.self.now c.args.byte c.from.result c.one-in-32-to-127.result c.requires.kind
    c.requires.unfinished (omega arith) (omega arith) c.from.ensures c.one-in-32-to-127.ensures

pub returns-else-begin-clause-follows : goal.returns-else-begin-clause-follows
returns-else-begin-clause-follows c =
    fresh_broken _ c.args.byte c.one-in_default.result (ap (λ (h : ScannerValue). h.kind) c.self.view_is ∙ c.requires.kind)
    c.if-begin.ensures.keeps (omega arith) (sym c.if-begin.ensures.value) c.one-in_default.ensures

pub invariant_of-self : goal.invariant_of-self
invariant_of-self c = stands_plain _ (ap (λ (h : ScannerValue). h.kind) c.self.view_is ∙ c.requires.kind)

pub invariant_of-self-in_default : goal.invariant_of-self-in_default
invariant_of-self-in_default c = stands_plain _ (ap (λ (h : ScannerValue). h.kind) c.self.view_is ∙ c.requires.kind)
