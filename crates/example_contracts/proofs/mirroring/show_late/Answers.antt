use Rattle.std.proofs.Common.{◌∙◌, ap, subst, sym}
use Rattle.vt_screen.specs.Screen.{IsScreen, ScreenValue}
use Rattle.std.specs.Prelude.{Ok, Option}
use Rattle.vt100.specs.Parser.{Ran, does_nothing}
use Rattle.vt_mirror.specs.Calls.{Asks, default_options}
use Rattle.vt_mirror.specs.Mirror.{ViewersValue, next_number}
use Rattle.vt_mirror.specs.declared.update.Update.{Update}
use Rattle.example_contracts.proofs.Viewing.{late_shows}
use Rattle.example_contracts.proofs.mirroring.show_late.Goals as goal

pub returns-clause-read : goal.returns-clause-read
returns-clause-read g c =
    let asks = subst (λ (o : Option Update). Asks default_options c.join.new.self c.in_ok-viewer.viewer (Ok o) c.update.new.self)
    c.in-Some.is c.in_ok-answer.ensures.call in
    subst (Ran does_nothing c.args.mirror.now.parser c.args.output.now)
    (sym (asks.answers.parser ∙ c.join.ensures.parser)) c.in_ok-process.ensures.call.parser.ran

pub returns-clause-shows : goal.returns-clause-shows
returns-clause-shows g c = λ fresh plain steady.
    late_shows c.viewers.ensures.shows c.args.mirror.now c.process.new.self c.join.new.self
    c.update.new.self c.args.output.now c.process.result c.in_ok-viewer.viewer default_options c.in-Some.update
    c.args.terminal.now c.take_update.new.terminal fresh
    (subst (λ (s : ScreenValue). IsScreen s) c.screen.ensures.value c.size.ensures.whole)
    plain c.process.ensures.call c.join.ensures.parser c.in_ok-viewer.ensures.call
    (subst (λ (o : Option Update). Asks default_options c.join.new.self c.in_ok-viewer.viewer (Ok o) c.update.new.self)
    c.in-Some.is c.in_ok-answer.ensures.call)
    c.in_ok-take_update.ensures.takes steady

pub returns-clause-number : goal.returns-clause-number
returns-clause-number g c =
    c.in_ok-viewer.ensures.call.number ∙ ap (λ (v : ViewersValue). next_number v.last) c.process.ensures.call.viewers

pub returns-clause-joined : goal.returns-clause-joined
returns-clause-joined g c =
    (subst (λ (o : Option Update). Asks default_options c.join.new.self c.in_ok-viewer.viewer (Ok o) c.update.new.self)
    c.in-Some.is c.in_ok-answer.ensures.call).answers.puts.here
