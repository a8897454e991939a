use Rattle.std.proofs.Common.{◌≡◌, ◌↔◌, true, List, [], ◌∷◌, refl, ap, subst, ◌∙◌}
use Rattle.vt_scan.specs.Automaton.{start}
use Rattle.vt_screen.specs.Contents.{contents_of}
use Rattle.vt_screen.specs.Screen.{ScreenValue, fresh_screen}
use Rattle.vt_screen.specs.CallsOfRun.{screen_in}
use Rattle.vt100.specs.Parser.{ParserValue}
use Rattle.vt100.specs.Streams.{ParserCall, Process}
use Rattle.example_contracts.proofs.screen_test.output_shows.Goals as goal

pub returns-clause-shows : goal.returns-clause-shows
returns-clause-shows c =
    let p = c.in_ok-parser.parser in
    let q = c.process.new.self in
    let calls : List ParserCall = Process c.args.output.now ∷ [] in
    let shown : p.screen ≡ fresh_screen c.args.rows.value c.args.cols.value 0 =
    ap (λ (r : ParserValue (Unit {0})). r.screen) c.in_ok-parser.ensures.shown in
    let called = c.one_text.ensures.called p q calls start (λ call old new before after t. t.1)
    c.in_ok-parser.ensures.ground (q, c.in_ok-process.ensures.call.ran, refl) in
    let same : c.screen.result.now
    ≡ screen_in start (fresh_screen c.args.rows.value c.args.cols.value 0) c.args.output.now
    = c.screen.ensures.value ∙ (called.0 ∙ ap (λ (s : ScreenValue). screen_in start s c.args.output.now) shown) in
    subst (λ (s : ScreenValue). (c.in_ok-holds.holds ≡ true) ↔ (contents_of s ≡ c.args.text.now))
    same c.in_ok-holds.ensures.shows
