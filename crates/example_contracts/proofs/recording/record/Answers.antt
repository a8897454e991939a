use Rattle.std.proofs.Common.{◌≡◌, false, List, [], ◌∷◌, refl, sym, ap, subst, ◌∙◌}
use Rattle.std.proofs.lemmas.List.{append-nil}
use Rattle.std.specs.List.{FoldsTo}
use Rattle.vt_notes.specs.Noting.{Recorded, Records}
use Rattle.vt_scan.specs.Automaton.{start}
use Rattle.vt_screen.specs.Screen.{IsScreen, ScreenValue, fresh_screen}
use Rattle.vt_screen.specs.Streamed.{HasNoRis}
use Rattle.vt_screen.specs.CallsOfRun.{screen_in}
use Rattle.vt100.specs.Parser.{ParserValue}
use Rattle.vt100.specs.Streams.{MakesCall, ParserCall, Process, whole_text}
use Rattle.example_contracts.proofs.Sending.{fresh_parser}
use Rattle.example_contracts.proofs.recording.record.Goals as goal

pub returns-clause-text : goal.returns-clause-text
returns-clause-text c = λ none main.
    let rows = c.args.rows.value in
    let cols = c.args.cols.value in
    let output = c.args.output.now in
    let p = c.in_ok-parser.parser in
    let q = c.process.new.self in
    let calls : List ParserCall = Process output ∷ [] in
    let makes : FoldsTo (MakesCall Records) p calls q = (q, c.in_ok-process.ensures.call.ran, refl) in
    let begun = c.in_ok-parser.ensures.ground in
    let shown : p.screen ≡ fresh_screen rows cols c.args.capacity =
    ap (λ (r : ParserValue Recorded). r.screen) c.in_ok-parser.ensures.shown in
    let sound : IsScreen p.screen =
    subst (λ (s : ScreenValue). IsScreen s) c.screen.ensures.value c.size.ensures.whole in
    let fresh = fresh_parser rows cols c.args.capacity p c.args.rows.ok c.args.cols.ok sound begun shown in
    let nothing = ap (λ (r : ParserValue Recorded). r.callbacks) c.in_ok-parser.ensures.shown ∙ c.new-recorder.ensures in
    let called = c.one_text.ensures.called p q calls start c.recorded.ensures.recorder.leaves begun makes in
    let there : q.screen.is_alternate ≡ false =
    ap (λ (s : ScreenValue). s.is_alternate) (called.0 ∙ ap (λ (s : ScreenValue). screen_in start s output) shown)
    ∙ main in
    c.in_ok-text.ensures.text
    ∙ (c.recorded.ensures.text rows cols c.args.capacity p q calls fresh nothing
    (subst (HasNoRis start) (sym (append-nil output)) none) makes there c.in_ok-text.ensures.whole
    ∙ ap (whole_text rows cols) (append-nil output))
