use Rattle.std.proofs.Common.{◌≡◌, ◌↔◌, true, List, ℕ, Bor, [], ◌∷◌, map, refl, ap, subst, ◌∙◌}
use Rattle.vt_scan.specs.Automaton.{start}
use Rattle.vt_screen.specs.Contents.{contents_of}
use Rattle.vt_screen.specs.Screen.{ScreenValue, fresh_screen}
use Rattle.vt_screen.specs.CallsOfRun.{screen_in}
use Rattle.vt100.specs.Parser.{ParserValue, pieces_joined}
use Rattle.vt100.specs.Streams.{ParserCall, Process}
use Rattle.example_contracts.proofs.screen_test.pieces_show.Goals as goal

pub returns-clause-shows : goal.returns-clause-shows
returns-clause-shows c =
    let p = c.in_ok-parser.parser in
    let q = c.read_pieces.new.parser in
    let bytes : List ℕ = pieces_joined (map (λ (piece : Bor (List ℕ)). piece.now) c.args.pieces.now) in
    let calls : List ParserCall = Process bytes ∷ [] in
    let shown : p.screen ≡ fresh_screen c.args.rows.value c.args.cols.value 0 =
    ap (λ (r : ParserValue (Unit {0})). r.screen) c.in_ok-parser.ensures.shown in
    let called = c.one_text.ensures.called p q calls start (λ call old new before after t. t.1)
    c.in_ok-parser.ensures.ground (q, c.in_ok-read_pieces.ensures.ran, refl) in
    let same : c.screen.result.now ≡ screen_in start (fresh_screen c.args.rows.value c.args.cols.value 0) bytes
    = c.screen.ensures.value ∙ (called.0 ∙ ap (λ (s : ScreenValue). screen_in start s bytes) shown) in
    subst (λ (s : ScreenValue). (c.in_ok-holds.holds ≡ true) ↔ (contents_of s ≡ c.args.text.now))
    same c.in_ok-holds.ensures.shows
