use Rattle.std.proofs.Common.{◌≡◌, ◌+◌, ◌≤◌, map, length, take, subst, sym, arith}
use Rattle.std.proofs.lemmas.List.{length-take}
use Rattle.vt_scan.specs.Automaton.{Character}
use Rattle.vt_screen.specs.Screen.{ScreenValue}
use Rattle.vt_screen.specs.Texts.{screen_after_text}
use Rattle.vt100.specs.Parser.{Ran, invokes_none, parser_value}
use Rattle.vt100.proofs.Erasing.{characters_erase_nothing}
use Rattle.vt100.proofs.PrintedRuns.{narrow_folds}
use Rattle.vt100.proofs.Running.{known_ran}
use Rattle.vt100.proofs.processing.print_narrow_fitting.Goals as goal

pub returns : goal.returns
returns c =
    let held = c.args.scanner.now in
    let screen = c.args.screen.now in
    let run = c.narrow_text-count.result in
    let found = c.narrow_text-count.ensures in
    let read = take run.1 c.args.bytes.now in
    let text = take run.0 c.narrow_text-count.new.text in
    let size : length text ≡ run.0 = omega (arith, length-take run.0 c.narrow_text-count.new.text, found.room) in
    let room : screen.page.column + length text ≤ screen.page.width =
    omega (arith, size, found.room, found.same, c.requires.room, c.if-count-eq0.false) in
    let before = parser_value held screen tt in
    record {
      inside = found.inside;
      ran =
          subst (λ (after : ScreenValue). Ran invokes_none before read (parser_value held after tt))
          (sym c.print_narrow_text.ensures)
          (known_ran invokes_none before (parser_value held (screen_after_text text screen) tt) read (map Character text)
          found.fed (narrow_folds invokes_none text tt screen found.narrow room));
      keeps = characters_erase_nothing held held read text found.fed;
    }
