use Rattle.std.proofs.Common.{◌≡◌, ℕ, ◌+◌, ◌*◌, ◌≤◌, List, map, length, take, subst, sym, arith}
use Rattle.std.proofs.lemmas.List.{length-take, take-take}
use Rattle.vt_scan.specs.Automaton.{Character}
use Rattle.vt_scan.specs.Scanner.{FeedsAll}
use Rattle.vt_screen.specs.Screen.{ScreenValue}
use Rattle.vt_screen.specs.Texts.{screen_after_text}
use Rattle.vt100.specs.Parser.{Ran, invokes_none, parser_value}
use Rattle.vt100.proofs.Erasing.{characters_erase_nothing}
use Rattle.vt100.proofs.PrintedRuns.{wide_folds}
use Rattle.vt100.proofs.Running.{known_ran}
use Rattle.vt100.proofs.processing.print_wide_some.Goals as goal

pub returns : goal.returns
returns c =
    let held = c.args.scanner.now in
    let screen = c.args.screen.now in
    let bytes = c.args.bytes.now in
    let count = c.wide_text-count.result in
    let most = c.min-most.result in
    let text = take count c.wide_text-count.new.text in
    let found = c.wide_text-count.ensures in
    let read = take (3 * count) bytes in
    let size : length text ≡ count = omega (arith, length-take count c.wide_text-count.new.text, found.room) in
    let within : 3 * count ≤ most = omega (arith, found.inside, length-take most bytes) in
    let room : screen.page.column + 2 * length text ≤ screen.page.width =
    omega (arith, within, size, c.min-most.ensures, c.room.ensures) in
    let fed : FeedsAll held read held (map Character text) =
    subst (λ (bs : List ℕ). FeedsAll held bs held (map Character text))
    (take-take (3 * count) most bytes within) found.fed in
    let inside : 3 * count ≤ length bytes = omega (arith, within, c.min-most.ensures) in
    let before = parser_value held screen tt in
    record {
      inside = inside;
      ran =
          subst (λ (after : ScreenValue). Ran invokes_none before read (parser_value held after tt))
          (sym c.print_wide_text.ensures)
          (known_ran invokes_none before (parser_value held (screen_after_text text screen) tt) read (map Character text)
          fed (wide_folds invokes_none text tt screen found.wide room));
      keeps = characters_erase_nothing held held read text fed;
    }
