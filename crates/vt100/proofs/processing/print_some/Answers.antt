use Rattle.std.proofs.Common.{◌+◌, ◌<◌, ◌≤◌, ℕ, List, length, get_or, take, inl, inr, refl, subst, sym, arith}
use Rattle.std.specs.Prelude.{All}
use Rattle.std.proofs.lemmas.List.{length-take, take-take, take_more}
use Rattle.vt_scan.specs.Scanner.{ReadsItself}
use Rattle.vt_scan.proofs.Steps.{text_feeds}
use Rattle.vt_screen.specs.Screen.{ScreenValue}
use Rattle.vt_screen.specs.Texts.{screen_after_text}
use Rattle.vt100.specs.Parser.{Ran, invokes_none, parser_value, stage}
use Rattle.vt100.proofs.Erasing.{first_counts, text_erases_nothing}
use Rattle.vt100.proofs.PrintedRuns.{printable_of, some_taken, text_ran}
use Rattle.vt100.proofs.Running.{stopped_at_first, byte_ran, one_character, text_answer, some_read, stopped_in}
use Rattle.vt100.proofs.Running.{stopped_within}
use Rattle.vt100.proofs.processing.print_some.Given as given
use Rattle.vt100.proofs.processing.print_some.Goals as goal
use Rattle.vt100.proofs.processing.print_some.Goals.{After-text_len-count}

pub returns-in-Err-clause-read : goal.returns-in-Err-clause-read
returns-in-Err-clause-read g c =
    let does = g.CB.Callbacks.does in
    let bytes = c.args.bytes.now in
    let held = c.args.scanner.now in
    let before = parser_value held c.args.screen.now c.args.callbacks.now in
    let now = parser_value held c.print_apart.new.screen c.print_apart.new.callbacks in
    let byte = get_or bytes 0 0 in
    let code = c.from.result in
    let itself = c.requires.itself in
    let feeds = text_answer held byte code (text_feeds held byte itself.0 itself.1 itself.2 (omega (arith, itself.3)))
    c.from.ensures in
    let stops = inl (c.in-Err.ensures.stopped refl) in
    stopped_in does before now bytes 0
    (inr (stopped_within does before before now held bytes 0 (one_character code) c.requires.nonempty
    (λ s stands. (stands, refl)) feeds stops))
    (stopped_at_first does before now held bytes (one_character code) c.requires.nonempty feeds stops)

pub returns-in-Ok-clause-read : goal.returns-in-Ok-clause-read
returns-in-Ok-clause-read g c =
    let held = c.args.scanner.now in
    let before = parser_value held c.args.screen.now c.args.callbacks.now in
    let now = parser_value held c.print_apart.new.screen c.print_apart.new.callbacks in
    let byte = get_or c.args.bytes.now 0 0 in
    let code = c.from.result in
    let itself = c.requires.itself in
    let feeds = text_feeds held byte itself.0 itself.1 itself.2 (omega (arith, itself.3)) in
    some_read g.CB.Callbacks.does before now c.args.bytes.now 1 c.requires.nonempty
    (subst (λ (bytes : List ℕ). Ran g.CB.Callbacks.does before bytes now)
    (sym (take_more c.args.bytes.now 0 0 c.requires.nonempty))
    (byte_ran g.CB.Callbacks.does before now byte (one_character code)
    (text_answer held byte code feeds c.from.ensures) (stage now, c.in-Ok.ensures.done, refl)))

-- At least one byte is printed.
some_text : (g : given.Over) (c : After-text_len-count g) → 0 < c.text_len-count.result
some_text g c =
    some_taken c.args.scanner.now c.args.bytes.now c.min-fitting.result c.text_len-count.result
    (omega (arith, c.min-fitting.ensures, c.if-room-eq0.false, c.requires.nonempty)) c.requires.nonempty
    c.requires.itself c.text_len-count.ensures.longest

-- The bytes that are printed are plain characters.
plain_text : (g : given.Over) (c : After-text_len-count g) →
    All (ReadsItself c.args.scanner.now) (take c.text_len-count.result c.args.bytes.now)
plain_text g c =
    let count = c.text_len-count.result in
    let fitting = c.min-fitting.result in
    let inside : count ≤ fitting =
    omega (arith, length-take fitting c.args.bytes.now, c.text_len-count.ensures.inside) in
    subst (λ (text : List ℕ). All (ReadsItself c.args.scanner.now) text)
    (take-take count fitting c.args.bytes.now inside) c.text_len-count.ensures.itself

pub print_text-requires-clause-nonempty : goal.print_text-requires-clause-nonempty
print_text-requires-clause-nonempty g c =
    let some = some_text g (goal.at.print_text-requires-clause-nonempty g c).After-text_len-count in
    let cut = length-take c.min-fitting.result c.args.bytes.now in
    omega (arith, length-take c.text_len-count.result c.args.bytes.now, cut, c.text_len-count.ensures.inside, some)

pub returns-clause-progress : goal.returns-clause-progress
returns-clause-progress g c = some_text g (goal.at.returns-clause-progress g c).After-text_len-count

pub print_text-requires-clause-printable : goal.print_text-requires-clause-printable
print_text-requires-clause-printable g c =
    printable_of c.args.scanner.now (take c.text_len-count.result c.args.bytes.now)
    (plain_text g (goal.at.print_text-requires-clause-printable g c).After-text_len-count)

pub returns-clause-read : goal.returns-clause-read
returns-clause-read g c =
    let held = c.args.scanner.now in
    let screen = c.args.screen.now in
    let before = parser_value held screen c.args.callbacks.now in
    let text = take c.text_len-count.result c.args.bytes.now in
    let cut = length-take c.min-fitting.result c.args.bytes.now in
    let size = length-take c.text_len-count.result c.args.bytes.now in
    let room : screen.page.column + length text ≤ screen.page.width =
    omega (arith, cut, size, c.text_len-count.ensures.inside, c.min-fitting.ensures, c.from-room.ensures, c.room.ensures) in
    let inside : c.text_len-count.result ≤ length c.args.bytes.now =
    omega (arith, cut, c.text_len-count.ensures.inside) in
    some_read g.CB.Callbacks.does before (parser_value held c.print_text.new.screen c.args.callbacks.now) c.args.bytes.now
    c.text_len-count.result inside
    (subst (λ (after : ScreenValue). Ran g.CB.Callbacks.does before text (parser_value held after c.args.callbacks.now))
    (sym c.print_text.ensures)
    (text_ran g.CB.Callbacks.does text held c.args.callbacks.now screen
    (plain_text g (goal.at.returns-clause-read g c).After-text_len-count) room))

pub returns-in-Ok-clause-last : goal.returns-in-Ok-clause-last
returns-in-Ok-clause-last g c = inr (omega arith, λ s stands. refl)

pub returns-clause-last : goal.returns-clause-last
returns-clause-last g c =
    let held = c.args.scanner.now in
    let screen = c.args.screen.now in
    let text = take c.text_len-count.result c.args.bytes.now in
    let cut = length-take c.min-fitting.result c.args.bytes.now in
    let size = length-take c.text_len-count.result c.args.bytes.now in
    let room : screen.page.column + length text ≤ screen.page.width =
    omega (arith, cut, size, c.text_len-count.ensures.inside, c.min-fitting.ensures, c.from-room.ensures, c.room.ensures) in
    inl (
      refl,
      λ s stands. (
        screen_after_text text screen,
        (text_ran invokes_none text held tt screen (plain_text g (goal.at.returns-clause-last g c).After-text_len-count) room
            s stands).1,
      ),
    )

pub returns-in-Ok-clause-keeps : goal.returns-in-Ok-clause-keeps
returns-in-Ok-clause-keeps g c count =
    let held = c.args.scanner.now in
    let byte = get_or c.args.bytes.now 0 0 in
    let itself = c.requires.itself in
    let feeds = text_feeds held byte itself.0 itself.1 itself.2 (omega (arith, itself.3)) in
    first_counts held held c.args.bytes.now (one_character c.from.result) count c.requires.nonempty
    (text_answer held byte c.from.result feeds c.from.ensures)

pub returns-in-Err-clause-keeps : goal.returns-in-Err-clause-keeps
returns-in-Err-clause-keeps g c count s stands = refl

pub returns-clause-keeps : goal.returns-clause-keeps
returns-clause-keeps g c =
    text_erases_nothing (take c.text_len-count.result c.args.bytes.now) c.args.scanner.now
    (plain_text g (goal.at.returns-clause-keeps g c).After-text_len-count)
