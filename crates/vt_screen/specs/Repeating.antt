-- Output in which runs of the same character are written with REP, which repeats the last printed character (ECMA-48,
-- 8.3.103), and its effect on the terminals that read it.
use Rattle.std.specs.Prelude.{◌≡◌, ◌⊎◌, ℕ, suc, ◌+◌, ◌<◌, ◌≤◌, ◌==◌, List, [], ◌∷◌, ◌++◌, Some, decimal, length}
use Rattle.std.specs.Prelude.{encode_utf8_all, replicate, if◌then◌else◌}
use Rattle.std.specs.Char.{encode_utf8}
use Rattle.std.specs.List.{AllByRecursion, flat_map}
use Rattle.vt_cells.specs.Glyph.{columns_of}
use Rattle.vt_cells.specs.Op.{csi}
use Rattle.vt_redraw.specs.Fits.{IsDrawn}
use Rattle.vt_scan.specs.Automaton.{Event, CsiDispatch, start, run}
use Rattle.vt_screen.specs.CallsOfRun.{screen_after_all, steps_in}
use Rattle.vt_screen.specs.Controls.{number_or, seen_of, steps_of}
use Rattle.vt_screen.specs.Reading.{terminal, terminal_after}
use Rattle.vt_screen.specs.Screen.{IsScreen, ScreenValue}
use Rattle.vt_screen.specs.declared.repeat.Repeat.{Repeat}
use Rattle.vt_screen.specs.declared.repeat.Repeat.TheVariants.{Never, Ascii, Any}

-- ---- the output

-- The control sequence that repeats the last printed character the given number of times.
abbrev pub repeat_text : ℕ → List ℕ
repeat_text count = csi (decimal count) 0x62

-- The character is printed in one column.
pub record IsNarrow (c : ℕ) : Type 0 where
  pub drawn : IsDrawn c
  pub columns : columns_of c ≡ Some 1

-- The character is repeatable: REP may repeat no character, only printable ASCII characters, or every character.
abbrev pub IsRepeatable : Repeat → (c : ℕ) → Type 0
IsRepeatable Never c = ⊥
IsRepeatable Ascii c = (0x20 ≤ c) × (c < 0x7F)
IsRepeatable Any c = Unit {0}

-- The UTF-8 encoding of `count` copies of the character `c`.
abbrev pub copies : (count c : ℕ) → List ℕ
copies count c = encode_utf8_all (replicate count c)

-- A part of the output that ends in a run: a character that is printed once, followed by `count` more copies of it.
pub record Run : Type 0 where
  pub before : List ℕ
  pub character : ℕ
  pub count : ℕ

-- The run's character is repeatable and printed in one column, and REP is shorter than the copies that it replaces.
pub record IsShortened (repeat : Repeat) (run : Run) : Type 0 where
  pub narrow : IsNarrow run.character
  pub repeatable : IsRepeatable repeat run.character
  pub shorter : length (repeat_text run.count) < length (copies run.count run.character)

-- The part of the output that a `Run` describes, with the run written out in full.
abbrev pub full_text : Run → List ℕ
full_text run = run.before ++ copies (suc run.count) run.character

-- The part of the output that a `Run` describes, with the run written as the character followed by REP.
abbrev pub short_text : Run → List ℕ
short_text run = run.before ++ (encode_utf8 run.character ++ repeat_text run.count)

-- The output `text` is the output `plain` in which some runs of repeatable characters are written with REP. Everything
-- else in the output is unchanged.
pub record HasRuns (repeat : Repeat) (plain text : List ℕ) : Type 0 where
  pub runs : List Run
  pub rest : List ℕ
  pub are_shortened : AllByRecursion (IsShortened repeat) runs
  pub in_full : plain ≡ flat_map full_text runs ++ rest
  pub in_short : text ≡ flat_map short_text runs ++ rest

-- ---- the effect of reading the output

-- A terminal in ground state takes the same steps for both outputs and ends in the same state. If reading one of the
-- outputs invokes no callbacks, allocates nothing and scrolls no rows off the page, the same is true of the other.
pub record ReadsAlike (plain text : List ℕ) (reader : ScreenValue) : Type 0 where
  pub state : (run start text).state ≡ (run start plain).state
  pub steps : steps_in start reader text ≡ steps_in start reader plain
  pub reads : terminal_after (terminal start reader) text ≡ terminal_after (terminal start reader) plain

-- The number of times that an event repeats the last printed character: the count of REP, and 0 for any other event.
abbrev pub repetitions : Event → ℕ
repetitions (CsiDispatch groups [] b) = if b == 0x62 then number_or 1 0 groups else 0
repetitions _ = 0

-- For each REP among the events, enough columns are left in the cursor's row for all repeated characters, so that none
-- of them wraps to the next row. The given screen is the one before the first event.
abbrev pub RepeatInRows : List Event → ScreenValue → Type 0
RepeatInRows [] screen = Unit {0}
RepeatInRows (event ∷ events) screen =
    ((repetitions event ≡ 0) ⊎ (screen.page.column + repetitions event ≤ screen.page.width))
    × RepeatInRows events (screen_after_all (steps_of event (seen_of screen)) screen)

-- While a terminal in ground state reads the output, each REP repeats its character only within the cursor's row.
abbrev pub RepeatsInRows : List ℕ → ScreenValue → Type 0
RepeatsInRows text reader = RepeatInRows (run start text).events reader

-- The output contains no REP.
abbrev pub HasNoRepeat : List ℕ → Type 0
HasNoRepeat text = AllByRecursion (λ event. repetitions event ≡ 0) (run start text).events

-- The terminal has the given number of columns, and at least `room` of them lie between its cursor and the end of the
-- row.
pub record IsReaderWithRoom (width room : ℕ) (reader : ScreenValue) : Type 0 where
  pub sound : IsScreen reader
  pub width_is : reader.page.width ≡ width
  pub columns : 0 < room → reader.page.column + room ≤ width

-- The output `text` is `plain` with some runs of repeatable characters written with REP; it is not longer and has the
-- same effect on every terminal in ground state. If `plain` contains no REP, each REP in `text` repeats its character
-- only within the cursor's row on terminals with `width` columns, at least `room` of which are left in that row.
pub record Repeats (repeat : Repeat) (width room : ℕ) (plain text : List ℕ) : Type 0 where
  pub runs : HasRuns repeat plain text
  pub same : (reader : ScreenValue) → IsScreen reader → ReadsAlike plain text reader
  pub rows : HasNoRepeat plain → (reader : ScreenValue) → IsReaderWithRoom width room reader → RepeatsInRows text reader
  pub shorter : length text ≤ length plain
