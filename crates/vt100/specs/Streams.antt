-- Lists of calls to a parser, including calls that change which scrollback rows are displayed: the callbacks that these
-- calls invoke, and the single text formed by all reported and captured rows.
use Rattle.std.specs.Prelude.{◌≡◌, ℕ, ◌<◌, ◌^◌, Bool, true, List, [], ◌∷◌, ◌++◌}
use Rattle.vt_rows.specs.Basic.{Written, nothing_written}
use Rattle.vt_scan.specs.Automaton.{State, start, run}
use Rattle.vt_scan.specs.Scanner.{StandsFor}
use Rattle.vt_screen.specs.Calls.{CallValue}
use Rattle.vt_screen.specs.Capture.{basic_texts, written_after_all}
use Rattle.vt_screen.specs.Screen.{ScreenValue, fresh_screen, scrolled_back}
use Rattle.vt_screen.specs.Streamed.{row_of_call, sent_off_in}
use Rattle.vt_screen.specs.CallsOfRun.{LeavesScreen, calls_in, screen_in}
use Rattle.vt_screen.specs.Run.{CallRelation}
use Rattle.vt100.specs.Parser.{ParserValue, Ran}

-- A call to `Parser::process` or `Screen::set_scrollback`.
pub data ParserCall : Type 0 where
  Process : (bytes : List ℕ) → ParserCall
  SetScrollback : (rows : ℕ) → ParserCall

-- The call succeeds and turns the parser `old` into `new`.
abbrev pub MakesCall : {S : Type 0} → CallRelation S → ParserValue S → ParserCall → ParserValue S → Type 0
MakesCall does old (Process bytes) new = Ran does old bytes new
MakesCall does old (SetScrollback rows) new = new ≡ record old { screen = scrolled_back rows old.screen }

-- The concatenated bytes of the `process` calls in a list.
abbrev pub bytes_of_calls : List ParserCall → List ℕ
bytes_of_calls [] = []
bytes_of_calls (Process bytes ∷ calls) = bytes ++ bytes_of_calls calls
bytes_of_calls (SetScrollback rows ∷ calls) = bytes_of_calls calls

-- The callback invocations that a list of calls to a parser causes, in order, provided that the callbacks leave the
-- screen unchanged.
abbrev pub calls_by : State → ScreenValue → List ParserCall → List CallValue
calls_by scan screen [] = []
calls_by scan screen (Process bytes ∷ calls) =
    calls_in scan screen bytes ++ calls_by (run scan bytes).state (screen_in scan screen bytes) calls
calls_by scan screen (SetScrollback rows ∷ calls) = calls_by scan (scrolled_back rows screen) calls

abbrev pub screen_by : State → ScreenValue → List ParserCall → ScreenValue
screen_by scan screen [] = screen
screen_by scan screen (Process bytes ∷ calls) = screen_by (run scan bytes).state (screen_in scan screen bytes) calls
screen_by scan screen (SetScrollback rows ∷ calls) = screen_by scan (scrolled_back rows screen) calls

-- The parser is in ground state and has a blank screen of the given size and scrollback capacity. The numbers of rows
-- and columns are from 1 to 65535.
pub record IsFreshParser {S : Type 0} (rows cols capacity : ℕ) (parser : ParserValue S) : Type 0 where
  pub has_rows : 0 < rows
  pub few_rows : rows < 2 ^ 16
  pub has_columns : 0 < cols
  pub few_columns : cols < 2 ^ 16
  pub ground : StandsFor parser.scanner start
  pub shown : parser.screen ≡ fresh_screen rows cols capacity

-- The text of everything that the given bytes write to a main page of `rows` rows and `cols` columns: the rows that
-- scroll off the top of the page, followed by the rows that remain on it.
abbrev pub whole_text : (rows cols : ℕ) → List ℕ → List ℕ
whole_text rows cols bytes =
    let fresh = fresh_screen rows cols 0 in
    basic_texts nothing_written (sent_off_in start fresh bytes ++ (screen_in start fresh bytes).page.rows)

-- The callbacks leave the screen unchanged. While `is_whole` is true, they append each reported row of the main page to
-- the text `text_of`, continuing from the capture state `state_of`; once false, `is_whole` stays false.
pub record IsRecorder {S : Type 0} (does : CallRelation S)
    (text_of : S → List ℕ) (state_of : S → Written) (is_whole : S → Bool) : Type 0 where
  pub leaves : LeavesScreen does
  pub whole : (call : CallValue) (old new : S) (before after : ScreenValue) →
      does call old before new after → is_whole new ≡ true → is_whole old ≡ true
  pub text : (call : CallValue) (old new : S) (before after : ScreenValue) → does call old before new after →
      is_whole new ≡ true → text_of new ≡ text_of old ++ basic_texts (state_of old) (row_of_call call)
  pub state : (call : CallValue) (old new : S) (before after : ScreenValue) → does call old before new after →
      is_whole new ≡ true → state_of new ≡ written_after_all (state_of old) (row_of_call call)
