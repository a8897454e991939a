-- The concatenated text of rows, and the position at which the text of each row ends.
use Rattle.std.specs.Prelude.{◌≡◌, ◌+◌, ◌<◌, ◌≤◌, ℕ, List, [], ◌∷◌, ◌++◌, drop, length, take, nat_le, nat_lt}
use Rattle.std.specs.Prelude.{Option, Some, None, if◌then◌else◌}
use Rattle.std.specs.List.{concat}
use Rattle.vt_screen.specs.Contents.{row_texts}
use Rattle.vt_screen.specs.RowsShown.{changed_rows}
use Rattle.vt_screen.specs.Screen.{ScreenValue, visible_rows}
use Rattle.vt100_c.specs.Due.{HoldBoth, HoldsScreen, OnBoth, same_size, source_at, text_at}
use Rattle.vt100_c.specs.Held.{screen_in}
use Rattle.vt100_c.specs.Status.{ok, bad_argument, other_size}
use Rattle.vt100_c.specs.declared.object.Object.{Object}

-- The position at which each string of a list ends, if the strings are concatenated starting at the given position.
abbrev pub ends_from : ℕ → List (List ℕ) → List ℕ
ends_from at [] = []
ends_from at (text ∷ texts) = (at + length text) ∷ ends_from (at + length text) texts

-- `joined` is the concatenation of the first `count` strings of `all`, `ends` begins with the end positions of these
-- strings, and the strings `left` remain.
pub record IsJoined (all left : List (List ℕ)) (count : ℕ) (joined ends : List ℕ) : Type 0 where
  pub done : List (List ℕ)
  pub parts : all ≡ done ++ left
  pub count_is : length done ≡ count
  pub text : joined ≡ concat done
  pub ends_are : take count ends ≡ ends_from 0 done

-- The status of a call that stores the end position of each row: `ok` if `room` is at least the number of rows of the
-- screen, otherwise `bad_argument`.
abbrev pub places_status : (room : ℕ) → ScreenValue → ℕ
places_status room screen = if nat_le (length screen.page.rows) room then ok else bad_argument

-- The status of a call that stores the end position of each row in a range of columns: `ok` if `start` is a column of
-- the screen and `room` is at least the number of rows, otherwise `bad_argument`.
abbrev pub range_status : (start room : ℕ) → ScreenValue → ℕ
range_status start room screen = if nat_lt start screen.page.width then places_status room screen else bad_argument

-- The status of a call with a range of columns of two screens: `other_size` if the screens differ in size, and
-- otherwise the status that `range_status` determines.
abbrev pub ranges_status : (start room : ℕ) → ScreenValue → ScreenValue → ℕ
ranges_status start room screen prev = if same_size screen.page prev.page then range_status start room screen else other_size

-- The plain text of each displayed row, in the `width` columns starting at `start`.
abbrev pub plain_rows : (start width : ℕ) → ScreenValue → List (List ℕ)
plain_rows start width screen = row_texts start (start + width) (visible_rows screen)

-- The first `count` numbers of the list are the positions at which the given strings end in their concatenation.
abbrev pub AreEnds : (count : ℕ) → List ℕ → List (List ℕ) → Type 0
AreEnds count ends texts = take count ends ≡ ends_from 0 texts

-- `joined` is the concatenation of the strings `texts`, and the first `count` numbers of `ends` are the end positions
-- of these strings.
pub record JoinsTexts (count : ℕ) (texts : List (List ℕ)) (joined ends : List ℕ) : Type 0 where
  pub text : joined ≡ concat texts
  pub ends_are : AreEnds count ends texts

-- `joined` is the concatenation of the strings `texts`, one for each row of the screen. `after` begins with the end
-- positions of these strings, and the remaining numbers of `after` are those of `before`.
pub record GivesRows (screen : ScreenValue) (texts : List (List ℕ)) (joined before after : List ℕ) : Type 0 where
  pub rows : JoinsTexts (length screen.page.rows) texts joined after
  pub rest : drop (length screen.page.rows) after ≡ drop (length screen.page.rows) before

-- The column `start` is on the screen, and `room` is at least the number of rows, so there is room for the end position
-- of each row.
pub record FitRows (start room : ℕ) (screen : ScreenValue) : Type 0 where
  pub column : start < screen.page.width
  pub places : length screen.page.rows ≤ room

-- The given screen exists, the given handle has a screen too, and the given predicate is true of both screens.
abbrev pub HoldBeside : Option ScreenValue → Option Object → (ScreenValue → ScreenValue → Type 0) → Type 0
HoldBeside screen None Holds = ⊥
HoldBeside screen (Some prev) Holds = OnBoth screen (screen_in prev.source) Holds

-- ---- the effects of calls on handles

-- A string is generated for each row of the handle's screen, and the end positions of the strings are stored. The
-- screen is unchanged. If the call fails, the stored end positions are unchanged too.
pub record MakesRows (texts : ScreenValue → List (List ℕ)) (old : Option Object) (status : ℕ) (new : Option Object)
    (before after : List ℕ) : Type 0 where
  pub source : source_at new ≡ source_at old
  pub made : status ≡ ok → HoldsScreen old (λ screen. GivesRows screen (texts screen) (text_at new) before after)
  pub refused : ¬ (status ≡ ok) → after ≡ before

-- For each row, the call generates the output that turns the row of `prev`'s screen into that of `old`'s screen, and
-- stores the position at which the output ends. If the call fails, the stored end positions are
-- unchanged.
pub record ChangesRows (start width : ℕ) (old prev : Option Object) (status : ℕ) (new : Option Object)
    (before after : List ℕ) : Type 0 where
  pub source : source_at new ≡ source_at old
  pub made : status ≡ ok → HoldBoth old prev
      (λ screen other. GivesRows screen (changed_rows start width screen other) (text_at new) before after)
  pub refused : ¬ (status ≡ ok) → after ≡ before
