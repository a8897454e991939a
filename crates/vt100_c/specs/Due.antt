-- The status that a call returns, depending on what its handles hold, and statements about the screens of handles. The
-- status is `ok` if the call can fail only by running out of memory.
use Rattle.std.specs.Prelude.{◌≡◌, ◌⊎◌, ◌==◌, ◌&&◌, ℕ, nat_lt, nat_le, length, List, []}
use Rattle.std.specs.Prelude.{Bool, Option, Some, None, Result, Ok, Err, IfErr, OnErr, if◌then◌else◌, string_bytes}
use Rattle.vt_grid.specs.Page.{Page}
use Rattle.vt_screen.specs.Screen.{ScreenValue, visible_row}
use Rattle.vt100_c.specs.Shown.{cell_count}
use Rattle.vt100_c.specs.Held.{screen_in}
use Rattle.vt100_c.specs.Status.{ok, out_of_memory, bad_argument, wrong_kind, other_size, no_object}
use Rattle.vt100_c.specs.declared.object.Object.{Object}
use Rattle.vt100_c.specs.declared.object.Source.{Source}

-- ---- a value that may be missing

-- The value exists, and the given predicate is true of it.
abbrev pub IsSomeAnd : {A : Type 0} → Option A → (A → Type 0) → Type 0
IsSomeAnd None Holds = ⊥
IsSomeAnd (Some value) Holds = Holds value

-- The status of a call that requires a value of a certain kind: `ok` if there is one, otherwise `wrong_kind`.
abbrev pub due_to : {A : Type 0} → Option A → ℕ
due_to None = wrong_kind
due_to (Some value) = ok

-- ---- what a handle holds

-- The status of a call that requires a value of a certain kind in a handle: `no_object` if the handle is empty,
-- `wrong_kind` if its object has no such value, and otherwise `ok`.
abbrev pub due_to_held : {A : Type 0} → (of : Source → Option A) → Option Object → ℕ
due_to_held of None = no_object
due_to_held of (Some object) = due_to (of object.source)

-- The handle's object has a value of a certain kind, and the given predicate is true of it.
abbrev pub HoldsOne : {A : Type 0} → (of : Source → Option A) → Option Object → (A → Type 0) → Type 0
HoldsOne of None Holds = ⊥
HoldsOne of (Some object) Holds = IsSomeAnd (of object.source) Holds

abbrev pub source_at : Option Object → Option Source
source_at None = None
source_at (Some object) = Some object.source

-- The text stored in a handle; empty if the handle holds nothing.
abbrev pub text_at : Option Object → List ℕ
text_at None = []
text_at (Some object) = string_bytes object.text

-- ---- one screen

abbrev pub due_on : (ScreenValue → ℕ) → Option ScreenValue → ℕ
due_on due None = wrong_kind
due_on due (Some screen) = due screen

-- The status of a call on a handle: `no_object` if the handle is empty, `wrong_kind` if its object has no screen, and
-- otherwise the status that the given function determines from the screen.
abbrev pub due_at : (ScreenValue → ℕ) → Option Object → ℕ
due_at due None = no_object
due_at due (Some object) = due_on due (screen_in object.source)

-- The status `ok`, whatever the screen is.
abbrev pub any_screen : ScreenValue → ℕ
any_screen screen = ok

-- The status of a call with the index of a displayed row: `ok` if there is such a row, otherwise `bad_argument`.
abbrev pub row_status : ℕ → ScreenValue → ℕ
row_status row screen = if nat_lt row (length screen.page.rows) then ok else bad_argument

-- The status of a call that stores the cells of a displayed row, one for each column of the screen: `ok` if there is
-- such a row and `room` is at least the number of columns, otherwise `bad_argument`.
abbrev pub row_cells_status : (row room : ℕ) → ScreenValue → ℕ
row_cells_status row room screen = if nat_le screen.page.width room then row_status row screen else bad_argument

-- The status of a call that stores the cells of all displayed rows: `ok` if `room` is at least the number of these cells,
-- otherwise `bad_argument`.
abbrev pub all_cells_status : (room : ℕ) → ScreenValue → ℕ
all_cells_status room screen = if nat_le (cell_count screen) room then ok else bad_argument

-- The status of a call with the position of a displayed cell: `ok` if there is such a cell, otherwise `bad_argument`. A
-- scrollback row may have more columns than the screen.
abbrev pub cell_status : (row col : ℕ) → ScreenValue → ℕ
cell_status row col screen =
    if nat_lt row (length screen.page.rows) && nat_lt col (length (visible_row screen row).cells) then ok
    else bad_argument

-- The status of a call with a range of positions: `bad_argument` if the range extends past its first row and starts
-- beyond the screen's width, otherwise `ok`.
abbrev pub start_status : (start_row start_col end_row : ℕ) → ScreenValue → ℕ
start_status start_row start_col end_row screen =
    if nat_lt start_row end_row && nat_lt screen.page.width start_col then bad_argument else ok

abbrev pub HoldsScreen : Option Object → (ScreenValue → Type 0) → Type 0
HoldsScreen held Holds = HoldsOne screen_in held Holds

-- ---- two screens

abbrev pub due_on_both : (ScreenValue → ScreenValue → ℕ) → Option ScreenValue → Option ScreenValue → ℕ
due_on_both due None prev = wrong_kind
due_on_both due (Some screen) None = wrong_kind
due_on_both due (Some screen) (Some prev) = due screen prev

abbrev pub due_at_both : (ScreenValue → ScreenValue → ℕ) → Option Object → Option Object → ℕ
due_at_both due None prev = no_object
due_at_both due (Some object) None = no_object
due_at_both due (Some object) (Some prev) = due_on_both due (screen_in object.source) (screen_in prev.source)

-- The status of a call on a screen and the handle of a second screen: the status that the given function determines if
-- both screens exist, `bad_argument` if the handle is empty, and otherwise `wrong_kind`.
abbrev pub due_beside : (ScreenValue → ScreenValue → ℕ) → Option ScreenValue → Option Object → ℕ
due_beside due screen None = bad_argument
due_beside due screen (Some prev) = due_on_both due screen (screen_in prev.source)

-- The status `ok`, whatever the two screens are.
abbrev pub any_screens : ScreenValue → ScreenValue → ℕ
any_screens screen prev = ok

abbrev pub same_size : Page → Page → Bool
same_size page other = (length page.rows == length other.rows) && (page.width == other.width)

-- The status of a call on two screens: `ok` if they have the same size, otherwise `other_size`.
abbrev pub sizes_status : ScreenValue → ScreenValue → ℕ
sizes_status screen prev = if same_size screen.page prev.page then ok else other_size

-- Both screens exist, and the given predicate is true of them.
abbrev pub OnBoth : Option ScreenValue → Option ScreenValue → (ScreenValue → ScreenValue → Type 0) → Type 0
OnBoth None prev Holds = ⊥
OnBoth (Some screen) None Holds = ⊥
OnBoth (Some screen) (Some prev) Holds = Holds screen prev

abbrev pub HoldBoth : Option Object → Option Object → (ScreenValue → ScreenValue → Type 0) → Type 0
HoldBoth None prev Holds = ⊥
HoldBoth (Some object) None Holds = ⊥
HoldBoth (Some object) (Some prev) Holds = OnBoth (screen_in object.source) (screen_in prev.source) Holds

-- ---- the status that is returned

-- The status is `due`. If `due` is `ok`, the status may instead be `out_of_memory`.
abbrev pub IsAnswer : (due status : ℕ) → Type 0
IsAnswer due status = (status ≡ due) ⊎ ((due ≡ ok) × (status ≡ out_of_memory))

-- The status of a result: `ok` for a value, and the error itself for an error.
abbrev pub status_in : {A : Type 0} → Result A ℕ → ℕ
status_in (Ok value) = ok
status_in (Err status) = status

-- The status of the result is `due`. If `due` is `ok`, the result may instead be the error `out_of_memory`. If the
-- result is an error, it is never `ok`, and `Stays` holds.
pub record AnswersOrStays {A : Type 0} (due : ℕ) (result : Result A ℕ) (Stays : Type 0) : Type 0 where
  pub answer : IsAnswer due (status_in result)
  pub refused : IfErr result (λ status. ¬ (status ≡ ok))
  pub stays : OnErr result Stays
