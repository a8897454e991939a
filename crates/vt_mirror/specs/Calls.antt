-- The effects of calls to a mirror: the result of each call, and the mirror after it.
use Rattle.std.specs.Prelude.{◌≡◌, ◌⊎◌, ℕ, ◌-◌, ◌^◌, ◌<◌, ◌≤◌, Bool, true, false, List, [], Option, Some, None, Err, Ok}
use Rattle.std.specs.Prelude.{length, string_bytes, IfErr, IfOk, IsTrue}
use Rattle.std.specs.declared.result.Result.{Result}
use Rattle.vt_cells.specs.declared.error.Error.{Error}
use Rattle.vt_cells.specs.declared.error.Error.TheVariants.{NoNumber, OutOfMemory}
use Rattle.vt_grid.specs.Page.{SameSize}
use Rattle.vt_redraw.specs.Steady.{IsSteady}
use Rattle.vt_redraw.specs.declared.form.Form.{Form}
use Rattle.vt_redraw.specs.declared.form.Form.TheVariants.{Portable}
use Rattle.vt_screen.specs.Again.{KeepsPlain}
use Rattle.vt_screen.specs.Diffs.{IsDiffWith, KeepsScreensPlain, RepeatsOnlyInRows}
use Rattle.vt_screen.specs.Diffs.{diff_controls, finals_with, form_with}
use Rattle.vt_screen.specs.MadeOf.{IsMadeOf, drawing_controls, drawing_finals}
use Rattle.vt_screen.specs.Pages.{has_size, screen_after_resize}
use Rattle.vt_screen.specs.Portable.{IsPortableAnywhere, IsPortableFrom}
use Rattle.vt_screen.specs.Screen.{IsColored, IsScreen, ScreenValue}
use Rattle.vt_screen.specs.Shown.{IsReader, IsSameIfEmpty, KeepsRest, Redraws, RedrawsFrom}
use Rattle.vt_screen.specs.Shown.{display, display_change_in, shown_text_in}
use Rattle.vt_screen.specs.declared.diff_options.DiffOptions.{DiffOptions}
use Rattle.vt_screen.specs.declared.repeat.Repeat.TheVariants.{Never}
use Rattle.vt100.specs.Calls.{ParserProcesses}
use Rattle.vt100.specs.Parser.{does_nothing}
use Rattle.vt_mirror.specs.Mirror.{MirrorValue, Puts, PutsAmong, ViewersValue, is_viewer, next_number, note_of}
use Rattle.vt_mirror.specs.declared.update.Update.{Update}
use Rattle.vt_mirror.specs.declared.update.Update.TheVariants.{Diff, Full}

-- The effect of `process`: the bytes are parsed as by a parser whose callbacks do nothing. The viewers and the size of
-- the screen are unchanged, and no viewer is up to date afterward.
pub record MirrorProcesses (old : MirrorValue) (bytes : List ℕ)
    (answer : Result (Unit {0}) Error) (new : MirrorValue) : Type 0 where
  pub viewers : new.viewers ≡ old.viewers
  pub size : SameSize new.parser.screen.page old.parser.screen.page
  pub parser : ParserProcesses does_nothing old.parser bytes answer new.parser
  pub current : new.current ≡ []

-- The effect of `set_size`: the screen is resized, and the recorded screens of all viewers are dropped. A resize to the
-- current size changes nothing and never fails. On error, nothing is changed.
pub record Resizes (old : MirrorValue) (rows cols : ℕ)
    (answer : Result (Unit {0}) Error) (new : MirrorValue) : Type 0 where
  pub same : has_size rows cols old.parser.screen ≡ true → (answer ≡ Ok tt) × (new ≡ old)
  pub other : has_size rows cols old.parser.screen ≡ false →
      IfOk answer (λ _. new
      ≡ record {
        parser = record (old.parser) { screen = screen_after_resize rows cols old.parser.screen };
        viewers = record (old.viewers) { notes = [] };
        current = [];
      })
  pub refused : IfErr answer (λ error. (error ≡ OutOfMemory) × (new ≡ old))

-- The maximum viewer number and version number, 2^64 - 1.
abbrev pub greatest : ℕ
greatest = 2 ^ 64 - 1

-- The effect of `join`: a new viewer gets the next number, and no screen is recorded for this viewer yet. The call
-- fails if the maximum number was already assigned. On error, nothing is changed.
pub record JoinsMirror (old : ViewersValue) (answer : Result ℕ Error) (new : ViewersValue) : Type 0 where
  pub number : IfOk answer (λ viewer. viewer ≡ next_number old.last)
  pub last : IfOk answer (λ viewer. new.last ≡ Some viewer)
  pub puts : IfOk answer (λ viewer. Puts old viewer true None new)
  pub none : old.last ≡ Some greatest → answer ≡ Err NoNumber
  pub only : IfErr answer (λ error. (error ≡ OutOfMemory) ⊎ ((error ≡ NoNumber) × (old.last ≡ Some greatest)))
  pub refused : IfErr answer (λ _. new ≡ old)

-- The effect of `leave`: the viewer with the given number is removed, and the result indicates whether there was such a
-- viewer.
pub record Leaves (old : ViewersValue) (viewer : ℕ) (answer : Bool) (new : ViewersValue) : Type 0 where
  pub was : answer ≡ is_viewer old viewer
  pub last : new.last ≡ old.last
  pub puts : Puts old viewer false None new

-- The text is the redraw, in the given form, of the screen, which has `rows` rows and `cols` columns, at least one of
-- each.
pub record IsFull (form : Form) (self : ScreenValue) (rows cols : ℕ) (text : List ℕ) : Type 0 where
  pub tall : rows ≡ length self.page.rows
  pub wide : cols ≡ self.page.width
  pub has_rows : 0 < rows
  pub few_rows : rows < 2 ^ 16
  pub has_columns : 0 < cols
  pub few_columns : cols < 2 ^ 16
  pub is : text ≡ shown_text_in form self
  pub redraws : Redraws (display self) (IsReader (display self)) KeepsRest text
  pub controls : IsMadeOf drawing_finals drawing_controls text
  pub again : KeepsPlain text
  pub portable : form ≡ Portable → IsPortableAnywhere self text

-- The options of `Mirror::update`: the diff moves no rows or columns, contains no REP and need not be portable.
abbrev pub default_options : DiffOptions
default_options = record { scroll = false; repeat = Never; portable = false }

-- The options of `Mirror::update_scrolling`.
abbrev pub scrolling_options : DiffOptions
scrolling_options = record { scroll = true; repeat = Never; portable = false }

-- The text is a diff with the given options between two screens of the same size, as `Screen::contents_diff_with`
-- returns it. With `scroll`, the diff starts from a steady screen.
pub record IsDiffFor (options : DiffOptions) (self prev : ScreenValue) (text : List ℕ) : Type 0 where
  pub size : SameSize self.page prev.page
  pub from_steady : options.scroll ≡ true → IsSteady (display prev)
  pub is : IsDiffWith options prev self text
  pub controls : IsMadeOf (finals_with options.repeat options.scroll) (diff_controls options.scroll) text
  pub rows : RepeatsOnlyInRows prev self text
  pub again : KeepsScreensPlain text
  pub shorter : length text ≤ length (display_change_in (form_with options) prev self)
  pub redraw : IsTrue options.scroll → length text ≤ length (shown_text_in (form_with options) self)
  pub redraws : RedrawsFrom prev self text
  pub empty : IsSameIfEmpty prev self text
  pub none : display self ≡ display prev → text ≡ []
  pub portable : IsTrue options.portable → IsPortableFrom prev self text

abbrev pub IsFullUpdate : Form → (self : ScreenValue) → Update → Type 0
IsFullUpdate form self (Full rows cols text) = IsFull form self rows cols (string_bytes text)
IsFullUpdate form self (Diff text) = ⊥

-- The update is a full redraw although a screen is recorded for the viewer. This is possible only with `scroll`, and
-- only if the recorded screen is not steady.
pub record IsFullAfter (options : DiffOptions) (self prev : ScreenValue) (rows cols : ℕ) (text : List ℕ) : Type 0 where
  pub scrolls : options.scroll ≡ true
  pub unsteady : IsSteady (display prev) → ⊥
  pub full : IsFull (form_with options) self rows cols text

-- The update is a full redraw in the form that the options ask for if no screen is recorded for the viewer. Otherwise,
-- the update is a diff with the options from the recorded screen, or a full redraw as `IsFullAfter` describes.
abbrev pub IsUpdate : DiffOptions → (self : ScreenValue) → Option ScreenValue → Update → Type 0
IsUpdate options self (Some prev) (Diff text) = IsDiffFor options self prev (string_bytes text)
IsUpdate options self (Some prev) (Full rows cols text) = IsFullAfter options self prev rows cols (string_bytes text)
IsUpdate options self None update = IsFullUpdate (form_with options) self update

-- The update is portable: the text of a full redraw on every terminal, and that of a diff on terminals that display the
-- recorded screen.
abbrev pub IsPortableUpdate : (self : ScreenValue) → Option ScreenValue → Update → Type 0
IsPortableUpdate self noted (Full rows cols text) = IsPortableAnywhere self (string_bytes text)
IsPortableUpdate self (Some prev) (Diff text) = IsPortableFrom prev self (string_bytes text)
IsPortableUpdate self None (Diff text) = ⊥

-- The viewer gets an update with the given options, and the mirror's screen, which is valid, is recorded for this viewer.
pub record GivesUpdate (options : DiffOptions) (old : MirrorValue) (viewer : ℕ) (update : Update) (new : MirrorValue) : Type 0 where
  pub is : is_viewer old.viewers viewer ≡ true
  pub whole : IsScreen old.parser.screen
  pub colored : IsColored old.parser.screen
  pub text : IsUpdate options old.parser.screen (note_of old.viewers viewer) update
  pub parser : new.parser ≡ old.parser
  pub last : new.viewers.last ≡ old.viewers.last
  pub puts : Puts old.viewers viewer true (Some old.parser.screen) new.viewers
  pub current : PutsAmong old.current viewer true new.current

-- The effect of a successful request for an update; `None` means that no viewer has the given number.
abbrev pub Answers : DiffOptions → (old : MirrorValue) → ℕ → Option Update → (new : MirrorValue) → Type 0
Answers options old viewer None new = (is_viewer old.viewers viewer ≡ false) × (new ≡ old)
Answers options old viewer (Some update) new = GivesUpdate options old viewer update new

-- The effect of `update`, `update_scrolling` or `update_with`, given the options. If no viewer has the given number, the
-- result is `Ok(None)`. On error, nothing is changed.
pub record Asks (options : DiffOptions) (old : MirrorValue) (viewer : ℕ)
    (answer : Result (Option Update) Error) (new : MirrorValue) : Type 0 where
  pub nobody : is_viewer old.viewers viewer ≡ false → answer ≡ Ok None
  pub answers : IfOk answer (λ update. Answers options old viewer update new)
  pub refused : IfErr answer (λ error. (error ≡ OutOfMemory) × (new ≡ old))
