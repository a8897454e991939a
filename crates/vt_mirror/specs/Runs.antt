-- The output of a run of `vtmirror` for its single viewer: an update at the start, one after each interval of `every`
-- bytes of the input, and one at the end.
use Rattle.std.specs.Prelude.{◌≡◌, ℕ, zero, suc, ◌*◌, ◌/◌, ◌<◌, ◌≤◌, ◌⊎◌, List, [], ◌∷◌, ◌++◌, length, map, take, Err, OnOk}
use Rattle.std.specs.Io.KnownBytes.{Appends, Consumes, IsAtEnd, Keeps}
use Rattle.std.specs.List.{AllByRecursion}
use Rattle.std.specs.declared.option.Option.{Option}
use Rattle.std.specs.declared.result.Result.{Result}
use Rattle.vt_grid.specs.Page.{SameSize}
use Rattle.vt_scan.specs.Automaton.{start}
use Rattle.vt_screen.specs.Chain.{chain_text}
use Rattle.vt_screen.specs.MadeOf.{IsMadeOf, drawing_controls, drawing_finals}
use Rattle.vt_screen.specs.Screen.{IsColored, IsScreen, ScreenValue}
use Rattle.vt_screen.specs.CallsOfRun.{screen_in}
use Rattle.vt_screen.specs.Shown.{display_change, shown_text}
use Rattle.vt_show.specs.declared.faults.Fault.{Fault}
use Rattle.vt_show.specs.declared.faults.Fault.TheVariants.{Memory, Read, Write}
use Rattle.vt_show.specs.Shown.{AppendsPart}

-- ---- the screens for which the viewer gets an update, except the first screen

-- The first `count` positive multiples of `number`.
abbrev pub multiples : (number count : ℕ) → List ℕ
multiples number zero = []
multiples number (suc count) = multiples number count ++ (suc count * number ∷ [])

-- The screens after each full interval of `every` bytes of the input.
abbrev pub screens_on_way : (first : ScreenValue) (every : ℕ) → List ℕ → List ScreenValue
screens_on_way first every input =
    map (λ n. screen_in start first (take n input)) (multiples every (length input / every))

-- The screens after each full interval of `every` bytes of the input, followed by the screen after the whole input.
abbrev pub screens_to_end : (first : ScreenValue) (every : ℕ) → List ℕ → List ScreenValue
screens_to_end first every input = screens_on_way first every input ++ (screen_in start first input ∷ [])

-- The screen is valid and has the size of `first`.
pub record IsUpdatedAfter (first screen : ScreenValue) : Type 0 where
  pub sound : IsScreen screen
  pub colored : IsColored screen
  pub size : SameSize screen.page first.page

-- ---- the texts of the updates: what `Screen::contents_formatted` returns for the first screen, and
-- `Screen::contents_diff` for each later one

abbrev pub text_on_way : (first : ScreenValue) (every : ℕ) → List ℕ → List ℕ
text_on_way first every input = chain_text first (screens_on_way first every input)

abbrev pub text_to_end : (first : ScreenValue) (every : ℕ) → List ℕ → List ℕ
text_to_end first every input = chain_text first (screens_to_end first every input)

-- ---- the input that was read and the output that was written

-- The input was read to its end, and all updates were written. The input was `left` before and is `rest` now; the
-- output was `written` before and is `grown` now.
pub record WritesToEnd (first : ScreenValue) (every : ℕ) (left rest written grown : Option (List ℕ)) : Type 0 where
  pub input : List ℕ
  pub reads : Consumes left rest input
  pub appends : Appends written grown (text_to_end first every input)
  pub controls : IsMadeOf drawing_finals drawing_controls (text_to_end first every input)
  pub updated : AllByRecursion (IsUpdatedAfter first) (first ∷ screens_to_end first every input)

-- A read failed after the bytes `input` had been read, and all updates that were due by then had been written. The
-- input was `left` before and is `rest` now; the output was `written` before and is `grown` now.
pub record WritesOnWay (first : ScreenValue) (every : ℕ) (left rest written grown : Option (List ℕ)) : Type 0 where
  pub input : List ℕ
  pub reads : Consumes left rest input
  pub appends : Appends written grown (text_on_way first every input)
  pub controls : IsMadeOf drawing_finals drawing_controls (text_on_way first every input)

-- An allocation failed. All updates were written except the one for the last bytes read, which are at most `every`
-- bytes. The input was `left` before and is `rest` now; the output was `written` before and is `grown` now.
pub record WritesAfter (first : ScreenValue) (every : ℕ) (left rest written grown : Option (List ℕ)) : Type 0 where
  pub input : List ℕ
  pub last : List ℕ
  pub few : length last ≤ every
  pub reads : Consumes left rest (input ++ last)
  pub appends : Appends written grown (text_on_way first every input)
  pub controls : IsMadeOf drawing_finals drawing_controls (text_on_way first every input)

-- An allocation failed, either before anything was read or written, or after the first update. The input was `left`
-- before and is `rest` now; the output was `written` before and is `grown` now.
abbrev pub WritesSome : (first : ScreenValue) (every : ℕ) → (left rest written grown : Option (List ℕ)) → Type 0
WritesSome first every left rest written grown =
    (Keeps left rest × Keeps written grown) ⊎ WritesAfter first every left rest written grown

-- Writing the first update failed after a prefix of its text was written; no input had been read. The input was
-- `left` before and is `rest` now; the output was `written` before and is `grown` now.
pub record FailsAtFirst (first : ScreenValue) (left rest written grown : Option (List ℕ)) : Type 0 where
  pub reads : Keeps left rest
  pub part : AppendsPart written grown (shown_text first)
  pub controls : IsMadeOf drawing_finals drawing_controls (shown_text first)

-- The output `grown` is `written` followed by all of `earlier` and a prefix of `next`.
pub record AppendsThenPart (earlier next : List ℕ) (written grown : Option (List ℕ)) : Type 0 where
  pub taken : List ℕ
  pub lost : List ℕ
  pub parts : next ≡ taken ++ lost
  pub appends : Appends written grown (earlier ++ taken)

-- Writing an update other than the first failed. The previous update was due after the bytes `input`. The failed update
-- was due after the next bytes, `last`, which are a full interval, or fewer at the end of the input. All earlier
-- updates were written, and so was a prefix of the failed update, which is the diff between the screens at these two
-- points. The input was `left` before and is `rest` now; the output was `written` before and is `grown` now.
pub record FailsLater (first : ScreenValue) (every : ℕ) (left rest written grown : Option (List ℕ)) : Type 0 where
  pub input : List ℕ
  pub count : ℕ
  pub whole : length input ≡ count * every
  pub last : List ℕ
  pub due : (length last ≡ every) ⊎ ((length last < every) × IsAtEnd rest)
  pub reads : Consumes left rest (input ++ last)
  pub part : AppendsThenPart (text_on_way first every input)
      (display_change (screen_in start first input) (screen_in start first (input ++ last))) written grown
  pub controls : IsMadeOf drawing_finals drawing_controls (text_on_way first every input
      ++ display_change (screen_in start first input) (screen_in start first (input ++ last)))

-- Writing an update failed after a prefix of its text was written. The input was `left` before and is `rest` now;
-- the output was `written` before and is `grown` now.
abbrev pub WritesPart : (first : ScreenValue) (every : ℕ) → (left rest written grown : Option (List ℕ)) → Type 0
WritesPart first every left rest written grown =
    FailsAtFirst first left rest written grown ⊎ FailsLater first every left rest written grown

-- The effect of a run of `vtmirror`. The input is read to its end or up to a fault, and the updates that are due are
-- written. The function `error` converts a fault to the error that is returned.
pub record UpdatesOrFails {E : Type 0} (error : Fault → E) (first : ScreenValue) (every : ℕ)
    (left rest written grown : Option (List ℕ)) (result : Result (Unit {0}) E) : Type 0 where
  pub end : OnOk result (IsAtEnd rest)
  pub text : OnOk result (WritesToEnd first every left rest written grown)
  pub read : result ≡ Err (error Read) → WritesOnWay first every left rest written grown
  pub memory : result ≡ Err (error Memory) → WritesSome first every left rest written grown
  pub write : result ≡ Err (error Write) → WritesPart first every left rest written grown
