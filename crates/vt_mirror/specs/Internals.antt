-- Auxiliary definitions that are cited only by the contracts of private functions.
use Rattle.std.specs.Prelude.{◌≡◌, ℕ, ◌*◌, ◌+◌, ◌<◌, ◌≤◌, Bool, false, true, List, ◌∷◌, length, Some, None, string_bytes}
use Rattle.std.specs.Io.KnownBytes.{Appends, Consumes, IsAtEnd}
use Rattle.std.specs.List.{AllByRecursion}
use Rattle.std.specs.declared.option.Option.{Option}
use Rattle.vt_grid.specs.Page.{SameSize}
use Rattle.vt_scan.specs.Automaton.{start}
use Rattle.vt_scan.specs.Scanner.{StandsFor}
use Rattle.vt_screen.specs.Chain.{last_screen}
use Rattle.vt100.specs.Parser.{Ran, does_nothing}
use Rattle.vt_mirror.specs.Calls.{GivesUpdate, default_options}
use Rattle.vt_mirror.specs.Mirror.{MirrorValue, is_viewer, note_of}
use Rattle.vt_mirror.specs.Runs.{IsUpdatedAfter, screens_on_way, text_on_way}
use Rattle.vt_show.specs.Shown.{AppendsPart}
use Rattle.vt_mirror.specs.declared.update.Update.{Update}
use Rattle.vt_mirror.specs.declared.update.Update.TheVariants.{Diff, Full}

-- The text of an update.
abbrev pub text_of_update : Update → List ℕ
text_of_update (Diff text) = string_bytes text
text_of_update (Full rows cols text) = string_bytes text

-- The viewer got an update, and the text of the update was written: the output was `written` before and is `grown` now.
pub record WritesUpdate (old : MirrorValue) (viewer : ℕ) (new : MirrorValue)
    (written grown : Option (List ℕ)) : Type 0 where
  pub update : Update
  pub gives : GivesUpdate default_options old viewer update new
  pub appends : Appends written grown (text_of_update update)

-- The viewer got an update, and a prefix of the update's text was written: the output was `written` before and is
-- `grown` now.
pub record WritesUpdatePart (old : MirrorValue) (viewer : ℕ) (new : MirrorValue)
    (written grown : Option (List ℕ)) : Type 0 where
  pub update : Update
  pub gives : GivesUpdate default_options old viewer update new
  pub part : AppendsPart written grown (text_of_update update)

-- The mirror read `bytes` from the input. The input was `left` before and is `rest` now. The mirror's viewers and size
-- are unchanged.
pub record ReadsBytes (bytes : List ℕ) (old new : MirrorValue) (left rest : Option (List ℕ)) : Type 0 where
  pub reads : Consumes left rest bytes
  pub ran : Ran does_nothing old.parser bytes new.parser
  pub viewers : new.viewers ≡ old.viewers
  pub size : SameSize new.parser.screen.page old.parser.screen.page

-- The mirror read `every` bytes if `is_whole` is true, and otherwise all remaining bytes, which were fewer. The input
-- was `left` before and is `rest` now.
pub record ReadsStretch (every : ℕ) (is_whole : Bool)
    (old new : MirrorValue) (left rest : Option (List ℕ)) : Type 0 where
  pub bytes : List ℕ
  pub reads : ReadsBytes bytes old new left rest
  pub whole : is_whole ≡ true → length bytes ≡ every
  pub fewer : is_whole ≡ false → length bytes < every
  pub end : is_whole ≡ false → IsAtEnd rest

-- The mirror has read some of the `every` bytes that precede the next update, and `still` of these bytes remain to be
-- read.
pub record InStretch (every still : ℕ) (old new : MirrorValue) (left rest : Option (List ℕ)) : Type 0 where
  pub bytes : List ℕ
  pub reads : ReadsBytes bytes old new left rest
  pub nonempty : 0 < still
  pub count : length bytes + still ≡ every

-- A read failed before `every` bytes were read for the next update. The input was `left` before and is `rest` now.
pub record ReadsFewer (every : ℕ) (left rest : Option (List ℕ)) : Type 0 where
  pub bytes : List ℕ
  pub fewer : length bytes < every
  pub reads : Consumes left rest bytes

-- An allocation failed before the next update, after at most `every` bytes were read. The input was `left` before
-- and is `rest` now.
pub record ReadsAtMost (every : ℕ) (left rest : Option (List ℕ)) : Type 0 where
  pub bytes : List ℕ
  pub few : length bytes ≤ every
  pub reads : Consumes left rest bytes

-- The mirror's parser is in ground state, the given viewer exists, and no screen is recorded for this viewer.
pub record IsBegun (mirror : MirrorValue) (viewer : ℕ) : Type 0 where
  pub scanner : StandsFor mirror.parser.scanner start
  pub views : is_viewer mirror.viewers viewer ≡ true
  pub note : note_of mirror.viewers viewer ≡ None

-- All updates due so far have been written, and the number of bytes read is a multiple of `every`. The mirror was
-- `old` at the start and is `new` now. The input was `left` before and is `rest` now; the output was `written`
-- before and is `grown` now.
pub record IsWritten (every viewer : ℕ) (old new : MirrorValue) (left rest written grown : Option (List ℕ)) : Type 0 where
  pub input : List ℕ
  pub count : ℕ
  pub length_is : length input ≡ count * every
  pub reads : Consumes left rest input
  pub ran : Ran does_nothing old.parser input new.parser
  pub size : SameSize new.parser.screen.page old.parser.screen.page
  pub views : is_viewer new.viewers viewer ≡ true
  pub note : note_of new.viewers viewer ≡ Some new.parser.screen
  pub last : last_screen old.parser.screen (screens_on_way old.parser.screen every input) ≡ new.parser.screen
  pub updated : AllByRecursion (IsUpdatedAfter old.parser.screen)
      (old.parser.screen ∷ screens_on_way old.parser.screen every input)
  pub appends : Appends written grown (text_on_way old.parser.screen every input)
