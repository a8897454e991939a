-- The copies of screens and the texts of updates that a mirror keeps for its viewers, and their invariant.
use Rattle.std.specs.Prelude.{◌≡◌, ◌⊎◌, ℕ, suc, ◌<◌, ◌≤◌, ◌==◌, ◌&&◌, nat_lt, Bool, false, List, filter, map}
use Rattle.std.specs.Prelude.{string_bytes, Option, Some, None, IfSome}
use Rattle.std.specs.BTreeMap.{is_at}
use Rattle.std.specs.Map.{lookup}
use Rattle.std.specs.Ordering.{nat_cmp}
use Rattle.vt_redraw.specs.declared.form.Form.{Form}
use Rattle.vt_redraw.specs.declared.form.Form.TheVariants.{Portable}
use Rattle.vt_screen.specs.Screen.{ScreenValue}
use Rattle.vt_screen.specs.declared.diff_options.DiffOptions.{DiffOptions}
use Rattle.vt_screen.specs.Again.{KeepsPlain}
use Rattle.vt_screen.specs.MadeOf.{IsMadeOf, drawing_controls, drawing_finals}
use Rattle.vt_screen.specs.Portable.{IsPortableAnywhere}
use Rattle.vt_screen.specs.Shown.{IsReader, KeepsRest, Redraws, display, form_of, shown_text_in}
use Rattle.vt100.specs.Parser.{ParserValue}
use Rattle.vt_mirror.specs.Mirror.{AreViewers, ViewersValue, IsMirror}
use Rattle.vt_mirror.specs.Calls.{greatest, IsDiffFor}
use Rattle.vt_mirror.specs.declared.copies.Note.{Note}
use Rattle.vt_mirror.specs.declared.texts.KeptDiff.{KeptDiff}
use Rattle.vt_mirror.specs.declared.texts.KeptRedraw.{KeptRedraw}
use Rattle.vt_mirror.specs.declared.texts.Texts.{Texts}

-- ==== The copies of screens that a mirror keeps for its viewers, numbered by version and shared between viewers, and
-- the texts of updates that it stores.

-- ---- the model of the kept values

pub record KeptValue : Type 0 where
  pub viewers : ViewersValue
  -- A copy of the current screen, if there is one.
  pub current : Option ScreenValue
  -- The stored texts of updates.
  pub texts : Texts
  -- The numbers of the viewers that received an update since the last input and the last resize.
  pub current_viewers : List ℕ

-- No text is stored.
abbrev pub no_texts : Texts
no_texts = record { drawn = None; scrolling = None; redraw = None }

-- The diff is one of the stored ones.
abbrev pub HoldsDiff : Texts → KeptDiff → Type 0
HoldsDiff texts diff = (texts.drawn ≡ Some diff) ⊎ (texts.scrolling ≡ Some diff)

-- The stored diff has the given options and the given text.
pub record IsKeptAs (options : DiffOptions) (text : List ℕ) (diff : KeptDiff) : Type 0 where
  pub options_are : diff.options ≡ options
  pub text_is : string_bytes diff.text ≡ text

-- The stored redraw is portable if `portable` is true, and has the given text.
pub record IsRedrawKeptAs (portable : Bool) (text : List ℕ) (redraw : KeptRedraw) : Type 0 where
  pub form_is : redraw.portable ≡ portable
  pub text_is : string_bytes redraw.text ≡ text

-- The recorded screens with their viewer numbers. The version number of each recorded copy is omitted.
abbrev pub screens_of : List (ℕ × Note) → List (ℕ × ScreenValue)
screens_of notes = map (λ (e : ℕ × Note). (e.0, e.1.screen)) notes

abbrev pub screen_of : Option Note → Option ScreenValue
screen_of None = None
screen_of (Some note) = Some note.screen

-- ---- copies with the same version are copies of the same screen

abbrev pub noted_at : List (ℕ × Note) → ℕ → Option Note
noted_at notes viewer = lookup (is_at (nat_cmp viewer)) notes

-- Whether two copies share a version number other than 0; a copy with the number 0 has no version.
abbrev pub have_one_version : (one other : Note) → Bool
have_one_version one other = nat_lt 0 one.version && (one.version == other.version)

-- Whether a copy has the same version as the kept copy of the current screen, and is therefore known to be a copy of
-- that screen.
abbrev pub is_of_current : (current note : Option Note) → Bool
is_of_current None _ = false
is_of_current (Some current) None = false
is_of_current (Some current) (Some note) = have_one_version note current

-- The viewers in `numbers` for which a copy of the current screen is recorded.
abbrev pub current_in : (numbers : List ℕ) → List (ℕ × Note) → (current : Option Note) → List ℕ
current_in numbers notes current = filter (λ viewer. is_of_current current (noted_at notes viewer)) numbers

-- All copies that are kept: the copies recorded for viewers, the copy of the current screen, and the copies from which
-- the stored diffs start.
pub record Copies : Type 0 where
  pub notes : List (ℕ × Note)
  pub current : Option Note
  pub texts : Texts

abbrev pub copies_of : List (ℕ × Note) → Option Note → Texts → Copies
copies_of notes current texts = record { notes = notes; current = current; texts = texts }

abbrev pub IsKept : Copies → Note → Type 0
IsKept copies note =
    ((viewer : ℕ) × (noted_at copies.notes viewer ≡ Some note))
    ⊎ ((copies.current ≡ Some note) ⊎ ((diff : KeptDiff) × HoldsDiff copies.texts diff × (diff.from ≡ note)))

-- The two copies share a version number other than 0; a copy with the number 0 has no version.
pub record AreOfOneVersion (one other : Note) : Type 0 where
  pub numbered : 0 < one.version
  pub equal : one.version ≡ other.version

pub record AreShared (copies : Copies) (version : ℕ) : Type 0 where
  -- No kept copy has a version above `version`, the last one that was assigned to a copy.
  pub below : (note : Note) → IsKept copies note → note.version ≤ version
  pub agree : (one other : Note) → IsKept copies one → IsKept copies other →
      AreOfOneVersion one other → one.screen ≡ other.screen

-- If a copy of the current screen is kept, it has a version; otherwise, a version number above `version` is available.
abbrev pub HasVersion : Option Note → (version : ℕ) → Type 0
HasVersion None version = version < greatest
HasVersion (Some note) version = 0 < note.version

pub record AreKept (value : ViewersValue) (copies : Copies) (version : ℕ) : Type 0 where
  pub viewers : AreViewers value
  pub shared : AreShared copies version
  pub numbered : HasVersion copies.current version

-- The copies recorded for viewers, with their versions reset to 0.
abbrev pub without_versions : List (ℕ × Note) → List (ℕ × Note)
without_versions notes = map (λ (e : ℕ × Note). (e.0, record (e.1) { version = 0 })) notes

-- A version number after `after` is available: either `after` equals `version` and `renewed` equals `notes`, or `after`
-- is 0 and `renewed` is `notes` without versions.
abbrev pub HaveNext : (version : ℕ) (notes : List (ℕ × Note)) (after : ℕ) (renewed : List (ℕ × Note)) → Type 0
HaveNext version notes after renewed =
    ((after ≡ version) × (renewed ≡ notes) × (version < greatest))
    ⊎ ((after ≡ 0) × (renewed ≡ without_versions notes))

-- The copy of the current screen is unchanged, or there was no copy and a new one with the next version was made.
abbrev pub IsRenewed : (screen : ScreenValue) → (version : ℕ) (current : Option Note)
    → (after : ℕ) (renewed : Option Note) → Type 0
IsRenewed screen version current after renewed =
    ((renewed ≡ current) × (after ≡ version))
    ⊎ ((note : Note) × (renewed ≡ Some note) × (note.version ≡ after)
    × (after ≡ suc version) × (note.screen ≡ screen) × (current ≡ None))

-- The copy `note` is the kept copy of the current screen `self`.
pub record IsCurrentNote (self : ScreenValue) (current : Option Note) (note : Note) : Type 0 where
  pub screen : note.screen ≡ self
  pub kept : current ≡ Some note

-- ==== The invariant of the copies of screens and the texts of updates that a mirror keeps.

-- The text is the redraw of the screen `self` in the given form.
pub record IsRedraw (form : Form) (self : ScreenValue) (text : List ℕ) : Type 0 where
  pub is : text ≡ shown_text_in form self
  pub redraws : Redraws (display self) (IsReader (display self)) KeepsRest text
  pub controls : IsMadeOf drawing_finals drawing_controls text
  pub again : KeepsPlain text
  pub portable : form ≡ Portable → IsPortableAnywhere self text

-- Each stored text is a diff to the screen `self`, or its redraw.
pub record AreTexts (self : ScreenValue) (texts : Texts) : Type 0 where
  pub diffs : (diff : KeptDiff) → HoldsDiff texts diff →
      IsDiffFor diff.options self diff.from.screen (string_bytes diff.text)
  pub redraw : IfSome texts.redraw (λ redraw. IsRedraw (form_of redraw.portable) self (string_bytes redraw.text))

-- The recorded screens have the mirror's size, the copy of the current screen equals the mirror's screen, and the
-- stored texts are diffs to that screen or its redraw.
pub record IsSharing (parser : ParserValue (Unit {0})) (kept : KeptValue) : Type 0 where
  pub sized : IsMirror (record { parser = parser; viewers = kept.viewers; current = kept.current_viewers })
  pub current : IfSome kept.current (λ screen. screen ≡ parser.screen)
  pub texts : AreTexts parser.screen kept.texts
