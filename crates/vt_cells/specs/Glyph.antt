-- The text of a glyph: one character of nonzero width, followed by combining characters.
use Rattle.std.specs.Prelude.{◌≡◌, ◌≢◌, ℕ, Bool, true, false, ◌==◌, nat_lt, min, List, [], ◌∷◌}
use Rattle.std.specs.Prelude.{◌++◌, length, Option, Some, None, chars, if◌then◌else◌}
use Rattle.std.specs.List.{list_any, AllByRecursion}
use Rattle.std.specs.Char.{encode_utf8, IsScalar}
use Rattle.unicode_width.specs.Width.{char_width, str_width}

-- The number of columns of a character, given the width that `unicode_width` returns for the character: that width, but
-- at most 2. A character without a width takes one column if it is U+0100 or above; otherwise it is a control
-- character, and the result is `None` (UAX #11).
abbrev pub columns_or : ℕ → Option ℕ → Option ℕ
columns_or c (Some width) = Some (min width 2)
columns_or c None = if nat_lt c 0x100 then None else Some 1

-- The number of columns that a character takes; `None` for a control character.
unfoldable pub columns_of : ℕ → Option ℕ
columns_of c = columns_or c (char_width false c)

-- The character is U+FE0F, variation selector 16, which requests emoji presentation.
abbrev pub is_selector : ℕ → Bool
is_selector c = c == 0xFE0F

-- The text takes more than one column according to `unicode_width`.
unfoldable pub is_wide_text : List ℕ → Bool
is_wide_text text = nat_lt 1 (str_width false (chars text))

-- The text length, in bytes, at which a cell stops accepting combining characters.
abbrev pub mark_limit : ℕ
mark_limit = 26

-- The text has fewer than `mark_limit` bytes, so that a combining character can be appended to it.
abbrev pub has_room : List ℕ → Bool
has_room text = nat_lt (length text) mark_limit

-- The text with a combining character appended; unchanged if the text already has `mark_limit` or more bytes.
abbrev pub marked_text : List ℕ → ℕ → List ℕ
marked_text text mark = if has_room text then text ++ encode_utf8 mark else text

-- The character is a combining character, that is, it takes no column of its own.
abbrev pub IsMark : ℕ → Type 0
IsMark c = IsScalar c × (columns_of c ≡ Some 0)

-- `Joins text marks whole` holds if appending the combining characters `marks` to `text` gives `whole`, and the text is
-- shorter than `mark_limit` bytes before each of them is appended.
abbrev pub Joins : List ℕ → List ℕ → List ℕ → Type 0
Joins text [] whole = text ≡ whole
Joins text (mark ∷ marks) whole = (has_room text ≡ true) × Joins (text ++ encode_utf8 mark) marks whole

-- The number of columns of a glyph: 2 if it is wide, otherwise 1.
abbrev pub glyph_columns : Bool → ℕ
glyph_columns wide = if wide then 2 else 1

-- The text is valid for a glyph of the given width: a first character that takes one or two columns and is not U+FFFD,
-- followed by combining characters.
pub record IsGlyphText (text : List ℕ) (wide : Bool) : Type 0 where
  pub first : ℕ
  pub marks : List ℕ
  pub scalar : IsScalar first
  pub drawn : columns_of first ≢ Some 0
  pub shown : columns_of first ≢ None
  pub reported : first ≢ 0xFFFD
  pub are_marks : AllByRecursion IsMark marks
  pub spelled : Joins (encode_utf8 first) marks text
  -- If U+FE0F is not among the combining characters, the glyph has the width of its first character.
  pub width : list_any is_selector marks ≡ false → columns_of first ≡ Some (glyph_columns wide)
