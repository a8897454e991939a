-- Characters on whose width terminals agree. Terminals differ in the width of combining characters, emoji, characters
-- that their version of Unicode does not know, and glyphs of several characters (UAX #11, UTS #51).
use Rattle.std.specs.Prelude.{ℕ, ◌&&◌, ◌||◌, nat_le, not, Bool, true, false, List, [], ◌∷◌, chars}
use Rattle.vt_cells.specs.Cell.{CellValue, blank, glyph, right_half}

-- `is_between low high c` holds if `c` is in the inclusive range from `low` to `high`.
abbrev pub is_between : (low high c : ℕ) → Bool
is_between low high c = nat_le low c && nat_le c high

-- Letters, digits and punctuation of the Latin, Greek, Cyrillic, Armenian and Hebrew scripts: those below U+0600.
unfoldable pub is_early_letter : ℕ → Bool
is_early_letter c =
    is_between 0xA1 0xAC c
    || (is_between 0xAE 0x2FF c || (is_between 0x370 0x377 c || (is_between 0x37A 0x37F c || (
    is_between 0x384 0x38A c || (is_between 0x38C 0x38C c || (is_between 0x38E 0x3A1 c || (
    is_between 0x3A3 0x482 c || (is_between 0x48A 0x52F c || (is_between 0x531 0x556 c || (
    is_between 0x561 0x587 c || is_between 0x5D0 0x5EA c))))))))))

-- Letters, digits and punctuation of the Arabic, Devanagari, Thai, Georgian and Latin scripts: those from U+0600 to
-- U+1FFF.
unfoldable pub is_late_letter : ℕ → Bool
is_late_letter c =
    is_between 0x620 0x64A c
    || (is_between 0x660 0x66F c || (is_between 0x671 0x6D5 c || (is_between 0x904 0x939 c || (
    is_between 0x958 0x961 c || (is_between 0x964 0x970 c || (is_between 0xE01 0xE30 c || (
    is_between 0xE32 0xE33 c || (is_between 0xE3F 0xE46 c || (is_between 0xE4F 0xE5B c || (
    is_between 0x10D0 0x10FC c || is_between 0x1E00 0x1EFF c))))))))))

-- Arabic presentation forms and halfwidth katakana.
unfoldable pub is_high_letter : ℕ → Bool
is_high_letter c =
    is_between 0xFB50 0xFBB1 c
    || (is_between 0xFE70 0xFE74 c || (is_between 0xFE76 0xFEFC c || is_between 0xFF61 0xFF9D c))

-- Letters, digits and punctuation of scripts, other than those in ASCII. Combining characters, the soft hyphen and
-- unassigned characters are not among them.
unfoldable pub is_certain_letter : ℕ → Bool
is_certain_letter c = is_early_letter c || (is_late_letter c || is_high_letter c)

-- Dashes, quotation marks and other general punctuation, currency signs, arrows, mathematical operators, parts of
-- brackets, box drawing, block elements, geometric shapes, stars, check marks and Braille patterns: those from U+2000
-- to U+2FFF.
unfoldable pub is_low_symbol : ℕ → Bool
is_low_symbol c =
    is_between 0x2500 0x25A9 c
    || (is_between 0x2010 0x2027 c || (is_between 0x2030 0x203B c || (is_between 0x20A0 0x20BD c || (
    is_between 0x2190 0x2193 c || (is_between 0x219A 0x21A8 c || (is_between 0x21AB 0x21FF c || (
    is_between 0x2200 0x22FF c || (is_between 0x239B 0x23CE c || (is_between 0x25AC 0x25B5 c || (
    is_between 0x25B7 0x25BF c || (is_between 0x25C1 0x25FA c || (is_between 0x2605 0x2606 c || (
    is_between 0x2713 0x2713 c || (is_between 0x2717 0x2718 c || (is_between 0x2768 0x2775 c || (
    is_between 0x2794 0x2794 c || (is_between 0x2798 0x27A0 c || is_between 0x2800 0x28FF c)))))))))))))))))

-- The private characters that Powerline uses.
unfoldable pub is_powerline : ℕ → Bool
is_powerline c = is_between 0xE0A0 0xE0A2 c || is_between 0xE0B0 0xE0B3 c

-- Symbols and punctuation that belong to no script. Characters with an emoji form (UTS #51) are not among them.
unfoldable pub is_certain_symbol : ℕ → Bool
is_certain_symbol c = is_low_symbol c || is_powerline c

-- Printable ASCII, and letters and symbols that take one column, unless a terminal shows characters of ambiguous width
-- (UAX #11) in two columns.
unfoldable pub is_certain_narrow : ℕ → Bool
is_certain_narrow c = is_between 0x20 0x7E c || (is_certain_symbol c || is_certain_letter c)

-- CJK punctuation, kana, bopomofo, the ideographs of Unicode 8.0 in the blocks CJK Unified Ideographs and its Extension
-- A, Hangul syllables, and fullwidth forms. They take two columns (UAX #11).
unfoldable pub is_certain_wide : ℕ → Bool
is_certain_wide c =
    is_between 0x4E00 0x9FD5 c
    || (is_between 0xAC00 0xD7A3 c || (is_between 0x3000 0x3029 c || (is_between 0x3041 0x3096 c || (
    is_between 0x309B 0x30FF c || (is_between 0x3105 0x312D c || (is_between 0x3400 0x4DB5 c || (
    is_between 0xF900 0xFA6D c || (is_between 0xFF01 0xFF60 c || is_between 0xFFE0 0xFFE6 c))))))))

-- Whether terminals agree on the width of a character. A character that is left out costs output a few bytes, since the
-- cursor is then placed anew after it.
abbrev pub is_certain : ℕ → Bool
is_certain c = is_certain_narrow c || is_certain_wide c

-- Whether the characters are a single one, on whose width terminals agree.
abbrev pub are_certain : List ℕ → Bool
are_certain [] = false
are_certain (c ∷ []) = is_certain c
are_certain (c ∷ d ∷ cs) = false

-- Whether terminals agree on the width of a glyph with the given text, in UTF-8.
abbrev pub is_certain_text : List ℕ → Bool
is_certain_text text = are_certain (chars text)

-- Whether the cell is a blank, or a narrow glyph on whose width terminals agree.
abbrev pub is_certain_cell : CellValue → Bool
is_certain_cell (blank attrs) = true
is_certain_cell (glyph text wide attrs) = not wide && is_certain_text text
is_certain_cell right_half = false
