-- The items of a packed row: one for each blank and each glyph. A wide glyph and its continuation cell are one item.
use Rattle.std.specs.Prelude.{ℕ, Bool, true, false, ◌+◌, ◌-◌, ◌==◌, ◌&&◌, nat_le, nat_lt, List, [], ◌∷◌, ◌++◌}
use Rattle.std.specs.Prelude.{length, take, drop, slice_index, if◌then◌else◌}
use Rattle.std.specs.List.{flat_map}
use Rattle.vt_cells.specs.Attrs.{Attrs}
use Rattle.vt_cells.specs.Cell.{CellValue, blank, glyph, right_half}
use Rattle.vt_cells.specs.Glyph.{IsGlyphText}

-- The style of a blank or a glyph: its attributes, and whether it is a wide glyph.
pub record Style : Type 0 where
  pub attrs : Attrs
  pub wide : Bool

-- An item of a packed row: a blank, a narrow glyph, or a wide glyph with its continuation cell. A blank has no text.
pub record Item : Type 0 where
  pub style : Style
  pub text : List ℕ

-- The cells of the item with the given width, text and attributes.
abbrev pub cells_of_parts : (wide : Bool) → (text : List ℕ) → Attrs → List CellValue
cells_of_parts true text attrs = glyph text true attrs ∷ right_half ∷ []
cells_of_parts false [] attrs = blank attrs ∷ []
cells_of_parts false (byte ∷ text) attrs = glyph (byte ∷ text) false attrs ∷ []

-- The cells of an item: a blank, a narrow glyph, or a wide glyph and its continuation cell.
abbrev pub item_cells : Item → List CellValue
item_cells item = cells_of_parts item.style.wide item.text item.style.attrs

-- The cells of a list of items, from left to right.
abbrev pub cells_of : List Item → List CellValue
cells_of items = flat_map item_cells items

-- The first cell of the item with the given width, text and attributes.
abbrev pub cell_of_parts : (wide : Bool) → (text : List ℕ) → Attrs → CellValue
cell_of_parts true text attrs = glyph text true attrs
cell_of_parts false [] attrs = blank attrs
cell_of_parts false (byte ∷ text) attrs = glyph (byte ∷ text) false attrs

-- The first cell of an item: a blank or a glyph.
abbrev pub first_cell : Item → CellValue
first_cell item = cell_of_parts item.style.wide item.text item.style.attrs

-- The style with the given attributes and wide flag.
abbrev pub style_of : Attrs → Bool → Style
style_of attrs wide = record { attrs = attrs; wide = wide }

-- The items of a row: one for each cell that is not a continuation cell.
abbrev pub items_of : List CellValue → List Item
items_of [] = []
items_of (blank attrs ∷ cells) = record { style = style_of attrs false; text = [] } ∷ items_of cells
items_of (glyph text wide attrs ∷ cells) = record { style = style_of attrs wide; text = text } ∷ items_of cells
items_of (right_half ∷ cells) = items_of cells

-- The text is that of a blank, of a narrow glyph, or, if the flag is true, of a wide glyph.
abbrev pub IsItemText : (wide : Bool) → List ℕ → Type 0
IsItemText true text = IsGlyphText text true
IsItemText false [] = Unit {0}
IsItemText false (byte ∷ text) = IsGlyphText (byte ∷ text) false

-- The text of the item is valid for its width.
abbrev pub IsItem : Item → Type 0
IsItem item = IsItemText item.style.wide item.text

-- ==== The texts of items, one after the other

-- The number of bytes of a UTF-8 character, given its first byte (Unicode Standard, section 3.9, Table 3-6); 0 if no
-- character begins with this byte because it is a continuation byte.
unfoldable pub lead_len : ℕ → ℕ
lead_len byte =
    if nat_lt byte 0x80 then 1 else if nat_lt byte 0xC0 then 0 else if nat_lt byte 0xE0 then 2
    else if nat_lt byte 0xF0 then 3 else 4

-- The text is a single character: its length is the one that its first byte indicates.
abbrev pub is_single : List ℕ → Bool
is_single [] = false
is_single (byte ∷ text) = length (byte ∷ text) == lead_len byte

-- The bytes that represent a text in a packed row: the text itself if it is a single character. Otherwise, a byte from
-- 0x80 to 0xBF, which holds the length of the text, precedes the text.
unfoldable pub stored_text : List ℕ → List ℕ
stored_text text = if is_single text then text else (0x80 + length text) ∷ text

-- The bytes that represent the texts of a list of items.
abbrev pub stored_texts : List Item → List ℕ
stored_texts [] = []
stored_texts (item ∷ items) = stored_text item.text ++ stored_texts items

-- The byte holds the length of the text after it.
abbrev pub is_length : ℕ → Bool
is_length byte = nat_le 0x80 byte && nat_lt byte 0xC0

-- The number of bytes before a stored text, given the first stored byte: 1 if that byte holds a length, otherwise 0.
unfoldable pub skipped_len : ℕ → ℕ
skipped_len byte = if is_length byte then 1 else 0

-- The length of a stored text, given the first stored byte.
unfoldable pub text_len : ℕ → ℕ
text_len byte = if is_length byte then byte - 0x80 else lead_len byte

-- The first text of a list of stored texts.
unfoldable pub first_text : List ℕ → List ℕ
first_text bytes = take (text_len (slice_index bytes 0)) (drop (skipped_len (slice_index bytes 0)) bytes)

-- The stored bytes after the first text.
unfoldable pub after_first : List ℕ → List ℕ
after_first bytes = drop (skipped_len (slice_index bytes 0) + text_len (slice_index bytes 0)) bytes
