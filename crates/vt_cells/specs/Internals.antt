-- How cells, attributes, texts and buffers are stored; for models, private contracts and proofs only.
use Rattle.std.proofs.Common.{arith, ◌∙◌, refl, sym}
use Rattle.std.specs.Prelude.{◌≡◌, ℕ, ◌+◌, ◌*◌, ◌/◌, ◌%◌, ◌<◌, ◌==◌, ◌&&◌, Bool, zero, suc, if◌then◌else◌, ◌-◌, ◌≤◌}
use Rattle.std.specs.Prelude.{true, ◌++◌, replicate, slice_index, take, false, List, [], ◌∷◌, length, IsUtf8, decimal}
use Rattle.std.proofs.lemmas.Bool.Decides.{nat_tests}
use Rattle.std.proofs.lemmas.Grind.{common_steps, same_number_lists}
use Rattle.vt_cells.specs.Attrs.{Attrs, same_bool, same_intensity, default_attrs, same_attrs}
use Rattle.vt_cells.specs.declared.attrs.Intensity.{Intensity}
use Rattle.vt_cells.specs.declared.attrs.Intensity.TheVariants.{Normal, Bold, Dim}
use Rattle.vt_cells.specs.declared.color.Color.{Color}
use Rattle.vt_cells.specs.declared.color.Color.TheVariants.{Default, Idx, Rgb}
use Rattle.vt_cells.specs.Cell.{CellValue, blank, glyph, right_half, cell_of, is_right_half, is_wide, text_of, attrs_of}
use Rattle.vt_cells.specs.Cell.{IsCell}
use Rattle.vt_cells.specs.Glyph.{mark_limit}
use Rattle.vt_cells.specs.Op.{bytes_of_all, cursor_move_ops, intensity_number, part}
use Rattle.vt_cells.specs.declared.pos.Pos.{Pos}

-- ==== The packing of six attributes into one word; for models, private contracts and proofs only.

-- The color of the given kind (0 for default, 1 for palette, 2 or more for RGB), with as many of the given components
-- as its kind needs.
abbrev pub color_of_parts : (kind first second third : ℕ) → Color
color_of_parts zero first second third = Default
color_of_parts (suc zero) first second third = Idx first
color_of_parts (suc (suc kind)) first second third = Rgb first second third

-- A color packed into a number: its kind in the low two bits, and up to three components of eight bits each above the
-- kind.
abbrev pub color_bits : Color → ℕ
color_bits Default = 0
color_bits (Idx i) = 1 + 4 * i
color_bits (Rgb r g b) = 2 + 4 * (r + 256 * (g + 256 * b))

-- The color that is packed into the given number.
abbrev pub color_of : ℕ → Color
color_of bits = color_of_parts (bits % 4) (bits / 4 % 256) (bits / 4 / 256 % 256) (bits / 4 / 256 / 256 % 256)

-- The number fits in 26 bits and is a valid packed color.
pub record IsColorBits (bits : ℕ) : Type 0 where
  pub small : bits < 67108864
  pub back : color_bits (color_of bits) ≡ bits

-- A style: all attributes except the colors.
pub record StyleValue : Type 0 where
  pub intensity : Intensity
  pub italic : Bool
  pub underline : Bool
  pub inverse : Bool

-- The style of a set of attributes: all attributes except the colors.
abbrev pub style_of_attrs : Attrs → StyleValue
style_of_attrs attrs =
    record { intensity = attrs.intensity; italic = attrs.italic; underline = attrs.underline; inverse = attrs.inverse }

-- The two styles are equal.
unfoldable pub same_style : StyleValue → StyleValue → Bool
same_style a b =
    same_intensity a.intensity b.intensity
    && (same_bool a.italic b.italic && (same_bool a.underline b.underline && same_bool a.inverse b.inverse))

-- The two sets of attributes agree in italic, underline and inverse.
unfoldable pub same_switches : Attrs → Attrs → Bool
same_switches a b =
    same_bool a.italic b.italic && (same_bool a.underline b.underline && same_bool a.inverse b.inverse)

-- The intensity that a number encodes: normal for 0, bold for 1, and dim for any other number.
abbrev pub intensity_of : ℕ → Intensity
intensity_of zero = Normal
intensity_of (suc zero) = Bold
intensity_of (suc (suc bits)) = Dim

-- The number that encodes an intensity: 0 for normal, 1 for bold and 2 for dim.
abbrev pub intensity_bits : Intensity → ℕ
intensity_bits Normal = 0
intensity_bits Bold = 1
intensity_bits Dim = 2

-- The style encoded by the low five bits of a number: two bits for the intensity, and one bit each for italic,
-- underline and inverse.
abbrev pub style_of : ℕ → StyleValue
style_of bits = record {
  intensity = intensity_of (bits % 4);
  italic = bits / 4 % 2 == 1;
  underline = bits / 8 % 2 == 1;
  inverse = bits / 16 % 2 == 1;
}

-- A style (all attributes except the colors), packed into the low five bits of a number.
abbrev pub style_bits : StyleValue → ℕ
style_bits style =
    intensity_bits style.intensity + (if style.italic then 4 else 0)
    + (if style.underline then 8 else 0) + (if style.inverse then 16 else 0)

-- The attributes with the given packed style, packed foreground color and packed background color.
abbrev pub attrs_of_bits : (style fgcolor bgcolor : ℕ) → Attrs
attrs_of_bits style fgcolor bgcolor = record {
  fgcolor = color_of fgcolor;
  bgcolor = color_of bgcolor;
  intensity = (style_of style).intensity;
  italic = (style_of style).italic;
  underline = (style_of style).underline;
  inverse = (style_of style).inverse;
}

-- The attributes encoded by a packed word: five bits of style, then 26 bits each for the foreground and the background
-- color.
abbrev pub attrs_of_word : ℕ → Attrs
attrs_of_word word = attrs_of_bits (word % 32) (word / 32 % 67108864) (word / 32 / 67108864)

-- The word that combines a packed style, a packed foreground color and a packed background color.
abbrev pub word_of : (style fgcolor bgcolor : ℕ) → ℕ
word_of style fgcolor bgcolor = style + 32 * (fgcolor + 67108864 * bgcolor)

-- The word into which a set of attributes is packed.
abbrev pub attrs_word : Attrs → ℕ
attrs_word attrs = word_of (style_bits (style_of_attrs attrs)) (color_bits attrs.fgcolor) (color_bits attrs.bgcolor)

-- The word is a valid packing of attributes.
pub record IsAttrsWord (word : ℕ) : Type 0 where
  pub style : style_bits (style_of (word % 32)) ≡ word % 32
  pub fgcolor : IsColorBits (word / 32 % 67108864)
  pub bgcolor : IsColorBits (word / 32 / 67108864)

-- Unpacking a valid attribute word and packing the result gives the same word.
pub word_back : (word : ℕ) → IsAttrsWord word → attrs_word (attrs_of_word word) ≡ word
word_back word h =
    (λ i. word_of (h.style i) (h.fgcolor.back i) (h.bgcolor.back i)) ∙ omega arith

-- ==== How the fields of a cell represent its value; for the cell's model, private contracts and proofs only.

-- The size of a cell's text array in bytes: room for `mark_limit` bytes and one more character of up to four bytes.
abbrev pub text_room : ℕ
text_room = mark_limit + 4

-- The shape of a cell: the length of its text in bytes, and whether the cell is a wide glyph or a continuation cell.
pub record ShapeValue : Type 0 where
  pub len : ℕ
  pub wide : Bool
  pub right_half : Bool

-- The two cell shapes are equal.
unfoldable pub same_shape : ShapeValue → ShapeValue → Bool
same_shape a b = (a.len == b.len) && (same_bool a.wide b.wide && same_bool a.right_half b.right_half)

-- The shape of a blank.
abbrev pub blank_shape : ShapeValue
blank_shape = record { len = 0; wide = false; right_half = false }

-- The shape of a cell: the length of its text in bytes, and whether the cell is a wide glyph or a continuation cell.
abbrev pub shape_of_cell : CellValue → ShapeValue
shape_of_cell cell = record { len = length (text_of cell); wide = is_wide cell; right_half = is_right_half cell }

-- The cell shape encoded by a byte: five bits hold the length of the cell's text, and two bits indicate whether the
-- cell is a wide glyph and whether it is a continuation cell.
abbrev pub shape_of : ℕ → ShapeValue
shape_of bits = record { len = bits % 32; wide = bits / 32 % 2 == 1; right_half = bits / 64 == 1 }

-- The byte into which the shape of a cell is packed.
abbrev pub shape_bits : ShapeValue → ℕ
shape_bits shape = shape.len + (if shape.wide then 32 else 0) + (if shape.right_half then 64 else 0)

-- The shape of a continuation cell.
abbrev pub half_shape : ShapeValue
half_shape = record { len = 0; wide = false; right_half = true }

-- The head of a cell: everything except the bytes of the cell's text, that is, the attributes and the shape.
pub record HeadValue : Type 0 where
  pub attrs : Attrs
  pub shape : ShapeValue

-- The heads of two cells are equal.
unfoldable pub same_head : HeadValue → HeadValue → Bool
same_head a b = same_shape a.shape b.shape && same_attrs a.attrs b.attrs

-- The head of a cell: everything except the bytes of the cell's text, that is, the attributes and the shape.
abbrev pub head_of_cell : CellValue → HeadValue
head_of_cell cell = record { attrs = attrs_of cell; shape = shape_of_cell cell }

-- The head (attributes and shape) encoded by a word: the low seven bits hold the shape, and the remaining bits hold the
-- packed attributes.
abbrev pub head_of : ℕ → HeadValue
head_of word = record { attrs = attrs_of_word (word / 128); shape = shape_of (word % 128) }

-- The word into which the head of a cell (its attributes and shape) is packed.
abbrev pub head_word : HeadValue → ℕ
head_word head = shape_bits head.shape + 128 * attrs_word head.attrs

-- The word is a valid packed form of a cell's head (its attributes and shape).
pub record IsHead (word : ℕ) : Type 0 where
  pub shape : shape_bits (shape_of (word % 128)) ≡ word % 128
  pub attrs : IsAttrsWord (word / 128)

-- Unpacking the head of a cell (its attributes and shape) from a valid word and packing it again gives the same word.
pub head_back : (word : ℕ) → IsHead word → head_word (head_of word) ≡ word
head_back word h = (λ i. h.shape i + 128 * word_back (word / 128) h.attrs i) ∙ omega arith

-- The given fields describe a valid cell: `text` is UTF-8 and has `len` bytes, at most `text_room`; a wide cell has
-- text; a continuation cell (`right`) is not wide, has no text, and has default attributes; and the cell satisfies
-- `IsCell`.
pub record IsKept (len : ℕ) (text : List ℕ) (wide right : Bool) (attrs : Attrs) : Type 0 where
  pub bounded : len ≤ text_room
  pub measured : length text ≡ len
  pub utf8 : IsUtf8 text
  pub half_empty : right ≡ true → len ≡ 0
  pub half_plain : right ≡ true → attrs ≡ default_attrs
  pub half_narrow : right ≡ true → wide ≡ false
  pub wide_text : wide ≡ true → 0 < len
  pub sound : IsCell (cell_of text wide right attrs)

-- The invariant of a stored cell: its fields are valid, its text array has `text_room` bytes, and the bytes after the
-- text are zero.
pub record IsStored (head : HeadValue) (contents : List ℕ) : Type 0 where
  pub kept : IsKept head.shape.len (take head.shape.len contents) head.shape.wide head.shape.right_half head.attrs
  pub room : length contents ≡ text_room
  pub zeros : (k : ℕ) → head.shape.len ≤ k → slice_index contents k ≡ 0

-- The cell represented by a head (attributes and shape) and a text array.
abbrev pub cell_of_parts : HeadValue → List ℕ → CellValue
cell_of_parts head contents =
    cell_of (take head.shape.len contents) head.shape.wide head.shape.right_half head.attrs

-- The text, padded with zeros to the size of a cell's text array.
abbrev pub padded_text : List ℕ → List ℕ
padded_text text = text ++ replicate (text_room - length text) 0

-- The first eight bytes of the text array of a cell with the given text.
unfoldable pub first_eight_bytes : List ℕ → List ℕ
first_eight_bytes text = take 8 (padded_text text)

-- If all bytes of a cell's text array after the first `len` are zero, padding the first `len` bytes with zeros gives
-- the array.
pub padded_back : (len : ℕ) (contents : List ℕ) → length contents ≡ text_room → len ≤ text_room
    → ((k : ℕ) → len ≤ k → slice_index contents k ≡ 0) → padded_text (take len contents) ≡ contents
padded_back len contents room bounded zeros =
    same_number_lists _ _ (grind (arith, common_steps)) (λ k lt. grind (arith, common_steps, zeros k))

-- A cell that has text and is not a continuation cell is a glyph.
pub cell_of-text : (text : List ℕ) (wide : Bool) (attrs : Attrs) →
    1 ≤ length text → cell_of text wide false attrs ≡ glyph text wide attrs
cell_of-text text wide attrs low = grind (arith, nat_tests)

-- A cell built from valid fields has the head (attributes and shape) that these fields describe.
pub cell_head : (len : ℕ) (text : List ℕ) (wide right : Bool) (attrs : Attrs) → IsKept len text wide right attrs
    → head_of_cell (cell_of text wide right attrs)
    ≡ record { attrs = attrs; shape = record { len = len; wide = wide; right_half = right } }
cell_head len text wide true attrs kept = λ i. record {
  attrs = sym (kept.half_plain refl) i;
  shape = record { len = sym (kept.half_empty refl) i; wide = sym (kept.half_narrow refl) i; right_half = true };
}
cell_head len [] true false attrs kept = absurd (omega (arith, kept.measured, kept.wide_text refl))
cell_head len [] false false attrs kept =
    λ i. record { attrs = attrs; shape = record { len = kept.measured i; wide = false; right_half = false } }
cell_head len (b ∷ text) wide false attrs kept =
    rw (cell_of-text (b ∷ text) wide attrs (omega arith))
    (λ i. record { attrs = attrs; shape = record { len = kept.measured i; wide = wide; right_half = false } })

-- A cell built from valid fields has the text that these fields contain.
pub cell_text : (len : ℕ) (text : List ℕ) (wide right : Bool) (attrs : Attrs) → IsKept len text wide right attrs
    → text_of (cell_of text wide right attrs) ≡ text
cell_text len [] wide true attrs kept = refl
cell_text len (b ∷ text) wide true attrs kept = absurd (omega (arith, kept.measured, kept.half_empty refl))
cell_text len [] wide false attrs kept = refl
cell_text len (b ∷ text) wide false attrs kept = rw (cell_of-text (b ∷ text) wide attrs (omega arith)) refl

-- A cell built from a valid head (attributes and shape) and text array has that head.
pub stored_head : (head : HeadValue) (contents : List ℕ) → IsStored head contents
    → head_of_cell (cell_of_parts head contents) ≡ head
stored_head head contents h = cell_head _ _ _ _ _ h.kept

-- If a cell is built from a valid head (attributes and shape) and text array, its text, padded with zeros, equals the
-- array.
pub stored_contents : (head : HeadValue) (contents : List ℕ) → IsStored head contents
    → padded_text (text_of (cell_of_parts head contents)) ≡ contents
stored_contents head contents h =
    (λ i. padded_text (cell_text _ _ _ _ _ h.kept i))
    ∙ padded_back head.shape.len contents h.room h.kept.bounded h.zeros

-- The cell itself, or the glyph of a space with the same attributes if the cell is a blank.
abbrev pub cell_as_glyph : CellValue → CellValue
cell_as_glyph (blank attrs) = glyph (0x20 ∷ []) false attrs
cell_as_glyph (glyph text wide attrs) = glyph text wide attrs
cell_as_glyph right_half = right_half

-- ==== The text of a control sequence while it is being written; for private contracts and proofs only.

-- The given numbers in decimal. The first number is preceded by the given character, and each of the others by `;`.
abbrev pub numbers_after : ℕ → List ℕ → List ℕ
numbers_after lead [] = []
numbers_after lead (n ∷ ns) = (lead ∷ decimal n) ++ numbers_after 0x3B ns

-- `lead_after lead ns` is the character to write before the number that follows the numbers `ns`: `lead` if `ns` is
-- empty, and `;` otherwise.
abbrev pub lead_after : ℕ → List ℕ → ℕ
lead_after lead [] = lead
lead_after lead (n ∷ ns) = 0x3B

-- Appending the numbers `ns` in decimal, with `lead` before the first number, changes the text from `old` to `new` and
-- adds at most `most` bytes. `following` is the character to write before the next number.
pub record AppendsNumbers (old new : List ℕ) (lead following most : ℕ) (ns : List ℕ) : Type 0 where
  pub text : new ≡ old ++ numbers_after lead ns
  pub next : following ≡ lead_after lead ns
  pub room : length new ≤ length old + most

-- The SGR parameters for the differences in italics, underline and inverse between two sets of attributes.
abbrev pub switches_part : Attrs → Attrs → List ℕ
switches_part was new =
    part (same_bool was.italic new.italic) ((if new.italic then 3 else 23) ∷ [])
    ++ (part (same_bool was.underline new.underline) ((if new.underline then 4 else 24) ∷ [])
    ++ part (same_bool was.inverse new.inverse) ((if new.inverse then 7 else 27) ∷ []))

-- The SGR parameters for the difference in style (all attributes except the colors) between two sets of attributes.
abbrev pub style_part : Attrs → Attrs → List ℕ
style_part was new =
    part (same_intensity was.intensity new.intensity) (intensity_number new.intensity ∷ []) ++ switches_part was new

-- The bytes of the sequence that moves the cursor from `start` to `stop`; empty if the two positions are equal.
abbrev pub move_text : (start stop : Pos) → List ℕ
move_text start stop = bytes_of_all (cursor_move_ops start.row start.col stop.row stop.col)

-- ==== The contents of a buffer that collects text for a sink; for private contracts and proofs only.

-- The invariant of a buffer: the bytes in use are UTF-8, and there are `len` of them, at most 256.
pub record IsBuffer (len : ℕ) (text : List ℕ) : Type 0 where
  pub bounded : len ≤ 256
  pub measured : length text ≡ len
  pub utf8 : IsUtf8 text

-- The text that was already written to the sink, followed by the text that is still in the buffer.
unfoldable pub buffered_text : List ℕ → List ℕ → List ℕ
buffered_text text buffer = text ++ buffer
