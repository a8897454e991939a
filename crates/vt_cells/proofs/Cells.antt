-- Cells: their fields, edits that keep them valid, and the meaning of `==`.
use Rattle.std.proofs.Common.{◌≡◌, ◌≢◌, ℕ, ◌≤◌, Bool, true, false, [], ◌∷◌, Some, arith, length, refl, ◌+◌, ◌<◌, List}
use Rattle.std.proofs.Common.{◌++◌, sym, length-append, zero, suc, replicate, slice_index, rules, IsTrue, ◌==◌, take}
use Rattle.std.proofs.Common.{ap, ◌∙◌, ◌*◌, ◌/◌, ◌%◌, ◌^◌, slice_index_or, subst, drop, All, inl, inr, ◌-◌}
use Rattle.std.specs.Char.{encode_utf8, IsScalar}
use Rattle.std.proofs.lemmas.Bool.Decides.{nat_tests}
use Rattle.std.proofs.lemmas.Bool.{lt-ltb, cases_lt}
use Rattle.std.proofs.Math.Bool.{and-false}
use Rattle.std.specs.Str.{bytes_eq}
use Rattle.std.proofs.lemmas.Cmp.{nat_list_eq_equiv}
use Rattle.std.proofs.lemmas.Slice.Eq.{bytes_eq-Decides}
use Rattle.std.specs.Prelude.{max}
use Rattle.std.specs.Int.{from_le_bytes, to_le_bytes, w64, bit_at}
use Rattle.std.specs.Int.RustNames.{bit_or, bit_xor}
use Rattle.std.proofs.lemmas.Nat.{from_le_bytes-to_le_bytes_8}
use Rattle.std.proofs.lemmas.Nat.Bits.{bit_at-lt, bit_at-zero, bit_at_or, bit_at_xor, same_from_bits}
use Rattle.std.proofs.lemmas.Grind.{same_number_lists, common_steps}
use Rattle.std.proofs.lemmas.List.{get_or_default, take-append-drop, same_lists}
use Rattle.std.specs.List.{slice_range}
use Rattle.std.proofs.lemmas.Simd.{get_or-chunk}
use Rattle.vt_cells.specs.Cell.{CellValue, blank, glyph, right_half, IsCell, text_of, cell_with_mark, cell_made_wide}
use Rattle.vt_cells.specs.Cell.{cell_of, is_blank, is_right_half, same_cell, attrs_of, is_wide, IsShort}
use Rattle.vt_cells.specs.Glyph.{IsMark, columns_of, glyph_columns, has_room, IsGlyphText, mark_limit}
use Rattle.vt_cells.specs.Attrs.{Attrs, default_attrs}
use Rattle.vt_cells.specs.Internals.{IsKept, IsStored, blank_shape, cell_of-text, half_shape, text_room, same_shape}
use Rattle.vt_cells.specs.Internals.{shape_of_cell, cell_head, cell_of_parts, first_eight_bytes, head_of_cell}
use Rattle.vt_cells.specs.Internals.{padded_text, same_head, HeadValue, stored_contents, stored_head, head_of}
use Rattle.vt_cells.specs.CellEq.{cell_eq}
use Rattle.vt_cells.proofs.Glyphs.{IsGlyphText-first, IsGlyphText-length, IsGlyphText-marked, IsGlyphText-selector}
use Rattle.vt_cells.proofs.Glyphs.{IsGlyphText-space, IsGlyphText-utf8, IsGlyphText-push, encode_bounds}
use Rattle.vt_cells.proofs.Packing.{alike, same_head-itself, head_of-same}
use Rattle.vt_cells.proofs.Attributes.{attrs_of-same, same_attrs-itself, bool_of-same, same_bool-itself, attrs_eq-same}
use Rattle.vt_cells.proofs.Attributes.{two_parts, false_of}

-- ==== Cells stay valid when they are edited.

-- The glyph that `cell::glyph` makes is a valid cell.
pub IsCell-glyph : (c : ℕ) (wide : Bool) (attrs : Attrs) → IsScalar c → c ≢ 0xFFFD →
    columns_of c ≡ Some (glyph_columns wide) → IsCell (glyph (encode_utf8 c) wide attrs)
IsCell-glyph c wide attrs scalar reported columns = IsGlyphText-first c wide scalar reported columns

pub IsCell-space : (attrs : Attrs) → IsCell (glyph (0x20 ∷ []) false attrs)
IsCell-space attrs = IsGlyphText-space

-- A valid cell with a combining character added is a valid cell.
pub IsCell-marked : (mark : ℕ) (cell : CellValue) → IsMark mark → IsCell cell → IsCell (cell_with_mark mark cell)
IsCell-marked mark (blank attrs) is_mark is_cell = IsGlyphText-marked (0x20 ∷ []) false mark IsGlyphText-space is_mark
IsCell-marked mark (glyph text wide attrs) is_mark is_cell = IsGlyphText-marked text wide mark is_cell is_mark
IsCell-marked mark right_half is_mark is_cell = tt

-- A valid cell with U+FE0F added may be made wide or narrow.
pub IsCell-selector : (wide : Bool) (cell : CellValue) → IsCell cell →
    has_room (text_of cell) ≡ true → IsCell (cell_made_wide wide (cell_with_mark 0xFE0F cell))
IsCell-selector wide (blank attrs) is_cell room = IsGlyphText-selector (0x20 ∷ []) false wide IsGlyphText-space refl
IsCell-selector wide (glyph text was attrs) is_cell room = rw room (IsGlyphText-selector text was wide is_cell room)
IsCell-selector wide right_half is_cell room = tt

-- The text of a cell has at most 29 bytes.
pub text_short : (cell : CellValue) → IsCell cell → length (text_of cell) ≤ 29
text_short (blank attrs) h = omega arith
text_short (glyph text wide attrs) h = (IsGlyphText-length text wide h).1
text_short right_half h = omega arith

-- ==== Facts about the fields of a cell.

-- Each byte of a list of zeros is 0.
pub zeros_at : (n k : ℕ) → slice_index (replicate n 0) k ≡ 0
zeros_at zero k = refl
zeros_at (suc n) zero = refl
zeros_at (suc n) (suc k) = zeros_at n k

pub IsStored-blank : (attrs : Attrs)
    → IsStored (record { attrs = attrs; shape = blank_shape }) (replicate text_room 0)
IsStored-blank attrs = record { kept = search rules; room = refl; zeros = λ k _. zeros_at text_room k }

pub IsStored-half : IsStored (record { attrs = default_attrs; shape = half_shape }) (replicate text_room 0)
IsStored-half = record { kept = search rules; room = refl; zeros = λ k _. zeros_at text_room k }

pub cell_of-first : (text : List ℕ) (c : ℕ) (wide : Bool) (attrs : Attrs) →
    text ≡ encode_utf8 c → cell_of text wide false attrs ≡ glyph (encode_utf8 c) wide attrs
cell_of-first text c wide attrs e = rw e (cell_of-text (encode_utf8 c) wide attrs ((encode_bounds c).0))

pub IsKept-glyph : (len : ℕ) (text : List ℕ) (wide : Bool) (attrs : Attrs) →
    IsGlyphText text wide → len ≡ length text → IsKept len text wide false attrs
IsKept-glyph len text wide attrs is_text e =
    let bounds = IsGlyphText-length text wide is_text in
    record {
      bounded = omega arith;
      measured = sym e;
      utf8 = IsGlyphText-utf8 text wide is_text;
      half_empty = λ no. cc;
      half_plain = λ no. cc;
      half_narrow = λ no. cc;
      wide_text = λ _. omega arith;
      sound = rw (cell_of-text text wide attrs bounds.0) is_text;
    }

pub IsKept-first : (c len : ℕ) (text : List ℕ) (wide : Bool) (attrs : Attrs) →
    IsScalar c → c ≢ 0xFFFD → columns_of c ≡ Some (glyph_columns wide) →
    len ≡ length (encode_utf8 c) → text ≡ encode_utf8 c → IsKept len text wide false attrs
IsKept-first c len text wide attrs scalar reported columns size e =
    rw e (IsKept-glyph len (encode_utf8 c) wide attrs (IsGlyphText-first c wide scalar reported columns) size)

-- If the fields of a cell are valid and describe neither a blank nor a continuation cell, their text is the text of a
-- glyph.
glyph_kept : (len : ℕ) (text : List ℕ) (wide : Bool) (attrs : Attrs) → IsKept len text wide false attrs →
    is_blank (cell_of text wide false attrs) ≡ false → IsGlyphText text wide
glyph_kept len text wide attrs kept shown =
    let low : 1 ≤ length text = grind (arith, nat_tests) in
    rw (cell_of-text text wide attrs low) at kept.sound

-- The fields of a glyph stay valid when a combining character is added, with the same width.
pub IsKept-mark : (c len next : ℕ) (text longer : List ℕ) (wide right same : Bool) (attrs : Attrs)
    → IsScalar c → columns_of c ≡ Some 0
    → IsKept len text wide right attrs → is_blank (cell_of text wide right attrs) ≡ false
    → is_right_half (cell_of text wide right attrs) ≡ false
    → len < mark_limit → next ≡ len + length (encode_utf8 c)
    → longer ≡ text ++ encode_utf8 c → same ≡ wide → IsKept next longer same false attrs
IsKept-mark c len next text longer wide true same attrs scalar columns kept full shown room size e is_same = cc
IsKept-mark c len next text longer wide false same attrs scalar columns kept full shown room size e is_same =
    let has : has_room text ≡ true = rw kept.measured (lt-ltb len mark_limit room) in
    let sum = length-append text (encode_utf8 c) in
    let measured = kept.measured in
    rw (e, is_same) (IsKept-glyph next (text ++ encode_utf8 c) wide attrs
    (IsGlyphText-push text wide c (glyph_kept len text wide attrs kept full) (scalar, columns) has) (omega arith))

-- ==== The meaning of `==` on cells.

pub text_of-same : (s t : List ℕ) → bytes_eq s t ≡ true → s ≡ t
text_of-same s t e = (bytes_eq-Decides s t).0 e

pub same_text-itself : (s : List ℕ) → bytes_eq s s ≡ true
same_text-itself s = nat_list_eq_equiv.refl s

-- Cells for which `same_cell` holds are equal.
pub cell_of-same : (x y : CellValue) → same_cell x y ≡ true → x ≡ y
unfolding same_cell
cell_of-same (blank a) (blank b) e = ap blank (attrs_of-same a b e)
cell_of-same (blank a) (glyph t w b) e = cc
cell_of-same (blank a) right_half e = cc
cell_of-same (glyph s v a) (blank b) e = cc
cell_of-same (glyph s v a) (glyph t w b) e =
    let (text, rest) = two_parts _ _ e in
    let (wide, attrs) = two_parts _ _ rest in
    let texts = text_of-same s t text in
    let wides = bool_of-same v w wide in
    let same = attrs_of-same a b attrs in
    cc
cell_of-same (glyph s v a) right_half e = cc
cell_of-same right_half (blank b) e = cc
cell_of-same right_half (glyph t w b) e = cc
cell_of-same right_half right_half e = refl

pub same_cell-itself : (x : CellValue) → same_cell x x ≡ true
unfolding same_cell
same_cell-itself (blank a) = same_attrs-itself a
same_cell-itself (glyph s v a) = rw (same_text-itself s, same_bool-itself v, same_attrs-itself a) refl
same_cell-itself right_half = refl

pub same_cell-differ : (x y : CellValue) → x ≢ y → same_cell x y ≡ false
same_cell-differ x y differ = false_of (same_cell x y) (λ e. differ (cell_of-same x y e))

-- Valid cells with the same text, width, kind and attributes are equal.
pub cell_by_parts : (x y : CellValue) → IsCell x → IsCell y → text_of x ≡ text_of y →
    is_wide x ≡ is_wide y → is_right_half x ≡ is_right_half y → attrs_of x ≡ attrs_of y → x ≡ y
cell_by_parts (blank a) (blank b) p q text wide right attrs = ap blank attrs
cell_by_parts (blank a) (glyph t w b) p q text wide right attrs =
    let some = (IsGlyphText-length t w q).0 in absurd (omega (arith, ap length text))
cell_by_parts (blank a) right_half p q text wide right attrs = cc
cell_by_parts (glyph s v a) (blank b) p q text wide right attrs =
    let some = (IsGlyphText-length s v p).0 in absurd (omega (arith, ap length text))
cell_by_parts (glyph s v a) (glyph t w b) p q text wide right attrs = cc
cell_by_parts (glyph s v a) right_half p q text wide right attrs = cc
cell_by_parts right_half (blank b) p q text wide right attrs = cc
cell_by_parts right_half (glyph t w b) p q text wide right attrs = cc
cell_by_parts right_half right_half p q text wide right attrs = refl

narrow_or_wide : (s t : List ℕ) (v w : Bool) (a b : Attrs) →
    same_cell (glyph s v a) (glyph t w b) ≡ cell_eq (glyph s v a) (glyph t w b)
unfolding same_cell
narrow_or_wide s t true true a b = rw (attrs_eq-same a b) refl
narrow_or_wide s t true false a b = rw (and-false (bytes_eq s t)) refl
narrow_or_wide s t false true a b = rw (and-false (bytes_eq s t)) refl
narrow_or_wide s t false false a b = rw (attrs_eq-same a b) refl

-- `same_cell` agrees with `==` on cells.
pub same_cell-eq : (x y : CellValue) → same_cell x y ≡ cell_eq x y
unfolding same_cell
same_cell-eq (blank a) (blank b) = sym (attrs_eq-same a b)
same_cell-eq (blank a) (glyph t true b) = refl
same_cell-eq (blank a) (glyph t false b) = refl
same_cell-eq (blank a) right_half = refl
same_cell-eq (glyph s true a) (blank b) = refl
same_cell-eq (glyph s false a) (blank b) = refl
same_cell-eq (glyph s v a) (glyph t w b) = narrow_or_wide s t v w a b
same_cell-eq (glyph s true a) right_half = refl
same_cell-eq (glyph s false a) right_half = refl
same_cell-eq right_half (blank b) = refl
same_cell-eq right_half (glyph t true b) = refl
same_cell-eq right_half (glyph t false b) = refl
same_cell-eq right_half right_half = refl

pub cell_same : (x y : CellValue) (r : Bool) → r ≡ same_cell x y → IsTrue r → x ≡ y
cell_same x y r tested holds = cell_of-same x y (sym tested ∙ holds)

pub same_cell_of : (x y : CellValue) (r : Bool) → r ≡ same_cell x y → x ≡ y → IsTrue r
same_cell_of x y r tested same = tested ∙ rw same (same_cell-itself y)

-- The shape that the fields of a cell hold is the shape of the cell.
pub shape_of_parts : (len : ℕ) (text : List ℕ) (wide right : Bool) (attrs : Attrs) → IsKept len text wide right attrs
    → record { len = len; wide = wide; right_half = right } ≡ shape_of_cell (cell_of text wide right attrs)
shape_of_parts len text wide right attrs kept = sym (ap (λ h. h.shape) (cell_head len text wide right attrs kept))

shape_of_blank : (cell : CellValue) → IsCell cell → same_shape (shape_of_cell cell) blank_shape ≡ is_blank cell
unfolding same_shape
shape_of_blank (blank attrs) is_cell = refl
shape_of_blank (glyph text wide attrs) is_cell =
    let some = (IsGlyphText-length text wide is_cell).0 in
    let none : (length text == 0) ≡ false = grind (arith, nat_tests) in
    rw none refl
shape_of_blank right_half is_cell = refl

-- A cell is a blank exactly if its shape is that of a blank.
pub blank_kept : (len : ℕ) (text : List ℕ) (wide right : Bool) (attrs : Attrs) → IsKept len text wide right attrs
    → same_shape (record { len = len; wide = wide; right_half = right }) blank_shape
    ≡ is_blank (cell_of text wide right attrs)
blank_kept len text wide right attrs kept =
    rw (shape_of_parts len text wide right attrs kept) (shape_of_blank (cell_of text wide right attrs) kept.sound)

-- Cells with equal heads are equal exactly if their texts are.
pub same_cell-headed : (x y : CellValue) → IsCell x → IsCell y
    → same_head (head_of_cell x) (head_of_cell y) ≡ true → bytes_eq (text_of x) (text_of y) ≡ same_cell x y
same_cell-headed x y is_x is_y e =
    let heads : head_of_cell x ≡ head_of_cell y = head_of-same _ _ e in
    alike _ _
    (λ text. rw
    (cell_by_parts x y is_x is_y (text_of-same _ _ text) (ap (λ h. h.shape.wide) heads)
    (ap (λ h. h.shape.right_half) heads) (ap (λ h. h.attrs) heads)) (same_cell-itself y))
    (λ same. rw (cell_of-same x y same) (same_text-itself (text_of y)))

-- Cells with different heads differ.
pub same_cell-other_head : (x y : CellValue) →
    same_head (head_of_cell x) (head_of_cell y) ≡ false → same_cell x y ≡ false
same_cell-other_head x y e =
    same_cell-differ x y (λ same. let yes : same_head (head_of_cell x) (head_of_cell y) ≡ true =
    rw same (same_head-itself (head_of_cell y)) in cc)

take_front : (s z : List ℕ) (n : ℕ) → length s ≤ n → take (length s) (take n (s ++ z)) ≡ s
take_front [] z n le = refl
take_front (x ∷ s) z zero le = absurd (omega arith)
take_front (x ∷ s) z (suc n) le = ap (λ t. x ∷ t) (take_front s z n (omega arith))

-- Two texts of the same length, at most eight bytes, are equal if the first eight bytes of their arrays are equal.
pub short_texts : (s t : List ℕ) → length s ≡ length t → length s ≤ 8 → first_eight_bytes s ≡ first_eight_bytes t → s ≡ t
unfolding first_eight_bytes
short_texts s t same short fronts =
    sym (take_front s _ 8 short) ∙ (λ i. take (same i) (fronts i)) ∙ take_front t _ 8 (omega (arith, same))

-- The first eight bytes of a stored cell's array are the front of the cell's text.
pub front_stored : (head : HeadValue) (contents : List ℕ) (cell : CellValue) → IsStored head contents
    → cell_of_parts head contents ≡ cell → take 8 contents ≡ first_eight_bytes (text_of cell)
unfolding first_eight_bytes
front_stored head contents cell h is =
    (λ i. take 8 (sym (stored_contents head contents h) i)) ∙ ap (λ v. take 8 (padded_text (text_of v))) is

-- The stored head is the head of the cell that it represents.
pub head_stored : (head : HeadValue) (contents : List ℕ) (cell : CellValue) → IsStored head contents
    → cell_of_parts head contents ≡ cell → head_of_cell cell ≡ head
head_stored head contents cell h is = sym (ap head_of_cell is) ∙ stored_head head contents h

-- A cell with fewer than eight bytes of text equals any cell with the same head and the same first eight bytes of the
-- text array.
pub cells_begin : (x y : CellValue) → IsCell x → IsCell y → length (text_of x) < 8
    → head_of_cell x ≡ head_of_cell y → first_eight_bytes (text_of x) ≡ first_eight_bytes (text_of y) → x ≡ y
cells_begin x y is_x is_y short heads fronts =
    cell_by_parts x y is_x is_y
    (short_texts (text_of x) (text_of y) (ap (λ h. h.shape.len) heads) (omega arith) fronts)
    (ap (λ h. h.shape.wide) heads) (ap (λ h. h.shape.right_half) heads) (ap (λ h. h.attrs) heads)

-- ==== Heads and first words of cells, compared by the bits in which they differ.

half : (m n : ℕ) → m < 2 → n < 2 → (m + n) % 2 ≡ 0 → m ≡ n
half m n a b e = omega arith

pub xor_none : (a b : ℕ) → bit_xor a b ≡ 0 → a ≡ b
xor_none a b e = same_from_bits a b (λ i. half _ _ (bit_at-lt a i) (bit_at-lt b i)
    (sym (bit_at_xor a b i) ∙ ap (λ n. bit_at n i) e ∙ bit_at-zero i))

low : (m n : ℕ) → max m n ≡ 0 → m ≡ 0
low m n e = omega arith

high : (m n : ℕ) → max m n ≡ 0 → n ≡ 0
high m n e = omega arith

none_at : (a b i : ℕ) → bit_or a b ≡ 0 → max (bit_at a i) (bit_at b i) ≡ 0
none_at a b i e = sym (bit_at_or a b i) ∙ ap (λ n. bit_at n i) e ∙ bit_at-zero i

pub or_none_left : (a b : ℕ) → bit_or a b ≡ 0 → a ≡ 0
or_none_left a b e = same_from_bits a 0 (λ i. low _ _ (none_at a b i e) ∙ sym (bit_at-zero i))

pub or_none_right : (a b : ℕ) → bit_or a b ≡ 0 → b ≡ 0
or_none_right a b e = same_from_bits b 0 (λ i. high _ _ (none_at a b i e) ∙ sym (bit_at-zero i))

-- Two head words are equal as heads if no bit differs in them and their texts have fewer than eight bytes.
pub heads_even : (m n : ℕ) → bit_or (bit_xor m n) (m % 32 / 8 * 8) ≡ 0 → head_of m ≡ head_of n
heads_even m n e = ap head_of (xor_none m n (or_none_left _ _ e))

pub short_even : (m n : ℕ) → bit_or (bit_xor m n) (m % 32 / 8 * 8) ≡ 0 → m % 128 % 32 < 8
short_even m n e = let none = or_none_right (bit_xor m n) _ e in omega (arith, none)

-- The first eight bytes of a list, one by one, are its prefix of eight bytes.
pub first_eight : (s : List ℕ) → 8 ≤ length s
    → (slice_index_or s 0 0 ∷ slice_index_or s 1 0 ∷ slice_index_or s 2 0 ∷ slice_index_or s 3 0
    ∷ slice_index_or s 4 0 ∷ slice_index_or s 5 0 ∷ slice_index_or s 6 0 ∷ slice_index_or s 7 0 ∷ [])
    ≡ take 8 s
first_eight (s0 ∷ s1 ∷ s2 ∷ s3 ∷ s4 ∷ s5 ∷ s6 ∷ s7 ∷ s) long = refl
first_eight [] long = absurd (omega arith)
first_eight (s0 ∷ []) long = absurd (omega arith)
first_eight (s0 ∷ s1 ∷ []) long = absurd (omega arith)
first_eight (s0 ∷ s1 ∷ s2 ∷ []) long = absurd (omega arith)
first_eight (s0 ∷ s1 ∷ s2 ∷ s3 ∷ []) long = absurd (omega arith)
first_eight (s0 ∷ s1 ∷ s2 ∷ s3 ∷ s4 ∷ []) long = absurd (omega arith)
first_eight (s0 ∷ s1 ∷ s2 ∷ s3 ∷ s4 ∷ s5 ∷ []) long = absurd (omega arith)
first_eight (s0 ∷ s1 ∷ s2 ∷ s3 ∷ s4 ∷ s5 ∷ s6 ∷ []) long = absurd (omega arith)

-- Two texts of the same length, at most eight bytes, are equal if their first words are equal.
pub same_words : (s t : List ℕ) (m n : ℕ)
    → to_le_bytes w64 m ≡ first_eight_bytes s → to_le_bytes w64 n ≡ first_eight_bytes t → m ≡ n
    → length s ≡ length t → length s ≤ 8 → true ≡ bytes_eq s t
same_words s t m n own other word same short =
    sym (rw (short_texts s t same short (sym own ∙ ap (to_le_bytes w64) word ∙ other)) (same_text-itself t))

-- Texts whose first words differ are different.
pub other_words : (s t : List ℕ) (m n : ℕ) → m < 2 ^ 64 → n < 2 ^ 64
    → to_le_bytes w64 m ≡ first_eight_bytes s → to_le_bytes w64 n ≡ first_eight_bytes t → m ≢ n → false ≡ bytes_eq s t
other_words s t m n small less own other differ =
    sym (false_of (bytes_eq s t) (λ same.
    let fronts = own ∙ ap first_eight_bytes (text_of-same s t same) ∙ sym other in
    differ (sym (from_le_bytes-to_le_bytes_8 m small) ∙ ap (from_le_bytes w64) fronts
    ∙ from_le_bytes-to_le_bytes_8 n less)))

-- Two cells are equal if no bit of their heads and first words differs and their texts are short.
pub cells_even : (head others : HeadValue) (contents bytes : List ℕ) (x y : CellValue) (d m n : ℕ)
    → IsStored head contents → cell_of_parts head contents ≡ x
    → IsStored others bytes → cell_of_parts others bytes ≡ y
    → (d ≡ 0 → head ≡ others) → (d ≡ 0 → head.shape.len < 8)
    → to_le_bytes w64 m ≡ first_eight_bytes (text_of x) → to_le_bytes w64 n ≡ first_eight_bytes (text_of y)
    → bit_or d (bit_xor m n) ≡ 0 → x ≡ y
cells_even head others contents bytes x y d m n h is_x k is_y same short own other e =
    let none : d ≡ 0 = or_none_left d (bit_xor m n) e in
    let own_head = head_stored head contents x h is_x in
    let heads : head_of_cell x ≡ head_of_cell y =
    own_head ∙ same none ∙ sym (head_stored others bytes y k is_y) in
    let word : m ≡ n = xor_none m n (or_none_right d (bit_xor m n) e) in
    let small : length (text_of x) < 8 = subst (λ h. h.shape.len < 8) (sym own_head) (short none) in
    cells_begin x y (subst IsCell is_x h.kept.sound) (subst IsCell is_y k.kept.sound) small heads
    (sym own ∙ ap (to_le_bytes w64) word ∙ other)

-- ==== Cells with short texts: the bytes of their text arrays after the first eight are zero.

-- Two arrays of the same length that are zero from an index on have the same items from that index on.
same_backs : (n : ℕ) (s t : List ℕ) → length s ≡ length t → ((k : ℕ) → n ≤ k → slice_index s k ≡ 0)
    → ((k : ℕ) → n ≤ k → slice_index t k ≡ 0) → drop n s ≡ drop n t
same_backs zero s t e p q = same_number_lists s t e (λ k _. p k (omega arith) ∙ sym (q k (omega arith)))
same_backs (suc n) [] [] e p q = refl
same_backs (suc n) [] (y ∷ t) e p q = absurd (omega (arith, e))
same_backs (suc n) (x ∷ s) [] e p q = absurd (omega (arith, e))
same_backs (suc n) (x ∷ s) (y ∷ t) e p q =
    same_backs n s t (omega (arith, e)) (λ k le. p (suc k) (omega arith)) (λ k le. q (suc k) (omega arith))

-- A cell is short exactly if its stored head says so.
pub short_of_head : (head : HeadValue) (contents : List ℕ) (cell : CellValue) → IsStored head contents
    → cell_of_parts head contents ≡ cell → head.shape.len < 8 → IsShort cell
short_of_head head contents cell h is short = omega (arith, short, ap (λ h. h.shape.len) (head_stored _ _ _ h is))

pub head_of_short : (head : HeadValue) (contents : List ℕ) (cell : CellValue) → IsStored head contents
    → cell_of_parts head contents ≡ cell → IsShort cell → head.shape.len < 8
head_of_short head contents cell h is short = omega (arith, short, ap (λ h. h.shape.len) (head_stored _ _ _ h is))

zeros_after : (head : HeadValue) (contents : List ℕ) (cell : CellValue) → IsStored head contents
    → cell_of_parts head contents ≡ cell → IsShort cell → (k : ℕ) → 8 ≤ k → slice_index contents k ≡ 0
zeros_after head contents cell h is short k le =
    h.zeros k (omega (arith, le, head_of_short head contents cell h is short))

-- If the first eight bytes of a short cell's array replace those of another short cell's array, the arrays are equal.
pub front_put : (head others : HeadValue) (new old front : List ℕ) (x y : CellValue)
    → IsStored head new → cell_of_parts head new ≡ x → IsShort x
    → IsStored others old → cell_of_parts others old ≡ y → IsShort y → front ≡ first_eight_bytes (text_of x)
    → front ++ drop 8 old ≡ new
front_put head others new old front x y h is_x short k is_y low e =
    let backs : drop 8 old ≡ drop 8 new =
    same_backs 8 old new (k.room ∙ sym h.room) (zeros_after others old y k is_y low)
    (zeros_after head new x h is_x short) in
    (λ i. (e ∙ sym (front_stored head new x h is_x)) i ++ backs i) ∙ take-append-drop 8 new

-- The glyph of one character is short.
pub IsShort-first : (c : ℕ) (wide : Bool) (attrs : Attrs) → IsShort (glyph (encode_utf8 c) wide attrs)
IsShort-first c wide attrs = let bounds = encode_bounds c in omega (arith, bounds.1)

-- Combined bits are 0 exactly if all cells are short: one more cell.
pub one_more_short : (s : List CellValue) (i bits long : ℕ) (cell : CellValue) → i < length s
    → cell ≡ slice_index_or s i cell
    → (bits ≡ 0 → (k : ℕ) (d : CellValue) → k < i → IsShort (slice_index_or s k d)) → (All IsShort s → bits ≡ 0)
    → (long ≡ 0 → IsShort cell) → (IsShort cell → long ≡ 0) → record {
      all : bit_or bits long ≡ 0 → (k : ℕ) (d : CellValue) → k < i + 1 → IsShort (slice_index_or s k d);
      some : All IsShort s → bit_or bits long ≡ 0;
    }
one_more_short s i bits long cell inside is all some short none = record {
  all = λ e k d lt. elim (cases_lt k i) [
    | inl low ↦ all (or_none_left bits long e) k d low
    | inr high ↦
        let last : i ≡ k = omega arith in
        let at : cell ≡ slice_index_or s k d =
        is ∙ (sym (get_or_default s i d cell inside) ∙ ap (λ j. slice_index_or s j d) last) in
        subst IsShort at (short (or_none_right bits long e))
  ];
  some = λ short_all. rw (some short_all, none (subst IsShort (sym is) (short_all i cell inside))) refl;
}

-- ==== Four cells, compared one by one.

-- Both lists have the same cell at an index.
abbrev pub IsSameAt : (s t : List CellValue) → ℕ → Type 0
IsSameAt s t k = (d : CellValue) → slice_index_or s k d ≡ slice_index_or t k d

pub same_at : (s t : List CellValue) (k : ℕ) (a b : CellValue) → k < length s → k < length t
    → a ≡ slice_index_or s k a → b ≡ slice_index_or t k b → a ≡ b → IsSameAt s t k
same_at s t k a b own other is_a is_b same d = grind (arith, common_steps, is_a, is_b, same)

pub four_cells : (s t : List CellValue) → length s ≡ 4 → length t ≡ 4
    → IsSameAt s t 0 → IsSameAt s t 1 → IsSameAt s t 2 → IsSameAt s t 3 → s ≡ t
four_cells s t one two first second third fourth = same_lists s t (one ∙ sym two) at
  where
    at : (k : ℕ) (d : CellValue) → k < length s → slice_index_or s k d ≡ slice_index_or t k d
    at zero d lt = first d
    at (suc zero) d lt = second d
    at (suc (suc zero)) d lt = third d
    at (suc (suc (suc zero))) d lt = fourth d
    at (suc (suc (suc (suc k)))) d lt = absurd (omega (arith, one))

-- If the cells of two lists are equal before index i, and so are the next four, then they are equal before i + 4.
pub four_more : (s t : List CellValue) (i : ℕ) → slice_range s i (i + 4) ≡ slice_range t i (i + 4)
    → ((k : ℕ) (d : CellValue) → k < i → slice_index_or s k d ≡ slice_index_or t k d)
    → (k : ℕ) (d : CellValue) → k < i + 4 → slice_index_or s k d ≡ slice_index_or t k d
four_more s t i same before k d lt =
    elim (cases_lt k i) [
      | inl low ↦ before k d low
      | inr high ↦
          let at : i + (k - i) ≡ k = omega arith in
          let own = get_or-chunk i (i + 4 - i) s (k - i) d (omega arith) in
          let other = get_or-chunk i (i + 4 - i) t (k - i) d (omega arith) in
          ap (λ j. slice_index_or s j d) (sym at) ∙ sym own
          ∙ ap (λ l. slice_index_or l (k - i) d) same ∙ other ∙ ap (λ j. slice_index_or t j d) at
    ]

-- ---- cells that equal one cell

pub like_at : (s : List CellValue) (k : ℕ) (a b : CellValue) → k < length s → a ≡ slice_index_or s k a → a ≡ b →
    (d : CellValue) → slice_index_or s k d ≡ b
like_at s k a b inside is_a same d = get_or_default s k d a inside ∙ (sym is_a ∙ same)

pub four_like_at : (s : List CellValue) (b : CellValue) → ((d : CellValue) → slice_index_or s 0 d ≡ b) →
    ((d : CellValue) → slice_index_or s 1 d ≡ b) → ((d : CellValue) → slice_index_or s 2 d ≡ b) →
    ((d : CellValue) → slice_index_or s 3 d ≡ b) → (k : ℕ) (d : CellValue) → k < 4 → slice_index_or s k d ≡ b
four_like_at s b first second third fourth zero d lt = first d
four_like_at s b first second third fourth (suc zero) d lt = second d
four_like_at s b first second third fourth (suc (suc zero)) d lt = third d
four_like_at s b first second third fourth (suc (suc (suc zero))) d lt = fourth d
four_like_at s b first second third fourth (suc (suc (suc (suc k)))) d lt = absurd (omega (arith, lt))

-- If the cells before index i equal a cell, and so do the next four, then so do the cells before i + 4.
pub four_more_like : (s : List CellValue) (b : CellValue) (i : ℕ)
    → ((k : ℕ) (d : CellValue) → k < 4 → slice_index_or (slice_range s i (i + 4)) k d ≡ b)
    → ((k : ℕ) (d : CellValue) → k < i → slice_index_or s k d ≡ b)
    → (k : ℕ) (d : CellValue) → k < i + 4 → slice_index_or s k d ≡ b
four_more_like s b i like before k d lt =
    elim (cases_lt k i) [
      | inl low ↦ before k d low
      | inr high ↦
          let at : i + (k - i) ≡ k = omega arith in
          ap (λ j. slice_index_or s j d) (sym at) ∙ sym (get_or-chunk i (i + 4 - i) s (k - i) d (omega arith))
          ∙ like (k - i) d (omega arith)
    ]
