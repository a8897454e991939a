-- Texts of glyphs: widths of characters, combining characters and UTF-8.
use Rattle.std.proofs.Common.{◌≡◌, ℕ, ◌<◌, ◌≤◌, min, false, Option, Some, None, refl, arith, Bool, true, not, ◌||◌}
use Rattle.std.proofs.Common.{List, [], ◌∷◌, ◌≢◌, ◌+◌, ◌++◌, length, if◌then◌else◌, ap, sym, ◌∙◌, append_assoc}
use Rattle.std.proofs.Common.{append-nil, length-append, IsUtf8, subst, lit<, lit≤, ◌/◌, ◌%◌}
use Rattle.std.proofs.lemmas.Bool.Decides.{nat_tests}
use Rattle.ucd_table.specs.Rows.{Range, in_ranges}
use Rattle.ucd_table.proofs.Computing.{tables}
use Rattle.ucd_table.proofs.Facts.{Stepped-always}
use Rattle.ucd_table.proofs.Stepped.{of_ranges, zip_stepped}
use Rattle.std.specs.Char.{encode_utf8, IsScalar}
use Rattle.std.specs.List.{list_any, AllByRecursion}
use Rattle.std.proofs.lemmas.List.Folds.{list_any-append}
use Rattle.std.proofs.lemmas.Str.{length-encode, len_utf8_bounds, encode_ascii, IsUtf8-encode, IsUtf8-append}
use Rattle.std.proofs.lemmas.Str.{chars-encodes}
use Rattle.std.specs.Str.{chars, encode_utf8_all}
use borrow.Author.Tests.{ltb-true}
use lib.Utf8.{scalars}
use Rattle.unicode_width.specs.Width.{char_width, alone, of_kind}
use Rattle.unicode_width.specs.Kind.{kind}
use Rattle.unicode_width.specs.declared.kind.Kind.{Kind}
use Rattle.unicode_width.specs.declared.kind.Kind.TheVariants as kinds
use Rattle.unicode_width.proofs.KindLemmas.{kind_stepped}
use Rattle.unicode_width.proofs.Computing.{unicode_width}
use Rattle.vt_cells.specs.Glyph.{columns_of, columns_or, IsGlyphText, Joins, IsMark, is_selector, mark_limit, has_room}
use Rattle.vt_cells.specs.Glyph.{marked_text, glyph_columns}

-- ==== The number of columns that characters take.

pub char_width-ascii : (c : ℕ) → 0x20 ≤ c → c < 0x7F → char_width false c ≡ Some 1
unfolding char_width
char_width-ascii c low high = grind (arith, nat_tests)

-- Printable ASCII takes one column.
pub columns_of-ascii : (c : ℕ) → 0x20 ≤ c → c < 0x7F → columns_of c ≡ Some 1
unfolding columns_of
columns_of-ascii c low high = rw (char_width-ascii c low high) refl

pub columns_of-given : (c n : ℕ) → char_width false c ≡ Some n → columns_of c ≡ Some (min n 2)
unfolding columns_of
columns_of-given c n e = rw e refl

pub columns_of-low : (c : ℕ) → char_width false c ≡ None → c < 0x100 → columns_of c ≡ None
unfolding columns_of
columns_of-low c e low = rw e (grind (arith, nat_tests))

pub columns_of-high : (c : ℕ) → char_width false c ≡ None → 0x100 ≤ c → columns_of c ≡ Some 1
unfolding columns_of
columns_of-high c e high = rw e (grind (arith, nat_tests))

columns_or-le : (c w : ℕ) (given : Option ℕ) → columns_or c given ≡ Some w → w ≤ 2
columns_or-le c w (Some n) e = let p : min n 2 ≡ w = cc in omega arith
columns_or-le c w None e = grind (arith, nat_tests)

-- A character takes at most two columns.
pub columns_of-le : (c w : ℕ) → columns_of c ≡ Some w → w ≤ 2
unfolding columns_of
columns_of-le c w e = columns_or-le c w (char_width false c) e

-- ==== Blocks in which every character takes two columns.

-- The blocks: punctuation; Hiragana and Katakana without their combining characters; enclosed and squared characters
-- with all ideographs up to the syllables of Yi; and the syllables of Hangul.
abbrev pub blocks : List Range
blocks = (0x3000, 0x3029) ∷ (0x3041, 0x3096) ∷ (0x309B, 0x30FF) ∷ (0x3250, 0xA48C) ∷ (0xAC00, 0xD7A3) ∷ []

is_two : Kind → Bool
is_two kinds.Wide = true
is_two _ = false

-- A character is outside the blocks or takes two columns, given whether it is in the blocks and how wide it is.
is_fit : Bool → Kind → Bool
is_fit inside found = not inside || is_two found

fits : (c : ℕ) → c ≤ 0x10_FFFF → is_fit (in_ranges blocks c) (kind c) ≡ true
unfolding tables kind_stepped is_fit is_two
fits = Stepped-always (λ c. is_fit (in_ranges blocks c) (kind c))
    (zip_stepped is_fit (in_ranges blocks) kind (of_ranges blocks refl) kind_stepped) refl

two : (inside : Bool) (c : ℕ) (found : Kind) → is_fit inside found ≡ true → inside ≡ true
    → (of_kind false c found).0 ≡ 2
unfolding is_fit is_two
two true c kinds.Wide fit is = refl
two true c kinds.Emoji fit is = cc
two true c kinds.Zero fit is = cc
two true c kinds.Narrow fit is = cc
two true c kinds.Ambiguous fit is = cc
two true c kinds.Alef fit is = cc
two true c kinds.KhmerLetter fit is = cc
two true c kinds.TifinaghConsonant fit is = cc
two true c kinds.LisuTone fit is = cc
two true c kinds.RegionalIndicator fit is = cc
two true c kinds.EmojiModifier fit is = cc
two true c kinds.Single fit is = cc
two false c found fit is = cc

-- Every character in the blocks takes two columns.
columns_of-block : (c : ℕ) → c ≤ 0x10_FFFF → 0xA0 ≤ c → in_ranges blocks c ≡ true → columns_of c ≡ Some 2
unfolding columns_of char_width alone
columns_of-block c last high inside =
    let wide = two (in_ranges blocks c) c (kind c) (fits c last) inside in
    grind (arith, nat_tests, wide)

pub enclosed : (c : ℕ) → 0x3250 ≤ c → c ≤ 0xA48C → columns_of c ≡ Some 2
unfolding in_ranges
enclosed c low high = columns_of-block c (omega arith) (omega arith) (grind (arith, nat_tests))

pub punctuation : (c : ℕ) → 0x3000 ≤ c → c ≤ 0x3029 → columns_of c ≡ Some 2
unfolding in_ranges
punctuation c low high = columns_of-block c (omega arith) (omega arith) (grind (arith, nat_tests))

pub hiragana : (c : ℕ) → 0x3041 ≤ c → c ≤ 0x3096 → columns_of c ≡ Some 2
unfolding in_ranges
hiragana c low high = columns_of-block c (omega arith) (omega arith) (grind (arith, nat_tests))

pub katakana : (c : ℕ) → 0x309B ≤ c → c ≤ 0x30FF → columns_of c ≡ Some 2
unfolding in_ranges
katakana c low high = columns_of-block c (omega arith) (omega arith) (grind (arith, nat_tests))

pub hangul : (c : ℕ) → 0xAC00 ≤ c → c ≤ 0xD7A3 → columns_of c ≡ Some 2
unfolding in_ranges
hangul c low high = columns_of-block c (omega arith) (omega arith) (grind (arith, nat_tests))

pub ruleset blocks_wide = (punctuation, hiragana, katakana, enclosed, hangul)

-- ==== Combining characters, which take no columns.

-- The combining diacritical marks up to U+0337. The width of U+0338 depends on the character before it.
abbrev pub diacritic_block : List Range
diacritic_block = (0x300, 0x337) ∷ []

is_zero : Kind → Bool
is_zero kinds.Zero = true
is_zero _ = false

-- A character is outside the block or takes no columns, given whether it is in the block and how wide it is.
is_flat : Bool → Kind → Bool
is_flat inside found = not inside || is_zero found

flat : (c : ℕ) → c ≤ 0x10_FFFF → is_flat (in_ranges diacritic_block c) (kind c) ≡ true
unfolding tables kind_stepped is_flat is_zero
flat = Stepped-always (λ c. is_flat (in_ranges diacritic_block c) (kind c))
    (zip_stepped is_flat (in_ranges diacritic_block) kind (of_ranges diacritic_block refl) kind_stepped) refl

zero : (inside : Bool) (c : ℕ) (found : Kind) → is_flat inside found ≡ true → inside ≡ true
    → (of_kind false c found).0 ≡ 0
unfolding is_flat is_zero
zero true c kinds.Zero fit is = refl
zero true c kinds.Wide fit is = cc
zero true c kinds.Emoji fit is = cc
zero true c kinds.Narrow fit is = cc
zero true c kinds.Ambiguous fit is = cc
zero true c kinds.Alef fit is = cc
zero true c kinds.KhmerLetter fit is = cc
zero true c kinds.TifinaghConsonant fit is = cc
zero true c kinds.LisuTone fit is = cc
zero true c kinds.RegionalIndicator fit is = cc
zero true c kinds.EmojiModifier fit is = cc
zero true c kinds.Single fit is = cc
zero false c found fit is = cc

-- These combining characters take no columns.
pub diacritics : (c : ℕ) → 0x300 ≤ c → c ≤ 0x337 → columns_of c ≡ Some 0
unfolding columns_of char_width alone in_ranges
diacritics c low high =
    let inside : in_ranges diacritic_block c ≡ true = grind (arith, nat_tests) in
    let none = zero (in_ranges diacritic_block c) c (kind c) (flat c (omega arith)) inside in
    grind (arith, nat_tests, none)

-- ==== Texts of glyphs: the first character, and one more combining character.

-- A character takes one to four bytes in UTF-8.
pub encode_bounds : (c : ℕ) → (1 ≤ length (encode_utf8 c)) × (length (encode_utf8 c) ≤ 4)
encode_bounds c = rw (length-encode c) (len_utf8_bounds c)

Joins-push : (text marks whole : List ℕ) (mark : ℕ) → Joins text marks whole →
    has_room whole ≡ true → Joins text (marks ++ mark ∷ []) (whole ++ encode_utf8 mark)
Joins-push text [] whole mark e room = (rw e room, ap (λ t. t ++ encode_utf8 mark) e)
Joins-push text (m ∷ marks) whole mark (first, more) room =
    (first, Joins-push (text ++ encode_utf8 m) marks whole mark more room)

are_marks-push : (marks : List ℕ) (mark : ℕ) → AllByRecursion IsMark marks →
    IsMark mark → AllByRecursion IsMark (marks ++ mark ∷ [])
are_marks-push [] mark all here = (here, tt)
are_marks-push (m ∷ marks) mark (first, more) here = (first, are_marks-push marks mark more here)

list_any-push : (p : ℕ → Bool) (marks : List ℕ) (mark : ℕ) →
    list_any p (marks ++ mark ∷ []) ≡ false → list_any p marks ≡ false
list_any-push p marks mark e = let both = list_any-append p marks (mark ∷ []) in grind (arith, both)

some_columns : (wide : Bool) → Some (glyph_columns wide) ≡ Some 0 → ⊥
some_columns true e = cc
some_columns false e = cc

-- The encoding of a character that takes columns is the text of a glyph.
pub IsGlyphText-first : (c : ℕ) (wide : Bool) → IsScalar c → c ≢ 0xFFFD →
    columns_of c ≡ Some (glyph_columns wide) → IsGlyphText (encode_utf8 c) wide
IsGlyphText-first c wide scalar reported columns = record {
  first = c;
  marks = [];
  scalar = scalar;
  drawn = λ e. some_columns wide (sym columns ∙ e);
  shown = λ e. cc;
  reported = reported;
  are_marks = tt;
  spelled = refl;
  width = λ _. columns;
}

-- Adding a combining character to a glyph's text gives the text of a glyph of the width `wide`, if the first character
-- has that width or the text contains U+FE0F.
pub longer : (text : List ℕ) (was wide : Bool) (mark : ℕ) (glyph : IsGlyphText text was)
    → IsMark mark → has_room text ≡ true
    → (list_any is_selector (glyph.marks ++ mark ∷ []) ≡ false → columns_of glyph.first ≡ Some (glyph_columns wide))
    → IsGlyphText (text ++ encode_utf8 mark) wide
longer text was wide mark glyph is_mark room width = record {
  first = glyph.first;
  marks = glyph.marks ++ mark ∷ [];
  scalar = glyph.scalar;
  drawn = glyph.drawn;
  shown = glyph.shown;
  reported = glyph.reported;
  are_marks = are_marks-push glyph.marks mark glyph.are_marks is_mark;
  spelled = Joins-push (encode_utf8 glyph.first) glyph.marks text mark glyph.spelled room;
  width = width;
}

-- Adding a combining character to a glyph's text gives the text of a glyph of the same width.
pub IsGlyphText-push : (text : List ℕ) (wide : Bool) (mark : ℕ) → IsGlyphText text wide →
    IsMark mark → has_room text ≡ true → IsGlyphText (text ++ encode_utf8 mark) wide
IsGlyphText-push text wide mark glyph is_mark room =
    longer text wide wide mark glyph is_mark room
    (λ none. glyph.width (list_any-push is_selector glyph.marks mark none))

Joins-utf8 : (text marks whole : List ℕ) → IsUtf8 text →
    AllByRecursion IsMark marks → Joins text marks whole → IsUtf8 whole
Joins-utf8 text [] whole utf8 all e = subst IsUtf8 e utf8
Joins-utf8 text (m ∷ marks) whole utf8 (mark, all) (room, joins) =
    Joins-utf8 (text ++ encode_utf8 m) marks whole
    (IsUtf8-append text (encode_utf8 m) utf8 (IsUtf8-encode m mark.0)) all joins

Joins-length : (text marks whole : List ℕ) → 1 ≤ length text → length text ≤ mark_limit + 3 →
    Joins text marks whole → (1 ≤ length whole) × (length whole ≤ mark_limit + 3)
Joins-length text [] whole low high e = (rw (← e) low, rw (← e) high)
Joins-length text (m ∷ marks) whole low high (room, joins) =
    let bounds = encode_bounds m in
    let sum = length-append text (encode_utf8 m) in
    let below : length text < mark_limit = ltb-true (length text) mark_limit room in
    Joins-length (text ++ encode_utf8 m) marks whole (omega arith) (omega arith) joins

-- A glyph's text is UTF-8.
pub IsGlyphText-utf8 : (text : List ℕ) (wide : Bool) → IsGlyphText text wide → IsUtf8 text
IsGlyphText-utf8 text wide glyph =
    Joins-utf8 (encode_utf8 glyph.first) glyph.marks text
    (IsUtf8-encode glyph.first glyph.scalar) glyph.are_marks glyph.spelled

-- A glyph's text has at least one byte, and at most three more than the limit for combining characters.
pub IsGlyphText-length : (text : List ℕ) (wide : Bool) →
    IsGlyphText text wide → (1 ≤ length text) × (length text ≤ mark_limit + 3)
IsGlyphText-length text wide glyph =
    let bounds = encode_bounds glyph.first in
    Joins-length (encode_utf8 glyph.first) glyph.marks text bounds.0 (omega arith) glyph.spelled

by_room : (room : Bool) (longer text : List ℕ) (wide : Bool) → (room ≡ true → IsGlyphText longer wide) →
    IsGlyphText text wide → IsGlyphText (if room then longer else text) wide
by_room true longer text wide with_room without = with_room refl
by_room false longer text wide with_room without = without

-- U+FE0F is a combining character.
pub selector_columns : columns_of 0xFE0F ≡ Some 0
unfolding columns_of unicode_width
selector_columns = refl

list_any-last : (marks : List ℕ) → list_any is_selector (marks ++ 0xFE0F ∷ []) ≡ true
list_any-last [] = refl
list_any-last (m ∷ marks) = let more = list_any-last marks in grind (arith, nat_tests, more)

-- Adding U+FE0F to a glyph's text gives a text that is valid for a narrow and for a wide glyph.
pub IsGlyphText-selector : (text : List ℕ) (was wide : Bool) → IsGlyphText text was →
    has_room text ≡ true → IsGlyphText (text ++ encode_utf8 0xFE0F) wide
IsGlyphText-selector text was wide glyph room =
    longer text was wide 0xFE0F glyph (refl, selector_columns) room (λ none. let has = list_any-last glyph.marks in cc)

-- Adding a combining character, if there is room, gives the text of a glyph of the same width.
pub IsGlyphText-marked : (text : List ℕ) (wide : Bool) (mark : ℕ) →
    IsGlyphText text wide → IsMark mark → IsGlyphText (marked_text text mark) wide
IsGlyphText-marked text wide mark glyph is_mark =
    by_room (has_room text) (text ++ encode_utf8 mark) text wide (IsGlyphText-push text wide mark glyph is_mark) glyph

space_first : encode_utf8 0x20 ≡ 0x20 ∷ []
space_first = encode_ascii 0x20 (lit< tt)

-- A space is the text of a narrow glyph.
pub IsGlyphText-space : IsGlyphText (0x20 ∷ []) false
IsGlyphText-space =
    subst (λ text. IsGlyphText text false) space_first
    (IsGlyphText-first 0x20 false refl (λ e. cc) (columns_of-ascii 0x20 (lit≤ tt) (lit< tt)))

Joins-spelled : (text marks whole : List ℕ) → Joins text marks whole → whole ≡ text ++ encode_utf8_all marks
Joins-spelled text [] whole e = sym e ∙ sym (append-nil text)
Joins-spelled text (m ∷ marks) whole (room, joins) =
    Joins-spelled (text ++ encode_utf8 m) marks whole joins ∙ append_assoc text (encode_utf8 m) (encode_utf8_all marks)

all_scalar : (marks : List ℕ) → AllByRecursion IsMark marks → scalars marks ≡ true
all_scalar [] all = refl
all_scalar (m ∷ marks) (mark, all) = rw (mark.0, all_scalar marks all) refl

-- A glyph's text is the UTF-8 encoding of its first character and its combining characters.
pub IsGlyphText-spelled : (text : List ℕ) (wide : Bool) (glyph : IsGlyphText text wide) →
    text ≡ encode_utf8_all (glyph.first ∷ glyph.marks)
IsGlyphText-spelled text wide glyph = Joins-spelled (encode_utf8 glyph.first) glyph.marks text glyph.spelled

-- The characters of a glyph's text are its first character and its combining characters.
pub IsGlyphText-chars : (text : List ℕ) (wide : Bool) (glyph : IsGlyphText text wide) →
    chars text ≡ glyph.first ∷ glyph.marks
IsGlyphText-chars text wide glyph =
    ap chars (IsGlyphText-spelled text wide glyph)
    ∙ chars-encodes (glyph.first ∷ glyph.marks) (rw (glyph.scalar, all_scalar glyph.marks glyph.are_marks) refl)

-- ==== The bytes of a character in UTF-8, and a text to which these bytes are appended one by one.

pub one_byte : (c : ℕ) → c < 0x80 → encode_utf8 c ≡ c ∷ []
unfolding encode_utf8
one_byte c high = grind (arith, nat_tests)

pub two_bytes : (c : ℕ) → 0x80 ≤ c → c < 0x800 → encode_utf8 c ≡ (0xC0 + c / 64) ∷ (0x80 + c % 64) ∷ []
unfolding encode_utf8
two_bytes c low high = grind (arith, nat_tests)

pub three_bytes : (c : ℕ) → 0x800 ≤ c → c < 0x1_0000 →
    encode_utf8 c ≡ (0xE0 + c / 4096) ∷ (0x80 + c / 64 % 64) ∷ (0x80 + c % 64) ∷ []
unfolding encode_utf8
three_bytes c low high = grind (arith, nat_tests)

pub four_bytes : (c : ℕ) → 0x1_0000 ≤ c →
    encode_utf8 c ≡ (0xF0 + c / 262144) ∷ (0x80 + c / 4096 % 64) ∷ (0x80 + c / 64 % 64) ∷ (0x80 + c % 64) ∷ []
unfolding encode_utf8
four_bytes c low = grind (arith, nat_tests)

pub add_two : (front t1 t2 : List ℕ) (a b : ℕ) → t1 ≡ front ++ a ∷ [] → t2 ≡ t1 ++ b ∷ [] → t2 ≡ front ++ (a ∷ b ∷ [])
add_two front t1 t2 a b e1 e2 = e2 ∙ ap (λ t. t ++ b ∷ []) e1 ∙ append_assoc front (a ∷ []) (b ∷ [])

pub add_three : (front t1 t2 t3 : List ℕ) (a b d : ℕ) → t1 ≡ front ++ a ∷ [] →
    t2 ≡ t1 ++ b ∷ [] → t3 ≡ t2 ++ d ∷ [] → t3 ≡ front ++ (a ∷ b ∷ d ∷ [])
add_three front t1 t2 t3 a b d e1 e2 e3 =
    e3 ∙ ap (λ t. t ++ d ∷ []) (add_two front t1 t2 a b e1 e2) ∙ append_assoc front (a ∷ b ∷ []) (d ∷ [])

pub add_four : (front t1 t2 t3 t4 : List ℕ) (a b d f : ℕ) → t1 ≡ front ++ a ∷ [] →
    t2 ≡ t1 ++ b ∷ [] → t3 ≡ t2 ++ d ∷ [] → t4 ≡ t3 ++ f ∷ [] → t4 ≡ front ++ (a ∷ b ∷ d ∷ f ∷ [])
add_four front t1 t2 t3 t4 a b d f e1 e2 e3 e4 =
    e4 ∙ ap (λ t. t ++ f ∷ []) (add_three front t1 t2 t3 a b d e1 e2 e3) ∙ append_assoc front (a ∷ b ∷ d ∷ []) (f ∷ [])
