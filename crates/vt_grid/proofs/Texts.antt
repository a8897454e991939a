-- Characters that fit on their row are printed as one edit.
use Rattle.std.proofs.Common.{◌≡◌, List, [], ◌∷◌, ◌++◌, Option, Some, None, refl, ap, ◌∙◌, ℕ, suc, ◌+◌, ◌<◌, ◌≤◌, ◌&&◌}
use Rattle.std.proofs.Common.{not, Bool, true, false, length, set, sym, arith, ◌*◌, nat_lt}
use Rattle.std.specs.Char.{encode_utf8}
use Rattle.std.proofs.lemmas.Bool.Decides.{nat_tests}
use Rattle.std.proofs.lemmas.List.{length-set, get_or-set_same, set-set}
use Rattle.std.proofs.lemmas.List.Elements.{All-head, All-tail}
use Rattle.std.specs.Prelude.{if◌then◌else◌}
use Rattle.vt_cells.specs.Op.{Op}
use Rattle.vt_cells.specs.Attrs.{default_attrs, Attrs}
use Rattle.vt_cells.specs.Glyph.{columns_of}
use Rattle.vt_cells.proofs.Glyphs.{IsGlyphText-first}
use Rattle.vt_rows.specs.Cells.{ends_blank, put_narrow, put_wide}
use Rattle.vt_rows.specs.Row.{RowValue, IsRow, blank_row, with_cells}
use Rattle.vt_rows.specs.Texts.{IsNarrowCharacter, IsNarrowText, put_text, IsWideCharacter, IsWideText, put_wide_text}
use Rattle.vt_rows.proofs.Rows.{ends_blank-put_narrow, ends_blank-put_wide}
use Rattle.vt_rows.proofs.Texts.{IsRow-put_text, put_text_after, IsRow-put_wide_text, put_wide_text_after}
use Rattle.vt_grid.specs.Canvas.{Canvas, and_then, canvas_after_op, drawn_all}
use Rattle.vt_grid.specs.Internals.{IsSized}
use Rattle.vt_grid.specs.Page.{Page, IsPage, cursor_row}
use Rattle.vt_grid.specs.Printing.{glyph_put, lacks_room, page_after_print, room_made, with_cursor_cells}
use Rattle.vt_grid.specs.Texts.{printed_text, text_put, wide_text_put}
use Rattle.vt_grid.proofs.Printing.{printed_narrow, page_glyph_put, printed_wide}
use Rattle.vt_grid.proofs.Pages.{page_at, page_cursor_cells, IsRow-cursor_row}
use Rattle.vt_grid.proofs.Carries.{sized}

-- ==== Concatenated lists of operations.

-- The operations turn canvas a into canvas b.
abbrev pub Draws : List Op → Canvas → Canvas → Type 0
Draws ops a b = drawn_all ops a ≡ Some b

pub and_then-assoc : {A B C : Type 0} (f : A → Option B) (g : B → Option C) (x : Option A) →
    and_then (λ a. and_then g (f a)) x ≡ and_then g (and_then f x)
and_then-assoc f g None = refl
and_then-assoc f g (Some x) = refl

pub and_then-same : {A B : Type 0} (f g : A → Option B) →
    ((a : A) → f a ≡ g a) → (x : Option A) → and_then f x ≡ and_then g x
and_then-same f g h None = refl
and_then-same f g h (Some x) = h x

pub drawn_all-append : (xs ys : List Op) (a : Canvas) →
    drawn_all (xs ++ ys) a ≡ and_then (drawn_all ys) (drawn_all xs a)
drawn_all-append [] ys a = refl
drawn_all-append (x ∷ xs) ys a =
    and_then-same (drawn_all (xs ++ ys))
    (λ b. and_then (drawn_all ys) (drawn_all xs b)) (drawn_all-append xs ys) (canvas_after_op x a)
    ∙ and_then-assoc (drawn_all xs) (drawn_all ys) (canvas_after_op x a)

pub draws_then : (xs ys : List Op) (a b c : Canvas) → Draws xs a b → Draws ys b c → Draws (xs ++ ys) a c
draws_then xs ys a b c p q = drawn_all-append xs ys a ∙ (ap (λ (z : Option Canvas). and_then (drawn_all ys) z) p ∙ q)

-- ==== Printable ASCII that fits on its row is printed as one edit.

-- ---- If there is room

pub has_room : (page : Page) → page.column < page.width → lacks_room 1 page ≡ false
has_room page h = grind (arith, nat_tests)

room_kept : (page : Page) → page.column < page.width → room_made 1 page ≡ page
unfolding room_made
room_kept page h = rw (has_room page h) refl

pub printed_put : (c : ℕ) (attrs : Attrs) (page : Page) → columns_of c ≡ Some 1 →
    page.column < page.width → page_after_print c attrs page ≡ glyph_put (encode_utf8 c) false attrs page
printed_put c attrs page one h =
    printed_narrow c attrs page one
    ∙ ap (glyph_put (encode_utf8 c) false attrs) (room_kept page h)

-- ---- One character, and those after it

-- Clearing a wrapped flag for one glyph and then for the next has the same result as clearing it for the next one only.
pub flags_twice : (w a b : Bool) → (w ≡ true → a ≡ false) → ((w && not a) && not b) ≡ (w && not b)
flags_twice true a b h = rw (h refl) refl
flags_twice false a b h = refl

row_twice : (width c b : ℕ) (text : List ℕ) (attrs : Attrs) (row : RowValue) →
    IsRow width row → c + suc (length text) ≤ width →
    with_cells (with_cells row (put_narrow c (encode_utf8 b) attrs row.cells))
    (put_text (c + 1) text attrs (put_narrow c (encode_utf8 b) attrs row.cells))
    ≡ with_cells row (put_text c (b ∷ text) attrs row.cells)
row_twice width c b text attrs row r h =
    let l = r.columns in
    let one = put_narrow c (encode_utf8 b) attrs row.cells in
    let two = put_text (c + 1) text attrs one in
    let end = ends_blank-put_narrow c (encode_utf8 b) attrs row.cells (omega arith) in
    let flag : row.wrapped ≡ true → ends_blank one ≡ false = λ w. let was = r.flagged w in grind (arith, nat_tests) in
    ap (λ (wrapped : Bool). record { cells = two; wrapped = wrapped })
    (flags_twice row.wrapped (ends_blank one) (ends_blank two) flag)
    ∙ ap (with_cells row) (sym (put_text_after c b text attrs row.cells (omega arith)))

text_put_after : (b : ℕ) (text : List ℕ) (attrs : Attrs) (page : Page) →
    IsPage page → page.column + suc (length text) ≤ page.width →
    text_put (b ∷ text) attrs page ≡ text_put text attrs (glyph_put (encode_utf8 b) false attrs page)
text_put_after b text attrs page p h =
    let row = cursor_row page in
    let once = with_cells row (put_narrow page.column (encode_utf8 b) attrs row.cells) in
    let whole = with_cells row (put_text page.column (b ∷ text) attrs row.cells) in
    let found = get_or-set_same page.rows page.row once (blank_row default_attrs page.width) p.cursor_row in
    let same : with_cells once (put_text (page.column + 1) text attrs once.cells) ≡ whole =
    row_twice page.width page.column b text attrs row (IsRow-cursor_row page p) h in
    let behind : RowValue → Page = λ (first : RowValue). record page {
      rows =
          set (set page.rows page.row once) page.row
          (with_cells first (put_text (page.column + 1) text attrs first.cells));
      column = page.column + 1 + length text;
    } in
    let rows = set-set page.rows page.row once (with_cells once (put_text (page.column + 1) text attrs once.cells))
    ∙ ap (set page.rows page.row) same in
    let column : page.column + 1 + length text ≡ page.column + suc (length text) = omega arith in
    sym (ap behind found ∙ (λ z. record page { rows = rows z; column = column z }))

-- ---- A whole text

pub text_printed : (text : List ℕ) (attrs : Attrs) (page : Page) → IsPage page →
    0 < length text → IsNarrowText text → page.column + length text ≤ page.width →
    text_put text attrs page ≡ printed_text text attrs page
text_printed [] attrs page p some h room = absurd (omega (arith, some))
text_printed (c ∷ []) attrs page p some h room =
    let first = All-head IsNarrowCharacter c [] h in
    sym (printed_put c attrs page first.1.1 (omega arith))
text_printed (c ∷ d ∷ text) attrs page p some h room =
    let first = All-head IsNarrowCharacter c (d ∷ text) h in
    let rest = All-tail IsNarrowCharacter c (d ∷ text) h in
    let next = glyph_put (encode_utf8 c) false attrs page in
    text_put_after c (d ∷ text) attrs page p room
    ∙ (text_printed (d ∷ text) attrs next
    (page_glyph_put (encode_utf8 c) false attrs page
    (IsGlyphText-first c false first.0 first.1.0 first.1.1) (omega arith) p)
    (omega arith) rest (omega arith)
    ∙ ap (printed_text (d ∷ text) attrs) (sym (printed_put c attrs page first.1.1 (omega arith))))

-- ---- What the edit keeps

pub page_text_put : (text : List ℕ) (attrs : Attrs) (page : Page) → IsNarrowText text →
    page.column + length text ≤ page.width → IsPage page → IsPage (text_put text attrs page)
page_text_put text attrs page t h p =
    let cells = put_text page.column text attrs (cursor_row page).cells in
    let q = page_cursor_cells cells page p
    (IsRow-put_text page.width (cursor_row page) page.column text attrs h t (IsRow-cursor_row page p)) in
    page_at page.row (page.column + length text) (with_cursor_cells cells page) q.cursor_row h q

pub sized_text_put : (rows cols : ℕ) (text : List ℕ) (attrs : Attrs) (page : Page) → IsNarrowText text →
    page.column + length text ≤ page.width → IsSized rows cols page → IsSized rows cols (text_put text attrs page)
sized_text_put rows cols text attrs page t h s =
    sized rows cols page (text_put text attrs page) s
    (length-set page.rows page.row
    (with_cells (cursor_row page) (put_text page.column text attrs (cursor_row page).cells)))
    refl
    (page_text_put text attrs page t h s.sound)

-- ==== Wide characters that fit on their row are printed as one edit.

-- ---- If there is room

has_room_for_two : (page : Page) → page.column + 2 ≤ page.width → lacks_room 2 page ≡ false
has_room_for_two page h = grind (arith, nat_tests)

room_kept_for_two : (page : Page) → page.column + 2 ≤ page.width → room_made 2 page ≡ page
unfolding room_made
room_kept_for_two page h = rw (has_room_for_two page h) refl

printed_wide_put : (c : ℕ) (attrs : Attrs) (page : Page) → columns_of c ≡ Some 2 →
    page.column + 2 ≤ page.width → page_after_print c attrs page ≡ glyph_put (encode_utf8 c) true attrs page
printed_wide_put c attrs page two h =
    let wide : nat_lt 1 page.width ≡ true = grind (arith, nat_tests) in
    printed_wide c attrs page two
    ∙ (ap (λ (b : Bool). if b then glyph_put (encode_utf8 c) true attrs (room_made 2 page) else page) wide
    ∙ ap (glyph_put (encode_utf8 c) true attrs) (room_kept_for_two page h))

-- ---- One character, and those after it

wide_row_twice : (width c x y : ℕ) (text : List ℕ) (attrs : Attrs) (row : RowValue) →
    IsRow width row → c + 2 * suc (suc (length text)) ≤ width →
    with_cells (with_cells row (put_wide c (encode_utf8 x) attrs row.cells))
    (put_wide_text (c + 2) (y ∷ text) attrs (put_wide c (encode_utf8 x) attrs row.cells))
    ≡ with_cells row (put_wide_text c (x ∷ y ∷ text) attrs row.cells)
wide_row_twice width c x y text attrs row r h =
    let l = r.columns in
    let one = put_wide c (encode_utf8 x) attrs row.cells in
    let two = put_wide_text (c + 2) (y ∷ text) attrs one in
    let end = ends_blank-put_wide c (encode_utf8 x) attrs row.cells (omega arith) in
    let flag : row.wrapped ≡ true → ends_blank one ≡ false = λ w. let was = r.flagged w in grind (arith, nat_tests) in
    ap (λ (wrapped : Bool). record { cells = two; wrapped = wrapped })
    (flags_twice row.wrapped (ends_blank one) (ends_blank two) flag)
    ∙ ap (with_cells row) (sym (put_wide_text_after c x (y ∷ text) attrs row.cells (omega arith)))

wide_text_put_after : (x y : ℕ) (text : List ℕ) (attrs : Attrs) (page : Page) →
    IsPage page → page.column + 2 * suc (suc (length text)) ≤ page.width →
    wide_text_put (x ∷ y ∷ text) attrs page
    ≡ wide_text_put (y ∷ text) attrs (glyph_put (encode_utf8 x) true attrs page)
wide_text_put_after x y text attrs page p h =
    let row = cursor_row page in
    let more = y ∷ text in
    let once = with_cells row (put_wide page.column (encode_utf8 x) attrs row.cells) in
    let whole = with_cells row (put_wide_text page.column (x ∷ more) attrs row.cells) in
    let found = get_or-set_same page.rows page.row once (blank_row default_attrs page.width) p.cursor_row in
    let same : with_cells once (put_wide_text (page.column + 2) more attrs once.cells) ≡ whole =
    wide_row_twice page.width page.column x y text attrs row (IsRow-cursor_row page p) h in
    let behind : RowValue → Page = λ (first : RowValue). record page {
      rows =
          set (set page.rows page.row once) page.row
          (with_cells first (put_wide_text (page.column + 2) more attrs first.cells));
      column = page.column + 2 + 2 * length more;
    } in
    let rows = set-set page.rows page.row once (with_cells once (put_wide_text (page.column + 2) more attrs once.cells))
    ∙ ap (set page.rows page.row) same in
    let column : page.column + 2 + 2 * length more ≡ page.column + 2 * suc (length more) = omega arith in
    sym (ap behind found ∙ (λ z. record page { rows = rows z; column = column z }))

-- ---- A whole text

pub wide_text_printed : (text : List ℕ) (attrs : Attrs) (page : Page) → IsPage page →
    0 < length text → IsWideText text → page.column + 2 * length text ≤ page.width →
    wide_text_put text attrs page ≡ printed_text text attrs page
wide_text_printed [] attrs page p some h room = absurd (omega (arith, some))
wide_text_printed (c ∷ []) attrs page p some h room =
    let first = All-head IsWideCharacter c [] h in
    sym (printed_wide_put c attrs page first.1.1 (omega arith))
wide_text_printed (c ∷ d ∷ text) attrs page p some h room =
    let first = All-head IsWideCharacter c (d ∷ text) h in
    let rest = All-tail IsWideCharacter c (d ∷ text) h in
    let next = glyph_put (encode_utf8 c) true attrs page in
    wide_text_put_after c d text attrs page p room
    ∙ (wide_text_printed (d ∷ text) attrs next
    (page_glyph_put (encode_utf8 c) true attrs page
    (IsGlyphText-first c true first.0 first.1.0 first.1.1) (omega arith) p)
    (omega arith) rest (omega arith)
    ∙ ap (printed_text (d ∷ text) attrs) (sym (printed_wide_put c attrs page first.1.1 (omega arith))))

-- ---- What the edit keeps

page_wide_text_put : (text : List ℕ) (attrs : Attrs) (page : Page) → IsWideText text →
    page.column + 2 * length text ≤ page.width → IsPage page → IsPage (wide_text_put text attrs page)
page_wide_text_put text attrs page t h p =
    let cells = put_wide_text page.column text attrs (cursor_row page).cells in
    let q = page_cursor_cells cells page p
    (IsRow-put_wide_text page.width (cursor_row page) page.column text attrs h t (IsRow-cursor_row page p)) in
    page_at page.row (page.column + 2 * length text) (with_cursor_cells cells page) q.cursor_row h q

pub sized_wide_text_put : (rows cols : ℕ) (text : List ℕ) (attrs : Attrs) (page : Page) → IsWideText text →
    page.column + 2 * length text ≤ page.width → IsSized rows cols page → IsSized rows cols (wide_text_put text attrs page)
sized_wide_text_put rows cols text attrs page t h s =
    sized rows cols page (wide_text_put text attrs page) s
    (length-set page.rows page.row
    (with_cells (cursor_row page) (put_wide_text page.column text attrs (cursor_row page).cells)))
    refl
    (page_wide_text_put text attrs page t h s.sound)
