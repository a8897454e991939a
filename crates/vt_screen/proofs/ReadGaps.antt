-- Printing glyphs that a terminal displays already, and what stays known about it.
use Rattle.std.proofs.Common.{◌≡◌, ℕ, zero, suc, ◌+◌, ◌-◌, ◌<◌, ◌≤◌, ◌&&◌, ◌^◌, min, not, Bool, true, false, List, []}
use Rattle.std.proofs.Common.{◌∷◌, ◌++◌, length, Option, Some, refl, sym, ap, subst, ◌∙◌, arith, inl, inr, get_or, set}
use Rattle.std.proofs.Common.{slice_index_or, ◌==◌}
use Rattle.std.specs.List.{AllByRecursion}
use Rattle.std.proofs.lemmas.Bool.{cases_eq, cases_lt}
use Rattle.std.proofs.lemmas.Bool.Decides.{nat_tests}
use Rattle.std.proofs.lemmas.Grind.{get_or-set_at}
use Rattle.std.proofs.lemmas.List.{ext_get_or, get_or-set_other, length-append, length-set, length-replicate}
use Rattle.std.proofs.lemmas.Str.{encode_ascii}
use Rattle.std.specs.Prelude.{if◌then◌else◌, ◌||◌}
use Rattle.std.specs.Char.{encode_utf8}
use Rattle.vt_cells.specs.Attrs.{Attrs, default_attrs, same_attrs}
use Rattle.vt_cells.specs.Cell.{CellValue, attrs_of, blank, glyph, is_right_half, is_wide, right_half, text_of}
use Rattle.vt_cells.specs.Cell.{default_blank}
use Rattle.vt_cells.specs.Op.{counted}
use Rattle.vt_cells.specs.Glyph.{columns_of}
use Rattle.vt_cells.specs.declared.pos.Pos.{Pos}
use Rattle.vt_cells.proofs.Attributes.{attrs_of-same}
use Rattle.vt_cells.proofs.Glyphs.{columns_of-ascii, columns_of-le}
use Rattle.vt_rows.specs.Cells.{IsPaired, at, column_of, ends_blank, put_narrow, blanks, put_cells}
use Rattle.vt_rows.specs.Row.{RowValue, blank_row, with_cells}
use Rattle.vt_rows.proofs.Edits.{length-put_cells, put_columns, same_columns}
use Rattle.vt_scan.specs.Automaton.{start}
use Rattle.vt_grid.specs.Page.{IsPage, Page, cursor_row, cell_at, row_at}
use Rattle.vt_grid.specs.Printing.{glyph_put, page_after_print, pushes, with_cursor_cells}
use Rattle.vt_grid.specs.Erasing.{erased_chars, erased_columns, erased_rest}
use Rattle.vt_grid.specs.declared.page_step.PageStep.TheVariants as page
use Rattle.vt_grid.proofs.Pages.{IsRow-cursor_row, page_at, cursor_columns, page_erased_chars, page_erased_rest}
use Rattle.vt_grid.proofs.Texts.{printed_put}
use Rattle.vt_grid.proofs.Carries.{page_printed}
use Rattle.vt_redraw.specs.Fits.{IsDrawn}
use Rattle.vt_screen.specs.Gaps.{IsByteGlyph, IsGap, gap_text, is_narrow_glyph, HasGlyphs, IsLater}
use Rattle.vt_screen.specs.Reading.{terminal, terminal_after}
use Rattle.vt_screen.specs.Screen.{ScreenValue}
use Rattle.vt_screen.specs.ShortMoves.{IsAsciiCharacter}
use Rattle.vt_screen.specs.Shown.{ReadsTo}
use Rattle.vt_screen.specs.Steps.{display_after, last_after}
use Rattle.vt_screen.specs.Steps as steps
use Rattle.vt_screen.proofs.ReadCharacters.{drawn_ascii, printed_moves, rest_read, same_screen, wide_put}
use Rattle.vt_screen.proofs.ReadOperations.{character_read, kept}
use Rattle.vt_screen.proofs.ReadTexts.{reads_then}
use Rattle.vt_screen.proofs.ReadRoutes.{right_read}

-- ==== Printing glyphs where a terminal already displays them, which has the effect of moving the cursor over them.

-- ---- a glyph where it already is

pub put_same : (c : ℕ) (text : List ℕ) (attrs : Attrs) (cells : List CellValue) → IsPaired cells → c < length cells →
    at cells c ≡ glyph text false attrs → put_narrow c text attrs cells ≡ cells
put_same c text attrs cells paired inside here =
    same_columns (put_narrow c text attrs cells) cells (length-put_cells c 1 orphan new cells refl (omega arith))
    (λ k. put_columns c 1 orphan new cells k refl (omega arith) ∙ column k)
  where
    orphan : CellValue
    orphan = glyph (0x20 ∷ []) false attrs

    new : List CellValue
    new = glyph text false attrs ∷ []

    before : (k : ℕ) → k + 1 ≡ c → is_wide (at cells k) ≡ false
    before k e = paired.halves k ∙ (ap (λ (i : ℕ). is_right_half (at cells i)) e ∙ ap is_right_half here)

    behind : (k : ℕ) → k ≡ c + 1 → is_right_half (at cells k) ≡ false
    behind k e = ap (λ (i : ℕ). is_right_half (at cells i)) e ∙ (sym (paired.halves c) ∙ ap is_wide here)

    middle : (k : ℕ) → k ≡ c → at new (k - c) ≡ at cells k
    middle k e =
        let none : k - c ≡ 0 = omega (arith, e) in
        ap (λ (i : ℕ). at new i) none ∙ (sym here ∙ ap (λ (i : ℕ). at cells i) (sym e))

    column : (k : ℕ) → column_of c 1 orphan new cells k ≡ at cells k
    column k = elim (cases_lt k c) [
      | inl lt ↦ let left = before k in grind (arith, nat_tests, left)
      | inr ge ↦ elim (cases_lt k (c + 1)) [
        | inl lt ↦ let same = middle k (omega arith) in grind (arith, nat_tests, same)
        | inr gt ↦ let right = behind k in grind (arith, nat_tests, right)
      ]
    ]

same_row : (row : RowValue) → (row.wrapped ≡ true → ends_blank row.cells ≡ false) → with_cells row row.cells ≡ row
same_row row flagged = ap (λ (w : Bool). record { cells = row.cells; wrapped = w }) (by_flag row.wrapped refl)
  where
    by_flag : (w : Bool) → row.wrapped ≡ w → (w && not (ends_blank row.cells)) ≡ w
    by_flag true e = ap not (flagged e)
    by_flag false e = refl

set_same : (rows : List RowValue) (r : ℕ) (d : RowValue) → r < length rows → set rows r (get_or rows r d) ≡ rows
set_same rows r d h = ext_get_or d (set rows r (get_or rows r d)) rows (length-set rows r (get_or rows r d)) (λ k lt. each k)
  where
    each : (k : ℕ) → get_or (set rows r (get_or rows r d)) k d ≡ get_or rows k d
    each k = elim (cases_eq k r) [
      | inl e ↦ get_or-set_at rows r k (get_or rows r d) d e h ∙ ap (λ (i : ℕ). get_or rows i d) (sym e)
      | inr ne ↦ get_or-set_other rows r k (get_or rows r d) d ne
    ]

same_page : (text : List ℕ) (attrs : Attrs) (page : Page) → IsPage page → page.column < page.width →
    at (cursor_row page).cells page.column ≡ glyph text false attrs →
    with_cursor_cells (put_narrow page.column text attrs (cursor_row page).cells) page ≡ page
same_page text attrs page p inside here =
    let row = IsRow-cursor_row page p in
    let wide = row.columns in
    ap (λ (cells : List CellValue). with_cursor_cells cells page)
    (put_same page.column text attrs (cursor_row page).cells row.paired (omega (arith, wide, inside)) here)
    ∙ (ap (λ (x : RowValue). record page { rows = set page.rows page.row x }) (same_row (cursor_row page) row.flagged)
    ∙ ap (λ (rows : List RowValue). record page { rows = rows })
    (set_same page.rows page.row (blank_row default_attrs page.width) p.cursor_row))

-- The terminal with its cursor some columns to the right, and with a different last character.
abbrev pub moved_on : ℕ → Option ℕ → ScreenValue → ScreenValue
moved_on n last screen =
    record screen { page = record screen.page { column = screen.page.column + n }; last = last }

print_again : (b : ℕ) (screen : ScreenValue) → IsAsciiCharacter b → IsPage screen.page →
    screen.page.column < screen.page.width →
    at (cursor_row screen.page).cells screen.page.column ≡ glyph (b ∷ []) false screen.attrs →
    ReadsTo (b ∷ []) screen (moved_on 1 (last_after b screen) screen)
print_again b screen is p inside here =
    let one = columns_of-ascii b is.0 is.1 in
    let high = is.1 in
    let bytes = encode_ascii b (omega arith) in
    let next : ScreenValue = display_after (steps.Print b) screen in
    let (unpushed, moved) = printed_moves b 0 screen one (omega arith) (omega arith) in
    let printed : page_after_print b screen.attrs screen.page ≡ record screen.page { column = screen.page.column + 1 } =
    printed_put b screen.attrs screen.page one inside
    ∙ (ap (λ (text : List ℕ). glyph_put text false screen.attrs screen.page) bytes
    ∙ ap (λ (page : Page). record page { column = screen.page.column + 1 })
    (same_page (b ∷ []) screen.attrs screen.page p inside here)) in
    subst (λ (xs : List ℕ). ReadsTo xs screen next) bytes
    (character_read b screen next (drawn_ascii b is) (kept (pushes b screen.page) next unpushed))
    ∙ ap (λ (page : Page). Some (terminal start (record screen { page = page; last = last_after b screen }))) printed

-- ---- gaps

gap_read : (n : ℕ) (screen : ScreenValue) → IsPage screen.page → screen.attrs ≡ default_attrs →
    screen.page.column + n < screen.page.width → IsGap (cursor_row screen.page).cells screen.page.column n →
    (last : Option ℕ)
    × ReadsTo (gap_text (cursor_row screen.page).cells screen.page.column n) screen (moved_on n last screen)
gap_read zero screen p plain inside gap =
    let e : screen.page.column ≡ screen.page.column + 0 = omega arith in (
      screen.last,
      ap (λ (c : ℕ). Some (terminal start (record screen { page = record screen.page { column = c } }))) e,
    )
gap_read (suc n) screen p plain inside ((b, is, here), gap) =
    let c = screen.page.column in
    let cells = (cursor_row screen.page).cells in
    let next : ScreenValue = moved_on 1 (last_after b screen) screen in
    let first = print_again b screen is p (omega arith) (here ∙ ap (λ (a : Attrs). glyph (b ∷ []) false a) (sym plain)) in
    let (last, rest) = gap_read n next (page_at screen.page.row (c + 1) screen.page p.cursor_row (omega arith) p) plain
    (omega arith) gap in
    let far : c + 1 + n ≡ c + suc n = omega arith in (
      last,
      reads_then (terminal start screen) (terminal start next) (terminal start (moved_on n last next))
          (text_of (at cells c)) (gap_text cells (c + 1) n)
          (subst (λ (xs : List ℕ). ReadsTo xs screen next) (sym (ap text_of here)) first) rest
          ∙ ap (λ (k : ℕ). Some (terminal start (record screen { page = record screen.page { column = k }; last = last }))) far,
    )

pub skip_read : (n : ℕ) (screen : ScreenValue) → 0 < n → n < 2 ^ 16 → screen.page.column + n < screen.page.width →
    ReadsTo (counted n 0x43) screen (moved_on n screen.last screen)
skip_read n screen some small inside =
    let c : min (screen.page.column + n) (screen.page.width - 1) ≡ screen.page.column + n = omega arith in
    right_read n screen some small
    ∙ ap (λ (k : ℕ). Some (terminal start (record screen { page = record screen.page { column = k } }))) c

letter_read : (b : ℕ) (screen : ScreenValue) → IsAsciiCharacter b → screen.page.column < screen.page.width →
    ReadsTo (b ∷ []) screen (record screen { page = page_after_print b screen.attrs screen.page; last = Some b })
letter_read b screen is inside =
    let one = columns_of-ascii b is.0 is.1 in
    let high = is.1 in
    let next : ScreenValue = display_after (steps.Print b) screen in
    let (unpushed, moved) = printed_moves b 0 screen one (omega arith) (omega arith) in
    let some : last_after b screen ≡ Some b = rw one (grind (arith, nat_tests)) in
    subst (λ (xs : List ℕ). ReadsTo xs screen next) (encode_ascii b (omega arith))
    (character_read b screen next (drawn_ascii b is) (kept (pushes b screen.page) next unpushed))
    ∙ ap (λ (last : Option ℕ). Some (terminal start
    (record screen { page = page_after_print b screen.attrs screen.page; last = last }))) some

-- Before a character, printing the glyphs of a gap has the effect of moving over them.
pub gap_same : (n b : ℕ) (screen : ScreenValue) → 0 < n → n < 2 ^ 16 → IsAsciiCharacter b → IsPage screen.page →
    screen.attrs ≡ default_attrs → screen.page.column + n < screen.page.width →
    IsGap (cursor_row screen.page).cells screen.page.column n →
    terminal_after (terminal start screen) (gap_text (cursor_row screen.page).cells screen.page.column n ++ b ∷ [])
    ≡ terminal_after (terminal start screen) (counted n 0x43 ++ b ∷ [])
gap_same n b screen some small is p plain inside gap =
    let (last, printed) = gap_read n screen p plain inside gap in
    let one : ScreenValue = moved_on n last screen in
    let two : ScreenValue = moved_on n screen.last screen in
    let after : ScreenValue = record two { page = page_after_print b two.attrs two.page; last = Some b } in
    reads_then (terminal start screen) (terminal start one) (terminal start after)
    (gap_text (cursor_row screen.page).cells screen.page.column n) (b ∷ []) printed (letter_read b one is inside)
    ∙ sym (reads_then (terminal start screen) (terminal start two) (terminal start after)
    (counted n 0x43) (b ∷ []) (skip_read n screen some small inside) (letter_read b two is inside))

-- A terminal that has the glyphs of a gap has the gap.
pub gap_shown : (xs ys : List CellValue) (c n : ℕ) → IsGap xs c n →
    ((k : ℕ) → c ≤ k → is_narrow_glyph (at xs k) ≡ true → at ys k ≡ at xs k) →
    IsGap ys c n × (gap_text ys c n ≡ gap_text xs c n)
gap_shown xs ys c zero gap shows = (tt, refl)
gap_shown xs ys c (suc n) ((b, is, e), gap) shows =
    let same : at ys c ≡ at xs c = shows c (omega arith) (ap is_narrow_glyph e) in
    let (rest, text) = gap_shown xs ys (c + 1) n gap (λ k h narrow. shows k (omega arith) narrow) in (
      ((b, is, same ∙ e), rest),
      ap (λ (t : List ℕ). t ++ gap_text ys (c + 1) n) (ap text_of same)
          ∙ ap (λ (t : List ℕ). text_of (at xs c) ++ t) text,
    )

pub gap_ascii : (cells : List CellValue) (c n : ℕ) (more : List ℕ) → IsGap cells c n →
    AllByRecursion IsAsciiCharacter more → AllByRecursion IsAsciiCharacter (gap_text cells c n ++ more)
gap_ascii cells c zero more gap all = all
gap_ascii cells c (suc n) more ((b, is, e), gap) all =
    subst (λ (t : List ℕ). AllByRecursion IsAsciiCharacter ((t ++ gap_text cells (c + 1) n) ++ more))
    (sym (ap text_of e)) (is, gap_ascii cells (c + 1) n more gap all)

pub gap_length : (cells : List CellValue) (c n : ℕ) → IsGap cells c n → length (gap_text cells c n) ≡ n
gap_length cells c zero gap = refl
gap_length cells c (suc n) ((b, is, e), gap) =
    let one : length (text_of (at cells c)) ≡ 1 = ap (λ (x : CellValue). length (text_of x)) e in
    let rest = gap_length cells (c + 1) n gap in
    omega (arith, one, rest, length-append (text_of (at cells c)) (gap_text cells (c + 1) n))

-- ---- for the code

pub byte_glyph : (cell : CellValue) (text : List ℕ) → text ≡ text_of cell → is_wide cell ≡ false → length text ≡ 1 →
    32 ≤ slice_index_or text 0 0 → slice_index_or text 0 0 < 127 → same_attrs default_attrs (attrs_of cell) ≡ true →
    IsByteGlyph cell
byte_glyph (blank attrs) text e narrow one low high same =
    let none : length text ≡ 0 = ap (λ (xs : List ℕ). length xs) e in absurd (omega (arith, none, one))
byte_glyph right_half text e narrow one low high same =
    let none : length text ≡ 0 = ap (λ (xs : List ℕ). length xs) e in absurd (omega (arith, none, one))
byte_glyph (glyph own true attrs) text e narrow one low high same = absurd cc
byte_glyph (glyph own false attrs) [] e narrow one low high same = absurd (omega (arith, one))
byte_glyph (glyph own false attrs) (b ∷ c ∷ more) e narrow one low high same = absurd (omega (arith, one))
byte_glyph (glyph own false attrs) (b ∷ []) e narrow one low high same = (
  b,
  (low, high),
  ap (λ (xs : List ℕ). glyph xs false attrs) (sym e)
      ∙ ap (λ (a : Attrs). glyph (b ∷ []) false a) (sym (attrs_of-same default_attrs attrs same)),
)

pub gap_more : (cells : List CellValue) (c n : ℕ) → 0 < n → IsByteGlyph (at cells c) → IsGap cells (c + 1) (n - 1) →
    IsGap cells c n
gap_more cells c zero some first rest = absurd (omega arith)
gap_more cells c (suc n) some first rest =
    let e : suc n - 1 ≡ n = omega arith in (first, subst (IsGap cells (c + 1)) e rest)

pub text_more : (cells : List CellValue) (c n : ℕ) → 0 < n →
    text_of (at cells c) ++ gap_text cells (c + 1) (n - 1) ≡ gap_text cells c n
text_more cells c zero some = absurd (omega arith)
text_more cells c (suc n) some =
    let e : suc n - 1 ≡ n = omega arith in
    ap (λ (m : ℕ). text_of (at cells c) ++ gap_text cells (c + 1) m) e

-- ==== What stays known about a terminal while it reads output: the glyphs that it still displays, and its attributes.

-- ---- changes of pages

pub glyphs_then : (cells : ℕ → ℕ → CellValue) (kept changed pos : Pos) (page after : Page) → HasGlyphs cells kept page →
    HasGlyphs (cell_at page) changed after → IsLater kept changed pos → HasGlyphs cells pos after
glyphs_then cells kept changed pos page after first second later r c from narrow =
    let (one, two) = later r c from in
    let e : cell_at page r c ≡ cells r c = first r c one narrow in
    second r c two (ap is_narrow_glyph e ∙ narrow) ∙ e

pub glyphs_stay : (pos : Pos) (page : Page) → HasGlyphs (cell_at page) pos page
glyphs_stay pos page r c from narrow = refl

not_right : (cell : CellValue) → is_narrow_glyph cell ≡ true → is_right_half cell ≡ false
not_right (blank attrs) e = refl
not_right (glyph text wide attrs) e = refl
not_right right_half e = absurd cc

-- An edit of the cursor's row leaves the glyphs in other rows, and those at or after its end.
pub edit_keeps : (c n : ℕ) (o : CellValue) (new : List CellValue) (pos : Pos) (page : Page) → IsPage page → length new ≡ n →
    c + n ≤ page.width → (pos.row ≡ page.row → c + n ≤ pos.col) → page.row ≤ pos.row →
    HasGlyphs (cell_at page) pos (with_cursor_cells (put_cells c o new n (cursor_row page).cells) page)
edit_keeps c n o new pos page p l inside behind below r k from narrow = elim (cases_eq r page.row) [
  | inl e ↦
      let cells : List CellValue = (cursor_row page).cells in
      let row : RowValue = with_cells (cursor_row page) (put_cells c o new n cells) in
      let here : pos.row ≡ r = omega (arith, e, below, from.0) in
      let there : pos.row ≡ page.row = here ∙ e in
      let far : c + n ≤ k = omega (arith, behind there, from.1 here) in
      let wide = cursor_columns page p in
      let stood : cell_at page r k ≡ at cells k = ap (λ (i : ℕ). at (row_at page i).cells k) e in
      let half : is_right_half (at cells k) ≡ false = not_right (at cells k) (ap is_narrow_glyph (sym stood) ∙ narrow) in
      let set : row_at (with_cursor_cells (put_cells c o new n cells) page) r ≡ row =
      get_or-set_at page.rows page.row r row (blank_row default_attrs page.width) e p.cursor_row in
      ap (λ (x : RowValue). at x.cells k) set
      ∙ (put_columns c n o new cells k l (omega (arith, inside, wide)) ∙ (grind (arith, nat_tests, half, far) ∙ sym stood))
  | inr ne ↦
      ap (λ (x : RowValue). at x.cells k)
      (get_or-set_other page.rows page.row r (with_cells (cursor_row page) (put_cells c o new n (cursor_row page).cells))
      (blank_row default_attrs page.width) ne)
]

-- ---- printing and erasing

-- From the position on, the terminal keeps its narrow glyphs; its page stays valid, and its attributes are unchanged.
pub record Leaves (pos : Pos) (screen after : ScreenValue) : Type 0 where
  pub page : IsPage after.page
  pub glyphs : HasGlyphs (cell_at screen.page) pos after.page
  pub attrs : after.attrs ≡ screen.attrs

pub narrow_leaves : (c : ℕ) (pos : Pos) (screen : ScreenValue) → IsDrawn c → columns_of c ≡ Some 1 → IsPage screen.page →
    screen.page.column < screen.page.width → pos.row ≡ screen.page.row → screen.page.column + 1 ≤ pos.col →
    Leaves pos screen (display_after (steps.Print c) screen)
narrow_leaves c pos screen is one p room row col = record {
  page = page_printed c screen.attrs screen.page is.scalar is.reported p;
  glyphs = subst (λ (after : Page). HasGlyphs (cell_at screen.page) pos after)
      (sym (printed_put c screen.attrs screen.page one room))
      (edit_keeps screen.page.column 1 (glyph (0x20 ∷ []) false screen.attrs)
      (glyph (encode_utf8 c) false screen.attrs ∷ []) pos screen.page p refl (omega (arith, room)) (λ e. col)
      (omega (arith, row)));
  attrs = refl;
}

wide_leaves : (c : ℕ) (pos : Pos) (screen : ScreenValue) → IsDrawn c → columns_of c ≡ Some 2 → IsPage screen.page →
    screen.page.column + 2 ≤ screen.page.width → pos.row ≡ screen.page.row → screen.page.column + 2 ≤ pos.col →
    Leaves pos screen (display_after (steps.Print c) screen)
wide_leaves c pos screen is two p room row col = record {
  page = page_printed c screen.attrs screen.page is.scalar is.reported p;
  glyphs = subst (λ (after : Page). HasGlyphs (cell_at screen.page) pos after)
      (sym (wide_put c screen.attrs screen.page two room))
      (edit_keeps screen.page.column 2 (blank screen.attrs)
      (glyph (encode_utf8 c) true screen.attrs ∷ right_half ∷ []) pos screen.page p refl room (λ e. col)
      (omega (arith, row)));
  attrs = refl;
}

pub ascii_leaves : (cs : List ℕ) (pos : Pos) (screen after : ScreenValue) → AllByRecursion IsAsciiCharacter cs →
    IsPage screen.page → screen.page.column + length cs ≤ screen.page.width → pos.row ≡ screen.page.row →
    screen.page.column + length cs ≤ pos.col → ReadsTo cs screen after → Leaves pos screen after
ascii_leaves [] pos screen after h p room row col e =
    subst (Leaves pos screen) (sym (same_screen after screen [] screen e refl))
    (record { page = p; glyphs = glyphs_stay pos screen.page; attrs = refl })
ascii_leaves (c ∷ cs) pos screen after h p room row col e =
    let next : ScreenValue = display_after (steps.Print c) screen in
    let one = columns_of-ascii c h.0.0 h.0.1 in
    let (unpushed, moved) = printed_moves c 0 screen one (omega arith) (omega arith) in
    let high = h.0.1 in
    let first : ReadsTo (c ∷ []) screen next =
    subst (λ (bytes : List ℕ). ReadsTo bytes screen next) (encode_ascii c (omega arith))
    (character_read c screen next (drawn_ascii c h.0) (kept (pushes c screen.page) next unpushed)) in
    let there = moved.column in
    let wide = moved.width in
    let step = narrow_leaves c pos screen (drawn_ascii c h.0) one p (omega (arith, room)) row (omega (arith, col)) in
    let rest = ascii_leaves cs pos next after h.1 step.page (omega (arith, there, wide, room)) (row ∙ sym moved.row)
    (omega (arith, there, col)) (rest_read (c ∷ []) cs screen next after first e) in
    record {
      page = rest.page;
      glyphs = glyphs_then (cell_at screen.page) pos pos pos next.page after.page step.glyphs rest.glyphs (λ r k f. (f, f));
      attrs = rest.attrs;
    }

pub character_leaves : (c n : ℕ) (pos : Pos) (screen after : ScreenValue) → IsDrawn c → columns_of c ≡ Some n → 0 < n →
    IsPage screen.page → screen.page.column + n ≤ screen.page.width → pos.row ≡ screen.page.row →
    screen.page.column + n ≤ pos.col → ReadsTo (encode_utf8 c) screen after → Leaves pos screen after
character_leaves c zero pos screen after is e some p room row col reads = absurd (omega arith)
character_leaves c (suc zero) pos screen after is e some p room row col reads =
    let next : ScreenValue = display_after (steps.Print c) screen in
    let (unpushed, moved) = printed_moves c 0 screen e (omega arith) room in
    let first = character_read c screen next is (kept (pushes c screen.page) next unpushed) in
    subst (Leaves pos screen) (same_screen next after (encode_utf8 c) screen first reads)
    (narrow_leaves c pos screen is e p (omega arith) row col)
character_leaves c (suc (suc zero)) pos screen after is e some p room row col reads =
    let next : ScreenValue = display_after (steps.Print c) screen in
    let (unpushed, moved) = printed_moves c 1 screen e (omega arith) room in
    let first = character_read c screen next is (kept (pushes c screen.page) next unpushed) in
    subst (Leaves pos screen) (same_screen next after (encode_utf8 c) screen first reads)
    (wide_leaves c pos screen is e p room row col)
character_leaves c (suc (suc (suc n))) pos screen after is e some p room row col reads =
    let le = columns_of-le c (suc (suc (suc n))) e in absurd (omega (arith, le))

pub erased_chars_leaves : (n : ℕ) (pos : Pos) (screen : ScreenValue) → IsPage screen.page → pos.row ≡ screen.page.row →
    screen.page.column + n ≤ pos.col → Leaves pos screen (display_after (steps.OnPage (page.EraseChars n)) screen)
unfolding erased_chars
erased_chars_leaves n pos screen p row col = record {
  page = page_erased_chars n screen.attrs screen.page p;
  glyphs = by_end ((n == 0) || (screen.page.column == screen.page.width));
  attrs = refl;
}
  where
    count : ℕ
    count = min n (screen.page.width - screen.page.column)

    by_end : (b : Bool) → HasGlyphs (cell_at screen.page) pos
        (if b then screen.page else erased_columns screen.page.column count screen.attrs screen.page)
    by_end true = glyphs_stay pos screen.page
    by_end false =
        edit_keeps screen.page.column count default_blank (blanks screen.attrs count) pos screen.page p
        (length-replicate count (blank screen.attrs)) (let inside = p.cursor_column in omega arith)
        (λ e. omega (arith, col)) (omega (arith, row))

pub erased_rest_leaves : (pos : Pos) (screen : ScreenValue) → IsPage screen.page → screen.page.row < pos.row →
    Leaves pos screen (display_after (steps.OnPage page.EraseRest) screen)
unfolding erased_rest
erased_rest_leaves pos screen p below = record {
  page = page_erased_rest screen.attrs screen.page p;
  glyphs = by_end (screen.page.column == screen.page.width);
  attrs = refl;
}
  where
    count : ℕ
    count = screen.page.width - screen.page.column

    by_end : (b : Bool) → HasGlyphs (cell_at screen.page) pos
        (if b then screen.page else erased_columns screen.page.column count screen.attrs screen.page)
    by_end true = glyphs_stay pos screen.page
    by_end false =
        edit_keeps screen.page.column count default_blank (blanks screen.attrs count) pos screen.page p
        (length-replicate count (blank screen.attrs)) (let inside = p.cursor_column in omega arith)
        (λ e. absurd (omega (arith, e, below))) (omega (arith, below))
