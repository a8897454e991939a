-- Cursor movements: their lengths, and where they lead.
use Rattle.std.proofs.Common.{◌≡◌, ℕ, zero, suc, ◌+◌, ◌/◌, ◌%◌, ◌≤◌, Bool, true, false, List, [], ◌∷◌, ◌++◌, length}
use Rattle.std.proofs.Common.{decimal, replicate, refl, ap, ◌∙◌, arith, length-append, ◌-◌, ◌<◌, min, Option, Some, inl}
use Rattle.std.proofs.Common.{inr, ◌*◌, ◌^◌, ◌==◌, nat_lt, sym, subst}
use Rattle.std.specs.Prelude.{if◌then◌else◌}
use Rattle.std.proofs.lemmas.Fmt.{decimal_digit, decimal_step}
use Rattle.std.proofs.lemmas.List.{length-replicate}
use Rattle.std.proofs.lemmas.Bool.Decides.{nat_tests}
use Rattle.vt_cells.specs.Op.{counted, csi, MoveRight, LineFeed, Backspace}
use Rattle.vt_cells.specs.declared.pos.Pos.{Pos}
use Rattle.vt_scan.specs.Automaton.{start, fresh_step}
use Rattle.vt_scan.specs.Table.{class_of}
use Rattle.vt_scan.proofs.ParameterNumbers.{decimal_groups, decimal_is_parameter}
use Rattle.vt_grid.specs.Moves.{moved, target_row, feeds_out, line_feed}
use Rattle.vt_grid.specs.Page.{Page}
use Rattle.vt_grid.specs.declared.grid.moves.CursorMove.TheVariants.{To, Return, Right, Tab, ToColumn}
use Rattle.vt_grid.specs.declared.page_step.PageStep.TheVariants.{Move}
use Rattle.vt_redraw.specs.declared.form.Form.{Form}
use Rattle.vt_redraw.specs.declared.form.Form.TheVariants.{Portable}
use Rattle.vt_screen.specs.ShortMoves.{last_text, route_text, row_start_text, AppendsReplacement, IsPlainSized}
use Rattle.vt_screen.specs.ShortMoves.{KeepsPortable, LeadsTo, IsAtPos, IsLastPart, IsRoute, column_after_last}
use Rattle.vt_screen.specs.ShortMoves.{column_after_route, column_after_tabs, next_stop, with_cursor}
use Rattle.vt_screen.specs.declared.short_moves.route.Route.{Route}
use Rattle.vt_screen.specs.Controls.{counted_step, other_steps, scrolling_steps, seen_of, unmarked_steps, control_steps}
use Rattle.vt_screen.specs.MadeOf.{Numbered, shortened_controls, shortened_finals, Control, IsMadeOf}
use Rattle.vt_screen.specs.Reading.{quiet_steps, terminal, read_byte}
use Rattle.vt_screen.specs.Screen.{ScreenValue, with_page, canvas_of}
use Rattle.vt_screen.specs.Shown.{ReadsTo}
use Rattle.vt_screen.specs.Steps.{OnPage, display_after}
use Rattle.vt_screen.specs.declared.short_moves.route.Last.{Last}
use Rattle.vt_screen.specs.declared.short_moves.route.Last.TheVariants as last
use Rattle.vt_screen.proofs.MadeOf.{made_piece, made_append, made_counted, made_nothing}
use Rattle.vt_screen.proofs.AgainPlain.{goes_read, held, op_goes, return_goes}
use Rattle.vt_screen.proofs.ReadOperations.{ordinal_read, fed_read, moved_right_read, left_read, returned_read}
use Rattle.vt_screen.proofs.ReadTexts.{csi_read, reads_then}
use Rattle.vt_screen.proofs.ReadCharacters.{IsTame, leads_replace, tame_keeps, tame_append, tame_nothing}

-- ==== The lengths of cursor movements in bytes.

pub digits_one : (n : ℕ) → n ≤ 9 → length (decimal n) ≡ 1
digits_one n high = ap (λ (xs : List ℕ). length xs) (decimal_digit n (omega (arith, high)))

digits_more : (n k : ℕ) → 10 ≤ n → n ≤ 65536 → length (decimal (n / 10)) ≡ k → length (decimal n) ≡ k + 1
digits_more n k low high front =
    ap (λ (xs : List ℕ). length xs) (decimal_step n low (omega (arith, high)))
    ∙ (length-append (decimal (n / 10)) ((48 + n % 10) ∷ []) ∙ ap (λ (m : ℕ). m + 1) front)

pub digits_two : (n : ℕ) → 10 ≤ n → n ≤ 99 → length (decimal n) ≡ 2
digits_two n low high = digits_more n 1 low (omega (arith, high)) (digits_one (n / 10) (omega (arith, high)))

pub digits_three : (n : ℕ) → 100 ≤ n → n ≤ 999 → length (decimal n) ≡ 3
digits_three n low high =
    digits_more n 2 (omega (arith, low)) (omega (arith, high))
    (digits_two (n / 10) (omega (arith, low)) (omega (arith, high)))

pub digits_four : (n : ℕ) → 1000 ≤ n → n ≤ 9999 → length (decimal n) ≡ 4
digits_four n low high =
    digits_more n 3 (omega (arith, low)) (omega (arith, high))
    (digits_three (n / 10) (omega (arith, low)) (omega (arith, high)))

pub digits_five : (n : ℕ) → 10000 ≤ n → n ≤ 65536 → length (decimal n) ≡ 5
digits_five n low high =
    digits_more n 4 (omega (arith, low)) (omega (arith, high))
    (digits_four (n / 10) (omega (arith, low)) (omega (arith, high)))

csi_length : (text : List ℕ) (final : ℕ) → length (csi text final) ≡ 3 + length text
csi_length text final = omega (arith, length-append text (final ∷ []))

pub back_length : (n : ℕ) → length {A = ℕ} (replicate n 0x08) ≡ n
back_length n = length-replicate n 0x08

pub right_length : (n : ℕ) → 2 ≤ n → length (counted n 0x43) ≡ 3 + length (decimal n)
right_length (suc (suc n)) some = csi_length (decimal (suc (suc n))) 0x43
right_length (suc zero) some = absurd (omega (arith, some))
right_length zero some = absurd (omega (arith, some))

pub column_length : (target : ℕ) → length (csi (decimal (target + 1)) 0x47) ≡ 3 + length (decimal (target + 1))
column_length target = csi_length (decimal (target + 1)) 0x47

pub row_start_length : (row : ℕ) → length (row_start_text row) ≡ 3 + length (decimal (row + 1))
row_start_length row = csi_length (decimal (row + 1)) 0x48

return_length : (returns : Bool) → length {A = ℕ} (if returns then 0x0D ∷ [] else []) ≡ (if returns then 1 else 0)
return_length true = refl
return_length false = refl

pub route_length : (route : Route) →
    length (route_text route)
    ≡ route.feeds + (if route.returns then 1 else 0) + route.tabs + length (last_text route.last)
route_length route =
    let feeds : List ℕ = replicate route.feeds 0x0A in
    let returns : List ℕ = if route.returns then 0x0D ∷ [] else [] in
    let tabs : List ℕ = replicate route.tabs 0x09 in
    let one = length-append feeds (returns ++ (tabs ++ last_text route.last)) in
    let two = length-append returns (tabs ++ last_text route.last) in
    let three = length-append tabs (last_text route.last) in
    let fed : length feeds ≡ route.feeds = length-replicate route.feeds 0x0A in
    let tabbed : length tabs ≡ route.tabs = length-replicate route.tabs 0x09 in
    let returned : length returns ≡ (if route.returns then 1 else 0) = return_length route.returns in
    omega (arith, one, two, three, fed, tabbed, returned)

-- ==== Reading CUP without a column.

row_quiet : (row : ℕ) (screen : ScreenValue) →
    quiet_steps (unmarked_steps (((row + 1) ∷ []) ∷ []) 0x48 (seen_of screen)) screen
    ≡ Some (display_after (OnPage (Move (To row 0))) screen)
unfolding counted_step scrolling_steps other_steps
row_quiet row screen = ap (λ (r : ℕ). Some (display_after (OnPage (Move (To r 0))) screen)) (ordinal_read row)

row_read : (row : ℕ) (screen : ScreenValue) → row < 65535 →
    ReadsTo (row_start_text row) screen (display_after (OnPage (Move (To row 0))) screen)
row_read row screen small =
    csi_read (decimal (row + 1)) 0x48 (((row + 1) ∷ []) ∷ []) screen (display_after (OnPage (Move (To row 0))) screen)
    (decimal_is_parameter (row + 1) (omega arith)) (omega arith, omega arith)
    (decimal_groups (row + 1) (omega arith)) (row_quiet row screen)

row_tame : (row : ℕ) → row < 65535 → IsTame (row_start_text row)
row_tame row small reader screen h =
    goes_read false reader screen (display_after (OnPage (Move (To row 0))) screen) (row_start_text row)
    (row_read row screen small)
    (held false reader screen (display_after (OnPage (Move (To row 0))) screen)
    (record { top = refl; bottom = refl; origin = refl; saved_origin = refl })
    (record { other = refl; is_alternate = refl; modes = refl; size = record { width = refl; height = refl } })
    h.offset h)

row_start_leads : (rows cols : ℕ) (known : Option Pos) (to : Pos) → to.row < 65535 → to.row < rows → to.col ≡ 0 →
    LeadsTo rows cols known to (row_start_text to.row)
row_start_leads rows cols known to small low first = record {
  reads = λ screen sized at. row_read to.row screen small
      ∙ ap (λ (p : Page). Some (terminal start (with_page p screen))) (placed screen sized);
  keeps = tame_keeps (row_start_text to.row) (row_tame to.row small);
  made = made_piece shortened_finals shortened_controls (Numbered ((to.row + 1) ∷ []) 0x48)
      (inr (inr (inr (inr (inr (inl refl))))));
}
  where
    placed : (screen : ScreenValue) → IsPlainSized rows cols screen →
        moved (To to.row 0) screen.page ≡ record screen.page { row = to.row; column = to.col }
    placed screen sized =
        let tall = sized.height in
        let r : target_row to.row screen.page ≡ to.row = rw (sized.plain.page.origin) (omega (arith, tall, low)) in
        let c : min 0 (screen.page.width - 1) ≡ to.col = omega (arith, first) in
        ap (λ x. record screen.page { row = x; column = min 0 (screen.page.width - 1) }) r
        ∙ ap (λ x. record screen.page { row = to.row; column = x }) c

-- CUP without a column was appended instead of the movement `head`.
pub row_start_appended : (form : Form) (rows cols : ℕ) (known : Option Pos) (to : Pos) (head before after : List ℕ)
    → LeadsTo rows cols known to head → to.row < 65535 → to.row < rows → to.col < cols → to.col ≡ 0
    → length (row_start_text to.row) ≤ length head → after ≡ before ++ row_start_text to.row
    → KeepsPortable rows cols known (Some to) head (row_start_text to.row)
    → AppendsReplacement form rows cols known (Some to) head before after
row_start_appended form rows cols known to head before after leads small low inside first shorter appends keeps = record {
  text = row_start_text to.row;
  appends = appends;
  replaces = leads_replace rows cols known to head (row_start_text to.row) inside leads
      (row_start_leads rows cols known to small low first) shorter;
  portable = λ p. keeps;
}

-- ==== Reading cursor movements: where they lead, and that they keep plain terminals plain.

abbrev pub IsShort : List ℕ → Type 0
IsShort text = IsMadeOf shortened_finals shortened_controls text

-- The cursor moves from one column to another in every row of a plain terminal of the given width, or from one row to
-- another in every column.
abbrev Columns : (width : ℕ) → List ℕ → (from to : ℕ) → Type 0
Columns width text from to =
    (screen : ScreenValue) → screen.page.width ≡ width → screen.page.column ≡ from
    → ReadsTo text screen (record screen { page = record screen.page { column = to } })

record IsMove (width : ℕ) (text : List ℕ) (from to : ℕ) : Type 0 where
  reads : Columns width text from to
  tame : IsTame text
  made : IsShort text

move_then : (width : ℕ) (a b : List ℕ) (from middle to : ℕ) → IsMove width a from middle → IsMove width b middle to →
    IsMove width (a ++ b) from to
move_then width a b from middle to one two = record {
  reads = λ screen w e.
      let next : ScreenValue = record screen { page = record screen.page { column = middle } } in
      reads_then (terminal start screen) (terminal start next)
      (terminal start (record screen { page = record screen.page { column = to } })) a b (one.reads screen w e)
      (two.reads next w refl);
  tame = tame_append a b one.tame two.tame;
  made = made_append shortened_finals shortened_controls a b one.made two.made;
}

stay : (width col : ℕ) → IsMove width [] col col
stay width col = record {
  reads = λ screen w e. ap (λ c. Some (terminal start (record screen { page = record screen.page { column = c } }))) e;
  tame = tame_nothing;
  made = made_nothing shortened_finals shortened_controls;
}

-- ---- tabs

tab_read : (screen : ScreenValue) → ReadsTo (0x09 ∷ []) screen (display_after (OnPage (Move Tab)) screen)
unfolding read_byte fresh_step class_of control_steps
tab_read screen = refl

tab_tame : IsTame (0x09 ∷ [])
tab_tame reader screen h =
    goes_read false reader screen (display_after (OnPage (Move Tab)) screen) (0x09 ∷ []) (tab_read screen)
    (held false reader screen (display_after (OnPage (Move Tab)) screen)
    (record { top = refl; bottom = refl; origin = refl; saved_origin = refl })
    (record { other = refl; is_alternate = refl; modes = refl; size = record { width = refl; height = refl } })
    h.offset h)

tab : (width col : ℕ) → IsMove width (0x09 ∷ []) col (next_stop width col)
tab width col = record {
  reads = λ screen w e. tab_read screen
      ∙ ap (λ c. Some (terminal start (record screen { page = record screen.page { column = c } })))
      (ap (λ c. min ((c / 8 + 1) * 8) (screen.page.width - 1)) e ∙ ap (λ k. min ((col / 8 + 1) * 8) (k - 1)) w);
  tame = tab_tame;
  made = made_piece shortened_finals shortened_controls (Control (0x09 ∷ [])) (inr (inl refl));
}

tabs : (width n col : ℕ) → IsMove width (replicate n 0x09) col (column_after_tabs width n col)
tabs width zero col = stay width col
tabs width (suc n) col =
    move_then width (0x09 ∷ []) (replicate n 0x09) col (next_stop width col) (column_after_tabs width n (next_stop width col))
    (tab width col) (tabs width n (next_stop width col))

-- ---- the last part

back_one : (width col : ℕ) → IsMove width (0x08 ∷ []) col (col - 1)
back_one width col = record {
  reads = λ screen w e. left_read screen
      ∙ ap (λ c. Some (terminal start (record screen { page = record screen.page { column = c - 1 } }))) e;
  tame = λ reader screen h. op_goes Backspace false reader screen tt tt h;
  made = made_piece shortened_finals shortened_controls (Control (0x08 ∷ [])) (inr (inr (inr (inr (inl refl)))));
}

back : (width n col : ℕ) → IsMove width (replicate n 0x08) col (col - n)
back width zero col =
    let e : col ≡ col - 0 = omega arith in subst (λ to. IsMove width [] col to) e (stay width col)
back width (suc n) col =
    let e : col - 1 - n ≡ col - suc n = omega arith in
    subst (λ to. IsMove width (replicate (suc n) 0x08) col to) e
    (move_then width (0x08 ∷ []) (replicate n 0x08) col (col - 1) (col - 1 - n) (back_one width col) (back width n (col - 1)))

pub right_tame : (n : ℕ) → n < 2 ^ 16 → IsTame (counted n 0x43)
right_tame n small reader screen h = op_goes (MoveRight n) false reader screen small tt h

pub right_read : (n : ℕ) (screen : ScreenValue) → 0 < n → n < 2 ^ 16 →
    ReadsTo (counted n 0x43) screen (record screen { page = moved (Right n) screen.page })
right_read zero screen some small = absurd (omega arith)
right_read (suc n) screen some small = moved_right_read n screen small

right : (width n col : ℕ) → 0 < n → n < 2 ^ 16 → IsMove width (counted n 0x43) col (min (col + n) (width - 1))
right width n col some small = record {
  reads = λ screen w e. right_read n screen some small
      ∙ ap (λ c. Some (terminal start (record screen { page = record screen.page { column = c } })))
      (ap (λ c. min (c + n) (screen.page.width - 1)) e ∙ ap (λ k. min (col + n) (k - 1)) w);
  tame = right_tame n small;
  made = made_counted shortened_finals shortened_controls n 0x43 (inr (inr (inr (inr (inr (inr (inl refl)))))));
}

column_quiet : (target : ℕ) (screen : ScreenValue) →
    quiet_steps (unmarked_steps (((target + 1) ∷ []) ∷ []) 0x47 (seen_of screen)) screen
    ≡ Some (display_after (OnPage (Move (ToColumn target))) screen)
unfolding counted_step
column_quiet target screen =
    ap (λ (c : ℕ). Some (display_after (OnPage (Move (ToColumn c))) screen)) (ordinal_read target)

column_read : (target : ℕ) (screen : ScreenValue) → target < 65535 →
    ReadsTo (csi (decimal (target + 1)) 0x47) screen (display_after (OnPage (Move (ToColumn target))) screen)
column_read target screen small =
    csi_read (decimal (target + 1)) 0x47 (((target + 1) ∷ []) ∷ []) screen
    (display_after (OnPage (Move (ToColumn target))) screen)
    (decimal_is_parameter (target + 1) (omega arith)) (omega arith, omega arith)
    (decimal_groups (target + 1) (omega arith)) (column_quiet target screen)

column : (width target col : ℕ) → target < 65535 →
    IsMove width (csi (decimal (target + 1)) 0x47) col (min target (width - 1))
column width target col small = record {
  reads = λ screen w e. column_read target screen small
      ∙ ap (λ k. Some (terminal start (record screen { page = record screen.page { column = min target (k - 1) } }))) w;
  tame = λ reader screen h.
      goes_read false reader screen (display_after (OnPage (Move (ToColumn target))) screen)
      (csi (decimal (target + 1)) 0x47) (column_read target screen small)
      (held false reader screen (display_after (OnPage (Move (ToColumn target))) screen)
      (record { top = refl; bottom = refl; origin = refl; saved_origin = refl })
      (record { other = refl; is_alternate = refl; modes = refl; size = record { width = refl; height = refl } })
      h.offset h);
  made = made_piece shortened_finals shortened_controls (Numbered ((target + 1) ∷ []) 0x47) (inl refl);
}

last_moves : (width : ℕ) (part : Last) (col : ℕ) → IsLastPart part →
    IsMove width (last_text part) col (column_after_last width part col)
last_moves width last.Stay col is = stay width col
last_moves width (last.Back n) col is = back width n col
last_moves width (last.Right n) col is = right width n col is.0 (omega (arith, is.1))
last_moves width (last.Column target) col is = column width target col is

-- ---- the carriage return

pub return_read : (screen : ScreenValue) → ReadsTo (0x0D ∷ []) screen (with_page (moved Return screen.page) screen)
return_read screen = returned_read screen []

return_if : (width : ℕ) (returns : Bool) (col : ℕ) →
    IsMove width (if returns then 0x0D ∷ [] else []) col (if returns then 0 else col)
return_if width true col = record {
  reads = λ screen w e. return_read screen;
  tame = λ reader screen h. return_goes false reader screen h;
  made = made_piece shortened_finals shortened_controls (Control (0x0D ∷ [])) (inl refl);
}
return_if width false col = stay width col

-- ---- line feeds

-- The cursor moves down within the page.
abbrev pub down : ℕ → ScreenValue → ScreenValue
down n screen = record screen { page = record screen.page { row = screen.page.row + n } }

feed_page : (p : Page) → p.bottom + 1 ≡ length p.rows → p.row + 1 < length p.rows →
    (feeds_out p ≡ false) × (line_feed p ≡ record p { row = p.row + 1 })
unfolding line_feed
feed_page p whole inside =
    let above : (p.row == p.bottom) ≡ false = grind (arith, nat_tests) in
    let below : nat_lt (p.row + 1) (length p.rows) ≡ true = grind (arith, nat_tests) in
    (rw above refl, rw (above, below) refl)

pub feed_read : (screen : ScreenValue) → screen.page.bottom + 1 ≡ length screen.page.rows →
    screen.page.row + 1 < length screen.page.rows → ReadsTo (0x0A ∷ []) screen (down 1 screen)
feed_read screen whole inside =
    let (none, goes) = feed_page screen.page whole inside in
    fed_read screen (record (canvas_of screen) { page = record screen.page { row = screen.page.row + 1 } })
    (rw (none, goes) refl)

pub feeds_read : (n : ℕ) (screen : ScreenValue) → screen.page.bottom + 1 ≡ length screen.page.rows →
    screen.page.row + n < length screen.page.rows → ReadsTo (replicate n 0x0A) screen (down n screen)
feeds_read zero screen whole inside =
    let e : screen.page.row ≡ screen.page.row + 0 = omega arith in
    ap (λ r. Some (terminal start (record screen { page = record screen.page { row = r } }))) e
feeds_read (suc n) screen whole inside =
    let e : screen.page.row + 1 + n ≡ screen.page.row + suc n = omega arith in
    reads_then (terminal start screen) (terminal start (down 1 screen)) (terminal start (down n (down 1 screen)))
    (0x0A ∷ []) (replicate n 0x0A) (feed_read screen whole (omega arith))
    (feeds_read n (down 1 screen) whole (omega arith))
    ∙ ap (λ r. Some (terminal start (record screen { page = record screen.page { row = r } }))) e

feeds_tame : (n : ℕ) → IsTame (replicate n 0x0A)
feeds_tame zero = tame_nothing
feeds_tame (suc n) =
    tame_append (0x0A ∷ []) (replicate n 0x0A) (λ reader screen h. op_goes LineFeed false reader screen tt tt h)
    (feeds_tame n)

feeds_made : (n : ℕ) → IsShort (replicate n 0x0A)
feeds_made zero = made_nothing shortened_finals shortened_controls
feeds_made (suc n) =
    made_append shortened_finals shortened_controls (0x0A ∷ []) (replicate n 0x0A)
    (made_piece shortened_finals shortened_controls (Control (0x0A ∷ [])) (inr (inr (inr (inl refl))))) (feeds_made n)

-- ---- routes

along : (width : ℕ) (route : Route) (col : ℕ) → IsLastPart route.last →
    IsMove width ((if route.returns then 0x0D ∷ [] else []) ++ (replicate route.tabs 0x09 ++ last_text route.last))
    col (column_after_route width route col)
along width route col is =
    let first : ℕ = if route.returns then 0 else col in
    let second = column_after_tabs width route.tabs first in
    move_then width (if route.returns then 0x0D ∷ [] else []) (replicate route.tabs 0x09 ++ last_text route.last)
    col first (column_after_route width route col) (return_if width route.returns col)
    (move_then width (replicate route.tabs 0x09) (last_text route.last) first second
    (column_after_route width route col) (tabs width route.tabs first) (last_moves width route.last second is))

pub route_leads : (rows cols : ℕ) (from to : Pos) (route : Route) → IsRoute cols route from to → to.row < rows →
    LeadsTo rows cols (Some from) to (route_text route)
route_leads rows cols from to route is low = record {
  reads = λ screen sized at. reads screen sized at;
  keeps = tame_keeps (route_text route) (tame_append feeds rest (feeds_tame route.feeds) moves.tame);
  made = made_append shortened_finals shortened_controls feeds rest (feeds_made route.feeds) moves.made;
}
  where
    feeds : List ℕ
    feeds = replicate route.feeds 0x0A

    rest : List ℕ
    rest = (if route.returns then 0x0D ∷ [] else []) ++ (replicate route.tabs 0x09 ++ last_text route.last)

    moves : IsMove cols rest from.col (column_after_route cols route from.col)
    moves = along cols route from.col is.part

    reads : (screen : ScreenValue) → IsPlainSized rows cols screen → IsAtPos from screen →
        ReadsTo (route_text route) screen (with_cursor to screen)
    reads screen sized at =
        let a = is.row in
        let below : screen.page.row + route.feeds ≡ to.row = omega (arith, at.row, a) in
        let whole = sized.plain.page.whole.1 in
        let inside : screen.page.row + route.feeds < length screen.page.rows = omega (arith, below, low, sized.height) in
        let middle = down route.feeds screen in
        reads_then (terminal start screen) (terminal start middle)
        (terminal start (record middle { page = record middle.page { column = column_after_route cols route from.col } }))
        feeds rest (feeds_read route.feeds screen whole inside) (moves.reads middle sized.width at.column)
        ∙ ap (λ r. Some (terminal start (record screen { page = record screen.page { row = r; column = column_after_route cols route from.col } }))) below
        ∙ ap (λ c. Some (terminal start (record screen { page = record screen.page { row = to.row; column = c } }))) (sym is.column)

-- A route was appended instead of the movement `head`.
pub move_appended : (form : Form) (rows cols : ℕ) (known : Option Pos) (from to : Pos) (route : Route) (head before after : List ℕ)
    → known ≡ Some from → LeadsTo rows cols known to head → IsRoute cols route from to → to.row < rows → to.col < cols
    → length (route_text route) < length head → after ≡ before ++ route_text route
    → (form ≡ Portable → KeepsPortable rows cols known (Some to) head (route_text route))
    → AppendsReplacement form rows cols known (Some to) head before after
move_appended form rows cols known from to route head before after at leads is low inside shorter appends keeps =
    let short : LeadsTo rows cols known to (route_text route) =
    subst (λ (k : Option Pos). LeadsTo rows cols k to (route_text route)) (sym at) (route_leads rows cols from to route is low) in
    record {
      text = route_text route;
      appends = appends;
      replaces = leads_replace rows cols known to head (route_text route) inside leads short (omega (arith, shorter));
      portable = keeps;
    }

-- The movement was appended as it is.
pub same_appended : (form : Form) (rows cols : ℕ) (known : Option Pos) (to : Pos) (head before after : List ℕ)
    → LeadsTo rows cols known to head → to.col < cols → after ≡ before ++ head
    → KeepsPortable rows cols known (Some to) head head
    → AppendsReplacement form rows cols known (Some to) head before after
same_appended form rows cols known to head before after leads inside appends keeps = record {
  text = head;
  appends = appends;
  replaces = leads_replace rows cols known to head head inside leads leads (omega arith);
  portable = λ p. keeps;
}
