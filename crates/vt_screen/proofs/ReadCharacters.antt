-- Parts of the output that are replaced, and characters that move the cursor.
use Rattle.std.proofs.Common.{◌≡◌, ℕ, ◌≤◌, ◌<◌, false, List, [], ◌++◌, Option, Some, None, length, refl, sym, ap, subst}
use Rattle.std.proofs.Common.{◌∙◌, arith, ◌≢◌, zero, suc, ◌+◌, min, nat_lt, true, ◌∷◌}
use Rattle.std.specs.Prelude.{encode_utf8_all}
use Rattle.std.specs.Char.{encode_utf8}
use Rattle.std.specs.List.{AllByRecursion}
use Rattle.std.proofs.lemmas.Bool.Decides.{nat_tests}
use Rattle.std.proofs.lemmas.Str.{encode_ascii}
use Rattle.unicode_width.specs.Width.{char_width}
use Rattle.vt_cells.specs.declared.pos.Pos.{Pos}
use Rattle.vt_cells.specs.Attrs.{Attrs}
use Rattle.vt_cells.specs.Glyph.{columns_of}
use Rattle.vt_cells.specs.Op.{Print}
use Rattle.vt_cells.proofs.Glyphs.{columns_of-ascii, columns_of-given, columns_of-high}
use Rattle.vt_scan.specs.Automaton.{start}
use Rattle.vt_grid.specs.Canvas.{and_then}
use Rattle.vt_grid.specs.Moves.{moved}
use Rattle.vt_grid.specs.Page.{Page}
use Rattle.vt_grid.specs.Printing.{glyph_put, lacks_room, page_after_print, pushes, room_made}
use Rattle.vt_grid.proofs.Printing.{printed_wide}
use Rattle.vt_grid.proofs.Texts.{has_room, printed_put}
use Rattle.vt_redraw.specs.Fits.{IsDrawn, IsDrawnText}
use Rattle.vt_screen.specs.Again.{KeepsPlain}
use Rattle.vt_screen.specs.CallsOfRun.{screen_in}
use Rattle.vt_screen.specs.MadeOf.{IsMadeOf, shortened_controls, shortened_finals}
use Rattle.vt_screen.specs.Reading.{Terminal, terminal, terminal_after}
use Rattle.vt_screen.specs.Screen.{ScreenValue}
use Rattle.vt_screen.specs.ShortMoves.{EndsAt, IsAt, IsAtPos, IsPlainSized, LeadsTo, Replaces, with_cursor}
use Rattle.vt_screen.specs.ShortMoves.{IsAsciiCharacter}
use Rattle.vt_screen.specs.Shown.{IsPlain, ReadsTo}
use Rattle.vt_screen.specs.Steps.{display_after}
use Rattle.vt_screen.specs.Steps as steps
use Rattle.vt_screen.proofs.AgainPlain.{Goes, Holds, goes_then, leaves, nothing_goes, plain_holds, aside_both, op_goes}
use Rattle.vt_screen.proofs.CallsNone.{read_run}
use Rattle.vt_screen.proofs.ReadTexts.{reads_append}
use Rattle.vt_screen.proofs.MadeOf.{made_drawn}
use Rattle.vt_screen.proofs.ReadOperations.{character_read, kept}

-- ==== Replacing parts of the output, one after the other.

-- Output that never takes a terminal out of the plain state.
abbrev pub IsTame : List ℕ → Type 0
IsTame text = (reader screen : ScreenValue) → Holds false reader screen → Goes false reader screen text

pub tame_keeps : (text : List ℕ) → IsTame text → KeepsPlain text
tame_keeps text tame reader plain =
    leaves reader text (record { saved = false; goes = tame reader reader (plain_holds reader plain) })

pub keeps_tame : (text : List ℕ) → KeepsPlain text → IsTame text
keeps_tame text keeps reader screen h =
    let left = keeps screen (record { page = record { whole = h.whole; origin = h.origin }; offset = h.offset }) in
    record {
      ground = left.ground;
      steps = left.steps;
      holds = record {
        whole = left.plain.page.whole;
        origin = left.plain.page.origin;
        saved_origin = λ t. absurd cc;
        offset = left.plain.offset;
        aside = aside_both reader screen (screen_in start screen text) left.aside h.aside;
      };
    }

pub tame_append : (a b : List ℕ) → IsTame a → IsTame b → IsTame (a ++ b)
tame_append a b one two reader screen h =
    let first = one reader screen h in
    goes_then false false reader screen a b first (two reader (screen_in start screen a) first.holds)

pub tame_nothing : IsTame []
tame_nothing reader screen h = nothing_goes false reader screen h

-- ---- terminals

pub grounded : (t : Terminal) → t.scan ≡ start → t ≡ terminal start t.screen
grounded t e = ap (λ s. terminal s t.screen) e

-- A terminal that has read output that keeps it plain is in ground state and has its old size.
pub ends_plain : (rows cols : ℕ) (text : List ℕ) (screen : ScreenValue) (t : Terminal) → KeepsPlain text →
    IsPlainSized rows cols screen → terminal_after (terminal start screen) text ≡ Some t →
    (t.scan ≡ start) × IsPlainSized rows cols t.screen
ends_plain rows cols text screen t keeps sized e =
    let left = keeps screen sized.plain in
    let ran = read_run text (terminal start screen) t e in
    let same : screen_in start screen text ≡ t.screen = ran.steps.becomes in (
      sym ran.state ∙ left.ground,
      record {
        plain = subst IsPlain same left.plain;
        height = ap (λ (s : ScreenValue). length s.page.rows) (sym same) ∙ (left.aside.size.height ∙ sized.height);
        width = ap (λ (s : ScreenValue). s.page.width) (sym same) ∙ (left.aside.size.width ∙ sized.width);
      },
    )

-- ---- parts of the output in sequence

same_some : {A : Type 0} (x y : A) → Some x ≡ Some y → x ≡ y
same_some x y e = cc

-- After the first parts, which have the same effect, the second parts have the same effect.
pub same_then : (a b : List ℕ) (c d : List ℕ) (t : Terminal) → terminal_after t a ≡ terminal_after t b →
    ((u : Terminal) → terminal_after t b ≡ Some u → terminal_after u c ≡ terminal_after u d) →
    terminal_after t (a ++ c) ≡ terminal_after t (b ++ d)
same_then a b c d t one two =
    reads_append t a c
    ∙ (ap (and_then (λ u. terminal_after u c)) one ∙ (by_result (terminal_after t b) refl ∙ sym (reads_append t b d)))
  where
    by_result : (r : Option Terminal) → terminal_after t b ≡ r →
        and_then (λ u. terminal_after u c) r ≡ and_then (λ u. terminal_after u d) r
    by_result None e = refl
    by_result (Some u) e = two u e

-- What holds of all results of the second part after the first holds of the result of both.
pub ends_then : (P : Terminal → Type 0) (a b : List ℕ) (t v : Terminal) →
    ((u : Terminal) → terminal_after t a ≡ Some u → terminal_after u b ≡ Some v → P v) →
    terminal_after t (a ++ b) ≡ Some v → P v
ends_then P a b t v each e = by_result (terminal_after t a) refl (sym (reads_append t a b) ∙ e)
  where
    by_result : (r : Option Terminal) → terminal_after t a ≡ r → and_then (λ u. terminal_after u b) r ≡ Some v → P v
    by_result None f g = absurd cc
    by_result (Some u) f g = each u f g

-- ---- one part

-- A part that is copied replaces itself.
pub copied : (rows cols : ℕ) (known new : Option Pos) (text : List ℕ) → KeepsPlain text →
    IsMadeOf shortened_finals shortened_controls text →
    ((screen after : ScreenValue) → IsPlainSized rows cols screen → IsAt known screen → ReadsTo text screen after →
    IsAt new after) → Replaces rows cols known new text text
copied rows cols known new text keeps made moves = record {
  same = λ screen sized at. refl;
  ends = λ screen t sized at e. ended screen t sized at e (ends_plain rows cols text screen t keeps sized e);
  keeps = keeps;
  made = made;
  shorter = omega arith;
}
  where
    ended : (screen : ScreenValue) (t : Terminal) → IsPlainSized rows cols screen → IsAt known screen →
        terminal_after (terminal start screen) text ≡ Some t → (t.scan ≡ start) × IsPlainSized rows cols t.screen →
        EndsAt rows cols new t
    ended screen t sized at e (ground, after) = record {
      ground = ground;
      sized = after;
      at = moves screen t.screen sized at (e ∙ ap Some (grounded t ground));
    }

-- A part after which nothing is known about the cursor.
pub copied_blindly : (rows cols : ℕ) (known : Option Pos) (text : List ℕ) → KeepsPlain text →
    IsMadeOf shortened_finals shortened_controls text → Replaces rows cols known None text text
copied_blindly rows cols known text keeps made = copied rows cols known None text keeps made (λ screen after sized at e. tt)

-- A cursor movement can be replaced by a different one to the same position.
pub leads_replace : (rows cols : ℕ) (known : Option Pos) (to : Pos) (old text : List ℕ) → to.col < cols →
    LeadsTo rows cols known to old → LeadsTo rows cols known to text → length text ≤ length old →
    Replaces rows cols known (Some to) old text
leads_replace rows cols known to old text inside one two shorter = record {
  same = λ screen sized at. two.reads screen sized at ∙ sym (one.reads screen sized at);
  ends = λ screen t sized at e. ended screen t sized (sym (one.reads screen sized at) ∙ e)
      (ends_plain rows cols old screen t one.keeps sized e);
  keeps = two.keeps;
  made = two.made;
  shorter = shorter;
}
  where
    ended : (screen : ScreenValue) (t : Terminal) → IsPlainSized rows cols screen →
        Some (terminal start (with_cursor to screen)) ≡ Some t → (t.scan ≡ start) × IsPlainSized rows cols t.screen →
        EndsAt rows cols (Some to) t
    ended screen t sized e (ground, after) =
        let same : with_cursor to screen ≡ t.screen = ap (λ (u : Terminal). u.screen) (same_some _ t e) in
        record {
          ground = ground;
          sized = after;
          at = subst (IsAtPos to) same (record { row = refl; column = refl; inside = subst (λ w. to.col < w) (sym sized.width) inside });
        }

-- ==== Reading the characters of drawing output: how far they move the cursor.

some_stands : (n : ℕ) (width : Option ℕ) → width ≡ Some n → width ≢ None
some_stands n width is none = absurd cc

columns_some_by : (c : ℕ) (width : Option ℕ) → char_width false c ≡ width → 0x100 ≤ c → columns_of c ≢ None
columns_some_by c (Some n) is high = some_stands (min n 2) (columns_of c) (columns_of-given c n is)
columns_some_by c None is high = some_stands 1 (columns_of c) (columns_of-high c is high)

-- Each character from U+0100 on takes a known number of columns.
pub columns_some : (c : ℕ) → 0x100 ≤ c → columns_of c ≢ None
columns_some c high = columns_some_by c (char_width false c) refl high

pub drawn_ascii : (c : ℕ) → IsAsciiCharacter c → IsDrawn c
drawn_ascii c (low, high) = record {
  scalar = grind (arith, nat_tests);
  shown = λ e. let met : Some 1 ≡ None = sym (columns_of-ascii c low high) ∙ e in absurd cc;
  reported = λ e. absurd (omega (arith, high, e));
}

all_drawn : (cs : List ℕ) → AllByRecursion IsAsciiCharacter cs → AllByRecursion IsDrawn cs
all_drawn [] h = tt
all_drawn (c ∷ cs) h = (drawn_ascii c h.0, all_drawn cs h.1)

ascii_encoded : (cs : List ℕ) → AllByRecursion IsAsciiCharacter cs → encode_utf8_all cs ≡ cs
ascii_encoded [] h = refl
ascii_encoded (c ∷ cs) h =
    let high = h.0.1 in
    ap (λ (xs : List ℕ). xs ++ encode_utf8_all cs) (encode_ascii c (omega arith))
    ∙ ap (λ (xs : List ℕ). c ∷ xs) (ascii_encoded cs h.1)

pub ascii_text : (cs : List ℕ) → AllByRecursion IsAsciiCharacter cs → IsDrawnText cs
ascii_text cs h = record { characters = cs; spelled = ascii_encoded cs h; printable = all_drawn cs h }

pub other_text : (c : ℕ) (bytes : List ℕ) → IsDrawn c → bytes ≡ encode_utf8 c → IsDrawnText bytes
other_text c bytes is e = record { characters = c ∷ []; spelled = encoded (encode_utf8 c) ∙ sym e; printable = (is, tt) }
  where
    encoded : (xs : List ℕ) → xs ++ [] ≡ xs
    encoded [] = refl
    encoded (x ∷ xs) = ap (λ (ys : List ℕ). x ∷ ys) (encoded xs)

pub text_tame : (text : List ℕ) → IsDrawnText text → IsTame text
text_tame text is reader screen h = op_goes (Print text) false reader screen is tt h

-- The cursor has moved right in its row.
pub record HasMoved (n : ℕ) (after screen : ScreenValue) : Type 0 where
  pub row : after.page.row ≡ screen.page.row
  pub column : after.page.column ≡ screen.page.column + n
  pub width : after.page.width ≡ screen.page.width

pub wide_put : (c : ℕ) (attrs : Attrs) (p : Page) → columns_of c ≡ Some 2 → p.column + 2 ≤ p.width →
    page_after_print c attrs p ≡ glyph_put (encode_utf8 c) true attrs p
unfolding room_made
wide_put c attrs p two h =
    let wide : nat_lt 1 p.width ≡ true = grind (arith, nat_tests) in
    let room : lacks_room 2 p ≡ false = grind (arith, nat_tests) in
    printed_wide c attrs p two ∙ rw (wide, room) refl

pub printed_moves : (c n : ℕ) (screen : ScreenValue) → columns_of c ≡ Some (suc n) → suc n ≤ 2 →
    screen.page.column + suc n ≤ screen.page.width →
    (pushes c screen.page ≡ false) × HasMoved (suc n) (display_after (steps.Print c) screen) screen
printed_moves c zero screen one few room =
    let put = printed_put c screen.attrs screen.page one (omega arith) in (
      rw (one, has_room screen.page (omega arith)) refl,
      record {
        row = ap (λ (p : Page). p.row) put;
        column = ap (λ (p : Page). p.column) put;
        width = ap (λ (p : Page). p.width) put;
      },
    )
printed_moves c (suc zero) screen two few room =
    let put = wide_put c screen.attrs screen.page two room in
    let wide : nat_lt 1 screen.page.width ≡ true = grind (arith, nat_tests) in
    let lacks : lacks_room 2 screen.page ≡ false = grind (arith, nat_tests) in (
      rw (two, wide, lacks) refl,
      record {
        row = ap (λ (p : Page). p.row) put;
        column = ap (λ (p : Page). p.column) put;
        width = ap (λ (p : Page). p.width) put;
      },
    )
printed_moves c (suc (suc n)) screen e few room = absurd (omega arith)

-- The rest of the output is read after its first part.
pub rest_read : (a b : List ℕ) (screen next after : ScreenValue) → ReadsTo a screen next → ReadsTo (a ++ b) screen after →
    ReadsTo b next after
rest_read a b screen next after first both =
    sym (ap (and_then (λ (u : Terminal). terminal_after u b)) first) ∙ (sym (reads_append (terminal start screen) a b) ∙ both)

pub same_screen : (a b : ScreenValue) (x : List ℕ) (screen : ScreenValue) → ReadsTo x screen a → ReadsTo x screen b → a ≡ b
same_screen a b x screen one two =
    let e : Some (terminal start a) ≡ Some (terminal start b) = sym one ∙ two in
    let f : terminal start a ≡ terminal start b = cc in ap (λ (t : Terminal). t.screen) f

ascii_moves : (cs : List ℕ) (screen after : ScreenValue) → AllByRecursion IsAsciiCharacter cs →
    screen.page.column + length cs ≤ screen.page.width → ReadsTo cs screen after → HasMoved (length cs) after screen
ascii_moves [] screen after h room e =
    let same : after ≡ screen = same_screen after screen [] screen e refl in
    subst (λ (s : ScreenValue). HasMoved 0 s screen) (sym same) (record { row = refl; column = omega arith; width = refl })
ascii_moves (c ∷ cs) screen after h room e =
    let next = display_after (steps.Print c) screen in
    let one = columns_of-ascii c h.0.0 h.0.1 in
    let (unpushed, moved) = printed_moves c 0 screen one (omega arith) (omega arith) in
    let high = h.0.1 in
    let first : ReadsTo (c ∷ []) screen next =
    subst (λ (bytes : List ℕ). ReadsTo bytes screen next) (encode_ascii c (omega arith))
    (character_read c screen next (drawn_ascii c h.0) (kept (pushes c screen.page) next unpushed)) in
    let col = moved.column in
    let wide = moved.width in
    let rest = ascii_moves cs next after h.1 (omega (arith, col, wide, room)) (rest_read (c ∷ []) cs screen next after first e) in
    let far = rest.column in
    record {
      row = rest.row ∙ moved.row;
      column = omega (arith, far, col);
      width = rest.width ∙ moved.width;
    }

other_moves : (c n : ℕ) (screen after : ScreenValue) → IsDrawn c → columns_of c ≡ Some n → 0 < n → n ≤ 2 →
    screen.page.column + n ≤ screen.page.width → ReadsTo (encode_utf8 c) screen after → HasMoved n after screen
other_moves c zero screen after is e some few room reads = absurd (omega arith)
other_moves c (suc n) screen after is e some few room reads =
    let next = display_after (steps.Print c) screen in
    let (unpushed, moved) = printed_moves c n screen e few room in
    let first = character_read c screen next is (kept (pushes c screen.page) next unpushed) in
    subst (λ (s : ScreenValue). HasMoved (suc n) s screen)
    (same_screen next after (encode_utf8 c) screen first reads) moved

moved_at : (n : ℕ) (from to : Pos) (screen after : ScreenValue) → to.row ≡ from.row → to.col ≡ from.col + n →
    to.col < screen.page.width → IsAtPos from screen → HasMoved n after screen → IsAtPos to after
moved_at n from to screen after row col inside at moved = record {
  row = moved.row ∙ (at.row ∙ sym row);
  column = moved.column ∙ (ap (λ c. c + n) at.column ∙ sym col);
  inside = subst (λ w. to.col < w) (sym moved.width) inside;
}

pub ascii_copied : (rows cols : ℕ) (from to : Pos) (text : List ℕ) → AllByRecursion IsAsciiCharacter text →
    to.row ≡ from.row → to.col ≡ from.col + length text → to.col < cols →
    Replaces rows cols (Some from) (Some to) text text
ascii_copied rows cols from to text is row col inside =
    copied rows cols (Some from) (Some to) text (tame_keeps text (text_tame text (ascii_text text is)))
    (made_drawn shortened_finals shortened_controls text (ascii_text text is))
    (λ screen after sized at e.
    let there = at.column in
    let wide = sized.width in
    moved_at (length text) from to screen after row col (omega (arith, inside, wide)) at
    (ascii_moves text screen after is (omega (arith, there, wide, col, inside)) e))

pub other_copied : (rows cols c n : ℕ) (from to : Pos) (text : List ℕ) → IsDrawn c → text ≡ encode_utf8 c →
    columns_of c ≡ Some n → 0 < n → n ≤ 2 → to.row ≡ from.row → to.col ≡ from.col + n → to.col < cols →
    Replaces rows cols (Some from) (Some to) text text
other_copied rows cols c n from to text is spelled columns some few row col inside =
    copied rows cols (Some from) (Some to) text (tame_keeps text (text_tame text (other_text c text is spelled)))
    (made_drawn shortened_finals shortened_controls text (other_text c text is spelled))
    (λ screen after sized at e.
    let there = at.column in
    let wide = sized.width in
    moved_at n from to screen after row col (omega (arith, inside, wide)) at
    (other_moves c n screen after is columns some few (omega (arith, there, wide, col, inside))
    (subst (λ (bytes : List ℕ). ReadsTo bytes screen after) spelled e)))
