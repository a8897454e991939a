-- Reading the bytes of a drawing operation has the effect that the operation draws.
use Rattle.std.proofs.Common.{◌≡◌, ◌≢◌, ℕ, zero, suc, ◌+◌, ◌-◌, ◌<◌, ◌≤◌, ◌^◌, ◌⊎◌, inl, inr, ⊎_elim, Bool, true, false}
use Rattle.std.proofs.Common.{◌==◌, List, [], ◌∷◌, Option, Some, None, refl, sym, ap, subst, ◌∙◌, arith, ◌++◌}
use Rattle.std.proofs.Common.{append-nil}
use Rattle.std.specs.Prelude.{decimal, if◌then◌else◌, chars, encode_utf8_all}
use Rattle.std.specs.List.{AllByRecursion}
use Rattle.std.specs.Char.{encode_utf8}
use Rattle.std.specs.Str.{all_scalars}
use Rattle.std.proofs.lemmas.Bool.{cases_lt}
use Rattle.std.proofs.lemmas.Bool.Decides.{nat_tests}
use Rattle.std.proofs.lemmas.List.Elements.{All-from_recursion}
use Rattle.std.proofs.lemmas.Str.{chars-encodes}
use Rattle.unicode_width.specs.Width.{char_width}
use Rattle.vt_cells.specs.Attrs.{default_attrs, same_attrs, changed_attrs, Attrs}
use Rattle.vt_cells.specs.Glyph.{columns_of}
use Rattle.vt_cells.specs.Op.{Op, Hide, ClearAttrs, MoveTo, MoveRight, NextRow, LineFeed, Backspace, EraseBelow}
use Rattle.vt_cells.specs.Op.{EraseRest, EraseChars, SaveCursor, RestoreCursor, ChangeAttrs, Print, csi, counted, place}
use Rattle.vt_cells.specs.Op.{semicolon_list, change_numbers, change_text, FitsAttrs, bytes_of, bytes_of_all}
use Rattle.vt_cells.proofs.Attributes.{changed_attrs-new}
use Rattle.vt_scan.specs.Automaton.{Character, Executed, start, fresh_step}
use Rattle.vt_scan.specs.Parameters.{table_of, groups_of, numbers_of, number_of}
use Rattle.vt_scan.specs.Table.{class_of}
use Rattle.vt_scan.specs.Texts.{place_groups}
use Rattle.vt_scan.proofs.Readback.{read_written}
use Rattle.vt_scan.proofs.ParameterNumbers.{alone, empty_groups, decimal_groups, joined_groups, place_groups_are}
use Rattle.vt_scan.proofs.ParameterNumbers.{decimal_is_parameter, joined_is_parameter, place_is_parameter}
use Rattle.vt_grid.specs.Canvas.{Canvas, and_then, canvas_after_op, drawn_all, drawn_text, canvas_after_line_feed}
use Rattle.vt_grid.specs.Moves.{moved, line_feed, feeds_out}
use Rattle.vt_grid.specs.declared.grid.moves.CursorMove.TheVariants.{Return, Right, Left, To}
use Rattle.vt_grid.specs.Printing.{pushes}
use Rattle.vt_grid.specs.declared.page_step.PageStep.{PageStep}
use Rattle.vt_grid.specs.declared.page_step.PageStep.TheVariants as page
use Rattle.vt_redraw.specs.Fits.{Fits, IsDrawn}
use Rattle.vt_screen.specs.Screen.{ScreenValue, canvas_of, with_canvas, with_page}
use Rattle.vt_screen.specs.Controls.{unmarked_steps, counted_step, scrolling_steps, other_steps, page_erasing}
use Rattle.vt_screen.specs.Controls.{row_erasing, character_steps, control_steps, escape_steps, intermediate_steps}
use Rattle.vt_screen.specs.Controls.{private_steps, mode_step, number_or, seen_of}
use Rattle.vt_screen.specs.Steps.{OnPage, display_after}
use Rattle.vt_screen.specs.Steps as steps
use Rattle.vt_screen.specs.Reading.{quiet_step, quiet_steps, terminal, read_byte, terminal_after}
use Rattle.vt_screen.specs.Shown.{SetsAttrs, attributes_text}
use Rattle.vt_screen.proofs.ReadSgr.{sgr_change, sgr_clear, few_changes, some_changes}
use Rattle.vt_screen.proofs.ReadTexts.{IsFinal, reads_then, event_read, csi_read}

-- ==== Reading the bytes of a drawing operation, on any screen, has the effect that the operation draws.

-- Reading the output leaves the given canvas on the screen; the last character is unspecified.
abbrev pub Reads : List ℕ → ScreenValue → Canvas → Type 0
Reads text screen canvas =
    (last : Option ℕ)
    × (terminal_after (terminal start screen) text ≡ Some (terminal start (record (with_canvas canvas screen) { last = last })))

-- ---- the result of drawing is known

known : (text : List ℕ) (screen : ScreenValue) (e d : Canvas) → Some e ≡ Some d →
    terminal_after (terminal start screen) text ≡ Some (terminal start (with_canvas e screen)) → Reads text screen d
known text screen e d h r =
    let same : e ≡ d = cc in
    subst (λ (c : Canvas). Reads text screen c) same (screen.last, r)

-- If an operation draws without scrolling a row off the page, so does the step that performs it.
unless : (b : Bool) (e d : Canvas) (after : ScreenValue) (f : Canvas → ScreenValue) →
    (if b then None else Some e) ≡ Some d → after ≡ f e → (if b then None else Some after) ≡ Some (f d)
unless true e d after f h same = absurd cc
unless false e d after f h same = let q : e ≡ d = cc in ap Some (same ∙ ap f q)

pub kept : (b : Bool) (x : ScreenValue) → b ≡ false → (if b then None else Some x) ≡ Some x
kept true x h = absurd cc
kept false x h = refl

-- ---- hiding and showing the cursor

pub hidden_read : (hidden : Bool) (screen : ScreenValue) →
    terminal_after (terminal start screen) (bytes_of (Hide hidden)) ≡ Some (terminal start (record screen { hidden = hidden }))
unfolding read_byte fresh_step class_of table_of groups_of numbers_of number_of private_steps intermediate_steps mode_step
hidden_read true screen = refl
hidden_read false screen = refl

-- ---- control sequences

-- Reading a control sequence without a number performs its step.
final_alone : (final : ℕ) (screen after : ScreenValue) → IsFinal final
    → quiet_steps (unmarked_steps ((0 ∷ []) ∷ []) final (seen_of screen)) screen ≡ Some after
    → terminal_after (terminal start screen) (csi [] final) ≡ Some (terminal start after)
final_alone final screen after is_final quiet = csi_read [] final ((0 ∷ []) ∷ []) screen after tt is_final empty_groups quiet

pub cleared_read : (screen : ScreenValue) →
    terminal_after (terminal start screen) (csi [] 0x6D) ≡ Some (terminal start (record screen { attrs = default_attrs }))
unfolding counted_step scrolling_steps other_steps
cleared_read screen =
    final_alone 0x6D screen (record screen { attrs = default_attrs }) (omega arith, omega arith) (sgr_clear screen)

erased_below_read : (screen : ScreenValue) →
    terminal_after (terminal start screen) (csi [] 0x4A) ≡ Some (terminal start (display_after (OnPage page.EraseBelow) screen))
unfolding counted_step scrolling_steps other_steps page_erasing
erased_below_read screen =
    final_alone 0x4A screen (display_after (OnPage page.EraseBelow) screen) (omega arith, omega arith) refl

pub erased_rest_read : (screen : ScreenValue) →
    terminal_after (terminal start screen) (csi [] 0x4B) ≡ Some (terminal start (display_after (OnPage page.EraseRest) screen))
unfolding counted_step scrolling_steps other_steps row_erasing
erased_rest_read screen =
    final_alone 0x4B screen (display_after (OnPage page.EraseRest) screen) (omega arith, omega arith) refl

-- A count other than 0 is read as itself.
count_read : (n : ℕ) (rest : List (List ℕ)) → 0 < n → number_or 1 0 ((n ∷ []) ∷ rest) ≡ n
count_read n rest h = let t : (n == 0) ≡ false = grind (arith, nat_tests) in rw t refl

-- A control sequence with a count: the step of the sequence with this count.
pub counted_read : (n final : ℕ) (step : ℕ → PageStep) (screen : ScreenValue) → suc n < 2 ^ 16 → IsFinal final
    → ((groups : List (List ℕ))
    → quiet_steps (unmarked_steps groups final (seen_of screen)) screen
    ≡ Some (display_after (OnPage (step (number_or 1 0 groups))) screen))
    → terminal_after (terminal start screen) (counted (suc n) final)
    ≡ Some (terminal start (display_after (OnPage (step (suc n))) screen))
counted_read zero final step screen h is_final means =
    final_alone final screen (display_after (OnPage (step 1)) screen) is_final (means ((0 ∷ []) ∷ []))
counted_read (suc n) final step screen h is_final means =
    let count : ℕ = suc (suc n) in
    let groups : List (List ℕ) = (count ∷ []) ∷ [] in
    csi_read (decimal count) final groups screen (display_after (OnPage (step count)) screen)
    (decimal_is_parameter count (omega arith)) is_final (decimal_groups count (omega arith))
    (means groups ∙ ap (λ (k : ℕ). Some (display_after (OnPage (step k)) screen)) (count_read count [] (omega arith)))

pub moved_right_read : (n : ℕ) (screen : ScreenValue) → suc n < 2 ^ 16 →
    terminal_after (terminal start screen) (counted (suc n) 0x43)
    ≡ Some (terminal start (display_after (OnPage (page.Move (Right (suc n)))) screen))
unfolding counted_step
moved_right_read n screen h = counted_read n 0x43 (λ (k : ℕ). page.Move (Right k)) screen h (omega arith, omega arith) (λ groups. refl)

pub erased_chars_read : (n : ℕ) (screen : ScreenValue) → suc n < 2 ^ 16 →
    terminal_after (terminal start screen) (counted (suc n) 0x58)
    ≡ Some (terminal start (display_after (OnPage (page.EraseChars (suc n))) screen))
unfolding counted_step
erased_chars_read n screen h = counted_read n 0x58 page.EraseChars screen h (omega arith, omega arith) (λ groups. refl)

-- A 0-based row or column that is written 1-based is read as itself.
pub ordinal_read : (n : ℕ) → (if (n + 1) == 0 then 1 else n + 1) - 1 ≡ n
ordinal_read n = let t : ((n + 1) == 0) ≡ false = grind (arith, nat_tests) in rw t (omega arith)

placed : (row col : ℕ) (screen : ScreenValue) →
    quiet_steps (unmarked_steps (((row + 1) ∷ []) ∷ ((col + 1) ∷ []) ∷ []) 0x48 (seen_of screen)) screen
    ≡ Some (display_after (OnPage (page.Move (To row col))) screen)
unfolding counted_step scrolling_steps other_steps
placed row col screen =
    ap (λ (r : ℕ). Some (display_after (OnPage (page.Move (To r ((if (col + 1) == 0 then 1 else col + 1) - 1)))) screen))
    (ordinal_read row)
    ∙ ap (λ (c : ℕ). Some (display_after (OnPage (page.Move (To row c))) screen)) (ordinal_read col)

place_read : (row col : ℕ) (screen : ScreenValue) →
    quiet_steps (unmarked_steps (place_groups row col) 0x48 (seen_of screen)) screen
    ≡ Some (display_after (OnPage (page.Move (To row col))) screen)
unfolding counted_step scrolling_steps other_steps
place_read zero zero screen = refl
place_read zero (suc col) screen = placed zero (suc col) screen
place_read (suc row) col screen = placed (suc row) col screen

pub moved_to_read : (row col : ℕ) (screen : ScreenValue) → row < 65535 → col < 65535
    → terminal_after (terminal start screen) (csi (place row col) 0x48)
    ≡ Some (terminal start (display_after (OnPage (page.Move (To row col))) screen))
moved_to_read row col screen low narrow =
    csi_read (place row col) 0x48 (place_groups row col) screen (display_after (OnPage (page.Move (To row col))) screen)
    (place_is_parameter row col low narrow) (omega arith, omega arith)
    (place_groups_are row col low narrow) (place_read row col screen)

-- ---- attributes

pub text_same : (was new : Attrs) → same_attrs was new ≡ true → change_text was new ≡ []
unfolding change_text
text_same was new e = rw e refl

pub text_plain : (was new : Attrs) → same_attrs was new ≡ false →
    same_attrs new default_attrs ≡ true → change_text was new ≡ csi [] 0x6D
unfolding change_text
text_plain was new e f = rw (e, f) refl

pub text_parts : (was new : Attrs) → same_attrs was new ≡ false → same_attrs new default_attrs ≡ false →
    change_text was new ≡ csi (semicolon_list (change_numbers was new)) 0x6D
unfolding change_text
text_parts was new e f = rw (e, f) refl

attrs_same : (was new attrs : Attrs) → same_attrs was new ≡ true → changed_attrs was new attrs ≡ attrs
unfolding changed_attrs
attrs_same was new attrs e = rw e refl

attrs_plain : (was new attrs : Attrs) → same_attrs was new ≡ false →
    same_attrs new default_attrs ≡ true → changed_attrs was new attrs ≡ default_attrs
unfolding changed_attrs
attrs_plain was new attrs e f = rw (e, f) refl

parts_read : (was new : Attrs) (screen : ScreenValue) → FitsAttrs new
    → same_attrs was new ≡ false → same_attrs new default_attrs ≡ false
    → terminal_after (terminal start screen) (csi (semicolon_list (change_numbers was new)) 0x6D)
    ≡ Some (terminal start (record screen { attrs = changed_attrs was new (screen.attrs) }))
unfolding counted_step scrolling_steps other_steps
parts_read was new screen fits e f =
    let ns : List ℕ = change_numbers was new in
    let numbers = few_changes was new fits in
    let short = numbers.few in
    let small = All-from_recursion (λ n. n ≤ 65535) ns numbers.small in
    csi_read (semicolon_list ns) 0x6D (alone ns) screen (record screen { attrs = changed_attrs was new (screen.attrs) })
    (joined_is_parameter ns small) (omega arith, omega arith)
    (joined_groups ns (some_changes was new e) (omega arith) small) (sgr_change was new fits e f screen)

changed_when : (was new : Attrs) (screen : ScreenValue) (same plain : Bool)
    → FitsAttrs new → same_attrs was new ≡ same → same_attrs new default_attrs ≡ plain
    → terminal_after (terminal start screen) (change_text was new)
    ≡ Some (terminal start (record screen { attrs = changed_attrs was new (screen.attrs) }))
changed_when was new screen true plain fits e f =
    ap (terminal_after (terminal start screen)) (text_same was new e)
    ∙ ap (λ (attrs : Attrs). Some (terminal start (record screen { attrs = attrs })))
    (sym (attrs_same was new (screen.attrs) e))
changed_when was new screen false true fits e f =
    ap (terminal_after (terminal start screen)) (text_plain was new e f)
    ∙ (cleared_read screen
    ∙ ap (λ (attrs : Attrs). Some (terminal start (record screen { attrs = attrs })))
    (sym (attrs_plain was new (screen.attrs) e f)))
changed_when was new screen false false fits e f =
    ap (terminal_after (terminal start screen)) (text_parts was new e f) ∙ parts_read was new screen fits e f

pub changed_read : (was new : Attrs) (screen : ScreenValue) → FitsAttrs new
    → terminal_after (terminal start screen) (change_text was new)
    ≡ Some (terminal start (record screen { attrs = changed_attrs was new (screen.attrs) }))
changed_read was new screen fits =
    changed_when was new screen (same_attrs was new) (same_attrs new default_attrs) fits refl refl

-- ---- line feeds

pub fed_read : (screen : ScreenValue) (d : Canvas) → canvas_after_line_feed (canvas_of screen) ≡ Some d →
    terminal_after (terminal start screen) (0x0A ∷ []) ≡ Some (terminal start (with_canvas d screen))
unfolding fresh_step class_of control_steps
fed_read screen d h =
    event_read (0x0A ∷ []) (Executed 0x0A) screen (with_canvas d screen) refl refl
    (ap (and_then (quiet_steps []))
    (unless (feeds_out screen.page) (record (canvas_of screen) { page = line_feed screen.page })
    d (display_after steps.LineFeed screen) (λ (c : Canvas). with_canvas c screen) h refl))

pub returned_read : (screen : ScreenValue) (rest : List ℕ) →
    terminal_after (terminal start screen) (0x0D ∷ rest)
    ≡ terminal_after (terminal start (with_page (moved Return screen.page) screen)) rest
unfolding read_byte fresh_step class_of control_steps
returned_read screen rest = refl

pub left_read : (screen : ScreenValue) →
    terminal_after (terminal start screen) (0x08 ∷ []) ≡ Some (terminal start (display_after (OnPage (page.Move (Left 1))) screen))
unfolding read_byte fresh_step class_of control_steps
left_read screen = refl

-- ---- saving and restoring the cursor

saved_read : (screen : ScreenValue) →
    terminal_after (terminal start screen) (bytes_of SaveCursor) ≡ Some (terminal start (display_after steps.SaveCursor screen))
unfolding read_byte fresh_step class_of escape_steps
saved_read screen = refl

restored_read : (screen : ScreenValue) →
    terminal_after (terminal start screen) (bytes_of RestoreCursor) ≡ Some (terminal start (display_after steps.RestoreCursor screen))
unfolding read_byte fresh_step class_of escape_steps
restored_read screen = refl

-- ---- characters

hidden_low : (c : ℕ) → c < 0x20 → columns_of c ≡ None
unfolding columns_of char_width
hidden_low c h = grind (arith, nat_tests)

hidden_high : (c : ℕ) → 0x7F ≤ c → c < 0xA0 → columns_of c ≡ None
unfolding columns_of char_width
hidden_high c low high = grind (arith, nat_tests)

pub shown_range : (c : ℕ) → columns_of c ≢ None → ((0x20 ≤ c) × (c < 0x7F)) ⊎ (0xA0 ≤ c)
shown_range c shown =
    ⊎_elim (λ (h : c < 0x20). absurd (shown (hidden_low c h)))
    (λ (low : 0x20 ≤ c). ⊎_elim (λ (h : c < 0x7F). inl (low, h))
    (λ (middle : 0x7F ≤ c). ⊎_elim (λ (h : c < 0xA0). absurd (shown (hidden_high c middle h)))
    (λ (high : 0xA0 ≤ c). inr high) (cases_lt c 0xA0))
    (cases_lt c 0x7F))
    (cases_lt c 0x20)

pub prints : (c : ℕ) → IsDrawn c → character_steps c ≡ steps.Print c ∷ []
unfolding character_steps
prints c p = let range = shown_range c p.shown in let other = p.reported in grind (arith, nat_tests)

-- Reading the bytes of a character prints it.
pub character_read : (c : ℕ) (screen after : ScreenValue) →
    IsDrawn c → quiet_step (steps.Print c) screen ≡ Some after →
    terminal_after (terminal start screen) (encode_utf8 c) ≡ Some (terminal start after)
character_read c screen after p e =
    let range = shown_range c p.shown in
    event_read (encode_utf8 c) (Character c) screen after (read_written c p.scalar (grind (arith, range))) refl
    (ap (λ (list : List steps.Step). quiet_steps list screen) (prints c p) ∙ ap (and_then (quiet_steps [])) e)

-- ---- strings

pub unpushed : (b : Bool) (cs : List ℕ) (e d : Canvas) →
    and_then (drawn_text cs) (if b then None else Some e) ≡ Some d → (b ≡ false) × (drawn_text cs e ≡ Some d)
unpushed true cs e d h = absurd cc
unpushed false cs e d h = (refl, h)

reads_text : (cs : List ℕ) (screen : ScreenValue) (d : Canvas) → AllByRecursion IsDrawn cs →
    drawn_text cs (canvas_of screen) ≡ Some d → Reads (encode_utf8_all cs) screen d
reads_text [] screen d p h = known [] screen (canvas_of screen) d h refl
reads_text (c ∷ cs) screen d (p, ps) h =
    let next : ScreenValue = display_after (steps.Print c) screen in
    let both : (pushes c screen.page ≡ false) × (drawn_text cs (canvas_of next) ≡ Some d) =
    unpushed (pushes c screen.page) cs (canvas_of next) d h in
    let first = character_read c screen next p (kept (pushes c screen.page) next both.0) in
    let more : Reads (encode_utf8_all cs) next d = reads_text cs next d ps both.1 in (
      more.0,
      reads_then (terminal start screen) (terminal start next)
          (terminal start (record (with_canvas d screen) { last = more.0 }))
          (encode_utf8 c) (encode_utf8_all cs) first more.1,
    )

pub all_scalar : (cs : List ℕ) → AllByRecursion IsDrawn cs → all_scalars cs ≡ true
all_scalar [] p = refl
all_scalar (c ∷ cs) (p, ps) = rw p.scalar (all_scalar cs ps)

-- ---- each operation

pub reads_op : (op : Op) (screen : ScreenValue) (d : Canvas) → Fits op →
    canvas_after_op op (canvas_of screen) ≡ Some d → Reads (bytes_of op) screen d
reads_op (Hide hidden) screen d f h =
    known (bytes_of (Hide hidden)) screen
    (record (canvas_of screen) { hidden = hidden }) d h (hidden_read hidden screen)
reads_op ClearAttrs screen d f h =
    known (bytes_of ClearAttrs) screen (record (canvas_of screen) { attrs = default_attrs }) d h (cleared_read screen)
reads_op (MoveTo row col) screen d (low, narrow) h =
    known (bytes_of (MoveTo row col)) screen (canvas_of (display_after (OnPage (page.Move (To row col))) screen))
    d h (moved_to_read row col screen low narrow)
reads_op (MoveRight zero) screen d f h = known [] screen (canvas_of screen) d h refl
reads_op (MoveRight (suc n)) screen d f h =
    known (bytes_of (MoveRight (suc n))) screen
    (canvas_of (display_after (OnPage (page.Move (Right (suc n)))) screen)) d h (moved_right_read n screen f)
reads_op NextRow screen d f h =
    let next : ScreenValue = with_page (moved Return screen.page) screen in
    (screen.last, returned_read screen (0x0A ∷ []) ∙ fed_read next d h)
reads_op LineFeed screen d f h = (screen.last, fed_read screen d h)
reads_op Backspace screen d f h =
    known (bytes_of Backspace) screen
    (canvas_of (display_after (OnPage (page.Move (Left 1))) screen)) d h (left_read screen)
reads_op EraseBelow screen d f h =
    known (bytes_of EraseBelow) screen
    (canvas_of (display_after (OnPage page.EraseBelow) screen)) d h (erased_below_read screen)
reads_op EraseRest screen d f h =
    known (bytes_of EraseRest) screen
    (canvas_of (display_after (OnPage page.EraseRest) screen)) d h (erased_rest_read screen)
reads_op (EraseChars zero) screen d f h = known [] screen (canvas_of screen) d h refl
reads_op (EraseChars (suc n)) screen d f h =
    known (bytes_of (EraseChars (suc n))) screen
    (canvas_of (display_after (OnPage (page.EraseChars (suc n))) screen)) d h (erased_chars_read n screen f)
reads_op SaveCursor screen d f h =
    known (bytes_of SaveCursor) screen (canvas_of (display_after steps.SaveCursor screen)) d h (saved_read screen)
reads_op RestoreCursor screen d f h =
    known (bytes_of RestoreCursor) screen (canvas_of (display_after steps.RestoreCursor screen)) d h (restored_read screen)
reads_op (ChangeAttrs was new) screen d f h =
    known (change_text was new) screen (record (canvas_of screen) { attrs = changed_attrs was new (screen.attrs) })
    d h (changed_read was new screen f.1)
reads_op (Print text) screen d f h =
    let cs : List ℕ = f.characters in
    let e : chars text ≡ cs = ap chars (sym f.spelled) ∙ chars-encodes cs (all_scalar cs f.printable) in
    let canvas_after_op : drawn_text cs (canvas_of screen) ≡ Some d =
    subst (λ (ds : List ℕ). drawn_text ds (canvas_of screen) ≡ Some d) e h in
    subst (λ (bytes : List ℕ). Reads bytes screen d) f.spelled (reads_text cs screen d f.printable canvas_after_op)

-- ---- lists of operations

pub and_then-some : {A B : Type 0} (f : A → Option B) (x : Option A) (b : B) →
    and_then f x ≡ Some b → (a : A) × (x ≡ Some a) × (f a ≡ Some b)
and_then-some f None b h = absurd cc
and_then-some f (Some a) b h = (a, refl, h)

pub reads_all : (ops : List Op) (screen : ScreenValue) (d : Canvas) → AllByRecursion Fits ops →
    drawn_all ops (canvas_of screen) ≡ Some d → Reads (bytes_of_all ops) screen d
reads_all [] screen d f h = known [] screen (canvas_of screen) d h refl
reads_all (op ∷ ops) screen d (f, fs) h =
    let (e, first, more) = and_then-some (drawn_all ops) (canvas_after_op op (canvas_of screen)) d h in
    let here : Reads (bytes_of op) screen e = reads_op op screen e f first in
    let next : ScreenValue = record (with_canvas e screen) { last = here.0 } in
    let behind : Reads (bytes_of_all ops) next d = reads_all ops next d fs more in (
      behind.0,
      reads_then (terminal start screen) (terminal start next)
          (terminal start (record (with_canvas d screen) { last = behind.0 }))
          (bytes_of op) (bytes_of_all ops) here.1 behind.1,
    )

-- ==== The output that sets attributes.

-- The output sets the given attributes on every terminal in ground state and changes nothing else.
pub attributes_set : (attrs : Attrs) (text : List ℕ) →
    text ≡ attributes_text attrs → FitsAttrs attrs → SetsAttrs attrs text
attributes_set attrs text told fits reader =
    let plain : ScreenValue = record reader { attrs = default_attrs } in
    let first = cleared_read reader in
    let second = changed_read default_attrs attrs plain fits
    ∙ ap (λ (a : Attrs). Some (terminal start (record reader { attrs = a }))) (changed_attrs-new default_attrs attrs) in
    let change = change_text default_attrs attrs in
    ap (terminal_after (terminal start reader)) (told ∙ ap (λ (t : List ℕ). csi [] 0x6D ++ t) (append-nil change))
    ∙ reads_then (terminal start reader) (terminal start plain)
    (terminal start (record reader { attrs = attrs })) (csi [] 0x6D) change first second
