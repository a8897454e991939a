-- Printing a run of characters that fits on the cursor's row has the effect of reading its bytes one by one.
use Rattle.std.proofs.Common.{◌≡◌, ℕ, ◌+◌, ◌<◌, ◌≤◌, ◌==◌, ◌&&◌, ◌||◌, nat_le, false, Some, List, [], ◌∷◌, length, refl}
use Rattle.std.proofs.Common.{sym, ap, subst, arith, get_or, take, ◌≢◌, ◌*◌, None, map, inl, inr, zero, suc, ◌-◌, replicate, ◌∙◌}
use Rattle.std.specs.Prelude.{All}
use Rattle.std.specs.List.{FoldsTo}
use Rattle.std.proofs.lemmas.Bool.Decides.{nat_tests}
use Rattle.std.proofs.lemmas.List.Elements.{All-head, All-tail}
use Rattle.std.proofs.lemmas.Bool.{cases_lt}
use Rattle.std.proofs.lemmas.List.{get_or-take, length-take, replicate-append-replicate}
use Rattle.unicode_width.specs.Width.{char_width}
use Rattle.vt_cells.specs.Glyph.{columns_of}
use Rattle.vt_cells.proofs.Glyphs.{columns_of-ascii, columns_of-low}
use Rattle.vt_rows.specs.Texts.{IsPrintableAscii, IsWideCharacter, IsWideText, IsNarrowCharacter, IsNarrowText}
use Rattle.vt_scan.specs.Scanner.{ScannerValue, ReadsItself}
use Rattle.vt_scan.specs.Automaton.{Character}
use Rattle.vt_scan.proofs.Steps.{text_feeds}
use Rattle.vt_grid.specs.Page.{Page}
use Rattle.vt_grid.proofs.Texts.{printed_put}
use Rattle.vt_screen.specs.Run.{CallRelation, Takes, state, Performs, Refuses}
use Rattle.vt_screen.specs.Screen.{ScreenValue}
use Rattle.vt_screen.specs.Controls.{character_steps}
use Rattle.vt_screen.specs.Steps.{Step, Print, display_after}
use Rattle.vt_screen.specs.Texts.{screen_after_text}
use Rattle.vt_screen.proofs.SizePage.{same_printed}
use Rattle.vt_screen.proofs.StepRuns.{print_scrolls, print_scrolls_wide, column_printed_wide}
use Rattle.vt100.specs.Parser.{Ran, parser_value, stage}
use Rattle.vt100.specs.Internals.{Does, Stops}
use Rattle.vt100.proofs.Stepping.{printed_steps, Left, left_through}
use Rattle.vt100.proofs.Running.{byte_ran, one_character, ran_then}

-- If a text begins with a byte that reads itself, the longest run of such bytes in any part of it is not empty.
pub some_taken : (held : ScannerValue) (bytes : List ℕ) (fitting count : ℕ) → 0 < fitting → 0 < length bytes →
    ReadsItself held (get_or bytes 0 0) →
    (count < length (take fitting bytes) → ReadsItself held (get_or (take fitting bytes) count 0) → ⊥) → 0 < count
some_taken held bytes fitting zero some nonempty itself longest =
    absurd (longest (omega (arith, length-take fitting bytes, some, nonempty))
    (subst (ReadsItself held) (sym (get_or-take fitting bytes 0 0 some)) itself))
some_taken held bytes fitting (suc count) some nonempty itself longest = omega arith

-- ==== Printing ASCII text that fits on the cursor's row has the effect of reading its bytes one by one.

print_done : {S : Type 0} (does : CallRelation S) (c : ℕ) (s : S) (screen : ScreenValue) →
    0x20 ≤ c → c < 0x7F → screen.page.column < screen.page.width →
    FoldsTo (Takes does) (state s screen) (character_steps c) (state s (display_after (Print c) screen))
print_done does c s screen low high room =
    let shown : ((c == 0xFFFD) || (nat_le 0x80 c && nat_le c 0x9F)) ≡ false = grind (arith, nat_tests) in
    subst (λ (steps : List Step). FoldsTo (Takes does) (state s screen) steps (state s (display_after (Print c) screen)))
    (sym (printed_steps c shown))
    (state s (display_after (Print c) screen), print_scrolls does c s screen (columns_of-ascii c low high) room, refl)

character_ran : {S : Type 0} (does : CallRelation S) (c : ℕ) (held : ScannerValue) (s : S) (screen : ScreenValue) →
    ReadsItself held c → screen.page.column < screen.page.width →
    Ran does (parser_value held screen s) (c ∷ []) (parser_value held (display_after (Print c) screen) s)
character_ran does c held s screen itself room =
    let now = parser_value held (display_after (Print c) screen) s in
    byte_ran does (parser_value held screen s) now c (one_character c)
    (text_feeds held c itself.0 itself.1 itself.2 (omega (arith, itself.3)))
    (stage now, print_done does c s screen itself.2 itself.3 room, refl)

-- Printing a narrow character moves the cursor right by one column.
pub column_printed : (c : ℕ) (screen : ScreenValue) → columns_of c ≡ Some 1 →
    screen.page.column < screen.page.width → (display_after (Print c) screen).page.column ≡ screen.page.column + 1
column_printed c screen one room = ap (λ (page : Page). page.column) (printed_put c screen.attrs screen.page one room)

pub text_ran : {S : Type 0} (does : CallRelation S) (text : List ℕ) (held : ScannerValue) (s : S) (screen : ScreenValue) →
    All (ReadsItself held) text → screen.page.column + length text ≤ screen.page.width →
    Ran does (parser_value held screen s) text (parser_value held (screen_after_text text screen) s)
text_ran does [] held s screen plain room = λ st stands. (stands, refl)
text_ran does (c ∷ text) held s screen plain room =
    let first = All-head (ReadsItself held) c text plain in
    let next = display_after (Print c) screen in
    let here : screen.page.column < screen.page.width = omega (arith, room) in
    let moved = column_printed c screen (columns_of-ascii c first.2 first.3) here in
    let same = same_printed c screen.attrs screen.page in
    let left : next.page.column + length text ≤ next.page.width = omega (arith, moved, same.width, room) in
    ran_then does (parser_value held screen s) (parser_value held next s) (parser_value held (screen_after_text text next) s) (c ∷ []) text
    (character_ran does c held s screen first here)
    (text_ran does text held s next (All-tail (ReadsItself held) c text plain) left)

-- Bytes that the scanner reads as themselves are printable.
pub printable_of : (held : ScannerValue) (text : List ℕ) → All (ReadsItself held) text → IsPrintableAscii text
printable_of held text plain = λ k d lt. let itself = plain k d lt in (itself.2, itself.3)

-- ==== Printing wide characters that fit on the cursor's row has the effect of reading their bytes one by one.

no_columns : (c : ℕ) → 0x7F ≤ c → c < 0xA0 → char_width false c ≡ None
unfolding char_width
no_columns c low high = grind (arith, nat_tests)

-- A character that takes columns is not a C1 control.
pub not_reported : (c n : ℕ) → c ≢ 0xFFFD → columns_of c ≡ Some n →
    ((c == 0xFFFD) || (nat_le 0x80 c && nat_le c 0x9F)) ≡ false
not_reported c n apart drawn = elim (cases_lt c 0xA0) [
  | inl low ↦ elim (cases_lt c 0x7F) [
    | inl ascii ↦ grind (arith, nat_tests)
    | inr above ↦ absurd (cc (drawn, columns_of-low c (no_columns c above low) (omega (arith, low))))
  ]
  | inr high ↦ grind (arith, nat_tests)
]

wide_print_done : {S : Type 0} (does : CallRelation S) (c : ℕ) (s : S) (screen : ScreenValue) →
    IsWideCharacter c → screen.page.column + 2 ≤ screen.page.width →
    FoldsTo (Takes does) (state s screen) (character_steps c) (state s (display_after (Print c) screen))
wide_print_done does c s screen wide room =
    subst (λ (steps : List Step). FoldsTo (Takes does) (state s screen) steps (state s (display_after (Print c) screen)))
    (sym (printed_steps c (not_reported c 2 wide.1.0 wide.1.1)))
    (state s (display_after (Print c) screen), print_scrolls_wide does c s screen wide.1.1 room, refl)

pub wide_folds : {S : Type 0} (does : CallRelation S) (text : List ℕ) (s : S) (screen : ScreenValue) →
    IsWideText text → screen.page.column + 2 * length text ≤ screen.page.width →
    FoldsTo (Performs does) (state s screen) (map Character text) (state s (screen_after_text text screen))
wide_folds does [] s screen wide room = refl
wide_folds does (c ∷ text) s screen wide room =
    let first = All-head IsWideCharacter c text wide in
    let next = display_after (Print c) screen in
    let here : screen.page.column + 2 ≤ screen.page.width = omega (arith, room) in
    let moved = column_printed_wide c screen first.1.1 here in
    let same = same_printed c screen.attrs screen.page in
    let left : next.page.column + 2 * length text ≤ next.page.width = omega (arith, moved, same.width, room) in (
      state s next,
      wide_print_done does c s screen first here,
      wide_folds does text s next (All-tail IsWideCharacter c text wide) left,
    )

-- ==== Printing narrow characters that fit on the cursor's row has the effect of reading their bytes one by one.

narrow_print_done : {S : Type 0} (does : CallRelation S) (c : ℕ) (s : S) (screen : ScreenValue) →
    IsNarrowCharacter c → screen.page.column < screen.page.width →
    FoldsTo (Takes does) (state s screen) (character_steps c) (state s (display_after (Print c) screen))
narrow_print_done does c s screen narrow room =
    subst (λ (steps : List Step). FoldsTo (Takes does) (state s screen) steps (state s (display_after (Print c) screen)))
    (sym (printed_steps c (not_reported c 1 narrow.1.0 narrow.1.1)))
    (state s (display_after (Print c) screen), print_scrolls does c s screen narrow.1.1 room, refl)

pub narrow_folds : {S : Type 0} (does : CallRelation S) (text : List ℕ) (s : S) (screen : ScreenValue) →
    IsNarrowText text → screen.page.column + length text ≤ screen.page.width →
    FoldsTo (Performs does) (state s screen) (map Character text) (state s (screen_after_text text screen))
narrow_folds does [] s screen narrow room = refl
narrow_folds does (c ∷ text) s screen narrow room =
    let first = All-head IsNarrowCharacter c text narrow in
    let next = display_after (Print c) screen in
    let here : screen.page.column < screen.page.width = omega (arith, room) in
    let moved = column_printed c screen first.1.1 here in
    let same = same_printed c screen.attrs screen.page in
    let left : next.page.column + length text ≤ next.page.width = omega (arith, moved, same.width, room) in (
      state s next,
      narrow_print_done does c s screen first here,
      narrow_folds does text s next (All-tail IsNarrowCharacter c text narrow) left,
    )

-- ==== Repetitions of a printable ASCII character: as many are printed at once as fit on the row, or one.

-- Printing a string of one repeated character performs the steps that print each of them.
pub prints_done : {S : Type 0} (does : CallRelation S)
    (n c : ℕ) (s : S) (screen : ScreenValue) → 0x20 ≤ c → c < 0x7F → screen.page.column + n ≤ screen.page.width →
    Does does s screen (replicate n (Print c)) s (screen_after_text (replicate n c) screen)
prints_done does zero c s screen low high room = refl
prints_done does (suc n) c s screen low high room =
    let here : screen.page.column < screen.page.width = omega (arith, room) in
    let next = display_after (Print c) screen in
    let moved = column_printed c screen (columns_of-ascii c low high) here in
    let same = same_printed c screen.attrs screen.page in
    let left : next.page.column + n ≤ next.page.width = omega (arith, moved, same.width, room) in
    (state s next, print_scrolls does c s screen (columns_of-ascii c low high) here, prints_done does n c s next low high left)

-- If the allocation for the first of several prints fails, all of them stop there.
pub first_refused : {S : Type 0} (does : CallRelation S)
    (n c : ℕ) (s t : S) (d e : ScreenValue) → 0 < n → Refuses (state s d) (Print c) (state t e) →
    Stops does s d (replicate n (Print c)) t e
first_refused does zero c s t d e some refusal = absurd (omega (arith, some))
first_refused does (suc n) c s t d e some refusal = inl refusal

-- The prints that remain after some more of them are done.
pub more_left : {S : Type 0} (does : CallRelation S)
    (s t u : S) (d e f : ScreenValue) (all : List Step) (c n k : ℕ) → k ≤ n →
    Left does s d all t e (replicate n (Print c)) → Does does t e (replicate k (Print c)) u f →
    Left does s d all u f (replicate (n - k) (Print c))
more_left does s t u d e f all c n k le left done =
    let parts : k + (n - k) ≡ n = omega (arith, le) in
    left_through does s t u d e f all (replicate k (Print c)) (replicate (n - k) (Print c))
    (subst (λ (steps : List Step). Left does s d all t e steps)
    (ap (λ (m : ℕ). replicate m (Print c)) (sym parts) ∙ sym (replicate-append-replicate k (n - k) (Print c))) left) done
