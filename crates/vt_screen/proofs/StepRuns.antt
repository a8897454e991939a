-- Printing a run of characters that fits on its row has the effect of the steps of its characters in order.
use Rattle.std.proofs.Common.{◌≡◌, ℕ, suc, ◌-◌, ◌<◌, Bool, true, false, List, [], ◌∷◌, length, get_or, refl, sym, ap}
use Rattle.std.proofs.Common.{subst, ◌∙◌, Option, arith, ◌+◌, ◌≤◌, nat_lt}
use Rattle.std.specs.Prelude.{Some, if◌then◌else◌}
use Rattle.std.specs.List.{FoldsTo}
use Rattle.std.proofs.lemmas.Bool.Decides.{nat_tests}
use Rattle.std.proofs.lemmas.List.Elements.{All-head, All-tail}
use Rattle.std.specs.Char.{encode_utf8}
use Rattle.vt_cells.specs.Attrs.{Attrs}
use Rattle.vt_cells.specs.Glyph.{columns_of}
use Rattle.vt_cells.specs.Op.{FitsAttrs}
use Rattle.vt_rows.specs.Row.{RowValue}
use Rattle.vt_rows.specs.Texts.{IsNarrowCharacter, IsNarrowText, IsWideCharacter, IsWideText}
use Rattle.vt_grid.specs.Outgoing.{printed_out}
use Rattle.vt_grid.specs.Page.{Page}
use Rattle.vt_grid.specs.Printing.{page_after_print, glyph_put, lacks_room, room_made}
use Rattle.vt_grid.specs.Scrollback.{scrollback_after_push, rows_reported}
use Rattle.vt_grid.specs.Texts.{printed_text}
use Rattle.vt_grid.proofs.Printing.{out_narrow, printed_wide, out_wide}
use Rattle.vt_grid.proofs.Texts.{has_room}
use Rattle.vt_screen.specs.Internals.{Aside, IsKept}
use Rattle.vt_screen.specs.Run.{CallRelation, CalledOnScroll, Scrolls, state}
use Rattle.vt_screen.specs.Screen.{ScreenValue, IsPrintable, above_page}
use Rattle.vt_screen.specs.Steps.{Print, last_after, display_after}
use Rattle.vt_screen.specs.Texts.{screen_after_text}
use Rattle.vt_screen.proofs.StepInvariant.{kept_last, kept_printed}
use Rattle.vt_screen.proofs.SizePage.{same_printed}

-- ==== Printing a run of narrow characters that fits on its row has the effect of the steps of its characters in order.

last_printed : (c : ℕ) (screen : ScreenValue) → columns_of c ≡ Some 1 → 0 < screen.page.width →
    last_after c screen ≡ Some c
last_printed c screen one some = rw one (grind (arith, nat_tests))

-- The screen after a run of narrow characters is printed.
abbrev with_text : List ℕ → ScreenValue → ScreenValue
with_text text screen =
    record screen { page = printed_text text screen.attrs screen.page; last = Some (get_or text (length text - 1) 0) }

pub text_stepped_is : (text : List ℕ) (screen : ScreenValue) → 0 < length text →
    IsNarrowText text → 0 < screen.page.width → screen_after_text text screen ≡ with_text text screen
text_stepped_is [] screen some h width = absurd (omega (arith, some))
text_stepped_is (c ∷ []) screen some h width =
    let first = All-head IsNarrowCharacter c [] h in
    ap (λ (last : Option ℕ). record screen { page = page_after_print c screen.attrs screen.page; last = last })
    (last_printed c screen first.1.1 width)
text_stepped_is (c ∷ d ∷ text) screen some h width =
    let next = display_after (Print c) screen in
    let same = same_printed c screen.attrs screen.page in
    let wide : 0 < next.page.width = omega (arith, same.width, width) in
    let i : length (c ∷ d ∷ text) - 1 ≡ suc (length (d ∷ text) - 1) = omega arith in
    let last : get_or (d ∷ text) (length (d ∷ text) - 1) 0 ≡ get_or (c ∷ d ∷ text) (length (c ∷ d ∷ text) - 1) 0 =
    sym (ap (λ (k : ℕ). get_or (c ∷ d ∷ text) k 0) i) in
    text_stepped_is (d ∷ text) next (omega arith) (All-tail IsNarrowCharacter c (d ∷ text) h) wide
    ∙ ap (λ (l : ℕ). record screen { page = printed_text (c ∷ d ∷ text) screen.attrs screen.page; last = Some l }) last

kept_each : (text : List ℕ) (attrs : Attrs) (page : Page) (last : Option ℕ) (aside : Aside) → IsNarrowText text →
    FitsAttrs attrs → IsKept page last aside → IsKept (printed_text text attrs page) last aside
kept_each [] attrs page last aside h fits k = k
kept_each (c ∷ text) attrs page last aside h fits k =
    let first = All-head IsNarrowCharacter c text h in
    kept_each text attrs (page_after_print c attrs page) last aside (All-tail IsNarrowCharacter c text h)
    fits (kept_printed c attrs page last last aside first.0 first.1.0 k.printable fits k)

pub kept_text : (text : List ℕ) (attrs : Attrs) (page : Page) (last : Option ℕ) (c : ℕ) (aside : Aside) →
    IsNarrowText text → IsPrintable c → FitsAttrs attrs → IsKept page last aside →
    IsKept (printed_text text attrs page) (Some c) aside
kept_text text attrs page last c aside h shown fits k =
    kept_last (printed_text text attrs page) last (Some c) aside shown (kept_each text attrs page last aside h fits k)

-- ---- nothing is reported

nothing_out : (c : ℕ) (attrs : Attrs) (page : Page) → columns_of c ≡ Some 1 →
    page.column < page.width → printed_out c attrs page ≡ []
nothing_out c attrs page one h = out_narrow c attrs page one ∙ rw (has_room page h) refl

pub sent_nothing : (b : Bool) (c : ℕ) (screen : ScreenValue) (gone : List RowValue) → gone ≡ [] →
    display_after (Print c) screen
    ≡ (if b then display_after (Print c) screen
    else record (display_after (Print c) screen)
    { scrollback = scrollback_after_push (length screen.page.rows) screen.page.width gone screen.scrollback })
sent_nothing true c screen gone e = refl
sent_nothing false c screen gone e = rw e refl

pub print_scrolls : {S : Type 0} (does : CallRelation S) (c : ℕ) (s : S) (screen : ScreenValue) →
    columns_of c ≡ Some 1 → screen.page.column < screen.page.width →
    Scrolls does (state s screen) (Print c) (state s (display_after (Print c) screen))
print_scrolls does c s screen one room =
    let none = nothing_out c screen.attrs screen.page one room in
    record {
      screen = sent_nothing screen.is_alternate c screen (printed_out c screen.attrs screen.page) none;
      called =
          subst
          (λ (gone : List RowValue). FoldsTo (CalledOnScroll does screen.is_alternate) s (rows_reported gone (above_page screen)) s)
          (sym none) refl;
    }

-- ==== Printing a run of wide characters that fits on its row has the effect of the steps of its characters in order.

last_wide : (c : ℕ) (screen : ScreenValue) → columns_of c ≡ Some 2 → 2 ≤ screen.page.width →
    last_after c screen ≡ Some c
last_wide c screen two some = rw two (grind (arith, nat_tests))

-- The screen after a run of wide characters is printed.
abbrev with_wide_text : List ℕ → ScreenValue → ScreenValue
with_wide_text text screen =
    record screen { page = printed_text text screen.attrs screen.page; last = Some (get_or text (length text - 1) 0) }

pub wide_text_stepped_is : (text : List ℕ) (screen : ScreenValue) → 0 < length text →
    IsWideText text → 2 ≤ screen.page.width → screen_after_text text screen ≡ with_wide_text text screen
wide_text_stepped_is [] screen some h width = absurd (omega (arith, some))
wide_text_stepped_is (c ∷ []) screen some h width =
    let first = All-head IsWideCharacter c [] h in
    ap (λ (last : Option ℕ). record screen { page = page_after_print c screen.attrs screen.page; last = last })
    (last_wide c screen first.1.1 width)
wide_text_stepped_is (c ∷ d ∷ text) screen some h width =
    let next = display_after (Print c) screen in
    let same = same_printed c screen.attrs screen.page in
    let wide : 2 ≤ next.page.width = omega (arith, same.width, width) in
    let i : length (c ∷ d ∷ text) - 1 ≡ suc (length (d ∷ text) - 1) = omega arith in
    let last : get_or (d ∷ text) (length (d ∷ text) - 1) 0 ≡ get_or (c ∷ d ∷ text) (length (c ∷ d ∷ text) - 1) 0 =
    sym (ap (λ (k : ℕ). get_or (c ∷ d ∷ text) k 0) i) in
    wide_text_stepped_is (d ∷ text) next (omega arith) (All-tail IsWideCharacter c (d ∷ text) h) wide
    ∙ ap (λ (l : ℕ). record screen { page = printed_text (c ∷ d ∷ text) screen.attrs screen.page; last = Some l }) last

kept_each_wide : (text : List ℕ) (attrs : Attrs) (page : Page) (last : Option ℕ) (aside : Aside) → IsWideText text →
    FitsAttrs attrs → IsKept page last aside → IsKept (printed_text text attrs page) last aside
kept_each_wide [] attrs page last aside h fits k = k
kept_each_wide (c ∷ text) attrs page last aside h fits k =
    let first = All-head IsWideCharacter c text h in
    kept_each_wide text attrs (page_after_print c attrs page) last aside (All-tail IsWideCharacter c text h)
    fits (kept_printed c attrs page last last aside first.0 first.1.0 k.printable fits k)

pub kept_wide_text : (text : List ℕ) (attrs : Attrs) (page : Page) (last : Option ℕ) (c : ℕ) (aside : Aside) →
    IsWideText text → IsPrintable c → FitsAttrs attrs → IsKept page last aside →
    IsKept (printed_text text attrs page) (Some c) aside
kept_wide_text text attrs page last c aside h shown fits k =
    kept_last (printed_text text attrs page) last (Some c) aside shown
    (kept_each_wide text attrs page last aside h fits k)

-- ---- nothing is reported

has_room_for_two : (page : Page) → page.column + 2 ≤ page.width → lacks_room 2 page ≡ false
has_room_for_two page h = grind (arith, nat_tests)

wide_enough : (page : Page) → page.column + 2 ≤ page.width → nat_lt 1 page.width ≡ true
wide_enough page h = grind (arith, nat_tests)

room_kept_for_two : (page : Page) → page.column + 2 ≤ page.width → room_made 2 page ≡ page
unfolding room_made
room_kept_for_two page h = rw (has_room_for_two page h) refl

printed_wide_put : (c : ℕ) (attrs : Attrs) (page : Page) → columns_of c ≡ Some 2 →
    page.column + 2 ≤ page.width → page_after_print c attrs page ≡ glyph_put (encode_utf8 c) true attrs page
printed_wide_put c attrs page two h =
    printed_wide c attrs page two
    ∙ (ap (λ (b : Bool). if b then glyph_put (encode_utf8 c) true attrs (room_made 2 page) else page)
    (wide_enough page h)
    ∙ ap (glyph_put (encode_utf8 c) true attrs) (room_kept_for_two page h))

nothing_out_wide : (c : ℕ) (attrs : Attrs) (page : Page) → columns_of c ≡ Some 2 →
    page.column + 2 ≤ page.width → printed_out c attrs page ≡ []
nothing_out_wide c attrs page two h =
    out_wide c attrs page two ∙ rw (wide_enough page h, has_room_for_two page h) refl

pub print_scrolls_wide : {S : Type 0} (does : CallRelation S) (c : ℕ) (s : S) (screen : ScreenValue) →
    columns_of c ≡ Some 2 → screen.page.column + 2 ≤ screen.page.width →
    Scrolls does (state s screen) (Print c) (state s (display_after (Print c) screen))
print_scrolls_wide does c s screen two room =
    let none = nothing_out_wide c screen.attrs screen.page two room in
    record {
      screen = sent_nothing screen.is_alternate c screen (printed_out c screen.attrs screen.page) none;
      called =
          subst
          (λ (gone : List RowValue). FoldsTo (CalledOnScroll does screen.is_alternate) s (rows_reported gone (above_page screen)) s)
          (sym none) refl;
    }

-- A wide character moves the cursor right by two columns.
pub column_printed_wide : (c : ℕ) (screen : ScreenValue) → columns_of c ≡ Some 2 →
    screen.page.column + 2 ≤ screen.page.width →
    (display_after (Print c) screen).page.column ≡ screen.page.column + 2
column_printed_wide c screen two room =
    ap (λ (page : Page). page.column) (printed_wide_put c screen.attrs screen.page two room)
