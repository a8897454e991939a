-- Diffs whose cursor movements are shortened: while they are written, and when they are read.
use Rattle.std.proofs.Common.{◌≡◌, ℕ, ◌+◌, ◌-◌, List, [], ◌∷◌, ◌++◌, length, refl, sym, ap, subst, ◌∙◌, arith, take}
use Rattle.std.proofs.Common.{length-append, append-nil, append_assoc, ◌<◌, true, Option, Some, None, ◌≤◌, ◌&&◌, Bool}
use Rattle.std.proofs.Common.{false, not, nat_lt, inl, inr}
use Rattle.std.proofs.Math.Seq.{take-append_seam, take-length}
use Rattle.std.specs.Prelude.{IfSome, if◌then◌else◌}
use Rattle.std.proofs.lemmas.Bool.Decides.{nat_tests}
use Rattle.vt_cells.specs.Cell.{CellValue}
use Rattle.vt_cells.specs.Glyph.{columns_of}
use Rattle.vt_cells.specs.Op.{counted}
use Rattle.vt_cells.specs.declared.pos.Pos.{Pos}
use Rattle.vt_cells.specs.Attrs.{default_attrs}
use Rattle.vt_cells.proofs.Attributes.{attrs_of-same}
use Rattle.vt_rows.specs.Row.{RowValue}
use Rattle.vt_rows.specs.Cells.{ends_blank}
use Rattle.vt_scan.specs.Automaton.{start}
use Rattle.vt_grid.specs.declared.page_step.PageStep.TheVariants as page
use Rattle.vt_grid.specs.Page.{row_or}
use Rattle.vt_redraw.specs.Locality.{row_of_picture}
use Rattle.vt_redraw.specs.Picture.{Picture}
use Rattle.vt_redraw.specs.Doubts.{NotPending, Pending, Unsure, doubts_of, ends_uncertain, is_past_uncertain}
use Rattle.vt_redraw.specs.declared.form.Form.{Form}
use Rattle.vt_redraw.specs.declared.form.Form.TheVariants.{Portable}
use Rattle.vt_redraw.specs.Shifted.{IsMoving}
use Rattle.vt_screen.specs.Gaps.{ReplacesTracked, AppendsUpTo, ReplacesWhole, AppendsInstead, IsLetter, IsPrinted}
use Rattle.vt_screen.specs.Gaps.{IsShownGap, gap_text, picture_cell, IsShortVersion, Tracks, known_at_start}
use Rattle.vt_screen.specs.declared.short_moves.elements.Element.TheVariants as elements
use Rattle.vt_screen.specs.declared.short_moves.known.Known.{Known}
use Rattle.vt_screen.specs.ShortMoves.{AppendsReplacement, IsAfter, IsElement, LeadsTo, is_still, IsAgreed, IsAt}
use Rattle.vt_screen.specs.ShortMoves.{IsShortMoving, IsShortened, known_cursor}
use Rattle.vt_screen.specs.declared.short_moves.elements.Element.{Element}
use Rattle.vt_screen.specs.declared.short_moves.gaps.Gap.{Gap}
use Rattle.vt_screen.specs.Again.{KeepsPlain}
use Rattle.vt_screen.specs.MadeOf.{IsMadeOf, drawing_controls, shortened_controls, shortened_finals}
use Rattle.vt_screen.specs.Portable.{IsPortable}
use Rattle.vt_screen.specs.Reading.{terminal, terminal_after}
use Rattle.vt_screen.specs.Screen.{IsColored, IsScreen, ScreenValue}
use Rattle.vt_screen.specs.Shown.{IsReadBy, IsReaderOf, IsSameIfEmpty, RedrawsFrom, display}
use Rattle.vt_screen.proofs.ShortOutput.{stands_then, stands_nothing, gap_stands, moved_stands}
use Rattle.vt_screen.proofs.MadeContents.{none_refused}
use Rattle.vt_screen.proofs.MadeOf.{made_more}
use Rattle.vt_screen.proofs.AgainMoved.{moving_made, scrolling_finals}
use Rattle.vt_screen.proofs.Shown.{plain_shown, shown_height}

-- ==== The output up to some element, while parts of it are replaced or copied.

-- ---- the output up to some element

-- The output `whole` is `rest` after a part that `short` replaces.
pub record IsInstead (rows cols : ℕ) (cells : ℕ → ℕ → CellValue) (known now : Known) (whole rest short : List ℕ) : Type 0 where
  pub done : List ℕ
  pub parts : whole ≡ done ++ rest
  pub stands : ReplacesTracked rows cols cells known now done short

instead_first : (rows cols : ℕ) (cells : ℕ → ℕ → CellValue) (known : Known) (whole short : List ℕ) → short ≡ [] →
    IsInstead rows cols cells known known whole whole short
instead_first rows cols cells known whole short e =
    subst (λ (s : List ℕ). IsInstead rows cols cells known known whole whole s) (sym e)
    (record { done = []; parts = refl; stands = stands_nothing rows cols cells known })

instead_next : (rows cols : ℕ) (cells : ℕ → ℕ → CellValue) (known now new : Known)
    (whole rest tail short longer : List ℕ) → IsInstead rows cols cells known now whole rest short →
    AppendsUpTo rows cols cells now new rest tail short longer → IsInstead rows cols cells known new whole tail longer
instead_next rows cols cells known now new whole rest tail short longer is part = record {
  done = is.done ++ part.done;
  parts = is.parts
      ∙ (ap (λ (xs : List ℕ). is.done ++ xs) part.parts ∙ sym (append_assoc is.done part.done tail));
  stands = subst (λ (xs : List ℕ). ReplacesTracked rows cols cells known new (is.done ++ part.done) xs)
      (sym part.stands.appends)
      (stands_then rows cols cells known now new is.done short part.done part.stands.text is.stands part.stands.stands);
}

instead_whole : (rows cols : ℕ) (cells : ℕ → ℕ → CellValue) (known now : Known) (whole rest short : List ℕ) →
    IsInstead rows cols cells known now whole rest short → length rest ≡ 0 →
    ReplacesWhole rows cols cells known whole short
instead_whole rows cols cells known now whole (x ∷ rest) short is none = absurd (omega (arith, none))
instead_whole rows cols cells known now whole [] short is none = record {
  new = now;
  stands = subst (λ (xs : List ℕ). ReplacesTracked rows cols cells known now xs short) (sym (is.parts ∙ append-nil is.done)) is.stands;
}

-- ---- text that is copied

-- The text is `rest` after a part that is copied.
pub record IsCopied (rows cols : ℕ) (cells : ℕ → ℕ → CellValue) (known now : Known) (text rest : List ℕ) : Type 0 where
  pub done : List ℕ
  pub parts : text ≡ done ++ rest
  pub stands : ReplacesTracked rows cols cells known now done done

copied_first : (rows cols : ℕ) (cells : ℕ → ℕ → CellValue) (known : Known) (text : List ℕ) →
    IsCopied rows cols cells known known text text
copied_first rows cols cells known text =
    record { done = []; parts = refl; stands = stands_nothing rows cols cells known }

copied_next : (rows cols : ℕ) (cells : ℕ → ℕ → CellValue) (known now new : Known) (text rest head tail : List ℕ) →
    IsCopied rows cols cells known now text rest → rest ≡ head ++ tail →
    ReplacesTracked rows cols cells now new head head → IsCopied rows cols cells known new text tail
copied_next rows cols cells known now new text rest head tail is split copied = record {
  done = is.done ++ head;
  parts = is.parts ∙ (ap (λ (xs : List ℕ). is.done ++ xs) split ∙ sym (append_assoc is.done head tail));
  stands = stands_then rows cols cells known now new is.done is.done head head is.stands copied;
}

-- The copied part, as a part of the text.
copied_part : (rows cols : ℕ) (cells : ℕ → ℕ → CellValue) (known now : Known) (text rest : List ℕ) →
    (is : IsCopied rows cols cells known now text rest) → take (length text - length rest) text ≡ is.done
copied_part rows cols cells known now text rest is =
    let e : length text ≡ length is.done + length rest =
    ap (λ (xs : List ℕ). length xs) is.parts ∙ length-append is.done rest in
    let n : length text - length rest ≡ length is.done = omega (arith, e) in
    ap (λ (k : ℕ). take k text) n
    ∙ (ap (λ (xs : List ℕ). take (length is.done) xs) is.parts ∙ take-append_seam is.done rest)

-- The part of the output before `uncopied` has been replaced by `short`, and what is in `uncopied` before `rest` is
-- still to be copied.
pub record IsUnderway (rows cols : ℕ) (cells : ℕ → ℕ → CellValue) (known now : Known)
    (whole uncopied rest short : List ℕ) : Type 0 where
  pub middle : Known
  pub instead : IsInstead rows cols cells known middle whole uncopied short
  pub copied : IsCopied rows cols cells middle now uncopied rest

pub underway_first : (rows cols : ℕ) (cells : ℕ → ℕ → CellValue) (known : Known) (whole short : List ℕ) → short ≡ [] →
    IsUnderway rows cols cells known known whole whole whole short
underway_first rows cols cells known whole short e = record {
  middle = known;
  instead = instead_first rows cols cells known whole short e;
  copied = copied_first rows cols cells known whole;
}

-- An element is to be copied.
pub underway_read : (rows cols : ℕ) (cells : ℕ → ℕ → CellValue) (known now new : Known)
    (whole uncopied rest head tail short : List ℕ) → IsUnderway rows cols cells known now whole uncopied rest short →
    rest ≡ head ++ tail → ReplacesTracked rows cols cells now new head head →
    IsUnderway rows cols cells known new whole uncopied tail short
underway_read rows cols cells known now new whole uncopied rest head tail short is split copied = record {
  middle = is.middle;
  instead = is.instead;
  copied = copied_next rows cols cells is.middle now new uncopied rest head tail is.copied split copied;
}

-- What was still to be copied has been copied.
underway_copied : (rows cols : ℕ) (cells : ℕ → ℕ → CellValue) (known now : Known)
    (whole uncopied rest short longer : List ℕ) → IsUnderway rows cols cells known now whole uncopied rest short →
    longer ≡ short ++ take (length uncopied - length rest) uncopied →
    IsInstead rows cols cells known now whole rest longer
underway_copied rows cols cells known now whole uncopied rest short longer is e =
    instead_next rows cols cells known is.middle now whole uncopied rest short longer is.instead (record {
      done = is.copied.done;
      parts = is.copied.parts;
      stands = record {
        text = is.copied.done;
        appends = e ∙ ap (λ (xs : List ℕ). short ++ xs) (copied_part rows cols cells is.middle now uncopied rest is.copied);
        stands = is.copied.stands;
      };
    })

-- What was still to be copied has been copied, and a movement has been replaced.
pub underway_moved : (rows cols : ℕ) (cells : ℕ → ℕ → CellValue) (known now new : Known)
    (whole uncopied rest tail short part longer longest : List ℕ) →
    IsUnderway rows cols cells known now whole uncopied rest short →
    part ≡ take (length uncopied - length rest) uncopied → longer ≡ short ++ part →
    AppendsUpTo rows cols cells now new rest tail longer longest →
    IsUnderway rows cols cells known new whole tail tail longest
underway_moved rows cols cells known now new whole uncopied rest tail short part longer longest is front e moved = record {
  middle = new;
  instead = instead_next rows cols cells known now new whole rest tail longer longest
      (underway_copied rows cols cells known now whole uncopied rest short longer is
      (e ∙ ap (λ (xs : List ℕ). short ++ xs) front)) moved;
  copied = copied_first rows cols cells new tail;
}

-- Everything has been read and copied.
pub underway_whole : (rows cols : ℕ) (cells : ℕ → ℕ → CellValue) (known now : Known) (whole uncopied rest short longer : List ℕ) →
    IsUnderway rows cols cells known now whole uncopied rest short → length rest ≡ 0 → longer ≡ short ++ uncopied →
    ReplacesWhole rows cols cells known whole longer
underway_whole rows cols cells known now whole uncopied rest short longer is none e =
    instead_whole rows cols cells known now whole rest longer
    (underway_copied rows cols cells known now whole uncopied rest short longer is
    (e ∙ ap (λ (xs : List ℕ). short ++ xs) (sym all))) none
  where
    all : take (length uncopied - length rest) uncopied ≡ uncopied
    all =
        let n : length uncopied - length rest ≡ length uncopied = omega (arith, none) in
        ap (λ (k : ℕ). take k uncopied) n ∙ take-length uncopied

-- ==== What the code finds out about a terminal after an element, a movement or a gap.

pub printed_ascii : (cols : ℕ) (known : Option Pos) (from : Pos) (element : Element) (result : Option Pos) (head : List ℕ) →
    known ≡ Some from → element ≡ elements.Ascii → IfSome result (IsAfter cols from (length head)) →
    IfSome result (IsPrinted cols element known head)
printed_ascii cols known from element None head at is after = tt
printed_ascii cols known from element (Some to) head at is after =
    subst (λ (e : Element). IsPrinted cols e known head to) (sym is) (from, at, after)

pub printed_other : (cols c : ℕ) (known : Option Pos) (from : Pos) (element : Element) (result : Option Pos)
    (head : List ℕ) → known ≡ Some from → element ≡ elements.Other c →
    IfSome result (λ to. (n : ℕ) × (columns_of c ≡ Some n) × (0 < n) × IsAfter cols from n to) →
    IfSome result (IsPrinted cols element known head)
printed_other cols c known from element None head at is after = tt
printed_other cols c known from element (Some to) head at is after =
    subst (λ (e : Element). IsPrinted cols e known head to) (sym is) (from, at, after)

printed_at : (cols : ℕ) (known : Option Pos) (element : Element) (head : List ℕ) (to : Pos) → is_still element ≡ true →
    known ≡ Some to → IsPrinted cols element known head to
printed_at cols known elements.Ascii head to still at = absurd cc
printed_at cols known (elements.Other c) head to still at = absurd cc
printed_at cols known (elements.Place pos) head to still at = absurd cc
printed_at cols known (elements.Right n) head to still at = absurd cc
printed_at cols known elements.NextRow head to still at = absurd cc
printed_at cols known elements.EraseRest head to still at = at
printed_at cols known (elements.EraseChars n) head to still at = at
printed_at cols known (elements.Lines n insert) head to still at = at
printed_at cols known (elements.Chars n insert) head to still at = at
printed_at cols known (elements.Hide hidden) head to still at = at
printed_at cols known elements.ClearAttrs head to still at = at
printed_at cols known elements.Attrs head to still at = at

pub printed_still : (cols : ℕ) (known : Option Pos) (element : Element) (head : List ℕ) → is_still element ≡ true →
    IfSome known (IsPrinted cols element known head)
printed_still cols None element head still = tt
printed_still cols (Some to) element head still = printed_at cols (Some to) element head to still refl

pub moved_instead : (rows cols : ℕ) (cells : ℕ → ℕ → CellValue) (known : Known) (at : Option Pos) (to : Pos)
    (head before after : List ℕ) → LeadsTo rows cols known.at to head → to.row < rows → to.col < cols →
    AppendsReplacement known.form rows cols known.at at head before after →
    AppendsInstead rows cols cells known (record known { at = at }) head before after
moved_instead rows cols cells known at to head before after leads low inside appended = record {
  text = appended.text;
  appends = appended.appends;
  stands = moved_stands rows cols cells known at to head appended.text leads low inside appended.replaces appended.portable;
}

-- Movements over a gap, and a character, were replaced by the gap's glyphs and the character.
pub gap_instead : (picture : Picture) (known after : Known) (gap : Gap) (letter old middle new : List ℕ) (row : RowValue)
    (rows cols : ℕ) → IsShownGap picture known gap → IsLetter letter → row ≡ row_of_picture picture gap.from.row →
    rows ≡ length picture.rows → cols ≡ picture.width →
    ((cells : ℕ → ℕ → CellValue) → ReplacesTracked rows cols cells
    (record known { at = Some (record { row = gap.from.row; col = gap.from.col + gap.count }) }) after letter letter) → middle ≡ old ++ gap_text row.cells gap.from.col gap.count → new ≡ middle ++ letter →
    AppendsInstead (length picture.rows) picture.width (picture_cell picture) known after
    (counted gap.count 0x43 ++ letter) old new
gap_instead picture known after gap letter old middle new row rows cols is letter_is same tall wide printed first last =
    let text : List ℕ = gap_text (row_of_picture picture gap.from.row).cells gap.from.col gap.count in
    let behind : Known = record known { at = Some (record { row = gap.from.row; col = gap.from.col + gap.count }) } in record {
      text = text ++ letter;
      appends = last
          ∙ (ap (λ (t : List ℕ). t ++ letter)
          (first ∙ ap (λ (x : RowValue). old ++ gap_text x.cells gap.from.col gap.count) same)
          ∙ append_assoc old text letter);
      stands = gap_stands picture known after gap letter is letter_is
          (subst (λ (h : ℕ). ReplacesTracked h picture.width (picture_cell picture) behind after letter letter) tall
          (subst (λ (w : ℕ). ReplacesTracked rows w (picture_cell picture) behind after letter letter) wide
          (printed (picture_cell picture))));
    }

-- A movement over a gap, and the character after it, were replaced.
pub gap_up_to : (rows cols count : ℕ) (cells : ℕ → ℕ → CellValue) (known new : Known) (element : Element)
    (head tail letter rest before after : List ℕ) → IsElement element head → element ≡ elements.Right count →
    tail ≡ letter ++ rest → AppendsInstead rows cols cells known new (counted count 0x43 ++ letter) before after →
    AppendsUpTo rows cols cells known new (head ++ tail) rest before after
gap_up_to rows cols count cells known new element head tail letter rest before after is right split appended = record {
  done = head ++ letter;
  parts = ap (λ (xs : List ℕ). head ++ xs) split ∙ sym (append_assoc head letter rest);
  stands = subst (λ (xs : List ℕ). AppendsInstead rows cols cells known new (xs ++ letter) before after) (sym over) appended;
}
  where
    over : head ≡ counted count 0x43
    over = (subst (λ (e : Element). IsElement e head) right is).2

pub element_up_to : (rows cols : ℕ) (cells : ℕ → ℕ → CellValue) (known new : Known) (head tail before after : List ℕ) →
    AppendsInstead rows cols cells known new head before after →
    AppendsUpTo rows cols cells known new (head ++ tail) tail before after
element_up_to rows cols cells known new head tail before after appended =
    record { done = head; parts = refl; stands = appended }

-- ==== Reading a diff whose cursor movements were shortened.

nothing : (xs : List ℕ) → length xs ≤ 0 → xs ≡ []
nothing [] h = refl
nothing (x ∷ xs) h = absurd (omega (arith, h))

-- A terminal that displays what a screen displays has its cursor where that screen has it.
reader_at : (self prev : Picture) (screen reader : ScreenValue) → prev ≡ display screen → IsReaderOf self prev reader →
    IsAt (known_cursor screen) reader
reader_at self prev screen reader e is = by_wrap (nat_lt screen.page.column screen.page.width) refl
  where
    same : display reader ≡ display screen
    same = is.shows ∙ e

    by_wrap : (b : Bool) → nat_lt screen.page.column screen.page.width ≡ b →
        IsAt (if b then Some (record { row = screen.page.row; col = screen.page.column }) else None) reader
    by_wrap true inside =
        let low : screen.page.column < screen.page.width = grind (arith, nat_tests) in
        record {
          row = ap (λ (p : Picture). p.row) same;
          column = ap (λ (p : Picture). p.column) same;
          inside = subst (λ w. screen.page.column < w) (sym (ap (λ (p : Picture). p.width) same)) low;
        }
    by_wrap false outside = tt

reader_tracked : (form : Form) (self : Picture) (prev reader : ScreenValue) → IsReaderOf self (display prev) reader →
    Tracks (length (display prev).rows) (display prev).width (picture_cell (display prev)) (known_at_start form prev) reader
reader_tracked form self prev reader is = record {
  sized = record {
    plain = is.is.plain;
    height = sym (shown_height reader) ∙ ap (λ (p : Picture). length p.rows) is.shows;
    width = ap (λ (p : Picture). p.width) is.shows;
  };
  at = reader_at self (display prev) prev reader refl is;
  kept = record {
    page = is.is.sound.page;
    glyphs = λ r c from narrow.
        ap (λ (p : Picture). picture_cell p r c) (sym (plain_shown reader is.is.sound is.is.plain) ∙ is.shows);
    attrs = λ e. ap (λ (p : Picture). p.attrs) is.shows ∙ attrs_of-same prev.attrs default_attrs e;
  };
}

pub version_same : (form : Form) (self : Picture) (prev : ScreenValue) (old text : List ℕ) → IsShortVersion form prev old text →
    (reader : ScreenValue) → IsReaderOf self (display prev) reader →
    terminal_after (terminal start reader) text ≡ terminal_after (terminal start reader) old
version_same form self prev old text (inl e) reader is = ap (terminal_after (terminal start reader)) e
version_same form self prev old text (inr r) reader is =
    r.1.stands.same reader (reader_tracked form self prev reader is)

pub version_shorter : (form : Form) (prev : ScreenValue) (old text : List ℕ) → IsShortVersion form prev old text → length text ≤ length old
version_shorter form prev old text (inl e) = let same : length text ≡ length old = ap (λ (xs : List ℕ). length xs) e in omega (arith, same)
version_shorter form prev old text (inr r) = r.1.stands.shorter

pub version_shortened : (form : Form) (self : Picture) (prev : ScreenValue) (old text : List ℕ) →
    IsShortVersion form prev old text → IsShortened self (display prev) old text
version_shortened form self prev old text is =
    record { same = version_same form self prev old text is; shorter = version_shorter form prev old text is }

pub version_moving : (form : Form) (self : Picture) (prev : ScreenValue) (old text : List ℕ) →
    IsMoving form self (display prev) old → IsShortVersion form prev old text → IsShortMoving form self (display prev) text
version_moving form self prev old text moving is = record {
  plain = old;
  moving = moving;
  short = version_shortened form self prev old text is;
}

pub version_redraws : (form : Form) (self prev : ScreenValue) (old text : List ℕ) → RedrawsFrom prev self old →
    IsShortVersion form prev old text → RedrawsFrom prev self text
version_redraws form self prev old text known is =
    let same = version_same form (display self) prev old text is in record {
      quiet = λ steady reader r. let (after, reads) = known.quiet steady reader r in (after, same reader r ∙ reads);
      shows = λ steady reader after r reads. known.shows steady reader after r (sym (same reader r) ∙ reads);
      rows = λ steady reader after r reads. known.rows steady reader after r (sym (same reader r) ∙ reads);
      cursor = λ steady reader after r reads. known.cursor steady reader after r (sym (same reader r) ∙ reads);
      rest = λ steady reader after r reads. known.rest steady reader after r (sym (same reader r) ∙ reads);
    }

pub version_tells : (form : Form) (self prev : ScreenValue) (old text : List ℕ) → IsSameIfEmpty prev self old →
    IsShortVersion form prev old text → IsSameIfEmpty prev self text
version_tells form self prev old text tells (inl e) steady empty = tells steady (sym e ∙ empty)
version_tells form self prev old text tells (inr r) steady empty = absurd (none_refused text empty r.0)

pub version_made : (form : Form) (prev : ScreenValue) (old text : List ℕ) →
    IsMadeOf shortened_finals shortened_controls old → IsShortVersion form prev old text →
    IsMadeOf shortened_finals shortened_controls text
version_made form prev old text made (inl e) = subst (IsMadeOf shortened_finals shortened_controls) (sym e) made
version_made form prev old text made (inr r) = r.1.stands.made

pub version_keeps : (form : Form) (prev : ScreenValue) (old text : List ℕ) → KeepsPlain old →
    IsShortVersion form prev old text → KeepsPlain text
version_keeps form prev old text keeps (inl e) = subst KeepsPlain (sym e) keeps
version_keeps form prev old text keeps (inr r) = r.1.stands.keeps

-- ---- scrolling diffs

pub moving_short : (form : Form) (self prev : ScreenValue) (old : List ℕ) → IsScreen self → IsColored self →
    IsScreen prev → IsColored prev → IsMoving form (display self) (display prev) old →
    IsMadeOf shortened_finals shortened_controls old
moving_short form self prev old is colored other colored_other moving =
    made_more scrolling_finals shortened_finals drawing_controls shortened_controls (λ x one. inr one)
    (λ x one. inr (inr one)) old (moving_made form self prev old is colored other colored_other moving)

-- ---- portable diffs

-- Terminals that display a screen's picture agree on the position of the cursor unless a wrap is pending.
agreed_start : (prev : ScreenValue) → IsAgreed (known_cursor prev) (doubts_of (display prev))
unfolding doubts_of is_past_uncertain
agreed_start prev = by_wrap (nat_lt prev.page.column prev.page.width)
    (ends_blank (row_or prev.page.width (display prev).rows prev.page.row).cells)
    (ends_uncertain (row_or prev.page.width (display prev).rows prev.page.row).cells)
  where
    by_wrap : (inside blank uncertain : Bool) →
        IsAgreed (if inside then Some (record { row = prev.page.row; col = prev.page.column }) else None)
        (record {
          wrap = if inside then NotPending else if blank then Unsure else Pending;
          is_shifted = not inside && uncertain;
          is_after_character = false;
        })
    by_wrap true blank uncertain = record { wrap = refl; place = refl }
    by_wrap false blank uncertain = tt

-- A shortened version of portable output that terminals read quietly is portable.
pub version_portable : (form : Form) (self : Picture) (prev : ScreenValue) (old text : List ℕ) → form ≡ Portable →
    IsShortVersion form prev old text → IsReadBy (IsReaderOf self (display prev)) old →
    IsPortable self (display prev) old → IsPortable self (display prev) text
version_portable form self prev old text is_portable (inl e) quiet portable =
    subst (IsPortable self (display prev)) (sym e) portable
version_portable form self prev old text is_portable (inr r) quiet portable = λ reader is.
    let (after, reads) = quiet reader is in
    (r.1.stands.portable is_portable reader (doubts_of (display prev)) (terminal start after)
    (reader_tracked form self prev reader is) (agreed_start prev) reads (portable reader is)).agrees

pub version_short : (form : Form) (prev : ScreenValue) (picture : Picture) (start : Known) (old whole text : List ℕ)
    → ReplacesWhole (length picture.rows) picture.width (picture_cell picture) start whole text
    → picture ≡ display prev → start ≡ known_at_start form prev → whole ≡ old → 0 < length text → IsShortVersion form prev old text
version_short form prev picture start old whole text stands same known e some =
    inr (
      some,
      subst (λ (p : Picture). ReplacesWhole (length p.rows) p.width (picture_cell p) (known_at_start form prev) old text) same
          (subst (λ (k : Known). ReplacesWhole (length picture.rows) picture.width (picture_cell picture) k old text) known
          (subst (λ (xs : List ℕ). ReplacesWhole (length picture.rows) picture.width (picture_cell picture) start xs text) e stands)),
    )
