-- A lawful black box displays a picture after it has read the bytes of its portable redraw, or of the portable
-- difference to it.
use Rattle.std.proofs.Common.{◌≡◌, ℕ, zero, suc, ◌<◌, Bool, true, false, List, [], ◌∷◌, ◌++◌, length, refl, sym, ap}
use Rattle.std.proofs.Common.{subst, ◌∙◌, append-nil, append_assoc, ◌^◌, arith}
use Rattle.std.specs.Prelude.{chars, encode_utf8_all, if◌then◌else◌, map}
use Rattle.std.specs.Char.{encode_utf8}
use Rattle.std.specs.List.{AllByRecursion, flat_map}
use Rattle.std.specs.Str.{all_scalars}
use Rattle.std.proofs.lemmas.Bool.{and_from, cond_both}
use Rattle.std.proofs.lemmas.List.Elements.{recursion_from_All}
use Rattle.std.proofs.lemmas.Str.{chars-encodes}
use Rattle.vt_cells.specs.Attrs.{Attrs, same_attrs}
use Rattle.vt_cells.specs.Op.{Op, FitsAttrs, bytes_of, bytes_of_all, change_text}
use Rattle.vt_rows.specs.Row.{IsRow, RowValue}
use Rattle.vt_redraw.specs.Fits.{Fits, IsDrawn}
use Rattle.vt_redraw.specs.Picture.{IsPicture, Picture, SamePictureSize}
use Rattle.vt_redraw.specs.Redraw.{last_picture, difference_in, redraw_in}
use Rattle.vt_redraw.specs.declared.form.Form.TheVariants.{Portable}
use Rattle.vt_redraw.proofs.PictureFits.{difference_fits_in, redraw_fits_in}
use Rattle.vt_terminals.specs.BlackBox.{CanShow, portable_changes, BlackBox, FitsElement, IsLawful, Ready, ShowsAfter}
use Rattle.vt_terminals.specs.BlackBox.{terminal_of}
use Rattle.vt_terminals.specs.Element.{Character, Element, Sgr, bytes_of_element}
use Rattle.vt_terminals.specs.Room.{IsPlaced}
use Rattle.vt_terminals.specs.Terminal.{Displays, ReadsAll, Positions}
use Rattle.vt_terminals.proofs.Elements.{elements_of, elements_of_all}
use Rattle.vt_terminals.proofs.Every.{difference_shows, redraw_shows}
use Rattle.vt_terminals.proofs.TidyScript.{placed_alike}

-- ==== The bytes of operations are those of their elements

flat_append : (xs ys : List Element) → flat_map bytes_of_element (xs ++ ys)
    ≡ flat_map bytes_of_element xs ++ flat_map bytes_of_element ys
flat_append [] ys = refl
flat_append (x ∷ xs) ys =
    ap (λ (z : List ℕ). bytes_of_element x ++ z) (flat_append xs ys)
    ∙ sym (append_assoc (bytes_of_element x) (flat_map bytes_of_element xs) (flat_map bytes_of_element ys))

characters : (cs : List ℕ) → flat_map bytes_of_element (map Character cs) ≡ encode_utf8_all cs
characters [] = refl
characters (c ∷ cs) = ap (λ (z : List ℕ). encode_utf8 c ++ z) (characters cs)

all_scalar : (cs : List ℕ) → AllByRecursion IsDrawn cs → all_scalars cs ≡ true
all_scalar [] h = refl
all_scalar (c ∷ cs) h = and_from _ (all_scalars cs) h.0.scalar (all_scalar cs h.1)

no_change : (was new : Attrs) → same_attrs was new ≡ true → change_text was new ≡ []
unfolding change_text
no_change was new e = rw e refl

op_bytes : (op : Op) → Fits op → flat_map bytes_of_element (elements_of op) ≡ bytes_of op
op_bytes (Op.Hide true) h = append-nil (bytes_of (Op.Hide true))
op_bytes (Op.Hide false) h = append-nil (bytes_of (Op.Hide false))
op_bytes Op.ClearAttrs h = append-nil (bytes_of Op.ClearAttrs)
op_bytes (Op.MoveTo row col) h = append-nil (bytes_of (Op.MoveTo row col))
op_bytes (Op.MoveRight zero) h = refl
op_bytes (Op.MoveRight (suc n)) h = append-nil (bytes_of (Op.MoveRight (suc n)))
op_bytes Op.NextRow h = refl
op_bytes Op.LineFeed h = refl
op_bytes Op.Backspace h = refl
op_bytes Op.EraseBelow h = append-nil (bytes_of Op.EraseBelow)
op_bytes Op.EraseRest h = append-nil (bytes_of Op.EraseRest)
op_bytes (Op.EraseChars zero) h = refl
op_bytes (Op.EraseChars (suc n)) h = append-nil (bytes_of (Op.EraseChars (suc n)))
op_bytes Op.SaveCursor h = append-nil (bytes_of Op.SaveCursor)
op_bytes Op.RestoreCursor h = append-nil (bytes_of Op.RestoreCursor)
op_bytes (Op.ChangeAttrs was new) h = change_bytes (same_attrs was new) refl
  where
    change_bytes : (b : Bool) → same_attrs was new ≡ b →
        flat_map bytes_of_element (elements_of (Op.ChangeAttrs was new)) ≡ change_text was new
    change_bytes true e =
        ap (λ (b : Bool). flat_map bytes_of_element (if b then [] else Sgr was new ∷ [])) e ∙ sym (no_change was new e)
    change_bytes false e =
        ap (λ (b : Bool). flat_map bytes_of_element (if b then [] else Sgr was new ∷ [])) e
        ∙ append-nil (change_text was new)
op_bytes (Op.Print text) h =
    let cs = h.characters in
    let decoded : chars text ≡ cs = ap chars (sym h.spelled) ∙ chars-encodes cs (all_scalar cs h.printable) in
    characters (chars text) ∙ (ap encode_utf8_all decoded ∙ h.spelled)

pub ops_bytes : (ops : List Op) → AllByRecursion Fits ops →
    flat_map bytes_of_element (elements_of_all ops) ≡ bytes_of_all ops
ops_bytes [] h = refl
ops_bytes (op ∷ ops) h =
    flat_append (elements_of op) (elements_of_all ops)
    ∙ (ap (λ (z : List ℕ). z ++ flat_map bytes_of_element (elements_of_all ops)) (op_bytes op h.0)
    ∙ ap (λ (z : List ℕ). bytes_of op ++ z) (ops_bytes ops h.1))

-- ==== The elements of operations that fit

fits_append : (xs ys : List Element) → AllByRecursion FitsElement xs → AllByRecursion FitsElement ys →
    AllByRecursion FitsElement (xs ++ ys)
fits_append [] ys h k = k
fits_append (x ∷ xs) ys h k = (h.0, fits_append xs ys h.1 k)

fit_characters : (cs : List ℕ) → AllByRecursion IsDrawn cs → AllByRecursion FitsElement (map Character cs)
fit_characters [] h = tt
fit_characters (c ∷ cs) h = (h.0, fit_characters cs h.1)

op_fits : (op : Op) → Fits op → AllByRecursion FitsElement (elements_of op)
op_fits (Op.Hide hidden) h = (tt, tt)
op_fits Op.ClearAttrs h = (tt, tt)
op_fits (Op.MoveTo row col) h = (h, tt)
op_fits (Op.MoveRight zero) h = tt
op_fits (Op.MoveRight (suc n)) h = (h, tt)
op_fits Op.NextRow h = (tt, (tt, tt))
op_fits Op.LineFeed h = (tt, tt)
op_fits Op.Backspace h = (tt, tt)
op_fits Op.EraseBelow h = (tt, tt)
op_fits Op.EraseRest h = (tt, tt)
op_fits (Op.EraseChars zero) h = tt
op_fits (Op.EraseChars (suc n)) h = (h, tt)
op_fits Op.SaveCursor h = (tt, tt)
op_fits Op.RestoreCursor h = (tt, tt)
op_fits (Op.ChangeAttrs was new) h =
    cond_both (same_attrs was new) [] (Sgr was new ∷ []) (AllByRecursion FitsElement) (λ _. tt) (λ _. (h, tt))
op_fits (Op.Print text) h =
    let cs = h.characters in
    let decoded : chars text ≡ cs = ap chars (sym h.spelled) ∙ chars-encodes cs (all_scalar cs h.printable) in
    subst (λ (z : List ℕ). AllByRecursion FitsElement (map Character z)) (sym decoded) (fit_characters cs h.printable)

ops_fit : (ops : List Op) → AllByRecursion Fits ops → AllByRecursion FitsElement (elements_of_all ops)
ops_fit [] h = tt
ops_fit (op ∷ ops) h = fits_append (elements_of op) (elements_of_all ops) (op_fits op h.0) (ops_fit ops h.1)

-- ==== Black boxes

-- A black box reads any elements that fit.
record Read (box : BlackBox) (elements : List Element) (s : Ready box) : Type 0 where
  after : Ready box
  reads : ReadsAll (terminal_of box) elements s after
  is : s.0 ++ flat_map bytes_of_element elements ≡ after.0

reads_box : (box : BlackBox) → IsLawful box → (elements : List Element) → AllByRecursion FitsElement elements →
    (s : Ready box) →
    Read box elements s
reads_box box lawful [] fits s = record { after = s; reads = refl; is = append-nil s.0 }
reads_box box lawful (element ∷ elements) fits s =
    let next : Ready box = (s.0 ++ bytes_of_element element, lawful.stays element s.0 fits.0 s.1) in
    let rest = reads_box box lawful elements fits.1 next in
    record {
      after = rest.after;
      reads = (next, ((fits.0, refl), rest.reads));
      is = sym (append_assoc s.0 (bytes_of_element element) (flat_map bytes_of_element elements)) ∙ rest.is;
    }

shows_after : (box : BlackBox) (near : Positions) (picture : Picture) (read : List ℕ) (after : Ready box) →
    after.0 ≡ read →
    Displays (terminal_of box) near picture after → ShowsAfter box near picture read
shows_after box near picture read after e shows =
    subst (λ (z : List ℕ). ShowsAfter box near picture z) e (after.1, shows)

-- The redraw.
pub box_redraw_shows : (box : BlackBox) → IsLawful box → (near : Positions) (self : Picture) (before : List ℕ) →
    CanShow box near self → box.is_ready before ≡ true →
    ShowsAfter box near self (before ++ bytes_of_all (redraw_in Portable self))
box_redraw_shows box lawful near self before can ready =
    let ops = redraw_in Portable self in
    let fits = redraw_fits_in Portable self can.sound can.colored in
    let read = reads_box box lawful (elements_of_all ops) (ops_fit ops fits) (before, ready) in
    shows_after box near self (before ++ bytes_of_all ops) read.after
    (sym read.is ∙ ap (λ (z : List ℕ). before ++ z) (ops_bytes ops fits))
    (redraw_shows (terminal_of box) lawful.laws near self (before, ready) read.after can.sound can.steady can.room
    can.width
    can.height read.reads)

counted : (w : ℕ) (rows : List RowValue) → w < 2 ^ 16 → AllByRecursion (IsRow w) rows →
    AllByRecursion (λ row. length row.cells < 2 ^ 16) rows
counted w [] lt h = tt
counted w (row ∷ rows) lt h = let l = h.0.columns in (omega (arith, l, lt), counted w rows lt h.1)

-- The difference.
pub box_difference_shows : (box : BlackBox) → IsLawful box →
    (near : Positions) (self prev : Picture) (before : List ℕ) →
    CanShow box near self → IsPicture prev → FitsAttrs prev.attrs → SamePictureSize self prev →
    IsPlaced prev → ShowsAfter box near prev before →
    ShowsAfter box near self (before ++ bytes_of_all (difference_in Portable self prev))
box_difference_shows box lawful near self prev before can other attrs size flat shows =
    let ops = difference_in Portable self prev in
    let fits = difference_fits_in Portable self prev can.sound can.colored attrs
    (counted prev.width prev.rows (let w = size.width in let c = can.colored.columns in omega (arith, w, c))
    (recursion_from_All (IsRow prev.width) prev.rows other.rows)) in
    let read = reads_box box lawful (elements_of_all ops) (ops_fit ops fits) (before, shows.0) in
    shows_after box near self (before ++ bytes_of_all ops) read.after
    (sym read.is ∙ ap (λ (z : List ℕ). before ++ z) (ops_bytes ops fits))
    (difference_shows (terminal_of box) lawful.laws near self prev (before, shows.0) read.after can.sound can.steady
    can.room
    other size flat can.width can.height shows.1 read.reads)

-- The difference from a picture that can be displayed, too.
pub box_next_shows : (box : BlackBox) → IsLawful box → (near : Positions) (self prev : Picture) (read : List ℕ) →
    CanShow box near prev → CanShow box near self → ShowsAfter box near prev read →
    ShowsAfter box near self (read ++ bytes_of_all (difference_in Portable self prev))
box_next_shows box lawful near self prev read was can shows =
    box_difference_shows box lawful near self prev read can was.sound was.colored.attrs
    (record { width = can.width ∙ sym was.width; height = can.height ∙ sym was.height })
    (placed_alike near prev was.sound was.steady was.room) shows

-- Several differences, each from the previous picture to the next.
changes_show : (box : BlackBox) → IsLawful box → (near : Positions) (self : Picture) (nexts : List Picture)
    (read : List ℕ) → CanShow box near self → AllByRecursion (CanShow box near) nexts → ShowsAfter box near self read →
    ShowsAfter box near (last_picture self nexts) (read ++ portable_changes self nexts)
changes_show box lawful near self [] read can all shows =
    subst (λ (z : List ℕ). ShowsAfter box near self z) (sym (append-nil read)) shows
changes_show box lawful near self (x ∷ xs) read can all shows =
    let change = bytes_of_all (difference_in Portable x self) in
    let next = box_next_shows box lawful near x self read can all.0 shows in
    subst (λ (z : List ℕ). ShowsAfter box near (last_picture x xs) z) (append_assoc read change (portable_changes x xs))
    (changes_show box lawful near x xs (read ++ change) all.0 all.1 next)

-- A redraw, and then differences.
pub box_chain_shows : (box : BlackBox) → IsLawful box → (near : Positions) (self : Picture) (nexts : List Picture)
    (before : List ℕ) → CanShow box near self → AllByRecursion (CanShow box near) nexts → box.is_ready before ≡ true →
    ShowsAfter box near (last_picture self nexts)
    (before ++ (bytes_of_all (redraw_in Portable self) ++ portable_changes self nexts))
box_chain_shows box lawful near self nexts before can all ready =
    let redraw = bytes_of_all (redraw_in Portable self) in
    subst (λ (z : List ℕ). ShowsAfter box near (last_picture self nexts) z)
    (append_assoc before redraw (portable_changes self nexts))
    (changes_show box lawful near self nexts (before ++ redraw) can all
    (box_redraw_shows box lawful near self before can ready))
