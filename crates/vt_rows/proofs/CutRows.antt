-- The rows of a capture, by their indices.
use Rattle.std.proofs.Common.{◌≡◌, ◌⊎◌, inl, inr, ℕ, zero, suc, ◌+◌, ◌≤◌, Bool, true, false, not, ◌&&◌, ◌==◌, List}
use Rattle.std.proofs.Common.{[], ◌∷◌, ◌++◌, IsUtf8, length, take, drop, map, get_or, chars, encode_utf8_all, refl}
use Rattle.std.proofs.Common.{sym, ap, ap₂, subst, ◌∙◌, append_assoc, append-nil, arith, if◌then◌else◌}
use Rattle.std.specs.Char.{encode_utf8}
use Rattle.std.specs.Str.{all_scalars}
use Rattle.std.proofs.lemmas.Bool.{and_parts}
use Rattle.std.proofs.lemmas.List.{length-append, length-drop, length-take, get_or-drop}
use Rattle.std.proofs.lemmas.List.{take-append-le, get_or_append_left, take-append-drop}
use Rattle.std.proofs.lemmas.Str.{chars-encodes, encodes-append, encodes-chars, chars-append, chars-nil}
use Rattle.std.proofs.lemmas.Str.{chars_past_char, IsUtf8-past_char, IsUtf8-drop, IsCharBoundary-from_take}
use Rattle.std.proofs.Math.Seq.{take-append_seam, get_or-append_seam}
use Rattle.vt_rows.specs.CaptureRows.{IsAfterEnd, IsRowOf, IsUncut, ends_row, overflows}
use Rattle.vt_rows.specs.CaptureRows.{AreRowsFrom, AreRowsOf, IsAfterFull}
use Rattle.vt_rows.specs.Internals.{rows_after}
use Rattle.vt_rows.specs.Pieces.{Piece, piece_end, texts_of}
use Rattle.vt_rows.specs.Stretches.{ends_within, columns_in}
use Rattle.vt_rows.proofs.CaptureRows.{beyond_outside, line_end}
use Rattle.vt_rows.proofs.Pieces.{Place, StandsAt, place, stands_later}

test : {P : Type 0} (b : Bool) → (b ≡ true → P) → (b ≡ false → P) → P
test true yes_so not_so = yes_so refl
test false yes_so not_so = not_so refl

line_end_text : (c : ℕ) → c ≡ 0x0A → encode_utf8 c ≡ 0x0A ∷ []
unfolding encode_utf8
line_end_text c lf = ap encode_utf8 lf

-- The rows, with their indices, formed by the unfinished row `row`, which begins at byte `at`, and the characters after
-- it.
abbrev pub slices_after : ℕ → ℕ → List ℕ → List ℕ → List Piece
slices_after width at row [] = (at, encode_utf8_all row) ∷ []
slices_after width at row (c ∷ text) =
    if ends_row row c
    then (at, encode_utf8_all row) ∷ slices_after width (at + length (encode_utf8_all row) + 1) [] text
    else if overflows width row c
    then (at, encode_utf8_all row) ∷ slices_after width (at + length (encode_utf8_all row)) (c ∷ []) text
    else slices_after width at (row ++ c ∷ []) text

pub same_texts : (width at : ℕ) (row text : List ℕ) →
    texts_of (slices_after width at row text) ≡ map encode_utf8_all (rows_after width row text)
same_texts width at row [] = refl
same_texts width at row (c ∷ text) =
    let ended = same_texts width (at + length (encode_utf8_all row) + 1) [] text in
    let full = same_texts width (at + length (encode_utf8_all row)) (c ∷ []) text in
    let goes = same_texts width at (row ++ c ∷ []) text in
    test (ends_row row c)
    (λ e. rw e (ap (λ rows. encode_utf8_all row ∷ rows) ended))
    (λ e. test (overflows width row c)
    (λ f. rw (e, f) (ap (λ rows. encode_utf8_all row ∷ rows) full))
    (λ f. rw (e, f) goes))

scalars_more : (row text : List ℕ) → all_scalars row ≡ true → all_scalars text ≡ true → all_scalars (row ++ text) ≡ true
scalars_more [] text p q = q
scalars_more (c ∷ row) text p q =
    let parts = and_parts _ (all_scalars row) p in
    rw (parts.0, scalars_more row text parts.1 q) refl

-- An uncut row stays uncut when a character is added that neither ends nor overflows it.
uncut_more : (width : ℕ) (row : List ℕ) (c : ℕ) → IsUncut width row →
    ends_row row c ≡ false → overflows width row c ≡ false → IsUncut width (row ++ c ∷ [])
uncut_more width row c uncut goes fits k lt = by (place k (length row)) where
  by : Place k (length row) →
      (ends_row (take k (row ++ c ∷ [])) (get_or (row ++ c ∷ []) k 0) ≡ false)
      × (overflows width (take k (row ++ c ∷ [])) (get_or (row ++ c ∷ []) k 0) ≡ false)
  by (inl low) =
      rw (take-append-le k row (c ∷ []) (omega (arith, low)), get_or_append_left row (c ∷ []) 0 k low) (uncut k low)
  by (inr (inl e)) =
      let here : k ≡ length row = omega (arith, e) in
      rw (here, take-append_seam row (c ∷ []), get_or-append_seam row c [] 0) (goes, fits)
  by (inr (inr j)) = absurd (omega (arith, lt, j.1, length-append row (c ∷ [])))

uncut_at : (width : ℕ) (before behind : List ℕ) (c : ℕ) → IsUncut width (before ++ c ∷ behind) →
    (ends_row before c ≡ false) × (overflows width before c ≡ false)
uncut_at width before behind c uncut =
    let there = uncut (length before) (omega (arith, length-append before (c ∷ behind))) in
    rw (take-append_seam before (c ∷ behind), get_or-append_seam before c behind 0) at there

-- A row of one character is uncut, unless the character is a line end.
uncut_one : (width c : ℕ) → ends_row [] c ≡ false → IsUncut width (c ∷ [])
uncut_one width c goes zero lt = (goes, refl)
uncut_one width c goes (suc k) lt = absurd (omega (arith, lt))

-- A character that overflows a row is a line end after that row exactly if it is one at the beginning of a row.
full_goes : (width : ℕ) (row : List ℕ) (c : ℕ) → overflows width row c ≡ true → ends_row row c ≡ ends_row [] c
full_goes width row c full =
    let outside : ends_within row ≡ false = beyond_outside width (columns_in row) (ends_within row) c full in
    ap (λ within. not within && (c == 0x0A)) outside

-- The rows from byte `at` on, the first of which begins with the characters of `row`.
record Cut (width : ℕ) (capture : List ℕ) (at : ℕ) (row : List ℕ) (slices : List Piece) : Type 0 where
  first : Piece
  later : List Piece
  parts : slices ≡ first ∷ later
  place : first.0 ≡ at
  more : List ℕ
  begins : chars first.1 ≡ row ++ more
  are : AreRowsFrom width capture at (first ∷ later)

are_from : (width : ℕ) (capture : List ℕ) (at : ℕ) (row : List ℕ) (slices : List Piece) →
    Cut width capture at row slices → AreRowsFrom width capture at slices
are_from width capture at row slices cut = subst (AreRowsFrom width capture at) (sym cut.parts) cut.are

module _ (width : ℕ) (capture : List ℕ) (at : ℕ) (row : List ℕ) (rest : List ℕ)
    (stands : StandsAt capture at (encode_utf8_all row ++ rest)) (inside : at ≤ length capture)
    (scalars : all_scalars row ≡ true) (uncut : IsUncut width row) where
  abbrev size : ℕ
  size = length (encode_utf8_all row)

  slice_is : IsRowOf width capture (at, encode_utf8_all row)
  slice_is =
      let own = chars-encodes row scalars in
      record {
        slice = ap (take size) stands ∙ take-append_seam (encode_utf8_all row) rest;
        utf8 = (row, (scalars, refl));
        uncut = rw own uncut;
      }

  sizes : at + size + length rest ≡ length capture
  sizes =
      let left = length-drop at capture in
      let both = ap length stands in
      let parts = length-append (encode_utf8_all row) rest in
      omega (arith, left, both, parts, inside)

  cut_behind : (next : ℕ) (begun : List ℕ) (slices : List Piece) → Cut width capture next begun slices
      → ((first : Piece) → first.0 ≡ next → (more : List ℕ) → chars first.1 ≡ begun ++ more
      → IsAfterEnd capture (at, encode_utf8_all row) first ⊎ IsAfterFull width (at, encode_utf8_all row) first)
      → Cut width capture at row ((at, encode_utf8_all row) ∷ slices)
  cut_behind next begun slices cut behind = record {
    first = (at, encode_utf8_all row);
    later = cut.first ∷ cut.later;
    parts = ap (λ rows. (at, encode_utf8_all row) ∷ rows) cut.parts;
    place = refl;
    more = [];
    begins = chars-encodes row scalars ∙ sym (append-nil row);
    are = (
      refl,
      slice_is,
      behind cut.first cut.place cut.more cut.begins,
      subst (λ n. AreRowsFrom width capture n (cut.first ∷ cut.later)) (sym cut.place) cut.are,
    );
  }

  cut_last : rest ≡ [] → Cut width capture at row ((at, encode_utf8_all row) ∷ [])
  cut_last none = record {
    first = (at, encode_utf8_all row);
    later = [];
    parts = refl;
    place = refl;
    more = [];
    begins = chars-encodes row scalars ∙ sym (append-nil row);
    are = (refl, slice_is, omega (arith, sizes, ap length none));
  }

longer_more : (width : ℕ) (capture : List ℕ) (at : ℕ) (row : List ℕ) (c : ℕ) (slices : List Piece) →
    Cut width capture at (row ++ c ∷ []) slices → Cut width capture at row slices
longer_more width capture at row c slices cut = record {
  first = cut.first;
  later = cut.later;
  parts = cut.parts;
  place = cut.place;
  more = c ∷ cut.more;
  begins = cut.begins ∙ append_assoc row (c ∷ []) cut.more;
  are = cut.are;
}

module _ (width : ℕ) (capture : List ℕ) (at : ℕ) (row text : List ℕ) (c : ℕ) where
  abbrev front : List ℕ
  front = encode_utf8_all row

  longer_stands : StandsAt capture at (front ++ encode_utf8_all (c ∷ text)) →
      StandsAt capture at (encode_utf8_all (row ++ c ∷ []) ++ encode_utf8_all text)
  longer_stands stands =
      let last : encode_utf8_all (row ++ c ∷ []) ≡ front ++ encode_utf8 c =
      encodes-append row (c ∷ []) ∙ ap (λ (bytes : List ℕ). front ++ bytes) (append-nil (encode_utf8 c)) in
      stands ∙ sym (append_assoc front (encode_utf8 c) (encode_utf8_all text))
      ∙ ap (λ (bytes : List ℕ). bytes ++ encode_utf8_all text) (sym last)

  after_end : StandsAt capture at (front ++ encode_utf8_all (c ∷ text)) →
      c ≡ 0x0A → StandsAt capture (at + length front + 1) (encode_utf8_all text)
  after_end stands lf =
      let one = line_end_text c lf in
      let same : encode_utf8_all (c ∷ text) ≡ (0x0A ∷ []) ++ encode_utf8_all text =
      ap (λ (bytes : List ℕ). bytes ++ encode_utf8_all text) one in
      let joined : front ++ encode_utf8_all (c ∷ text) ≡ (front ++ 0x0A ∷ []) ++ encode_utf8_all text =
      ap (λ (bytes : List ℕ). front ++ bytes) same ∙ sym (append_assoc front (0x0A ∷ []) (encode_utf8_all text)) in
      stands_later capture at (front ++ 0x0A ∷ []) (encode_utf8_all text)
      (at + length front + 1) (stands ∙ joined) (omega (arith, length-append front (0x0A ∷ [])))

  byte_at : StandsAt capture at (front ++ encode_utf8_all (c ∷ text)) →
      c ≡ 0x0A → get_or capture (at + length front) 0 ≡ c
  byte_at stands lf =
      let one : encode_utf8 c ≡ c ∷ [] = line_end_text c lf ∙ ap (λ b. b ∷ []) (sym lf) in
      let same : encode_utf8_all (c ∷ text) ≡ c ∷ encode_utf8_all text =
      ap (λ (bytes : List ℕ). bytes ++ encode_utf8_all text) one in
      sym (get_or-drop at capture (length front) 0)
      ∙ ap (λ (bytes : List ℕ). get_or bytes (length front) 0) (stands ∙ ap (λ (bytes : List ℕ). front ++ bytes) same)
      ∙ get_or-append_seam front c (encode_utf8_all text) 0

cut_at : (width : ℕ) (capture : List ℕ) (at : ℕ) (row text : List ℕ)
    → StandsAt capture at (encode_utf8_all row ++ encode_utf8_all text) → at ≤ length capture
    → all_scalars row ≡ true → all_scalars text ≡ true → IsUncut width row
    → Cut width capture at row (slices_after width at row text)
cut_at width capture at row [] stands inside own others uncut =
    cut_last width capture at row [] stands inside own uncut refl
cut_at width capture at row (c ∷ text) stands inside own others uncut =
    let each = and_parts _ (all_scalars text) others in
    let single : all_scalars (c ∷ []) ≡ true = rw each.0 refl in
    let size = sizes width capture at row (encode_utf8_all (c ∷ text)) stands inside own uncut in
    let some : length (encode_utf8_all (c ∷ text)) ≡ length (encode_utf8 c) + length (encode_utf8_all text) =
    length-append (encode_utf8 c) (encode_utf8_all text) in
    test (ends_row row c)
    (λ ends.
    let lf : c ≡ 0x0A = line_end row c ends in
    let one : length (encode_utf8 c) ≡ 1 = ap length (line_end_text c lf) in
    let later = cut_at width capture (at + length (encode_utf8_all row) + 1)
    [] text (after_end width capture at row text c stands lf)
    (omega (arith, size, some, one)) refl each.1 (λ k lt. absurd (omega (arith, lt))) in
    rw ends (cut_behind width capture at row (encode_utf8_all (c ∷ text)) stands inside own uncut _ [] _ later
    (λ next e more begins. inl
    (record { place = e; ends = rw (chars-encodes row own, byte_at width capture at row text c stands lf) ends }))))
    (λ goes. test (overflows width row c)
    (λ full.
    let other : ends_row [] c ≡ false = sym (full_goes width row c full) ∙ goes in
    let left = stands_later capture at (encode_utf8_all row)
    (encode_utf8_all (c ∷ text)) (at + length (encode_utf8_all row)) stands refl in
    let later = cut_at width capture (at + length (encode_utf8_all row)) (c ∷ []) text
    (longer_stands width capture (at + length (encode_utf8_all row)) [] text c left)
    (omega (arith, size)) single each.1 (uncut_one width c other) in
    rw (goes, full)
    (cut_behind width capture at row (encode_utf8_all (c ∷ text)) stands inside own uncut _ (c ∷ []) _ later
    (λ next e more begins. inr
    (record { place = e; first = c; rest = more; begins = begins; overflows = rw (chars-encodes row own) full }))))
    (λ fits.
    let longer = cut_at width capture at (row ++ c ∷ []) text (longer_stands width capture at row text c stands)
    inside (scalars_more row (c ∷ []) own single) each.1 (uncut_more width row c uncut goes fits) in
    rw (goes, fits) (longer_more width capture at row c _ longer)))

pub rows_are : (width : ℕ) (capture : List ℕ) → IsUtf8 capture →
    AreRowsOf width capture (slices_after width 0 [] (chars capture))
rows_are width capture utf8 =
    let same : chars capture ≡ utf8.0 = ap chars (sym utf8.1.1) ∙ chars-encodes utf8.0 utf8.1.0 in
    rw same (are_from width capture 0 [] _
    (cut_at width capture 0 [] utf8.0 (sym utf8.1.1) (omega arith) refl utf8.1.0 (λ k lt. absurd (omega (arith, lt)))))

-- ---- The rows of a capture are unique

read_on : (width at : ℕ) (row back rest : List ℕ) → IsUncut width (row ++ back) →
    slices_after width at row (back ++ rest) ≡ slices_after width at (row ++ back) rest
read_on width at row [] rest uncut = ap (λ whole. slices_after width at whole rest) (sym (append-nil row))
read_on width at row (c ∷ back) rest uncut =
    let here = uncut_at width row back c uncut in
    let whole = append_assoc row (c ∷ []) back in
    let on = read_on width at (row ++ c ∷ []) back rest (rw whole uncut) in
    rw (here.0, here.1) (on ∙ ap (λ front. slices_after width at front rest) whole)

-- Dropping a prefix that is UTF-8 from UTF-8 text leaves UTF-8 text.
utf8_after : (text : List ℕ) (n : ℕ) → IsUtf8 text → IsUtf8 (take n text) → n ≤ length text → IsUtf8 (drop n text)
utf8_after text n whole front le = IsUtf8-drop text n whole (IsCharBoundary-from_take text n whole le front)

first_is : (width : ℕ) (capture : List ℕ) (at : ℕ) (row : Piece) (rows : List Piece) →
    AreRowsFrom width capture at (row ∷ rows) → (row.0 ≡ at) × IsRowOf width capture row
first_is width capture at row [] are = (are.0, are.1)
first_is width capture at row (next ∷ rows) are = (are.0, are.1)

module _ (width : ℕ) (capture : List ℕ) (at : ℕ) (row : Piece)
    (text : List ℕ) (stands : StandsAt capture at text) (utf8 : IsUtf8 text)
    (begin : row.0 ≡ at) (is : IsRowOf width capture row) where
  abbrev own : List ℕ
  own = chars row.1

  abbrev behind : List ℕ
  behind = drop (length row.1) text

  front_is : take (length row.1) text ≡ row.1
  front_is =
      ap (take (length row.1)) (sym stands) ∙ ap (λ n. take (length row.1) (drop n capture)) (sym begin) ∙ is.slice

  text_parts : row.1 ++ behind ≡ text
  text_parts = ap (λ (bytes : List ℕ). bytes ++ behind) (sym front_is) ∙ take-append-drop (length row.1) text

  fits_in : length row.1 ≤ length text
  fits_in =
      let cut = ap length front_is in
      let most = length-take (length row.1) text in
      omega (arith, cut, most)

  after_utf8 : IsUtf8 behind
  after_utf8 = utf8_after text (length row.1) utf8 (subst IsUtf8 (sym front_is) is.utf8) fits_in

  after_stands : StandsAt capture (piece_end row) behind
  after_stands = stands_later capture at row.1 behind (piece_end row) (stands ∙ sym text_parts) (omega (arith, begin))

  characters : chars text ≡ own ++ chars behind
  characters = ap chars (sym text_parts) ∙ chars-append row.1 behind is.utf8

  row_at : (at, encode_utf8_all own) ≡ row
  row_at = ap₂ (λ n t. (n, t)) (sym begin) (encodes-chars row.1 is.utf8)

  rows_on : slices_after width at [] (chars text) ≡ slices_after width at own (chars behind)
  rows_on = ap (slices_after width at []) characters ∙ read_on width at [] own (chars behind) is.uncut

  only_row : piece_end row ≡ length capture → row ∷ [] ≡ slices_after width at [] (chars text)
  only_row end =
      let left = length-drop (piece_end row) capture in
      let none : length behind ≡ 0 = omega (arith, left, ap length after_stands, end) in
      sym (rows_on ∙ nothing behind none ∙ ap (λ only. only ∷ []) row_at) where
        nothing : (rest : List ℕ) → length rest ≡ 0 →
            slices_after width at own (chars rest) ≡ (at, encode_utf8_all own) ∷ []
        nothing [] e = ap (slices_after width at own) chars-nil
        nothing (b ∷ rest) e = absurd (omega (arith, e))

  row_with : (size : ℕ) → size ≡ length (encode_utf8_all own) → at + size ≡ piece_end row
  row_with size e =
      let same = ap length (encodes-chars row.1 is.utf8) in
      omega (arith, e, same, begin)

  row_after_end : (next : Piece) (rows : List Piece) → IsAfterEnd capture row next
      → ((rest : List ℕ) → StandsAt capture next.0 rest → IsUtf8 rest
      → next ∷ rows ≡ slices_after width next.0 [] (chars rest))
      → row ∷ next ∷ rows ≡ slices_after width at [] (chars text)
  row_after_end next rows cut others = by behind refl where
    lf : get_or capture (piece_end row) 0 ≡ 0x0A
    lf = line_end own (get_or capture (piece_end row) 0) cut.ends

    first : (bytes : List ℕ) → behind ≡ bytes → get_or bytes 0 0 ≡ 0x0A
    first bytes e =
        let here : piece_end row + 0 ≡ piece_end row = omega arith in
        ap (λ (l : List ℕ). get_or l 0 0) (sym (after_stands ∙ e))
        ∙ get_or-drop (piece_end row) capture 0 0 ∙ ap (λ n. get_or capture n 0) here ∙ lf

    by : (bytes : List ℕ) → behind ≡ bytes → row ∷ next ∷ rows ≡ slices_after width at [] (chars text)
    by [] e = absurd (omega (arith, first [] e))
    by (b ∷ rest) e =
        let same : b ≡ 0x0A = first (b ∷ rest) e in
        let spelt : behind ≡ encode_utf8 0x0A ++ rest =
        e ∙ ap (λ (c : ℕ). c ∷ rest) same ∙ ap (λ (l : List ℕ). l ++ rest) (sym (line_end_text 0x0A refl)) in
        let later = stands_later capture (piece_end row) (b ∷ []) rest next.0 (after_stands ∙ e) cut.place in
        let ih = others rest later (IsUtf8-past_char behind rest 0x0A after_utf8 spelt) in
        let ends : ends_row own 0x0A ≡ true = rw lf at cut.ends in
        let step : slices_after width at own (0x0A ∷ chars rest)
        ≡ (at, encode_utf8_all own) ∷ slices_after width (at + length (encode_utf8_all own) + 1) [] (chars rest) =
        rw ends refl in
        let there : at + length (encode_utf8_all own) + 1 ≡ next.0 =
        omega (arith, row_with (length (encode_utf8_all own)) refl, cut.place) in
        sym (rows_on ∙ ap (slices_after width at own) (chars_past_char behind rest 0x0A after_utf8 spelt) ∙ step
        ∙ ap₂ (λ (r : Piece) (rs : List Piece). r ∷ rs) row_at
        (ap (λ n. slices_after width n [] (chars rest)) there ∙ sym ih))

  row_after_full : (next : Piece) (rows : List Piece) → IsAfterFull width row next
      → IsUncut width (chars next.1) → (tail : List ℕ) → chars behind ≡ chars next.1 ++ tail
      → next ∷ rows ≡ slices_after width next.0 [] (chars behind)
      → row ∷ next ∷ rows ≡ slices_after width at [] (chars text)
  row_after_full next rows cut uncut tail parts ih =
      let c = cut.first in
      let follow : chars behind ≡ c ∷ (cut.rest ++ tail) = parts ∙ ap (λ (l : List ℕ). l ++ tail) cut.begins in
      let other = (uncut_at width [] cut.rest c (rw cut.begins at uncut)).0 in
      let goes : ends_row own c ≡ false = full_goes width own c cut.overflows ∙ other in
      let step : slices_after width at own (c ∷ (cut.rest ++ tail))
      ≡ (at, encode_utf8_all own)
      ∷ slices_after width (at + length (encode_utf8_all own)) (c ∷ []) (cut.rest ++ tail) =
      rw (goes, cut.overflows) refl in
      let anew : slices_after width next.0 [] (c ∷ (cut.rest ++ tail))
      ≡ slices_after width next.0 (c ∷ []) (cut.rest ++ tail) = rw other refl in
      let there : at + length (encode_utf8_all own) ≡ next.0 =
      omega (arith, row_with (length (encode_utf8_all own)) refl, cut.place) in
      sym (rows_on ∙ ap (slices_after width at own) follow ∙ step
      ∙ ap₂ (λ (r : Piece) (rs : List Piece). r ∷ rs) row_at
      (ap (λ n. slices_after width n (c ∷ []) (cut.rest ++ tail)) there
      ∙ sym anew ∙ ap (slices_after width next.0 []) (sym follow) ∙ sym ih))

only_rows : (width : ℕ) (capture : List ℕ) (at : ℕ) (rows : List Piece) → AreRowsFrom width capture at rows →
    (text : List ℕ) → StandsAt capture at text → IsUtf8 text → rows ≡ slices_after width at [] (chars text)
only_rows width capture at [] are text stands utf8 = absurd are
only_rows width capture at (row ∷ []) are text stands utf8 =
    only_row width capture at row text stands utf8 are.0 are.1 are.2
only_rows width capture at (row ∷ next ∷ rows) are text stands utf8 =
    by are.2 (λ rest later own. only_rows width capture next.0 (next ∷ rows) are.3 rest later own) where
      by : IsAfterEnd capture row next ⊎ IsAfterFull width row next
          → ((rest : List ℕ) → StandsAt capture next.0 rest → IsUtf8 rest
          → next ∷ rows ≡ slices_after width next.0 [] (chars rest))
          → row ∷ next ∷ rows ≡ slices_after width at [] (chars text)
      by (inl cut) others = row_after_end width capture at row text stands utf8 are.0 are.1 next rows cut others
      by (inr cut) others =
          let left = drop (length row.1) text in
          let there : StandsAt capture next.0 left =
          ap (λ n. drop n capture) cut.place ∙ after_stands width capture at row text stands utf8 are.0 are.1 in
          let own = after_utf8 width capture at row text stands utf8 are.0 are.1 in
          let is = (first_is width capture next.0 next rows are.3).1 in
          row_after_full width capture at row text stands utf8 are.0 are.1 next rows cut is.uncut
          _ (characters width capture next.0 next left there own refl is) (others left there own)

pub rows_are_one : (width : ℕ) (capture : List ℕ) (rows others : List Piece) → IsUtf8 capture →
    AreRowsOf width capture rows → AreRowsOf width capture others → rows ≡ others
rows_are_one width capture rows others utf8 mine yours =
    only_rows width capture 0 rows mine capture refl utf8
    ∙ sym (only_rows width capture 0 others yours capture refl utf8)
