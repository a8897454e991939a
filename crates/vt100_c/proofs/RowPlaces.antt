-- The positions at which the pieces and rows of a capture begin and end, computed from their texts.
use Rattle.std.proofs.Common.{◌≡◌, ◌≢◌, ◌⊎◌, ℕ, suc, ◌+◌, ◌-◌, ◌<◌, ◌≤◌, ◌==◌, Bool, true, false, not, min}
use Rattle.std.proofs.Common.{List, [], ◌∷◌, length, take, drop, get_or}
use Rattle.std.proofs.Common.{refl, sym, ap, subst, ◌∙◌, arith, inl, inr, if◌then◌else◌}
use Rattle.std.proofs.lemmas.Bool.{and_parts, eqb-true, eqb-false}
use Rattle.std.proofs.lemmas.List.{length-take, length-drop, get_or-take, get_or-drop}
use Rattle.std.proofs.lemmas.Str.{chars-nil}
use Rattle.std.specs.Str.{chars}
use Rattle.vt_rows.specs.CaptureRows.{AreRowsFrom, AreRowsOf, IsAfterEnd, IsAfterFull, IsRowOf, IsUncut}
use Rattle.vt_rows.specs.Pieces.{ArePiecesOf, Piece, piece_end, texts_of}
use Rattle.vt_rows.specs.Stretches.{ends_within}
use Rattle.vt100_c.specs.Walking.{IsFirstRow, after_line_end, no_place}

-- ---- pieces

-- A slice ends within the text.
slice_inside : (at : ℕ) (bytes text : List ℕ) → 0 < length bytes → take (length bytes) (drop at text) ≡ bytes →
    at + length bytes ≤ length text
slice_inside at bytes text some e =
    let l : length (take (length bytes) (drop at text)) ≡ length bytes = ap length e in
    let t : length (take (length bytes) (drop at text)) ≡ min (length bytes) (length (drop at text)) =
    length-take (length bytes) (drop at text) in
    let d : length (drop at text) ≡ length text - at = length-drop at text in
    omega arith

some_bytes : (bytes : List ℕ) → bytes ≢ [] → 0 < length bytes
some_bytes [] ne = absurd (ne refl)
some_bytes (b ∷ bytes) ne = omega arith

pub piece_inside : (text : List ℕ) (piece : Piece) (pieces : List Piece) → ArePiecesOf text (piece ∷ pieces) →
    piece_end piece ≤ length text
piece_inside text piece pieces are =
    slice_inside piece.0 piece.1 text (some_bytes piece.1 are.apart.0.0) are.apart.0.1

-- ---- rows

is_row : (width at : ℕ) (text : List ℕ) (row : Piece) (rows : List Piece) →
    AreRowsFrom width text at (row ∷ rows) → IsRowOf width text row
is_row width at text row [] are = are.1
is_row width at text row (next ∷ rows) are = are.1

begins_at : (width at : ℕ) (text : List ℕ) (row : Piece) (rows : List Piece) →
    AreRowsFrom width text at (row ∷ rows) → row.0 ≡ at
begins_at width at text row [] are = are.0
begins_at width at text row (next ∷ rows) are = are.0

-- A slice from the start of a text is not longer than the text.
start_inside : (at : ℕ) (bytes text : List ℕ) → at ≡ 0 → take (length bytes) (drop at text) ≡ bytes →
    length bytes ≤ length text
start_inside at bytes text z e =
    let l : length (take (length bytes) (drop at text)) ≡ length bytes = ap length e in
    let t : length (take (length bytes) (drop at text)) ≡ min (length bytes) (length (drop at text)) =
    length-take (length bytes) (drop at text) in
    let d : length (drop at text) ≡ length text - at = length-drop at text in
    omega arith

first_or_none : List (List ℕ) → List ℕ
first_or_none [] = []
first_or_none (text ∷ texts) = text

first_text : (rows : List Piece) (row : Piece) (bytes : List ℕ) (left : List (List ℕ)) →
    texts_of (row ∷ rows) ≡ bytes ∷ left → row.1 ≡ bytes
unfolding first_or_none
first_text rows row bytes left e = ap first_or_none e

pub row_inside : (width : ℕ) (text : List ℕ) (rows : List Piece) (bytes : List ℕ) (left : List (List ℕ)) →
    AreRowsOf width text rows → texts_of rows ≡ bytes ∷ left → length bytes ≤ length text
row_inside width text [] bytes left are e = absurd are
row_inside width text (row ∷ rows) bytes left are e =
    subst (λ (b : List ℕ). length b ≤ length text) (first_text rows row bytes left e)
    (start_inside row.0 row.1 text (begins_at width 0 text row rows are) (is_row width 0 text row rows are).slice)

-- The first character of a text that begins with a line feed is LF.
head_lf : (bytes : List ℕ) → get_or (chars (10 ∷ bytes)) 0 0 ≡ 10
unfolding chars
head_lf [] = refl
head_lf (b ∷ bytes) = refl

-- Text with a first character has at least one byte.
some_chars : (bytes : List ℕ) (first : ℕ) (rest : List ℕ) → chars bytes ≡ first ∷ rest → 0 < length bytes
some_chars [] first rest e =
    let l : length (chars []) ≡ suc (length rest) = ap length e in
    let z : length (chars []) ≡ 0 = ap length chars-nil in
    omega arith
some_chars (b ∷ bytes) first rest e = omega arith

no_lf : (bytes : List ℕ) (first : ℕ) (rest : List ℕ) → chars bytes ≡ first ∷ rest → first ≢ 10 →
    get_or bytes 0 0 ≢ 10
no_lf [] first rest e n h = let z : 0 ≡ 10 = h in omega arith
no_lf (b ∷ bytes) first rest e n h =
    n (sym (ap (λ (cs : List ℕ). get_or cs 0 0) e)
    ∙ (ap (λ (x : ℕ). get_or (chars (x ∷ bytes)) 0 0) h ∙ head_lf bytes))

-- The first byte of a slice is the byte of the text at the slice's index.
byte_at : (at : ℕ) (bytes text : List ℕ) → 0 < length bytes → take (length bytes) (drop at text) ≡ bytes →
    get_or text at 0 ≡ get_or bytes 0 0
byte_at at bytes text some e =
    let z : at ≡ at + 0 = omega arith in
    ap (λ (n : ℕ). get_or text n 0) z
    ∙ (sym (get_or-drop at text 0 0)
    ∙ (sym (get_or-take (length bytes) (drop at text) 0 0 some) ∙ ap (λ (bs : List ℕ). get_or bs 0 0) e))

-- The first character of a row is no line feed.
first_uncut : (width : ℕ) (cs : List ℕ) (first : ℕ) (rest : List ℕ) → cs ≡ first ∷ rest → IsUncut width cs →
    (first == 10) ≡ false
first_uncut width cs first rest e uncut =
    let u : IsUncut width (first ∷ rest) = subst (IsUncut width) e uncut in (u 0 (omega arith)).0

false_from : (x : Bool) → (x ≡ true → ⊥) → x ≡ false
false_from true n = absurd (n refl)
false_from false n = refl

-- The next row begins after the line feed at the end of a row, or directly at that end if there is no line feed.
next_place : (width : ℕ) (text : List ℕ) (row next : Piece) (rows : List Piece) →
    IsAfterEnd text row next ⊎ IsAfterFull width row next →
    AreRowsFrom width text next.0 (next ∷ rows) → next.0 ≡ after_line_end text (piece_end row)
next_place width text row next rows (inl b) are =
    b.place
    ∙ sym (ap (λ (is : Bool). if is then piece_end row + 1 else piece_end row)
    (and_parts (not (ends_within (chars row.1))) (get_or text (piece_end row) 0 == 10) b.ends).1)
next_place width text row next rows (inr f) are =
    let r : IsRowOf width text next = is_row width next.0 text next rows are in
    let some : 0 < length next.1 = some_chars next.1 f.first f.rest f.begins in
    let e : get_or text next.0 0 ≡ get_or next.1 0 0 = byte_at next.0 next.1 text some r.slice in
    let n : get_or next.1 0 0 ≢ 10 =
    no_lf next.1 f.first f.rest f.begins
    (eqb-false f.first 10 (first_uncut width (chars next.1) f.first f.rest f.begins r.uncut)) in
    let other : (get_or text (piece_end row) 0 == 10) ≡ false =
    false_from (get_or text (piece_end row) 0 == 10) (λ t.
    n (sym e ∙ (ap (λ (at : ℕ). get_or text at 0) f.place ∙ eqb-true (get_or text (piece_end row) 0) 10 t))) in
    f.place ∙ sym (ap (λ (is : Bool). if is then piece_end row + 1 else piece_end row) other)

end_at : (at : ℕ) (row : Piece) (bytes : List ℕ) → row.0 ≡ 0 → row.1 ≡ bytes → at + length bytes ≡ at + piece_end row
end_at at row bytes z e = let l : length row.1 ≡ length bytes = ap length e in omega arith

rest_of : List (List ℕ) → List (List ℕ)
rest_of [] = []
rest_of (text ∷ texts) = texts

left_texts : (row : Piece) (rows : List Piece) (bytes : List ℕ) (left : List (List ℕ)) →
    texts_of (row ∷ rows) ≡ bytes ∷ left → texts_of rows ≡ left
unfolding rest_of
left_texts row rows bytes left e = ap rest_of e

-- Every capture has at least one row.
pub some_row : (width : ℕ) (text : List ℕ) (rows : List Piece) → AreRowsOf width text rows → texts_of rows ≢ []
some_row width text [] are e = are
some_row width text (row ∷ rows) are e = let l : suc (length (texts_of rows)) ≡ 0 = ap length e in omega arith

-- The position at which the last row of a capture ends.
pub last_row : (width at : ℕ) (text : List ℕ) (rows : List Piece) (bytes : List ℕ) (left : List (List ℕ)) →
    AreRowsOf width text rows → texts_of rows ≡ bytes ∷ left → left ≡ [] →
    IsFirstRow at rows (at + length bytes) no_place
last_row width at text [] bytes left are e none = absurd are
last_row width at text (row ∷ []) bytes left are e none =
    (end_at at row bytes are.0 (first_text [] row bytes left e), refl)
last_row width at text (row ∷ next ∷ rows) bytes left are e none =
    let l : suc (length (texts_of rows)) ≡ 0 = ap length (left_texts row (next ∷ rows) bytes left e ∙ none) in
    absurd (omega arith)

-- The positions at which a row of a capture ends and the next row begins.
pub row_before : (width at : ℕ) (text : List ℕ) (rows : List Piece) (bytes : List ℕ) (left : List (List ℕ)) →
    AreRowsOf width text rows → texts_of rows ≡ bytes ∷ left → left ≢ [] →
    IsFirstRow at rows (at + length bytes) (at + after_line_end text (length bytes))
row_before width at text [] bytes left are e some = absurd are
row_before width at text (row ∷ []) bytes left are e some = absurd (some (sym (left_texts row [] bytes left e)))
row_before width at text (row ∷ next ∷ rows) bytes left are e some =
    let b : row.1 ≡ bytes = first_text (next ∷ rows) row bytes left e in
    let l : length row.1 ≡ length bytes = ap length b in
    let z : row.0 ≡ 0 = are.0 in
    let n : length bytes ≡ piece_end row = omega arith in (
      end_at at row bytes are.0 b,
      ap (λ (place : ℕ). at + place) (ap (after_line_end text) n ∙ sym (next_place width text row next rows are.2 are.3)),
    )

-- ---- rows of an iterator

-- The row that the iterator returned is within the text.
pub next_inside : (width : ℕ) (text : List ℕ) (all left : List (List ℕ)) (row : List ℕ) →
    ((rows : List Piece) × AreRowsOf width text rows × (all ≡ texts_of rows)) → all ≡ row ∷ left →
    length row ≤ length text
next_inside width text all left row some e = row_inside width text some.0 row left some.1 (sym some.2 ∙ e)

-- The positions at which the row that the iterator returned ends and the next one begins.
pub next_rows : (width at : ℕ) (text : List ℕ) (all left more : List (List ℕ)) (row next : List ℕ) (place : ℕ) →
    ((rows : List Piece) × AreRowsOf width text rows × (all ≡ texts_of rows)) → all ≡ row ∷ left → left ≡ next ∷ more →
    place ≡ after_line_end text (length row) →
    (rows : List Piece) × AreRowsOf width text rows × IsFirstRow at rows (at + length row) (at + place)
next_rows width at text all left more row next place some e f is =
    let others : left ≢ [] = λ none. let l : suc (length more) ≡ 0 = ap length (sym f ∙ none) in omega arith in (
      some.0,
      some.1,
      subst (λ (p : ℕ). IsFirstRow at some.0 (at + length row) (at + p)) (sym is)
          (row_before width at text some.0 row left some.1 (sym some.2 ∙ e) others),
    )
