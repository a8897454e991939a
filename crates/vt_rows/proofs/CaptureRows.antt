-- One more character on a row of a capture; a capture has one list of pieces.
use Rattle.std.proofs.Common.{◌≡◌, ℕ, ◌+◌, ◌-◌, ◌≤◌, Bool, true, false, not, ◌==◌, List, [], ◌∷◌, ◌++◌, length, drop}
use Rattle.std.proofs.Common.{map, chars, encode_utf8_all, Option, Some, None, refl, sym, ap, subst, ◌∙◌, append_assoc}
use Rattle.std.proofs.Common.{append-nil, arith, ◌≢◌, ◌↔◌, inl, inr, ◌<◌, take, ap₂}
use Rattle.std.specs.Char.{encode_utf8, len_utf8}
use Rattle.std.specs.List.{fold, slice_range}
use Rattle.std.specs.Str.{IsUtf8, IsCharBoundary}
use Rattle.std.proofs.Math.Seq.{take-append_seam, drop-append_seam}
use Rattle.std.proofs.lemmas.Bool.{and_parts, cond_both, eqb-true}
use Rattle.std.proofs.lemmas.List.{length-append, length-drop, length-take}
use Rattle.std.proofs.lemmas.Bool.Decides.{nat_tests}
use Rattle.std.proofs.lemmas.Str.{length-encode, len_utf8_ascii, IsUtf8-past_char, chars_past_char, encodes-append}
use Rattle.std.proofs.lemmas.Str.{drop_past_char, IsCharBoundary-from_drop, chars-nil}
use Rattle.unicode_width.specs.Width.{char_width}
use Rattle.vt_rows.specs.CaptureRows.{ends_row, is_beyond, overflows}
use Rattle.vt_rows.specs.Internals.{rows_after, rows_of}
use Rattle.vt_rows.specs.Stretches.{begins_stretch, shown_columns, shown_columns_or, is_within_after, ends_within}
use Rattle.vt_rows.specs.Stretches.{columns_added, columns_from, columns_in}
use Rattle.vt_rows.specs.Pieces.{Piece, piece_end, IsInSome, IsPieceOf, AreApart, ArePiecesOf}

-- ==== The effect of one more character on a row of a capture.

within_more : (within : Bool) (text : List ℕ) (c : ℕ) →
    fold is_within_after within (text ++ c ∷ []) ≡ is_within_after (fold is_within_after within text) c
within_more within [] c = refl
within_more within (b ∷ text) c = within_more (is_within_after within b) text c

columns_more : (within : Bool) (text : List ℕ) (c : ℕ) →
    columns_from within (text ++ c ∷ []) ≡ columns_from within text + columns_added (fold is_within_after within text) c
columns_more within [] c = omega arith
columns_more within (b ∷ text) c =
    let ih = columns_more (is_within_after within b) text c in
    omega arith

pub ends_within-more : (row : List ℕ) (c : ℕ) → ends_within (row ++ c ∷ []) ≡ is_within_after (ends_within row) c
ends_within-more row c = within_more false row c

pub columns_in-more : (row : List ℕ) (c : ℕ) →
    columns_in (row ++ c ∷ []) ≡ columns_in row + columns_added (ends_within row) c
columns_in-more row c = columns_more false row c

-- The text of a capture was read up to `rest`, and `row` is its current row.
pub record IsRead (width : ℕ) (text row rest : List ℕ) : Type 0 where
  pub parts : text ≡ encode_utf8_all row ++ rest
  pub utf8 : IsUtf8 rest
  pub rows : rows_after width row (chars rest) ≡ rows_after width [] (chars text)

pub beyond_outside : (width used : ℕ) (within : Bool) (c : ℕ) →
    is_beyond width used (columns_added within c) ≡ true → within ≡ false
beyond_outside width used true c e = absurd (grind (arith, nat_tests))
beyond_outside width used false c e = refl

module _ (width : ℕ) (text row rest later : List ℕ) (c : ℕ)
    (read : IsRead width text row rest) (next : rest ≡ encode_utf8 c ++ later) where
  characters : chars rest ≡ c ∷ chars later
  characters = chars_past_char rest later c read.utf8 next

  seen : rows_after width row (c ∷ chars later) ≡ rows_after width [] (chars text)
  seen = ap (rows_after width row) (sym characters) ∙ read.rows

  pub row_ended : ends_row row c ≡ true → rows_of width text ≡ encode_utf8_all row ∷ rows_of width later
  row_ended ends =
      let step : rows_after width row (c ∷ chars later) ≡ row ∷ rows_after width [] (chars later) = rw ends refl in
      ap (map encode_utf8_all) (sym seen ∙ step)

  pub row_full : ends_row row c ≡ false → overflows width row c ≡ true →
      rows_of width text ≡ encode_utf8_all row ∷ rows_of width rest
  row_full goes full =
      let outside : ends_within row ≡ false = beyond_outside width (columns_in row) (ends_within row) c full in
      let other : ends_row [] c ≡ false = rw outside at goes in
      let fits : overflows width [] c ≡ false = refl in
      let step : rows_after width row (c ∷ chars later) ≡ row ∷ rows_after width (c ∷ []) (chars later) =
      rw (goes, full) refl in
      let anew : rows_after width [] (c ∷ chars later) ≡ rows_after width (c ∷ []) (chars later) =
      rw (other, fits) refl in
      ap (map encode_utf8_all)
      (sym seen ∙ step ∙ ap (λ rows. row ∷ rows) (sym anew ∙ ap (rows_after width []) (sym characters)))

  pub row_goes_on : ends_row row c ≡ false → overflows width row c ≡ false → IsRead width text (row ++ c ∷ []) later
  row_goes_on goes fits =
      let step : rows_after width row (c ∷ chars later) ≡ rows_after width (row ++ c ∷ []) (chars later) =
      rw (goes, fits) refl in
      let whole : encode_utf8_all (row ++ c ∷ []) ++ later ≡ text =
      ap (λ (front : List ℕ). front ++ later)
      (encodes-append row (c ∷ []) ∙ ap (λ (last : List ℕ). encode_utf8_all row ++ last) (append-nil (encode_utf8 c)))
      ∙ append_assoc (encode_utf8_all row) (encode_utf8 c) later
      ∙ ap (λ (back : List ℕ). encode_utf8_all row ++ back) (sym next)
      ∙ sym read.parts in
      record { parts = sym whole; utf8 = IsUtf8-past_char rest later c read.utf8 next; rows = sym step ∙ seen }

-- If nothing is left to read of a text, the whole text is its last row.
pub row_last : (width : ℕ) (text row rest : List ℕ) →
    IsRead width text row rest → length rest ≡ 0 → rows_of width text ≡ text ∷ []
row_last width text row [] read e =
    let none : chars [] ≡ [] = chars-nil in
    let whole : encode_utf8_all row ≡ text = sym (read.parts ∙ append-nil (encode_utf8_all row)) in
    let last : rows_after width row [] ≡ rows_after width [] (chars text) = rw none at read.rows in
    ap (map encode_utf8_all) (sym last) ∙ ap (λ only. only ∷ []) whole
row_last width text row (b ∷ rest) read e = absurd (omega arith)

-- The first part of a text is the slice from index 0 to the length of the part.
pub front_part : (text front back : List ℕ) (n : ℕ) →
    text ≡ front ++ back → n ≡ length front → slice_range text 0 n ≡ front
front_part text front back n parts e =
    let same : n - 0 ≡ n = omega arith in
    rw (same, parts, e) (take-append_seam front back)

pub back_part : (text front back : List ℕ) (n : ℕ) → text ≡ front ++ back → n ≡ length front → drop n text ≡ back
back_part text front back n parts e = rw (parts, e) (drop-append_seam front back)

-- A character that ends a row is LF.
pub line_end : (row : List ℕ) (c : ℕ) → ends_row row c ≡ true → c ≡ 0x0A
line_end row c ends = eqb-true c 0x0A (and_parts (not (ends_within row)) (c == 0x0A) ends).1

pub after_line_end : (text row rest later : List ℕ) (c n : ℕ) → text ≡ encode_utf8_all row ++ rest →
    rest ≡ encode_utf8 c ++ later → n ≡ length (encode_utf8_all row) → c ≡ 0x0A → drop (n + 1) text ≡ later
after_line_end text row rest later c n parts next e lf =
    let width : len_utf8 c ≡ 1 = rw lf refl in
    let seam : drop n text ≡ encode_utf8 c ++ later = back_part text (encode_utf8_all row) rest n parts e ∙ next in
    rw width at (drop_past_char text later n c seam)

pub boundary_after : (text row rest later : List ℕ) (c n : ℕ) → text ≡ encode_utf8_all row ++ rest → IsUtf8 rest →
    rest ≡ encode_utf8 c ++ later → n ≡ length (encode_utf8_all row) → c ≡ 0x0A → IsCharBoundary text (n + 1)
boundary_after text row rest later c n parts utf8 next e lf =
    let width : length (encode_utf8 c) ≡ 1 = length-encode c ∙ len_utf8_ascii c (omega (arith, lf)) in
    let whole = ap length parts ∙ length-append (encode_utf8_all row) rest in
    let left = ap length next ∙ length-append (encode_utf8 c) later in
    let behind = after_line_end text row rest later c n parts next e lf in
    IsCharBoundary-from_drop text (n + 1) (omega (arith, whole, left, width, e))
    (subst IsUtf8 (sym behind) (IsUtf8-past_char rest later c utf8 next))

pub length_more : (row : List ℕ) (c : ℕ) →
    length (encode_utf8_all (row ++ c ∷ [])) ≡ length (encode_utf8_all row) + length (encode_utf8 c)
length_more row c =
    ap length
    (encodes-append row (c ∷ []) ∙ ap (λ (last : List ℕ). encode_utf8_all row ++ last) (append-nil (encode_utf8 c)))
    ∙ length-append (encode_utf8_all row) (encode_utf8 c)

shown_most : (width : Option ℕ) → shown_columns_or width ≤ 2
shown_most (Some n) = omega arith
shown_most None = omega arith

shown_columns-most : (c : ℕ) → shown_columns c ≤ 2
unfolding shown_columns
shown_columns-most c = shown_most (char_width false c)

added_most : (within : Bool) (c : ℕ) → columns_added within c ≤ 2
added_most true c = omega arith
added_most false c =
    cond_both (begins_stretch c) 0 (shown_columns c) (λ n. n ≤ 2) (λ _. omega arith) (λ _. shown_columns-most c)

within_bound : (width used added : ℕ) → is_beyond width used added ≡ false →
    used ≤ width + 2 → added ≤ 2 → used + added ≤ width + 2
within_bound width used added fits low most = grind (arith, nat_tests)

-- A row that is at most two columns wider than the given width stays so when a character that doesn't overflow it is
-- added.
pub bound_kept : (width : ℕ) (row : List ℕ) (c : ℕ) → overflows width row c ≡ false →
    columns_in row ≤ width + 2 → columns_in (row ++ c ∷ []) ≤ width + 2
bound_kept width row c fits low =
    rw (columns_in-more row c)
    (within_bound width (columns_in row) (columns_added (ends_within row) c) fits low (added_most (ends_within row) c))

-- ==== A capture has exactly one list of pieces.

has_text : (text : List ℕ) → text ≢ [] → 0 < length text
has_text [] some = absurd (some refl)
has_text (b ∷ text) some = omega arith

begins_in : (capture : List ℕ) (piece : Piece) → IsPieceOf capture piece →
    (0 < length piece.1) × (piece_end piece ≤ length capture)
begins_in capture piece is =
    let some = has_text piece.1 is.0 in
    let cut = length-take (length piece.1) (drop piece.0 capture) in
    let same = ap length is.1 in
    let left = length-drop piece.0 capture in
    (some, omega (arith, some, cut, same, left))

not_later : (capture : List ℕ) (at k : ℕ) (pieces : List Piece) →
    AreApart capture at pieces → IsInSome k pieces → at ≤ k
not_later capture at k [] apart h = absurd h
not_later capture at k (piece ∷ pieces) apart (inl h) = omega (arith, apart.1, h.0)
not_later capture at k (piece ∷ pieces) apart (inr h) =
    omega (arith, apart.1, not_later capture (piece_end piece + 1) k pieces apart.2 h)

-- Both lists of pieces contain the same bytes from byte `at` on.
abbrev Agree : List ℕ → ℕ → List Piece → List Piece → Type 0
Agree capture at ps qs = (k : ℕ) → at ≤ k → k < length capture → IsInSome k ps ↔ IsInSome k qs

turned : (capture : List ℕ) (at : ℕ) (ps qs : List Piece) → Agree capture at ps qs → Agree capture at qs ps
turned capture at ps qs agree k low lt = ((agree k low lt).1, (agree k low lt).0)

module _ (capture : List ℕ) (at : ℕ) (p : Piece) (ps : List Piece) (q : Piece) (qs : List Piece)
    (mine : AreApart capture at (p ∷ ps)) (yours : AreApart capture at (q ∷ qs))
    (agree : Agree capture at (p ∷ ps) (q ∷ qs)) where
  first_byte : q.0 ≤ p.0
  first_byte =
      let inside = begins_in capture p mine.0 in
      let there = (agree p.0 mine.1 (omega (arith, inside))).0 (inl (omega arith, omega (arith, inside))) in
      not_later capture q.0 p.0 (q ∷ qs) (yours.0, omega arith, yours.2) there

  -- Pieces that begin at the same byte cannot differ in length: the byte after the shorter one would be in no piece.
  no_shorter : p.0 ≡ q.0 → piece_end p < piece_end q → ⊥
  no_shorter same less =
      let mine_in = begins_in capture p mine.0 in
      let yours_in = begins_in capture q yours.0 in
      behind ((agree (piece_end p) (omega (arith, mine.1, mine_in)) (omega (arith, less, yours_in))).1
      (inl (omega (arith, same, mine_in), less))) where
        behind : IsInSome (piece_end p) (p ∷ ps) → ⊥
        behind (inl h) = omega (arith, h.1)
        behind (inr h) = omega (arith, not_later capture (piece_end p + 1) (piece_end p) ps mine.2 h)

  others : p ≡ q → Agree capture (piece_end p + 1) ps qs
  others same k low lt =
      let mine_in = begins_in capture p mine.0 in
      let both = agree k (omega (arith, mine.1, mine_in, low)) lt in
      (λ h. behind q qs (rw same at low) (both.0 (inr h)), λ h. behind p ps low (both.1 (inr h))) where
        behind : (r : Piece) (rs : List Piece) → piece_end r + 1 ≤ k → IsInSome k (r ∷ rs) → IsInSome k rs
        behind r rs past (inl h) = absurd (omega (arith, h.1, past))
        behind r rs past (inr h) = h

same_pieces : (capture : List ℕ) (at : ℕ) (ps qs : List Piece) →
    AreApart capture at ps → AreApart capture at qs → Agree capture at ps qs → ps ≡ qs
same_pieces capture at [] [] mine yours agree = refl
same_pieces capture at [] (q ∷ qs) mine yours agree =
    let inside = begins_in capture q yours.0 in
    absurd ((agree q.0 yours.1 (omega (arith, inside))).1 (inl (omega arith, omega (arith, inside))))
same_pieces capture at (p ∷ ps) [] mine yours agree =
    let inside = begins_in capture p mine.0 in
    absurd ((agree p.0 mine.1 (omega (arith, inside))).0 (inl (omega arith, omega (arith, inside))))
same_pieces capture at (p ∷ ps) (q ∷ qs) mine yours agree =
    let back = turned capture at (p ∷ ps) (q ∷ qs) agree in
    let low = first_byte capture at p ps q qs mine yours agree in
    let high = first_byte capture at q qs p ps yours mine back in
    let begin : p.0 ≡ q.0 = omega (arith, low, high) in
    let more = no_shorter capture at p ps q qs mine yours agree begin in
    let less = no_shorter capture at q qs p ps yours mine back (sym begin) in
    let long : length p.1 ≡ length q.1 = omega (arith, more, less, begin) in
    let text : p.1 ≡ q.1 = sym mine.0.1 ∙ ap₂ (λ n m. take n (drop m capture)) long begin ∙ yours.0.1 in
    let same : p ≡ q = ap₂ (λ n t. (n, t)) begin text in
    let end : piece_end q + 1 ≡ piece_end p + 1 = omega (arith, begin, long) in
    ap₂ (λ r rs. r ∷ rs) same (same_pieces capture (piece_end p + 1) ps qs mine.2
    (rw end at yours.2) (others capture at p ps q qs mine yours agree same))

pub pieces_are_one : (capture : List ℕ) (ps qs : List Piece) → ArePiecesOf capture ps → ArePiecesOf capture qs → ps ≡ qs
pieces_are_one capture ps qs mine yours =
    same_pieces capture 0 ps qs mine.apart yours.apart
    (λ k low lt. (λ h. (yours.plain k lt).1 ((mine.plain k lt).0 h), λ h. (mine.plain k lt).1 ((yours.plain k lt).0 h)))
