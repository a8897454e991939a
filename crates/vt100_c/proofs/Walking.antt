-- Reading a capture call by call reads all of it.
use Rattle.std.proofs.Common.{◌≡◌, ◌≢◌, ◌⊎◌, ◌↔◌, inl, inr, ℕ, ◌+◌, ◌-◌, ◌<◌, ◌≤◌, List, [], ◌∷◌, map}
use Rattle.std.proofs.Common.{length, take, drop, get_or, refl, sym, ap, ap₂, subst, ◌∙◌, arith}
use Rattle.std.proofs.lemmas.List.{drop-drop, get_or-drop, length-drop, length-take}
use Rattle.std.proofs.lemmas.Str.{IsUtf8-drop}
use Rattle.vt_rows.specs.CaptureRows.{AreRowsFrom, AreRowsOf, IsAfterEnd, IsAfterFull, IsRowOf, ends_row}
use Rattle.vt_rows.specs.Pieces.{AreApart, ArePiecesOf, IsInSome, IsPieceOf, Piece, piece_end}
use Rattle.vt_rows.specs.Stretches.{IsInStretch}
use Rattle.vt_rows.proofs.CutRows.{rows_are_one}
use Rattle.vt_rows.proofs.CaptureRows.{pieces_are_one}
use Rattle.std.specs.Prelude.{chars}
use Rattle.vt100_c.specs.Walking.{IsFirstPiece, IsFirstRow, IsPlace, no_place, ArePlacesOfPieces, ArePlacesOfRows}
use Rattle.vt100_c.specs.Walking.{FindAllPlain, FindAllRows, FindsRow, place_from}

-- The slice, with its index counted from byte n of the text.
abbrev back : ℕ → Piece → Piece
back n piece = (piece.0 - n, piece.1)

slice_back : (capture : List ℕ) (n at : ℕ) (text : List ℕ) → n ≤ at → take (length text) (drop at capture) ≡ text →
    take (length text) (drop (at - n) (drop n capture)) ≡ text
slice_back capture n at text le is =
    ap (take (length text)) (drop-drop (at - n) n capture
    ∙ ap (λ (m : ℕ). drop m capture) (same le)) ∙ is where
      same : n ≤ at → n + (at - n) ≡ at
      same h = omega (arith, h)

-- ---- places

place_back : (at n : ℕ) (piece : Piece) → n ≤ piece.0 → place_from (at + n) (back n piece) ≡ place_from at piece
place_back at n piece le = ap₂ (λ (a b : ℕ). (a, b)) (begin le) (end le) where
  begin : n ≤ piece.0 → at + n + (piece.0 - n) ≡ at + piece.0
  begin h = omega (arith, h)

  end : n ≤ piece.0 → at + n + (piece.0 - n + length piece.1) ≡ at + (piece.0 + length piece.1)
  end h = omega (arith, h)

places_back : (at n low : ℕ) (capture : List ℕ) (pieces : List Piece) → n ≤ low → AreApart capture low pieces →
    map (place_from (at + n)) (map (back n) pieces) ≡ map (place_from at) pieces
places_back at n low capture [] le apart = refl
places_back at n low capture (piece ∷ pieces) le apart =
    ap₂ (λ (place : ℕ × ℕ) (places : List (ℕ × ℕ)). place ∷ places)
    (place_back at n piece (omega (arith, le, apart.1)))
    (places_back at n (piece_end piece + 1) capture pieces (omega (arith, le, apart.1)) apart.2)

-- ---- pieces

apart_back : (capture : List ℕ) (n low : ℕ) (pieces : List Piece) → n ≤ low → AreApart capture low pieces →
    AreApart (drop n capture) (low - n) (map (back n) pieces)
apart_back capture n low [] le apart = tt
apart_back capture n low (piece ∷ pieces) le apart =
    let inside : n ≤ piece.0 = omega (arith, le, apart.1) in
    let next = apart_back capture n (piece_end piece + 1) pieces (omega (arith, inside)) apart.2 in (
      (apart.0.0, slice_back capture n piece.0 piece.1 inside apart.0.1),
      omega (arith, le, apart.1),
      subst (λ (m : ℕ). AreApart (drop n capture) m (map (back n) pieces)) (same inside) next,
    ) where
      same : n ≤ piece.0 → piece_end piece + 1 - n ≡ piece_end (back n piece) + 1
      same h = omega (arith, h)

in_some_back : (capture : List ℕ) (n low k : ℕ) (pieces : List Piece) → n ≤ low → AreApart capture low pieces →
    IsInSome k (map (back n) pieces) ↔ IsInSome (n + k) pieces
in_some_back capture n low k [] le apart = (λ h. h, λ h. h)
in_some_back capture n low k (piece ∷ pieces) le apart =
    let inside : n ≤ piece.0 = omega (arith, le, apart.1) in
    let rest = in_some_back capture n (piece_end piece + 1) k pieces (omega (arith, inside)) apart.2 in
    (there inside rest.0, here inside rest.1) where
      there : n ≤ piece.0 → (IsInSome k (map (back n) pieces) → IsInSome (n + k) pieces) →
          IsInSome k (map (back n) (piece ∷ pieces)) → IsInSome (n + k) (piece ∷ pieces)
      there le rest (inl h) = inl (omega (arith, le, h.0), omega (arith, le, h.1))
      there le rest (inr h) = inr (rest h)

      here : n ≤ piece.0 → (IsInSome (n + k) pieces → IsInSome k (map (back n) pieces)) →
          IsInSome (n + k) (piece ∷ pieces) → IsInSome k (map (back n) (piece ∷ pieces))
      here le rest (inl h) = inl (omega (arith, le, h.0), omega (arith, le, h.1))
      here le rest (inr h) = inr (rest h)

-- If the byte before index n is in no SGR sequence, the SGR sequences after it are those of the remaining text.
stretch_back : (capture : List ℕ) (n k : ℕ) → 0 < n → ¬ (IsInStretch capture (n - 1)) →
    IsInStretch (drop n capture) k ↔ IsInStretch capture (n + k)
stretch_back capture n k some free = (there, here) where
  there : IsInStretch (drop n capture) k → IsInStretch capture (n + k)
  there (i, le, esc, none) = (
    n + i,
    omega (arith, le),
    sym (get_or-drop n capture i 0) ∙ esc,
    λ j low high. subst (λ (b : ℕ). b ≢ 0x6D) (get_or-drop n capture (j - n) 0 ∙ ap (λ (m : ℕ). get_or capture m 0) (same j low))
        (none (j - n) (omega (arith, low)) (omega (arith, low, high))),
  ) where
    same : (j : ℕ) → n + i ≤ j → n + (j - n) ≡ j
    same j low = omega (arith, low)

  early : (i : ℕ) → i < n → get_or capture i 0 ≡ 0x1B → ((j : ℕ) → i ≤ j → j < n + k → get_or capture j 0 ≢ 0x6D) → ⊥
  early i lt esc none = free (i, omega (arith, lt), esc, λ j low high. none j low (omega (arith, high, some)))

  late : (i : ℕ) → n ≤ i → i ≤ n + k → get_or capture i 0 ≡ 0x1B
      → ((j : ℕ) → i ≤ j → j < n + k → get_or capture j 0 ≢ 0x6D) → IsInStretch (drop n capture) k
  late i le inside esc none = (
    i - n,
    omega (arith, le, inside),
    get_or-drop n capture (i - n) 0 ∙ (ap (λ (m : ℕ). get_or capture m 0) (same le) ∙ esc),
    λ j low high. subst (λ (b : ℕ). b ≢ 0x6D) (sym (get_or-drop n capture j 0))
        (none (n + j) (omega (arith, le, low)) (omega (arith, high))),
  ) where
    same : n ≤ i → n + (i - n) ≡ i
    same h = omega (arith, h)

  here : IsInStretch capture (n + k) → IsInStretch (drop n capture) k
  here (i, le, esc, none) = by_order (compare i) where
    compare : (m : ℕ) → (m < n) ⊎ (n ≤ m)
    compare m = grind arith

    by_order : (i < n) ⊎ (n ≤ i) → IsInStretch (drop n capture) k
    by_order (inl lt) = absurd (early i lt esc none)
    by_order (inr ge) = late i ge le esc none

has_text : (text : List ℕ) → text ≢ [] → 0 < length text
has_text [] some = absurd (some refl)
has_text (b ∷ text) some = omega arith

ends_inside : (capture : List ℕ) (piece : Piece) → IsPieceOf capture piece → piece_end piece ≤ length capture
ends_inside capture piece is =
    let some = has_text piece.1 is.0 in
    let cut = length-take (length piece.1) (drop piece.0 capture) in
    let same = ap length is.1 in
    let left = length-drop piece.0 capture in
    omega (arith, some, cut, same, left)

-- The pieces of a capture after its first piece are the pieces of the remaining capture.
rest_pieces : (capture : List ℕ) (piece : Piece) (pieces : List Piece) → ArePiecesOf capture (piece ∷ pieces) →
    ArePiecesOf (drop (piece_end piece) capture) (map (back (piece_end piece)) pieces)
rest_pieces capture piece pieces are =
    let n = piece_end piece in
    let some = has_text piece.1 are.apart.0.0 in
    let inside : n ≤ length capture = ends_inside capture piece are.apart.0 in
    let free : ¬ (IsInStretch capture (n - 1)) =
    (are.plain (n - 1) (omega (arith, some, inside))).0 (inl (omega (arith, some), omega (arith, some))) in
    let apart : AreApart (drop n capture) (n + 1 - n) (map (back n) pieces) =
    apart_back capture n (n + 1) pieces (omega arith) are.apart.2 in
    record {
      apart = lower (drop n capture) (n + 1 - n) (map (back n) pieces) apart;
      plain = λ k lt.
          let some_back = in_some_back capture n (n + 1) k pieces (omega arith) are.apart.2 in
          let stretches = stretch_back capture n k (omega (arith, some)) free in
          let both = are.plain (n + k) (omega (arith, lt, length-drop n capture)) in (
            λ h s. both.0 (inr (some_back.0 h)) (stretches.0 s),
            λ out. some_back.1 (later k (both.1 (λ s. out (stretches.1 s)))),
          );
    } where
      lower : (text : List ℕ) (low : ℕ) (pieces : List Piece) → AreApart text low pieces → AreApart text 0 pieces
      lower text low [] apart = tt
      lower text low (p ∷ ps) apart = (apart.0, omega arith, apart.2)

      later : (k : ℕ) → IsInSome (piece_end piece + k) (piece ∷ pieces) → IsInSome (piece_end piece + k) pieces
      later k (inl h) = absurd (omega (arith, h.1))
      later k (inr h) = h

all_pieces : (text : List ℕ) (at : ℕ) (pieces : List Piece) (places : List (ℕ × ℕ)) → at ≤ length text →
    ArePiecesOf (drop at text) pieces → FindAllPlain text at places → map (place_from at) pieces ≡ places
all_pieces text at [] [] le are finds = refl
all_pieces text at (piece ∷ pieces) [] le are finds =
    let first = subst (λ (ps : List Piece). IsFirstPiece (length text) at ps (length text) (length text))
    (pieces_are_one (drop at text) finds.0 (piece ∷ pieces) finds.1 are) finds.2 in
    let fits = ends_inside (drop at text) piece are.apart.0 in
    absurd (omega (arith, first.0, has_text piece.1 are.apart.0.0, fits, length-drop at text, le))
all_pieces text at [] (place ∷ places) le are finds =
    let first = subst (λ (ps : List Piece). IsFirstPiece (length text) at ps place.0 place.1)
    (pieces_are_one (drop at text) finds.1.0 [] finds.1.1 are) finds.1.2 in
    absurd (omega (arith, first.0, finds.0))
all_pieces text at (piece ∷ pieces) (place ∷ places) le are finds =
    let first = subst (λ (ps : List Piece). IsFirstPiece (length text) at ps place.0 place.1)
    (pieces_are_one (drop at text) finds.1.0 (piece ∷ pieces) finds.1.1 are) finds.1.2 in
    let n = piece_end piece in
    let fits = ends_inside (drop at text) piece are.apart.0 in
    let inside : at + n ≤ length text = omega (arith, fits, length-drop at text, le) in
    let rest : ArePiecesOf (drop (at + n) text) (map (back n) pieces) =
    subst (λ (xs : List ℕ). ArePiecesOf xs (map (back n) pieces)) (drop-drop n at text)
    (rest_pieces (drop at text) piece pieces are) in
    let same = all_pieces text (at + n) (map (back n) pieces) places inside rest
    (subst (λ (m : ℕ). FindAllPlain text m places) first.1 finds.2) in
    ap₂ (λ (x : ℕ × ℕ) (xs : List (ℕ × ℕ)). x ∷ xs)
    (ap₂ (λ (a b : ℕ). (a, b)) (sym first.0) (sym first.1))
    (sym (places_back at n (n + 1) (drop at text) pieces (omega arith) are.apart.2) ∙ same)

-- ---- rows

row_back : (width : ℕ) (capture : List ℕ) (n : ℕ) (row : Piece) → n ≤ row.0 → IsRowOf width capture row →
    IsRowOf width (drop n capture) (back n row)
row_back width capture n row le is =
    record { slice = slice_back capture n row.0 row.1 le is.slice; utf8 = is.utf8; uncut = is.uncut }

after_back : (width : ℕ) (capture : List ℕ) (n : ℕ) (row next : Piece) → n ≤ row.0 →
    IsAfterEnd capture row next ⊎ IsAfterFull width row next →
    IsAfterEnd (drop n capture) (back n row) (back n next) ⊎ IsAfterFull width (back n row) (back n next)
after_back width capture n row next le (inl end) = inl (record {
  place = omega (arith, le, end.place);
  ends =
      ap (λ (b : ℕ). ends_row (chars row.1) b)
      (get_or-drop n capture (piece_end (back n row)) 0 ∙ ap (λ (m : ℕ). get_or capture m 0) (same le))
      ∙ end.ends;
}) where
  same : n ≤ row.0 → n + piece_end (back n row) ≡ piece_end row
  same h = omega (arith, h)
after_back width capture n row next le (inr full) = inr (record {
  place = omega (arith, le, full.place);
  first = full.first;
  rest = full.rest;
  begins = full.begins;
  overflows = full.overflows;
})

later_place : (width : ℕ) (capture : List ℕ) (row next : Piece) →
    IsAfterEnd capture row next ⊎ IsAfterFull width row next → row.0 ≤ next.0
later_place width capture row next (inl end) = omega (arith, end.place)
later_place width capture row next (inr full) = omega (arith, full.place)

-- The rows of a capture from a row on are the rows of the remaining capture.
rest_rows : (width : ℕ) (capture : List ℕ) (n at : ℕ) (rows : List Piece) → n ≤ at → AreRowsFrom width capture at rows →
    AreRowsFrom width (drop n capture) (at - n) (map (back n) rows)
rest_rows width capture n at [] le are = absurd are
rest_rows width capture n at (row ∷ []) le are = (
  ap (λ (m : ℕ). m - n) are.0,
  row_back width capture n row (omega (arith, le, are.0)) are.1,
  omega (arith, le, are.0, are.2, length-drop n capture),
)
rest_rows width capture n at (row ∷ next ∷ rows) le are =
    let inside : n ≤ row.0 = omega (arith, le, are.0) in (
      ap (λ (m : ℕ). m - n) are.0,
      row_back width capture n row inside are.1,
      after_back width capture n row next inside are.2,
      rest_rows width capture n next.0 (next ∷ rows)
          (omega (arith, inside, later_place width capture row next are.2)) are.3,
    )

begins_inside : (width : ℕ) (capture : List ℕ) (at : ℕ) (rows : List Piece) → AreRowsFrom width capture at rows →
    at ≤ length capture
begins_inside width capture at [] are = absurd are
begins_inside width capture at (row ∷ []) are = omega (arith, are.0, are.2)
begins_inside width capture at (row ∷ next ∷ rows) are =
    omega (arith, are.0, later_place width capture row next are.2, begins_inside width capture next.0 (next ∷ rows) are.3)

row_places_back : (width : ℕ) (capture : List ℕ) (at n from : ℕ) (rows : List Piece) → n ≤ from →
    AreRowsFrom width capture from rows → map (place_from (at + n)) (map (back n) rows) ≡ map (place_from at) rows
row_places_back width capture at n from [] le are = refl
row_places_back width capture at n from (row ∷ []) le are =
    ap (λ (place : ℕ × ℕ). place ∷ []) (place_back at n row (omega (arith, le, are.0)))
row_places_back width capture at n from (row ∷ next ∷ rows) le are =
    ap₂ (λ (place : ℕ × ℕ) (places : List (ℕ × ℕ)). place ∷ places) (place_back at n row (omega (arith, le, are.0)))
    (row_places_back width capture at n next.0 (next ∷ rows)
    (omega (arith, le, are.0, later_place width capture row next are.2)) are.3)

-- A call at the beginning of a row finds that row, because a capture has only one list of rows.
module _ (text : List ℕ) (width at : ℕ) (rows : List Piece) (are : AreRowsOf width (drop at text) rows) where
  same_row : IsPlace text at → (end next : ℕ) → FindsRow text width at end next → IsFirstRow at rows end next
  same_row place end next finds =
      subst (λ (rs : List Piece). IsFirstRow at rs end next)
      (rows_are_one width (drop at text) finds.0 rows (IsUtf8-drop text at place.0 place.1) finds.1 are) finds.2

all_rows : (text : List ℕ) (width at : ℕ) (rows : List Piece) (places : List (ℕ × ℕ)) → length text < no_place
    → at ≤ length text → AreRowsOf width (drop at text) rows → FindAllRows text width at places
    → map (place_from at) rows ≡ places
all_rows text width at [] places few le are finds = absurd are
all_rows text width at rows [] few le are finds = absurd finds
all_rows text width at (row ∷ []) (place ∷ []) few le are finds =
    let first = same_row text width at (row ∷ []) are finds.1 place.1 no_place finds.2 in
    ap (λ (p : ℕ × ℕ). p ∷ [])
    (ap₂ (λ (a b : ℕ). (a, b)) (omega (arith, are.0, finds.0)) (sym first.0))
all_rows text width at (row ∷ next ∷ rows) (place ∷ []) few le are finds =
    let first = same_row text width at (row ∷ next ∷ rows) are finds.1 place.1 no_place finds.2 in
    absurd (omega (
      arith,
      first.1,
      few,
      le,
      length-drop at text,
      begins_inside width (drop at text) next.0 (next ∷ rows) are.3,
    ))
all_rows text width at (row ∷ []) (place ∷ second ∷ places) few le are finds =
    let first = same_row text width at (row ∷ []) are finds.1 place.1 second.0 finds.3 in
    absurd (finds.2 first.1)
all_rows text width at (row ∷ next ∷ rows) (place ∷ second ∷ places) few le are finds =
    let first = same_row text width at (row ∷ next ∷ rows) are finds.1 place.1 second.0 finds.3 in
    let inside = begins_inside width (drop at text) next.0 (next ∷ rows) are.3 in
    let n = next.0 in
    let rest : AreRowsFrom width (drop n (drop at text)) (n - n) (map (back n) (next ∷ rows)) =
    rest_rows width (drop at text) n n (next ∷ rows) (omega arith) are.3 in
    let moved : AreRowsOf width (drop (at + n) text) (map (back n) (next ∷ rows)) =
    subst (λ (xs : List ℕ). AreRowsFrom width xs 0 (map (back n) (next ∷ rows))) (drop-drop n at text)
    (subst (λ (m : ℕ). AreRowsFrom width (drop n (drop at text)) m (map (back n) (next ∷ rows))) (none n) rest) in
    let same = all_rows text width (at + n) (map (back n) (next ∷ rows)) (second ∷ places) few
    (omega (arith, inside, le, length-drop at text)) moved
    (subst (λ (m : ℕ). FindAllRows text width m (second ∷ places)) first.1 finds.4) in
    ap₂ (λ (p : ℕ × ℕ) (ps : List (ℕ × ℕ)). p ∷ ps)
    (ap₂ (λ (a b : ℕ). (a, b)) (omega (arith, are.0, finds.0)) (sym first.0))
    (sym (row_places_back width (drop at text) at n n (next ∷ rows) (omega arith) are.3) ∙ same) where
      none : (n : ℕ) → n - n ≡ 0
      none n = omega arith

-- ---- whole captures

pub whole_pieces : (text : List ℕ) (places : List (ℕ × ℕ)) → FindAllPlain text 0 places → ArePlacesOfPieces text places
whole_pieces text [] finds =
    record { pieces = finds.0; are = finds.1; at = all_pieces text 0 finds.0 [] (omega arith) finds.1 finds }
whole_pieces text (place ∷ places) finds = record {
  pieces = finds.1.0;
  are = finds.1.1;
  at = all_pieces text 0 finds.1.0 (place ∷ places) (omega arith) finds.1.1 finds;
}

pub whole_rows : (text : List ℕ) (width : ℕ) (places : List (ℕ × ℕ)) → length text < no_place →
    FindAllRows text width 0 places → ArePlacesOfRows text width places
whole_rows text width [] few finds = absurd finds
whole_rows text width (place ∷ []) few finds = record {
  rows = finds.2.0;
  are = finds.2.1;
  at = all_rows text width 0 finds.2.0 (place ∷ []) few (omega arith) finds.2.1 finds;
}
whole_rows text width (place ∷ next ∷ places) few finds = record {
  rows = finds.3.0;
  are = finds.3.1;
  at = all_rows text width 0 finds.3.0 (place ∷ next ∷ places) few (omega arith) finds.3.1 finds;
}
