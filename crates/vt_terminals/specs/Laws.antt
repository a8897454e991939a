-- The laws that a terminal obeys. Each names the source that defines the control: ECMA-48, the VT510 manual, or xterm's
-- control sequences.
use Rattle.std.specs.Prelude.{◌≡◌, ◌≢◌, ◌⊎◌, ℕ, suc, ◌+◌, ◌-◌, ◌*◌, ◌<◌, ◌≤◌, min, Bool, true, false, List, [], ◌∷◌}
use Rattle.std.specs.Prelude.{Some, length, map}
use Rattle.std.specs.Char.{encode_utf8}
use Rattle.std.specs.List.{AllByRecursion}
use Rattle.vt_cells.specs.Attrs.{Attrs, default_attrs, same_attrs, changed_attrs}
use Rattle.vt_cells.specs.Cell.{CellValue, blank, glyph, right_half}
use Rattle.vt_cells.specs.Glyph.{IsMark, columns_of, glyph_columns}
use Rattle.vt_rows.specs.Cells.{at}
use Rattle.vt_redraw.specs.Certain.{is_certain}
use Rattle.vt_redraw.specs.Uses.{KeepsApart, change_intensities}
use Rattle.vt_terminals.specs.Element.{Character, Cup, Cr, Cuf, Bs, Lf, Ed, El, Ech, SgrReset, Sgr, Dectcem, Decsc}
use Rattle.vt_terminals.specs.Element.{Decrc}
use Rattle.vt_terminals.specs.Terminal.{ReadsAll, Terminal}

-- ==== Positions

-- Row `r`, column `c` is not one of the `n` columns of row `row` that start at column `first`.
abbrev pub Apart : (row first n r c : ℕ) → Type 0
Apart row first n r c = (r ≢ row) ⊎ ((c < first) ⊎ (first + n ≤ c))

-- Row `r`, column `c` is neither one of the `n` columns of row `row` that start at column `first`, nor beside them.
abbrev pub Away : (row first n r c : ℕ) → Type 0
Away row first n r c = (r ≢ row) ⊎ ((c + 1 < first) ⊎ (first + n < c))

-- Row `r`, column `c` is not one of those that change on some terminal if a glyph is printed at row `row`, column
-- `first`, that takes at most `n` columns, widens the glyph before it or joins it.
abbrev pub Beyond : (row first n r c : ℕ) → Type 0
Beyond row first n r c = (r ≢ row) ⊎ ((c + 2 < first) ⊎ (first + n < c))

-- ==== What stays the same from state `s` to state `t`

-- All cells.
pub record SameCells (T : Terminal) (s t : T.State) : Type 0 where
  pub shows : (r c : ℕ) (x : CellValue) → T.Shows s r c x → T.Shows t r c x
  pub begins : (r c : ℕ) → T.Begins s r c → T.Begins t r c

-- The cursor's position, and whether a wrap is pending.
pub record SameCursor (T : Terminal) (s t : T.State) : Type 0 where
  pub at : (r c : ℕ) → T.IsAt s r c → T.IsAt t r c
  pub pending : (r : ℕ) → T.IsPending s r → T.IsPending t r
  pub ended : (r : ℕ) → T.IsAtEnd s r → T.IsAtEnd t r

-- The attributes, the cursor's visibility, and the saved cursor.
pub record SameModes (T : Terminal) (s t : T.State) : Type 0 where
  pub attrs : (a : Attrs) → T.HasAttrs s a → T.HasAttrs t a
  pub hides : (hidden : Bool) → T.Hides s hidden → T.Hides t hidden
  pub saved : (r : ℕ) (a : Attrs) → T.HasSaved s r a → T.HasSaved t r a

-- ==== What elements do

-- At most the cursor's position changed.
pub record Moved (T : Terminal) (s t : T.State) : Type 0 where
  pub cells : SameCells T s t
  pub modes : SameModes T s t

-- The `n` columns of row `r` that start at column `c` were replaced. A cell beside them changes only if it belongs to a
-- wide glyph that was cut in two.
pub record Replaced (T : Terminal) (r c n : ℕ) (s t : T.State) : Type 0 where
  pub others : (i k : ℕ) (x : CellValue) → Away r c n i k → T.Shows s i k x → T.Shows t i k x
  pub before : (k : ℕ) (x : CellValue) → k + 1 ≡ c → T.Begins s r c → T.Shows s r k x → T.Shows t r k x
  pub next : (x : CellValue) → T.Begins s r (c + n) → T.Shows s r (c + n) x → T.Shows t r (c + n) x
  pub begins : (i k : ℕ) → Apart r (c + 1) (n - 1) i k → T.Begins s i k → T.Begins t i k
  pub modes : SameModes T s t

-- The cells of a glyph, which is wide or narrow.
abbrev pub glyph_cells : (text : List ℕ) → (wide : Bool) → Attrs → List CellValue
glyph_cells text true a = glyph text true a ∷ right_half ∷ []
glyph_cells text false a = glyph text false a ∷ []

-- A glyph of `n` columns was printed at row `r`, column `c`. If a wide glyph covered the first of them and the column
-- before it, nothing is known of what this column then displays. What is left of a wide glyph after the last of them
-- takes one column.
pub record Printed (T : Terminal) (r c n : ℕ) (cells : List CellValue) (s t : T.State) : Type 0 where
  pub new : (k : ℕ) → k < n → (k ≡ 0 → T.Begins s r c) → T.Shows t r (c + k) (at cells k)
  pub end : T.Begins t r (c + n)
  pub at : c + n < T.width → T.IsAt t r (c + n)
  pub pending : c + n ≡ T.width → T.IsPending t r
  pub rest : Replaced T r c n s t

-- The `n` columns of row `r` that start at column `c` were erased with the attributes `a`. Where this cut a wide glyph
-- in two, nothing is known of its halves.
pub record Erased (T : Terminal) (r c n : ℕ) (a : Attrs) (s t : T.State) : Type 0 where
  pub blanks : (k : ℕ) → c ≤ k → k < c + n → (k ≡ c → T.Begins s r c) →
      (k + 1 ≡ c + n → c + n < T.width → T.Begins s r (c + n)) → T.Shows t r k (blank a)
  pub within : (k : ℕ) → c < k → k < c + n → T.Begins t r k
  pub cursor : SameCursor T s t
  pub rest : Replaced T r c n s t

-- The number of columns that the characters of a glyph take at most on any terminal.
abbrev pub stray_columns : List ℕ → ℕ
stray_columns cs = 2 * length cs

-- The characters are those of one glyph: a character that takes columns, followed by combining characters.
abbrev pub IsOneGlyph : List ℕ → Type 0
IsOneGlyph [] = ⊥
IsOneGlyph (c ∷ cs) = ((wide : Bool) × (columns_of c ≡ Some (glyph_columns wide))) × AllByRecursion IsMark cs

-- A glyph on whose width terminals may disagree was printed at row `r`, column `c`, and takes at most `n` columns.
-- Nothing is known of the cursor.
pub record Strayed (T : Terminal) (r c n : ℕ) (s t : T.State) : Type 0 where
  pub shows : (i k : ℕ) (x : CellValue) → Beyond r c n i k → T.Shows s i k x → T.Shows t i k x
  pub begins : (i k : ℕ) → (i ≢ r) ⊎ ((k + 1 < c) ⊎ (c + n < k)) → T.Begins s i k → T.Begins t i k
  pub modes : SameModes T s t

-- ==== The laws

pub record Laws (T : Terminal) : Type 0 where
  -- A character on whose width terminals agree is printed at the cursor, if the row has room for it (ECMA-48, 5.1).
  pub prints : (s t : T.State) (r c ch : ℕ) (wide : Bool) (a : Attrs) → r < T.height →
      c + glyph_columns wide ≤ T.width → is_certain ch ≡ true → columns_of ch ≡ Some (glyph_columns wide) →
      T.IsAt s r c → T.HasAttrs s a → T.Reads (Character ch) s t →
      Printed T r c (glyph_columns wide) (glyph_cells (encode_utf8 ch) wide a) s t
  -- The characters of any glyph change only columns near the cursor, if the row has room for all that they may take:
  -- two for each character (UAX #11).
  pub strays : (s t : T.State) (r c : ℕ) (cs : List ℕ) → IsOneGlyph cs → r < T.height → c + stray_columns cs < T.width →
      T.IsAt s r c → ReadsAll T (map Character cs) s t → Strayed T r c (stray_columns cs) s t
  -- While a wrap is pending, such a character is printed at the beginning of the next row (VT510 manual, DECAWM).
  pub wraps : (s t : T.State) (r ch : ℕ) (wide : Bool) (a : Attrs) → r + 1 < T.height → glyph_columns wide ≤ T.width →
      is_certain ch ≡ true → columns_of ch ≡ Some (glyph_columns wide) → T.IsPending s r → T.HasAttrs s a →
      T.Reads (Character ch) s t →
      Printed T (r + 1) 0 (glyph_columns wide) (glyph_cells (encode_utf8 ch) wide a) s t
  -- CUP moves the cursor to a position, or to the nearest one on the screen, from any position (ECMA-48, 8.3.21).
  pub cup : (s t : T.State) (r c : ℕ) → T.Reads (Cup r c) s t →
      T.IsAt t (min r (T.height - 1)) (min c (T.width - 1)) × Moved T s t
  -- CR moves the cursor to the first column of its row, also from the end of the row (ECMA-48, 8.3.15).
  pub cr : (s t : T.State) (r : ℕ) → r < T.height → (((c : ℕ) × T.IsAt s r c) ⊎ T.IsAtEnd s r) →
      T.Reads Cr s t → T.IsAt t r 0 × Moved T s t
  -- CUF moves the cursor to the right, at most to the last column (ECMA-48, 8.3.20; VT510 manual, CUF).
  pub cuf : (s t : T.State) (r c n : ℕ) → r < T.height → c < T.width → T.IsAt s r c → T.Reads (Cuf (suc n)) s t →
      T.IsAt t r (min (c + suc n) (T.width - 1)) × Moved T s t
  -- BS moves the cursor to the left (ECMA-48, 8.3.5).
  pub bs : (s t : T.State) (r c : ℕ) → r < T.height → c < T.width → 0 < c → T.IsAt s r c → T.Reads Bs s t →
      T.IsAt t r (c - 1) × Moved T s t
  -- LF moves the cursor down and keeps its column (ECMA-48, 8.3.74).
  pub lf : (s t : T.State) (r c : ℕ) → r + 1 < T.height → T.IsAt s r c → T.Reads Lf s t →
      T.IsAt t (r + 1) c × Moved T s t
  -- LF at the end of a row moves the cursor to the end of the next one. It may or may not cancel a pending wrap.
  pub lf_end : (s t : T.State) (r : ℕ) → r + 1 < T.height → T.IsAtEnd s r → T.Reads Lf s t →
      T.IsAtEnd t (r + 1) × Moved T s t
  -- ED without a number, at the top left, erases the whole screen (ECMA-48, 8.3.39).
  pub ed : (s t : T.State) (a : Attrs) → T.IsAt s 0 0 → T.HasAttrs s a → T.Reads Ed s t →
      ((r c : ℕ) → r < T.height → c < T.width → T.Shows t r c (blank a)) × (SameCursor T s t × SameModes T s t)
  -- EL without a number erases the rest of the cursor's row (ECMA-48, 8.3.41).
  pub el : (s t : T.State) (r c : ℕ) (a : Attrs) → r < T.height → c < T.width → T.IsAt s r c → T.HasAttrs s a →
      T.Reads El s t → Erased T r c (T.width - c) a s t
  -- ECH erases columns of the cursor's row, from the cursor on (ECMA-48, 8.3.38).
  pub ech : (s t : T.State) (r c n : ℕ) (a : Attrs) → r < T.height → c < T.width → T.IsAt s r c → T.HasAttrs s a →
      T.Reads (Ech (suc n)) s t → Erased T r c (min (suc n) (T.width - c)) a s t
  -- SGR without a number resets the attributes, whatever they were (ECMA-48, 8.3.117).
  pub reset : (s t : T.State) → T.Reads SgrReset s t → T.HasAttrs t default_attrs × (SameCells T s t
      × (SameCursor T s t × ((hidden : Bool) → T.Hides s hidden → T.Hides t hidden)))
  -- SGR without a number keeps the saved cursor.
  pub reset_saved : (s t : T.State) (r : ℕ) (a : Attrs) → T.Reads SgrReset s t → T.HasSaved s r a → T.HasSaved t r a
  -- SGR changes the attributes, if it does not set bold while dim is set, or dim while bold is set (ECMA-48, 8.3.117;
  -- colors: xterm's control sequences).
  pub sgr : (s t : T.State) (was new a : Attrs) → same_attrs was new ≡ false → T.HasAttrs s a →
      KeepsApart a.intensity (change_intensities was new) → T.Reads (Sgr was new) s t →
      T.HasAttrs t (changed_attrs was new a) × (SameCells T s t
      × (SameCursor T s t × ((hidden : Bool) → T.Hides s hidden → T.Hides t hidden)))
  -- SGR keeps the saved cursor.
  pub sgr_saved : (s t : T.State) (was new : Attrs) (r : ℕ) (a : Attrs) → T.Reads (Sgr was new) s t →
      T.HasSaved s r a → T.HasSaved t r a
  -- DECTCEM shows or hides the cursor (VT510 manual, DECTCEM).
  pub dectcem : (s t : T.State) (hidden : Bool) → T.Reads (Dectcem hidden) s t →
      T.Hides t hidden × (SameCells T s t × (SameCursor T s t × (((a : Attrs) → T.HasAttrs s a → T.HasAttrs t a)
      × ((r : ℕ) (a : Attrs) → T.HasSaved s r a → T.HasSaved t r a))))
  -- DECSC at the end of a row saves the cursor and the attributes (VT510 manual, DECSC).
  pub decsc : (s t : T.State) (r : ℕ) (a : Attrs) → T.IsAtEnd s r → T.HasAttrs s a → T.Reads Decsc s t →
      T.HasSaved t r a
  -- DECSC changes nothing else.
  pub decsc_same : (s t : T.State) → T.Reads Decsc s t →
      SameCells T s t × (SameCursor T s t × (((a : Attrs) → T.HasAttrs s a → T.HasAttrs t a)
      × ((hidden : Bool) → T.Hides s hidden → T.Hides t hidden)))
  -- DECRC restores the saved cursor and attributes (VT510 manual, DECRC). It may or may not make a wrap pending.
  pub decrc : (s t : T.State) (r : ℕ) (a : Attrs) → T.HasSaved s r a → T.Reads Decrc s t →
      T.IsAtEnd t r × (T.HasAttrs t a × SameCells T s t)
  -- DECRC keeps the saved cursor and the cursor's visibility.
  pub decrc_same : (s t : T.State) → T.Reads Decrc s t →
      ((hidden : Bool) → T.Hides s hidden → T.Hides t hidden)
      × ((r : ℕ) (a : Attrs) → T.HasSaved s r a → T.HasSaved t r a)
  -- No wide glyph covers a blank.
  pub blank_begins : (s : T.State) (r c : ℕ) (a : Attrs) → T.Shows s r c (blank a) → T.Begins s r c
  -- While a wrap is pending, the cursor is at the end of its row.
  pub pending_ended : (s : T.State) (r : ℕ) → T.IsPending s r → T.IsAtEnd s r
