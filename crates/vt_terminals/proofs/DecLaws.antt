-- A terminal that differs from this project's model wherever real terminals do obeys the laws.
use Rattle.std.proofs.Common.{◌≡◌, ◌≢◌, ℕ, zero, suc, ◌+◌, ◌-◌, ◌<◌, ◌≤◌, ◌⊎◌, ◌&&◌, ◌||◌, ◌==◌, nat_lt, min, not, Bool}
use Rattle.std.proofs.Common.{true, false, List, [], ◌∷◌, refl, inl, inr, sym, ap, subst, ◌∙◌, Option, Some, None}
use Rattle.std.proofs.Common.{arith}
use Rattle.std.specs.Prelude.{if◌then◌else◌, nat_le, map}
use Rattle.std.specs.Char.{encode_utf8}
use Rattle.std.proofs.lemmas.Bool.{cases_eq, cases_Bool, eq-eqb, le-leb, le-ltb, lt-ltb}
use Rattle.vt_cells.specs.Attrs.{Attrs, changed_attrs, default_attrs, same_attrs, same_intensity}
use Rattle.vt_cells.specs.Glyph.{glyph_columns}
use Rattle.vt_cells.specs.declared.attrs.Intensity.{Intensity}
use Rattle.vt_cells.specs.declared.attrs.Intensity.TheVariants.{Normal, Bold, Dim}
use Rattle.vt_rows.specs.Cells.{at}
use Rattle.vt_redraw.specs.Uses.{KeepsApart, change_intensities, piles_up}
use Rattle.vt_terminals.specs.DecTerminal.{Style, style_of, Square, Empty, is_right, DecState, glyph_squares}
use Rattle.vt_terminals.specs.DecTerminal.{printed_at, down, dec_columns, printed_by, erased, bold_after, dim_after}
use Rattle.vt_terminals.specs.DecTerminal.{style_after, dec_after, dec_terminal}
use Rattle.vt_terminals.specs.Element.{Character, Ed}
use Rattle.vt_terminals.specs.Laws.{Apart, Away, Beyond, Laws, Moved, Replaced, SameCells, SameCursor, Strayed}
use Rattle.vt_terminals.specs.Laws.{glyph_cells, stray_columns}
use Rattle.vt_terminals.specs.Terminal.{ReadsAll}
use Rattle.vt_terminals.proofs.DecEdits.{same_modes, dec_replaced, some_columns, first_square, dec_prints, dec_wraps}
use Rattle.vt_terminals.proofs.DecEdits.{dec_erases}
use Rattle.vt_terminals.proofs.Printed.{printed_after_move}

-- ==== Characters on whose width terminals may disagree

strayed_same : (h w row first n : ℕ) (s : DecState) → Strayed (dec_terminal h w) row first n s s
strayed_same h w row first n s = record {
  shows = λ i k x far shown. shown;
  begins = λ i k far whole. whole;
  modes = record { attrs = λ a e. e; hides = λ b e. e; saved = λ r a e. e };
}

strayed_then : (h w row first n : ℕ) (s m t : DecState) → Strayed (dec_terminal h w) row first n s m →
    Strayed (dec_terminal h w) row first n m t →
    Strayed (dec_terminal h w) row first n s t
strayed_then h w row first n s m t one two = record {
  shows = λ i k x far shown. two.shows i k x far (one.shows i k x far shown);
  begins = λ i k far whole. two.begins i k far (one.begins i k far whole);
  modes = record {
    attrs = λ a e. two.modes.attrs a (one.modes.attrs a e);
    hides = λ b e. two.modes.hides b (one.modes.hides b e);
    saved = λ r a e. two.modes.saved r a (one.modes.saved r a e);
  };
}

strayed_from : (h w row first n c k : ℕ) (s t : DecState) → first ≤ c → c + k ≤ first + n → 0 < k →
    Replaced (dec_terminal h w) row c k s t → Strayed (dec_terminal h w) row first n s t
strayed_from h w row first n c k s t low high some rest = record {
  shows = λ i j x far shown. rest.others i j x (away i j far) shown;
  begins = λ i j far whole. rest.begins i j (apart i j far) whole;
  modes = rest.modes;
} where
  away : (i j : ℕ) → Beyond row first n i j → Away row c k i j
  away i j (inl ne) = inl ne
  away i j (inr (inl lt)) = inr (inl (omega (arith, lt, low)))
  away i j (inr (inr lt)) = inr (inr (omega (arith, lt, high)))

  apart : (i j : ℕ) → (i ≢ row) ⊎ ((j + 1 < first) ⊎ (first + n < j)) → Apart row (c + 1) (k - 1) i j
  apart i j (inl ne) = inl ne
  apart i j (inr (inl lt)) = inr (inl (omega (arith, lt, low)))
  apart i j (inr (inr lt)) = inr (inr (omega (arith, lt, high, some)))

-- What holds after one of the characters, when `left` columns may still be taken.
record Step (h w row first n left : ℕ) (s m : DecState) : Type 0 where
  strayed : Strayed (dec_terminal h w) row first n s m
  row_is : m.row ≡ row
  flag_is : m.flag ≡ false
  low : first ≤ m.column
  high : m.column + left ≤ first + n

step_none : (h w row first n left : ℕ) (s m : DecState) → s.row ≡ row → s.flag ≡ false → first ≤ s.column →
    s.column + (2 + left) ≤ first + n → s ≡ m → Step h w row first n left s m
step_none h w row first n left s m at flag low high e =
    subst (λ (q : DecState). Step h w row first n left s q) e
    (record {
      strayed = strayed_same h w row first n s;
      row_is = at;
      flag_is = flag;
      low = low;
      high = omega (arith, high);
    })

step_print : (h w row first n left ch : ℕ) (wide : Bool) (s m : DecState) → s.row ≡ row → s.flag ≡ false →
    first ≤ s.column →
    s.column + (2 + left) ≤ first + n → first + n < w → printed_at h w ch wide (if s.flag then down s else s) ≡ m →
    Step h w row first n left s m
step_print h w row first n left ch wide s m at flag low high inside reads =
    let k = glyph_columns wide in
    let two = most_columns wide in
    let some = some_columns wide in
    let is : printed_at h w ch wide s ≡ m =
    ap (λ (b : Bool). printed_at h w ch wide (if b then down s else s)) (sym flag) ∙ reads in
    let back = sym is in
    let room : nat_lt (s.column + k) w ≡ true = lt-ltb (s.column + k) w (omega (arith, high, inside, two)) in
    let column : m.column ≡ s.column + k =
    ap (λ (q : DecState). q.column) back ∙ ap (λ (b : Bool). if b then s.column + k else w - 1) room in
    let rest = dec_replaced h w s.row s.column k (glyph_squares (encode_utf8 ch) wide s.style) s m some
    (first_square (encode_utf8 ch) wide s.style) (ap (λ (q : DecState). q.squares) back)
    (same_modes h w s m (ap (λ (q : DecState). q.style) back) (ap (λ (q : DecState). q.hidden) back)
    (ap (λ (q : DecState). q.saved_row) back) (ap (λ (q : DecState). q.saved_column) back)
    (ap (λ (q : DecState). q.saved_style) back)) in
    record {
      strayed = strayed_from h w row first n s.column k s m low (omega (arith, high, two)) some
          (subst (λ (i : ℕ). Replaced (dec_terminal h w) i s.column k s m) at rest);
      row_is = ap (λ (q : DecState). q.row) back ∙ at;
      flag_is = ap (λ (q : DecState). q.flag) back ∙ ap not room;
      low = omega (arith, column, low);
      high = omega (arith, column, high, two);
    }
  where
    most_columns : (wide : Bool) → glyph_columns wide ≤ 2
    most_columns true = omega arith
    most_columns false = omega arith

step_by : (h w row first n left ch : ℕ) (o : Option ℕ) (s m : DecState) → s.row ≡ row → s.flag ≡ false →
    first ≤ s.column →
    s.column + (2 + left) ≤ first + n → first + n < w → printed_by h w ch o s ≡ m → Step h w row first n left s m
step_by h w row first n left ch None s m at flag low high inside reads =
    step_none h w row first n left s m at flag low high reads
step_by h w row first n left ch (Some zero) s m at flag low high inside reads =
    step_none h w row first n left s m at flag low high reads
step_by h w row first n left ch (Some (suc zero)) s m at flag low high inside reads =
    step_print h w row first n left ch false s m at flag low high inside reads
step_by h w row first n left ch (Some (suc (suc k))) s m at flag low high inside reads =
    step_print h w row first n left ch true s m at flag low high inside reads

dec_strays : (h w row first n : ℕ) (cs : List ℕ) (s t : DecState) → s.row ≡ row → s.flag ≡ false → first ≤ s.column →
    s.column + stray_columns cs ≤ first + n → first + n < w → ReadsAll (dec_terminal h w) (map Character cs) s t →
    Strayed (dec_terminal h w) row first n s t
dec_strays h w row first n [] s t at flag low high inside reads =
    subst (λ (q : DecState). Strayed (dec_terminal h w) row first n s q) reads (strayed_same h w row first n s)
dec_strays h w row first n (ch ∷ cs) s t at flag low high inside reads =
    let step = step_by h w row first n (stray_columns cs) ch (dec_columns ch) s reads.0 at flag low
    (omega (arith, high)) inside reads.1.0 in
    strayed_then h w row first n s reads.0 t step.strayed
    (dec_strays h w row first n cs reads.0 t step.row_is step.flag_is step.low step.high inside reads.1.1)

dec_ed : (h w : ℕ) (s t : DecState) (a : Attrs) → (s.row ≡ 0) × ((s.column ≡ 0) × (s.flag ≡ false)) →
    s.style ≡ style_of a →
    dec_after h w Ed s ≡ t → (r c : ℕ) → c < w → (c < w) × (t.squares r c ≡ Empty a.bgcolor)
dec_ed h w s t a place style reads r c inside = (
  inside,
  ap (λ (q : DecState). q.squares r c) (sym reads) ∙ (all (cases_eq r 0) ∙ ap (λ (z : Style). Empty z.bg) style),
) where
  pick : (b : Bool) → b ≡ true → (if b then Empty s.style.bg else s.squares r c) ≡ Empty s.style.bg
  pick true e = refl
  pick false e = absurd (cc)

  all : (r ≡ 0) ⊎ (r ≢ 0) →
      (if nat_lt s.row r || ((r == s.row) && nat_le s.column c) then Empty s.style.bg else s.squares r c)
      ≡ Empty s.style.bg
  all (inl e) =
      let row = place.0 in
      let column = place.1.0 in
      pick (nat_lt s.row r || ((r == s.row) && nat_le s.column c))
      (rw (
        eq-eqb r s.row (omega (arith, e, row)),
        le-leb s.column c (omega (arith, column)),
        le-ltb s.row r (omega (
          arith,
          e,
        )),
      ) refl)
  all (inr ne) =
      let row = place.0 in
      pick (nat_lt s.row r || ((r == s.row) && nat_le s.column c)) (rw (lt-ltb s.row r (omega (arith, ne, row))) refl)

-- ==== Attributes

switch : (s t : Bool) → (x y : Bool) → (if s then x else y) ≡ (if s then x else y)
switch s t x y = refl

bold_is : (same : Bool) (i new : Intensity) → (same ≡ false → piles_up i new ≡ false) →
    bold_after same new (same_intensity i Bold) ≡ same_intensity (if same then i else new) Bold
bold_is true i new h = refl
bold_is false i Normal h = refl
bold_is false i Bold h = refl
bold_is false Normal Dim h = refl
bold_is false Dim Dim h = refl
bold_is false Bold Dim h = let f = h refl in absurd (cc)

dim_is : (same : Bool) (i new : Intensity) → (same ≡ false → piles_up i new ≡ false) →
    dim_after same new (same_intensity i Dim) ≡ same_intensity (if same then i else new) Dim
dim_is true i new h = refl
dim_is false i Normal h = refl
dim_is false i Dim h = refl
dim_is false Normal Bold h = refl
dim_is false Bold Bold h = refl
dim_is false Dim Bold h = let f = h refl in absurd (cc)

apart_now : (was new a : Attrs) → same_attrs new default_attrs ≡ false →
    KeepsApart a.intensity (change_intensities was new) → same_intensity was.intensity new.intensity ≡ false →
    piles_up a.intensity new.intensity ≡ false
apart_now was new a other apart differ = (rw (other, differ) at apart).0

dec_sgr : (was new a : Attrs) → same_attrs was new ≡ false → KeepsApart a.intensity (change_intensities was new) →
    style_after was new (style_of a) ≡ style_of (changed_attrs was new a)
unfolding changed_attrs
dec_sgr was new a differ apart = by_default (cases_Bool (same_attrs new default_attrs)) where
  by_default : (same_attrs new default_attrs ≡ true) ⊎ (same_attrs new default_attrs ≡ false) →
      style_after was new (style_of a) ≡ style_of (changed_attrs was new a)
  by_default (inl e) = rw (differ, e) refl
  by_default (inr e) =
      rw (
        differ,
        e,
        bold_is (same_intensity was.intensity new.intensity) a.intensity new.intensity (apart_now was new a e apart),
        dim_is (same_intensity was.intensity new.intensity) a.intensity new.intensity (apart_now was new a e apart),
      ) refl

-- ==== All laws

still : (h w : ℕ) (s t : DecState) → t.squares ≡ s.squares → SameCells (dec_terminal h w) s t
still h w s t e = record {
  shows = λ r c x shown. (shown.0, ap (λ (z : (r c : ℕ) → Square). z r c) e ∙ shown.1);
  begins = λ r c whole. ap (λ (z : (r c : ℕ) → Square). is_right (z r c)) e ∙ whole;
}

same_cursor : (h w : ℕ) (s t : DecState) → t.row ≡ s.row → t.column ≡ s.column → t.flag ≡ s.flag →
    SameCursor (dec_terminal h w) s t
same_cursor h w s t row column flag = record {
  at = λ r c e. (row ∙ e.0, (column ∙ e.1.0, flag ∙ e.1.1));
  pending = λ r e. (row ∙ e.0, (ap (λ (k : ℕ). k + 1) column ∙ e.1.0, flag ∙ e.1.1));
  ended = λ r e. (row ∙ e.0, ap (λ (k : ℕ). k + 1) column ∙ e.1);
}

dec_moved : (h w row column : ℕ) (s t : DecState) → record s { row = row; column = column; flag = false } ≡ t →
    Moved (dec_terminal h w) s t
dec_moved h w row column s t reads =
    let back = sym reads in record {
      cells = still h w s t (ap (λ (q : DecState). q.squares) back);
      modes = same_modes h w s t (ap (λ (q : DecState). q.style) back) (ap (λ (q : DecState). q.hidden) back)
          (ap (λ (q : DecState). q.saved_row) back) (ap (λ (q : DecState). q.saved_column) back)
          (ap (λ (q : DecState). q.saved_style) back);
    }

dec_at : (h w row column r c : ℕ) (s t : DecState) → record s { row = row; column = column; flag = false } ≡ t →
    row ≡ r →
    column ≡ c → (t.row ≡ r) × ((t.column ≡ c) × (t.flag ≡ false))
dec_at h w row column r c s t reads e f =
    let back = sym reads in (
      ap (λ (q : DecState). q.row) back ∙ e,
      (
        ap (λ (q : DecState). q.column) back ∙ f,
        ap (λ (q : DecState). q.flag)
            back,
      ),
    )

pub dec_laws : (height width : ℕ) → Laws (dec_terminal height width)
dec_laws h w = record {
  prints = λ s t r c ch wide a low fits certain columns place style reads.
      dec_prints h w s t r c ch wide a fits certain columns place style reads;
  strays = λ s t r c cs glyph low fits place reads. let column = place.1.0 in
      dec_strays h w r c (stray_columns cs) cs s t place.0 place.1.1 (omega (arith, column)) (omega (arith, column))
      fits reads;
  wraps = λ s t r ch wide a low fits certain columns place style reads.
      let down = dec_wraps h w s t r ch wide certain columns place reads in
      printed_after_move (dec_terminal h w) (r + 1) 0 (glyph_columns wide) (glyph_cells (encode_utf8 ch) wide a) s
      down.0 t down.1.1.0 (dec_prints h w down.0 t (r + 1) 0 ch wide a (omega (arith, fits)) certain columns down.1.0
      (down.1.1.0.modes.attrs a style) down.1.1.1);
  cup = λ s t r c reads. (
    dec_at h w (min r (h - 1)) (min c (w - 1)) (min r (h - 1)) (min c (w - 1)) s t reads refl refl,
    dec_moved h w (min r (h - 1)) (min c (w - 1)) s t reads,
  );
  cr = λ s t r low place reads. (
    dec_at h w s.row 0 r 0 s t reads (row_is s r place) refl,
    dec_moved h w s.row 0 s t reads,
  );
  cuf = λ s t r c n low inside place reads. (
    dec_at h w s.row (min (s.column + suc n) (w - 1)) r (min (c + suc n) (w - 1)) s t reads place.0
        (ap (λ (k : ℕ). min (k + suc n) (w - 1)) place.1.0),
    dec_moved h w s.row (min (s.column + suc n) (w - 1)) s t reads,
  );
  bs = λ s t r c low inside some place reads. (
    dec_at h w s.row (s.column - 1) r (c - 1) s t reads place.0 (ap (λ (k : ℕ). k - 1) place.1.0),
    dec_moved h w s.row (s.column - 1) s t reads,
  );
  lf = λ s t r c low place reads. let row = place.0 in (
    dec_at h w (min (s.row + 1) (h - 1)) s.column (r + 1) c s t reads (omega (arith, row, low)) place.1.0,
    dec_moved h w (min (s.row + 1) (h - 1)) s.column s t reads,
  );
  lf_end = λ s t r low place reads. let row = place.0 in (
    (
      ap (λ (q : DecState). q.row) (sym reads) ∙ (let e : min (s.row + 1) (h - 1) ≡ r + 1 = omega (arith, row, low) in
          e),
      ap (λ (q : DecState). q.column + 1) (sym reads) ∙ place.1,
    ),
    dec_moved h w (min (s.row + 1) (h - 1)) s.column s t reads,
  );
  ed = λ s t a place style reads. let back = sym reads in (
    λ r c low inside. dec_ed h w s t a place style reads r c inside,
    (
      same_cursor h w s t (ap (λ (q : DecState). q.row) back) (ap (λ (q : DecState). q.column) back)
          (ap (λ (q : DecState). q.flag) back),
      same_modes h w s t (ap (λ (q : DecState). q.style) back) (ap (λ (q : DecState). q.hidden) back)
          (ap (λ (q : DecState). q.saved_row) back) (ap (λ (q : DecState). q.saved_column) back)
          (ap (λ (q : DecState). q.saved_style) back),
    ),
  );
  el = λ s t r c a low inside place style reads.
      dec_erases h w s t r c (w - c) a (omega (arith, inside)) (omega (arith, inside)) place style
      (ap (λ (k : ℕ). erased w (w - k) s) (sym place.1.0) ∙ reads);
  ech = λ s t r c n a low inside place style reads.
      dec_erases h w s t r c (min (suc n) (w - c)) a (omega (arith, inside)) (omega (arith, inside)) place style
      (ap (λ (k : ℕ). erased w (min (suc n) (w - k)) s) (sym place.1.0) ∙ reads);
  reset = λ s t reads. let back = sym reads in (
    ap (λ (q : DecState). q.style) back,
    (
      still h w s t (ap (λ (q : DecState). q.squares) back),
      (
        same_cursor h w s t (ap (λ (q : DecState). q.row) back) (ap (λ (q : DecState). q.column) back)
            (ap (λ (q : DecState). q.flag) back),
        λ hidden e. ap (λ (q : DecState). q.hidden) back ∙ e,
      ),
    ),
  );
  reset_saved = λ s t r a reads saved. let back = sym reads in (
    ap (λ (q : DecState). q.saved_row) back ∙ saved.0,
    (ap (λ (q : DecState). q.saved_column + 1) back ∙ saved.1.0, ap (λ (q : DecState). q.saved_style) back ∙ saved.1.1),
  );
  sgr = λ s t was new a differ style apart reads. let back = sym reads in (
    ap (λ (q : DecState). q.style) back ∙ (ap (style_after was new) style ∙ dec_sgr was new a differ apart),
    (
      still h w s t (ap (λ (q : DecState). q.squares) back),
      (
        same_cursor h w s t (ap (λ (q : DecState). q.row) back) (ap (λ (q : DecState). q.column) back)
            (ap (λ (q : DecState). q.flag) back),
        λ hidden e. ap (λ (q : DecState). q.hidden) back ∙ e,
      ),
    ),
  );
  sgr_saved = λ s t was new r a reads saved. let back = sym reads in (
    ap (λ (q : DecState). q.saved_row) back ∙ saved.0,
    (ap (λ (q : DecState). q.saved_column + 1) back ∙ saved.1.0, ap (λ (q : DecState). q.saved_style) back ∙ saved.1.1),
  );
  dectcem = λ s t hidden reads. let back = sym reads in (
    ap (λ (q : DecState). q.hidden) back,
    (
      still h w s t (ap (λ (q : DecState). q.squares) back),
      (
        same_cursor h w s t (ap (λ (q : DecState). q.row) back) (ap (λ (q : DecState). q.column) back)
            (ap (λ (q : DecState). q.flag) back),
        (
          λ a e. ap (λ (q : DecState). q.style) back ∙ e,
          λ r a saved. (
            ap (λ (q : DecState). q.saved_row) back ∙ saved.0,
            (
              ap (λ (q : DecState). q.saved_column + 1) back ∙ saved.1.0,
              ap (λ (q : DecState). q.saved_style) back ∙
                  saved.1.1,
            ),
          ),
        ),
      ),
    ),
  );
  decsc = λ s t r a place style reads. let back = sym reads in (
    ap (λ (q : DecState). q.saved_row) back ∙ place.0,
    (ap (λ (q : DecState). q.saved_column + 1) back ∙ place.1, ap (λ (q : DecState). q.saved_style) back ∙ style),
  );
  decsc_same = λ s t reads. let back = sym reads in (
    still h w s t (ap (λ (q : DecState). q.squares) back),
    (
      same_cursor h w s t (ap (λ (q : DecState). q.row) back) (ap (λ (q : DecState). q.column) back)
          (ap (λ (q : DecState). q.flag) back),
      (λ a e. ap (λ (q : DecState). q.style) back ∙ e, λ hidden e. ap (λ (q : DecState). q.hidden) back ∙ e),
    ),
  );
  decrc = λ s t r a saved reads. let back = sym reads in (
    (ap (λ (q : DecState). q.row) back ∙ saved.0, ap (λ (q : DecState). q.column + 1) back ∙ saved.1.0),
    (
      ap (λ (q : DecState). q.style) back ∙ saved.1.1,
      still h w s t (ap (λ (q : DecState). q.squares) back),
    ),
  );
  decrc_same = λ s t reads. let back = sym reads in (
    λ hidden e. ap (λ (q : DecState). q.hidden) back ∙ e,
    λ r a saved. (
      ap (λ (q : DecState). q.saved_row) back ∙ saved.0,
      (
        ap (λ (q : DecState). q.saved_column + 1) back ∙ saved.1.0,
        ap (λ (q : DecState). q.saved_style) back ∙
            saved.1.1,
      ),
    ),
  );
  blank_begins = λ s r c a shown. ap is_right shown.1;
  pending_ended = λ s r place. (place.0, place.1.0);
} where
  row_is : (s : DecState) (r : ℕ) →
      ((c : ℕ) × ((s.row ≡ r) × ((s.column ≡ c) × (s.flag ≡ false)))) ⊎ ((s.row ≡ r) × (s.column + 1 ≡ w)) → s.row ≡ r
  row_is s r (inl at) = at.1.0
  row_is s r (inr at) = at.0
