-- Printing and erasing obey the laws on a terminal that differs from this project's model.
use Rattle.std.proofs.Common.{nat_lt, ◌≡◌, ◌≢◌, ℕ, zero, suc, ◌+◌, ◌-◌, ◌<◌, ◌≤◌, ◌⊎◌, ◌&&◌, ◌==◌, not, Bool, true}
use Rattle.std.proofs.Common.{false, List, refl, inl, inr, sym, ap, subst, ◌∙◌, Option, Some, arith}
use Rattle.std.specs.Prelude.{if◌then◌else◌, nat_le}
use Rattle.std.specs.Char.{encode_utf8}
use Rattle.std.proofs.lemmas.Bool.{and_left, cases_lt, and_right, cases_eq, le-ltb, ne_eqb, cond_both, eq-eqb, le-leb}
use Rattle.std.proofs.lemmas.Bool.{lt-leb, lt-ltb}
use Rattle.vt_cells.specs.Attrs.{Attrs}
use Rattle.vt_cells.specs.Glyph.{columns_of, glyph_columns}
use Rattle.vt_rows.specs.Cells.{at}
use Rattle.vt_redraw.specs.Certain.{is_certain}
use Rattle.vt_terminals.specs.DecTerminal.{erased_square, Style, style_of, Square, Empty, Narrow, Wide, Right, Junk}
use Rattle.vt_terminals.specs.DecTerminal.{is_right, DecState, mended, replaced, glyph_squares, printed_at, down}
use Rattle.vt_terminals.specs.DecTerminal.{other_width, printed_by, erased, dec_after, square_of, dec_terminal}
use Rattle.vt_terminals.specs.Element.{Character}
use Rattle.vt_terminals.specs.Laws.{Apart, Away, Erased, Moved, Printed, Replaced, SameModes, glyph_cells}

-- ==== Squares after a replacement

mended_whole : (x : Square) → is_right x ≡ false → mended x ≡ x
mended_whole (Empty b) f = refl
mended_whole (Narrow t s) f = refl
mended_whole (Wide t s) f = refl
mended_whole Right f = absurd (cc)
mended_whole Junk f = refl

mended_not_right : (x : Square) → is_right (mended x) ≡ false
mended_not_right (Empty b) = refl
mended_not_right (Narrow t s) = refl
mended_not_right (Wide t s) = refl
mended_not_right Right = refl
mended_not_right Junk = refl

replaced_new : (row first n k : ℕ) (new : ℕ → Square) (old : (r c : ℕ) → Square) → k < n →
    (k ≡ 0 → is_right (old row first) ≡ false) → replaced row first n new old row (first + k) ≡ new k
replaced_new row first n k new old lt whole =
    let e : first + k - first ≡ k = omega arith in
    rw (
      eq-eqb row row refl,
      le-leb first (first + k) (omega arith),
      lt-ltb (first + k) (first + n) (omega (arith, lt)),
      e,
    ) (by_first (cases_eq k 0))
  where
    by_first : (k ≡ 0) ⊎ (k ≢ 0) → (if (first + k == first) && is_right (old row first) then Junk else new k) ≡ new k
    by_first (inl z) =
        ap (λ (b : Bool). if b then Junk else new k)
        (and_right (first + k == first) (is_right (old row first)) (whole z))
    by_first (inr ne) =
        ap (λ (b : Bool). if b then Junk else new k)
        (and_left (first + k == first) (is_right (old row first)) (ne_eqb (first + k) first (λ f. omega (arith, f, ne))))

replaced_row : (row first n r c : ℕ) (new : ℕ → Square) (old : (r c : ℕ) → Square) → r ≢ row →
    replaced row first n new old r c ≡ old r c
replaced_row row first n r c new old ne = rw (ne_eqb r row ne) refl

replaced_before : (row first n c : ℕ) (new : ℕ → Square) (old : (r c : ℕ) → Square) → c < first →
    is_right (old row first) ≡ false → replaced row first n new old row c ≡ old row c
replaced_before row first n c new old lt whole =
    rw (
      eq-eqb row row refl,
      lt-leb first c lt,
      ne_eqb c (first + n) (λ e. omega (arith, e, lt)),
      whole,
      and_right (c + 1 == first) false refl,
    ) refl

replaced_after : (row first n c : ℕ) (new : ℕ → Square) (old : (r c : ℕ) → Square) → first + n < c →
    replaced row first n new old row c ≡ old row c
replaced_after row first n c new old lt =
    rw (
      eq-eqb row row refl,
      le-ltb c (first + n) (omega (arith, lt)),
      and_right (nat_le first c) false refl,
      ne_eqb c (first + n) (λ e. omega (arith, e, lt)),
      ne_eqb (c + 1) first (λ e. omega (arith, e, lt)),
    ) refl

replaced_end : (row first n : ℕ) (new : ℕ → Square) (old : (r c : ℕ) → Square) →
    replaced row first n new old row (first + n) ≡ mended (old row (first + n))
replaced_end row first n new old =
    rw (
      eq-eqb row row refl,
      le-ltb (first + n) (first + n) (omega arith),
      and_right (nat_le first (first + n)) false refl,
      eq-eqb (first + n) (first + n) refl,
    ) refl

-- Where nothing changes.
replaced_away : (row first n r c : ℕ) (new : ℕ → Square) (old : (r c : ℕ) → Square) →
    Away row first n r c → replaced row first n new old r c ≡ old r c
replaced_away row first n r c new old away = by_row (cases_eq r row) away where
  here : (c + 1 < first) ⊎ (first + n < c) → replaced row first n new old row c ≡ old row c
  here (inl lt) =
      rw (
        eq-eqb row row refl,
        lt-leb first c (omega (arith, lt)),
        ne_eqb c (first + n) (λ e. omega (arith, e, lt)),
        ne_eqb (c + 1) first (λ e. omega (arith, e, lt)),
      ) refl
  here (inr lt) = replaced_after row first n c new old lt

  by_row : (r ≡ row) ⊎ (r ≢ row) → Away row first n r c → replaced row first n new old r c ≡ old r c
  by_row (inr ne) far = replaced_row row first n r c new old ne
  by_row (inl e) (inl ne) = absurd (ne e)
  by_row (inl e) (inr far) =
      ap (λ (i : ℕ). replaced row first n new old i c) e ∙ (here far ∙ ap (λ (i : ℕ). old i c) (sym e))

replaced_left : (row first n c : ℕ) (new : ℕ → Square) (old : (r c : ℕ) → Square) → c < first →
    is_right (old row c) ≡ false → is_right (replaced row first n new old row c) ≡ false
replaced_left row first n c new old lt whole =
    rw (
      eq-eqb row row refl,
      lt-leb first c lt,
      ne_eqb c (first + n) (λ e. omega (arith, e, lt)),
    )
    (cond_both ((c + 1 == first) && is_right (old row first)) Junk (old row c) (λ (x : Square). is_right x ≡ false)
    (λ _. refl) (λ _. whole))

-- Boundaries stay, except within the replaced squares.
replaced_begins : (row first n r c : ℕ) (new : ℕ → Square) (old : (r c : ℕ) → Square) → 0 < n →
    is_right (new 0) ≡ false → Apart row (first + 1) (n - 1) r c →
    is_right (old r c) ≡ false → is_right (replaced row first n new old r c) ≡ false
replaced_begins row first n r c new old some start apart whole =
    by_row (cases_eq r row) apart
  where
    at_row : r ≡ row → is_right (replaced row first n new old row c) ≡ false →
        is_right (replaced row first n new old r c) ≡ false
    at_row e h = ap (λ (i : ℕ). is_right (replaced row first n new old i c)) e ∙ h

    by_end : r ≡ row → first + n ≤ c → (c ≡ first + n) ⊎ (c ≢ first + n) →
        is_right (replaced row first n new old r c) ≡ false
    by_end e le (inl g) =
        at_row e (ap (λ (k : ℕ). is_right (replaced row first n new old row k)) g
        ∙ (ap is_right (replaced_end row first n new old) ∙ mended_not_right (old row (first + n))))
    by_end e le (inr ne) =
        ap is_right (replaced_away row first n r c new old (inr (inr (omega (arith, le, ne))))) ∙ whole

    by_start : r ≡ row → c ≤ first → (c ≡ first) ⊎ (c ≢ first) → is_right (replaced row first n new old r c) ≡ false
    by_start e le (inl f) =
        let c0 : c ≡ first + 0 = omega (arith, f) in
        at_row e (ap (λ (k : ℕ). is_right (replaced row first n new old row k)) c0
        ∙ (ap is_right (replaced_new row first n 0 new old some
        (λ _. ap (λ (k : ℕ). is_right (old row k)) (sym f) ∙ (ap (λ (i : ℕ). is_right (old i c)) (sym e) ∙ whole)))
        ∙ start))
    by_start e le (inr ne) =
        at_row e (replaced_left row first n c new old (omega (arith, le, ne))
        (ap (λ (i : ℕ). is_right (old i c)) (sym e) ∙ whole))

    by_row : (r ≡ row) ⊎ (r ≢ row) → Apart row (first + 1) (n - 1) r c →
        is_right (replaced row first n new old r c) ≡ false
    by_row (inr ne) a = ap is_right (replaced_row row first n r c new old ne) ∙ whole
    by_row (inl e) (inl ne) = absurd (ne e)
    by_row (inl e) (inr (inl lt)) = by_start e (omega (arith, lt)) (cases_eq c first)
    by_row (inl e) (inr (inr le)) = by_end e (omega (arith, le, some)) (cases_eq c (first + n))

-- ==== Printing

pub same_modes : (h w : ℕ) (s t : DecState) → t.style ≡ s.style → t.hidden ≡ s.hidden → t.saved_row ≡ s.saved_row →
    t.saved_column ≡ s.saved_column → t.saved_style ≡ s.saved_style → SameModes (dec_terminal h w) s t
same_modes h w s t style hidden row column saved = record {
  attrs = λ a e. style ∙ e;
  hides = λ b e. hidden ∙ e;
  saved = λ r a e. (row ∙ e.0, (ap (λ (k : ℕ). k + 1) column ∙ e.1.0, saved ∙ e.1.1));
}

pub dec_replaced : (h w row first n : ℕ) (new : ℕ → Square) (s t : DecState) → 0 < n → is_right (new 0) ≡ false →
    t.squares ≡ replaced row first n new s.squares → SameModes (dec_terminal h w) s t →
    Replaced (dec_terminal h w) row first n s t
dec_replaced h w row first n new s t some start squares modes =
    let is = λ (i k : ℕ). ap (λ (z : (r c : ℕ) → Square). z i k) squares in record {
      others = λ i k x away shown. (shown.0, is i k ∙ (replaced_away row first n i k new s.squares away ∙ shown.1));
      before = λ k x e whole shown. (
        shown.0,
        is row k ∙ (replaced_before row first n k new s.squares (omega (arith, e)) whole ∙ shown.1),
      );
      next = λ x whole shown. (
        shown.0,
        is row (first + n)
            ∙ (replaced_end row first n new s.squares ∙ (mended_whole (s.squares row (first + n)) whole ∙ shown.1)),
      );
      begins = λ i k apart whole. ap is_right (is i k) ∙ replaced_begins row first n i k new s.squares some start apart
          whole;
      modes = modes;
    }

pub some_columns : (wide : Bool) → 0 < glyph_columns wide
some_columns true = omega arith
some_columns false = omega arith

pub first_square : (text : List ℕ) (wide : Bool) (style : Style) → is_right (glyph_squares text wide style 0) ≡ false
first_square text false style = refl
first_square text true style = refl

glyph_square : (text : List ℕ) (wide : Bool) (a : Attrs) (k : ℕ) → k < glyph_columns wide →
    glyph_squares text wide (style_of a) k ≡ square_of (at (glyph_cells text wide a) k)
glyph_square text false a zero lt = refl
glyph_square text false a (suc k) lt = absurd (omega (arith, lt))
glyph_square text true a zero lt = refl
glyph_square text true a (suc zero) lt = refl
glyph_square text true a (suc (suc k)) lt = absurd (omega (arith, lt))

printed_by_is : (h w ch : ℕ) (wide : Bool) (s : DecState) → is_certain ch ≡ true →
    columns_of ch ≡ Some (glyph_columns wide) →
    dec_after h w (Character ch) s ≡ printed_at h w ch wide (if s.flag then down s else s)
printed_by_is h w ch false s certain columns =
    ap (λ (o : Option ℕ). printed_by h w ch o s)
    (ap (λ (b : Bool). if b then columns_of ch else other_width (columns_of ch)) certain ∙ columns)
printed_by_is h w ch true s certain columns =
    ap (λ (o : Option ℕ). printed_by h w ch o s)
    (ap (λ (b : Bool). if b then columns_of ch else other_width (columns_of ch)) certain ∙ columns)

at_cursor : (h w : ℕ) (s t : DecState) (ch : ℕ) (wide : Bool) (a : Attrs) → s.column + glyph_columns wide ≤ w →
    s.style ≡ style_of a → printed_at h w ch wide s ≡ t →
    Printed (dec_terminal h w) s.row s.column (glyph_columns wide) (glyph_cells (encode_utf8 ch) wide a) s t
at_cursor h w s t ch wide a fits style reads =
    let n = glyph_columns wide in
    let back = sym reads in
    let new = glyph_squares (encode_utf8 ch) wide s.style in record {
      new = λ k lt whole. (
        omega (arith, lt, fits),
        ap (λ (q : DecState). q.squares s.row (s.column + k)) back
            ∙ (replaced_new s.row s.column n k new s.squares lt whole
            ∙ (ap (λ (z : Style). glyph_squares (encode_utf8 ch) wide z k) style ∙ glyph_square (encode_utf8 ch) wide a
            k lt)),
      );
      end = ap (λ (q : DecState). is_right (q.squares s.row (s.column + n))) back
          ∙ (ap is_right (replaced_end s.row s.column n new s.squares) ∙ mended_not_right
          (s.squares s.row (s.column + n)));
      at = λ lt. (
        ap (λ (q : DecState). q.row) back,
        (
          ap (λ (q : DecState). q.column) back
              ∙ ap (λ (b : Bool). if b then s.column + n else w - 1) (lt-ltb (s.column + n) w lt),
          ap (λ (q : DecState). q.flag) back ∙ ap not (lt-ltb (s.column + n) w lt),
        ),
      );
      pending = λ last. let over = le-ltb (s.column + n) w (omega (arith, last)) in
          let some = some_columns wide in
          let full : w - 1 + 1 ≡ w = omega (arith, last, some) in (
            ap (λ (q : DecState). q.row) back,
            (
              ap (λ (q : DecState). q.column + 1) back
                  ∙ (ap (λ (b : Bool). (if b then s.column + n else w - 1) + 1) over ∙ full),
              ap (λ (q : DecState). q.flag) back ∙ ap not over,
            ),
          );
      rest = dec_replaced h w s.row s.column n new s t (some_columns wide) (first_square (encode_utf8 ch) wide s.style)
          (ap (λ (q : DecState). q.squares) back) (same_modes h w s t (ap (λ (q : DecState). q.style) back)
          (ap (λ (q : DecState). q.hidden) back) (ap (λ (q : DecState). q.saved_row) back)
          (ap (λ (q : DecState). q.saved_column) back)
          (ap (λ (q : DecState). q.saved_style) back));
    }

pub dec_prints : (h w : ℕ) (s t : DecState) (r c ch : ℕ) (wide : Bool) (a : Attrs) → c + glyph_columns wide ≤ w →
    is_certain ch ≡ true →
    columns_of ch ≡ Some (glyph_columns wide) → (s.row ≡ r) × ((s.column ≡ c) × (s.flag ≡ false)) →
    s.style ≡ style_of a →
    dec_after h w (Character ch) s ≡ t →
    Printed (dec_terminal h w) r c (glyph_columns wide) (glyph_cells (encode_utf8 ch) wide a) s t
dec_prints h w s t r c ch wide a fits certain columns place style reads =
    let row = place.0 in
    let column = place.1.0 in
    let is = printed_by_is h w ch wide s certain columns
    ∙ ap (λ (b : Bool). printed_at h w ch wide (if b then down s else s)) place.1.1 in
    subst (λ (i : ℕ). Printed (dec_terminal h w) i c (glyph_columns wide) (glyph_cells (encode_utf8 ch) wide a) s t) row
    (subst (λ (k : ℕ). Printed (dec_terminal h w) s.row k (glyph_columns wide) (glyph_cells (encode_utf8 ch) wide a) s
    t) column
    (at_cursor h w s t ch wide a (omega (arith, column, fits)) style (sym is ∙ reads)))

pub dec_wraps : (h w : ℕ) (s t : DecState) (r ch : ℕ) (wide : Bool) → is_certain ch ≡ true →
    columns_of ch ≡ Some (glyph_columns wide) →
    (s.row ≡ r) × ((s.column + 1 ≡ w) × (s.flag ≡ true)) → dec_after h w (Character ch) s ≡ t →
    (m : DecState) × (((m.row ≡ r + 1) × ((m.column ≡ 0) × (m.flag ≡ false)))
    × (Moved (dec_terminal h w) s m × (dec_after h w (Character ch) m ≡ t)))
dec_wraps h w s t r ch wide certain columns place reads = (
  down s,
  (
    (ap (λ (k : ℕ). k + 1) place.0, (refl, refl)),
    (
      record {
        cells = record { shows = λ i k x e. e; begins = λ i k e. e };
        modes = same_modes h w s (down s) refl refl refl refl refl;
      },
      printed_by_is h w ch wide (down s) certain columns
          ∙ (sym (printed_by_is h w ch wide s certain columns
          ∙ ap (λ (b : Bool). printed_at h w ch wide (if b then down s else s)) place.1.1) ∙ reads),
    ),
  ),
)

-- ==== Erasing

erased_whole : (w n k : ℕ) (s : DecState) → is_right (erased_square w n s k) ≡ false
erased_whole w n k s =
    cond_both ((k + 1 == n) && (nat_lt (s.column + n) w && is_right (s.squares s.row (s.column + n)))) Junk
    (Empty s.style.bg) (λ (x : Square). is_right x ≡ false) (λ _. refl) (λ _. refl)

-- An erased square that is not the left half of a wide glyph that was cut in two is blank.
blank_square : (w n k : ℕ) (s : DecState) →
    (k + 1 ≡ n → s.column + n < w → is_right (s.squares s.row (s.column + n)) ≡ false) →
    erased_square w n s k ≡ Empty s.style.bg
blank_square w n k s ends =
    ap (λ (b : Bool). if b then Junk else Empty s.style.bg) (by_last (cases_eq (k + 1) n) (cases_lt (s.column + n) w))
  where
    by_last : (k + 1 ≡ n) ⊎ (k + 1 ≢ n) → (s.column + n < w) ⊎ (w ≤ s.column + n) →
        ((k + 1 == n) && (nat_lt (s.column + n) w && is_right (s.squares s.row (s.column + n)))) ≡ false
    by_last (inr ne) _ =
        and_left (k + 1 == n) (nat_lt (s.column + n) w && is_right (s.squares s.row (s.column + n)))
        (ne_eqb (k + 1) n ne)
    by_last (inl last) (inl inside) =
        and_right (k + 1 == n) (nat_lt (s.column + n) w && is_right (s.squares s.row (s.column + n)))
        (and_right (nat_lt (s.column + n) w) (is_right (s.squares s.row (s.column + n))) (ends last inside))
    by_last (inl last) (inr past) =
        and_right (k + 1 == n) (nat_lt (s.column + n) w && is_right (s.squares s.row (s.column + n)))
        (and_left (nat_lt (s.column + n) w) (is_right (s.squares s.row (s.column + n))) (le-ltb (s.column + n) w past))

pub dec_erases : (h w : ℕ) (s t : DecState) (r c n : ℕ) (a : Attrs) → 0 < n → c + n ≤ w →
    (s.row ≡ r) × ((s.column ≡ c) × (s.flag ≡ false)) →
    s.style ≡ style_of a → erased w n s ≡ t →
    Erased (dec_terminal h w) r c n a s t
dec_erases h w s t r c n a some fits place style reads =
    let row = place.0 in
    let column = place.1.0 in
    subst (λ (i : ℕ). Erased (dec_terminal h w) i c n a s t)
    row
    (subst (λ (k : ℕ). k + n ≤ w → Erased (dec_terminal h w) s.row k n a s t) column
    (λ inside.
    let back = sym reads in
    let new = erased_square w n s in record {
      blanks = λ k low high whole ends. let e : s.column + (k - s.column) ≡ k = omega (arith, low) in (
        omega (arith, high, inside),
        ap (λ (q : DecState). q.squares s.row k) back
            ∙ (ap (λ (j : ℕ). replaced s.row s.column n new s.squares s.row j) (sym e)
            ∙ (replaced_new s.row s.column n (k - s.column) new s.squares (omega (arith, low, high))
            (λ z. whole (omega (arith, z, low)))
            ∙ (blank_square w n (k - s.column) s
            (λ last inside. ends (omega (arith, last, low)) inside) ∙ ap (λ (z : Style). Empty z.bg) style))),
      );
      within = λ k low high. let e : s.column + (k - s.column) ≡ k = omega (arith, low) in
          ap (λ (q : DecState). is_right (q.squares s.row k)) back
          ∙ (ap (λ (j : ℕ). is_right (replaced s.row s.column n new s.squares s.row j)) (sym e)
          ∙ (ap is_right (replaced_new s.row s.column n (k - s.column) new s.squares (omega (arith, low, high))
          (λ z. absurd (omega (arith, z, low)))) ∙ erased_whole w n (k - s.column) s));
      cursor = record {
        at = λ i k e. (
          ap (λ (q : DecState). q.row) back ∙ e.0,
          (
            ap (λ (q : DecState). q.column) back ∙ e.1.0,
            ap (λ (q : DecState). q.flag) back ∙ e.1.1,
          ),
        );
        pending = λ i e. (
          ap (λ (q : DecState). q.row) back ∙ e.0,
          (
            ap (λ (q : DecState). q.column + 1) back ∙ e.1.0,
            ap (λ (q : DecState). q.flag) back ∙ e.1.1,
          ),
        );
        ended = λ i e. (ap (λ (q : DecState). q.row) back ∙ e.0, ap (λ (q : DecState). q.column + 1) back ∙ e.1);
      };
      rest = dec_replaced h w s.row s.column n new s t some (erased_whole w n 0 s)
          (ap (λ (q : DecState). q.squares) back) (same_modes h w s t (ap (λ (q : DecState). q.style) back)
          (ap (λ (q : DecState). q.hidden) back) (ap (λ (q : DecState). q.saved_row) back)
          (ap (λ (q : DecState). q.saved_column) back)
          (ap (λ (q : DecState). q.saved_style) back));
    }) fits)
