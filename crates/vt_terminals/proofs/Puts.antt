-- A terminal that agrees with a canvas agrees with it after a glyph is printed, or columns are erased.
use Rattle.std.proofs.Common.{◌≡◌, ◌≢◌, ℕ, ◌+◌, ◌-◌, ◌<◌, ◌≤◌, ◌⊎◌, ◌&&◌, ◌||◌, ◌==◌, not, nat_lt, Bool, true, false}
use Rattle.std.proofs.Common.{List, length, refl, inl, inr, sym, ap, subst, ◌∙◌, arith}
use Rattle.std.specs.Prelude.{nat_le}
use Rattle.std.proofs.lemmas.Bool.{and_left, and_right, cases_eq, cases_lt, cond_both, eq-eqb, le-ltb, ltb-true}
use Rattle.std.proofs.lemmas.Bool.{ltb-false, lt-leb, ne_eqb, or_parts}
use Rattle.std.proofs.lemmas.List.{get_or-replicate, length-replicate, length-set}
use Rattle.vt_cells.specs.Attrs.{Attrs}
use Rattle.vt_cells.specs.Cell.{CellValue, blank, default_blank, is_right_half}
use Rattle.vt_rows.specs.Cells.{IsPaired, at, blanks, put_cells}
use Rattle.vt_rows.specs.Row.{with_cells}
use Rattle.vt_grid.specs.Canvas.{Canvas}
use Rattle.vt_grid.specs.Erasing.{erased_columns}
use Rattle.vt_grid.specs.Page.{Page, cell_at, cursor_row}
use Rattle.vt_grid.specs.Printing.{with_cursor_cells}
use Rattle.vt_redraw.specs.Doubts.{Wrap, NotPending, Pending, wrap_at}
use Rattle.vt_redraw.specs.Uses.{IsBoundary}
use Rattle.vt_terminals.specs.Laws.{Erased, Printed, Replaced}
use Rattle.vt_terminals.specs.Sound.{IsSound}
use Rattle.vt_terminals.specs.Terminal.{Terminal, Positions, vague}
use Rattle.vt_terminals.proofs.Agrees.{Agrees, CursorAgrees, covers, tears, torn_after_erasure, torn_after_print}
use Rattle.vt_terminals.proofs.Pages.{cell_here, cell_other, put_left, put_new, put_next, put_right}

-- ==== The cells of the cursor's row

-- The cells of a glyph: after the first, only right halves.
pub record IsGlyph (n : ℕ) (o : CellValue) (new : List CellValue) : Type 0 where
  pub some : 0 < n
  pub size : length new ≡ n
  pub halves : (k : ℕ) → 0 < k → k < n → is_right_half (at new k) ≡ true
  pub orphan : is_right_half o ≡ false

-- The terminal's row shows the cells, except perhaps for torn ones.
pub record Row (T : Terminal) (near torn : Positions) (s : T.State) (r c : ℕ) (cells : List CellValue) : Type 0 where
  pub paired : IsPaired cells
  pub size : length cells ≡ T.width
  pub boundary : is_right_half (at cells c) ≡ false
  pub shows : (k : ℕ) → k < T.width → near r k ≡ false → torn r k ≡ false → T.Shows s r k (at cells k)
  pub begins : (k : ℕ) → k < T.width → vague near r k ≡ false → is_right_half (at cells k) ≡ false → T.Begins s r k

-- A position that is not torn after an edit that does not cover it was not torn before.
pub before_edit : (was covered : Bool) → (was && not covered) ≡ false → covered ≡ false → was ≡ false
before_edit true true h f = absurd (cc)
before_edit true false h f = absurd (cc)
before_edit false b h f = refl

before_print : (was covered new : Bool) → ((was && not covered) || new) ≡ false → covered ≡ false → was ≡ false
before_print was covered new h f = before_edit was covered (or_parts (was && not covered) new h).0 f

pub not_covered : (row first n r k : ℕ) → (k < first) ⊎ (first + n ≤ k) → covers row first n r k ≡ false
not_covered row first n r k (inl lt) = rw (lt-leb first k lt) (and_right (r == row) false refl)
not_covered row first n r k (inr le) =
    rw (le-ltb k (first + n) le) (and_right (r == row) (nat_le first k && false)
    (and_right (nat_le first k) false refl))

other_row : (row first n r k : ℕ) → r ≢ row → covers row first n r k ≡ false
other_row row first n r k ne = and_left (r == row) (nat_le first k && nat_lt k (first + n)) (ne_eqb r row ne)

torn_end : (row k : ℕ) (was covered t : Bool) →
    ((was && not covered) || ((row == row) && ((k == k) && t))) ≡ false → t ≡ false
torn_end row k was covered t h =
    let both = (or_parts (was && not covered) ((row == row) && ((k == k) && t)) h).1 in
    rw (eq-eqb row row refl, eq-eqb k k refl) at both

-- A cell that is neither replaced nor torn stays.
beside_shows : (T : Terminal) (near torn : Positions) (s t : T.State) (r c n : ℕ) (cells : List CellValue) →
    Row T near torn s r c cells → c + n ≤ T.width → 0 < n → Replaced T r c n s t → (k : ℕ) → k < T.width →
    near r k ≡ false → torn r k ≡ false → (k < c) ⊎ (c + n < k) → T.Shows t r k (at cells k)
beside_shows T near torn s t r c n cells row fits some rest k inside clear settled (inr far) =
    rest.others r k (at cells k) (inr (inr far)) (row.shows k inside clear settled)
beside_shows T near torn s t r c n cells row fits some rest k inside clear settled (inl lt) =
    by_next (cases_eq (k + 1) c)
  where
    by_next : (k + 1 ≡ c) ⊎ (k + 1 ≢ c) → T.Shows t r k (at cells k)
    by_next (inr ne) =
        rest.others r k (at cells k) (inr (inl (omega (arith, lt, ne)))) (row.shows k inside clear settled)
    by_next (inl e) =
        let back : k ≡ c - 1 = omega (arith, e) in
        let sure : vague near r c ≡ false =
        and_left (near r (c - 1)) (near r c) (subst (λ (m : ℕ). near r m ≡ false) back clear) in
        rest.before k (at cells k) e (row.begins c (omega (arith, fits, some)) sure row.boundary)
        (row.shows k inside clear settled)

put_shows : (T : Terminal) (near torn : Positions) (new_torn : Bool) (s t : T.State) (r c n : ℕ) (o : CellValue)
    (new cells : List CellValue) → Row T near torn s r c cells → c + n ≤ T.width → IsGlyph n o new →
    Printed T r c n new s t →
    (new_torn ≡ is_right_half (at cells (c + n))) → (k : ℕ) → k < T.width → near r k ≡ false →
    ((torn r k && not (covers r c n r k)) || ((r == r) && ((k == c + n) && new_torn))) ≡ false →
    T.Shows t r k (at (put_cells c o new n cells) k)
put_shows T near torn new_torn s t r c n o new cells row fits glyph printed is k inside clear_here settled =
    by_column (cases_lt k c) (cases_lt k (c + n))
  where
    fit : c + n ≤ length cells
    fit = let l = row.size in omega (arith, l, fits)

    begins_here : k ≡ c → near r k ≡ false → T.Begins s r c
    begins_here e clear =
        let some = glyph.some in
        row.begins c (omega (arith, fits, some))
        (and_right (near r (c - 1)) (near r c) (subst (λ (m : ℕ). near r m ≡ false) e clear)) row.boundary

    was_settled : (k < c) ⊎ (c + n ≤ k) → torn r k ≡ false
    was_settled far =
        before_print (torn r k) (covers r c n r k) ((r == r) && ((k == c + n) && new_torn)) settled
        (not_covered r c n r k far)

    other : (at (put_cells c o new n cells) k ≡ at cells k) → (k < c) ⊎ (c + n < k) →
        T.Shows t r k (at (put_cells c o new n cells) k)
    other e far =
        subst (λ (x : CellValue). T.Shows t r k x) (sym e)
        (beside_shows T near torn s t r c n cells row fits glyph.some printed.rest k inside clear_here
        (was_settled (wider far)) far)
      where
        wider : (k < c) ⊎ (c + n < k) → (k < c) ⊎ (c + n ≤ k)
        wider (inl lt) = inl lt
        wider (inr lt) = inr (omega (arith, lt))

    behind : (k ≡ c + n) ⊎ (k ≢ c + n) → c + n ≤ k → T.Shows t r k (at (put_cells c o new n cells) k)
    behind (inr ne) le =
        other (put_right c n o new cells k glyph.size fit (omega (arith, ne, le))) (inr (omega (arith, ne, le)))
    behind (inl e) le =
        let there : c + n < T.width = omega (arith, e, inside) in
        let x = at cells (c + n) in
        let clear = subst (λ (m : ℕ). ((torn r m && not (covers r c n r m)) || ((r == r) && ((m == c + n) && new_torn)))
        ≡ false) e settled in
        let whole : is_right_half (at cells (c + n)) ≡ false =
        sym is ∙ torn_end r (c + n) (torn r (c + n)) (covers r c n r (c + n)) new_torn clear in
        let before : torn r (c + n) ≡ false = subst (λ (m : ℕ). torn r m ≡ false) e (was_settled (inr le)) in
        let clear_end : near r (c + n) ≡ false = subst (λ (m : ℕ). near r m ≡ false) e clear_here in
        let now = printed.rest.next x (row.begins (c + n) there (and_right (near r (c + n - 1)) (near r (c + n))
        clear_end) whole)
        (row.shows (c + n) there clear_end before) in
        subst (λ (m : ℕ). T.Shows t r m (at (put_cells c o new n cells) m)) (sym e)
        (subst (λ (y : CellValue). T.Shows t r (c + n) y)
        (sym (put_next c n o new cells (c + n) glyph.size fit refl whole)) now)

    by_column : (k < c) ⊎ (c ≤ k) → (k < c + n) ⊎ (c + n ≤ k) → T.Shows t r k (at (put_cells c o new n cells) k)
    by_column (inl lt) _ = other (put_left c n o new cells k glyph.size fit row.paired row.boundary lt) (inl lt)
    by_column (inr ge) (inl lt) =
        let e : c + (k - c) ≡ k = omega (arith, ge) in
        let j : k - c < n = omega (arith, ge, lt) in
        subst (λ (m : ℕ). T.Shows t r m (at (put_cells c o new n cells) m)) e
        (subst (λ (x : CellValue). T.Shows t r (c + (k - c)) x) (sym (put_new c n o new cells (k - c) glyph.size fit j))
        (printed.new (k - c) j (λ first. begins_here (omega (arith, first, ge)) clear_here)))
    by_column (inr ge) (inr le) = behind (cases_eq k (c + n)) le

put_begins : (T : Terminal) (near torn : Positions) (s t : T.State) (r c n : ℕ) (o : CellValue)
    (new cells : List CellValue) →
    Row T near torn s r c cells → c + n ≤ T.width → IsGlyph n o new → Printed T r c n new s t → (k : ℕ) → k < T.width →
    vague near r k ≡ false →
    is_right_half (at (put_cells c o new n cells) k) ≡ false → T.Begins t r k
put_begins T near torn s t r c n o new cells row fits glyph printed k inside sure whole =
    by_column (cases_lt k c) (cases_lt k (c + n))
  where
    fit : c + n ≤ length cells
    fit = let l = row.size in omega (arith, l, fits)

    same : (at (put_cells c o new n cells) k ≡ at cells k) → (k < c + 1) ⊎ (c + 1 + (n - 1) ≤ k) → T.Begins t r k
    same e far = printed.rest.begins r k (inr far) (row.begins k inside sure (sym (ap is_right_half e) ∙ whole))

    behind : (k ≡ c + n) ⊎ (k ≢ c + n) → c + n ≤ k → T.Begins t r k
    behind (inl e) le = subst (λ (m : ℕ). T.Begins t r m) (sym e) printed.end
    behind (inr ne) le =
        let some = glyph.some in
        same (put_right c n o new cells k glyph.size fit (omega (arith, ne, le))) (inr (omega (arith, some, ne, le)))

    within : (k ≡ c) ⊎ (k ≢ c) → c ≤ k → k < c + n → T.Begins t r k
    within (inl e) ge lt =
        printed.rest.begins r k (inr (inl (omega (arith, e))))
        (row.begins k inside sure (ap (λ (m : ℕ). is_right_half (at cells m)) e ∙ row.boundary))
    within (inr ne) ge lt =
        let e : c + (k - c) ≡ k = omega (arith, ge) in
        let half = glyph.halves (k - c) (omega (arith, ge, ne)) (omega (arith, ge, lt)) in
        let new_one = put_new c n o new cells (k - c) glyph.size fit (omega (arith, ge, lt)) in
        let there : is_right_half (at (put_cells c o new n cells) k) ≡ true =
        ap (λ (m : ℕ). is_right_half (at (put_cells c o new n cells) m)) (sym e) ∙ (ap is_right_half new_one ∙ half) in
        absurd (cc)

    by_column : (k < c) ⊎ (c ≤ k) → (k < c + n) ⊎ (c + n ≤ k) → T.Begins t r k
    by_column (inl lt) _ =
        same (put_left c n o new cells k glyph.size fit row.paired row.boundary lt) (inl (omega (arith, lt)))
    by_column (inr ge) (inl lt) = within (cases_eq k c) ge lt
    by_column (inr ge) (inr le) = behind (cases_eq k (c + n)) le

-- ==== The whole canvas

-- The page after `n` cells are put at the cursor, which moves past them.
abbrev pub page_put : (n : ℕ) (o : CellValue) (new : List CellValue) → Page → Page
page_put n o new page =
    record (with_cursor_cells (put_cells page.column o new n (cursor_row page).cells) page) { column = page.column + n }

-- The cursor's row of a terminal that agrees with a canvas.
pub row_of : (T : Terminal) (near torn : Positions) (shifted : Bool) (wrap : Wrap) (canvas : Canvas) (s : T.State) →
    IsSound canvas.page →
    Agrees T near torn shifted wrap canvas s → IsBoundary canvas.page.column (cursor_row canvas.page).cells →
    Row T near torn s canvas.page.row canvas.page.column (cursor_row canvas.page).cells
row_of T near torn shifted wrap canvas s sound agrees boundary =
    let low = sound.row in
    let tall = agrees.height in
    record {
      paired = sound.paired canvas.page.row sound.row;
      size = sound.columns canvas.page.row sound.row ∙ agrees.width;
      boundary = boundary;
      shows = λ k inside clear settled. agrees.cells canvas.page.row k (omega (arith, low, tall)) inside clear settled;
      begins = λ k inside sure whole. agrees.begins canvas.page.row k (omega (arith, low, tall)) inside sure whole;
    }

pub put_agrees : (T : Terminal) (near torn : Positions) (shifted : Bool) (wrap : Wrap) (canvas : Canvas)
    (s t : T.State) (n : ℕ) (o : CellValue) (new : List CellValue) → IsSound canvas.page →
    Agrees T near torn shifted wrap canvas s →
    canvas.page.column + n ≤ canvas.page.width →
    IsGlyph n o new → IsBoundary canvas.page.column (cursor_row canvas.page).cells →
    Printed T canvas.page.row canvas.page.column n new s t →
    Agrees T near (torn_after_print n canvas.page torn) false (wrap_at (canvas.page.column + n) canvas.page.width)
    (record canvas { page = page_put n o new canvas.page }) t
put_agrees T near torn shifted wrap canvas s t n o new sound agrees fits glyph boundary printed =
    let row = row_of T near torn shifted wrap canvas s sound agrees boundary in
    let wide = agrees.width in
    let fit : canvas.page.column + n ≤ T.width = omega (arith, fits, wide) in
    record {
      width = agrees.width;
      height = tall;
      cells = λ r k low inside clear settled. shown row fit r k low inside clear settled (cases_eq r canvas.page.row);
      begins = λ r k low inside sure whole. begun row fit r k low inside sure whole (cases_eq r canvas.page.row);
      attrs = printed.rest.modes.attrs canvas.attrs agrees.attrs;
      hidden = printed.rest.modes.hides canvas.hidden agrees.hidden;
      saved = λ low last. printed.rest.modes.saved canvas.page.saved_row canvas.saved_attrs (agrees.saved low last);
      calm = λ f. absurd (cc);
      cursor = λ _. cond_both (nat_lt (canvas.page.column + n) canvas.page.width) NotPending Pending
          (λ (w : Wrap). CursorAgrees T w (page_put n o new canvas.page) t)
          (λ lt. let less = ltb-true (canvas.page.column + n) canvas.page.width lt in
          (less, printed.at (omega (arith, less, wide))))
          (λ ge. let more = ltb-false (canvas.page.column + n) canvas.page.width ge in
          (omega (arith, more, fits), printed.pending (omega (arith, more, fits, wide))));
    }
  where
    tall : length (page_put n o new canvas.page).rows ≡ T.height
    tall =
        length-set canvas.page.rows canvas.page.row
        (with_cells (cursor_row canvas.page) (put_cells canvas.page.column o new n (cursor_row canvas.page).cells))
        ∙ agrees.height

    shown : Row T near torn s canvas.page.row canvas.page.column (cursor_row canvas.page).cells →
        canvas.page.column + n ≤ T.width → (r k : ℕ) → r < T.height → k < T.width → near r k ≡ false →
        torn_after_print n canvas.page torn r k ≡ false →
        (r ≡ canvas.page.row) ⊎ (r ≢ canvas.page.row) → T.Shows t r k (cell_at (page_put n o new canvas.page) r k)
    shown row fit r k low inside clear settled (inr ne) =
        subst (λ (x : CellValue). T.Shows t r k x)
        (sym (cell_other (put_cells canvas.page.column o new n (cursor_row canvas.page).cells) canvas.page r k ne))
        (printed.rest.others r k (cell_at canvas.page r k) (inl ne) (agrees.cells r k low inside clear
        (before_print (torn r k) (covers canvas.page.row canvas.page.column n r k)
        ((r == canvas.page.row) && ((k == canvas.page.column + n) && tears n canvas.page)) settled
        (other_row canvas.page.row canvas.page.column n r k ne))))
    shown row fit r k low inside clear settled (inl e) =
        subst (λ (i : ℕ). T.Shows t i k (cell_at (page_put n o new canvas.page) i k)) (sym e)
        (subst (λ (x : CellValue). T.Shows t canvas.page.row k x)
        (sym (cell_here (put_cells canvas.page.column o new n (cursor_row canvas.page).cells) canvas.page k sound.row))
        (put_shows T near torn (tears n canvas.page) s t canvas.page.row canvas.page.column n o new
        (cursor_row canvas.page).cells
        row fit glyph printed refl k inside (subst (λ (i : ℕ). near i k ≡ false) e clear)
        (subst (λ (i : ℕ). torn_after_print n canvas.page torn i k ≡ false) e settled)))

    begun : Row T near torn s canvas.page.row canvas.page.column (cursor_row canvas.page).cells →
        canvas.page.column + n ≤ T.width →
        (r k : ℕ) → r < T.height → k < T.width → vague near r k ≡ false →
        is_right_half (cell_at (page_put n o new canvas.page) r k) ≡ false →
        (r ≡ canvas.page.row) ⊎ (r ≢ canvas.page.row) → T.Begins t r k
    begun row fit r k low inside sure whole (inr ne) =
        printed.rest.begins r k (inl ne) (agrees.begins r k low inside sure
        (sym (ap is_right_half (cell_other (put_cells canvas.page.column o new n (cursor_row canvas.page).cells)
        canvas.page
        r k ne)) ∙ whole))
    begun row fit r k low inside sure whole (inl e) =
        subst (λ (i : ℕ). T.Begins t i k) (sym e)
        (put_begins T near torn s t canvas.page.row canvas.page.column n o new (cursor_row canvas.page).cells row fit
        glyph printed k
        inside (subst (λ (i : ℕ). vague near i k ≡ false) e sure)
        (sym (ap is_right_half (cell_here (put_cells canvas.page.column o new n (cursor_row canvas.page).cells)
        canvas.page k
        sound.row)) ∙ (ap (λ (i : ℕ). is_right_half (cell_at (page_put n o new canvas.page) i k)) (sym e) ∙ whole)))

-- ==== Erased columns

erased_shows : (T : Terminal) (near torn : Positions) (s t : T.State) (r c n : ℕ) (a : Attrs) (cells : List CellValue) →
    Row T near torn s r c cells → 0 < n → c + n ≤ T.width → is_right_half (at cells (c + n)) ≡ false →
    Erased T r c n a s t →
    (k : ℕ) → k < T.width → near r k ≡ false → (torn r k && not (covers r c n r k)) ≡ false →
    T.Shows t r k (at (put_cells c default_blank (blanks a n) n cells) k)
erased_shows T near torn s t r c n a cells row some fits end erased k inside clear settled =
    by_column (cases_lt k c) (cases_lt k (c + n))
  where
    fit : c + n ≤ length cells
    fit = let l = row.size in omega (arith, l, fits)

    size : length (blanks a n) ≡ n
    size = length-replicate n (blank a)

    begins_here : k ≡ c → T.Begins s r c
    begins_here e =
        row.begins c (omega (arith, fits, some))
        (and_right (near r (c - 1)) (near r c) (subst (λ (m : ℕ). near r m ≡ false) e clear)) row.boundary

    begins_end : k + 1 ≡ c + n → c + n < T.width → T.Begins s r (c + n)
    begins_end e lt =
        let back : k ≡ c + n - 1 = omega (arith, e) in
        row.begins (c + n) lt
        (and_left (near r (c + n - 1)) (near r (c + n)) (subst (λ (m : ℕ). near r m ≡ false) back clear)) end

    was_settled : (k < c) ⊎ (c + n ≤ k) → torn r k ≡ false
    was_settled far = before_edit (torn r k) (covers r c n r k) settled (not_covered r c n r k far)

    other : (at (put_cells c default_blank (blanks a n) n cells) k ≡ at cells k) → (k < c) ⊎ (c + n < k) →
        T.Shows t r k (at (put_cells c default_blank (blanks a n) n cells) k)
    other e far =
        subst (λ (x : CellValue). T.Shows t r k x) (sym e)
        (beside_shows T near torn s t r c n cells row fits some erased.rest k inside clear (was_settled (wider far))
        far)
      where
        wider : (k < c) ⊎ (c + n < k) → (k < c) ⊎ (c + n ≤ k)
        wider (inl lt) = inl lt
        wider (inr lt) = inr (omega (arith, lt))

    behind : (k ≡ c + n) ⊎ (k ≢ c + n) → c + n ≤ k →
        T.Shows t r k (at (put_cells c default_blank (blanks a n) n cells) k)
    behind (inr ne) le =
        other (put_right c n default_blank (blanks a n) cells k size fit (omega (arith, ne, le)))
        (inr (omega (arith, ne, le)))
    behind (inl e) le =
        let there : c + n < T.width = omega (arith, e, inside) in
        let clear_end : near r (c + n) ≡ false = subst (λ (m : ℕ). near r m ≡ false) e clear in
        let before : torn r (c + n) ≡ false = subst (λ (m : ℕ). torn r m ≡ false) e (was_settled (inr le)) in
        let now = erased.rest.next (at cells (c + n))
        (row.begins (c + n) there (and_right (near r (c + n - 1)) (near r (c + n)) clear_end) end)
        (row.shows (c + n) there clear_end before) in
        subst (λ (m : ℕ). T.Shows t r m (at (put_cells c default_blank (blanks a n) n cells) m)) (sym e)
        (subst (λ (y : CellValue). T.Shows t r (c + n) y)
        (sym (put_next c n default_blank (blanks a n) cells (c + n) size fit refl end)) now)

    by_column : (k < c) ⊎ (c ≤ k) → (k < c + n) ⊎ (c + n ≤ k) →
        T.Shows t r k (at (put_cells c default_blank (blanks a n) n cells) k)
    by_column (inl lt) _ =
        other (put_left c n default_blank (blanks a n) cells k size fit row.paired row.boundary lt) (inl lt)
    by_column (inr ge) (inl lt) =
        let e : c + (k - c) ≡ k = omega (arith, ge) in
        let j : k - c < n = omega (arith, ge, lt) in
        let new : at (put_cells c default_blank (blanks a n) n cells) k ≡ blank a =
        ap (λ (m : ℕ). at (put_cells c default_blank (blanks a n) n cells) m) (sym e)
        ∙ (put_new c n default_blank (blanks a n) cells (k - c) size fit j
        ∙ get_or-replicate n (k - c) (blank a) default_blank j) in
        subst (λ (x : CellValue). T.Shows t r k x) (sym new) (erased.blanks k ge lt begins_here begins_end)
    by_column (inr ge) (inr le) = behind (cases_eq k (c + n)) le

erased_begins : (T : Terminal) (near torn : Positions) (s t : T.State) (r c n : ℕ) (a : Attrs) (cells : List CellValue)
    →
    Row T near torn s r c cells → 0 < n → c + n ≤ T.width → is_right_half (at cells (c + n)) ≡ false →
    Erased T r c n a s t →
    (k : ℕ) → k < T.width → vague near r k ≡ false →
    is_right_half (at (put_cells c default_blank (blanks a n) n cells) k) ≡ false → T.Begins t r k
erased_begins T near torn s t r c n a cells row some fits end erased k inside sure whole =
    by_column (cases_lt k c) (cases_lt k (c + n))
  where
    fit : c + n ≤ length cells
    fit = let l = row.size in omega (arith, l, fits)

    size : length (blanks a n) ≡ n
    size = length-replicate n (blank a)

    same : (at (put_cells c default_blank (blanks a n) n cells) k ≡ at cells k) → (k < c + 1) ⊎ (c + 1 + (n - 1) ≤ k) →
        T.Begins t r k
    same e far = erased.rest.begins r k (inr far) (row.begins k inside sure (sym (ap is_right_half e) ∙ whole))

    within : (k ≡ c) ⊎ (k ≢ c) → c ≤ k → k < c + n → T.Begins t r k
    within (inl e) ge lt =
        erased.rest.begins r k (inr (inl (omega (arith, e))))
        (row.begins k inside sure (ap (λ (m : ℕ). is_right_half (at cells m)) e ∙ row.boundary))
    within (inr ne) ge lt = erased.within k (omega (arith, ne, ge)) lt

    behind : (k ≡ c + n) ⊎ (k ≢ c + n) → c + n ≤ k → T.Begins t r k
    behind (inl e) le =
        same (put_next c n default_blank (blanks a n) cells k size fit (sym e)
        (ap (λ (m : ℕ). is_right_half (at cells m)) e ∙ end)) (inr (omega (arith, le, some)))
    behind (inr ne) le =
        same (put_right c n default_blank (blanks a n) cells k size fit (omega (arith, ne, le)))
        (inr (omega (arith, le, some)))

    by_column : (k < c) ⊎ (c ≤ k) → (k < c + n) ⊎ (c + n ≤ k) → T.Begins t r k
    by_column (inl lt) _ =
        same (put_left c n default_blank (blanks a n) cells k size fit row.paired row.boundary lt)
        (inl (omega (arith, lt)))
    by_column (inr ge) (inl lt) = within (cases_eq k c) ge lt
    by_column (inr ge) (inr le) = behind (cases_eq k (c + n)) le

pub erased_agrees : (T : Terminal) (near torn : Positions) (canvas : Canvas) (s t : T.State) (n : ℕ) →
    IsSound canvas.page → Agrees T near torn false NotPending canvas s → 0 < n →
    canvas.page.column + n ≤ canvas.page.width →
    IsBoundary canvas.page.column (cursor_row canvas.page).cells →
    IsBoundary (canvas.page.column + n) (cursor_row canvas.page).cells →
    Erased T canvas.page.row canvas.page.column n canvas.attrs s t →
    Agrees T near (torn_after_erasure n canvas.page torn) false NotPending
    (record canvas { page = erased_columns canvas.page.column n canvas.attrs canvas.page }) t
erased_agrees T near torn canvas s t n sound agrees some fits boundary end erased =
    let row = row_of T near torn false NotPending canvas s sound agrees boundary in
    let wide = agrees.width in
    let fit : canvas.page.column + n ≤ T.width = omega (arith, fits, wide) in
    record {
      width = agrees.width;
      height = tall;
      cells = λ r k low inside clear settled. shown row fit r k low inside clear settled (cases_eq r canvas.page.row);
      begins = λ r k low inside sure whole. begun row fit r k low inside sure whole (cases_eq r canvas.page.row);
      attrs = erased.rest.modes.attrs canvas.attrs agrees.attrs;
      hidden = erased.rest.modes.hides canvas.hidden agrees.hidden;
      saved = λ low last. erased.rest.modes.saved canvas.page.saved_row canvas.saved_attrs (agrees.saved low last);
      calm = λ f. absurd (cc);
      cursor = λ f. ((agrees.cursor f).0, erased.cursor.at canvas.page.row canvas.page.column (agrees.cursor f).1);
    }
  where
    tall : length (erased_columns canvas.page.column n canvas.attrs canvas.page).rows ≡ T.height
    tall =
        length-set canvas.page.rows canvas.page.row
        (with_cells (cursor_row canvas.page)
        (put_cells canvas.page.column default_blank (blanks canvas.attrs n) n (cursor_row canvas.page).cells))
        ∙ agrees.height

    shown : Row T near torn s canvas.page.row canvas.page.column (cursor_row canvas.page).cells →
        canvas.page.column + n ≤ T.width →
        (r k : ℕ) → r < T.height → k < T.width → near r k ≡ false → torn_after_erasure n canvas.page torn r k ≡ false →
        (r ≡ canvas.page.row) ⊎ (r ≢ canvas.page.row) →
        T.Shows t r k (cell_at (erased_columns canvas.page.column n canvas.attrs canvas.page) r k)
    shown row fit r k low inside clear settled (inr ne) =
        subst (λ (x : CellValue). T.Shows t r k x)
        (sym (cell_other
        (put_cells canvas.page.column default_blank (blanks canvas.attrs n) n (cursor_row canvas.page).cells)
        canvas.page r
        k ne))
        (erased.rest.others r k (cell_at canvas.page r k) (inl ne) (agrees.cells r k low inside clear
        (before_edit (torn r k) (covers canvas.page.row canvas.page.column n r k) settled
        (other_row canvas.page.row canvas.page.column n r k ne))))
    shown row fit r k low inside clear settled (inl e) =
        subst (λ (i : ℕ). T.Shows t i k (cell_at (erased_columns canvas.page.column n canvas.attrs canvas.page) i k))
        (sym e)
        (subst (λ (x : CellValue). T.Shows t canvas.page.row k x)
        (sym (cell_here
        (put_cells canvas.page.column default_blank (blanks canvas.attrs n) n (cursor_row canvas.page).cells)
        canvas.page k
        sound.row))
        (erased_shows T near torn s t canvas.page.row canvas.page.column n canvas.attrs (cursor_row canvas.page).cells
        row some fit end
        erased k inside (subst (λ (i : ℕ). near i k ≡ false) e clear) (subst
        (λ (i : ℕ). torn_after_erasure n canvas.page torn i k ≡ false) e settled)))

    begun : Row T near torn s canvas.page.row canvas.page.column (cursor_row canvas.page).cells →
        canvas.page.column + n ≤ T.width →
        (r k : ℕ) → r < T.height → k < T.width → vague near r k ≡ false →
        is_right_half (cell_at (erased_columns canvas.page.column n canvas.attrs canvas.page) r k) ≡ false →
        (r ≡ canvas.page.row) ⊎ (r ≢ canvas.page.row) → T.Begins t r k
    begun row fit r k low inside sure whole (inr ne) =
        erased.rest.begins r k (inl ne) (agrees.begins r k low inside sure
        (sym (ap is_right_half (cell_other
        (put_cells canvas.page.column default_blank (blanks canvas.attrs n) n (cursor_row canvas.page).cells)
        canvas.page r
        k ne)) ∙ whole))
    begun row fit r k low inside sure whole (inl e) =
        subst (λ (i : ℕ). T.Begins t i k) (sym e)
        (erased_begins T near torn s t canvas.page.row canvas.page.column n canvas.attrs (cursor_row canvas.page).cells
        row some
        fit end erased k inside (subst (λ (i : ℕ). vague near i k ≡ false) e sure)
        (sym (ap is_right_half (cell_here
        (put_cells canvas.page.column default_blank (blanks canvas.attrs n) n (cursor_row canvas.page).cells)
        canvas.page k
        sound.row))
        ∙ (ap (λ (i : ℕ). is_right_half (cell_at (erased_columns canvas.page.column n canvas.attrs canvas.page) i k))
        (sym e) ∙ whole)))
