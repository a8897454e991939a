-- In the portable form, the operations that place the cursor are portable.
use Rattle.std.proofs.Common.{◌≡◌, ℕ, zero, suc, ◌+◌, ◌-◌, ◌<◌, ◌≤◌, ◌&&◌, nat_lt, Bool, true, false, List, []}
use Rattle.std.proofs.Common.{◌∷◌, ◌++◌, length, replicate, Option, Some, None, refl, sym, ap, ◌∙◌, subst, arith}
use Rattle.std.specs.Prelude.{if◌then◌else◌}
use Rattle.std.specs.List.{AllByRecursion}
use Rattle.std.proofs.lemmas.Bool.{and_parts, cond_both, lt-ltb, ltb-true}
use Rattle.std.proofs.lemmas.List.{length-append}
use Rattle.vt_cells.specs.Attrs.{default_attrs, Attrs}
use Rattle.vt_cells.specs.Cell.{CellValue, attrs_of, blank, glyph}
use Rattle.vt_cells.specs.Op.{Op, EraseChars, LineFeed, MoveTo, Print, RestoreCursor, SaveCursor}
use Rattle.vt_rows.specs.Cells.{at, ends_blank}
use Rattle.vt_rows.specs.Row.{RowValue, blank_row}
use Rattle.vt_grid.specs.Canvas.{Canvas}
use Rattle.vt_grid.specs.Page.{cursor_row, row_or}
use Rattle.vt_grid.proofs.Texts.{Draws}
use Rattle.vt_redraw.specs.Doubts.{Doubts, Unsure, no_doubts}
use Rattle.vt_redraw.specs.Uses.{PortableOps, doubts_after_op}
use Rattle.vt_redraw.specs.Redraw.{cursor_written, nearest, over_blank, pending_at}
use Rattle.vt_redraw.specs.Redraw.{blank_passed, strays, under_last}
use Rattle.vt_redraw.specs.Script.{after_last_glyph, attr_ops_in, is_at, move_ops, pen_at}
use Rattle.vt_redraw.specs.declared.form.Form.{Form}
use Rattle.vt_redraw.specs.declared.form.Form.TheVariants.{Fixed, Portable}
use Rattle.vt_redraw.specs.declared.pen.Pen.{Pen}
use Rattle.vt_redraw.proofs.Cursor.{NearestIs, all_row, ends_in_blank, feed_draws, last_attrs, nearest_is}
use Rattle.vt_redraw.proofs.Cursor.{off, over_blank_draws, saved_at, split_row}
use Rattle.vt_redraw.proofs.Edits.{cursor_row_is, mid, row_of, Reads, Within, at_pen, back_draws, changing_draws}
use Rattle.vt_redraw.proofs.Edits.{going_draws}
use Rattle.vt_redraw.proofs.Halves.{ends_append, ends_is, Paired}
use Rattle.vt_redraw.proofs.Link.{erase_last, going_after_draws, print_bare}
use Rattle.vt_redraw.proofs.Places.{going_there}
use Rattle.vt_redraw.proofs.PortableLinks.{after_portably}
use Rattle.vt_redraw.proofs.PortableParts.{Known, Portably, attrs_keep, attrs_portably, moves_portably, placed_known}
use Rattle.vt_redraw.proofs.PortableParts.{portably_both}
use Rattle.vt_redraw.proofs.PortableRows.{bare_portably, erased_portably}
use Rattle.vt_redraw.proofs.PortableSteps.{DrawsPortably, Keeps, Leaves, portable_then, portably_nothing}
use Rattle.vt_redraw.proofs.PortableSteps.{portably_one, portably_then}
use Rattle.vt_redraw.proofs.Ranges.{Any}
use Rattle.vt_redraw.proofs.Rows.{PrintsRow, Stands}
use Rattle.vt_redraw.proofs.Texts.{space_prints}

-- ---- a pending wrap over a blank

-- Saving the cursor changes nothing that is known.
save_portably : (base : Canvas) (done below : List RowValue) (row : List CellValue) (r c : ℕ) (a : Attrs) →
    Portably (SaveCursor ∷ []) false (mid base done below row false (pen_at r c a)) false
    (mid (saved_at base r c a) done below row false (pen_at r c a))
save_portably base done below row r c a doubts known = record {
  left = record doubts { is_after_character = false };
  portable = (known.place refl, λ next e. tt);
  leaves = λ next e. refl;
  known = record {
    place = λ f. known.place f;
    inside = λ h. known.inside h;
    behind = λ h full. known.behind h full;
  };
}

-- Restoring a pending wrap in a row that ends with a blank leaves terminals in doubt only about the wrap.
restore_portably : (base : Canvas) (done below : List RowValue) (pre : List CellValue) (r c : ℕ) (b a : Attrs) →
    length done ≡ r →
    Portably (RestoreCursor ∷ []) false
    (mid (saved_at base r base.page.width a) done below (pre ++ blank b ∷ []) false (pen_at r c a)) false
    (mid (saved_at base r base.page.width a) done below (pre ++ blank b ∷ []) false (pen_at r base.page.width a))
restore_portably base done below pre r c b a e doubts known =
    let row = pre ++ blank b ∷ [] in
    let goal = mid (saved_at base r base.page.width a) done below row false (pen_at r base.page.width a) in
    let blank_end : ends_blank (cursor_row goal.page).cells ≡ true =
    ap (λ (x : RowValue). ends_blank x.cells)
    (cursor_row_is (saved_at base r base.page.width a) done below row false (pen_at r base.page.width a) e)
    ∙ (ends_is row ∙ ends_append pre (blank b) []) in
    record {
      left = record doubts { wrap = Unsure; is_after_character = false };
      portable = (record { row = refl; column = omega arith; origin = refl }, λ next f. tt);
      leaves = λ next f. refl;
      known = record {
        place = λ f. known.place f;
        inside = λ h. absurd (omega (arith, h));
        behind = λ h full. absurd (cc);
      };
    }

passed_portably : (base : Canvas) (done below : List RowValue) (pre : List CellValue) (r : ℕ) (was b : Attrs) →
    base.page.origin ≡ false → 0 < base.page.width → length done ≡ r → length pre + 1 ≡ base.page.width → Paired pre →
    Portably (blank_passed Portable r (length pre) was b) false
    (mid base done below (pre ++ blank b ∷ []) false (pen_at r (length pre) was)) false
    (mid (saved_at base r base.page.width b) done below (pre ++ blank b ∷ []) false (pen_at r base.page.width was))
passed_portably base done below pre r was b o pos e w h =
    let row = pre ++ blank b ∷ [] in
    let space : List ℕ = 0x20 ∷ [] in
    let spaced = pre ++ glyph space false was ∷ [] in
    let c = length pre in
    let width = base.page.width in
    let other = saved_at base r width b in
    let prints = space_prints width pos in
    let size = length-append done (row_of spaced false ∷ below) in
    let rows = λ (z : List CellValue). done ++ row_of z false ∷ below in
    let m1 = mid base done below row false (pen_at r c was) in
    let m2 = mid base done below spaced false (pen_at r width was) in
    let m3 = mid base done below spaced false (pen_at r width b) in
    let m4 = mid other done below spaced false (pen_at r width b) in
    let m5 = mid other done below spaced false (pen_at r c b) in
    let m6 = mid other done below row false (pen_at r c b) in
    let m7 = mid other done below row false (pen_at r width b) in
    let m8 = mid other done below row false (pen_at r width was) in
    let last = attr_ops_in Portable b was in
    let restored = RestoreCursor ∷ last in
    let erased = EraseChars 1 ∷ restored in
    let moved = MoveTo r c ∷ erased in
    let saved = SaveCursor ∷ moved in
    let printed = print_bare Any Portable base done below pre space false b was r prints e w h (λ k low high. tt) in
    let at_end = λ (z : ℕ). mid base done below spaced false (pen_at r z was) in
    let back = subst (λ (z : ℕ). Draws (MoveTo r c ∷ []) (mid other done below spaced false (pen_at r z b)) m5) w
    (back_draws Portable other (rows spaced) r c b o (omega (arith, size, e)) (omega (arith, w))) in
    portably_both (Print space ∷ []) (attr_ops_in Portable was b ++ saved) false false false m1 m2 m8
    (printed.draws ∙ ap (λ (z : ℕ). Some (at_end z)) w)
    (subst (λ (z : ℕ). Portably (Print space ∷ []) false m1 false (at_end z)) w
    (bare_portably base done below pre space false b was r prints e w h))
    (portably_both (attr_ops_in Portable was b) saved false false false m2 m3 m8
    (changing_draws Portable base (rows spaced) (pen_at r width was) b)
    (attrs_portably Portable refl base (rows spaced) (pen_at r width was) b false)
    (portably_both (SaveCursor ∷ []) moved false false false m3 m4 m8 refl
    (save_portably base done below spaced r width b)
    (portably_both (MoveTo r c ∷ []) erased false false false m4 m5 m8 back
    (λ doubts known. record {
      left = no_doubts;
      portable = (tt, λ next f. tt);
      leaves = λ next f. refl;
      known = placed_known false no_doubts m5.page (record { wrap = refl; place = refl }) (omega (arith, w));
    })
    (portably_both (EraseChars 1 ∷ []) restored false false false m5 m6 m8
    (erase_last Any Portable other done below pre space false was b false r e w h (λ k low high. tt)).draws
    (erased_portably other done below pre space false was b false r m6 e w refl refl)
    (portably_both (RestoreCursor ∷ []) last false false false m6 m7 m8 refl
    (restore_portably base done below pre r c b b e)
    (attrs_portably Portable refl other (rows row) (pen_at r width b) was false))))))

over_portably : (base : Canvas) (done below : List RowValue) (pre : List CellValue) (pen : Pen) (r height : ℕ) (b :
    Attrs) →
    pen.form ≡ Portable → Reads base height base.page.width → length done ≡ r → r + suc (length below) ≡ height →
    length pre + 1 ≡ base.page.width → Paired pre → Within pen height base.page.width →
    Portably (over_blank pen r base.page.width b) pen.is_shifted (mid base done below (pre ++ blank b ∷ []) false pen)
    false
    (mid (saved_at base r base.page.width b) done below (pre ++ blank b ∷ []) false (pen_at r base.page.width
    pen.attrs))
unfolding over_blank
over_portably base done below pre pen r height b is reads e rows w h within =
    let row = pre ++ blank b ∷ [] in
    let width = base.page.width in
    let col : width - 1 ≡ length pre = omega (arith, w) in
    let size = length-append done (row_of row false ∷ below) in
    let m0 = mid base done below row false pen in
    let goal = mid (saved_at base r width b) done below row false (pen_at r width pen.attrs) in
    portably_both (move_ops pen r (width - 1)) (blank_passed pen.form r (width - 1) pen.attrs b) pen.is_shifted false
    false m0
    (mid base done below row false (pen_at r (width - 1) pen.attrs)) goal
    (going_there Any base done below row false r (width - 1) height pen reads e rows (omega (arith, w)) within).draws
    (moves_portably base (done ++ row_of row false ∷ below) pen r (width - 1) (omega (arith, size, e)) (omega (
      arith,
      w,
    )))
    (subst (λ (f : Form). Portably (blank_passed f r (width - 1) pen.attrs b) false
    (mid base done below row false (pen_at r (width - 1) pen.attrs)) false goal) (sym is)
    (subst (λ (k : ℕ). Portably (blank_passed Portable r k pen.attrs b) false
    (mid base done below row false (pen_at r k pen.attrs)) false goal) (sym col)
    (passed_portably base done below pre r pen.attrs b reads.origin reads.has_columns e w h)))

-- ---- the cursor

-- Operations that are followed by a change of attributes.
abbrev pub Finishes : List Op → Doubts → Canvas → (attrs : Attrs) → Type 0
Finishes ops doubts start attrs = (new : Attrs) → PortableOps (ops ++ attr_ops_in Portable attrs new) doubts start

-- After portable operations, any change of attributes is portable.
finished : (ops : List Op) (doubts left : Doubts) (start end : Canvas) (attrs : Attrs) → PortableOps ops doubts start →
    Draws ops start end → Leaves ops doubts start left → end.attrs ≡ attrs → Finishes ops doubts start attrs
finished ops doubts left start end attrs portable draws leaves e new =
    let keeps = attrs_keep attrs new left end (ap (λ (a : Attrs). a.intensity) e) in
    portable_then ops (attr_ops_in Portable attrs new) doubts left start end portable draws leaves keeps.portable

-- While terminals agree on the cursor's position, line feeds that scroll no row off the page are portable.
feeds_portably : (base : Canvas) (rows : List RowValue) (n i c height : ℕ) (a : Attrs) (doubts : Doubts) →
    base.page.bottom + 1 ≡ height → length rows ≡ height → i + n < height → doubts.is_shifted ≡ false →
    (left : Doubts)
    × DrawsPortably (replicate n LineFeed) doubts (at_pen base rows (pen_at i c a)) left (at_pen base rows (pen_at (i +
    n) c a))
feeds_portably base rows zero i c height a doubts bottom size h place =
    let e : i ≡ i + 0 = omega arith in (
      doubts,
      subst (λ (k : ℕ). DrawsPortably [] doubts (at_pen base rows (pen_at i c a)) doubts (at_pen base rows (pen_at k c
          a))) e
          (portably_nothing doubts (at_pen base rows (pen_at i c a))),
    )
feeds_portably base rows (suc n) i c height a doubts bottom size h place =
    let e : i + 1 + n ≡ i + suc n = omega arith in
    let start = at_pen base rows (pen_at i c a) in
    let later = doubts_after_op LineFeed doubts start in
    let more = feeds_portably base rows n (i + 1) c height a later bottom size (omega (arith, h)) place in (
      more.0,
      subst (λ (k : ℕ). DrawsPortably (LineFeed ∷ replicate n LineFeed) doubts start more.0 (at_pen base rows (pen_at k
          c a))) e
          (portably_then (LineFeed ∷ []) (replicate n LineFeed) doubts later more.0 start (at_pen base rows (pen_at (i
          + 1) c a))
          (at_pen base rows (pen_at (i + 1 + n) c a))
          (portably_one LineFeed doubts start (at_pen base rows (pen_at (i + 1) c a))
          (feed_draws base rows (pen_at i c a) height bottom size (omega (arith, h))) (place, omega (arith, h, size)))
          more.1),
    )

-- The terminals may only differ in a position that no line feed starts from.
placed_after : (form : Form) (shifted : Bool) (i r : ℕ) → form ≡ Portable → (strays form shifted && nat_lt i r) ≡ false
    →
    i < r → shifted ≡ false
placed_after Fixed shifted i r is t lt = absurd cc
placed_after Portable shifted i r is t lt = let less = lt-ltb i r lt in grind (arith, t, less)

under_finishes : (base : Canvas) (rows : List RowValue) (pen : Pen) (i r height : ℕ) (doubts : Doubts) → pen.form ≡
    Portable →
    Reads base height base.page.width → length rows ≡ height → AllByRecursion (Stands base.page.width) rows →
    AllByRecursion (PrintsRow base.page.width) rows → i ≤ r → r < height → Within pen height base.page.width →
    ends_blank (row_or base.page.width rows i).cells ≡ false →
    (i < r → (after_last_glyph i pen (row_or base.page.width rows i).cells).pen.is_shifted ≡ false) →
    Known pen.is_shifted doubts (at_pen base rows pen).page →
    Finishes (under_last pen i r (row_or base.page.width rows i).cells) doubts (at_pen base rows pen) pen.attrs
unfolding under_last
under_finishes base rows pen i r height doubts is reads size all prints le low within full placed known =
    let width = base.page.width in
    let d = blank_row default_attrs width in
    let x = row_or width rows i in
    let ok = all_row (Stands width) rows i d (omega (arith, le, low, size)) all in
    let p = all_row (PrintsRow width) rows i d (omega (arith, le, low, size)) prints in
    let v = split_row rows i d (omega (arith, le, low, size)) in
    let count = ap length v.is ∙ length-append v.done (x ∷ v.below) in
    let above = v.above in
    let w = after_last_glyph i pen x.cells in
    let ends_full = sym (ends_is x.cells) ∙ full in
    let goes = going_after_draws Any base v.done v.below x.cells x.wrapped i height pen reads v.above
    (omega (arith, count, above, size)) ok.columns ok.paired ends_full p within (λ _ k l h. tt) in
    let there : Draws w.ops (at_pen base rows pen) (at_pen base rows w.pen) =
    subst (λ (z : List RowValue). Draws w.ops (at_pen base z pen) (at_pen base z w.pen)) (sym v.is) goes.draws.draws in
    let portably : Portably w.ops pen.is_shifted (at_pen base rows pen) w.pen.is_shifted (at_pen base rows w.pen) =
    subst (λ (z : List RowValue). Portably w.ops pen.is_shifted (at_pen base z pen) w.pen.is_shifted (at_pen base z
    w.pen))
    (sym v.is)
    (after_portably base v.done v.below x.cells x.wrapped i height pen is reads v.above (omega (
      arith,
      count,
      above,
      size,
    ))
    ok.columns ok.paired ends_full p within) in
    let one = portably doubts known in
    let there_row : (at_pen base rows w.pen) ≡ (at_pen base rows (pen_at i width w.pen.attrs)) =
    ap (λ (q : Pen). at_pen base rows q) goes.there in
    let middle = at_pen base rows (pen_at i width w.pen.attrs) in
    let changed = at_pen base rows (pen_at i width pen.attrs) in
    let feeds = replicate (r - i) LineFeed in
    let changes : List Op = attr_ops_in pen.form w.pen.attrs pen.attrs in
    let keeps = subst (λ (f : Form). Keeps (attr_ops_in f w.pen.attrs pen.attrs) one.left middle) (sym is)
    (attrs_keep w.pen.attrs pen.attrs one.left middle refl) in
    let first : DrawsPortably w.ops doubts (at_pen base rows pen) one.left middle =
    record { draws = there ∙ ap Some there_row; portable = one.portable; leaves = one.leaves } in
    let second : DrawsPortably changes one.left middle keeps.left changed =
    record {
      draws = changing_draws pen.form base rows (pen_at i width w.pen.attrs) pen.attrs;
      portable = keeps.portable;
      leaves = keeps.leaves;
    } in
    let n : i + (r - i) ≡ r = omega (arith, le) in
    let down : (end : Doubts) × DrawsPortably feeds keeps.left changed end (at_pen base rows (pen_at (i + (r - i))
    width pen.attrs)) =
    by_distance (r - i) refl keeps.left
    (λ lt. keeps.place ∙ one.known.place (placed (omega (arith, lt)))) in
    let both = portably_then changes feeds one.left keeps.left down.0 middle changed
    (at_pen base rows (pen_at (i + (r - i)) width pen.attrs)) second down.1 in
    let whole = portably_then w.ops (changes ++ feeds) doubts one.left down.0 (at_pen base rows pen) middle
    (at_pen base rows (pen_at (i + (r - i)) width pen.attrs)) first both in
    finished (w.ops ++ (changes ++ feeds)) doubts down.0 (at_pen base rows pen)
    (at_pen base rows (pen_at (i + (r - i)) width pen.attrs)) pen.attrs whole.portable whole.draws whole.leaves refl
  where
    by_distance : (n : ℕ) → r - i ≡ n → (d : Doubts) → (0 < r - i → d.is_shifted ≡ false) →
        (end : Doubts)
        × DrawsPortably (replicate n LineFeed) d (at_pen base rows (pen_at i base.page.width pen.attrs)) end
        (at_pen base rows (pen_at (i + n) base.page.width pen.attrs))
    by_distance zero e d place =
        let k : i ≡ i + 0 = omega arith in (
          d,
          subst (λ (z : ℕ). DrawsPortably [] d (at_pen base rows (pen_at i base.page.width pen.attrs)) d
              (at_pen base rows (pen_at z base.page.width pen.attrs))) k
              (portably_nothing d (at_pen base rows (pen_at i base.page.width pen.attrs))),
        )
    by_distance (suc n) e d place =
        feeds_portably base rows (suc n) i base.page.width height pen.attrs d reads.bottom size (omega (
          arith,
          e,
          le,
          low,
        ))
        (place (omega (arith, e)))

over_finishes : (base : Canvas) (rows : List RowValue) (pen : Pen) (r height : ℕ) (doubts : Doubts) → pen.form ≡
    Portable →
    Reads base height base.page.width → length rows ≡ height → AllByRecursion (Stands base.page.width) rows →
    r < height → Within pen height base.page.width → ends_blank (row_or base.page.width rows r).cells ≡ true →
    Known pen.is_shifted doubts (at_pen base rows pen).page →
    Finishes (over_blank pen r base.page.width (attrs_of (at (row_or base.page.width rows r).cells (base.page.width -
    1))))
    doubts (at_pen base rows pen) pen.attrs
over_finishes base rows pen r height doubts is reads size all low within near known =
    let width = base.page.width in
    let d = blank_row default_attrs width in
    let x = row_or width rows r in
    let ok = all_row (Stands width) rows r d (omega (arith, low, size)) all in
    let columns = ok.columns in
    let pos = reads.has_columns in
    let v = split_row rows r d (omega (arith, low, size)) in
    let above = v.above in
    let count = ap length v.is ∙ length-append v.done (x ∷ v.below) in
    let full = sym (ends_is x.cells) ∙ near in
    let k = ends_in_blank x.cells ok.paired (omega (arith, columns, pos)) full in
    let b = k.attrs in
    let row = k.pre ++ blank b ∷ [] in
    let length_k = sym ok.columns ∙ (ap length k.is ∙ length-append k.pre (blank b ∷ [])) in
    let attrs : attrs_of (at x.cells (width - 1)) ≡ b =
    ap (λ (z : List CellValue). attrs_of (at z (width - 1))) k.is ∙ last_attrs k.pre b (width - 1) (omega (
      arith,
      length_k,
    )) in
    let same : rows ≡ v.done ++ row_of row false ∷ v.below =
    v.is ∙ (ap (λ (z : List CellValue). v.done ++ row_of z x.wrapped ∷ v.below) k.is
    ∙ ap (λ (z : Bool). v.done ++ row_of row z ∷ v.below) (off x.wrapped x.cells ok.sound full)) in
    subst (λ (a : Attrs). Finishes (over_blank pen r width a) doubts (at_pen base rows pen) pen.attrs) (sym attrs)
    (subst (λ (z : List RowValue). Known pen.is_shifted doubts (at_pen base z pen).page →
    Finishes (over_blank pen r width b) doubts (at_pen base z pen) pen.attrs) (sym same)
    (λ at_row.
    let one = over_portably base v.done v.below k.pre pen r height b is reads v.above (omega (
      arith,
      count,
      above,
      size,
    ))
    (omega (arith, length_k)) k.front within doubts at_row in
    finished (over_blank pen r width b) doubts one.left (mid base v.done v.below row false pen)
    (mid (saved_at base r width b) v.done v.below row false (pen_at r width pen.attrs)) pen.attrs one.portable
    (over_blank_draws Any base v.done v.below k.pre pen r height b reads v.above (omega (arith, count, above, size))
    (omega (arith, length_k)) k.front within (λ j l h. tt)).draws one.leaves refl)
    known)

pending_finishes : (base : Canvas) (rows : List RowValue) (pen : Pen) (r height : ℕ) (found : Option ℕ) (doubts :
    Doubts) →
    pen.form ≡ Portable → Reads base height base.page.width → length rows ≡ height →
    AllByRecursion (Stands base.page.width) rows → AllByRecursion (PrintsRow base.page.width) rows → r < height →
    Within pen height base.page.width → NearestIs base.page.width rows r found →
    Known pen.is_shifted doubts (at_pen base rows pen).page →
    Finishes (pending_at found pen base.page.width rows r) doubts (at_pen base rows pen) pen.attrs
pending_finishes base rows pen r height None doubts is reads size all prints low within near known =
    over_finishes base rows pen r height doubts is reads size all low within near known
pending_finishes base rows pen r height (Some i) doubts is reads size all prints low within near known =
    let width = base.page.width in
    let cells = (row_or width rows i).cells in
    let shifted = (after_last_glyph i pen cells).pen.is_shifted in
    cond_both (strays pen.form shifted && nat_lt i r)
    (over_blank pen r width (attrs_of (at (row_or width rows r).cells (width - 1)))) (under_last pen i r cells)
    (λ (ops : List Op). Finishes ops doubts (at_pen base rows pen) pen.attrs)
    (λ (t : (strays pen.form shifted && nat_lt i r) ≡ true).
    let both = and_parts (strays pen.form shifted) (nat_lt i r) t in
    over_finishes base rows pen r height doubts is reads size all low within (near.1.1 (ltb-true i r both.1)) known)
    (λ (f : (strays pen.form shifted && nat_lt i r) ≡ false).
    under_finishes base rows pen i r height doubts is reads size all prints near.0 low within near.1.0
    (λ lt. placed_after pen.form shifted i r is f lt) known)

pub cursor_finishes : (base : Canvas) (rows : List RowValue) (pen : Pen) (r c height : ℕ) (doubts : Doubts) →
    pen.form ≡ Portable → Reads base height base.page.width → length rows ≡ height →
    AllByRecursion (Stands base.page.width) rows → AllByRecursion (PrintsRow base.page.width) rows → r < height →
    Within pen height base.page.width → Known pen.is_shifted doubts (at_pen base rows pen).page →
    Finishes (cursor_written pen base.page.width rows r c) doubts (at_pen base rows pen) pen.attrs
unfolding cursor_written
cursor_finishes base rows pen r c height doubts is reads size all prints low within known =
    let width = base.page.width in
    let start = at_pen base rows pen in
    let P : List Op → Type 0 = λ ops. Finishes ops doubts start pen.attrs in
    let rest = if is_at pen r c then [] else pending_at (nearest width rows r) pen width rows r in
    cond_both (nat_lt c width) (move_ops pen r c) rest P
    (λ (t : nat_lt c width ≡ true).
    let inside = ltb-true c width t in
    let one = moves_portably base rows pen r c (omega (arith, low, size)) inside doubts known in
    finished (move_ops pen r c) doubts one.left start (at_pen base rows (pen_at r c pen.attrs)) pen.attrs one.portable
    (going_draws base rows pen r c height width reads size within low inside) one.leaves refl)
    (λ _. cond_both (is_at pen r c) [] (pending_at (nearest width rows r) pen width rows r) P
    (λ _ new. (attrs_keep pen.attrs new doubts start refl).portable)
    (λ _. pending_finishes base rows pen r height (nearest width rows r) doubts is reads size all prints low within
    (nearest_is width rows r) known))
