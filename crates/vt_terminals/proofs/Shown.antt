-- A terminal that obeys the laws displays a picture after its redraw, or after the difference to it.
use Rattle.std.proofs.Common.{◌≡◌, ℕ, ◌-◌, ◌<◌, nat_lt, min, Bool, true, false, List, [], ◌∷◌, ◌++◌, length}
use Rattle.std.proofs.Common.{replicate, refl, sym, ap, subst, ◌∙◌, arith}
use Rattle.std.specs.Prelude.{if◌then◌else◌}
use Rattle.std.proofs.lemmas.Bool.{cond_both, ltb-true, ltb-false}
use Rattle.std.proofs.lemmas.List.{get_or-replicate, length-replicate}
use Rattle.vt_cells.specs.Attrs.{default_attrs, same_bool}
use Rattle.vt_cells.specs.Cell.{CellValue, blank}
use Rattle.vt_cells.specs.Op.{Op, Hide}
use Rattle.vt_rows.specs.Cells.{at, ends_blank}
use Rattle.vt_rows.specs.Row.{RowValue, blank_row}
use Rattle.vt_grid.specs.Page.{row_or}
use Rattle.vt_grid.proofs.Pages.{IsRow-row_or}
use Rattle.vt_redraw.specs.Doubts.{NotPending, Pending, Unsure, Wrap, doubts_of}
use Rattle.vt_redraw.specs.Picture.{IsPicture, Picture, SamePictureSize, with_picture, with_saved}
use Rattle.vt_redraw.specs.Redraw.{blank_like, difference_in, redraw_in, script_in}
use Rattle.vt_redraw.specs.Steady.{IsSteady}
use Rattle.vt_redraw.specs.declared.form.Form.TheVariants.{Portable}
use Rattle.vt_redraw.proofs.Difference.{difference_draws_in}
use Rattle.vt_redraw.proofs.PortableScript.{difference_portable}
use Rattle.vt_redraw.proofs.Redrawing.{blank_is, showing, showing_plain}
use Rattle.vt_terminals.specs.Element.{Cup, Dectcem, Ed, SgrReset}
use Rattle.vt_terminals.specs.Laws.{Laws}
use Rattle.vt_terminals.specs.Sound.{IsSound}
use Rattle.vt_terminals.specs.Terminal.{Displays, ReadsAll, Terminal, Positions}
use Rattle.vt_terminals.proofs.Agrees.{Agrees, CursorAgrees, TidyTo, nowhere}
use Rattle.vt_terminals.proofs.Elements.{elements_of_all}
use Rattle.vt_terminals.proofs.Flags.{shifts_all}
use Rattle.vt_terminals.proofs.Lists.{agrees_displays, follows}
use Rattle.vt_terminals.proofs.Sure.{difference_sure, start_sure}

-- ==== The beginning

showing_sound : (picture : Picture) → IsPicture picture → IsSound (showing picture).page
showing_sound picture is =
    let low = is.cursor_row in record {
      has_columns = is.has_columns;
      row = is.cursor_row;
      column = is.cursor_column;
      top = refl;
      bottom = omega (arith, low);
      origin = refl;
      columns = λ r inside. (IsRow-row_or picture.width picture.rows r is.rows).columns;
      paired = λ r inside. (IsRow-row_or picture.width picture.rows r is.rows).paired;
    }

-- A terminal that displays a picture agrees with a canvas that displays it.
starts : (T : Terminal) (near : Positions) (prev : Picture) (s : T.State) → IsPicture prev → prev.width ≡ T.width →
    length prev.rows ≡ T.height → (doubts_of prev).is_shifted ≡ false → Displays T near prev s →
    Agrees T near nowhere (doubts_of prev).is_shifted (doubts_of prev).wrap (showing prev) s
unfolding doubts_of
starts T near prev s is wide tall flat shows = record {
  width = wide;
  height = tall;
  cells = λ r c low inside clear settled. shows.cells r c low inside clear;
  begins = λ r c low inside clear whole. shows.begins r c low inside clear whole;
  attrs = shows.attrs;
  hidden = shows.hidden;
  saved = λ low last. let some = is.has_columns in absurd (omega (arith, some, last, wide));
  calm = λ e. let none : true ≡ false = sym e ∙ flat in absurd (cc);
  cursor = λ unshifted. cond_both (nat_lt prev.column prev.width) NotPending
      (if ends_blank (row_or prev.width prev.rows prev.row).cells then Unsure else Pending)
      (λ (w : Wrap). CursorAgrees T w (showing prev).page s)
      (λ lt. let inside = ltb-true prev.column prev.width lt in (inside, shows.cursor inside))
      (λ ge. let past = ltb-false prev.column prev.width ge in
      let column = is.cursor_column in
      let last : prev.column ≡ prev.width = omega (arith, past, column) in
      cond_both (ends_blank (row_or prev.width prev.rows prev.row).cells) Unsure Pending
      (λ (w : Wrap). CursorAgrees T w (showing prev).page s)
      (λ _. (last, shows.ended last)) (λ full. (last, shows.pending last full)));
}

-- ==== Differences

-- After reading the portable difference from `prev` to `self`, a terminal that displays `prev` displays `self`.
pub difference_shows_tidy : (T : Terminal) → Laws T → (near : Positions) (self prev : Picture) (s t : T.State) →
    IsPicture self →
    IsSteady self → IsPicture prev → SamePictureSize self prev → self.width ≡ T.width → length self.rows ≡ T.height →
    (doubts_of prev).is_shifted ≡ false → shifts_all (difference_in Portable self prev) (doubts_of prev).is_shifted ≡
    false →
    TidyTo near (difference_in Portable self prev) nowhere (showing prev) nowhere → Displays T near prev s →
    ReadsAll T (elements_of_all (difference_in Portable self prev)) s t → Displays T near self t
difference_shows_tidy T laws near self prev s t is steady other size wide tall flat settled tidy shows reads =
    let any = showing prev in
    let plain = showing_plain prev other in
    let drawn = difference_draws_in Portable self prev any is steady other size plain refl in
    let portable = difference_portable self prev any is steady other size plain refl in
    let same = size.width in
    let level = size.height in
    let start = starts T near prev s other (sym same ∙ wide) (sym level ∙ tall) flat shows in
    let end = follows T laws (difference_in Portable self prev) near nowhere (doubts_of prev) any
    (with_saved drawn.0 (with_picture self any)) s t (showing_sound prev other) start portable tidy drawn.1 reads
    (ends_blank (row_or prev.width self.rows self.row).cells ≡ false)
    (λ full. difference_sure self prev
    (subst (λ (w : ℕ). ends_blank (row_or w self.rows self.row).cells ≡ false) (sym same) full))
    (λ _. start_sure prev) in
    subst (λ (p : Picture). Displays T near p t) (ap (λ (w : ℕ). record self { width = w }) (sym same))
    (agrees_displays T laws near end.shifted end.wrap (with_saved drawn.0 (with_picture self any)) t
    (end.is_shifted ∙ settled) end.agrees
    (λ _ full unsure. let both : true ≡ false = sym (end.sure full unsure) ∙ full in cc))

-- ==== Redraws

blank_cell : (self : Picture) (r c : ℕ) → r < length self.rows → c < self.width →
    at (row_or self.width (replicate (length self.rows) (blank_row default_attrs self.width)) r).cells c
    ≡ blank default_attrs
blank_cell self r c low inside =
    ap (λ (row : RowValue). at row.cells c)
    (get_or-replicate (length self.rows) r (blank_row default_attrs self.width) (blank_row default_attrs self.width)
    low)
    ∙ get_or-replicate self.width c (blank default_attrs) (blank default_attrs) inside

-- After the beginning of a redraw, a terminal displays the blank picture.
pub cleared_shows : (T : Terminal) → Laws T → (near : Positions) (self : Picture) (s a b c t : T.State) →
    IsPicture self →
    self.width ≡ T.width → length self.rows ≡ T.height → T.Reads (Dectcem self.hidden) s a → T.Reads SgrReset a b →
    T.Reads (Cup 0 0) b c → T.Reads Ed c t → Displays T near (blank_like self) t
cleared_shows T laws near self s a b c t is wide tall hide reset home erase =
    let hides = laws.dectcem s a self.hidden hide in
    let resets = laws.reset a b reset in
    let moves = laws.cup b c 0 0 home in
    let row : min 0 (T.height - 1) ≡ 0 = omega arith in
    let column : min 0 (T.width - 1) ≡ 0 = omega arith in
    let place : T.IsAt c 0 0 =
    subst (λ (k : ℕ). T.IsAt c 0 k) column (subst (λ (k : ℕ). T.IsAt c k (min 0 (T.width - 1))) row moves.0) in
    let attrs = moves.1.modes.attrs default_attrs resets.0 in
    let hidden = moves.1.modes.hides self.hidden (resets.1.1.1 self.hidden hides.0) in
    let blanks = laws.ed c t default_attrs place attrs erase in
    let shown : (r k : ℕ) → r < T.height → k < T.width → T.Shows t r k (blank default_attrs) = blanks.0 in
    let some = is.has_columns in record {
      cells = λ r k low inside clear. subst (λ (x : CellValue). T.Shows t r k x)
          (sym (blank_cell self r k (omega (arith, low, tall)) (omega (arith, inside, wide)))) (shown r k low inside);
      begins = λ r k low inside clear whole. laws.blank_begins t r k default_attrs (shown r k low inside);
      attrs = blanks.1.1.attrs default_attrs attrs;
      hidden = blanks.1.1.hides self.hidden hidden;
      cursor = λ inside. blanks.1.0.at 0 0 place;
      pending = λ last full. absurd (omega (arith, last, some));
      ended = λ last. absurd (omega (arith, last, some));
    }

nothing_hidden : (self : Picture) → difference_in Portable self (blank_like self) ≡ script_in Portable self
    (blank_like self)
unfolding difference_in
nothing_hidden self = by_hidden self.hidden refl where
  by_hidden : (b : Bool) → self.hidden ≡ b →
      (if same_bool b b then [] else Hide b ∷ []) ++ script_in Portable self (blank_like self)
      ≡ script_in Portable self (blank_like self)
  by_hidden true e = refl
  by_hidden false e = refl

-- After reading the portable redraw of a picture, any terminal displays the picture, whatever it displayed before.
pub redraw_shows_tidy : (T : Terminal) → Laws T → (near : Positions) (self : Picture) (s t : T.State) → IsPicture self →
    IsSteady self →
    self.width ≡ T.width → length self.rows ≡ T.height →
    (doubts_of (blank_like self)).is_shifted ≡ false →
    shifts_all (difference_in Portable self (blank_like self)) (doubts_of (blank_like self)).is_shifted ≡ false →
    TidyTo near (difference_in Portable self (blank_like self)) nowhere (showing (blank_like self)) nowhere →
    ReadsAll T (elements_of_all (redraw_in Portable self)) s t → Displays T near self t
unfolding redraw_in
redraw_shows_tidy T laws near self s t is steady wide tall flat settled tidy reads =
    let a = reads.0 in
    let b = reads.1.1.0 in
    let c = reads.1.1.1.1.0 in
    let d = reads.1.1.1.1.1.1.0 in
    let rest = reads.1.1.1.1.1.1.1.1 in
    let l = length-replicate (length self.rows) (blank_row default_attrs self.width) in
    let shows = cleared_shows T laws near self s a b c d is wide tall reads.1.0 reads.1.1.1.0 reads.1.1.1.1.1.0
    reads.1.1.1.1.1.1.1.0 in
    difference_shows_tidy T laws near self (blank_like self) d t is steady (blank_is self is)
    (record { width = refl; height = sym l }) wide tall flat settled tidy shows
    (subst (λ (ops : List Op). ReadsAll T (elements_of_all ops) d t) (sym (nothing_hidden self)) rest)
