-- Every terminal that obeys the laws displays a picture after reading its portable redraw, or the portable difference
-- to it.
use Rattle.std.proofs.Common.{◌≡◌, ◌<◌, ◌&&◌, not, Bool, true, false, length, refl, sym, ap}
use Rattle.std.proofs.lemmas.Bool.{lt-ltb}
use Rattle.std.proofs.lemmas.List.{length-replicate}
use Rattle.vt_cells.specs.Attrs.{default_attrs}
use Rattle.vt_rows.specs.Row.{blank_row}
use Rattle.vt_grid.specs.Page.{row_or}
use Rattle.vt_redraw.specs.Doubts.{ends_uncertain, is_past_uncertain, doubts_of}
use Rattle.vt_redraw.specs.Picture.{IsPicture, Picture, SamePictureSize}
use Rattle.vt_redraw.specs.Redraw.{blank_like, difference_in, pen_of, redraw_in}
use Rattle.vt_redraw.specs.Steady.{IsSteady}
use Rattle.vt_redraw.specs.declared.form.Form.TheVariants.{Portable}
use Rattle.vt_redraw.proofs.Redrawing.{blank_is, showing, showing_plain}
use Rattle.vt_terminals.specs.Laws.{Laws}
use Rattle.vt_terminals.specs.Room.{HasRoom}
use Rattle.vt_terminals.specs.Terminal.{Displays, ReadsAll, Terminal, Positions}
use Rattle.vt_terminals.proofs.Elements.{elements_of_all}
use Rattle.vt_terminals.proofs.Shown.{difference_shows_tidy, redraw_shows_tidy}
use Rattle.vt_terminals.proofs.TidyScript.{difference_shift, difference_tidy}

flat_doubts : (prev : Picture) → (pen_of Portable prev).is_shifted ≡ false → (doubts_of prev).is_shifted ≡ false
unfolding doubts_of
flat_doubts prev h = h

flat_away : (b : Bool) (prev : Picture) → b ≡ true → b ≡ false → prev.column < prev.width
flat_away true prev e f = absurd (cc)
flat_away false prev e f = absurd (cc)

-- A terminal that displays `prev` and reads the portable difference to `self` displays `self`.
pub difference_shows : (T : Terminal) → Laws T → (near : Positions) (self prev : Picture) (s t : T.State) →
    IsPicture self →
    IsSteady self → HasRoom near self → IsPicture prev → SamePictureSize self prev →
    (pen_of Portable prev).is_shifted ≡ false → self.width ≡ T.width → length self.rows ≡ T.height →
    Displays T near prev s → ReadsAll T (elements_of_all (difference_in Portable self prev)) s t →
    Displays T near self t
difference_shows T laws near self prev s t is steady certain other size flat wide tall shows reads =
    let none = λ (e : (pen_of Portable prev).is_shifted ≡ true). flat_away (pen_of Portable prev).is_shifted prev e flat
    in
    difference_shows_tidy T laws near self prev s t is steady other size wide tall (flat_doubts prev flat)
    (difference_shift near self prev (showing prev) is steady certain other size (showing_plain prev other) refl none)
    (difference_tidy near self prev (showing prev) is steady certain other size (showing_plain prev other) refl none)
    shows
    reads

blank_flat : (self : Picture) → 0 < self.width → (pen_of Portable (blank_like self)).is_shifted ≡ false
unfolding is_past_uncertain
blank_flat self some =
    ap (λ (b : Bool). not b && ends_uncertain (row_or self.width (blank_like self).rows 0).cells)
    (lt-ltb 0 self.width some)

-- A terminal that reads the portable redraw of `self` displays `self`, whatever it displayed before.
pub redraw_shows : (T : Terminal) → Laws T → (near : Positions) (self : Picture) (s t : T.State) → IsPicture self →
    IsSteady self →
    HasRoom near self → self.width ≡ T.width → length self.rows ≡ T.height →
    ReadsAll T (elements_of_all (redraw_in Portable self)) s t → Displays T near self t
redraw_shows T laws near self s t is steady certain wide tall reads =
    let l = length-replicate (length self.rows) (blank_row default_attrs self.width) in
    let flat = blank_flat self is.has_columns in
    let none = λ (e : (pen_of Portable (blank_like self)).is_shifted ≡ true).
    flat_away (pen_of Portable (blank_like self)).is_shifted (blank_like self) e flat in
    redraw_shows_tidy T laws near self s t is steady wide tall (flat_doubts (blank_like self) flat)
    (difference_shift near self (blank_like self) (showing (blank_like self)) is steady certain (blank_is self is)
    (record { width = refl; height = sym l }) (showing_plain (blank_like self) (blank_is self is)) refl none)
    (difference_tidy near self (blank_like self) (showing (blank_like self)) is steady certain (blank_is self is)
    (record { width = refl; height = sym l }) (showing_plain (blank_like self) (blank_is self is)) refl
    none) reads
