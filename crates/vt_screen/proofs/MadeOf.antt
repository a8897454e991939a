-- The output of valid operations consists of characters and the controls used for drawing.
use Rattle.std.proofs.Common.{◌≡◌, inl, inr, ℕ, zero, suc, ◌+◌, ◌-◌, ◌<◌, ◌≤◌, Bool, true, false, List, [], ◌∷◌, ◌++◌}
use Rattle.std.proofs.Common.{refl, sym, ap, ap₂, subst, ◌∙◌, append_assoc, append-nil, arith, if◌then◌else◌, length}
use Rattle.std.specs.List.{AllByRecursion, flat_map}
use Rattle.vt_cells.specs.Attrs.{default_attrs, same_attrs, Attrs}
use Rattle.vt_cells.specs.Op.{Op, Hide, ClearAttrs, MoveTo, MoveRight, NextRow, LineFeed, Backspace, EraseBelow}
use Rattle.vt_cells.specs.Op.{EraseRest, EraseChars, SaveCursor, RestoreCursor, ChangeAttrs, Print, FitsAttrs}
use Rattle.vt_cells.specs.Op.{bytes_of, bytes_of_all, change_numbers, change_text, counted, csi, place}
use Rattle.vt_redraw.specs.Fits.{Fits, IsDrawn, IsDrawnText}
use Rattle.vt_redraw.specs.Redraw.{cursor_state, difference, redraw}
use Rattle.vt_redraw.proofs.PictureFits.{cursor_state_fits, difference_fits, redraw_fits, difference_item_fits}
use Rattle.vt_redraw.proofs.PictureFits.{redraw_item_fits}
use Rattle.vt_screen.specs.AnyRegion.{reset_text}
use Rattle.vt_screen.specs.Screen.{ScreenValue, IsScreen, IsColored}
use Rattle.vt_screen.specs.Shown.{attributes_text, display, display_change, shown_text}
use Rattle.vt_screen.proofs.ReadOperations.{shown_range}
use Rattle.vt_screen.proofs.Shown.{shown_colored, shown_is}
use Rattle.vt_screen.specs.MadeOf.{Piece, IsCharacter, Characters, Numbered, Control, piece_text, IsOneOf, IsPiece, IsMadeOf}
use Rattle.vt_screen.specs.MadeOf.{drawing_finals, drawing_controls, reset_controls}
use Rattle.vt_screen.specs.MadeOf.{input_controls, state_controls}
use Rattle.vt_cells.specs.Attrs.{same_bool}
use Rattle.vt_cells.specs.InputModes.{keypad_text, application_cursor_text, bracketed_paste_text, cursor_style_text}
use Rattle.vt_cells.specs.InputModes.{mouse_mode_change, mouse_encoding_change, cursor_style_change}
use Rattle.vt_cells.specs.declared.modes.CursorStyle.{CursorStyle}
use Rattle.vt_cells.specs.declared.modes.CursorStyle.TheVariants as style
use Rattle.vt_cells.specs.declared.modes.MouseProtocolEncoding.{MouseProtocolEncoding}
use Rattle.vt_cells.specs.declared.modes.MouseProtocolEncoding.TheVariants as encoding
use Rattle.vt_cells.specs.declared.modes.MouseProtocolMode.{MouseProtocolMode}
use Rattle.vt_cells.specs.declared.modes.MouseProtocolMode.TheVariants as mouse
use Rattle.vt_redraw.specs.Items.{is_linked, item_of_difference, item_of_redraw}
use Rattle.vt_redraw.specs.Locality.{row_of_picture}
use Rattle.vt_screen.specs.States.{input_change, input_text, mouse_and_style_text, where_changed, state_change}
use Rattle.vt_screen.specs.States.{state_text}
use Rattle.vt_screen.specs.RowsShown.{changed_text, formatted_text}
use Rattle.vt_screen.specs.Screen.{Modes, no_modes}
use Rattle.vt_screen.proofs.Shown.{shown_height}

-- ---- concatenated output

module _ (finals : List ℕ) (controls : List (List ℕ)) where
  pub all_append : (ps qs : List Piece) → AllByRecursion (IsPiece finals controls) ps →
      AllByRecursion (IsPiece finals controls) qs → AllByRecursion (IsPiece finals controls) (ps ++ qs)
  all_append [] qs h k = k
  all_append (p ∷ ps) qs h k = (h.0, all_append ps qs h.1 k)

texts_append : (ps qs : List Piece) → flat_map piece_text (ps ++ qs) ≡ flat_map piece_text ps ++ flat_map piece_text qs
texts_append [] qs = refl
texts_append (p ∷ ps) qs =
    ap (λ (rest : List ℕ). piece_text p ++ rest) (texts_append ps qs)
    ∙ sym (append_assoc (piece_text p) (flat_map piece_text ps) (flat_map piece_text qs))

pub made_append : (finals : List ℕ) (controls : List (List ℕ)) (text rest : List ℕ) →
    IsMadeOf finals controls text → IsMadeOf finals controls rest → IsMadeOf finals controls (text ++ rest)
made_append finals controls text rest t r = record {
  pieces = t.pieces ++ r.pieces;
  are_pieces = all_append finals controls t.pieces r.pieces t.are_pieces r.are_pieces;
  spelled = ap₂ (λ (x y : List ℕ). x ++ y) t.spelled r.spelled ∙ sym (texts_append t.pieces r.pieces);
}

pub made_nothing : (finals : List ℕ) (controls : List (List ℕ)) → IsMadeOf finals controls []
made_nothing finals controls = record { pieces = []; are_pieces = tt; spelled = refl }

pub made_piece : (finals : List ℕ) (controls : List (List ℕ)) (piece : Piece) →
    IsPiece finals controls piece → IsMadeOf finals controls (piece_text piece)
made_piece finals controls piece is =
    record { pieces = piece ∷ []; are_pieces = (is, tt); spelled = sym (append-nil (piece_text piece)) }

-- ---- operations

graphic : (cs : List ℕ) → AllByRecursion IsDrawn cs → AllByRecursion IsCharacter cs
graphic [] h = tt
graphic (c ∷ cs) h = ((h.0.scalar, shown_range c h.0.shown), graphic cs h.1)

pub made_drawn : (finals : List ℕ) (controls : List (List ℕ)) (text : List ℕ) →
    IsDrawnText text → IsMadeOf finals controls text
made_drawn finals controls text is =
    subst (IsMadeOf finals controls) is.spelled
    (made_piece finals controls (Characters is.characters) (graphic is.characters is.printable))

pub made_if : (finals : List ℕ) (controls : List (List ℕ)) (b : Bool) (text rest : List ℕ) → IsMadeOf finals controls text →
    IsMadeOf finals controls rest → IsMadeOf finals controls (if b then text else rest)
made_if finals controls true text rest t r = t
made_if finals controls false text rest t r = r

abbrev IsDrawing : List ℕ → Type 0
IsDrawing text = IsMadeOf drawing_finals drawing_controls text

numbered : (finals : List ℕ) (controls : List (List ℕ)) (numbers : List ℕ) (final : ℕ) →
    IsOneOf final finals → IsMadeOf finals controls (piece_text (Numbered numbers final))
numbered finals controls numbers final is = made_piece finals controls (Numbered numbers final) is

control : (bytes : List ℕ) → IsOneOf bytes drawing_controls → IsDrawing bytes
control bytes is = made_piece drawing_finals drawing_controls (Control bytes) is

pub made_counted : (finals : List ℕ) (controls : List (List ℕ)) (n final : ℕ) →
    IsOneOf final finals → IsMadeOf finals controls (counted n final)
made_counted finals controls zero final is = made_nothing finals controls
made_counted finals controls (suc zero) final is = numbered finals controls [] final is
made_counted finals controls (suc (suc n)) final is = numbered finals controls (suc (suc n) ∷ []) final is

pub made_place : (finals : List ℕ) (controls : List (List ℕ)) (row col final : ℕ) →
    IsOneOf final finals → IsMadeOf finals controls (csi (place row col) final)
made_place finals controls zero zero final is = numbered finals controls [] final is
made_place finals controls zero (suc col) final is = numbered finals controls ((0 + 1) ∷ (suc col + 1) ∷ []) final is
made_place finals controls (suc row) zero final is = numbered finals controls ((suc row + 1) ∷ (0 + 1) ∷ []) final is
made_place finals controls (suc row) (suc col) final is =
    numbered finals controls ((suc row + 1) ∷ (suc col + 1) ∷ []) final is

pub made_change : (finals : List ℕ) (controls : List (List ℕ)) (was new : Attrs) →
    IsOneOf 0x6D finals → IsMadeOf finals controls (change_text was new)
unfolding change_text
made_change finals controls was new is =
    made_if finals controls (same_attrs was new) [] _ (made_nothing finals controls)
    (made_if finals controls (same_attrs new default_attrs) (csi [] 0x6D) _
    (numbered finals controls [] 0x6D is) (numbered finals controls (change_numbers was new) 0x6D is))

made_op : (op : Op) → Fits op → IsDrawing (bytes_of op)
made_op (Hide true) fits = control _ (inr (inr (inr (inr (inr (inr (inl refl)))))))
made_op (Hide false) fits = control _ (inr (inr (inr (inr (inr (inl refl))))))
made_op ClearAttrs fits = numbered drawing_finals drawing_controls [] 0x6D (inr (inr (inr (inl refl))))
made_op (MoveTo row col) fits = made_place drawing_finals drawing_controls row col 0x48 (inl refl)
made_op (MoveRight count) fits = made_counted drawing_finals drawing_controls count 0x43 (inr (inl refl))
made_op NextRow fits = control _ (inl refl)
made_op LineFeed fits = control _ (inr (inl refl))
made_op Backspace fits = control _ (inr (inr (inl refl)))
made_op EraseBelow fits = control _ (inr (inr (inr (inr (inr (inr (inr (inl refl))))))))
made_op EraseRest fits = control _ (inr (inr (inr (inr (inr (inr (inr (inr (inl refl)))))))))
made_op (EraseChars count) fits = made_counted drawing_finals drawing_controls count 0x58 (inr (inr (inl refl)))
made_op SaveCursor fits = control _ (inr (inr (inr (inl refl))))
made_op RestoreCursor fits = control _ (inr (inr (inr (inr (inl refl)))))
made_op (ChangeAttrs was new) fits =
    made_change drawing_finals drawing_controls was new (inr (inr (inr (inl refl))))
made_op (Print text) fits = made_drawn drawing_finals drawing_controls text fits

pub made_ops : (ops : List Op) → AllByRecursion Fits ops → IsMadeOf drawing_finals drawing_controls (bytes_of_all ops)
made_ops [] fits = made_nothing drawing_finals drawing_controls
made_ops (op ∷ ops) fits =
    made_append drawing_finals drawing_controls (bytes_of op) (bytes_of_all ops)
    (made_op op fits.0) (made_ops ops fits.1)

-- ---- the output of screens

pub redraw_made : (screen : ScreenValue) → IsScreen screen → IsColored screen →
    IsMadeOf drawing_finals drawing_controls (shown_text screen)
redraw_made screen is colored =
    made_ops (redraw (display screen)) (redraw_fits (display screen) (shown_is screen is) (shown_colored screen is colored))

pub difference_made : (screen prev : ScreenValue) → IsScreen screen → IsColored screen → IsColored prev →
    IsMadeOf drawing_finals drawing_controls (display_change prev screen)
difference_made screen prev is colored other =
    made_ops (difference (display screen) (display prev))
    (difference_fits (display screen) (display prev) (shown_is screen is) (shown_colored screen is colored) other.attrs)

pub cursor_made : (screen : ScreenValue) → IsScreen screen → IsColored screen →
    IsMadeOf drawing_finals drawing_controls (bytes_of_all (cursor_state (display screen)))
cursor_made screen is colored =
    made_ops (cursor_state (display screen))
    (cursor_state_fits (display screen) (shown_is screen is) (shown_colored screen is colored))

pub attributes_made : (attrs : Attrs) → FitsAttrs attrs → IsMadeOf drawing_finals drawing_controls (attributes_text attrs)
attributes_made attrs fits = made_ops (ClearAttrs ∷ ChangeAttrs default_attrs attrs ∷ []) (tt, (((tt, tt), fits), tt))

-- ---- more final bytes, and more controls

one_of_before : {A : Type 0} (x : A) (xs ys : List A) → IsOneOf x xs → IsOneOf x (xs ++ ys)
one_of_before x [] ys is = absurd is
one_of_before x (z ∷ xs) ys (inl e) = inl e
one_of_before x (z ∷ xs) ys (inr is) = inr (one_of_before x xs ys is)

one_of_later : {A : Type 0} (x : A) (xs ys : List A) → IsOneOf x ys → IsOneOf x (xs ++ ys)
one_of_later x [] ys is = is
one_of_later x (z ∷ xs) ys is = inr (one_of_later x xs ys is)

more_pieces : (fs gs : List ℕ) (cs ds : List (List ℕ)) → ((x : ℕ) → IsOneOf x fs → IsOneOf x gs) →
    ((x : List ℕ) → IsOneOf x cs → IsOneOf x ds) → (ps : List Piece) →
    AllByRecursion (IsPiece fs cs) ps → AllByRecursion (IsPiece gs ds) ps
more_pieces fs gs cs ds f c [] is = tt
more_pieces fs gs cs ds f c (Characters characters ∷ ps) is = (is.0, more_pieces fs gs cs ds f c ps is.1)
more_pieces fs gs cs ds f c (Numbered numbers final ∷ ps) is = (f final is.0, more_pieces fs gs cs ds f c ps is.1)
more_pieces fs gs cs ds f c (Control bytes ∷ ps) is = (c bytes is.0, more_pieces fs gs cs ds f c ps is.1)

pub made_more : (fs gs : List ℕ) (cs ds : List (List ℕ)) → ((x : ℕ) → IsOneOf x fs → IsOneOf x gs) →
    ((x : List ℕ) → IsOneOf x cs → IsOneOf x ds) → (text : List ℕ) → IsMadeOf fs cs text → IsMadeOf gs ds text
made_more fs gs cs ds f c text made =
    record { pieces = made.pieces; are_pieces = more_pieces fs gs cs ds f c made.pieces made.are_pieces; spelled = made.spelled }

-- ---- resetting the region

pub reset_made : (screen : ScreenValue) → IsScreen screen → IsColored screen →
    IsMadeOf drawing_finals reset_controls (reset_text (display screen))
reset_made screen is colored =
    made_append drawing_finals reset_controls (csi (0x3F ∷ 0x36 ∷ []) 0x6C ++ csi [] 0x72) (shown_text screen)
    (made_append drawing_finals reset_controls (csi (0x3F ∷ 0x36 ∷ []) 0x6C) (csi [] 0x72)
    (made_piece drawing_finals reset_controls (Control (csi (0x3F ∷ 0x36 ∷ []) 0x6C)) (inl refl))
    (made_piece drawing_finals reset_controls (Control (csi [] 0x72)) (inr (inl refl))))
    (made_more drawing_finals drawing_finals drawing_controls reset_controls (λ x one. one)
    (λ x one. inr (inr one)) (shown_text screen) (redraw_made screen is colored))

-- ---- with input modes

abbrev SetsInput : List ℕ → Type 0
SetsInput text = IsMadeOf [] input_controls text

input : (bytes : List ℕ) → IsOneOf bytes input_controls → SetsInput bytes
input bytes is = made_piece [] input_controls (Control bytes) is

keypad_made : (on : Bool) → SetsInput (keypad_text on)
keypad_made true = input _ (inl refl)
keypad_made false = input _ (inr (inl refl))

keys_made : (on : Bool) → SetsInput (application_cursor_text on)
keys_made true = input _ (inr (inr (inl refl)))
keys_made false = input _ (inr (inr (inr (inl refl))))

paste_made : (on : Bool) → SetsInput (bracketed_paste_text on)
paste_made true = input _ (inr (inr (inr (inr (inl refl)))))
paste_made false = input _ (inr (inr (inr (inr (inr (inl refl))))))

mouse_made : (was new : MouseProtocolMode) → SetsInput (mouse_mode_change was new)
mouse_made mouse.None mouse.None = made_nothing [] input_controls
mouse_made mouse.None mouse.Press = input _ (inr (inr (inr (inr (inr (inr (inl refl)))))))
mouse_made mouse.None mouse.PressRelease = input _ (inr (inr (inr (inr (inr (inr (inr (inr (inl refl)))))))))
mouse_made mouse.None mouse.ButtonMotion = input _ (inr (inr (inr (inr (inr (inr (inr (inr (inr (inr (inl refl)))))))))))
mouse_made mouse.None mouse.AnyMotion = input _ (inr (inr (inr (inr (inr (inr (inr (inr (inr (inr (inr (inr (inl refl)))))))))))))
mouse_made mouse.Press mouse.None = input _ (inr (inr (inr (inr (inr (inr (inr (inl refl))))))))
mouse_made mouse.Press mouse.Press = made_nothing [] input_controls
mouse_made mouse.Press mouse.PressRelease = input _ (inr (inr (inr (inr (inr (inr (inr (inr (inl refl)))))))))
mouse_made mouse.Press mouse.ButtonMotion = input _ (inr (inr (inr (inr (inr (inr (inr (inr (inr (inr (inl refl)))))))))))
mouse_made mouse.Press mouse.AnyMotion = input _ (inr (inr (inr (inr (inr (inr (inr (inr (inr (inr (inr (inr (inl refl)))))))))))))
mouse_made mouse.PressRelease mouse.None = input _ (inr (inr (inr (inr (inr (inr (inr (inr (inr (inl refl))))))))))
mouse_made mouse.PressRelease mouse.Press = input _ (inr (inr (inr (inr (inr (inr (inl refl)))))))
mouse_made mouse.PressRelease mouse.PressRelease = made_nothing [] input_controls
mouse_made mouse.PressRelease mouse.ButtonMotion = input _ (inr (inr (inr (inr (inr (inr (inr (inr (inr (inr (inl refl)))))))))))
mouse_made mouse.PressRelease mouse.AnyMotion = input _ (inr (inr (inr (inr (inr (inr (inr (inr (inr (inr (inr (inr (inl refl)))))))))))))
mouse_made mouse.ButtonMotion mouse.None = input _ (inr (inr (inr (inr (inr (inr (inr (inr (inr (inr (inr (inl refl))))))))))))
mouse_made mouse.ButtonMotion mouse.Press = input _ (inr (inr (inr (inr (inr (inr (inl refl)))))))
mouse_made mouse.ButtonMotion mouse.PressRelease = input _ (inr (inr (inr (inr (inr (inr (inr (inr (inl refl)))))))))
mouse_made mouse.ButtonMotion mouse.ButtonMotion = made_nothing [] input_controls
mouse_made mouse.ButtonMotion mouse.AnyMotion = input _ (inr (inr (inr (inr (inr (inr (inr (inr (inr (inr (inr (inr (inl refl)))))))))))))
mouse_made mouse.AnyMotion mouse.None = input _ (inr (inr (inr (inr (inr (inr (inr (inr (inr (inr (inr (inr (inr (inl refl))))))))))))))
mouse_made mouse.AnyMotion mouse.Press = input _ (inr (inr (inr (inr (inr (inr (inl refl)))))))
mouse_made mouse.AnyMotion mouse.PressRelease = input _ (inr (inr (inr (inr (inr (inr (inr (inr (inl refl)))))))))
mouse_made mouse.AnyMotion mouse.ButtonMotion = input _ (inr (inr (inr (inr (inr (inr (inr (inr (inr (inr (inl refl)))))))))))
mouse_made mouse.AnyMotion mouse.AnyMotion = made_nothing [] input_controls

encoding_made : (was new : MouseProtocolEncoding) → SetsInput (mouse_encoding_change was new)
encoding_made encoding.Default encoding.Default = made_nothing [] input_controls
encoding_made encoding.Default encoding.Utf8 = input _ (inr (inr (inr (inr (inr (inr (inr (inr (inr (inr (inr (inr (inr (inr (inl refl)))))))))))))))
encoding_made encoding.Default encoding.Sgr = input _ (inr (inr (inr (inr (inr (inr (inr (inr (inr (inr (inr (inr (inr (inr (inr (inr (inl refl)))))))))))))))))
encoding_made encoding.Utf8 encoding.Default = input _ (inr (inr (inr (inr (inr (inr (inr (inr (inr (inr (inr (inr (inr (inr (inr (inl refl))))))))))))))))
encoding_made encoding.Utf8 encoding.Utf8 = made_nothing [] input_controls
encoding_made encoding.Utf8 encoding.Sgr = input _ (inr (inr (inr (inr (inr (inr (inr (inr (inr (inr (inr (inr (inr (inr (inr (inr (inl refl)))))))))))))))))
encoding_made encoding.Sgr encoding.Default = input _ (inr (inr (inr (inr (inr (inr (inr (inr (inr (inr (inr (inr (inr (inr (inr (inr (inr (inl refl))))))))))))))))))
encoding_made encoding.Sgr encoding.Utf8 = input _ (inr (inr (inr (inr (inr (inr (inr (inr (inr (inr (inr (inr (inr (inr (inl refl)))))))))))))))
encoding_made encoding.Sgr encoding.Sgr = made_nothing [] input_controls

look_made : (look : CursorStyle) → SetsInput (cursor_style_text look)
look_made style.Default = input _ (inr (inr (inr (inr (inr (inr (inr (inr (inr (inr (inr (inr (inr (inr (inr (inr (inr (inr (inl refl)))))))))))))))))))
look_made style.BlinkBlock = input _ (inr (inr (inr (inr (inr (inr (inr (inr (inr (inr (inr (inr (inr (inr (inr (inr (inr (inr (inr (inl refl))))))))))))))))))))
look_made style.SteadyBlock = input _ (inr (inr (inr (inr (inr (inr (inr (inr (inr (inr (inr (inr (inr (inr (inr (inr (inr (inr (inr (inr (inl refl)))))))))))))))))))))
look_made style.BlinkUnderline = input _ (inr (inr (inr (inr (inr (inr (inr (inr (inr (inr (inr (inr (inr (inr (inr (inr (inr (inr (inr (inr (inr (inl refl))))))))))))))))))))))
look_made style.SteadyUnderline = input _ (inr (inr (inr (inr (inr (inr (inr (inr (inr (inr (inr (inr (inr (inr (inr (inr (inr (inr (inr (inr (inr (inr (inl refl)))))))))))))))))))))))
look_made style.BlinkVerticalBar = input _ (inr (inr (inr (inr (inr (inr (inr (inr (inr (inr (inr (inr (inr (inr (inr (inr (inr (inr (inr (inr (inr (inr (inr (inl refl))))))))))))))))))))))))
look_made style.SteadyVerticalBar = input _ (inr (inr (inr (inr (inr (inr (inr (inr (inr (inr (inr (inr (inr (inr (inr (inr (inr (inr (inr (inr (inr (inr (inr (inr (inl refl)))))))))))))))))))))))))

style_made : (was new : CursorStyle) → SetsInput (cursor_style_change was new)
style_made style.Default style.Default = made_nothing [] input_controls
style_made style.Default style.BlinkBlock = look_made style.BlinkBlock
style_made style.Default style.SteadyBlock = look_made style.SteadyBlock
style_made style.Default style.BlinkUnderline = look_made style.BlinkUnderline
style_made style.Default style.SteadyUnderline = look_made style.SteadyUnderline
style_made style.Default style.BlinkVerticalBar = look_made style.BlinkVerticalBar
style_made style.Default style.SteadyVerticalBar = look_made style.SteadyVerticalBar
style_made style.BlinkBlock style.Default = look_made style.Default
style_made style.BlinkBlock style.BlinkBlock = made_nothing [] input_controls
style_made style.BlinkBlock style.SteadyBlock = look_made style.SteadyBlock
style_made style.BlinkBlock style.BlinkUnderline = look_made style.BlinkUnderline
style_made style.BlinkBlock style.SteadyUnderline = look_made style.SteadyUnderline
style_made style.BlinkBlock style.BlinkVerticalBar = look_made style.BlinkVerticalBar
style_made style.BlinkBlock style.SteadyVerticalBar = look_made style.SteadyVerticalBar
style_made style.SteadyBlock style.Default = look_made style.Default
style_made style.SteadyBlock style.BlinkBlock = look_made style.BlinkBlock
style_made style.SteadyBlock style.SteadyBlock = made_nothing [] input_controls
style_made style.SteadyBlock style.BlinkUnderline = look_made style.BlinkUnderline
style_made style.SteadyBlock style.SteadyUnderline = look_made style.SteadyUnderline
style_made style.SteadyBlock style.BlinkVerticalBar = look_made style.BlinkVerticalBar
style_made style.SteadyBlock style.SteadyVerticalBar = look_made style.SteadyVerticalBar
style_made style.BlinkUnderline style.Default = look_made style.Default
style_made style.BlinkUnderline style.BlinkBlock = look_made style.BlinkBlock
style_made style.BlinkUnderline style.SteadyBlock = look_made style.SteadyBlock
style_made style.BlinkUnderline style.BlinkUnderline = made_nothing [] input_controls
style_made style.BlinkUnderline style.SteadyUnderline = look_made style.SteadyUnderline
style_made style.BlinkUnderline style.BlinkVerticalBar = look_made style.BlinkVerticalBar
style_made style.BlinkUnderline style.SteadyVerticalBar = look_made style.SteadyVerticalBar
style_made style.SteadyUnderline style.Default = look_made style.Default
style_made style.SteadyUnderline style.BlinkBlock = look_made style.BlinkBlock
style_made style.SteadyUnderline style.SteadyBlock = look_made style.SteadyBlock
style_made style.SteadyUnderline style.BlinkUnderline = look_made style.BlinkUnderline
style_made style.SteadyUnderline style.SteadyUnderline = made_nothing [] input_controls
style_made style.SteadyUnderline style.BlinkVerticalBar = look_made style.BlinkVerticalBar
style_made style.SteadyUnderline style.SteadyVerticalBar = look_made style.SteadyVerticalBar
style_made style.BlinkVerticalBar style.Default = look_made style.Default
style_made style.BlinkVerticalBar style.BlinkBlock = look_made style.BlinkBlock
style_made style.BlinkVerticalBar style.SteadyBlock = look_made style.SteadyBlock
style_made style.BlinkVerticalBar style.BlinkUnderline = look_made style.BlinkUnderline
style_made style.BlinkVerticalBar style.SteadyUnderline = look_made style.SteadyUnderline
style_made style.BlinkVerticalBar style.BlinkVerticalBar = made_nothing [] input_controls
style_made style.BlinkVerticalBar style.SteadyVerticalBar = look_made style.SteadyVerticalBar
style_made style.SteadyVerticalBar style.Default = look_made style.Default
style_made style.SteadyVerticalBar style.BlinkBlock = look_made style.BlinkBlock
style_made style.SteadyVerticalBar style.SteadyBlock = look_made style.SteadyBlock
style_made style.SteadyVerticalBar style.BlinkUnderline = look_made style.BlinkUnderline
style_made style.SteadyVerticalBar style.SteadyUnderline = look_made style.SteadyUnderline
style_made style.SteadyVerticalBar style.BlinkVerticalBar = look_made style.BlinkVerticalBar
style_made style.SteadyVerticalBar style.SteadyVerticalBar = made_nothing [] input_controls

mouse_and_style_made : (was new : Modes) → SetsInput (mouse_and_style_text was new)
mouse_and_style_made was new =
    made_append [] input_controls (mouse_mode_change was.mouse_mode new.mouse_mode) _
    (mouse_made was.mouse_mode new.mouse_mode)
    (made_append [] input_controls (mouse_encoding_change was.mouse_encoding new.mouse_encoding) _
    (encoding_made was.mouse_encoding new.mouse_encoding) (style_made was.cursor_style new.cursor_style))

pub input_made : (modes : Modes) → IsMadeOf [] input_controls (input_text modes)
input_made modes =
    made_append [] input_controls (keypad_text modes.application_keypad) _ (keypad_made modes.application_keypad)
    (made_append [] input_controls (application_cursor_text modes.application_cursor) _
    (keys_made modes.application_cursor)
    (made_append [] input_controls (bracketed_paste_text modes.bracketed_paste) _ (paste_made modes.bracketed_paste)
    (mouse_and_style_made no_modes modes)))

pub input_change_made : (was new : Modes) → IsMadeOf [] input_controls (input_change was new)
input_change_made was new =
    let changed = λ (b : Bool) (text : List ℕ) (made : SetsInput text).
    made_if [] input_controls b [] text (made_nothing [] input_controls) made in
    made_append [] input_controls (where_changed was.application_keypad new.application_keypad (keypad_text new.application_keypad)) _
    (changed (same_bool was.application_keypad new.application_keypad) (keypad_text new.application_keypad)
    (keypad_made new.application_keypad))
    (made_append [] input_controls
    (where_changed was.application_cursor new.application_cursor (application_cursor_text new.application_cursor)) _
    (changed (same_bool was.application_cursor new.application_cursor) (application_cursor_text new.application_cursor)
    (keys_made new.application_cursor))
    (made_append [] input_controls
    (where_changed was.bracketed_paste new.bracketed_paste (bracketed_paste_text new.bracketed_paste)) _
    (changed (same_bool was.bracketed_paste new.bracketed_paste) (bracketed_paste_text new.bracketed_paste)
    (paste_made new.bracketed_paste))
    (mouse_and_style_made was new)))

-- Drawing output followed by output that sets input modes.
pub state_of_both : (finals : List ℕ) (controls : List (List ℕ)) (drawn modes : List ℕ) →
    IsMadeOf finals controls drawn → SetsInput modes → IsMadeOf finals (input_controls ++ controls) (drawn ++ modes)
state_of_both finals controls drawn modes d m =
    made_append finals (input_controls ++ controls) drawn modes
    (made_more finals finals controls (input_controls ++ controls) (λ x one. one)
    (λ x one. one_of_later x input_controls controls one) drawn d)
    (made_more [] finals input_controls (input_controls ++ controls) (λ x one. absurd one)
    (λ x one. one_of_before x input_controls controls one) modes m)

pub state_made : (screen : ScreenValue) → IsScreen screen → IsColored screen →
    IsMadeOf drawing_finals state_controls (state_text screen)
state_made screen is colored =
    state_of_both drawing_finals drawing_controls (shown_text screen) (input_text screen.modes)
    (redraw_made screen is colored) (input_made screen.modes)

pub state_change_made : (screen prev : ScreenValue) → IsScreen screen → IsColored screen → IsColored prev →
    IsMadeOf drawing_finals state_controls (state_change prev screen)
state_change_made screen prev is colored other =
    state_of_both drawing_finals drawing_controls (display_change prev screen) (input_change prev.modes screen.modes)
    (difference_made screen prev is colored other) (input_change_made prev.modes screen.modes)

-- ---- rows one by one

pub row_made : (screen : ScreenValue) (r start_ stop : ℕ) → IsScreen screen → IsColored screen →
    r < length screen.page.rows → start_ ≤ stop → stop ≤ screen.page.width →
    IsMadeOf drawing_finals drawing_controls (formatted_text start_ stop (display screen) r)
row_made screen r start_ stop is colored low le inside =
    let tall = shown_height screen in
    let picture = display screen in
    made_ops (item_of_redraw r start_ stop (is_linked picture.width picture.rows r) (row_of_picture picture r)).ops
    (redraw_item_fits picture r start_ stop (is_linked picture.width picture.rows r)
    (shown_is screen is) (shown_colored screen is colored) (omega arith) le inside)

pub row_change_made : (screen prev : ScreenValue) (r start_ stop : ℕ) → IsScreen screen → IsColored screen →
    r < length screen.page.rows → start_ ≤ stop → stop ≤ screen.page.width →
    IsMadeOf drawing_finals drawing_controls (changed_text start_ stop (display screen) (display prev) r)
row_change_made screen prev r start_ stop is colored low le inside =
    let tall = shown_height screen in
    let picture = display screen in
    made_ops (item_of_difference r start_ stop (row_of_picture picture r) (row_of_picture (display prev) r)).ops
    (difference_item_fits picture r start_ stop (row_of_picture (display prev) r)
    (shown_is screen is) (shown_colored screen is colored) (omega arith) le inside)
