-- The modes after each step that only changes modes.
use Rattle.std.specs.Prelude.{Bool, true, false, if◌then◌else◌}
use Rattle.vt_cells.specs.declared.modes.MouseProtocolMode.{MouseProtocolMode}
use Rattle.vt_cells.specs.declared.modes.MouseProtocolMode.TheVariants as mouse
use Rattle.vt_cells.specs.declared.modes.MouseProtocolEncoding.{MouseProtocolEncoding}
use Rattle.vt_cells.specs.declared.modes.MouseProtocolEncoding.TheVariants as encoding
use Rattle.vt_screen.specs.declared.mode_step.ModeStep.{ModeStep}
use Rattle.vt_screen.specs.declared.mode_step.ModeStep.TheVariants.{UseApplicationKeypad, UseApplicationCursor}
use Rattle.vt_screen.specs.declared.mode_step.ModeStep.TheVariants.{UseBracketedPaste, SetMouseMode, ClearMouseMode}
use Rattle.vt_screen.specs.declared.mode_step.ModeStep.TheVariants.{SetMouseEncoding, ClearMouseEncoding}
use Rattle.vt_screen.specs.declared.mode_step.ModeStep.TheVariants.{SetCursorStyle}
use Rattle.vt_screen.specs.declared.modes.Modes.{Modes}

abbrev pub same_mouse_mode : MouseProtocolMode → MouseProtocolMode → Bool
same_mouse_mode mouse.None mouse.None = true
same_mouse_mode mouse.Press mouse.Press = true
same_mouse_mode mouse.PressRelease mouse.PressRelease = true
same_mouse_mode mouse.ButtonMotion mouse.ButtonMotion = true
same_mouse_mode mouse.AnyMotion mouse.AnyMotion = true
same_mouse_mode _ _ = false

abbrev pub same_mouse_encoding : MouseProtocolEncoding → MouseProtocolEncoding → Bool
same_mouse_encoding encoding.Default encoding.Default = true
same_mouse_encoding encoding.Utf8 encoding.Utf8 = true
same_mouse_encoding encoding.Sgr encoding.Sgr = true
same_mouse_encoding _ _ = false

-- The mouse mode after `mode` is reset: `None` if `mode` is the active mode `was`, otherwise `was`.
abbrev pub mouse_mode_without : MouseProtocolMode → MouseProtocolMode → MouseProtocolMode
mouse_mode_without was mode = if same_mouse_mode was mode then mouse.None else was

-- The mouse encoding after `form` is reset: the default if `form` is the active encoding `was`, otherwise `was`.
abbrev pub mouse_encoding_without : MouseProtocolEncoding → MouseProtocolEncoding → MouseProtocolEncoding
mouse_encoding_without was form = if same_mouse_encoding was form then encoding.Default else was

-- The modes after a step that changes them.
abbrev pub modes_after : ModeStep → Modes → Modes
modes_after (UseApplicationKeypad on) modes = record modes { application_keypad = on }
modes_after (UseApplicationCursor on) modes = record modes { application_cursor = on }
modes_after (UseBracketedPaste on) modes = record modes { bracketed_paste = on }
modes_after (SetMouseMode mode) modes = record modes { mouse_mode = mode }
modes_after (ClearMouseMode mode) modes = record modes { mouse_mode = mouse_mode_without modes.mouse_mode mode }
modes_after (SetMouseEncoding form) modes = record modes { mouse_encoding = form }
modes_after (ClearMouseEncoding form) modes =
    record modes { mouse_encoding = mouse_encoding_without modes.mouse_encoding form }
modes_after (SetCursorStyle look) modes = record modes { cursor_style = look }
