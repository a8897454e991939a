-- The model values that represent calls to callbacks.
use Rattle.std.specs.Prelude.{map}
use Rattle.vt_screen.specs.Calls as value
use Rattle.vt_screen.specs.Calls.{CallValue}
use Rattle.vt_screen.specs.declared.callbacks.Call.{Call}
use Rattle.vt_screen.specs.declared.callbacks.Call.TheVariants as call

-- The model value that represents a call to a callback and its arguments.
abbrev pub call_of : Call → CallValue
call_of call.AudibleBell = value.AudibleBell
call_of call.VisualBell = value.VisualBell
call_of (call.Resize size) = value.Resize size.0 size.1
call_of (call.SetWindowIconName name) = value.SetWindowIconName name.now
call_of (call.SetWindowTitle title) = value.SetWindowTitle title.now
call_of (call.CopyToClipboard kind text) = value.CopyToClipboard kind.now text.now
call_of (call.PasteFromClipboard kind) = value.PasteFromClipboard kind.now
call_of (call.UnhandledChar code) = value.UnhandledChar code
call_of (call.UnhandledControl byte) = value.UnhandledControl byte
call_of (call.UnhandledEscape first second byte) = value.UnhandledEscape first second byte
call_of (call.UnhandledCsi first second groups byte) =
    value.UnhandledCsi first second (map (λ group. group.now) groups.now) byte
call_of (call.UnhandledOsc parts) = value.UnhandledOsc (map (λ part. part.now) parts.now)
