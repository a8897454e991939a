-- The two calls of OSC 0.
use Rattle.std.proofs.Common.{sym, ◌∙◌}
use Rattle.vt_screen.specs.Calls.{SetWindowIconName, SetWindowTitle}
use Rattle.vt100.proofs.Stepping.{named_both, called_twice}
use Rattle.vt100.proofs.osc.title.Goals as goal

pub returns-then-is_text : goal.returns-then-is_text
returns-then-is_text g c =
    rw (named_both c.args.name.now c.args.text.now (sym c.is_text.ensures ∙ c.if-is_text.true))
    (called_twice g.CB.Callbacks.does (SetWindowIconName c.args.text.now) (SetWindowTitle c.args.text.now)
    _ _ _ _ _ _ c.set_window_icon_name.ensures c.set_window_title.ensures)
