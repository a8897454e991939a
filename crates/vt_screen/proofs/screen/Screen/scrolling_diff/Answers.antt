use Rattle.std.proofs.Common.{string_bytes}
use Rattle.vt_screen.proofs.AgainForms.{or_plain}
use Rattle.vt_screen.proofs.screen.Screen.scrolling_diff.Goals as goal

pub returns-clause-text : goal.returns-clause-text
returns-clause-text c =
    let moving = c.in_ok-moving.ensures in
    let is = c.in_ok-shortest.ensures in
    or_plain c.args.form c.args.self.now c.args.prev.now (string_bytes c.in_ok-moving.moving)
    (string_bytes c.in_ok-shortest.shortest) is.whole is.colored is.text moving.text moving.has
