use Rattle.std.proofs.Common.{rules, sym}
use Rattle.vt_mirror.proofs.texts.Texts.redraw.Goals as goal

pub returns-in-Some : goal.returns-in-Some
returns-in-Some c = (
  c.in-Some.kept,
  c.in-Some.is,
  record { form_is = search rules; text_is = sym c.as_str.ensures.value },
)
