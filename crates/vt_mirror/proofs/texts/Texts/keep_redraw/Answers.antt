use Rattle.std.proofs.Common.{inr, refl}
use Rattle.vt_mirror.proofs.texts.Texts.keep_redraw.Goals as goal

pub returns : goal.returns
returns c =
    inr (
      record { portable = c.args.portable; text = c.in-Ok.text },
      refl,
      record { form_is = refl; text_is = c.in-Ok.ensures.ok },
    )
