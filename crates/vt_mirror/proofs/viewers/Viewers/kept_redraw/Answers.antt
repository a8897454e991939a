use Rattle.std.proofs.Common.{◌≡◌, IfSome, Some, subst}
use Rattle.vt_mirror.specs.Kept.{IsRedrawKeptAs, KeptValue}
use Rattle.vt_mirror.specs.declared.texts.KeptRedraw.{KeptRedraw}
use Rattle.vt_mirror.proofs.viewers.Viewers.kept_redraw.Goals as goal

pub returns : goal.returns
returns c =
    subst (λ (k : KeptValue). IfSome c.redraw.result (λ text. (kept : KeptRedraw) × (k.texts.redraw ≡ Some kept)
    × IsRedrawKeptAs c.args.portable text.now kept))
    c.self.view_is c.redraw.ensures
