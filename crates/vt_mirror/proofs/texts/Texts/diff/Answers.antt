use Rattle.std.proofs.Common.{◌≡◌, Bool, true, false, Some, if◌then◌else◌, inl, inr, rules, sym, ◌∙◌}
use Rattle.vt_mirror.specs.Kept.{HoldsDiff}
use Rattle.vt_mirror.specs.declared.texts.KeptDiff.{KeptDiff}
use Rattle.vt_mirror.specs.declared.texts.Texts.{Texts}
use Rattle.vt_mirror.proofs.texts.Texts.diff.Goals as goal

held_at : (scroll : Bool) (texts : Texts) (diff : KeptDiff) →
    (if scroll then texts.scrolling else texts.drawn) ≡ Some diff → HoldsDiff texts diff
held_at true texts diff e = inr e
held_at false texts diff e = inl e

pub returns-in-Some : goal.returns-in-Some
returns-in-Some c = (
  c.in-Some.diff,
  held_at c.args.options.scroll c.args.self.now c.in-Some.diff (sym c.last_diff.ensures ∙ c.in-Some.is),
  c.is_of_version.ensures.equal.0 c.if-is_of_version.true,
  record { options_are = search rules; text_is = sym c.as_str.ensures.value },
)
