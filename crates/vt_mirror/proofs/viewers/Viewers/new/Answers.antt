use Rattle.std.proofs.Common.{None, subst, sym}
use Rattle.vt_mirror.specs.Kept.{AreKept, copies_of, screens_of}
use Rattle.vt_mirror.specs.declared.texts.Texts.{Texts}
use Rattle.vt_mirror.proofs.Keeping.{fresh_kept}
use Rattle.vt_mirror.proofs.viewers.Viewers.new.Goals as goal

pub invariant_of-result : goal.invariant_of-result
invariant_of-result c =
    subst (λ (t : Texts). AreKept
    (record { last = None; numbers = c.new.result.keys; notes = screens_of c.new-2.result.entries })
    (copies_of c.new-2.result.entries None t) 0) (sym c.new-3.ensures)
    (fresh_kept c.new.result.keys c.new-2.result.entries c.new.ensures.empty c.new-2.ensures.empty)
