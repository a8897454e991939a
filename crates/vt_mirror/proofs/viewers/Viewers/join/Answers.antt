use Rattle.std.proofs.Common.{Some, ap, refl, sym}
use Rattle.vt_mirror.specs.Kept.{KeptValue, current_in, screens_of}
use Rattle.vt_mirror.specs.Mirror.{ViewersValue}
use Rattle.vt_mirror.proofs.Bookkeeping.{if_taken, joined_viewers}
use Rattle.vt_mirror.proofs.Sharing.{current_joined}
use Rattle.vt_mirror.proofs.viewers.Viewers.join.Goals as goal

pub returns-clause-current : goal.returns-clause-current
returns-clause-current c =
    let old : ViewersValue =
    record { last = c.self.inside.last; numbers = c.self.inside.numbers.keys; notes = screens_of c.self.inside.notes.entries } in
    current_joined c.args.self.now.current_viewers old (record old { last = Some c.in-Some.viewer; numbers = c.insert.new.self.keys })
    c.self.inside.notes.entries c.self.inside.current
    (current_in c.insert.new.self.keys c.self.inside.notes.entries c.self.inside.current)
    c.self.invariant.viewers refl
    (joined_viewers old c.in-Some.viewer c.self.inside.numbers c.insert.new.self refl
    (if_taken c.insert.result _ (sym c.if-is_err.ensures.value) c.insert.ensures.updates)
    c.self.invariant.viewers c.in-Some.ensures.some.0)
    refl (ap (λ (k : KeptValue). k.current_viewers) c.self.view_is) refl
