use Rattle.std.proofs.Common.{◌≡◌, ◌-◌, ◌∙◌, ℕ, ap, get_or, max, subst, sym, []}
use Rattle.vt_cells.specs.Op.{csi}
use Rattle.vt_scan.specs.Parameters.{GroupTable}
use Rattle.vt_screen.specs.Internals.{KeepsRoom}
use Rattle.vt_screen.proofs.RepeatRooms.{keeps_column, keeps_place, keeps_right}
use Rattle.vt_screen.proofs.repeats.room_after.Goals as goal

pub returns-in-67 : goal.returns-in-67
returns-in-67 c text is e =
    let same : c.saturating_sub.result ≡ c.args.room - max (get_or (get_or c.args.parameters.now.groups 0 []) 0 0) 1 =
    c.saturating_sub.ensures
    ∙ ap (λ (k : ℕ). c.args.room - k) (c.max.ensures ∙ ap (λ (k : ℕ). max k 1) c.number.ensures) in
    subst (λ (f : ℕ). KeepsRoom c.args.cols c.args.room c.saturating_sub.result (csi text f)) (sym c.in-67.is)
    (subst (λ (k : ℕ). KeepsRoom c.args.cols c.args.room k (csi text 0x43))
    (sym (same ∙ ap (λ (t : GroupTable). c.args.room - max (get_or (get_or t.groups 0 []) 0 0) 1) e))
    (keeps_right c.args.cols c.args.room text is))

pub returns-in-71 : goal.returns-in-71
returns-in-71 c text is e =
    let same : c.room_from.result ≡ c.args.cols - (max (get_or (get_or c.args.parameters.now.groups 0 []) 0 0) 1 - 1) =
    c.room_from.ensures ∙ ap (λ (k : ℕ). c.args.cols - (max k 1 - 1)) c.number-in-71.ensures in
    subst (λ (f : ℕ). KeepsRoom c.args.cols c.args.room c.room_from.result (csi text f)) (sym c.in-71.is)
    (subst (λ (k : ℕ). KeepsRoom c.args.cols c.args.room k (csi text 0x47))
    (sym (same ∙ ap (λ (t : GroupTable). c.args.cols - (max (get_or (get_or t.groups 0 []) 0 0) 1 - 1)) e))
    (keeps_column c.args.cols c.args.room text is))

pub returns-in-72 : goal.returns-in-72
returns-in-72 c text is e =
    let same : c.room_from-in-72.result ≡ c.args.cols - (max (get_or (get_or c.args.parameters.now.groups 1 []) 0 0) 1 - 1) =
    c.room_from-in-72.ensures ∙ ap (λ (k : ℕ). c.args.cols - (max k 1 - 1)) c.number-in-72.ensures in
    subst (λ (f : ℕ). KeepsRoom c.args.cols c.args.room c.room_from-in-72.result (csi text f)) (sym c.in-72.is)
    (subst (λ (k : ℕ). KeepsRoom c.args.cols c.args.room k (csi text 0x48))
    (sym (same ∙ ap (λ (t : GroupTable). c.args.cols - (max (get_or (get_or t.groups 1 []) 0 0) 1 - 1)) e))
    (keeps_place c.args.cols c.args.room text is))
