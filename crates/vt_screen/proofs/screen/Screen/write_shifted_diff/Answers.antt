use Rattle.std.proofs.Common.{◌∷◌, ◌++◌, ap, length, subst, sym, ◌∙◌}
use Rattle.vt_cells.specs.Attrs.{Attrs}
use Rattle.vt_cells.specs.Op.{bytes_of_all}
use Rattle.vt_grid.specs.Page.{Page}
use Rattle.vt_redraw.specs.Picture.{Picture, SamePictureSize}
use Rattle.vt_redraw.specs.Redraw.{difference}
use Rattle.vt_redraw.specs.Script.{attr_ops}
use Rattle.vt_redraw.specs.Shifted.{in_default_attrs}
use Rattle.vt_redraw.proofs.Moving.{shifted_size}
use Rattle.vt_screen.specs.Shown.{display}
use Rattle.vt_screen.proofs.ReadShifted.{first_inside, on_ok, shifted_is_page, shifted_view, shifting_written}
use Rattle.vt_screen.proofs.Shown.{shown_height, same_shown}
use Rattle.vt_screen.proofs.screen.Screen.write_shifted_diff.Goals as goal

pub write_row_shifts-requires-clause-size : goal.write_row_shifts-requires-clause-size
write_row_shifts-requires-clause-size g c =
    subst (λ (p : Picture). SamePictureSize p c.view-2.result) (sym c.view.ensures.value)
    (subst (λ (p : Picture). SamePictureSize (display c.args.self.now) p) (sym c.view-2.ensures.value)
    (same_shown c.args.self.now c.args.prev.now c.requires.size))

pub write_row_shifts-requires-clause-height : goal.write_row_shifts-requires-clause-height
write_row_shifts-requires-clause-height g c =
    ap (λ (p : Page). length p.rows) c.requires.page
    ∙ (sym (shown_height c.args.prev.now) ∙ ap (λ (p : Picture). length p.rows) (sym c.view-2.ensures.value))

pub write_row_shifts-requires-clause-first : goal.write_row_shifts-requires-clause-first
write_row_shifts-requires-clause-first g c =
    first_inside c.args.prev.now c.args.grid.now c.args.first c.requires.page c.requires.first

pub view_of-requires-clause-page : goal.view_of-requires-clause-page
view_of-requires-clause-page g c =
    let text = g.S.Sink.text in
    shifted_is_page c.args.prev.now c.args.first (text c.write_change.new.sink) (text c.write_row_shifts.new.sink)
    c.args.grid.now c.write_row_shifts.new.grid c.view-2.ensures.whole c.requires.page
    c.in_ok-write_row_shifts.ensures

pub write_contents_diff-requires : goal.write_contents_diff-requires
write_contents_diff-requires g c =
    let text = g.S.Sink.text in
    let self = c.args.self.now in
    let prev = c.args.prev.now in
    let shifts = c.in_ok-write_row_shifts.ensures in
    let same = same_shown self prev c.requires.size in
    subst (λ (p : Picture). SamePictureSize p c.view_of.result) (sym c.view-3.ensures.value)
    (subst (λ (p : Picture). SamePictureSize (display self) p)
    (sym
    (c.view_of.ensures
    ∙ shifted_view prev c.args.first (text c.write_change.new.sink) (text c.write_row_shifts.new.sink)
    c.args.grid.now c.write_row_shifts.new.grid c.view-2.ensures.whole c.requires.own c.requires.page shifts))
    (shifted_size (display self) (in_default_attrs (display prev)) (c.args.first ∷ shifts.rest)
    (record { width = same.width; height = same.height })))

pub returns : goal.returns
returns g c =
    let text = g.S.Sink.text in
    let self = c.args.self.now in
    let prev = c.args.prev.now in
    let start = text c.args.sink.now in
    let changed = text c.write_change.new.sink in
    let shifted = text c.write_row_shifts.new.sink in
    let done = text c.write_contents_diff.new.sink in
    let before = c.args.grid.now in
    let after = c.write_row_shifts.new.grid in
    let shifts = c.in_ok-write_row_shifts.ensures in
    on_ok c.write_contents_diff.result _ _
    (λ bytes. shifting_written self prev c.args.first start changed shifted done before after c.view_of.result
    c.requires.page
    (c.in_ok-write_change.ensures.text
    ∙ (ap (λ (a : Attrs). start ++ bytes_of_all (attr_ops a c.new.result)) c.attrs.ensures
    ∙ ap (λ (a : Attrs). start ++ bytes_of_all (attr_ops prev.attrs a)) c.new.ensures))
    shifts
    (c.view_of.ensures
    ∙ shifted_view prev c.args.first changed shifted before after c.view-2.ensures.whole c.requires.own c.requires.page
    shifts)
    (bytes
    ∙ ap (λ (p : Picture). shifted ++ bytes_of_all (difference p c.view_of.result)) c.view-3.ensures.value))
    c.write_contents_diff.ensures.text
