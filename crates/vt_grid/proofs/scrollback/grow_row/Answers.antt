use Rattle.std.proofs.Common.{◌∷◌, [], length, ◌∙◌, arith}
use Rattle.vt_grid.proofs.Growing.{spare_blank, spare_width, grown_narrow}
use Rattle.vt_grid.proofs.scrollback.grow_row.Goals as goal

pub refit-requires-clause-blank : goal.refit-requires-clause-blank
refit-requires-clause-blank c =
    rw c.replace-from.ensures.after
    (spare_blank c.args.columns (c.args.row.now ∷ []) c.args.spare.now.items
    c.pop.new.self.items c.in-Some.blank c.requires.spare c.in-Some.ensures.items)

pub returns-in-Some-clause-row : goal.returns-in-Some-clause-row
returns-in-Some-clause-row c =
    let wide = spare_width c.args.columns (c.args.row.now ∷ []) c.args.spare.now.items
    c.pop.new.self.items c.in-Some.blank c.requires.spare c.in-Some.ensures.items in
    rw (c.replace-from.ensures.after, c.replace-from.ensures.value) at c.refit.ensures
    ∙ grown_narrow c.args.columns (length c.in-Some.blank.cells) c.args.row.now wide (omega arith)
