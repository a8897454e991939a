use Rattle.std.proofs.Common.{◌≡◌, ◌+◌, ◌*◌, ◌-◌, ◌≤◌, ◌∙◌, ℕ, length, vec_len, refl, sym, ap, subst, arith}
use Rattle.std.specs.List.{CopiedTo, SameBelow, SameFrom}
use Rattle.vt_grid.specs.declared.flat.Line.{Line}
use Rattle.vt_grid.specs.Flat.{line_at}
use Rattle.vt_grid.proofs.Flats.{place_inside}
use Rattle.vt_grid.proofs.Packing.{IsStored-traded, rows_in-traded, traded}
use Rattle.vt_grid.proofs.flat.Flat.trade.Goals as goal

pub copy_within-requires-clause-in_bounds : goal.copy_within-requires-clause-in_bounds
copy_within-requires-clause-in_bounds c =
    let flat = c.args.self.now in
    let lines = flat.lines.items in
    let place : c.from.result ≡ (line_at lines c.args.row).place =
    c.from.ensures
    ∙ ap (λ (x : Line). x.place) c.get-line.ensures in
    let fits = place_inside c.from.result (length lines) flat.columns.stored
    (omega (arith, place, c.requires.flat.table.inside c.args.row c.requires.row)) in
    subst (λ (w : ℕ). c.from.result * w + w ≤ vec_len flat.cells) (sym c.from-stored.ensures)
    (omega (arith, fits, c.requires.flat.table.filled, flat.cells.ok.0))

pub copy_within-requires-clause-dest_in_bounds : goal.copy_within-requires-clause-dest_in_bounds
copy_within-requires-clause-dest_in_bounds c =
    let flat = c.args.self.now in
    let lines = flat.lines.items in
    let place : c.from-2.result ≡ (line_at lines c.args.other).place =
    c.from-2.ensures
    ∙ ap (λ (x : Line). x.place) c.get.ensures in
    let fits = place_inside c.from-2.result (length lines) flat.columns.stored
    (omega (arith, place, c.requires.flat.table.inside c.args.other c.requires.other)) in
    subst (λ (w : ℕ). c.from-2.result * w + (c.from.result * w + w - c.from.result * w) ≤ vec_len flat.cells)
    (sym c.from-stored.ensures) (omega (arith, fits, c.requires.flat.table.filled, flat.cells.ok.0))

pub returns-clause-flat : goal.returns-clause-flat
returns-clause-flat c =
    let flat = c.args.self.now in
    let lines = flat.lines.items in
    let cells = flat.cells.items in
    let after = c.copy_within.new.self.items in
    let table = traded c.args.row c.args.other lines c.set.new.self.items c.set-2.new.self.items
    c.get-line.result.now c.get.result.now c.requires.row c.requires.other c.requires.apart
    c.get-line.ensures c.get.ensures c.set.ensures c.set-2.ensures in
    let size : length after ≡ length cells =
    sym c.copy_within.new.self.ok.0 ∙ (c.copy_within.ensures.len ∙ flat.cells.ok.0) in
    let place : c.from.result ≡ (line_at lines c.args.row).place =
    c.from.ensures
    ∙ ap (λ (x : Line). x.place) c.get-line.ensures in
    let free : c.from-2.result ≡ (line_at lines c.args.other).place =
    c.from-2.ensures
    ∙ ap (λ (x : Line). x.place) c.get.ensures in
    let w = c.from-stored.result in
    let start : c.from.result * w ≡ (line_at lines c.args.row).place * flat.columns.stored =
    λ z. place z * c.from-stored.ensures z in
    let to : c.from-2.result * w ≡ (line_at lines c.args.other).place * flat.columns.stored =
    λ z. free z * c.from-stored.ensures z in
    let count : c.from.result * w + w - c.from.result * w ≡ flat.columns.stored = omega (arith, c.from-stored.ensures) in
    let by_index = c.copy_within.ensures.by_index in
    IsStored-traded flat.columns c.args.row c.args.other flat.columns.stored cells after lines _
    c.requires.row c.requires.other c.requires.apart size refl
    (subst (λ (x : ℕ × (ℕ × ℕ)). CopiedTo cells after x.0 x.1.0 x.1.1) (λ z. (start z, (to z, count z))) by_index.0)
    (subst (λ (x : ℕ). SameBelow cells after x) to by_index.1)
    (subst (λ (x : ℕ × ℕ). SameFrom cells after (x.0 + x.1)) (λ z. (to z, count z)) by_index.2) table c.requires.flat

pub returns-clause-rows : goal.returns-clause-rows
returns-clause-rows c =
    let flat = c.args.self.now in
    let lines = flat.lines.items in
    let cells = flat.cells.items in
    let after = c.copy_within.new.self.items in
    let table = traded c.args.row c.args.other lines c.set.new.self.items c.set-2.new.self.items
    c.get-line.result.now c.get.result.now c.requires.row c.requires.other c.requires.apart
    c.get-line.ensures c.get.ensures c.set.ensures c.set-2.ensures in
    let size : length after ≡ length cells =
    sym c.copy_within.new.self.ok.0 ∙ (c.copy_within.ensures.len ∙ flat.cells.ok.0) in
    let place : c.from.result ≡ (line_at lines c.args.row).place =
    c.from.ensures
    ∙ ap (λ (x : Line). x.place) c.get-line.ensures in
    let free : c.from-2.result ≡ (line_at lines c.args.other).place =
    c.from-2.ensures
    ∙ ap (λ (x : Line). x.place) c.get.ensures in
    let w = c.from-stored.result in
    let start : c.from.result * w ≡ (line_at lines c.args.row).place * flat.columns.stored =
    λ z. place z * c.from-stored.ensures z in
    let to : c.from-2.result * w ≡ (line_at lines c.args.other).place * flat.columns.stored =
    λ z. free z * c.from-stored.ensures z in
    let count : c.from.result * w + w - c.from.result * w ≡ flat.columns.stored = omega (arith, c.from-stored.ensures) in
    let by_index = c.copy_within.ensures.by_index in
    rows_in-traded flat.columns c.args.row c.args.other flat.columns.stored cells after lines _
    c.requires.row c.requires.other size refl
    (subst (λ (x : ℕ × (ℕ × ℕ)). CopiedTo cells after x.0 x.1.0 x.1.1) (λ z. (start z, (to z, count z))) by_index.0)
    (subst (λ (x : ℕ). SameBelow cells after x) to by_index.1)
    (subst (λ (x : ℕ × ℕ). SameFrom cells after (x.0 + x.1)) (λ z. (to z, count z)) by_index.2) table c.requires.flat.table
