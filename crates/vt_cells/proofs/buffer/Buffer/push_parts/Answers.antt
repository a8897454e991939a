use Rattle.std.proofs.Common.{[], ◌∷◌, arith}
use Rattle.vt_cells.proofs.Texts.{appends_one, appends_then}
use Rattle.vt_cells.proofs.buffer.Buffer.push_parts.Goals as goal

pub returns : goal.returns
returns c =
    let lead = c.args.lead in
    let layer = c.args.layer in
    let red = c.args.red in
    let green = c.args.green in
    let blue = c.args.blue in
    let l = c.push_number in
    let m = c.push_number-2 in
    let r = c.push_number-3 in
    let g = c.push_number-4 in
    let b = c.push_number-5 in
    appends_then _ _ _ lead 0x3B 0x3B 4 16 (layer ∷ []) (2 ∷ red ∷ green ∷ blue ∷ [])
    (appends_one _ _ lead layer 4 (omega arith) l.ensures.value l.ensures.room)
    (appends_then _ _ _ 0x3B 0x3B 0x3B 4 12 (2 ∷ []) (red ∷ green ∷ blue ∷ [])
    (appends_one _ _ 0x3B 2 4 (omega arith) m.ensures.value m.ensures.room)
    (appends_then _ _ _ 0x3B 0x3B 0x3B 4 8 (red ∷ []) (green ∷ blue ∷ [])
    (appends_one _ _ 0x3B red 4 (omega arith) r.ensures.value r.ensures.room)
    (appends_then _ _ _ 0x3B 0x3B 0x3B 4 4 (green ∷ []) (blue ∷ [])
    (appends_one _ _ 0x3B green 4 (omega arith) g.ensures.value g.ensures.room)
    (appends_one _ _ 0x3B blue 4 (omega arith) b.ensures.value b.ensures.room))))
