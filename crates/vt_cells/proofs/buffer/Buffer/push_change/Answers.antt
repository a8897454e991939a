use Rattle.std.proofs.Common.{◌∷◌, ◌++◌, [], List, ℕ, ◌∙◌, ap, subst}
use Rattle.vt_cells.specs.Internals.{AppendsNumbers, numbers_after, style_part}
use Rattle.vt_cells.specs.Op.{change_numbers}
use Rattle.vt_cells.proofs.Attributes.{background_part, foreground_part}
use Rattle.vt_cells.proofs.Texts.{appends_then, change_parts, sequence_ended, sequence_without}
use Rattle.vt_cells.proofs.buffer.Buffer.push_change.Goals as goal
use Rattle.vt_cells.proofs.buffer.Buffer.push_change.Goals.{then-lead-eq91, else-lead-eq91}

pub returns-clause-value : goal.returns-clause-value
returns-clause-value c =
    let was = c.args.was in
    let new = c.args.new in
    let old = c.args.self.now in
    let front = c.push_foreground-lead in
    let back = c.push_background-lead in
    let style = c.push_style-lead in
    let ns = change_numbers was new in
    let all : AppendsNumbers c.push_byte.new.self style.new.self 0x5B style.result 56 ns =
    subst (AppendsNumbers c.push_byte.new.self style.new.self 0x5B style.result 56) (change_parts was new)
    (appends_then _ _ _ 0x5B front.result style.result 20 36 (foreground_part was new)
    (background_part was new ++ style_part was new) front.ensures
    (appends_then _ _ _ front.result back.result style.result 20 16 (background_part was new) (style_part was new)
    back.ensures style.ensures)) in
    let text = all.text ∙ ap (λ (xs : List ℕ). xs ++ numbers_after 0x5B ns) c.push_byte.ensures in
    c.push_byte-2.ensures ∙
    elim c.if-lead-eq91.branch [
      | then-lead-eq91 w ↦
          ap (λ (xs : List ℕ). xs ++ 0x6D ∷ []) (w.self-is ∙ w.push_byte-then-lead-eq91.ensures)
          ∙ sequence_without old style.new.self ns 0x6D style.result all.next w.if-lead-eq91.true text
      | else-lead-eq91 w ↦
          ap (λ (xs : List ℕ). xs ++ 0x6D ∷ []) w.self-is
          ∙ sequence_ended old style.new.self ns 0x6D style.result all.next w.if-lead-eq91.false text
    ]
