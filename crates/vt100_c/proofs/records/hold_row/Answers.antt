use Rattle.std.proofs.Common.{All, length, subst, sym, is_ok}
use Rattle.std.proofs.lemmas.List.Elements.{All-set}
use Rattle.vt_rows.specs.Row.{IsRow, RowValue}
use Rattle.vt100_c.proofs.Logging.{sound_with}
use Rattle.vt100_c.proofs.records.hold_row.Goals as goal

pub returns-clause-sound : goal.returns-clause-sound
returns-clause-sound c =
    sound_with c.reserve.new.self.items c.in_ok-kept.kept c.push.new.self.items (is_ok c.push.result)
    (subst (All (λ (r : RowValue). IsRow (length r.cells) r)) (sym c.in_ok-reserve.ensures.items) c.requires.sound)
    c.in_ok-kept.ensures.sound c.push.ensures.items

pub returns-then-count-len-clause-sound : goal.returns-then-count-len-clause-sound
returns-then-count-len-clause-sound c =
    All-set (λ (r : RowValue). IsRow (length r.cells) r) c.args.rows.now.items c.args.count c.replace.new.place
    c.replace.ensures.sound c.requires.sound
