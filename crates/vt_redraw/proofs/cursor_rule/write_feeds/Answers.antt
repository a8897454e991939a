use Rattle.std.proofs.Common.{◌++◌, ap, sym, ◌∙◌, append_assoc, [], ◌∷◌}
use Rattle.std.specs.Prelude.{replicate}
use Rattle.vt_cells.specs.Op.{LineFeed, bytes_of_all}
use Rattle.vt_redraw.proofs.Filling.{feeds_more}
use Rattle.vt_redraw.proofs.cursor_rule.write_feeds.Goals as goal

pub loop-preserved : goal.loop-preserved
loop-preserved g c =
    let l = c.loop in
    let start = g.S.Sink.text c.args.sink.now in
    c.in_ok-write_buf.ensures.text
    ∙ (ap (λ text. text ++ 0x0A ∷ []) l.invariant
    ∙ (append_assoc start (bytes_of_all (replicate l.counter LineFeed)) (0x0A ∷ [])
    ∙ ap (λ bytes. start ++ bytes) (sym (feeds_more l.counter))))
