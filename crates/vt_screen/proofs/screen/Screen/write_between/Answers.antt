use Rattle.std.proofs.Common.{◌<◌, ◌+◌, ◌-◌, ◌++◌, List, ℕ, sym, ap, ◌∙◌, arith}
use Rattle.vt_cells.proofs.Sinks.{on_err}
use Rattle.vt_redraw.proofs.WriterSteps.{grown}
use Rattle.std.specs.List.{flat_map, range_with_len}
use Rattle.std.proofs.lemmas.List.{append_assoc}
use Rattle.vt_screen.specs.Contents.{part_of}
use Rattle.vt_screen.proofs.MadeContents.{part_some, parts_more}
use Rattle.vt_screen.proofs.screen.Screen.write_between.Goals as goal

pub loop-row-preserved : goal.loop-row-preserved
loop-row-preserved g c =
    let r = c.loop-row.row in
    let past = c.past_row-past.result in
    let part = part_of c.args.start.row c.args.start.col c.args.end.row c.args.end.col c.args.self.now in
    let rest = flat_map part (range_with_len (r + 1) (past - (r + 1))) in
    let before : r < past = omega arith in
    let now = g.S.Sink.text c.loop-row.sink in
    let longer = grown now (part r) (g.S.Sink.text c.write_part.new.sink) c.in_ok-write_part.ensures.text in
    let first = c.loop-row.invariant.1 in (
      ap (λ (xs : List ℕ). xs ++ rest) c.in_ok-write_part.ensures.text
          ∙ (append_assoc (g.S.Sink.text c.loop-row.sink) (part r) rest
          ∙ (ap (λ (xs : List ℕ). g.S.Sink.text c.loop-row.sink ++ xs) (sym (parts_more part r past before))
          ∙ c.loop-row.invariant.0)),
      omega (arith, longer, first),
    )

pub returns-in_err-write_part-clause-nonempty : goal.returns-in_err-write_part-clause-nonempty
returns-in_err-write_part-clause-nonempty g c =
    let r = c.loop-row.row in
    let past = c.past_row-past.result in
    let part = part_of c.args.start.row c.args.start.col c.args.end.row c.args.end.col c.args.self.now in
    let rest = flat_map part (range_with_len (r + 1) (past - (r + 1))) in
    let before : r < past = omega arith in
    let now = g.S.Sink.text c.loop-row.sink in
    on_err c.from_residual.result
    (part_some (g.S.Sink.text c.args.sink.now) now (part r) rest _
    (ap (λ (xs : List ℕ). now ++ xs) (sym (parts_more part r past before)) ∙ c.loop-row.invariant.0)
    c.loop-row.invariant.1 c.in_err-write_part.ensures.nonempty)
