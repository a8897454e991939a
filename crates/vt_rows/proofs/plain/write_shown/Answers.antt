use Rattle.std.proofs.Common.{◌++◌, ◌∙◌, [], List, ℕ, ap, arith, drop, refl, subst}
use Rattle.std.specs.List.{flat_map}
use Rattle.std.proofs.lemmas.List.{length-drop, take_rest}
use Rattle.vt_cells.proofs.Sinks.{on_err, some_among}
use Rattle.vt_rows.specs.Basic.{shown_text}
use Rattle.vt_rows.specs.Internals.{Shows}
use Rattle.vt_rows.proofs.RowTexts.{shown_more, shown_start}
use Rattle.vt_rows.proofs.plain.write_shown.Goals as goal

pub loop-count-init : goal.loop-count-init
loop-count-init g c = record {
  bytes = shown_start (g.S.Sink.text c.args.sink.now) c.args.buffer.now (flat_map shown_text c.args.cells.now);
  grows = omega arith;
  inside = omega arith;
}

pub returns-in_err-make_room-clause-nonempty : goal.returns-in_err-make_room-clause-nonempty
returns-in_err-make_room-clause-nonempty g c =
    let l = c.loop-count in
    let some = c.in_err-make_room.ensures.nonempty refl in
    on_err c.from_residual.result
    (some_among (g.S.Sink.text c.args.sink.now) (g.S.Sink.text l.sink) l.buffer []
    (flat_map shown_text (drop l.count c.args.cells.now))
    (c.args.buffer.now ++ flat_map shown_text c.args.cells.now) l.invariant.bytes l.invariant.grows (omega (arith, some)))

pub loop-count-preserved : goal.loop-count-preserved
loop-count-preserved g c =
    let l = c.loop-count in
    let cells = c.args.cells.now in
    let shows : Shows c.make_room.new.self c.push_runs-count.new.buffer c.push_runs-count.result (drop l.count cells) =
    subst (Shows c.make_room.new.self c.push_runs-count.new.buffer c.push_runs-count.result) (take_rest cells l.count)
    c.push_runs-count.ensures.shows in
    let rest = flat_map shown_text (drop l.count cells) in
    record {
      bytes =
          shown_more (g.S.Sink.text c.make_room.new.sink) c.make_room.new.self c.push_runs-count.new.buffer l.count
          c.push_runs-count.result cells shows
          ∙ (ap (λ (xs : List ℕ). xs ++ rest) c.in_ok-make_room.ensures.text ∙ l.invariant.bytes);
      grows = omega (arith, l.invariant.grows, c.in_ok-make_room.ensures.grows);
      inside = omega (arith, l.invariant.inside, shows.inside, length-drop l.count cells);
    }

pub returns-in_err-flush-clause-nonempty : goal.returns-in_err-flush-clause-nonempty
returns-in_err-flush-clause-nonempty g c =
    let l = c.loop-count in
    let some = c.in_err-flush.ensures.nonempty refl in
    on_err c.from_residual-in_err-flush.result
    (some_among (g.S.Sink.text c.args.sink.now) (g.S.Sink.text l.sink) l.buffer []
    (flat_map shown_text (drop l.count c.args.cells.now))
    (c.args.buffer.now ++ flat_map shown_text c.args.cells.now) l.invariant.bytes l.invariant.grows (omega (arith, some)))
