use Rattle.vt_screen.proofs.RepeatRead.{written_end, written_nothing, written_run}
use Rattle.vt_screen.proofs.repeats.write_repeating.Goals as goal

pub loop-run-init : goal.loop-run-init
loop-run-init g c = record {
  utf8 = c.utf8.text;
  written = written_nothing c.args.repeat c.args.cols c.args.room c.args.text.now (g.S.Sink.text c.args.sink.now);
}

pub loop-run-preserved : goal.loop-run-preserved
loop-run-preserved g c =
    let l = c.loop-run in
    let text = g.S.Sink.text in
    let run = c.in-Some.run' in
    let finds = c.in-Some.ensures in record {
      utf8 = finds.utf8;
      written = written_run c.args.repeat c.args.cols c.args.room l.left run.room c.args.text.now l.rest.now (text c.args.sink.now)
          (text l.sink) run.front.now run.back.now (text c.write_str.new.self) (text c.write_repeat.new.sink) run.count
          l.invariant.written finds c.in_ok-write_str.ensures.ok c.in_ok-write_repeat.ensures;
    }

pub returns-clause-repeats : goal.returns-clause-repeats
returns-clause-repeats g c _ =
    let l = c.loop-run in
    let text = g.S.Sink.text in
    written_end c.args.repeat c.args.cols c.args.room l.left c.args.text.now l.rest.now (text c.args.sink.now)
    (text l.sink) (text c.write_str-2.new.self) l.invariant.written c.in_ok-write_str-2.ensures.ok
