use Rattle.std.proofs.Common.{inl, inr, rules}
use Rattle.std.proofs.KnownBytes.{Keeps-refl}
use Rattle.vt_mirror.proofs.Updating.{begun_written, ended_written, fails_first, fails_later, next_written}
use Rattle.vt_mirror.proofs.Updating.{stops_reading, stops_refused, stops_written, stretch_few}
use Rattle.vt_mirror.proofs.engine.run_viewer.Goals as goal

pub loop-init : goal.loop-init
loop-init g c =
    begun_written c.args.every c.args.viewer c.args.mirror.now c.write_update.new.mirror
    (g.R.Read.remaining c.args.reader.now) (g.W.Write.contents c.args.writer.now)
    (g.W.Write.contents c.write_update.new.writer) c.requires.nonempty c.requires.begun c.in_ok-write_update.ensures.writes

pub returns-in_err-write_update : goal.returns-in_err-write_update
returns-in_err-write_update g c = record {
  end = search rules;
  text = search rules;
  read = search rules;
  memory = search rules;
  write = λ e.
      inl (fails_first c.args.viewer c.args.mirror.now c.write_update.new.mirror
      (g.R.Read.remaining c.args.reader.now) (g.W.Write.contents c.args.writer.now)
      (g.W.Write.contents c.write_update.new.writer) c.requires.begun
      (c.in_err-write_update.ensures.part (search rules)));
}

pub returns-in_err-is_whole : goal.returns-in_err-is_whole
returns-in_err-is_whole g c = record {
  end = search rules;
  text = search rules;
  read = λ e.
      stops_reading c.args.every c.args.viewer c.args.mirror.now c.loop.mirror (g.R.Read.remaining c.args.reader.now)
      (g.R.Read.remaining c.loop.reader) (g.R.Read.remaining c.read_stretch.new.reader)
      (g.W.Write.contents c.args.writer.now) (g.W.Write.contents c.loop.writer) c.loop.invariant
      (c.in_err-is_whole.ensures.read (search rules));
  memory = λ e.
      inr (stops_refused c.args.every c.args.viewer c.args.mirror.now c.loop.mirror
      (g.R.Read.remaining c.args.reader.now) (g.R.Read.remaining c.loop.reader)
      (g.R.Read.remaining c.read_stretch.new.reader) (g.W.Write.contents c.args.writer.now)
      (g.W.Write.contents c.loop.writer) (g.W.Write.contents c.loop.writer) c.loop.invariant
      (c.in_err-is_whole.ensures.memory (search rules)) (Keeps-refl (g.W.Write.contents c.loop.writer)));
  write = search rules;
}

pub returns-in_err-write_update-2 : goal.returns-in_err-write_update-2
returns-in_err-write_update-2 g c = record {
  end = search rules;
  text = search rules;
  read = search rules;
  memory = λ e.
      inr (stops_refused c.args.every c.args.viewer c.args.mirror.now c.loop.mirror
      (g.R.Read.remaining c.args.reader.now) (g.R.Read.remaining c.loop.reader)
      (g.R.Read.remaining c.read_stretch.new.reader) (g.W.Write.contents c.args.writer.now)
      (g.W.Write.contents c.loop.writer) (g.W.Write.contents c.write_update-in-loop.new.writer) c.loop.invariant
      (stretch_few c.args.every c.in_ok-is_whole.is_whole c.loop.mirror c.read_stretch.new.mirror
      (g.R.Read.remaining c.loop.reader) (g.R.Read.remaining c.read_stretch.new.reader)
      c.in_ok-is_whole.ensures.stretch)
      (c.in_err-write_update-2.ensures.memory (search rules)));
  write = λ e.
      inr (fails_later c.args.every c.args.viewer c.in_ok-is_whole.is_whole c.args.mirror.now c.loop.mirror
      c.read_stretch.new.mirror c.write_update-in-loop.new.mirror
      (g.R.Read.remaining c.args.reader.now) (g.R.Read.remaining c.loop.reader)
      (g.R.Read.remaining c.read_stretch.new.reader) (g.W.Write.contents c.args.writer.now)
      (g.W.Write.contents c.loop.writer) (g.W.Write.contents c.write_update-in-loop.new.writer)
      c.requires.begun.scanner c.loop.invariant c.in_ok-is_whole.ensures.stretch
      (c.in_err-write_update-2.ensures.part (search rules)));
}

pub returns-then-not-is_whole : goal.returns-then-not-is_whole
returns-then-not-is_whole g c = record {
  end = search rules;
  text =
      ended_written c.args.every c.args.viewer c.in_ok-is_whole.is_whole c.args.mirror.now c.loop.mirror
      c.read_stretch.new.mirror c.write_update-in-loop.new.mirror
      (g.R.Read.remaining c.args.reader.now) (g.R.Read.remaining c.loop.reader)
      (g.R.Read.remaining c.read_stretch.new.reader) (g.W.Write.contents c.args.writer.now)
      (g.W.Write.contents c.loop.writer) (g.W.Write.contents c.write_update-in-loop.new.writer)
      (search rules) c.requires.begun.scanner c.loop.invariant c.in_ok-is_whole.ensures.stretch
      c.in_ok-write_update-2.ensures.writes;
  read = search rules;
  memory = search rules;
  write = search rules;
}

pub loop-preserved : goal.loop-preserved
loop-preserved g c =
    next_written c.args.every c.args.viewer c.in_ok-is_whole.is_whole c.args.mirror.now c.loop.mirror
    c.read_stretch.new.mirror c.write_update-in-loop.new.mirror
    (g.R.Read.remaining c.args.reader.now) (g.R.Read.remaining c.loop.reader)
    (g.R.Read.remaining c.read_stretch.new.reader) (g.W.Write.contents c.args.writer.now)
    (g.W.Write.contents c.loop.writer) (g.W.Write.contents c.write_update-in-loop.new.writer)
    (search rules) c.requires.nonempty c.requires.begun.scanner c.loop.invariant c.in_ok-is_whole.ensures.stretch
    c.in_ok-write_update-2.ensures.writes

pub returns : goal.returns
returns g c = record {
  end = search rules;
  text = search rules;
  read = λ e.
      stops_written c.args.every c.args.viewer c.args.mirror.now c.loop.mirror (g.R.Read.remaining c.args.reader.now)
      (g.R.Read.remaining c.loop.reader) (g.W.Write.contents c.args.writer.now) (g.W.Write.contents c.loop.writer)
      c.loop.invariant;
  memory = search rules;
  write = search rules;
}
