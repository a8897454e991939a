use Rattle.std.proofs.Common.{ap, refl, rules, subst, ◌∙◌}
use Rattle.vt100.specs.Erasures.{CountsUntilStopped}
use Rattle.vt100.specs.Parser.{ParserValue, Stopped, parser_value, stage}
use Rattle.vt100.proofs.Erasing.{stopped_alike}
use Rattle.vt100.proofs.Quiet.{quietly_here, never_refused}
use Rattle.vt100.proofs.parser.Parser.process.Goals as goal

pub returns-in-Err : goal.returns-in-Err
returns-in-Err g c =
    let does = g.CB.Callbacks.does in
    let bytes = c.args.bytes.now in
    let held = parser_value c.self.inside.scanner c.self.inside.screen c.self.inside.callbacks in
    let now = parser_value c.process.new.scanner c.process.new.screen c.process.new.callbacks in
    let scanner = ap (λ p. p.scanner) c.self.view_is in
    let before = ap stage c.self.view_is in
    let stopped : Stopped does c.args.self.now bytes now =
    stopped_alike does held c.args.self.now now now bytes scanner before refl refl (c.in-Err.ensures.stopped refl) in
    record {
      call = record {
        ran = search rules;
        memory = λ e. stopped_alike does c.args.self.now c.args.self.now now _ bytes refl refl refl refl stopped;
        failed = search rules;
        only = search rules;
        no_number = search rules;
        for_good = search rules;
        harmless = λ ready harmless. absurd (harmless now stopped);
        quiet = λ state after ready stands told.
            absurd (never_refused does held c.args.self.now now bytes state after scanner before
            (c.in-Err.ensures.stopped refl) stands told);
      };
      erased = tt;
      erased_before = λ e.
          subst (λ (p : ParserValue g.row.CB.Denot). CountsUntilStopped does p.scanner (stage p) p.erasures bytes (stage now)
          c.process.new.erasures) c.self.view_is (c.in-Err.ensures.erased_before refl);
    }

pub returns-in-Ok : goal.returns-in-Ok
returns-in-Ok g c = record {
  call = record {
    ran = search rules;
    memory = search rules;
    failed = search rules;
    only = search rules;
    no_number = tt;
    for_good = search rules;
    harmless = search rules;
    quiet = λ state after ready stands told.
        let quiet = quietly_here g.CB.Callbacks.does _ c.args.self.now
        (parser_value c.process.new.scanner c.process.new.screen c.process.new.callbacks)
        c.args.bytes.now state after c.self.view_is c.in-Ok.ensures.ran stands told in (
          refl,
          record {
            is_failed = ap (λ p. p.is_failed) c.self.view_is ∙ ready;
            scanner = quiet.0;
            screen = quiet.1;
            callbacks = quiet.2;
          },
        );
  };
  erased = search rules;
  erased_before = search rules;
}
