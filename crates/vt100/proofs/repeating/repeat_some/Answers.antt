-- One print that may scroll, or a string that fits on the row.
use Rattle.std.proofs.Common.{rules, ◌+◌, ◌≤◌, ℕ, arith, subst, sym, replicate}
use Rattle.vt_screen.specs.Run.{Refuses, Takes, state}
use Rattle.vt_screen.specs.Screen.{ScreenValue}
use Rattle.vt_screen.specs.Steps.{Print}
use Rattle.vt100.specs.Internals.{Does}
use Rattle.vt100.proofs.PrintedRuns.{first_refused, prints_done}
use Rattle.vt100.proofs.Stepping.{taken}
use Rattle.vt100.proofs.repeating.repeat_some.Goals as goal

pub returns-in_err-text : goal.returns-in_err-text
returns-in_err-text g c = record {
  progress = search rules;
  most = search rules;
  done = search rules;
  stopped = λ e. first_refused g.CB.Callbacks.does c.args.left c.args.byte c.args.callbacks.now c.text.new.callbacks
      c.args.screen.now c.text.new.screen c.requires.left
      (subst (λ (code : ℕ). Refuses (state c.args.callbacks.now c.args.screen.now) (Print code)
      (state c.text.new.callbacks c.text.new.screen)) c.from.ensures c.in_err-text.ensures.refused);
  memory = search rules;
}

pub returns-then-count-eq0 : goal.returns-then-count-eq0
returns-then-count-eq0 g c = record {
  progress = omega arith;
  most = c.requires.left;
  done =
      taken g.CB.Callbacks.does (Print c.args.byte) c.args.callbacks.now c.text.new.callbacks
      c.args.screen.now c.text.new.screen
      (subst (λ (code : ℕ). Takes g.CB.Callbacks.does (state c.args.callbacks.now c.args.screen.now) (Print code)
      (state c.text.new.callbacks c.text.new.screen)) c.from.ensures c.in_ok-text.ensures.done);
  stopped = search rules;
  memory = tt;
}

pub returns : goal.returns
returns g c =
    let room : c.args.screen.now.page.column + c.min-count.result ≤ c.args.screen.now.page.width = search rules in
    record {
      progress = search rules;
      most = search rules;
      done =
          subst (λ (after : ScreenValue). Does g.CB.Callbacks.does c.args.callbacks.now c.args.screen.now
          (replicate c.min-count.result (Print c.args.byte)) c.args.callbacks.now after) (sym c.repeat_in_row.ensures)
          (prints_done g.CB.Callbacks.does c.min-count.result c.args.byte c.args.callbacks.now c.args.screen.now
          c.requires.low c.requires.high room);
      stopped = search rules;
      memory = tt;
    }
