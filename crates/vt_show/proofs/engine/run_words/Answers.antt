use Rattle.std.proofs.Common.{rules}
use Rattle.std.specs.Int.NonZero.{non_zero_u16_get}
use Rattle.vt_show.proofs.engine.run_words.Goals as goal

pub returns-in-Ok-clause-asked : goal.returns-in-Ok-clause-asked
returns-in-Ok-clause-asked g c = λ _. record {
  rows = non_zero_u16_get c.in-Some.rows;
  cols = non_zero_u16_get c.in-Some.cols;
  mode = c.in-Some.mode;
  asks = c.in-Some.ensures.some;
  holds = record {
    end = c.in-Ok.ensures.call.end;
    text = c.in-Ok.ensures.call.text;
    nothing = search rules;
    read_first = search rules;
    part = search rules;
  };
}

pub returns-in-Err-clause-asked : goal.returns-in-Err-clause-asked
returns-in-Err-clause-asked g c = λ _. record {
  rows = non_zero_u16_get c.in-Some.rows;
  cols = non_zero_u16_get c.in-Some.cols;
  mode = c.in-Some.mode;
  asks = c.in-Some.ensures.some;
  holds = record {
    end = tt;
    text = tt;
    nothing = search rules;
    read_first = search rules;
    part = λ e. c.in-Err.ensures.call.part (search rules);
  };
}
