use Rattle.std.proofs.Common.{rules}
use Rattle.vt_mirror.proofs.engine.run_words.Goals as goal

pub returns-in-Ok-clause-asked : goal.returns-in-Ok-clause-asked
returns-in-Ok-clause-asked g c = λ _. record {
  rows = c.in-Some.rows.value;
  cols = c.in-Some.cols.value;
  every = c.in-Some.every.value;
  asks = c.in-Some.ensures.some;
  holds = record {
    end = c.in-Ok.ensures.call.end;
    text = c.in-Ok.ensures.call.text;
    read = search rules;
    memory = search rules;
    write = search rules;
  };
}

pub returns-in-Err-clause-asked : goal.returns-in-Err-clause-asked
returns-in-Err-clause-asked g c = λ _. record {
  rows = c.in-Some.rows.value;
  cols = c.in-Some.cols.value;
  every = c.in-Some.every.value;
  asks = c.in-Some.ensures.some;
  holds = record {
    end = tt;
    text = tt;
    read = λ e. c.in-Err.ensures.call.read (search rules);
    memory = λ e. c.in-Err.ensures.call.memory (search rules);
    write = λ e. c.in-Err.ensures.call.write (search rules);
  };
}
