use Rattle.std.proofs.Common.{refl, rules}
use Rattle.vt100.proofs.writing.ParserUnitWrite.write.Goals as goal

pub returns-in-Ok-clause-call : goal.returns-in-Ok-clause-call
returns-in-Ok-clause-call c = record {
  whole = search rules;
  ran = search rules;
  for_good = search rules;
  stopped = search rules;
  refused = search rules;
  failed = search rules;
  harmless = search rules;
  quiet = λ state after ready stands told. (refl, (c.process.ensures.call.quiet state after ready stands told).1);
  after = search rules;
}

pub returns-in-Err-clause-call : goal.returns-in-Err-clause-call
returns-in-Err-clause-call c = record {
  whole = search rules;
  ran = search rules;
  for_good = search rules;
  stopped = search rules;
  refused = search rules;
  failed = search rules;
  harmless = search rules;
  quiet = λ state after ready stands told. (refl, (c.process.ensures.call.quiet state after ready stands told).1);
  after = search rules;
}
