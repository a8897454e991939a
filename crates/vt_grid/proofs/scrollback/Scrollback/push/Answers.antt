use Rattle.vt_grid.proofs.scrollback.Scrollback.push.Goals as goal

pub returns-then-self-eq0-clause-pushed : goal.returns-then-self-eq0-clause-pushed
returns-then-self-eq0-clause-pushed g c = record {
  sent = c.pass.ensures c.args.size.rows c.args.size.cols;
  refused = record { err = tt; memory = tt };
}

pub returns-then-self-eq0-2-clause-pushed : goal.returns-then-self-eq0-2-clause-pushed
returns-then-self-eq0-2-clause-pushed g c =
    rw c.if-count-eq1.true (c.push_one.ensures.pushed c.args.size.rows c.args.size.cols)
