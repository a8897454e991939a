use Rattle.vt100.proofs.erasures.count_some.Goals as goal

pub returns : goal.returns
returns c = rw c.in-Some.is c.count.ensures
