use Rattle.test_packed.proofs.rows.put_chars.Goals as goal

pub loop-c-init : goal.loop-c-init
loop-c-init c = record { paired = c.requires; sound = λ all. all }

pub loop-c-preserved : goal.loop-c-preserved
loop-c-preserved c = record {
  paired = c.put_char.ensures.paired;
  sound = λ all. c.put_char.ensures.sound (c.loop-c.invariant.sound all);
}
