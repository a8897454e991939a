use Rattle.std.proofs.Common.{inl, inr, arith}
use Rattle.std.proofs.lemmas.Str.{len_utf8_bounds, length-encode}
use Rattle.vt_screen.proofs.RepeatTokens.{repeat_shorter}
use Rattle.vt_screen.proofs.repeats.fewest.Goals as goal

pub returns-in-2 : goal.returns-in-2
returns-in-2 c n c' many fits e =
    let two = c.in-2.is in
    repeat_shorter n 2 c' (omega (arith, e, two)) (inr (inl (many, omega arith))) fits

pub returns-in-0 : goal.returns-in-0
returns-in-0 c n c' many fits e =
    let some = len_utf8_bounds c' in
    let long = length-encode c' in
    repeat_shorter n 1 c' (omega (arith, some, long)) (inl (many, omega arith)) fits

pub returns-in_default : goal.returns-in_default
returns-in_default c n c' many fits e =
    let other = c.in_default in
    repeat_shorter n 3 c' (omega (arith, e, other)) (inr (inr (many, omega arith))) fits
