use Rattle.std.proofs.Common.{◌≡◌, ◌<◌, ℕ, nat_lt, true, arith}
use Rattle.std.proofs.lemmas.Bool.Decides.{nat_tests}
use Rattle.vt_screen.proofs.PortableRepeats.{drawn_apart}
use Rattle.vt_screen.proofs.repeats.takes_columns.Goals as goal

positive : (n : ℕ) → nat_lt 0 n ≡ true → 0 < n
positive n e = grind (arith, nat_tests)

pub returns : goal.returns
returns c e =
    let found = c.in-Some.ensures in
    drawn_apart c.in-Some.field-0-0 c.args.text.now c.in-Some.width found.drawn found.columns (positive c.in-Some.width e)
    found.first
