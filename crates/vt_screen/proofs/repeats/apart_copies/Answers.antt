use Rattle.std.proofs.Common.{◌≢◌, ◌<◌, ℕ, arith}
use Rattle.vt_screen.proofs.PortableRepeats.{fewer_apart}
use Rattle.vt_screen.proofs.repeats.apart_copies.Goals as goal

positive : (n : ℕ) → n ≢ 0 → 0 < n
positive n some = omega (arith, some)

pub returns-clause-apart : goal.returns-clause-apart
returns-clause-apart c some =
    fewer_apart c.skip_copies-count.result.0 c.skip_copies.result.0 c.args.character c.args.text.now c.skip_copies-count.result.1.now
    c.skip_copies.result.1.now c.requires.narrow c.skip_copies.ensures.most (positive c.skip_copies.result.0 some) c.skip_copies-count.ensures.whole
    c.skip_copies.ensures.whole
