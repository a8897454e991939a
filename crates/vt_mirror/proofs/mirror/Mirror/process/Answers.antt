use Rattle.std.proofs.Common.{ap, subst}
use Rattle.vt_grid.specs.Page.{SameSize}
use Rattle.vt_screen.specs.Screen.{IsScreen, ScreenValue}
use Rattle.vt_mirror.specs.Calls.{MirrorProcesses}
use Rattle.vt_mirror.specs.Mirror.{MirrorValue}
use Rattle.vt_mirror.specs.Kept.{KeptValue}
use Rattle.vt_mirror.proofs.Bookkeeping.{processed_size}
use Rattle.vt_mirror.proofs.Sharing.{sharing_changed}
use Rattle.vt_mirror.proofs.mirror.Mirror.process.Goals as goal

pub invariant_of-self : goal.invariant_of-self
invariant_of-self c =
    let size : SameSize c.process.new.self.screen.page c.self.inside.parser.screen.page =
    processed_size c.self.inside.parser c.process.new.self c.args.bytes.now c.process.result
    (subst (λ (s : ScreenValue). IsScreen s) c.screen.ensures.value c.size.ensures.whole)
    c.screen.ensures.stands c.process.ensures.call in
    sharing_changed c.self.inside.parser c.process.new.self c.self.inside.viewers c.discard_current.new.self c.discard_current.ensures size
    c.self.invariant

pub returns : goal.returns
returns c =
    let size : SameSize c.process.new.self.screen.page c.self.inside.parser.screen.page =
    processed_size c.self.inside.parser c.process.new.self c.args.bytes.now c.process.result
    (subst (λ (s : ScreenValue). IsScreen s) c.screen.ensures.value c.size.ensures.whole)
    c.screen.ensures.stands c.process.ensures.call in
    record {
      call =
          subst (λ (old : MirrorValue). MirrorProcesses old c.args.bytes.now c.process.result
          (record {
            parser = c.process.new.self;
            viewers = c.discard_current.new.self.viewers;
            current = c.discard_current.new.self.current_viewers;
          }))
          c.self.view_is (record {
            viewers = ap (λ (k : KeptValue). k.viewers) c.discard_current.ensures;
            size = size;
            parser = c.process.ensures.call;
            current = ap (λ (k : KeptValue). k.current_viewers) c.discard_current.ensures;
          });
    }
