use Rattle.vt_everywhere.proofs.Screens.{shows_diff}
use Rattle.vt_everywhere.proofs.portable_diff.Goals as goal

pub returns : goal.returns
returns c = record {
  everywhere = shows_diff c.contents_diff_with.result c.args.screen.now c.args.prev.now c.size-size.ensures.whole
      c.size-size.ensures.colored c.size-other.ensures.whole c.size-other.ensures.colored c.requires
      c.contents_diff_with.ensures.text;
}
