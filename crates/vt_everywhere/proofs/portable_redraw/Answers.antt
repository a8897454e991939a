use Rattle.vt_everywhere.proofs.Screens.{shows_text}
use Rattle.vt_everywhere.proofs.portable_redraw.Goals as goal

pub returns : goal.returns
returns c = record {
  everywhere = shows_text c.contents_formatted_with.result c.args.screen.now c.size-size.ensures.whole
      c.size-size.ensures.colored c.contents_formatted_with.ensures.text;
}
