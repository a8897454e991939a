use Rattle.vt_screen.proofs.Selectors.{fresh_has_none, resized_has_none, run_keeps, shows_none, viewed_has_none}
use Rattle.vt_screen.proofs.laws.no_selectors.Goals as goal

pub returns : goal.returns
returns c = record {
  fresh = fresh_has_none;
  ran = run_keeps;
  sized = resized_has_none;
  scrolled_back = viewed_has_none;
  shown = shows_none;
}
