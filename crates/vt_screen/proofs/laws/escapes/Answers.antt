use Rattle.vt_screen.proofs.MadeEscapes.{capture_only, drawn_only, plain_only, reset_only, shortened_moves_only}
use Rattle.vt_screen.proofs.MadeEscapes.{state_only, state_with_options_only, state_with_scrolling_only}
use Rattle.vt_screen.proofs.MadeEscapes.{with_options_only, with_scrolling_only}
use Rattle.vt_screen.proofs.laws.escapes.Goals as goal

pub returns-clause-drawing : goal.returns-clause-drawing
returns-clause-drawing c = drawn_only

pub returns-clause-shortened : goal.returns-clause-shortened
returns-clause-shortened c = shortened_moves_only

pub returns-clause-with_options : goal.returns-clause-with_options
returns-clause-with_options c = with_options_only

pub returns-clause-with_scrolling : goal.returns-clause-with_scrolling
returns-clause-with_scrolling c = with_scrolling_only

pub returns-clause-reset : goal.returns-clause-reset
returns-clause-reset c = reset_only

pub returns-clause-state : goal.returns-clause-state
returns-clause-state c = state_only

pub returns-clause-state_with_options : goal.returns-clause-state_with_options
returns-clause-state_with_options c = state_with_options_only

pub returns-clause-state_with_scrolling : goal.returns-clause-state_with_scrolling
returns-clause-state_with_scrolling c = state_with_scrolling_only

pub returns-clause-capture : goal.returns-clause-capture
returns-clause-capture c = capture_only

pub returns-clause-plain : goal.returns-clause-plain
returns-clause-plain c = plain_only
