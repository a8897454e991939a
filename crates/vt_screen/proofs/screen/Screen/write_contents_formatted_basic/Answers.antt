use Rattle.std.proofs.Common.{◌<◌, length, refl, subst}
use Rattle.std.proofs.lemmas.Result.{on_err_weaker}
use Rattle.vt_rows.specs.Basic.{Written}
use Rattle.vt_screen.specs.Capture.{basic_texts}
use Rattle.vt_screen.specs.Screen.{visible_rows}
use Rattle.vt_screen.proofs.MadeCaptures.{some_texts}
use Rattle.vt_screen.proofs.screen.Screen.write_contents_formatted_basic.Goals as goal

pub returns-in-Full-clause-state : goal.returns-in-Full-clause-state
returns-in-Full-clause-state g c = rw c.in-Full.is c.write_all_rows.ensures.state

pub returns-in-Full-clause-err : goal.returns-in-Full-clause-err
returns-in-Full-clause-err g c =
    rw c.in-Full.is
    (on_err_weaker c.write_all_rows.result (λ stops. (c.write_all_rows.new.state, (stops, refl)))
    c.write_all_rows.ensures.err)

pub returns-in-Full-clause-nonempty : goal.returns-in-Full-clause-nonempty
returns-in-Full-clause-nonempty g c =
    on_err_weaker c.write_all_rows.result
    (λ stops. rw c.in-Full.is (some_texts g.S.Sink.refuses (g.S.Sink.text c.args.sink.now) _ _ _ _ stops))
    c.write_all_rows.ensures.err

pub returns-in-Visible-clause-nonempty : goal.returns-in-Visible-clause-nonempty
returns-in-Visible-clause-nonempty g c =
    on_err_weaker c.write_visible_rows.result
    (λ stops. rw c.in-Visible.is
    (subst (λ (before : Written). 0 < length (basic_texts before (visible_rows c.args.self.now))) c.new-state.ensures
    (some_texts g.S.Sink.refuses (g.S.Sink.text c.args.sink.now) _ _ _ _ stops)))
    c.write_visible_rows.ensures.err
