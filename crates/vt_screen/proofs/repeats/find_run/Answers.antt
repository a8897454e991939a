use Rattle.std.proofs.Common.{◌≡◌, ◌+◌, ◌-◌, ◌∙◌, ℕ, ap, arith, drop, length, length-drop, take, take_all}
use Rattle.vt_screen.proofs.RepeatTokens.{finds_run, skipped_more}
use Rattle.vt_screen.proofs.repeats.find_run.Goals as goal

pub loop-at-preserved : goal.loop-at-preserved
loop-at-preserved c =
    let at = c.loop-at.at in
    let text = c.args.text.now in
    let size = length-drop at text in
    let more = skipped_more c.args.cols c.args.room c.loop-at.left at text c.in_ok-rest.rest.now
    c.in_ok-skipped.skipped (c.in_ok-rest.ensures.cases.0 ∙ take_all (length text - at) (drop at text) (omega (arith, size)))
    c.loop-at.invariant.inside c.loop-at.invariant.keeps c.in_ok-skipped.ensures in
    record { inside = more.0; keeps = more.1 }

pub returns-in-Some : goal.returns-in-Some
returns-in-Some c =
    let at = c.loop-at.at in
    let text = c.args.text.now in
    let run = c.in-Some.run' in
    let size = length-drop at text in
    let whole : at + length run.front.now - 0 ≡ at + length run.front.now = omega arith in
    finds_run c.args.repeat c.args.cols c.args.room c.loop-at.left at run.count run.room text c.in_ok-rest.rest.now
    run.front.now c.in_ok-front.front.now run.back.now
    (c.in_ok-rest.ensures.cases.0 ∙ take_all (length text - at) (drop at text) (omega (arith, size)))
    c.loop-at.invariant.keeps c.in-Some.ensures
    (c.in_ok-front.ensures.cases.0 ∙ ap (λ (n : ℕ). take n text) whole)
