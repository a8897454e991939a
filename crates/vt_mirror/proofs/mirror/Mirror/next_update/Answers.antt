use Rattle.std.proofs.Common.{ℕ, List, ◌≡◌, true, sym, subst, ◌∙◌}
use Rattle.std.proofs.lemmas.Bool.{false≢true}
use Rattle.std.specs.Prelude.{string_bytes}
use Rattle.vt_redraw.specs.Steady.{IsSteady}
use Rattle.vt_screen.specs.Screen.{IsColored, IsScreen, ScreenValue}
use Rattle.vt_screen.specs.Shown.{display}
use Rattle.vt_mirror.specs.Calls.{IsDiffFor}
use Rattle.vt_mirror.specs.Mirror.{note_of}
use Rattle.vt_mirror.proofs.Sharing.{CopiesScreen, none_for, sharing_kept}
use Rattle.vt_mirror.proofs.Bookkeeping.{diff_from, diff_update, full_update, of_noted}
use Rattle.vt_mirror.proofs.mirror.Mirror.next_update.Goals as goal
use Rattle.vt_mirror.proofs.mirror.Mirror.next_update.Goals.{else-options-via-then-options+else-not-is_steady}
use Rattle.vt_mirror.proofs.mirror.Mirror.next_update.Goals.{else-options-via-else-options}

-- A viewer whose recorded screen is not steady gets a full redraw.
pub returns-then-not-is_steady-clause-ok : goal.returns-then-not-is_steady-clause-ok
returns-then-not-is_steady-clause-ok c =
    full_update c.args.options _ _ c.args.viewer c.in-Some.noted.now _ c.self.view_is c.in-Some.ensures.some c.if-options.true
    (λ steady. false≢true (sym c.if-not-is_steady.true ∙ c.is_steady.ensures.1 steady))
    c.full-then-not-is_steady.ensures.ok

-- A viewer that is up to date gets an empty diff.
pub returns-then-is_current-clause-ok : goal.returns-then-is_current-clause-ok
returns-then-is_current-clause-ok c =
    let it = c.is_current-is_current.ensures.noted c.if-is_current.true in
    let options = c.args.options in
    let screen = c.self.inside.parser.screen in
    let is = subst (λ (s : ScreenValue). IsScreen s) c.screen-screen.ensures.value c.size.ensures.whole in
    let colored = subst (λ (s : ScreenValue). IsColored s) c.screen-screen.ensures.value c.size.ensures.colored in
    let same : it.0 ≡ screen = subst (CopiesScreen c.self.inside.parser) it.2 c.self.invariant.current in
    let noted_steady : options.scroll ≡ true → IsSteady (display c.in-Some.noted.now) =
    elim c.else-options.branch [
      | else-options-via-then-options+else-not-is_steady w ↦ λ _. w.is_steady.ensures.0 w.if-not-is_steady.false
      | else-options-via-else-options w ↦ λ scrolls. absurd (false≢true (sym w.if-options.false ∙ scrolls))
    ] in
    let steady : options.scroll ≡ true → IsSteady (display screen) =
    subst (λ (s : ScreenValue). options.scroll ≡ true → IsSteady (display s)) same
    (of_noted (λ (s : ScreenValue). options.scroll ≡ true → IsSteady (display s))
    (note_of c.self.inside.viewers.viewers c.args.viewer) c.in-Some.noted.now c.in-Some.ensures.some noted_steady it.0 it.1) in
    diff_update options _ _ c.args.viewer it.0 c.new-text.result c.self.view_is it.1
    (subst (λ (s : ScreenValue). IsDiffFor options screen s (string_bytes c.new-text.result)) (sym same)
    (subst (λ (t : List ℕ). IsDiffFor options screen screen t) (sym c.new-text.ensures.bytes)
    (none_for options screen is colored steady)))

pub returns-clause-ok : goal.returns-clause-ok
returns-clause-ok c =
    diff_update c.args.options _ _ c.args.viewer c.in-Some.noted.now c.in_ok-text.text c.self.view_is c.in-Some.ensures.some
    (diff_from c.args.options c.self.inside.parser.screen c.screen-screen.result.now c.in-Some.noted.now
    c.screen.result.now (string_bytes c.in_ok-text.text) c.screen-screen.ensures.value c.screen.ensures
    c.in_ok-text.ensures.text)

pub invariant_of-self : goal.invariant_of-self
invariant_of-self c =
    let options = c.args.options in
    let screen = c.self.inside.parser.screen in
    sharing_kept c.self.inside.parser c.self.inside.viewers c.keep_diff.new.self c.args.viewer options c.as_str.result.now
    c.keep_diff.ensures.rest c.keep_diff.ensures.redraw c.keep_diff.ensures.diffs
    (of_noted (λ (s : ScreenValue). IsDiffFor options screen s c.as_str.result.now)
    (note_of c.self.inside.viewers.viewers c.args.viewer) c.in-Some.noted.now c.in-Some.ensures.some
    (subst (λ (t : List ℕ). IsDiffFor options screen c.in-Some.noted.now t) (sym c.as_str.ensures.value)
    (diff_from options screen c.screen-screen.result.now c.in-Some.noted.now c.screen.result.now
    (string_bytes c.in_ok-text.text) c.screen-screen.ensures.value c.screen.ensures c.in_ok-text.ensures.text)))
    c.self.invariant
