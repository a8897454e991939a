use Rattle.std.proofs.Common.{◌≤◌, length, string_bytes, arith}
use Rattle.vt_screen.proofs.ReadMoved.{AreDiffed, shorter_none}
use Rattle.vt_screen.proofs.PortableElements.{moving_portable}
use Rattle.vt_screen.proofs.AgainMoved.{moving_keeps}
use Rattle.vt_screen.proofs.ReadShifted.{moving_redraws, moving_tells}
use Rattle.vt_screen.proofs.ShortMoves.{moving_short, version_keeps, version_made, version_moving, version_portable}
use Rattle.vt_screen.proofs.ShortMoves.{version_redraws, version_shorter, version_tells}
use Rattle.vt_screen.proofs.Shown.{same_shown}
use Rattle.vt_screen.specs.Shown.{display, display_change_in}
use Rattle.vt_screen.proofs.screen.Screen.moving_diff.Goals as goal

pub returns-clause-text : goal.returns-clause-text
returns-clause-text c =
    version_moving c.args.form (display c.args.self.now) c.args.prev.now (string_bytes c.in_ok-moving.moving)
    (string_bytes c.in_ok-short.short) c.in_ok-moving.ensures.text c.in_ok-short.ensures.text

pub returns-clause-has : goal.returns-clause-has
returns-clause-has c =
    let form = c.args.form in
    let self = c.args.self.now in
    let prev = c.args.prev.now in
    let old = string_bytes c.in_ok-moving.moving in
    let text = string_bytes c.in_ok-short.short in
    let is = c.in_ok-moving.ensures in
    let version = c.in_ok-short.ensures.text in
    let d : AreDiffed self prev = record {
      sound = is.whole;
      colored = is.colored;
      other = is.other;
      other_colored = is.other_colored;
      size = same_shown self prev c.requires;
    } in
    let redraws = moving_redraws form self prev old d is.text in
    let shorter : length text ≤ length (display_change_in form prev self) =
    let short = version_shorter form prev old text version in
    let long = is.shorter in
    omega (arith, short, long) in
    record {
      controls = version_made form prev old text
          (moving_short form self prev old is.whole is.colored is.other is.other_colored is.text) version;
      again = version_keeps form prev old text
          (moving_keeps form self prev old is.whole is.colored is.other is.other_colored is.text) version;
      shorter = shorter;
      redraws = version_redraws form self prev old text redraws version;
      empty = version_tells form self prev old text
          (λ steady empty. moving_tells form self prev old d steady is.text empty) version;
      none = λ same. shorter_none form (display self) (display prev) text shorter same;
      portable = λ e steady. version_portable form (display self) prev old text e version (redraws.quiet steady)
          (moving_portable form self prev old d is.text e steady);
      touches = λ _ moves. absurd (cc);
    }
