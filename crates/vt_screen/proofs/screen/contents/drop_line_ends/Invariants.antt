use Rattle.std.proofs.Common.{◌≡◌, string_bytes, string_len}
use Rattle.vt_screen.specs.Contents.{without_line_ends}
use Rattle.vt_screen.proofs.screen.contents.drop_line_ends.Given as goal

-- The loop invariant: only line ends at the end of the text have been dropped.
abbrev pub invariant-loop-text : goal.invariant-loop-text
invariant-loop-text l = without_line_ends (string_bytes l.text) ≡ without_line_ends (string_bytes l.fn.text)

abbrev pub decreases-loop-text : goal.decreases-loop-text
decreases-loop-text l = string_len l.text
