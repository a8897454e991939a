-- The byte has been appended as often as the loop has run.
use Rattle.std.proofs.Common.{◌≡◌, ◌++◌, ◌∷◌, [], ℕ, replicate, string_bytes}
use Rattle.vt_screen.proofs.short_moves.route.write_repeated.Given as goal

abbrev pub invariant-loop-copy : goal.invariant-loop-copy
invariant-loop-copy l = (b : ℕ) → l.byte ≡ b ∷ [] →
    string_bytes l.text ≡ string_bytes l.initial.text ++ replicate l._copy b
