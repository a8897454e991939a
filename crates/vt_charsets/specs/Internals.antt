-- Auxiliary definitions for proofs, cited only by the contracts of private functions.
use Rattle.std.specs.Prelude.{ℕ, Bool, not, ◌==◌, ◌&&◌, nat_le, nat_lt}

-- In the ground state with no single shift, the byte is written as it is and leaves the character sets unchanged.
abbrev pub is_kept : (is_drawing : Bool) → ℕ → Bool
is_kept is_drawing b =
    not (b == 0x0E) && (not (b == 0x0F) && (not (b == 0x1B) && not (is_drawing && (nat_le 0x5F b && nat_lt b 0x7F))))
