-- Limits on the characters of output: the only control characters are BS, LF, CR, ESC and possibly HT, and only certain
-- characters may follow an ESC.
use Rattle.std.specs.Prelude.{◌≡◌, ◌⊎◌, ◌&&◌, ◌||◌, nat_le, nat_lt, ℕ, Bool, true, List, [], ◌∷◌, encode_utf8_all, ⊤}
use Rattle.vt_screen.specs.MadeOf.{IsOneOf}

-- Whether a character is neither a C0 or C1 control character nor DEL.
abbrev pub is_graphic : ℕ → Bool
is_graphic c = (nat_le 0x20 c && nat_lt c 0x7F) || nat_le 0xA0 c

abbrev pub BeginsWith : List ℕ → List ℕ → Type 0
BeginsWith nexts [] = ⊥
BeginsWith nexts (c ∷ rest) = IsOneOf c nexts

-- The control characters BS, LF, CR and ESC.
abbrev pub usual_controls : List ℕ
usual_controls = 0x08 ∷ 0x0A ∷ 0x0D ∷ 0x1B ∷ []

-- The control characters HT, BS, LF, CR and ESC.
abbrev pub moving_controls : List ℕ
moving_controls = 0x09 ∷ usual_controls

-- Each character is graphic (as `is_graphic` defines) or one of `controls`, and each ESC is followed by one of `nexts`.
abbrev pub EscapesOnly : (controls nexts : List ℕ) → List ℕ → Type 0
EscapesOnly controls nexts [] = ⊤
EscapesOnly controls nexts (c ∷ rest) =
    ((is_graphic c ≡ true) ⊎ IsOneOf c controls)
    × ((c ≡ 0x1B → BeginsWith nexts rest) × EscapesOnly controls nexts rest)

-- The text is the UTF-8 encoding of a list of characters. The only control characters among them are those in
-- `controls`, and each ESC is followed by one of `nexts`.
pub record HasOnlyControls (controls nexts : List ℕ) (text : List ℕ) : Type 0 where
  pub characters : List ℕ
  pub spelled : text ≡ encode_utf8_all characters
  pub only : EscapesOnly controls nexts characters

-- The text is the UTF-8 encoding of a list of characters. The only control characters among them are BS, LF, CR and
-- ESC, and each ESC is followed by one of `nexts`.
abbrev pub HasOnlyEscapes : (nexts : List ℕ) → List ℕ → Type 0
HasOnlyEscapes nexts text = HasOnlyControls usual_controls nexts text
