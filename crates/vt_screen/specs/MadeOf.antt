-- The elements of output for terminals: characters that are not control characters, control sequences with decimal
-- numbers, and a few fixed sequences.
use Rattle.std.specs.Prelude.{◌≡◌, ◌<◌, ◌≤◌, ◌⊎◌, ℕ, List, [], ◌∷◌, ◌++◌, codes, encode_utf8_all, map}
use Rattle.std.specs.Char.{IsScalar}
use Rattle.std.specs.List.{AllByRecursion, flat_map}
use Rattle.vt_cells.specs.Op.{csi, semicolon_list}

-- An element of output: characters, a control sequence with decimal numbers separated by `;`, or another sequence of
-- bytes.
pub data Piece : Type 0 where
  Characters : (characters : List ℕ) → Piece
  Numbered : (numbers : List ℕ) (final : ℕ) → Piece
  Control : (bytes : List ℕ) → Piece

abbrev pub piece_text : Piece → List ℕ
piece_text (Characters characters) = encode_utf8_all characters
piece_text (Numbered numbers final) = csi (semicolon_list numbers) final
piece_text (Control bytes) = bytes

-- The character is a Unicode scalar value that is neither a C0 or C1 control character (ECMA-48) nor DEL.
abbrev pub IsCharacter : ℕ → Type 0
IsCharacter c = IsScalar c × (((0x20 ≤ c) × (c < 0x7F)) ⊎ (0xA0 ≤ c))

abbrev pub IsOneOf : {A : Type 0} → A → List A → Type 0
IsOneOf x [] = ⊥
IsOneOf x (y ∷ ys) = (x ≡ y) ⊎ IsOneOf x ys

-- The element is valid: it consists of characters that are not control characters, is a control sequence that ends in
-- one of the bytes `finals`, or is one of the sequences `controls`.
abbrev pub IsPiece : (finals : List ℕ) → (controls : List (List ℕ)) → Piece → Type 0
IsPiece finals controls (Characters characters) = AllByRecursion IsCharacter characters
IsPiece finals controls (Numbered numbers final) = IsOneOf final finals
IsPiece finals controls (Control bytes) = IsOneOf bytes controls

-- The output consists only of characters that are not control characters, control sequences that end in one of the
-- bytes `finals`, and the sequences `controls`.
pub record IsMadeOf (finals : List ℕ) (controls : List (List ℕ)) (text : List ℕ) : Type 0 where
  pub pieces : List Piece
  pub are_pieces : AllByRecursion (IsPiece finals controls) pieces
  pub spelled : text ≡ flat_map piece_text pieces

-- ---- the control sequences in each kind of output

abbrev pub escapes : List (List ℕ) → List (List ℕ)
escapes texts = map (λ text. 0x1B ∷ text) texts

-- The final bytes of the control sequences with numeric parameters that may occur in drawing output: those of CUP, CUF,
-- ECH and SGR.
abbrev pub drawing_finals : List ℕ
drawing_finals = codes "HCXm"

-- The fixed sequences that may occur in drawing output: CR LF, LF, BS, DECSC, DECRC, DECTCEM to show or hide the
-- cursor, and ED and EL without a number. This excludes ED 3, with which xterm erases its saved lines.
abbrev pub drawing_controls : List (List ℕ)
drawing_controls =
    (0x0D ∷ 0x0A ∷ []) ∷ (0x0A ∷ []) ∷ (0x08 ∷ [])
    ∷ escapes (codes "7" ∷ codes "8" ∷ codes "[?25h" ∷ codes "[?25l" ∷ codes "[J" ∷ codes "[K" ∷ [])

-- The final bytes of the control sequences that may occur in drawing output that moves rows or columns and whose cursor
-- movements have been shortened: those of CHA, ICH, DCH, IL and DL, and those in `drawing_finals`.
abbrev pub shortened_finals : List ℕ
shortened_finals = codes "G@PLMHCXm"

-- The fixed sequences that may occur in drawing output whose cursor movements have been shortened: CR, HT, and those in
-- `drawing_controls`.
abbrev pub shortened_controls : List (List ℕ)
shortened_controls = (0x0D ∷ []) ∷ (0x09 ∷ []) ∷ drawing_controls

-- The fixed sequences that may occur in drawing output that also resets the scroll region: the reset of origin mode,
-- DECSTBM without parameters, and those in `drawing_controls`.
abbrev pub reset_controls : List (List ℕ)
reset_controls = escapes (codes "[?6l" ∷ codes "[r" ∷ []) ++ drawing_controls

-- The sequences that may occur in output that sets input modes: keypad, cursor keys, bracketed paste, mouse, and
-- cursor style.
abbrev pub input_controls : List (List ℕ)
input_controls =
    escapes
    (codes "=" ∷ codes ">" ∷ codes "[?1h" ∷ codes "[?1l" ∷ codes "[?2004h" ∷ codes "[?2004l"
    ∷ codes "[?9h" ∷ codes "[?9l" ∷ codes "[?1000h" ∷ codes "[?1000l" ∷ codes "[?1002h" ∷ codes "[?1002l"
    ∷ codes "[?1003h" ∷ codes "[?1003l" ∷ codes "[?1005h" ∷ codes "[?1005l" ∷ codes "[?1006h" ∷ codes "[?1006l"
    ∷ codes "[0 q" ∷ codes "[1 q" ∷ codes "[2 q" ∷ codes "[3 q" ∷ codes "[4 q" ∷ codes "[5 q" ∷ codes "[6 q" ∷ [])

abbrev pub state_controls : List (List ℕ)
state_controls = input_controls ++ drawing_controls

-- The fixed sequences that may occur in captures and plain text: only the newline.
abbrev pub plain_controls : List (List ℕ)
plain_controls = (0x0A ∷ []) ∷ []

-- The final bytes of the control sequences that may occur in captures: only that of SGR.
abbrev pub capture_finals : List ℕ
capture_finals = codes "m"
