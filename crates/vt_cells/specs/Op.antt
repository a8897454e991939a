-- The operations that make up a redraw, and the exact bytes of each.
use Rattle.std.specs.Prelude.{ℕ, zero, suc, ◌+◌, ◌-◌, ◌^◌, ◌<◌, ◌&&◌, ◌==◌, nat_lt, Bool}
use Rattle.std.specs.Prelude.{true, false, List, [], ◌∷◌, ◌++◌, decimal, if◌then◌else◌}
use Rattle.std.specs.List.{flat_map}
use Rattle.vt_cells.specs.Attrs.{default_attrs, same_attrs, same_color, same_intensity, same_bool, Attrs}
use Rattle.vt_cells.specs.declared.attrs.Intensity.{Intensity}
use Rattle.vt_cells.specs.declared.attrs.Intensity.TheVariants.{Normal, Bold, Dim}
use Rattle.vt_cells.specs.declared.color.Color.{Color}
use Rattle.vt_cells.specs.declared.color.Color.TheVariants.{Default, Idx, Rgb}

-- A drawing operation in a redraw.
pub data Op : Type 0 where
  -- Hides or shows the cursor (DECTCEM).
  Hide : (hidden : Bool) → Op
  -- Resets all attributes to their defaults.
  ClearAttrs : Op
  MoveTo : (row col : ℕ) → Op
  MoveRight : (count : ℕ) → Op
  -- Moves the cursor to the first column of the next row.
  NextRow : Op
  LineFeed : Op
  Backspace : Op
  -- Erases from the cursor to the end of the screen.
  EraseBelow : Op
  -- Erases from the cursor to the end of its row.
  EraseRest : Op
  -- Erases `count` columns, starting at the cursor.
  EraseChars : (count : ℕ) → Op
  SaveCursor : Op
  RestoreCursor : Op
  -- Changes the attributes from `was` to `new`.
  ChangeAttrs : (was new : Attrs) → Op
  -- Prints characters, encoded in UTF-8.
  Print : (text : List ℕ) → Op

-- The ECMA-48 control sequence with the given parameter bytes and final byte: CSI (ESC `[`), the parameters, and the
-- final byte.
abbrev pub csi : List ℕ → ℕ → List ℕ
csi parameters final = 0x1B ∷ 0x5B ∷ (parameters ++ final ∷ [])

-- The control sequence with the given count and final byte. The sequence is empty if the count is 0, and has no
-- parameter if the count is 1.
abbrev pub counted : ℕ → ℕ → List ℕ
counted zero final = []
counted (suc zero) final = csi [] final
counted (suc (suc n)) final = csi (decimal (suc (suc n))) final

-- The CUP parameters for a 0-based position: the 1-based row and column, or none for the home position.
abbrev pub place : ℕ → ℕ → List ℕ
place zero zero = []
place row col = decimal (row + 1) ++ 0x3B ∷ decimal (col + 1)

-- The given numbers in decimal, separated by `;`.
abbrev pub semicolon_list : List ℕ → List ℕ
semicolon_list [] = []
semicolon_list (n ∷ []) = decimal n
semicolon_list (n ∷ m ∷ ns) = decimal n ++ 0x3B ∷ semicolon_list (m ∷ ns)

-- The SGR parameters of a foreground color: one number for the default color and the first 16 palette colors, and
-- xterm's long form for all other colors (38, 5 and the index, or 38, 2 and the RGB components).
unfoldable pub foreground_numbers : Color → List ℕ
foreground_numbers Default = 39 ∷ []
foreground_numbers (Idx i) =
    if nat_lt i 8 then (30 + i) ∷ [] else if nat_lt i 16 then (82 + i) ∷ [] else 38 ∷ 5 ∷ i ∷ []
foreground_numbers (Rgb r g b) = 38 ∷ 2 ∷ r ∷ g ∷ b ∷ []

-- The SGR parameters of a background color: one number for the default color and the first 16 palette colors, and
-- xterm's long form for all other colors (48, 5 and the index, or 48, 2 and the RGB components).
unfoldable pub background_numbers : Color → List ℕ
background_numbers Default = 49 ∷ []
background_numbers (Idx i) =
    if nat_lt i 8 then (40 + i) ∷ [] else if nat_lt i 16 then (92 + i) ∷ [] else 48 ∷ 5 ∷ i ∷ []
background_numbers (Rgb r g b) = 48 ∷ 2 ∷ r ∷ g ∷ b ∷ []

-- The SGR parameter that sets an intensity: 22 for normal, 1 for bold and 2 for dim.
abbrev pub intensity_number : Intensity → ℕ
intensity_number Normal = 22
intensity_number Bold = 1
intensity_number Dim = 2

-- The given SGR parameters of one component of the attributes, or none if the flag is true, which means that the
-- component is unchanged.
abbrev pub part : Bool → List ℕ → List ℕ
part same numbers = if same then [] else numbers

-- The SGR parameters for the components in which two sets of attributes differ, in this order: foreground, background,
-- intensity, italic, underline, inverse.
unfoldable pub change_numbers : Attrs → Attrs → List ℕ
change_numbers was new =
    part (same_color was.fgcolor new.fgcolor) (foreground_numbers new.fgcolor)
    ++ (part (same_color was.bgcolor new.bgcolor) (background_numbers new.bgcolor)
    ++ (part (same_intensity was.intensity new.intensity) (intensity_number new.intensity ∷ [])
    ++ (part (same_bool was.italic new.italic) ((if new.italic then 3 else 23) ∷ [])
    ++ (part (same_bool was.underline new.underline) ((if new.underline then 4 else 24) ∷ [])
    ++ part (same_bool was.inverse new.inverse) ((if new.inverse then 7 else 27) ∷ [])))))

-- The SGR sequence that changes one set of attributes to another. The sequence is empty if the two sets are equal, and
-- has no parameters if the new attributes are the defaults.
unfoldable pub change_text : Attrs → Attrs → List ℕ
change_text was new =
    if same_attrs was new then []
    else if same_attrs new default_attrs then csi [] 0x6D
    else csi (semicolon_list (change_numbers was new)) 0x6D

-- The bytes that a redraw writes for an operation.
abbrev pub bytes_of : Op → List ℕ
bytes_of (Hide true) = csi (0x3F ∷ 0x32 ∷ 0x35 ∷ []) 0x6C
bytes_of (Hide false) = csi (0x3F ∷ 0x32 ∷ 0x35 ∷ []) 0x68
bytes_of ClearAttrs = csi [] 0x6D
bytes_of (MoveTo row col) = csi (place row col) 0x48
bytes_of (MoveRight count) = counted count 0x43
bytes_of NextRow = 0x0D ∷ 0x0A ∷ []
bytes_of LineFeed = 0x0A ∷ []
bytes_of Backspace = 0x08 ∷ []
bytes_of EraseBelow = csi [] 0x4A
bytes_of EraseRest = csi [] 0x4B
bytes_of (EraseChars count) = counted count 0x58
bytes_of SaveCursor = 0x1B ∷ 0x37 ∷ []
bytes_of RestoreCursor = 0x1B ∷ 0x38 ∷ []
bytes_of (ChangeAttrs was new) = change_text was new
bytes_of (Print text) = text

-- The bytes that a redraw writes for a list of operations.
abbrev pub bytes_of_all : List Op → List ℕ
bytes_of_all ops = flat_map bytes_of ops

-- The operations that move the cursor from one position to another: CR and LF to reach the first column of the next
-- row, CUF to move right within a row, none if the positions are equal, and CUP otherwise.
abbrev pub cursor_move_ops : (from_row from_col to_row to_col : ℕ) → List Op
cursor_move_ops from_row from_col to_row to_col =
    if (to_row == from_row + 1) && (to_col == 0) then NextRow ∷ []
    else if (to_row == from_row) && nat_lt from_col to_col then MoveRight (to_col - from_col) ∷ []
    else if (to_row == from_row) && (to_col == from_col) then []
    else MoveTo to_row to_col ∷ []

-- The palette index of the color, or each of its RGB components, fits in a byte.
abbrev pub FitsColor : Color → Type 0
FitsColor Default = Unit {0}
FitsColor (Idx i) = i < 256
FitsColor (Rgb r g b) = (r < 256) × ((g < 256) × (b < 256))

-- The palette indices and RGB components of the foreground and background colors each fit in a byte.
abbrev pub FitsAttrs : Attrs → Type 0
FitsAttrs attrs = FitsColor attrs.fgcolor × FitsColor attrs.bgcolor

-- The numbers in the operation are in range: each row, column and count fits in 16 bits, and each palette index and RGB
-- component fits in a byte.
abbrev pub FitsOp : Op → Type 0
FitsOp (MoveTo row col) = (row < 2 ^ 16) × (col < 2 ^ 16)
FitsOp (MoveRight count) = count < 2 ^ 16
FitsOp (EraseChars count) = count < 2 ^ 16
FitsOp (ChangeAttrs was new) = FitsAttrs was × FitsAttrs new
FitsOp _ = Unit {0}

-- The operation prints characters.
abbrev pub is_print : Op → Bool
is_print (Print text) = true
is_print _ = false
