-- The elements of output: what a terminal reads one after another. The names are those of ECMA-48 and of the VT510
-- manual.
use Rattle.std.specs.Prelude.{ℕ, Bool, true, false, List, [], ◌∷◌}
use Rattle.std.specs.Char.{encode_utf8}
use Rattle.vt_cells.specs.Attrs.{Attrs}
use Rattle.vt_cells.specs.Op.{csi, counted, place, change_text}

-- An element of output, with its parameters. Rows and columns are counted from 0.
pub data Element : Type 0 where
  -- A graphic character, encoded in UTF-8.
  Character : (c : ℕ) → Element
  -- CUP to a row and column.
  Cup : (row column : ℕ) → Element
  Cr : Element
  -- CUF by a number of columns.
  Cuf : (count : ℕ) → Element
  Bs : Element
  Lf : Element
  -- ED and EL without a number.
  Ed : Element
  El : Element
  -- ECH of a number of columns.
  Ech : (count : ℕ) → Element
  -- SGR without a number.
  SgrReset : Element
  -- The SGR sequence that sets the components in which `new` differs from `was`.
  Sgr : (was new : Attrs) → Element
  -- DECTCEM.
  Dectcem : (hidden : Bool) → Element
  Decsc : Element
  Decrc : Element

-- The bytes of an element.
abbrev pub bytes_of_element : Element → List ℕ
bytes_of_element (Character c) = encode_utf8 c
bytes_of_element (Cup row column) = csi (place row column) 0x48
bytes_of_element Cr = 0x0D ∷ []
bytes_of_element (Cuf count) = counted count 0x43
bytes_of_element Bs = 0x08 ∷ []
bytes_of_element Lf = 0x0A ∷ []
bytes_of_element Ed = csi [] 0x4A
bytes_of_element El = csi [] 0x4B
bytes_of_element (Ech count) = counted count 0x58
bytes_of_element SgrReset = csi [] 0x6D
bytes_of_element (Sgr was new) = change_text was new
bytes_of_element (Dectcem true) = csi (0x3F ∷ 0x32 ∷ 0x35 ∷ []) 0x6C
bytes_of_element (Dectcem false) = csi (0x3F ∷ 0x32 ∷ 0x35 ∷ []) 0x68
bytes_of_element Decsc = 0x1B ∷ 0x37 ∷ []
bytes_of_element Decrc = 0x1B ∷ 0x38 ∷ []
