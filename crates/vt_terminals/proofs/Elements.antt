-- The elements of output of operations.
use Rattle.std.specs.Prelude.{zero, suc, List, [], ◌∷◌, map, chars, if◌then◌else◌}
use Rattle.std.specs.List.{flat_map}
use Rattle.vt_cells.specs.Attrs.{same_attrs}
use Rattle.vt_cells.specs.Op.{Op, Hide, ClearAttrs, MoveTo, MoveRight, NextRow, LineFeed, Backspace, EraseBelow}
use Rattle.vt_cells.specs.Op.{EraseRest, EraseChars, SaveCursor, RestoreCursor, ChangeAttrs, Print}
use Rattle.vt_terminals.specs.Element.{Element, Character, Cup, Cr, Cuf, Bs, Lf, Ed, El, Ech, SgrReset, Sgr, Dectcem}
use Rattle.vt_terminals.specs.Element.{Decsc, Decrc}

-- The elements of an operation's output.
abbrev pub elements_of : Op → List Element
elements_of (Hide hidden) = Dectcem hidden ∷ []
elements_of ClearAttrs = SgrReset ∷ []
elements_of (MoveTo row column) = Cup row column ∷ []
elements_of (MoveRight zero) = []
elements_of (MoveRight (suc n)) = Cuf (suc n) ∷ []
elements_of NextRow = Cr ∷ Lf ∷ []
elements_of LineFeed = Lf ∷ []
elements_of Backspace = Bs ∷ []
elements_of EraseBelow = Ed ∷ []
elements_of EraseRest = El ∷ []
elements_of (EraseChars zero) = []
elements_of (EraseChars (suc n)) = Ech (suc n) ∷ []
elements_of SaveCursor = Decsc ∷ []
elements_of RestoreCursor = Decrc ∷ []
elements_of (ChangeAttrs was new) = if same_attrs was new then [] else Sgr was new ∷ []
elements_of (Print text) = map Character (chars text)

-- The elements of the output of several operations.
abbrev pub elements_of_all : List Op → List Element
elements_of_all ops = flat_map elements_of ops
