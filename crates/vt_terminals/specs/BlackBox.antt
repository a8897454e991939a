-- Terminals as black boxes: what is observed of them after each sequence of bytes that they have read.
use Rattle.std.specs.Prelude.{◌≡◌, ◌<◌, ◌^◌, ◌++◌, ℕ, Bool, true, List, [], ◌∷◌, length}
use Rattle.vt_cells.specs.Attrs.{Attrs}
use Rattle.vt_cells.specs.Cell.{CellValue}
use Rattle.vt_cells.specs.Op.{FitsAttrs, bytes_of_all}
use Rattle.vt_redraw.specs.Fits.{IsDrawn}
use Rattle.vt_redraw.specs.Picture.{IsColoredPicture, IsPicture, Picture}
use Rattle.vt_redraw.specs.Redraw.{difference_in}
use Rattle.vt_redraw.specs.Steady.{IsSteady}
use Rattle.vt_redraw.specs.declared.form.Form.TheVariants.{Portable}
use Rattle.vt_terminals.specs.Element.{Character, Cuf, Cup, Ech, Element, Sgr, bytes_of_element}
use Rattle.vt_terminals.specs.Laws.{Laws}
use Rattle.vt_terminals.specs.Room.{HasRoom}
use Rattle.vt_terminals.specs.Terminal.{Displays, Positions, Terminal}

-- The numbers of the element are in range, and its character is one that terminals print or add to a glyph. The laws
-- say nothing of other elements.
abbrev pub FitsElement : Element → Type 0
FitsElement (Character c) = IsDrawn c
FitsElement (Cup r c) = (r < 65535) × (c < 65535)
FitsElement (Cuf n) = n < 2 ^ 16
FitsElement (Ech n) = n < 2 ^ 16
FitsElement (Sgr was new) = FitsAttrs was × FitsAttrs new
FitsElement _ = Unit {0}

-- A terminal of a fixed size, given by what is observed of it after it has read the bytes `read`.
pub record BlackBox : Type 0 where
  pub height : ℕ
  pub width : ℕ
  -- The terminal is in one of the states that `Terminal` describes: between two elements of output, with the modes that
  -- the output assumes.
  pub is_ready : (read : List ℕ) → Bool
  -- The relations of `Terminal`.
  pub shows : (read : List ℕ) → (r c : ℕ) → CellValue → Bool
  pub begins : (read : List ℕ) → (r c : ℕ) → Bool
  pub is_at : (read : List ℕ) → (r c : ℕ) → Bool
  pub is_pending : (read : List ℕ) → (r : ℕ) → Bool
  pub is_at_end : (read : List ℕ) → (r : ℕ) → Bool
  pub has_attrs : (read : List ℕ) → Attrs → Bool
  pub hides : (read : List ℕ) → Bool → Bool
  pub has_saved : (read : List ℕ) → (r : ℕ) → Attrs → Bool

-- The bytes that the black box has read when it is ready.
abbrev pub Ready : BlackBox → Type 0
Ready box = (read : List ℕ) × (box.is_ready read ≡ true)

-- The black box as a terminal, which reads only elements that fit.
abbrev pub terminal_of : BlackBox → Terminal
terminal_of box = record {
  State = Ready box;
  height = box.height;
  width = box.width;
  Reads = λ element s t. FitsElement element × (s.0 ++ bytes_of_element element ≡ t.0);
  Shows = λ s r c x. box.shows s.0 r c x ≡ true;
  Begins = λ s r c. box.begins s.0 r c ≡ true;
  IsAt = λ s r c. box.is_at s.0 r c ≡ true;
  IsPending = λ s r. box.is_pending s.0 r ≡ true;
  IsAtEnd = λ s r. box.is_at_end s.0 r ≡ true;
  HasAttrs = λ s a. box.has_attrs s.0 a ≡ true;
  Hides = λ s hidden. box.hides s.0 hidden ≡ true;
  HasSaved = λ s r a. box.has_saved s.0 r a ≡ true;
}

-- The black box obeys the laws. If it is ready and reads an element that fits, it is ready again.
pub record IsLawful (box : BlackBox) : Type 0 where
  pub stays : (element : Element) (read : List ℕ) → FitsElement element → box.is_ready read ≡ true →
      box.is_ready (read ++ bytes_of_element element) ≡ true
  pub laws : Laws (terminal_of box)

-- After the black box has read the bytes, it is ready and displays the picture, except perhaps for the cells at the
-- positions `near`.
abbrev pub ShowsAfter : BlackBox → (near : Positions) → Picture → List ℕ → Type 0
ShowsAfter box near picture read = (ready : box.is_ready read ≡ true) × Displays (terminal_of box) near picture
    (read, ready)

-- A picture that portable output displays on the lawful black box, except perhaps for the cells at the positions
-- `near`:
-- it is steady, it has the size of the box, and its glyphs of uncertain width have room.
pub record CanShow (box : BlackBox) (near : Positions) (picture : Picture) : Type 0 where
  pub sound : IsPicture picture
  pub colored : IsColoredPicture picture
  pub steady : IsSteady picture
  pub room : HasRoom near picture
  pub width : picture.width ≡ box.width
  pub height : length picture.rows ≡ box.height

-- The bytes of the portable diffs from the given picture to the first picture of the list, and then from each picture
-- of the list to the next.
abbrev pub portable_changes : Picture → List Picture → List ℕ
portable_changes prev [] = []
portable_changes prev (x ∷ xs) = bytes_of_all (difference_in Portable x prev) ++ portable_changes x xs
