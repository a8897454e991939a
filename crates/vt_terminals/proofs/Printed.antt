-- What is printed after the cursor has moved.
use Rattle.std.specs.Prelude.{ℕ, ◌+◌, List}
use Rattle.vt_cells.specs.Cell.{CellValue}
use Rattle.vt_terminals.specs.Laws.{Moved, Printed}
use Rattle.vt_terminals.specs.Terminal.{Terminal}

pub printed_after_move : (T : Terminal) (r c n : ℕ) (cells : List CellValue) (s m t : T.State) → Moved T s m →
    Printed T r c n cells m t → Printed T r c n cells s t
printed_after_move T r c n cells s m t moved printed = record {
  new = λ k low begins. printed.new k low (λ z. moved.cells.begins r c (begins z));
  end = printed.end;
  at = printed.at;
  pending = printed.pending;
  rest = record {
    others = λ i k x away shown. printed.rest.others i k x away (moved.cells.shows i k x shown);
    before = λ k x next begins shown.
        printed.rest.before k x next (moved.cells.begins r c begins) (moved.cells.shows r k x shown);
    next = λ x begins shown.
        printed.rest.next x (moved.cells.begins r (c + n) begins) (moved.cells.shows r (c + n) x shown);
    begins = λ i k apart begins. printed.rest.begins i k apart (moved.cells.begins i k begins);
    modes = record {
      attrs = λ a e. printed.rest.modes.attrs a (moved.modes.attrs a e);
      hides = λ hidden e. printed.rest.modes.hides hidden (moved.modes.hides hidden e);
      saved = λ r a e. printed.rest.modes.saved r a (moved.modes.saved r a e);
    };
  };
}
