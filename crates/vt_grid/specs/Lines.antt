-- The table of a page's rows.
use Rattle.std.specs.Prelude.{ℕ, List}
use Rattle.vt_grid.specs.declared.flat.Line.{Line}

-- The entries of a table, from the top row to the bottom row, and the number of entries for which it has memory.
pub record LinesValue : Type 0 where
  pub items : List Line
  pub capacity : ℕ
