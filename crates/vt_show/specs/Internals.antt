-- Auxiliary definitions that are cited only by the contracts and proofs of private functions.
use Rattle.std.specs.Prelude.{◌≡◌, ℕ, List, ◌++◌}
use Rattle.std.specs.Io.KnownBytes.{Appends, Consumes}
use Rattle.std.specs.declared.option.Option.{Option}
use Rattle.vt100.specs.Parser.{ParserValue, Ran, does_nothing}

-- The input was `left` before and is `rest` now, and parsing the bytes read in between turns the parser `old` into
-- `new`.
pub record HasReadBytes (left rest : Option (List ℕ)) (old new : ParserValue (Unit {0})) : Type 0 where
  pub bytes : List ℕ
  pub reads : Consumes left rest bytes
  pub ran : Ran does_nothing old bytes new

-- The output grew from `old` to `new` by a prefix of the bytes `all`, and the bytes `rest` remain to be written.
pub record HasWrittenTo (all rest : List ℕ) (old new : Option (List ℕ)) : Type 0 where
  pub taken : List ℕ
  pub parts : all ≡ taken ++ rest
  pub appends : Appends old new taken
