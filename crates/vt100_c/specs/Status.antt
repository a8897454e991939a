-- The statuses that calls return.
use Rattle.std.specs.Prelude.{ℕ, Result, Ok, Err}
use Rattle.vt_cells.specs.declared.error.Error.{Error}
use Rattle.vt_cells.specs.declared.error.Error.TheVariants.{Failed, NoNumber, OutOfMemory}

abbrev pub ok : ℕ
ok = 0

abbrev pub out_of_memory : ℕ
out_of_memory = 1

abbrev pub failed : ℕ
failed = 2

abbrev pub bad_argument : ℕ
bad_argument = 3

abbrev pub wrong_kind : ℕ
wrong_kind = 4

abbrev pub other_size : ℕ
other_size = 5

abbrev pub no_object : ℕ
no_object = 6

abbrev pub in_use : ℕ
in_use = 7

abbrev pub no_number : ℕ
no_number = 8

-- The status that a call returns for an error.
abbrev pub status_of : Error → ℕ
status_of OutOfMemory = 1
status_of Failed = 2
status_of NoNumber = 8

-- The status that C receives for a result without a value: `ok` for success, and otherwise the status of the error.
abbrev pub status_of_result : Result (Unit {0}) Error → ℕ
status_of_result (Ok done) = 0
status_of_result (Err error) = status_of error
