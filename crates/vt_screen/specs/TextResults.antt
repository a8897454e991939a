-- Results of calls that return strings.
use Rattle.std.specs.Prelude.{◌≡◌, ℕ, List, Result, String, IfOk, string_bytes}
use Rattle.vt_cells.specs.Refusals.{OnlyOutOfMemory}
use Rattle.vt_cells.specs.declared.error.Error.{Error}
use Rattle.vt_redraw.specs.Refusals.{RefusedOnlyIfSome}

-- The given predicate holds for the string that a call returns, if any.
abbrev pub IfText : {A E : Type 0} → Result (String A) E → (List ℕ → Type 0) → Type 0
IfText result P = IfOk result (λ text. P (string_bytes text))

-- The result is the given string. If that string is not empty, the result may instead be an out-of-memory error.
pub record AnswersText {A : Type 0} (result : Result (String A) Error) (bytes : List ℕ) : Type 0 where
  pub text : IfText result (λ text. text ≡ bytes)
  pub memory : OnlyOutOfMemory result
  pub nonempty : RefusedOnlyIfSome result bytes
