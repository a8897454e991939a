-- Failed writes: a sink can reject only nonempty output.
use Rattle.std.specs.Prelude.{ℕ, ◌<◌, List, length, OnErr, Result}

-- If the result is an error, the text is not empty.
abbrev pub RefusedOnlyIfSome : {A E : Type 0} → Result A E → List ℕ → Type 0
RefusedOnlyIfSome result text = OnErr result (0 < length text)
