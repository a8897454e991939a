-- An allocation can fail only if the text that needs it is not empty.
use Rattle.std.proofs.Common.{◌<◌, ℕ, List, length}
use Rattle.std.specs.Prelude.{Err, IsErr, IsOk, Ok, OnErr, Result}

pub some_text : {A E : Type 0} (made : Result A E) (text : List ℕ) →
    OnErr made (0 < length text) → IsErr made → 0 < length text
some_text (Ok value) text some refused = absurd (cc refused)
some_text (Err error) text some refused = some

pub other_shown : {A E : Type 0} (made : Result A E) (Same : Type 0) → (Same → IsOk made) → IsErr made → ¬ Same
other_shown (Ok value) Same never refused = absurd (cc refused)
other_shown (Err error) Same never refused = λ same. cc (never same)

pub ruleset where_some = (some_text, other_shown)
