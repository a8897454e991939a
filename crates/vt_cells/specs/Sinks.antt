-- The contents of a sink after a failed write.
use Rattle.std.specs.Prelude.{◌≡◌, ◌<◌, ℕ, List, ◌++◌, length}

-- A write of `text` to a sink failed and changed the sink's contents from `before` to `after`. The sink accepted a
-- prefix of the text and failed on the nonempty string offered next; nothing more was offered. The sink's own
-- relation `refuses` describes the effect of the failed write.
pub record IsStopped (refuses : List ℕ → List ℕ → List ℕ → Type 0) (before text after : List ℕ) : Type 0 where
  pub taken : List ℕ
  pub offered : List ℕ
  pub rest : List ℕ
  pub parts : text ≡ taken ++ (offered ++ rest)
  pub nonempty : 0 < length offered
  pub refused : refuses (before ++ taken) offered after
