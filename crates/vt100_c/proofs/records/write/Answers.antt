-- The five parts of a record, joined one after the other.
use Rattle.std.proofs.Common.{ℕ, List, [], ◌∷◌, ◌++◌, length, ap, ◌∙◌}
use Rattle.std.specs.Int.{w32, w64, to_le_bytes}
use Rattle.vt100_c.proofs.Logging.{put_five}
use Rattle.vt100_c.proofs.records.write.Goals as goal

pub returns-clause-ok : goal.returns-clause-ok
returns-clause-ok c =
    let was = c.args.records.now.items in
    let kind = c.args.kind ∷ [] in
    let first = to_le_bytes w32 c.args.first in
    let second = to_le_bytes w32 c.args.second in
    let text = c.args.text.now in
    let len = to_le_bytes w64 (length text) in
    let e1 = c.put.ensures.items ∙ ap (λ (xs : List ℕ). xs ++ kind) c.in_ok-reserve.ensures.items in
    let e2 = c.put-2.ensures.items
    ∙ (ap (λ (xs : List ℕ). xs ++ c.to_le_bytes.result) e1
    ∙ ap (λ (xs : List ℕ). (was ++ kind) ++ xs) c.to_le_bytes.ensures) in
    let e3 = c.put-3.ensures.items
    ∙ (ap (λ (xs : List ℕ). xs ++ c.to_le_bytes-2.result) e2
    ∙ ap (λ (xs : List ℕ). ((was ++ kind) ++ first) ++ xs) c.to_le_bytes-2.ensures) in
    let e4 = c.put-4.ensures.items
    ∙ (ap (λ (xs : List ℕ). xs ++ c.to_le_bytes-3.result) e3
    ∙ ap (λ (xs : List ℕ). (((was ++ kind) ++ first) ++ second) ++ xs) c.to_le_bytes-3.ensures) in
    c.put-5.ensures.items
    ∙ (ap (λ (xs : List ℕ). xs ++ text) e4 ∙ put_five was kind first second len text)
