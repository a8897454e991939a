-- One more row's output is joined to the others.
use Rattle.std.proofs.Common.{◌<◌, ◌≤◌, ◌++◌, List, ℕ, length, set, ap, ◌∙◌, arith}
use Rattle.std.specs.Prelude.{string_bytes}
use Rattle.vt100_c.proofs.Joining.{joined_next, joined_place}
use Rattle.vt100_c.proofs.row_texts.formatted.Goals as goal

pub loop-item-preserved : goal.loop-item-preserved
loop-item-preserved c =
    let old = c.loop-item.rows in
    let new = c.next.new.self in
    let item = c.in-Some.item in
    let text = c.in_ok-text.text in
    let gives = c.in-Some.ensures.steps in
    let is = c.in_ok-text.was in
    let row = c.loop-item.row in
    let joined = string_bytes c.loop-item.joined in
    let ends = c.loop-item.ends in
    let invariant = c.loop-item.invariant in
    let place : row < length c.rows_formatted-rows.result =
    joined_place (λ (some : List (List ℕ)). some) old new item text gives is c.rows_formatted-rows.result row joined ends invariant.joined in
    let room : length c.rows_formatted-rows.result ≤ length ends = invariant.room in
    let kept = c.add.auto.ends in
    record {
      joined =
          joined_next (λ (some : List (List ℕ)). some) old new item text gives is c.rows_formatted-rows.result row joined
          (string_bytes c.add.new.joined) ends c.add.new.ends invariant.joined
          (c.in_ok-add.ensures.text ∙ ap (λ (bytes : List ℕ). joined ++ bytes) c.deref.ensures)
          (c.in_ok-add.ensures.ends
          ∙ ap (λ (bytes : List ℕ). set ends row (length (joined ++ bytes))) c.deref.ensures)
          (omega arith);
      room = omega arith;
    }
