-- The first row is within the text, and the next one begins after it.
use Rattle.std.proofs.Common.{◌≤◌, List, ℕ, length, ap, ◌∙◌, arith}
use Rattle.vt100_c.specs.Walking.{after_line_end}
use Rattle.vt100_c.proofs.RowPlaces.{next_inside, next_rows}
use Rattle.vt100_c.proofs.capture_reading.next_row.Goals as goal

pub overflow_add-result : goal.overflow_add-result
overflow_add-result c =
    let inside = next_inside c.args.width c.args.text.now c.basic_formatted_rows-rows.result c.next.new.self
    c.in-Some.row.now c.basic_formatted_rows-rows.ensures c.in-Some.ensures.steps in
    omega (arith, inside, c.requires)

pub overflow_add-result-in-None : goal.overflow_add-result-in-None
overflow_add-result-in-None c =
    let inside = next_inside c.args.width c.args.text.now c.basic_formatted_rows-rows.result c.next.new.self
    c.in-Some.row.now c.basic_formatted_rows-rows.ensures c.in-Some.ensures.steps in
    omega (arith, inside, c.requires)

pub overflow_add-result-in-Some-next : goal.overflow_add-result-in-Some-next
overflow_add-result-in-Some-next c =
    let inside = next_inside c.args.width c.args.text.now c.basic_formatted_rows-rows.result c.next.new.self
    c.in-Some.row.now c.basic_formatted_rows-rows.ensures c.in-Some.ensures.steps in
    let same = c.as_bytes.ensures.len in
    let place : c.after_line_end.result ≤ length c.as_bytes.result.now =
    c.after_line_end.ensures.inside (omega (arith, inside, same)) in
    omega (arith, place, same, c.requires)

pub returns-in-Some-next : goal.returns-in-Some-next
returns-in-Some-next c =
    next_rows c.args.width c.args.at c.args.text.now c.basic_formatted_rows-rows.result c.next.new.self
    c.next-2.new.self c.in-Some.row.now c.in-Some-next.field-0.now c.after_line_end.result
    c.basic_formatted_rows-rows.ensures c.in-Some.ensures.steps c.in-Some-next.ensures.steps
    (c.after_line_end.ensures.value
    ∙ ap (λ (bytes : List ℕ). after_line_end bytes (length c.in-Some.row.now)) c.as_bytes.ensures.value)
