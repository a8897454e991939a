use Rattle.std.specs.Int.RustNames.{bit_or}
use Rattle.vt_redraw.proofs.SteadyTests.{within_four, within_left, within_right}
use Rattle.vt_redraw.proofs.steadiness.lens_of_four.Goals as goal

pub returns : goal.returns
returns c =
    let one = c.text_len.result in
    let two = c.text_len-2.result in
    let three = c.text_len-3.result in
    let four = c.text_len-4.result in
    within_four (bit_or (bit_or one two) (bit_or three four)) c.args.cells.now _ _ _ _ c.requires
    c.index-cells-0.is c.index-cells-1.is c.index-cells-2.is c.index-cells-3.is
    (within_left (bit_or one two) (bit_or three four) _ (within_left one two _ c.text_len.ensures))
    (within_left (bit_or one two) (bit_or three four) _ (within_right one two _ c.text_len-2.ensures))
    (within_right (bit_or one two) (bit_or three four) _ (within_left three four _ c.text_len-3.ensures))
    (within_right (bit_or one two) (bit_or three four) _ (within_right three four _ c.text_len-4.ensures))
