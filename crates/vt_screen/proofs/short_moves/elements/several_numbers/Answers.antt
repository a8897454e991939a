use Rattle.vt_cells.specs.Op.{MoveTo, bytes_of}
use Rattle.vt_screen.proofs.ReadTexts.{place_more}
use Rattle.vt_screen.proofs.short_moves.elements.several_numbers.Goals as goal

pub returns-then-ends_with_h-clause-element : goal.returns-then-ends_with_h-clause-element
returns-then-ends_with_h-clause-element c =
    let rest = c.in_ok-pos.ensures.element in (
      rest.0,
      rest.1,
      place_more c.args.first c.args.len c.in_ok-pos.more c.args.bytes.now
          (bytes_of (MoveTo c.in_ok-pos.pos.row c.in_ok-pos.pos.col)) c.requires.inside c.requires.digits
          c.requires.separator rest.2,
    )
