use Rattle.std.proofs.Common.{subst, sym, List, ℕ}
use Rattle.vt_screen.specs.ShortMoves.{IsElement, LeadsTo}
use Rattle.vt_screen.specs.declared.short_moves.elements.Element.{Element}
use Rattle.vt_screen.proofs.ReadElements.{next_row_target, place_leads, right_target}
use Rattle.vt_screen.proofs.PortableMoves.{next_row_settles, place_settles, right_target_settles}
use Rattle.vt_screen.proofs.short_moves.destination.Goals as goal

pub returns-in-Place-clause-leads : goal.returns-in-Place-clause-leads
returns-in-Place-clause-leads c =
    let is = subst (λ (e : Element). IsElement e c.args.head.now) c.in-Place.is c.requires in
    subst (λ (t : List ℕ). LeadsTo c.args.size.rows c.args.size.cols c.args.at c.in-Place.to t) (sym is.2)
    (place_leads c.args.size.rows c.args.size.cols c.args.at c.in-Place.to is.0 is.1 c.if-to-size.true c.if-to-size-2.true)

pub returns-in_ok-from-in-Right-clause-leads : goal.returns-in_ok-from-in-Right-clause-leads
returns-in_ok-from-in-Right-clause-leads c =
    right_target c.args.size.rows c.args.size.cols c.in-Right.count c.args.at c.in_ok-from-in-Right.from c.right_of.result
    c.args.head.now c.in_ok-from-in-Right.was
    (subst (λ (e : Element). IsElement e c.args.head.now) c.in-Right.is c.requires) c.right_of.ensures.row
    c.right_of.ensures.col

pub returns-in_ok-from-in-NextRow-clause-leads : goal.returns-in_ok-from-in-NextRow-clause-leads
returns-in_ok-from-in-NextRow-clause-leads c =
    next_row_target c.args.size.rows c.args.size.cols c.args.at c.in_ok-from-in-NextRow.from c.next_row.result
    c.args.head.now c.in_ok-from-in-NextRow.was
    (subst (λ (e : Element). IsElement e c.args.head.now) c.in-NextRow.is c.requires) c.next_row.ensures.row
    c.next_row.ensures.col

pub returns-in-Place-clause-settles : goal.returns-in-Place-clause-settles
returns-in-Place-clause-settles c =
    place_settles c.args.size.rows c.args.size.cols c.args.at c.in-Place.to c.args.head.now
    (subst (λ (e : Element). IsElement e c.args.head.now) c.in-Place.is c.requires)

pub returns-in_ok-from-in-Right-clause-settles : goal.returns-in_ok-from-in-Right-clause-settles
returns-in_ok-from-in-Right-clause-settles c =
    right_target_settles c.args.size.rows c.args.size.cols c.in-Right.count c.args.at c.in_ok-from-in-Right.from
    c.right_of.result c.args.head.now c.in_ok-from-in-Right.was
    (subst (λ (e : Element). IsElement e c.args.head.now) c.in-Right.is c.requires)

pub returns-in_ok-from-in-NextRow-clause-settles : goal.returns-in_ok-from-in-NextRow-clause-settles
returns-in_ok-from-in-NextRow-clause-settles c =
    next_row_settles c.args.size.rows c.args.size.cols c.args.at c.in_ok-from-in-NextRow.from c.next_row.result
    c.args.head.now c.in_ok-from-in-NextRow.was
    (subst (λ (e : Element). IsElement e c.args.head.now) c.in-NextRow.is c.requires) c.next_row.ensures.row
