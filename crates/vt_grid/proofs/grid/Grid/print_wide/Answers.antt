use Rattle.std.proofs.Common.{◌∙◌, ap, arith, rules}
use Rattle.vt_grid.specs.Page.{Page}
use Rattle.vt_grid.proofs.Printing.{has_room_made, width_room_made}
use Rattle.vt_grid.proofs.grid.Grid.print_wide.Goals as goal

pub put_wide-requires-clause-room : goal.put_wide-requires-clause-room
put_wide-requires-clause-room g c =
    let page = c.args.self.now in
    let e = c.in_ok-make_room.ensures.room.page in
    let i = c.self.invariant in
    let cols = i.width ∙ ap (λ (q : Page). q.width) c.self.view_is in
    let w = width_room_made 2 page in
    let room = has_room_made 2 page (omega arith) in
    rw e (omega arith)

pub returns-in_err-make_room : goal.returns-in_err-make_room
returns-in_err-make_room g c = record {
  page = search rules;
  sent = search rules;
  err = search rules;
  grows = search rules;
  memory = search rules;
}
