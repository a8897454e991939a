use Rattle.std.proofs.Common.{◌≡◌, ◌<◌, length, take, subst, sym, refl, rules, arith}
use Rattle.std.proofs.lemmas.List.{length-take}
use Rattle.std.proofs.lemmas.Result.{on_ok_weaker}
use Rattle.std.specs.List.{FoldsTo}
use Rattle.vt_grid.specs.Scrollback.{Scrollback}
use Rattle.vt_grid.proofs.ScrollbackRows.{added_reports}
use Rattle.vt_grid.proofs.scrollback.Scrollback.push_one.Goals as goal

pub returns-clause-pushed : goal.returns-clause-pushed
returns-clause-pushed g c = λ height width.
    let gone = take 1 c.args.page.now.rows in
    let n : length gone ≡ 1 = omega (arith, length-take 1 c.args.page.now.rows, c.requires.page.inside) in
    let room = subst (λ (a : Scrollback). length a.rows < a.capacity) c.self.view_is (search rules) in
    let told = subst (λ rows. FoldsTo g.L.Leaving.leaves c.args.leaving.now rows c.args.leaving.now)
    (sym (added_reports gone c.args.self.now room n)) refl in
    record {
      sent = on_ok_weaker c.add.result (λ added. (added height width, told)) c.add.ensures.added;
      refused = record { err = search rules; memory = c.add.ensures.memory };
    }
