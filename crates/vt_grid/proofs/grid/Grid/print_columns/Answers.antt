use Rattle.std.proofs.Common.{◌≡◌, ◌∙◌, List, length, sym, subst}
use Rattle.std.specs.Prelude.{IsErr, OnOk}
use Rattle.vt_rows.specs.Row.{RowValue}
use Rattle.vt_grid.specs.Page.{Page}
use Rattle.vt_grid.specs.Scrollback.{Sends, TakesMemory}
use Rattle.vt_grid.proofs.Printing.{no_columns, printed_mark, out_mark}
use Rattle.vt_grid.proofs.grid.Grid.print_columns.Goals as goal

pub print_mark-requires : goal.print_mark-requires
print_mark-requires g c =
    no_columns c.args.c c.in-Some.width (sym c.requires.columns ∙ c.in-Some.is)
    c.if-width-eq1.false c.if-width-eq2.false

pub returns-else-width-eq2 : goal.returns-else-width-eq2
returns-else-width-eq2 g c =
    let page = c.args.self.now in
    let e = no_columns c.args.c c.in-Some.width (sym c.requires.columns ∙ c.in-Some.is)
    c.if-width-eq1.false c.if-width-eq2.false in
    record {
      page =
          subst (λ (after : Page). OnOk c.print_mark.result (c.print_mark.new.self ≡ after))
          (sym (printed_mark c.args.c c.args.attrs page e)) c.print_mark.ensures.page;
      sent =
          subst (λ (out : List RowValue). OnOk c.print_mark.result
          (Sends g.L.Leaving.leaves (length page.rows) page.width out c.args.above.now
          c.args.leaving.now c.print_mark.new.above c.print_mark.new.leaving))
          (sym (out_mark c.args.c c.args.attrs page e)) c.print_mark.ensures.sent;
      err = c.print_mark.ensures.err;
      grows =
          subst (λ (out : List RowValue). IsErr c.print_mark.result → TakesMemory out c.args.above.now)
          (sym (out_mark c.args.c c.args.attrs page e)) c.print_mark.ensures.grows;
      memory = c.print_mark.ensures.memory;
    }
