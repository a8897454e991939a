use Rattle.std.proofs.Common.{◌≡◌, ◌++◌, ℕ, List, length, drop, replicate, ◌∙◌, ap, arith}
use Rattle.std.proofs.lemmas.List.{append-nil, drop_all}
use Rattle.vt_rows.specs.Row.{RowValue, blank_row}
use Rattle.vt_grid.proofs.Scrolls.{blank_before}
use Rattle.vt_grid.proofs.page_rows.PageRows.clear_all.Goals as goal

pub returns : goal.returns
returns c =
    let own = c.args.self.now in
    let n = c.len.result in
    let row = blank_row c.args.attrs own.width in
    let all : replicate n row ++ drop n own.rows ≡ replicate (length own.rows) row =
    ap (λ (xs : List RowValue). replicate n row ++ xs) (drop_all n own.rows (omega (arith, c.len.ensures)))
    ∙ (append-nil (replicate n row) ∙ ap (λ (m : ℕ). replicate m row) c.len.ensures) in
    blank_before n c.args.attrs own c.clear_rows.new.self
    (omega (arith, c.len.ensures)) c.clear_rows.ensures.len c.clear_rows.ensures.width c.clear_rows.ensures.by_index
    ∙ (λ z. record { rows = all z; width = own.width })
