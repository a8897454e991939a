-- A prefix of equal bytes consists of equal bytes.
use Rattle.std.proofs.Common.{◌≤◌, ℕ, List, ap, ◌∙◌, arith, replicate}
use Rattle.std.proofs.lemmas.List.{take-replicate}
use Rattle.vt_screen.specs.Texts.{screen_after_text}
use Rattle.vt100.proofs.repeating.repeat_in_row.Goals as goal

pub returns : goal.returns
returns c =
    let most : c.from.result ≤ 64 = omega (arith, c.from.ensures, c.requires.most) in
    c.print_text.ensures
    ∙ ap (λ (text : List ℕ). screen_after_text text c.args.screen.now)
    (take-replicate c.from.result 64 c.args.byte most
    ∙ ap (λ (k : ℕ). replicate k c.args.byte) c.from.ensures)
