-- The steps left after one more number, read as a group.
use Rattle.std.proofs.Common.{◌≡◌, ◌<◌, ◌∙◌, ◌∷◌, [], List, ℕ, ap, arith, get_or, length, sym}
use Rattle.std.proofs.lemmas.List.{get_or-map, length-map}
use Rattle.vt_screen.specs.Sgr.{group_read}
use Rattle.vt100.proofs.Stepping.{settings_left}
use Rattle.vt100.proofs.sgr.set_by_numbers.Goals as goal

pub loop-i-preserved : goal.loop-i-preserved
loop-i-preserved g c =
    let groups = c.args.parameters.now.groups in
    let numbers = c.args.numbers.now in
    let i = c.loop-i.i in
    let one : ℕ → List ℕ = λ (number : ℕ). number ∷ [] in
    let inside : i < length numbers = omega arith in
    let few : i < length groups = omega (arith, inside, ap length c.requires, length-map numbers one) in
    let group : get_or groups i [] ≡ get_or numbers i 0 ∷ [] =
    ap (λ (l : List (List ℕ)). get_or l i []) c.requires ∙ get_or-map one numbers i 0 [] inside in
    settings_left g.CB.Callbacks.does c.args.callbacks.now c.loop-i.callbacks c.apply.new.callbacks
    c.args.screen.now c.loop-i.screen c.apply.new.screen _ groups c.loop-i.wanted groups i c.read-read.result
    few (c.read-read.ensures ∙ ap (group_read c.loop-i.wanted) (sym group)) c.loop-i.invariant c.apply.ensures
