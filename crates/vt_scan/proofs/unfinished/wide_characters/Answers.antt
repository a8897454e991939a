use Rattle.std.proofs.Common.{ℕ, ◌<◌, length, inl, inr, sym, subst, arith}
use Rattle.std.specs.Prelude.{slice_index_or, slice_set}
use Rattle.std.proofs.lemmas.Bool.{cases_eq}
use Rattle.std.proofs.lemmas.List.{get_or-set_same, get_or-set_other}
use Rattle.vt_scan.specs.Texts.{IsWideThree, three_at}
use Rattle.vt_scan.proofs.unfinished.wide_characters.Goals as goal

pub loop-done-preserved : goal.loop-done-preserved
loop-done-preserved c =
    let bytes = c.args.bytes.now in
    let text = c.loop-done.text in
    let done = c.loop-done.done in
    let new = c.in-Some.c in
    record {
      within = omega arith;
      threes = λ k lt. elim (cases_eq k done) [
        | inl same ↦
            let inside : done < length text = omega arith in
            subst (λ (j : ℕ). IsWideThree (three_at bytes j) (slice_index_or (slice_set text done new) j 0)) (sym same)
            (subst (λ (x : ℕ). IsWideThree (three_at bytes done) x) (sym (get_or-set_same text done new 0 inside))
            c.in-Some.ensures)
        | inr other ↦
            let before : k < done = omega (arith, lt, other) in
            subst (λ (x : ℕ). IsWideThree (three_at bytes k) x) (sym (get_or-set_other text done k new 0 other))
            (c.loop-done.invariant.threes k before)
      ];
    }
