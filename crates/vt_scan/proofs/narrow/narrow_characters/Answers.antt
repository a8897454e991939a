use Rattle.std.proofs.Common.{ℕ, ◌+◌, ◌<◌, ◌++◌, ◌∷◌, [], List, length, take, drop, subst, sym, ap, arith}
use Rattle.std.specs.Prelude.{slice_set}
use Rattle.std.proofs.Math.Seq.{take-add}
use Rattle.std.proofs.lemmas.List.{length-drop, take_more_set}
use Rattle.vt_scan.specs.Texts.{AreNarrow}
use Rattle.vt_scan.proofs.Characters.{all_left, narrow_none, narrow_then}
use Rattle.vt_scan.proofs.narrow.narrow_characters.Goals as goal

pub loop-done-init : goal.loop-done-init
loop-done-init c = record { within = omega arith; inside = omega arith; narrow = narrow_none }

pub loop-done-preserved : goal.loop-done-preserved
loop-done-preserved c =
    let bytes = c.args.bytes.now in
    let at = c.loop-done.at in
    let text = c.loop-done.text in
    let done = c.loop-done.done in
    let new = c.in-Some.c in
    let len = c.in-Some.len in
    let left = all_left bytes at in
    let own : AreNarrow (take len (drop at bytes)) (new ∷ []) =
    subst (λ (rest : List ℕ). AreNarrow (take len rest) (new ∷ [])) left c.in-Some.ensures.narrow in
    let size = length-drop at bytes in
    let room : done < length text = omega arith in
    record {
      within = omega arith;
      inside = omega (arith, size, ap (λ (xs : List ℕ). length xs) left, c.in-Some.ensures.inside, c.loop-done.invariant.inside);
      narrow =
          subst (λ (bs : List ℕ). AreNarrow bs (take (done + 1) (slice_set text done new)))
          (sym (take-add at len bytes))
          (subst (λ (xs : List ℕ). AreNarrow (take at bytes ++ take len (drop at bytes)) xs)
          (sym (take_more_set text done new room))
          (narrow_then (take at bytes) (take len (drop at bytes)) (take done text) (new ∷ [])
          c.loop-done.invariant.narrow own));
    }
