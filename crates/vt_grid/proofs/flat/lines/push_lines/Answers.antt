use Rattle.std.proofs.Common.{ℕ, ◌≡◌, ◌+◌, ◌-◌, ◌++◌, ◌∷◌, [], List, length, false, ap, sym, ◌∙◌, arith}
use Rattle.std.proofs.lemmas.List.{length-append, append_assoc}
use Rattle.std.proofs.lemmas.List.FromFn.{length-map-range_with_len}
use Rattle.vt_grid.specs.declared.flat.Line.{Line}
use Rattle.vt_grid.specs.Flat.{lines_from}
use Rattle.vt_grid.proofs.Packing.{lines_from_more}
use Rattle.vt_grid.proofs.flat.lines.push_lines.Goals as goal

pub push_reserved-requires : goal.push_reserved-requires
push_reserved-requires c =
    let n = length c.args.lines.now.items in
    let all = ap length c.loop-place.invariant.made ∙ (length-append c.args.lines.now.items (lines_from n (c.loop-place.place - n))
    ∙ ap (λ m. n + m) (length-map-range_with_len (λ place. record { place = place; used = 0; wrapped = false }) n (c.loop-place.place - n))) in
    omega (arith, all, c.loop-place.invariant.room, c.loop-place.invariant.after, c.loop-place.lines.ok.0)

pub loop-place-preserved : goal.loop-place-preserved
loop-place-preserved c =
    let at = c.loop-place in
    let old = c.args.lines.now.items in
    let n = length old in
    let p = at.place in
    let inv = at.invariant in
    let on : (p - n) + 1 ≡ p + 1 - n = omega (arith, inv.after) in
    let place : n + (p - n) ≡ p = omega (arith, inv.after) in
    record {
      made =
          c.push_reserved.ensures.items
          ∙ (ap (λ (xs : List Line). xs ++ record { place = p; used = 0; wrapped = false } ∷ []) inv.made
          ∙ (append_assoc old (lines_from n (p - n)) (record { place = p; used = 0; wrapped = false } ∷ [])
          ∙ ap (λ (xs : List Line). old ++ xs)
          (ap (λ (m : ℕ). lines_from n (p - n) ++ record { place = m; used = 0; wrapped = false } ∷ []) (sym place)
          ∙ (sym (lines_from_more n (p - n)) ∙ ap (lines_from n) on))));
      after = omega (arith, inv.after);
      room = omega (arith, inv.room, c.push_reserved.ensures.capacity);
    }
