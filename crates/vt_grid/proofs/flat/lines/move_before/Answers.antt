use Rattle.std.proofs.Common.{◌≡◌, ◌-◌, ◌∙◌, ℕ, length, take, drop, sym, ap, subst, arith}
use Rattle.std.specs.List.{CopiedTo}
use Rattle.vt_grid.specs.Flat.{line_at}
use Rattle.vt_grid.proofs.Bounds.{window-before}
use Rattle.vt_grid.proofs.flat.lines.move_before.Goals as goal

pub returns-clause-lines : goal.returns-clause-lines
returns-clause-lines c =
    let entries = c.args.entries.now in
    let start = c.args.start in
    let count = c.args.count in
    let now = c.copy_within.new.self.items in
    let room = c.requires.room in
    let inside = c.requires.inside in
    let len : c.len-len.result ≡ length entries.items = c.len-len.ensures ∙ entries.ok.0 in
    let size : length now ≡ length entries.items =
    sym c.copy_within.new.self.ok.0 ∙ (c.copy_within.ensures.len ∙ entries.ok.0) in
    let copied = subst (λ (n : ℕ). CopiedTo entries.items now (n - count) (start - count) (n - (n - count)))
    len c.copy_within.ensures.by_index.0 in
    let kept = c.truncate.ensures.items ∙ ap (λ (n : ℕ). take (n - count) now) len in
    λ k.
    (λ z. line_at (drop (start - count) (kept z)) k)
    ∙ window-before start count entries.items now room inside size
    (λ j d after before. copied j d after (omega (arith, before, inside)))
    (λ j d after. c.copy_within.ensures.by_index.2 j d (omega (arith, after, len, room, inside))) k
