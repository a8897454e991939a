-- A write accepted a prefix of what is left, or was interrupted.
use Rattle.std.proofs.Common.{ℕ, List, Bor, sym, subst}
use Rattle.vt_show.specs.Internals.{HasWrittenTo}
use Rattle.vt_show.proofs.Chunks.{written_kept, written_more}
use Rattle.vt_show.proofs.engine.write_bytes.Goals.{in-Ok, in-Err}
use Rattle.vt_show.proofs.engine.write_bytes.Goals as goal

pub loop-preserved : goal.loop-preserved
loop-preserved g c =
    let all = c.args.bytes.now in
    let rest = c.loop.rest.now in
    let old = g.W.Write.contents c.args.writer.now in
    let mid = g.W.Write.contents c.loop.writer in
    let new = g.W.Write.contents c.write.new.self in
    elim c.match-write.branch [
      | in-Ok w ↦
          subst (λ (r : Bor (List ℕ)). HasWrittenTo all r.now old new) (sym w.rest-is)
          (written_more all rest w.in-Ok.count old mid new c.loop.invariant w.in-Ok.ensures.bytes)
      | in-Err w ↦
          subst (λ (r : Bor (List ℕ)). HasWrittenTo all r.now old new) (sym w.rest-is)
          (written_kept all rest old mid new c.loop.invariant w.in-Err.ensures.bytes)
    ]
