use Rattle.std.proofs.Common.{ℕ, ◌+◌, ◌-◌, ◌∙◌, ap, length, take, subst, arith}
use Rattle.vt_cells.specs.Internals.{IsBuffer}
use Rattle.vt_cells.proofs.Sinks.{pushed}
use borrow.Rule.Slice.PartMut.{put_mid}
use Rattle.vt_cells.proofs.buffer.Buffer.push_one.Goals as goal

pub invariant_of-self : goal.invariant_of-self
invariant_of-self c =
    let len = c.self.inside.len in
    subst
    (λ (n : ℕ). IsBuffer (len + n) (take (len + n) (put_mid len (len + n - len) c.self.inside.bytes c.copy_one.new.to)))
    c.requires.one
    (pushed len (len + length c.args.text.now - len) c.self.inside.bytes c.copy_one.new.to c.args.text.now
    c.self.invariant (omega (arith, c.self.told, c.self.invariant.bounded))
    (omega (arith, c.requires.room, c.requires.one, ap length c.self.view_is))
    (c.copy_one.ensures ∙ c.as_bytes.ensures.value) c.utf8.text)
