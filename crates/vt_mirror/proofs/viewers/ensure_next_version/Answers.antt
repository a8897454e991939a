use Rattle.std.proofs.Common.{inr, refl, rules}
use Rattle.vt_mirror.specs.declared.copies.Note.{Note}
use Rattle.vt_mirror.proofs.Keeping.{map_from_retain}
use Rattle.vt_mirror.proofs.viewers.ensure_next_version.Goals as goal

pub returns : goal.returns
returns c =
    inr (
      refl,
      map_from_retain _ (λ (n : Note). record n { version = 0 }) (λ f k v b w g told. search rules) _
          c.args.notes.now.entries c.retain.new.self.entries c.retain.ensures.filtered,
    )
