-- There was room for the bytes.
use Rattle.std.proofs.Common.{Bool, ◌+◌, ◌++◌, length, vec_len, ap, ◌∙◌}
use Rattle.std.specs.Prelude.{if◌then◌else◌}
use Rattle.vt100_c.proofs.records.put.Goals as goal

pub returns-clause-items : goal.returns-clause-items
returns-clause-items c =
    let was = c.args.records.now.items in
    c.extend_from_slice.ensures.items
    ∙ ap (λ (ok : Bool). if ok then was ++ c.args.bytes.now else was) (c.extend_from_slice.ensures.succeeds c.requires)

pub returns-clause-len : goal.returns-clause-len
returns-clause-len c =
    let was = vec_len c.args.records.now in
    c.extend_from_slice.ensures.len
    ∙ ap (λ (ok : Bool). if ok then was + length c.args.bytes.now else was)
    (c.extend_from_slice.ensures.succeeds c.requires)
