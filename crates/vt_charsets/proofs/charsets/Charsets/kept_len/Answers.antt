-- In the ground state with no single shift, each byte that passes the test is kept.
use Rattle.std.proofs.Common.{◌≡◌, rules, take, None}
use Rattle.vt_scan.specs.declared.table.Kind.TheVariants.{Ground}
use Rattle.vt_charsets.proofs.Kept.{all_kept}
use Rattle.vt_charsets.proofs.charsets.Charsets.kept_len.Goals as goal

pub returns-clause-kept : goal.returns-clause-kept
returns-clause-kept c =
    let ground : c.args.self.now.kind ≡ Ground = search rules in
    let single : c.args.self.now.state.single ≡ None = search rules in
    all_kept c.args.self.now c.is_drawing.result (take c.kept_len.result c.args.bytes.now)
    ground single c.is_drawing.ensures c.kept_len.ensures.kept
