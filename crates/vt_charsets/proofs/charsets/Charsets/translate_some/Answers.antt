-- The bytes that are kept, or one byte.
use Rattle.std.proofs.Common.{take}
use Rattle.vt_charsets.proofs.Joined.{translated_kept}
use Rattle.vt_charsets.proofs.charsets.Charsets.translate_some.Goals as goal

pub returns-then-kept-gt0-clause-translated : goal.returns-then-kept-gt0-clause-translated
returns-then-kept-gt0-clause-translated c =
    translated_kept c.args.self.now (take c.kept_len-kept.result c.args.bytes.now) c.args.sink.now.items c.put.new.sink.items
    c.kept_len-kept.ensures.kept c.put.ensures.items
