use Rattle.std.proofs.Common.{◌∙◌, ℕ, List, rules, subst, sym}
use Rattle.std.specs.Int.NonZero.{non_zero_u16_get}
use Rattle.std.specs.Io.KnownBytes.{Appends}
use Rattle.vt_show.specs.Shown.{AppendsPart, IsOfMode, ReadsForText}
use Rattle.vt_show.proofs.Chunks.{for_text, on_err_of, on_ok_then}
use Rattle.vt_show.proofs.engine.run.Goals as goal

pub returns : goal.returns
returns g c =
    let written = g.W.Write.contents c.args.writer.now in
    let grown = g.W.Write.contents c.write_text.new.writer in
    let read : (Holds : List ℕ → Type 0) → Holds c.as_str.result.now → ReadsForText c.args.mode
    (non_zero_u16_get c.args.rows) (non_zero_u16_get c.args.cols) (g.R.Read.remaining c.args.reader.now)
    (g.R.Read.remaining c.read_all.new.reader) Holds =
    λ Holds. for_text c.args.mode (non_zero_u16_get c.args.rows) (non_zero_u16_get c.args.cols)
    (g.R.Read.remaining c.args.reader.now) (g.R.Read.remaining c.read_all.new.reader) c.in-Ok.parser
    c.read_all.new.parser c.screen.result.now c.as_str.result.now Holds c.in-Ok.ensures.ground c.in-Ok.ensures.shown
    c.in_ok-read_all.ensures.ran c.screen.ensures.value (c.as_str.ensures.value ∙ c.in_ok-text.ensures.text)
    (subst (IsOfMode c.args.mode) (sym c.as_str.ensures.value) c.in_ok-text.ensures.controls) in
    record {
      call = record {
        end = search rules;
        text = on_ok_then c.write_text.result _ _ (read (Appends written grown)) c.write_text.ensures.text;
        nothing = search rules;
        read_first = search rules;
        part =
            λ e. read (AppendsPart written grown) (on_err_of c.write_text.result _ _ e c.write_text.ensures.part);
      };
    }
