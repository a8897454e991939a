use Rattle.std.proofs.Common.{◌∙◌, ℕ, ap, subst, sym}
use Rattle.std.proofs.lemmas.Str.{length-encode}
use Rattle.std.specs.Char.{encode_utf8}
use Rattle.std.specs.Prelude.{Some}
use Rattle.vt_screen.specs.Internals.{KeepsRoom}
use Rattle.vt_screen.proofs.RepeatRooms.{keeps_drawn, keeps_narrow}
use Rattle.vt_screen.proofs.RepeatTokens.{skips_character}
use Rattle.vt_screen.proofs.repeats.skip_character.Goals as goal

pub returns-then-width-eq1 : goal.returns-then-width-eq1
returns-then-width-eq1 c cols =
    let found = c.in_ok-character.ensures in
    let character = c.in_ok-character.character in
    skips_character cols c.args.room c.saturating_sub.result c.len_utf8-len.result character c.args.text.now
    (length-encode character ∙ sym c.len_utf8-len.ensures.value) found.first
    (subst (λ (k : ℕ). KeepsRoom cols c.args.room k (encode_utf8 character)) (sym c.saturating_sub.ensures)
    (keeps_narrow cols c.args.room character (record {
      drawn = found.drawn;
      columns = found.columns ∙ ap Some c.if-width-eq1.true;
    })))

pub returns : goal.returns
returns c cols =
    let found = c.in_ok-character.ensures in
    let character = c.in_ok-character.character in
    skips_character cols c.args.room c.saturating_sub-2.result c.len_utf8-len.result character c.args.text.now
    (length-encode character ∙ sym c.len_utf8-len.ensures.value) found.first
    (subst (λ (k : ℕ). KeepsRoom cols c.args.room k (encode_utf8 character)) (sym c.saturating_sub-2.ensures)
    (keeps_drawn cols c.args.room character found.drawn))
