-- The translation is copied whole.
use Rattle.std.proofs.Common.{◌≡◌, ◌∙◌, ◌++◌, ap, arith, List, ℕ}
use Rattle.vt100_c.proofs.Translated.{copied_whole}
use Rattle.vt_charsets.specs.Translation.{translation}
use Rattle.vt100_c.proofs.charsets.translate_into.Goals as goal

pub returns-in-Ok-clause-ok : goal.returns-in-Ok-clause-ok
returns-in-Ok-clause-ok c = λ _ r s.
    let bytes = c.args.bytes.now in
    let translated = c.in-Ok.ensures.ok r s in
    let sink : c.as_slice.result.now ≡ translation r bytes =
    c.as_slice.ensures.value
    ∙ translated.output ∙ ap (λ (l : List ℕ). l ++ translation r bytes) c.new-sink.ensures.items in
    copied_whole bytes c.args.out.now c.copy.new.out c.as_slice.result.now c.copy.result c.translate.new.self r
    translated.stands sink (omega arith) c.copy.ensures.count c.copy.ensures.text c.copy.ensures.rest
