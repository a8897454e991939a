-- The two events of a byte, in order.
use Rattle.std.proofs.Common.{ℕ, ◌∙◌, ap, map, option_to_list, sym}
use Rattle.std.proofs.lemmas.List.{map-append}
use Rattle.vt_scan.specs.Scanner.{event_of}
use Rattle.vt100.specs.Erasures.{erasures_after}
use Rattle.vt100.proofs.Erasing.{erasures_joined}
use Rattle.vt100.proofs.erasures.count_each.Goals as goal

pub returns : goal.returns
returns c =
    let old = c.args.erasures.now in
    let first = option_to_list c.args.events.first in
    let second = option_to_list c.args.events.second in
    let told = event_of c.args.scanner.now in
    c.count_some-2.ensures
    ∙ (ap (λ (count : ℕ). erasures_after count (map told second)) c.count_some.ensures
    ∙ (sym (erasures_joined old (map told first) (map told second))
    ∙ sym (ap (erasures_after old) (map-append told first second))))
