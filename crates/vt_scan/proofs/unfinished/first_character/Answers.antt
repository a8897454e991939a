-- If no character is found, the bytes do not begin with one.
use Rattle.std.proofs.Common.{◌∙◌, arith}
use Rattle.vt_scan.proofs.Readback.{begun}
use Rattle.vt_scan.proofs.unfinished.first_character.Goals as goal
use Rattle.vt_scan.proofs.unfinished.first_character.Goals.{
  then-bytes-lt2-via-then-bytes-lt2,
  then-bytes-lt2-via-else-bytes-lt2+then-bytes-lt194,
  then-bytes-lt2-via-else-bytes-lt2+else-bytes-lt194+then-not-may_be_second,
}
use Rattle.vt_scan.proofs.unfinished.first_character.Goals.{then-bytes-lt3-via-then-bytes-lt3}
use Rattle.vt_scan.proofs.unfinished.first_character.Goals.{then-bytes-lt3-via-else-bytes-lt3+then-not-may_continue}
use Rattle.vt_scan.proofs.unfinished.first_character.Goals.{
  then-bytes-lt4-via-then-bytes-lt4,
  then-bytes-lt4-via-else-bytes-lt4+then-bytes-gt244,
  then-bytes-lt4-via-else-bytes-lt4+else-bytes-gt244+then-not-may_continue-2,
}

pub returns-then-bytes-lt2-clause-all : goal.returns-then-bytes-lt2-clause-all
returns-then-bytes-lt2-clause-all c = λ n e.
    let whole = begun c.args.bytes.now n e in
    elim c.then-bytes-lt2.branch [
      | then-bytes-lt2-via-then-bytes-lt2 w ↦ absurd (omega (arith, whole.two))
      | then-bytes-lt2-via-else-bytes-lt2+then-bytes-lt194 w ↦ absurd (omega (arith, whole.first))
      | then-bytes-lt2-via-else-bytes-lt2+else-bytes-lt194+then-not-may_be_second w ↦
          w.if-not-may_be_second.ensures ∙ whole.second
    ]

pub returns-then-bytes-lt3-clause-all : goal.returns-then-bytes-lt3-clause-all
returns-then-bytes-lt3-clause-all c = λ n e.
    let whole = begun c.args.bytes.now n e in
    let third = whole.third (omega arith) in
    elim c.then-bytes-lt3.branch [
      | then-bytes-lt3-via-then-bytes-lt3 w ↦ absurd (omega (arith, third.0))
      | then-bytes-lt3-via-else-bytes-lt3+then-not-may_continue w ↦ w.if-not-may_continue.ensures ∙ third.1
    ]

pub returns-then-bytes-lt4-clause-all : goal.returns-then-bytes-lt4-clause-all
returns-then-bytes-lt4-clause-all c = λ n e.
    let whole = begun c.args.bytes.now n e in
    let last = whole.last (omega arith) in
    elim c.then-bytes-lt4.branch [
      | then-bytes-lt4-via-then-bytes-lt4 w ↦ absurd (omega (arith, last.0))
      | then-bytes-lt4-via-else-bytes-lt4+then-bytes-gt244 w ↦ absurd (omega (arith, last.1))
      | then-bytes-lt4-via-else-bytes-lt4+else-bytes-gt244+then-not-may_continue-2 w ↦
          w.if-not-may_continue-2.ensures ∙ last.2
    ]
