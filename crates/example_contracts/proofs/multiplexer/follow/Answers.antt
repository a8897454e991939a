use Rattle.std.proofs.Common.{List, rules, subst, take, ◌∙◌}
use Rattle.std.proofs.lemmas.List.{take_all}
use Rattle.vt_screen.specs.Screen.{IsScreen, ScreenValue}
use Rattle.example_contracts.specs.Remote.{HasFollowed}
use Rattle.example_contracts.proofs.Sending.{followed_first, followed_next, follows_all, next_fits, next_size}
use Rattle.example_contracts.proofs.multiplexer.follow.Goals as goal

pub loop-next-init : goal.loop-next-init
loop-next-init g c =
    followed_first c.args.first.now c.as_bytes.result.now c.process.result c.args.remote.now c.process.new.self
    (record { sound = c.size-2.ensures.whole; colored = c.size-2.ensures.colored })
    (c.as_bytes.ensures.value ∙ c.in_ok-text.ensures.text) c.process.ensures.call.quiet (search rules)

pub send_next-requires : goal.send_next-requires
send_next-requires g c =
    next_size c.args.first.now (take c.loop-next.next-index c.args.nexts.now) c.loop-next.prev.now c.next-item.result
    c.args.remote.now c.loop-next.remote c.loop-next.invariant
    (next_fits c.args.first.now c.args.nexts.now c.loop-next.next-index c.next-item.result c.loop-next-test.true
    c.next-item.is c.requires)

pub loop-next-preserved : goal.loop-next-preserved
loop-next-preserved g c =
    followed_next c.args.first.now c.args.nexts.now c.loop-next.next-index c.loop-next.prev.now c.next-item.result
    c.args.remote.now c.loop-next.remote c.send_next.new.remote c.loop-next-test.true c.next-item.is c.requires
    c.loop-next.invariant c.in_ok-send_next.ensures.sends

pub returns-clause-shows : goal.returns-clause-shows
returns-clause-shows g c = λ steady plain size.
    follows_all c.chain.ensures.shows c.args.first.now c.args.nexts.now c.loop-next.prev.now c.args.remote.now
    c.loop-next.remote (subst (λ (s : ScreenValue). IsScreen s) c.screen.ensures.value c.size.ensures.whole)
    plain size c.requires steady
    (subst (λ (xs : List ScreenValue). HasFollowed c.args.first.now xs c.loop-next.prev.now
    c.args.remote.now c.loop-next.remote)
    (take_all c.loop-next.next-index c.args.nexts.now c.loop-next-test.false) c.loop-next.invariant)
