use Rattle.std.proofs.Common.{rules, subst, ◌∙◌, List, ℕ}
use Rattle.example_contracts.specs.Remote.{HasTaken}
use Rattle.example_contracts.proofs.Sending.{taken_one}
use Rattle.example_contracts.proofs.multiplexer.send_next.Goals as goal

pub returns-clause-sends : goal.returns-clause-sends
returns-clause-sends g c = record {
  whole = record { sound = c.size.ensures.whole; colored = c.size.ensures.colored };
  takes =
      subst (λ (text : List ℕ). HasTaken text c.args.remote.now c.process.new.self)
      (c.as_bytes.ensures.value ∙ c.in_ok-text.ensures.text)
      (taken_one c.as_bytes.result.now c.process.result c.args.remote.now c.process.new.self
      c.process.ensures.call.quiet (search rules));
}
