use Rattle.vt100.specs.Parser.{pieces_joined}
use Rattle.vt100.proofs.PlainParsers.{leaves_modes, leaves_plain}
use Rattle.vt100.proofs.Running.{ran_joined}
use Rattle.vt100.proofs.laws.again.Goals as goal

pub returns : goal.returns
returns g c =
    let does = g.CB.Callbacks.does in record {
      kept = λ p q chunks keeps plain ran fine.
          leaves_plain does p q (pieces_joined chunks) plain.scanner (keeps p.screen plain.screen)
          (ran_joined does p q chunks ran) fine;
      screens = λ p q chunks keeps sound plain ran fine.
          leaves_plain does p q (pieces_joined chunks) plain.scanner (keeps p.screen sound plain.screen)
          (ran_joined does p q chunks ran) fine;
      state = λ modes p q chunks sets had plain ran fine.
          leaves_modes does modes p q (pieces_joined chunks) plain.scanner (sets p.screen plain.screen had)
          (ran_joined does p q chunks ran) fine;
      state_diff = λ was modes p q chunks sets had plain ran fine.
          leaves_modes does modes p q (pieces_joined chunks) plain.scanner (sets p.screen plain.screen had)
          (ran_joined does p q chunks ran) fine;
      state_screens = λ was modes p q chunks sets had sound plain ran fine.
          leaves_modes does modes p q (pieces_joined chunks) plain.scanner (sets p.screen sound plain.screen had)
          (ran_joined does p q chunks ran) fine;
      made = λ p q chunks makes is ran fine.
          leaves_plain does p q (pieces_joined chunks) is.scanner (makes p.screen is.sound is.offset)
          (ran_joined does p q chunks ran) fine;
    }
