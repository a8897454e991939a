use Rattle.std.proofs.Common.{sym, subst, ◌∙◌}
use Rattle.vt_scan.specs.Automaton.{start}
use Rattle.vt_screen.specs.Streamed.{HasNoRis}
use Rattle.vt100.proofs.Streams.{calls_made, one_text, ran_apart, ran_keeps, recorded_text}
use Rattle.vt100.proofs.laws.one_text.Goals as goal

pub returns : goal.returns
returns g c =
    let does = g.CB.Callbacks.does in
    record {
      called =
          λ p q calls scan leaves stands makes. let all =
          calls_made does leaves calls p q scan stands makes in (all.shown, all.called);
      kept =
          λ p q bytes scan leaves stands ran is wide none. ran_keeps does leaves p q bytes scan stands ran is wide none;
      apart = λ p q r s bytes scan leaves stands others same ran runs. ran_apart does leaves p q r s bytes scan stands others same ran runs;
      text =
          λ rows cols capacity p q calls leaves fresh none makes main. one_text
          does leaves rows cols capacity p q calls fresh none makes main;
      recorded =
          λ text_of state_of is_whole rows cols capacity p q calls recorder fresh empty begun none makes main whole.
          recorded_text does text_of state_of is_whole recorder rows cols
          capacity p q calls fresh empty begun none makes main whole;
      one = λ rows cols capacity other p q r s calls others leaves fresh again same none makes remakes main also.
          one_text does leaves rows cols capacity p q calls fresh none makes main
          ∙ rw same (sym
          (one_text does leaves rows cols other r s others again (subst (HasNoRis start) same none) remakes also));
    }
