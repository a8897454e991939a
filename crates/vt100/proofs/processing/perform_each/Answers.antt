-- The two events of a byte, in order.
use Rattle.std.proofs.Common.{List, map, option_to_list, refl, subst, sym, rules}
use Rattle.std.proofs.lemmas.List.{map-append}
use Rattle.std.specs.List.{FoldsTo}
use Rattle.vt_scan.specs.Automaton.{Event}
use Rattle.vt_scan.specs.Scanner.{event_of, events_in}
use Rattle.vt_screen.specs.Run.{Performs, Breaks, StopsIn, state}
use Rattle.vt_rows.proofs.RowTexts.{folds_then}
use Rattle.vt100.proofs.Running.{stops_then}
use Rattle.vt100.proofs.processing.perform_each.Goals as goal

pub returns-in_err-perform_some-2 : goal.returns-in_err-perform_some-2
returns-in_err-perform_some-2 g c =
    let stopped : StopsIn (Performs g.CB.Callbacks.does) (Breaks g.CB.Callbacks.does)
    (state c.args.callbacks.now c.args.screen.now) (events_in c.args.scanner.now c.args.events)
    (state c.perform_some-2.new.callbacks c.perform_some-2.new.screen) =
    subst (λ (events : List Event). StopsIn (Performs g.CB.Callbacks.does)
    (Breaks g.CB.Callbacks.does) (state c.args.callbacks.now c.args.screen.now)
    events (state c.perform_some-2.new.callbacks c.perform_some-2.new.screen))
    (sym (map-append (event_of c.args.scanner.now)
    (option_to_list c.args.events.first) (option_to_list c.args.events.second)))
    (stops_then (Performs g.CB.Callbacks.does) (Breaks g.CB.Callbacks.does)
    (map (event_of c.args.scanner.now) (option_to_list c.args.events.first))
    (map (event_of c.args.scanner.now) (option_to_list c.args.events.second))
    (state c.args.callbacks.now c.args.screen.now) (state c.perform_some.new.callbacks c.perform_some.new.screen)
    (state c.perform_some-2.new.callbacks c.perform_some-2.new.screen)
    c.in_ok-perform_some.ensures.done (c.in_err-perform_some-2.ensures.stopped refl)) in
    record { done = search rules; stopped = λ e. stopped; memory = search rules }

pub returns : goal.returns
returns g c =
    let done : FoldsTo (Performs g.CB.Callbacks.does) (state c.args.callbacks.now c.args.screen.now)
    (events_in c.args.scanner.now c.args.events) (state c.perform_some-2.new.callbacks c.perform_some-2.new.screen) =
    subst (λ (events : List Event). FoldsTo (Performs g.CB.Callbacks.does)
    (state c.args.callbacks.now c.args.screen.now) events
    (state c.perform_some-2.new.callbacks c.perform_some-2.new.screen))
    (sym (map-append (event_of c.args.scanner.now)
    (option_to_list c.args.events.first) (option_to_list c.args.events.second)))
    (folds_then (Performs g.CB.Callbacks.does) (map (event_of c.args.scanner.now) (option_to_list c.args.events.first))
    (map (event_of c.args.scanner.now) (option_to_list c.args.events.second))
    (state c.args.callbacks.now c.args.screen.now) (state c.perform_some.new.callbacks c.perform_some.new.screen)
    (state c.perform_some-2.new.callbacks c.perform_some-2.new.screen)
    c.in_ok-perform_some.ensures.done c.in_ok-perform_some-2.ensures.done) in
    record { done = done; stopped = search rules; memory = tt }
