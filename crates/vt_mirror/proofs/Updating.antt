-- The next update of a run, and the states in which a run stops.
use Rattle.std.proofs.Common.{◌≡◌, ◌⊎◌, inl, inr, ℕ, suc, ◌+◌, ◌<◌, ◌≤◌, Bool, true, false, List, [], ◌∷◌, ◌++◌}
use Rattle.std.proofs.Common.{length, take, Option, Some, None, Result, Ok, Err, refl, sym, ap, subst, ◌∙◌, arith}
use Rattle.std.proofs.KnownBytes.{Appends-kept, Appends-trans, Consumes-kept, Consumes-nil, Consumes-trans, Keeps-refl}
use Rattle.std.proofs.lemmas.Bool.{false≢true}
use Rattle.std.proofs.lemmas.List.{append-nil, length-append, take-append-le}
use Rattle.std.specs.Io.KnownBytes.{Appends, Consumes, IsAtEnd, Keeps}
use Rattle.std.specs.List.{AllByRecursion}
use Rattle.std.specs.Prelude.{OnErr, OnOk, is_err}
use Rattle.vt_cells.specs.Op.{bytes_of_all}
use Rattle.vt_cells.specs.declared.error.Error.{Error}
use Rattle.vt_grid.specs.Page.{SameSize}
use Rattle.vt_redraw.specs.Redraw.{difference, redraw}
use Rattle.vt_scan.specs.Automaton.{start}
use Rattle.vt_scan.specs.Scanner.{StandsFor}
use Rattle.vt_screen.specs.Chain.{chain_text, last_screen}
use Rattle.vt_screen.specs.MadeOf.{IsMadeOf, drawing_controls, drawing_finals}
use Rattle.vt_screen.specs.Screen.{ScreenValue}
use Rattle.vt_screen.specs.Shown.{display, display_change}
use Rattle.vt_screen.specs.CallsOfRun.{screen_in}
use Rattle.vt_screen.proofs.MadeOf.{made_append}
use Rattle.vt100.specs.Parser.{ParserValue, Ran, does_nothing}
use Rattle.vt100.proofs.Running.{ran_then}
use Rattle.vt100.proofs.PlainParsers.{quiet_leaves}
use Rattle.vt100.proofs.Streams.{ran_called}
use Rattle.vt_mirror.specs.Calls.{GivesUpdate, IsUpdate, MirrorProcesses, default_options}
use Rattle.vt_mirror.specs.Internals.{InStretch, IsBegun, IsWritten, ReadsAtMost, ReadsBytes, ReadsFewer, ReadsStretch}
use Rattle.vt_mirror.specs.Internals.{WritesUpdate, WritesUpdatePart, text_of_update}
use Rattle.vt_mirror.specs.Mirror.{MirrorValue, ViewersValue, is_viewer, note_of}
use Rattle.vt_mirror.specs.Runs.{FailsAtFirst, FailsLater, IsUpdatedAfter, WritesAfter, WritesOnWay, WritesToEnd}
use Rattle.vt_mirror.specs.Runs.{screens_on_way, screens_to_end, text_on_way}
use Rattle.vt_mirror.specs.declared.update.Update.{Update}
use Rattle.vt_mirror.specs.declared.update.Update.TheVariants.{Diff, Full}
use Rattle.vt_show.specs.Shown.{AppendsPart}
use Rattle.vt_show.specs.declared.faults.Fault.{Fault}
use Rattle.vt_show.specs.declared.faults.Fault.TheVariants.{Write}
use Rattle.vt_mirror.proofs.Bookkeeping.{own_size, size_through}
use Rattle.vt_mirror.proofs.Runs.{all_of_more, chain_made, fewer_on_way, last_of_more, more_on_way, next_length, none_on_way, text_of_more}

-- ---- reading

nothing_ran : (p : ParserValue (Unit {0})) → Ran does_nothing p [] p
nothing_ran p = λ s stands. (stands, refl)

pub reads_then : (a b : List ℕ) (p q r : MirrorValue) (left at rest : Option (List ℕ)) →
    ReadsBytes a p q left at → ReadsBytes b q r at rest → ReadsBytes (a ++ b) p r left rest
reads_then a b p q r left at rest first second = record {
  reads = Consumes-trans left at rest a b first.reads second.reads;
  ran = ran_then does_nothing p.parser q.parser r.parser a b first.ran second.ran;
  viewers = second.viewers ∙ first.viewers;
  size =
      size_through r.parser.screen.page q.parser.screen.page p.parser.screen.page second.size first.size;
}

pub stretch_begun : (every : ℕ) (mirror : MirrorValue) (left : Option (List ℕ)) →
    0 < every → InStretch every every mirror mirror left left
stretch_begun every mirror left some = record {
  bytes = [];
  reads = record {
    reads = Consumes-nil left;
    ran = nothing_ran mirror.parser;
    viewers = refl;
    size = own_size mirror.parser.screen.page;
  };
  nonempty = some;
  count = omega arith;
}

-- The mirror has parsed the first bytes of a buffer.
pub processed : (count : ℕ) (buffer behind : List ℕ) (old new : MirrorValue) (answer : Result (Unit {0}) Error)
    (left rest : Option (List ℕ)) → is_err answer ≡ false → count ≤ length buffer →
    MirrorProcesses old (take count (buffer ++ behind)) answer new → Consumes left rest (take count buffer) →
    ReadsBytes (take count buffer) old new left rest
processed count buffer behind old new (Ok u) left rest fine inside p reads = record {
  reads = reads;
  ran =
      subst (λ (bytes : List ℕ). Ran does_nothing old.parser bytes new.parser)
      (take-append-le count buffer behind inside) p.parser.ran;
  viewers = p.viewers;
  size = p.size;
}
processed count buffer behind old new (Err e) left rest fine inside p reads = absurd (false≢true (sym fine))

pub stretch_more : (every still after : ℕ) (bytes : List ℕ) (old mid new : MirrorValue) (left at rest : Option (List ℕ))
    → after + length bytes ≡ still → 0 < after → InStretch every still old mid left at
    → ReadsBytes bytes mid new at rest → InStretch every after old new left rest
stretch_more every still after bytes old mid new left at rest fewer some s reads = record {
  bytes = s.bytes ++ bytes;
  reads = reads_then s.bytes bytes old mid new left at rest s.reads reads;
  nonempty = some;
  count = omega (arith, fewer, s.count, length-append s.bytes bytes);
}

pub stretch_whole : (every still : ℕ) (bytes : List ℕ) (old mid new : MirrorValue) (left at rest : Option (List ℕ))
    → length bytes ≡ still → InStretch every still old mid left at → ReadsBytes bytes mid new at rest
    → ReadsStretch every true old new left rest
stretch_whole every still bytes old mid new left at rest all s reads = record {
  bytes = s.bytes ++ bytes;
  reads = reads_then s.bytes bytes old mid new left at rest s.reads reads;
  whole = λ _. omega (arith, all, s.count, length-append s.bytes bytes);
  fewer = λ no. absurd (false≢true (sym no));
  end = λ no. absurd (false≢true (sym no));
}

pub stretch_ended : (every still : ℕ) (old mid : MirrorValue) (left at rest : Option (List ℕ))
    → InStretch every still old mid left at → Consumes at rest [] → IsAtEnd rest
    → ReadsStretch every false old mid left rest
stretch_ended every still old mid left at rest s none end = record {
  bytes = s.bytes;
  reads = record {
    reads =
        subst (Consumes left rest) (append-nil s.bytes) (Consumes-trans left at rest s.bytes [] s.reads.reads none);
    ran = s.reads.ran;
    viewers = s.reads.viewers;
    size = s.reads.size;
  };
  whole = λ no. absurd (false≢true no);
  fewer = λ _. omega (arith, s.nonempty, s.count);
  end = λ _. end;
}

pub stretch_failed : (every still : ℕ) (old mid : MirrorValue) (left at rest : Option (List ℕ))
    → InStretch every still old mid left at → Keeps at rest → ReadsFewer every left rest
stretch_failed every still old mid left at rest s keeps = record {
  bytes = s.bytes;
  fewer = omega (arith, s.nonempty, s.count);
  reads = Consumes-kept left at rest s.bytes s.reads.reads keeps;
}

pub stretch_refused : (every still : ℕ) (bytes : List ℕ) (old mid : MirrorValue) (left at rest : Option (List ℕ))
    → length bytes ≤ still → InStretch every still old mid left at → Consumes at rest bytes → ReadsAtMost every left rest
stretch_refused every still bytes old mid left at rest few s reads = record {
  bytes = s.bytes ++ bytes;
  few = omega (arith, few, s.count, length-append s.bytes bytes);
  reads = Consumes-trans left at rest s.bytes bytes s.reads.reads reads;
}

-- ---- writing

no_some : {A : Type 0} (x : A) → Some x ≡ None → ⊥
no_some x e = cc

same_some : {A : Type 0} (x y : A) → Some x ≡ Some y → x ≡ y
same_some x y e = cc

full_text : (self : ScreenValue) (noted : Option ScreenValue) (update : Update) → noted ≡ None →
    IsUpdate default_options self noted update → text_of_update update ≡ bytes_of_all (redraw (display self))
full_text self None (Full rows cols text) e is = is.is
full_text self None (Diff text) e is = absurd is
full_text self (Some prev) update e is = absurd (no_some prev e)

diff_text : (self prev : ScreenValue) (noted : Option ScreenValue) (update : Update) → noted ≡ Some prev →
    IsUpdate default_options self noted update → text_of_update update ≡ bytes_of_all (difference (display self) (display prev))
diff_text self prev (Some other) (Diff text) e is =
    is.is.repeats
    ∙ (is.is.diff ∙ ap (λ (s : ScreenValue). bytes_of_all (difference (display self) (display s))) (same_some other prev e))
diff_text self prev (Some other) (Full rows cols text) e is = absurd (false≢true is.scrolls)
diff_text self prev None update e is = absurd (no_some prev (sym e))

update_made : (self : ScreenValue) (noted : Option ScreenValue) (update : Update) → IsUpdate default_options self noted update →
    IsMadeOf drawing_finals drawing_controls (text_of_update update)
update_made self None (Full rows cols text) is = is.controls
update_made self None (Diff text) is = absurd is
update_made self (Some prev) (Diff text) is = is.controls
update_made self (Some prev) (Full rows cols text) is = absurd (false≢true is.scrolls)

ran_shows : (p q : ParserValue (Unit {0})) (bytes : List ℕ) → StandsFor p.scanner start → Ran does_nothing p bytes q →
    q.screen ≡ screen_in start p.screen bytes
ran_shows p q bytes stands ran = (ran_called does_nothing quiet_leaves p q bytes start stands ran).shown

pub begun_written : (every viewer : ℕ) (old new : MirrorValue) (left written grown : Option (List ℕ)) → 0 < every →
    IsBegun old viewer → WritesUpdate old viewer new written grown →
    IsWritten every viewer old new left left written grown
begun_written every viewer old new left written grown some b w =
    let t = w.gives in
    let first = old.parser.screen in
    let none = none_on_way first every some in
    let size : SameSize new.parser.screen.page first.page =
    subst (λ (p : ParserValue (Unit {0})). SameSize p.screen.page first.page) (sym t.parser) (own_size first.page) in
    record {
      input = [];
      count = 0;
      length_is = omega arith;
      reads = Consumes-nil left;
      ran = subst (Ran does_nothing old.parser []) (sym t.parser) (nothing_ran old.parser);
      size = size;
      views = t.puts.here;
      note = t.puts.note_here ∙ ap (λ (p : ParserValue (Unit {0})). Some p.screen) (sym t.parser);
      last = ap (last_screen first) none ∙ ap (λ (p : ParserValue (Unit {0})). p.screen) (sym t.parser);
      updated = (
        record { sound = t.whole; colored = t.colored; size = own_size first.page },
        subst (AllByRecursion (IsUpdatedAfter first)) (sym none) tt,
      );
      appends =
          subst (Appends written grown) (full_text first (note_of old.viewers viewer) w.update b.note t.text
          ∙ (sym (append-nil (bytes_of_all (redraw (display first)))) ∙ ap (chain_text first) (sym none))) w.appends;
    }

-- The text of one more update was appended to the output.
record OneMore (first : ScreenValue) (screens : List ScreenValue) (written grown : Option (List ℕ)) : Type 0 where
  updated : AllByRecursion (IsUpdatedAfter first) (first ∷ screens)
  appends : Appends written grown (chain_text first screens)

one_more : (viewer : ℕ) (first : ScreenValue) (nexts : List ScreenValue) (mid read new : MirrorValue)
    (written grown more : Option (List ℕ))
    → last_screen first nexts ≡ mid.parser.screen → note_of read.viewers viewer ≡ Some mid.parser.screen
    → SameSize read.parser.screen.page first.page → AllByRecursion (IsUpdatedAfter first) (first ∷ nexts)
    → Appends written grown (chain_text first nexts) → WritesUpdate read viewer new grown more
    → OneMore first (nexts ++ (read.parser.screen ∷ [])) written more
one_more viewer first nexts mid read new written grown more last note size told appends w =
    let t = w.gives in
    let screen = read.parser.screen in
    let text : text_of_update w.update ≡ bytes_of_all (difference (display screen) (display (last_screen first nexts))) =
    diff_text screen mid.parser.screen (note_of read.viewers viewer) w.update note t.text
    ∙ ap (λ (s : ScreenValue). bytes_of_all (difference (display screen) (display s))) (sym last) in
    record {
      updated = (
        told.0,
        all_of_more (IsUpdatedAfter first) nexts screen told.1
            (record { sound = t.whole; colored = t.colored; size = size }),
      );
      appends =
          subst (Appends written more)
          (ap (λ (bytes : List ℕ). chain_text first nexts ++ bytes) text ∙ sym (text_of_more first nexts screen))
          (Appends-trans written grown more (chain_text first nexts) (text_of_update w.update) appends w.appends);
    }

-- If the bytes up to the next update were read and the update was written, all updates due so far are written.
pub written_more : (every viewer : ℕ) (old mid read new : MirrorValue) (left at rest written grown more : Option (List ℕ))
    → 0 < every → StandsFor old.parser.scanner start → IsWritten every viewer old mid left at written grown
    → ReadsStretch every true mid read at rest → WritesUpdate read viewer new grown more
    → IsWritten every viewer old new left rest written more
written_more every viewer old mid read new left at rest written grown more some stands before s w =
    let first = old.parser.screen in
    let t = w.gives in
    let all = before.input ++ s.bytes in
    let nexts = screens_on_way first every before.input in
    let ran : Ran does_nothing old.parser all read.parser =
    ran_then does_nothing old.parser mid.parser read.parser before.input s.bytes before.ran s.reads.ran in
    let size : SameSize read.parser.screen.page first.page =
    size_through read.parser.screen.page mid.parser.screen.page first.page s.reads.size before.size in
    let screens : screens_on_way first every all ≡ nexts ++ (read.parser.screen ∷ []) =
    more_on_way first every before.count before.input s.bytes some before.length_is (s.whole refl)
    ∙ ap (λ (x : ScreenValue). nexts ++ (x ∷ [])) (sym (ran_shows old.parser read.parser all stands ran)) in
    let one = one_more viewer first nexts mid read new written grown more before.last
    (ap (λ (v : ViewersValue). note_of v viewer) s.reads.viewers ∙ before.note) size before.updated before.appends w in
    record {
      input = all;
      count = suc before.count;
      length_is = next_length every before.count before.input s.bytes before.length_is (s.whole refl);
      reads = Consumes-trans left at rest before.input s.bytes before.reads s.reads.reads;
      ran = subst (Ran does_nothing old.parser all) (sym t.parser) ran;
      size = subst (λ (p : ParserValue (Unit {0})). SameSize p.screen.page first.page) (sym t.parser) size;
      views = t.puts.here;
      note = t.puts.note_here ∙ ap (λ (p : ParserValue (Unit {0})). Some p.screen) (sym t.parser);
      last =
          ap (last_screen first) screens
          ∙ (last_of_more first nexts read.parser.screen ∙ ap (λ (p : ParserValue (Unit {0})). p.screen) (sym t.parser));
      updated =
          subst (λ (xs : List ScreenValue). AllByRecursion (IsUpdatedAfter first) (first ∷ xs)) (sym screens) one.updated;
      appends = subst (λ (xs : List ScreenValue). Appends written more (chain_text first xs)) (sym screens) one.appends;
    }

-- If the remaining input was read and the last update was written, the run has written all its updates.
pub written_all : (every viewer : ℕ) (old mid read new : MirrorValue) (left at rest written grown more : Option (List ℕ))
    → StandsFor old.parser.scanner start → IsWritten every viewer old mid left at written grown
    → ReadsStretch every false mid read at rest → WritesUpdate read viewer new grown more
    → WritesToEnd old.parser.screen every left rest written more
written_all every viewer old mid read new left at rest written grown more stands before s w =
    let first = old.parser.screen in
    let all = before.input ++ s.bytes in
    let nexts = screens_on_way first every before.input in
    let ran : Ran does_nothing old.parser all read.parser =
    ran_then does_nothing old.parser mid.parser read.parser before.input s.bytes before.ran s.reads.ran in
    let screens : screens_to_end first every all ≡ nexts ++ (read.parser.screen ∷ []) =
    ap (λ (xs : List ScreenValue). xs ++ (screen_in start first all ∷ []))
    (fewer_on_way first every before.count before.input s.bytes before.length_is (s.fewer refl))
    ∙ ap (λ (x : ScreenValue). nexts ++ (x ∷ [])) (sym (ran_shows old.parser read.parser all stands ran)) in
    let one = one_more viewer first nexts mid read new written grown more before.last
    (ap (λ (v : ViewersValue). note_of v viewer) s.reads.viewers ∙ before.note)
    (size_through read.parser.screen.page mid.parser.screen.page first.page s.reads.size before.size)
    before.updated before.appends w in
    let updated =
    subst (λ (xs : List ScreenValue). AllByRecursion (IsUpdatedAfter first) (first ∷ xs)) (sym screens) one.updated in
    record {
      input = all;
      reads = Consumes-trans left at rest before.input s.bytes before.reads s.reads.reads;
      appends = subst (λ (xs : List ScreenValue). Appends written more (chain_text first xs)) (sym screens) one.appends;
      updated = updated;
      controls = chain_made first (screens_to_end first every all) updated;
    }

-- ---- the states in which a run stops

-- The state of a run that stops directly after an update.
pub stops_written : (every viewer : ℕ) (old new : MirrorValue) (left rest written grown : Option (List ℕ)) →
    IsWritten every viewer old new left rest written grown →
    WritesOnWay old.parser.screen every left rest written grown
stops_written every viewer old new left rest written grown w =
    record {
      input = w.input;
      reads = w.reads;
      appends = w.appends;
      controls = chain_made old.parser.screen (screens_on_way old.parser.screen every w.input) w.updated;
    }

-- The state of a run that stops because a read failed.
pub stops_reading : (every viewer : ℕ) (old mid : MirrorValue) (left at rest written grown : Option (List ℕ)) →
    IsWritten every viewer old mid left at written grown → ReadsFewer every at rest →
    WritesOnWay old.parser.screen every left rest written grown
stops_reading every viewer old mid left at rest written grown w r = record {
  input = w.input ++ r.bytes;
  reads = Consumes-trans left at rest w.input r.bytes w.reads r.reads;
  appends =
      subst (λ (xs : List ScreenValue). Appends written grown (chain_text old.parser.screen xs))
      (sym (fewer_on_way old.parser.screen every w.count w.input r.bytes w.length_is r.fewer)) w.appends;
  controls =
      subst (λ (xs : List ScreenValue). IsMadeOf drawing_finals drawing_controls (chain_text old.parser.screen xs))
      (sym (fewer_on_way old.parser.screen every w.count w.input r.bytes w.length_is r.fewer))
      (chain_made old.parser.screen (screens_on_way old.parser.screen every w.input) w.updated);
}

-- The state of a run that stops because an allocation failed while bytes were read.
pub stops_refused : (every viewer : ℕ) (old mid : MirrorValue) (left at rest written grown more : Option (List ℕ)) →
    IsWritten every viewer old mid left at written grown → ReadsAtMost every at rest → Keeps grown more →
    WritesAfter old.parser.screen every left rest written more
stops_refused every viewer old mid left at rest written grown more w r keeps = record {
  input = w.input;
  last = r.bytes;
  few = r.few;
  reads = Consumes-trans left at rest w.input r.bytes w.reads r.reads;
  appends = Appends-kept written grown more (text_on_way old.parser.screen every w.input) w.appends keeps;
  controls = chain_made old.parser.screen (screens_on_way old.parser.screen every w.input) w.updated;
}

-- If an allocation fails for the update after some bytes, at most one interval of bytes was read since the last update.
pub stretch_few : (every : ℕ) (is_whole : Bool) (old new : MirrorValue) (left rest : Option (List ℕ)) →
    ReadsStretch every is_whole old new left rest → ReadsAtMost every left rest
stretch_few every true old new left rest s =
    record { bytes = s.bytes; few = omega (arith, s.whole refl); reads = s.reads.reads }
stretch_few every false old new left rest s =
    record { bytes = s.bytes; few = omega (arith, s.fewer refl); reads = s.reads.reads }

-- The viewer is still a viewer of the mirror after bytes are read.
pub still_views : (every viewer : ℕ) (is_whole : Bool) (old mid read : MirrorValue)
    (left at rest written grown : Option (List ℕ))
    → IsWritten every viewer old mid left at written grown → ReadsStretch every is_whole mid read at rest
    → is_viewer read.viewers viewer ≡ true
still_views every viewer is_whole old mid read left at rest written grown w s =
    ap (λ (v : ViewersValue). is_viewer v viewer) s.reads.viewers ∙ w.views

-- If an update was returned and its text was written, the viewer's update is written.
pub update_written : (old : MirrorValue) (viewer : ℕ) (new : MirrorValue) (update : Update) (text : List ℕ)
    (written grown : Option (List ℕ)) (answer : Result (Unit {0}) Fault)
    → GivesUpdate default_options old viewer update new → text ≡ text_of_update update → OnOk answer (Appends written grown text)
    → OnOk answer (WritesUpdate old viewer new written grown)
update_written old viewer new update text written grown (Ok u) gives is appends =
    record { update = update; gives = gives; appends = subst (Appends written grown) is appends }
update_written old viewer new update text written grown (Err fault) gives is appends = tt

pub ended_written : (every viewer : ℕ) (is_whole : Bool) (old mid read new : MirrorValue)
    (left at rest written grown more : Option (List ℕ))
    → is_whole ≡ false → StandsFor old.parser.scanner start → IsWritten every viewer old mid left at written grown
    → ReadsStretch every is_whole mid read at rest → WritesUpdate read viewer new grown more
    → WritesToEnd old.parser.screen every left rest written more
ended_written every viewer false old mid read new left at rest written grown more e stands before s w =
    written_all every viewer old mid read new left at rest written grown more stands before s w
ended_written every viewer true old mid read new left at rest written grown more e stands before s w =
    absurd (false≢true (sym e))

pub next_written : (every viewer : ℕ) (is_whole : Bool) (old mid read new : MirrorValue)
    (left at rest written grown more : Option (List ℕ))
    → is_whole ≡ true → 0 < every → StandsFor old.parser.scanner start
    → IsWritten every viewer old mid left at written grown
    → ReadsStretch every is_whole mid read at rest → WritesUpdate read viewer new grown more
    → IsWritten every viewer old new left rest written more
next_written every viewer true old mid read new left at rest written grown more e some stands before s w =
    written_more every viewer old mid read new left at rest written grown more some stands before s w
next_written every viewer false old mid read new left at rest written grown more e some stands before s w =
    absurd (false≢true e)

-- ---- failed writes

-- If an update was returned and a prefix of its text was written, the viewer's update is written in part.
pub update_part : (old : MirrorValue) (viewer : ℕ) (new : MirrorValue) (update : Update) (text : List ℕ)
    (written grown : Option (List ℕ)) (answer : Result (Unit {0}) Fault)
    → GivesUpdate default_options old viewer update new → text ≡ text_of_update update
    → OnErr answer (AppendsPart written grown text)
    → answer ≡ Err Write → WritesUpdatePart old viewer new written grown
update_part old viewer new update text written grown (Ok u) gives is part e = cc
update_part old viewer new update text written grown (Err fault) gives is part e =
    record { update = update; gives = gives; part = subst (AppendsPart written grown) is part }

-- The output of a run whose first update could not be written in full.
pub fails_first : (viewer : ℕ) (old new : MirrorValue) (left written grown : Option (List ℕ)) →
    IsBegun old viewer → WritesUpdatePart old viewer new written grown →
    FailsAtFirst old.parser.screen left left written grown
fails_first viewer old new left written grown b w =
    let text = full_text old.parser.screen (note_of old.viewers viewer) w.update b.note w.gives.text in
    record {
      reads = Keeps-refl left;
      part = subst (AppendsPart written grown) text w.part;
      controls =
          subst (IsMadeOf drawing_finals drawing_controls) text
          (update_made old.parser.screen (note_of old.viewers viewer) w.update w.gives.text);
    }

stretch_due : (every : ℕ) (is_whole : Bool) (old new : MirrorValue) (left rest : Option (List ℕ)) →
    (s : ReadsStretch every is_whole old new left rest) →
    (length s.bytes ≡ every) ⊎ ((length s.bytes < every) × IsAtEnd rest)
stretch_due every true old new left rest s = inl (s.whole refl)
stretch_due every false old new left rest s = inr (s.fewer refl, s.end refl)

-- The output of a run in which an update other than the first could not be written in full.
pub fails_later : (every viewer : ℕ) (is_whole : Bool) (old mid read new : MirrorValue)
    (left at rest written grown more : Option (List ℕ))
    → StandsFor old.parser.scanner start → IsWritten every viewer old mid left at written grown
    → ReadsStretch every is_whole mid read at rest → WritesUpdatePart read viewer new grown more
    → FailsLater old.parser.screen every left rest written more
fails_later every viewer is_whole old mid read new left at rest written grown more stands before s w =
    let first = old.parser.screen in
    let all = before.input ++ s.bytes in
    let ran : Ran does_nothing old.parser all read.parser =
    ran_then does_nothing old.parser mid.parser read.parser before.input s.bytes before.ran s.reads.ran in
    let text : text_of_update w.update ≡ display_change (screen_in start first before.input) (screen_in start first all) =
    diff_text read.parser.screen mid.parser.screen (note_of read.viewers viewer) w.update
    (ap (λ (v : ViewersValue). note_of v viewer) s.reads.viewers ∙ before.note) w.gives.text
    ∙ (ap (λ (x : ScreenValue). display_change mid.parser.screen x) (ran_shows old.parser read.parser all stands ran)
    ∙ ap (λ (x : ScreenValue). display_change x (screen_in start first all))
    (ran_shows old.parser mid.parser before.input stands before.ran)) in
    record {
      input = before.input;
      count = before.count;
      whole = before.length_is;
      last = s.bytes;
      due = stretch_due every is_whole mid read at rest s;
      reads = Consumes-trans left at rest before.input s.bytes before.reads s.reads.reads;
      part = record {
        taken = w.part.taken;
        lost = w.part.lost;
        parts = sym text ∙ w.part.parts;
        appends =
            Appends-trans written grown more (text_on_way first every before.input) w.part.taken before.appends
            w.part.appends;
      };
      controls =
          made_append drawing_finals drawing_controls (text_on_way first every before.input)
          (display_change (screen_in start first before.input) (screen_in start first all))
          (chain_made first (screens_on_way first every before.input) before.updated)
          (subst (IsMadeOf drawing_finals drawing_controls) text
          (update_made read.parser.screen (note_of read.viewers viewer) w.update w.gives.text));
    }
