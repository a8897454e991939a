-- Reading the input, and writing a text, chunk by chunk.
use Rattle.std.proofs.Common.{◌≡◌, ℕ, Ok, Err, false, List, [], ◌++◌, Option, refl, subst, ap, ◌∙◌, ◌-◌, length, take}
use Rattle.std.proofs.Common.{drop, sym, append_assoc, take-append-drop}
use Rattle.std.proofs.KnownBytes.{Consumes-nil, Consumes-trans, Appends-kept, Appends-nil, Appends-trans}
use Rattle.std.proofs.lemmas.List.{append-nil, take_rest}
use Rattle.std.specs.Prelude.{IfOk, OnErr, OnOk, is_err}
use Rattle.std.specs.List.{FoldsTo}
use Rattle.std.specs.declared.result.Result.{Result}
use Rattle.std.specs.Io.KnownBytes.{Consumes, Appends, Keeps}
use Rattle.vt_scan.specs.Automaton.{start, run}
use Rattle.vt_scan.specs.Scanner.{StandsFor}
use Rattle.vt_screen.specs.Run.{Performs, state}
use Rattle.vt_screen.specs.Screen.{ScreenValue, fresh_screen}
use Rattle.vt100.specs.Parser.{ParserValue, Ran, parser_value, does_nothing}
use Rattle.vt100.proofs.Running.{ran_then}
use Rattle.vt_show.specs.declared.mode.Mode.{Mode}
use Rattle.vt_show.specs.Internals.{HasReadBytes, HasWrittenTo}
use Rattle.vt_show.specs.Shown.{IsOfMode, ReadsForText, screen_text, AppendsPart}

-- ==== Reading the input chunk by chunk.

pub read_none : (left : Option (List ℕ)) (p : ParserValue (Unit {0})) → HasReadBytes left left p p
read_none left p = record { bytes = []; reads = Consumes-nil left; ran = λ s stands. (stands, refl) }

pub read_on : (left at rest : Option (List ℕ)) (bytes : List ℕ) (p q r : ParserValue (Unit {0})) →
    HasReadBytes left at p q → Consumes at rest bytes → Ran does_nothing q bytes r → HasReadBytes left rest p r
read_on left at rest bytes p q r so reads ran = record {
  bytes = so.bytes ++ bytes;
  reads = Consumes-trans left at rest so.bytes bytes so.reads reads;
  ran = ran_then does_nothing p q r so.bytes bytes so.ran ran;
}

pub read_end : (left at rest : Option (List ℕ)) (p q : ParserValue (Unit {0})) → HasReadBytes left at p q →
    Consumes at rest [] → HasReadBytes left rest p q
read_end left at rest p q so reads = record {
  bytes = so.bytes;
  reads = subst (Consumes left rest) (append-nil so.bytes) (Consumes-trans left at rest so.bytes [] so.reads reads);
  ran = so.ran;
}

pub ok_ran : {E : Type 0} (r : Result (Unit {0}) E) (P : Type 0) → is_err r ≡ false → IfOk r (λ _. P) → P
ok_ran (Ok x) P e h = h
ok_ran (Err x) P e h = cc

-- A statement about the output for the bytes that were read holds for the text of the screen after these bytes.
pub for_text : (mode : Mode) (rows cols : ℕ) (left rest : Option (List ℕ)) (p q : ParserValue (Unit {0}))
    (screen : ScreenValue) (text : List ℕ) (Holds : List ℕ → Type 0)
    → StandsFor p.scanner start → p ≡ parser_value p.scanner (fresh_screen rows cols 0) p.callbacks
    → HasReadBytes left rest p q → screen ≡ q.screen → text ≡ screen_text mode screen → IsOfMode mode text → Holds text
    → ReadsForText mode rows cols left rest Holds
for_text mode rows cols left rest p q screen text Holds stands fresh so shown is made holds = record {
  input = so.bytes;
  reads = so.reads;
  screen = q.screen;
  shows =
      subst (λ (s : ScreenValue). FoldsTo (Performs does_nothing) (state tt s) (run start so.bytes).events (state tt q.screen))
      (ap (λ (z : ParserValue (Unit {0})). z.screen) fresh) (so.ran start stands).1;
  text = subst Holds (is ∙ ap (screen_text mode) shown) holds;
  controls = subst (IsOfMode mode) (is ∙ ap (screen_text mode) shown) made;
}

pub on_ok_then : {E : Type 0} (r : Result (Unit {0}) E) (P Q : Type 0) → (P → Q) → OnOk r P → OnOk r Q
on_ok_then (Ok x) P Q f p = f p
on_ok_then (Err x) P Q f p = tt

pub on_err_of : {E : Type 0} (r : Result (Unit {0}) E) (e : E) (P : Type 0) → r ≡ Err e → OnErr r P → P
on_err_of (Ok x) e P is p = cc
on_err_of (Err x) e P is p = p

-- ==== Writing a text chunk by chunk.

pub written_none : (all : List ℕ) (old : Option (List ℕ)) → HasWrittenTo all all old old
written_none all old = record { taken = []; parts = refl; appends = Appends-nil old }

pub written_more : (all rest : List ℕ) (count : ℕ) (old mid new : Option (List ℕ)) → HasWrittenTo all rest old mid →
    Appends mid new (take count rest) → HasWrittenTo all (take (length rest - count) (drop count rest)) old new
written_more all rest count old mid new so appends = record {
  taken = so.taken ++ take count rest;
  parts =
      so.parts
      ∙ (ap (λ (xs : List ℕ). so.taken ++ xs) (sym (take-append-drop count rest))
      ∙ (sym (append_assoc so.taken (take count rest) (drop count rest))
      ∙ ap (λ (xs : List ℕ). (so.taken ++ take count rest) ++ xs) (sym (take_rest rest count))));
  appends = Appends-trans old mid new so.taken (take count rest) so.appends appends;
}

pub written_kept : (all rest : List ℕ) (old mid new : Option (List ℕ)) → HasWrittenTo all rest old mid →
    Keeps mid new → HasWrittenTo all rest old new
written_kept all rest old mid new so keeps =
    record { taken = so.taken; parts = so.parts; appends = Appends-kept old mid new so.taken so.appends keeps }

pub written_all : (all rest : List ℕ) (old new : Option (List ℕ)) → HasWrittenTo all rest old new → rest ≡ [] →
    Appends old new all
written_all all rest old new so none =
    subst (Appends old new) (sym (so.parts ∙ (ap (λ (xs : List ℕ). so.taken ++ xs) none ∙ append-nil so.taken)))
    so.appends

pub written_part : (all rest : List ℕ) (old mid new : Option (List ℕ)) → HasWrittenTo all rest old mid →
    Keeps mid new → AppendsPart old new all
written_part all rest old mid new so keeps = record {
  taken = so.taken;
  lost = rest;
  parts = so.parts;
  appends = Appends-kept old mid new so.taken so.appends keeps;
}

-- Output that grew by a whole text grew by a part of it.
pub whole_part : (all : List ℕ) (old mid new : Option (List ℕ)) → Appends old mid all → Keeps mid new →
    AppendsPart old new all
whole_part all old mid new appends keeps = record {
  taken = all;
  lost = [];
  parts = sym (append-nil all);
  appends = Appends-kept old mid new all appends keeps;
}
