-- Viewers that join, leave and get updates, and the screens that are recorded for them.
use Rattle.std.proofs.Common.{◌≡◌, ◌≢◌, ℕ, ◌+◌, ◌≤◌, ◌==◌, Bool, true, false, List, Option, Some, None, refl, sym, ap}
use Rattle.std.proofs.Common.{subst, ◌∙◌, arith, [], ◌-◌, length}
use Rattle.std.proofs.lemmas.Bool.{false≢true}
use Rattle.std.proofs.lemmas.Bool.Decides.{nat_tests}
use Rattle.std.specs.BTreeMap.{is_at}
use Rattle.std.specs.BTreeSet as set
use Rattle.std.specs.BTreeSet.{BTreeSet}
use Rattle.std.specs.Cmp.{unsigned_tied}
use Rattle.std.specs.Ordering.{nat_cmp}
use Rattle.std.specs.Prelude.{Result, Ok, Err, OnErr, OnOk, is_err, IfOk, IsTrue, String, string_bytes}
use Rattle.std.specs.Global.{Global}
use Rattle.vt_cells.specs.declared.error.Error.{Error}
use Rattle.vt_cells.specs.declared.error.Error.TheVariants.{Failed, NoNumber, OutOfMemory}
use Rattle.vt_cells.specs.Op.{bytes_of_all}
use Rattle.vt_scan.specs.Automaton.{State}
use Rattle.vt_scan.specs.Scanner.{StandsFor}
use Rattle.vt_grid.specs.Page.{Page, SameSize}
use Rattle.vt_redraw.specs.Locality.{IsLocal}
use Rattle.vt_redraw.specs.Picture.{Picture}
use Rattle.vt_redraw.specs.Redraw.{difference_in}
use Rattle.vt_redraw.specs.Steady.{IsSteady}
use Rattle.vt_redraw.specs.declared.form.Form.{Form}
use Rattle.vt_redraw.specs.declared.form.Form.TheVariants.{Portable}
use Rattle.vt_screen.specs.Screen.{ScreenValue, IsScreen}
use Rattle.vt_screen.specs.Diffs.{IsDiff, MayRepeat, form_with}
use Rattle.vt_screen.specs.Portable.{IsPortable}
use Rattle.vt_screen.specs.Repeating.{Repeats, RepeatsInRows}
use Rattle.vt_screen.specs.ShortMoves.{IsMovingOrRedrawIn}
use Rattle.vt_screen.specs.Shown.{IsReaderOf, KeepsRest, Redraws, display, form_of}
use Rattle.vt_screen.specs.Touched.{TouchesOnly}
use Rattle.vt_screen.specs.declared.diff_options.DiffOptions.{DiffOptions}
use Rattle.vt_screen.specs.declared.repeat.Repeat.{Repeat}
use Rattle.vt_screen.specs.declared.repeat.Repeat.TheVariants.{Never, Ascii, Any}
use Rattle.vt100.specs.Parser.{ParserValue, does_nothing}
use Rattle.vt100.specs.Calls.{ParserProcesses}
use Rattle.vt100.proofs.PlainParsers.{quiet_leaves, some_ran_size, some_stopped_size}
use Rattle.vt_mirror.specs.Mirror.{AreViewers, Puts, ViewersValue, is_viewer, next_number, note_of, IsMirror}
use Rattle.vt_mirror.specs.Mirror.{MirrorValue, ShowsAlike}
use Rattle.vt_mirror.specs.Calls.{JoinsMirror, Leaves, IsDiffFor, IsFullUpdate, IsPortableUpdate, IsUpdate}
use Rattle.vt_mirror.specs.declared.update.Update.{Update}
use Rattle.vt_mirror.specs.declared.update.Update.TheVariants.{Diff, Full}

-- ==== Viewers that join, leave and get updates.

pub same_number : (v q : ℕ) → (v == q) ≡ true → v ≡ q
same_number v q e = grind (arith, nat_tests)

other_number : (v q : ℕ) → q ≢ v → (v == q) ≡ false
other_number v q n = by_test (v == q) refl where
  by_test : (b : Bool) → (v == q) ≡ b → (v == q) ≡ false
  by_test true e = absurd (n (sym (same_number v q e)))
  by_test false e = e

-- The map's test for a viewer number is false for all other numbers.
pub at_other : (v q : ℕ) → q ≢ v → is_at (nat_cmp v) q ≡ false
at_other v q n = unsigned_tied v q ∙ other_number v q n

own_number : (v : ℕ) → (v == v) ≡ true
own_number v = grind (arith, nat_tests)

-- A number is equal to the given one, or it is different.
pub by_number : {P : Type 0} (v q : ℕ) → (q ≡ v → P) → (q ≢ v → P) → P
by_number {P} v q same other = by_test (v == q) refl where
  by_test : (b : Bool) → (v == q) ≡ b → P
  by_test true e = same (sym (same_number v q e))
  by_test false e = other (λ (h : q ≡ v). false≢true (sym e ∙ (ap (λ (k : ℕ). v == k) h ∙ own_number v)))

pub none_some : {A : Type 0} (x : A) → None ≡ Some x → ⊥
none_some x e = cc

-- The viewers stay valid after one of them, or the screen recorded for it, has changed.
pub put_viewers : (old new : ViewersValue) (v : ℕ) (is : Bool) (note : Option ScreenValue)
    → Puts old v is note new → AreViewers old
    → (is ≡ true → v + 1 ≤ next_number new.last) → next_number old.last ≤ next_number new.last
    → (is ≡ false → note ≡ None) → AreViewers new
put_viewers old new v is note p a given more none = record {
  numbers = λ q h. by_number v q
      (λ e. subst (λ (k : ℕ). k + 1 ≤ next_number new.last) (sym e)
      (given (sym p.here ∙ ap (is_viewer new) (sym e) ∙ h)))
      (λ n. omega (arith, more, a.numbers q (sym (p.others q n) ∙ h)));
  notes = λ q s h. by_number v q
      (λ e. ap (is_viewer new) e ∙ (p.here ∙ yes is none (sym p.note_here ∙ (ap (note_of new) (sym e) ∙ h))))
      (λ n. p.others q n ∙ a.notes q s (sym (p.other_notes q n) ∙ h));
} where
  yes : (b : Bool) → (b ≡ false → note ≡ None) → {s : ScreenValue} → note ≡ Some s → b ≡ true
  yes true f e = refl
  yes false f {s} e = absurd (none_some s (sym (f refl) ∙ e))

-- No screen is recorded for a number without a viewer.
no_note : (old : ViewersValue) (v : ℕ) → AreViewers old → is_viewer old v ≡ false → note_of old v ≡ None
no_note old v a nobody = by_note (note_of old v) refl where
  by_note : (o : Option ScreenValue) → note_of old v ≡ o → note_of old v ≡ None
  by_note (Some s) e = absurd (false≢true (sym nobody ∙ a.notes v s e))
  by_note None e = e

-- The next number to be returned has no viewer yet.
new_number : (old : ViewersValue) (v : ℕ) → AreViewers old → v ≡ next_number old.last → is_viewer old v ≡ false
new_number old v a e = by_test (is_viewer old v) refl where
  too_many : v + 1 ≤ next_number old.last → ⊥
  too_many h = omega (arith, e, h)

  by_test : (b : Bool) → is_viewer old v ≡ b → is_viewer old v ≡ false
  by_test true h = absurd (too_many (a.numbers v h))
  by_test false h = h

pub joined : (old : ViewersValue) (v : ℕ) (was is : BTreeSet ℕ) → old.numbers ≡ was.keys →
    set.Updates nat_cmp was is v true → AreViewers old → v ≡ next_number old.last →
    Puts old v true None (record old { last = Some v; numbers = is.keys })
joined old v was is e u a n = record {
  here = u.1;
  note_here = no_note old v a (new_number old v a n);
  others = λ q h. u.2 q (at_other v q h) ∙ ap (λ (keys : List ℕ). is_viewer (record old { numbers = keys }) q) (sym e);
  other_notes = λ q h. refl;
}

pub joined_viewers : (old : ViewersValue) (v : ℕ) (was is : BTreeSet ℕ) →
    old.numbers ≡ was.keys → set.Updates nat_cmp was is v true → AreViewers old →
    v ≡ next_number old.last → AreViewers (record old { last = Some v; numbers = is.keys })
joined_viewers old v was is e u a n =
    put_viewers old (record old { last = Some v; numbers = is.keys }) v true None
    (joined old v was is e u a n) a (λ _. omega arith) (omega (arith, n)) (λ _. refl)

-- If the call failed, the statement about a failed call holds.
pub if_refused : {A E : Type 0} (r : Result A E) (P : Type 0) → is_err r ≡ true → OnErr r P → P
if_refused (Ok x) P e h = absurd (false≢true e)
if_refused (Err e) P o h = h

pub if_taken : {A E : Type 0} (r : Result A E) (P : Type 0) → is_err r ≡ false → OnOk r P → P
if_taken (Ok x) P e h = h
if_taken (Err e) P o h = absurd (false≢true (sym o))

pub on_err : {A E : Type 0} (r : Result A E) (P : Type 0) → P → OnErr r P
on_err (Ok x) P h = tt
on_err (Err e) P h = h

-- ==== The recorded screens have the mirror's size.

pub size_through : (a b c : Page) → SameSize a b → SameSize b c → SameSize a c
size_through a b c s t = record { width = s.width ∙ t.width; height = s.height ∙ t.height }

same_some : {A : Type 0} (x y : A) → Some x ≡ Some y → x ≡ y
same_some x y e = cc

pub own_size : (a : Page) → SameSize a a
own_size a = record { width = refl; height = refl }

-- Recorded screens still have the mirror's size if only the parser changes and keeps its size.
pub noted_parser : (old new : MirrorValue) → new.viewers ≡ old.viewers →
    SameSize new.parser.screen.page old.parser.screen.page → IsMirror old → IsMirror new
noted_parser old new same size m viewer screen e =
    size_through new.parser.screen.page old.parser.screen.page screen.page size
    (m viewer screen (ap (λ (v : ViewersValue). note_of v viewer) (sym same) ∙ e))

-- If no screen is recorded, all recorded screens have the mirror's size.
pub noted_none : (mirror : MirrorValue) → mirror.viewers.notes ≡ [] → IsMirror mirror
noted_none mirror none viewer screen e =
    absurd (none_some screen (ap
    (λ (notes : List (ℕ × ScreenValue)). note_of (record (mirror.viewers) { notes = notes }) viewer) (sym none)
    ∙ e))

-- Recorded screens still have the mirror's size if the screen recorded for one viewer is replaced by one of that size.
pub noted_put : (old new : MirrorValue) (v : ℕ) (is : Bool) (noted : Option ScreenValue)
    → new.parser ≡ old.parser → Puts old.viewers v is noted new.viewers
    → ((screen : ScreenValue) → noted ≡ Some screen → SameSize old.parser.screen.page screen.page)
    → IsMirror old → IsMirror new
noted_put old new v is noted same p size m viewer screen e =
    subst (λ (parser : ParserValue (Unit {0})). SameSize parser.screen.page screen.page) (sym same)
    (by_number v viewer
    (λ here. size screen (sym p.note_here ∙ (ap (note_of new.viewers) (sym here) ∙ e)))
    (λ other. m viewer screen (sym (p.other_notes viewer other) ∙ e)))

pub noted_same : (old new : MirrorValue) → new.parser ≡ old.parser →
    new.viewers ≡ old.viewers → IsMirror old → IsMirror new
noted_same old new same viewers m =
    noted_parser old new viewers (subst
    (λ (parser : ParserValue (Unit {0})). SameSize parser.screen.page old.parser.screen.page)
    (sym same) (own_size old.parser.screen.page))
    m

pub noted_join : (old new : MirrorValue) (answer : Result ℕ Error) → new.parser ≡ old.parser →
    JoinsMirror old.viewers answer new.viewers → IsMirror old → IsMirror new
noted_join old new (Ok viewer) same j m =
    noted_put old new viewer true None same j.puts (λ screen e. absurd (none_some screen e)) m
noted_join old new (Err error) same j m = noted_same old new same j.refused m

pub noted_leave : (old new : MirrorValue) (viewer : ℕ) (answer : Bool) → new.parser ≡ old.parser →
    Leaves old.viewers viewer answer new.viewers → IsMirror old → IsMirror new
noted_leave old new viewer answer same l m =
    noted_put old new viewer false None same l.puts (λ screen e. absurd (none_some screen e)) m

-- Recorded screens still have the mirror's size after a copy of the mirror's screen is recorded.
pub noted_copy : (old new : MirrorValue) (v : ℕ) (copy : ScreenValue) → new.parser ≡ old.parser →
    Puts old.viewers v true (Some copy) new.viewers → copy ≡ old.parser.screen → IsMirror old → IsMirror new
noted_copy old new v copy same p is m =
    noted_put old new v true (Some copy) same p
    (λ screen e. subst (λ (s : ScreenValue). SameSize old.parser.screen.page s.page) (same_some copy screen e)
    (subst (λ (s : ScreenValue). SameSize old.parser.screen.page s.page) (sym is) (own_size old.parser.screen.page)))
    m

-- ==== Parsing bytes keeps the size of a mirror's screen.

pub processed_size : (p q : ParserValue (Unit {0})) (bytes : List ℕ) (answer : Result (Unit {0}) Error)
    → IsScreen p.screen → ∥ ((state : State) × StandsFor p.scanner state) ∥₁
    → ParserProcesses does_nothing p bytes answer q → SameSize q.screen.page p.screen.page
processed_size p q bytes (Ok u) is stands reads =
    some_ran_size does_nothing p q bytes quiet_leaves is stands reads.ran
processed_size p q bytes (Err OutOfMemory) is stands reads =
    some_stopped_size does_nothing p q bytes quiet_leaves is stands (reads.memory refl)
processed_size p q bytes (Err Failed) is stands reads =
    subst (λ (parser : ParserValue (Unit {0})). SameSize parser.screen.page p.screen.page)
    (sym (reads.failed (reads.only refl)).1) (own_size p.screen.page)
processed_size p q bytes (Err NoNumber) is stands reads = absurd (reads.no_number refl)

-- ==== Screens that display the same content have the same diffs.

size_back : (a b : Page) → SameSize a b → SameSize b a
size_back a b s = record { width = sym s.width; height = sym s.height }

-- A copy has the size of every screen that has the size of the screen that was copied.
pub size_alike : (self noted copy : ScreenValue) → ShowsAlike noted copy → SameSize self.page noted.page →
    SameSize self.page copy.page
size_alike self noted copy a s =
    size_through self.page noted.page copy.page s (size_back copy.page noted.page a.size)

-- ---- a diff from a copy is a diff from the screen that was copied

diff_alike_in : (form : Form) (scroll : Bool) (self noted copy : ScreenValue) (text : List ℕ) →
    display copy ≡ display noted → IsDiff form scroll copy self text → IsDiff form scroll noted self text
diff_alike_in form true self noted copy text e d =
    subst (λ (p : Picture). IsMovingOrRedrawIn form (display self) p text) e d
diff_alike_in form false self noted copy text e d =
    subst (λ (p : Picture). text ≡ bytes_of_all (difference_in form (display self) p)) e d

repeats_alike : (repeat : Repeat) (noted copy : ScreenValue) (plain text : List ℕ) → display copy ≡ display noted →
    MayRepeat repeat copy plain text → MayRepeat repeat noted plain text
repeats_alike Never noted copy plain text e d = d
repeats_alike Ascii noted copy plain text e d =
    subst (λ (p : Picture). Repeats Ascii p.width (p.width - p.column) plain text) e d
repeats_alike Any noted copy plain text e d =
    subst (λ (p : Picture). Repeats Any p.width (p.width - p.column) plain text) e d

pub diff_alike : (options : DiffOptions) (self noted copy : ScreenValue) (text : List ℕ) → ShowsAlike noted copy →
    IsDiffFor options self copy text → IsDiffFor options self noted text
diff_alike options self noted copy text a d = record {
  size = size_through self.page copy.page noted.page d.size a.size;
  from_steady = λ scrolls. subst IsSteady a.shown (d.from_steady scrolls);
  is = record {
    plain = d.is.plain;
    diff = diff_alike_in (form_with options) options.scroll self noted copy d.is.plain a.shown d.is.diff;
    controls = d.is.controls;
    again = d.is.again;
    touches =
        λ portable moves steady.
        subst (λ (p : Picture). TouchesOnly (IsReaderOf (display self) p) d.is.plain (IsLocal (display self) p)) a.shown
        (d.is.touches portable moves steady);
    repeats = repeats_alike options.repeat noted copy d.is.plain text a.shown d.is.repeats;
  };
  controls = d.controls;
  rows =
      subst (λ (p : Picture). (reader : ScreenValue) → IsReaderOf (display self) p reader → RepeatsInRows text reader)
      a.shown d.rows;
  again = d.again;
  shorter =
      subst (λ (p : Picture). length text ≤ length (bytes_of_all (difference_in (form_with options) (display self) p)))
      a.shown d.shorter;
  redraw = d.redraw;
  redraws = subst (λ (p : Picture). Redraws (display self) (IsReaderOf (display self) p) KeepsRest text) a.shown d.redraws;
  empty = λ steady none. d.empty steady none ∙ a.shown;
  none = λ same. d.none (same ∙ sym a.shown);
  portable = λ asked steady. subst (λ (p : Picture). IsPortable (display self) p text) a.shown (d.portable asked steady);
}

-- ==== An update is the diff from the screen recorded for a viewer, or the redraw.

-- A statement about the screen recorded for a viewer holds for every screen that is recorded for that viewer.
pub of_noted : (P : ScreenValue → Type 0) (noted : Option ScreenValue) (it : ScreenValue) → noted ≡ Some it → P it →
    (screen : ScreenValue) → noted ≡ Some screen → P screen
of_noted P noted it e p screen f = subst P (same_some it screen (sym e ∙ f)) p

pub copy_size : (self seen noted copy : ScreenValue) → seen ≡ self → ShowsAlike noted copy →
    SameSize self.page noted.page → SameSize seen.page copy.page
copy_size self seen noted copy e alike size =
    subst (λ (s : ScreenValue). SameSize s.page copy.page) (sym e) (size_alike self noted copy alike size)

-- A diff from a copy of the recorded screen is a diff from the recorded screen.
pub diff_from : (options : DiffOptions) (self seen noted copy : ScreenValue) (text : List ℕ) → seen ≡ self →
    ShowsAlike noted copy → IsDiffFor options seen copy text → IsDiffFor options self noted text
diff_from options self seen noted copy text e alike is =
    diff_alike options self noted copy text alike
    (subst (λ (s : ScreenValue). IsDiffFor options s copy text) e is)

pub diff_update : (options : DiffOptions) (inside mirror : MirrorValue) (viewer : ℕ) (noted : ScreenValue)
    (text : String Global) → inside ≡ mirror → note_of inside.viewers viewer ≡ Some noted
    → IsDiffFor options inside.parser.screen noted (string_bytes text)
    → IsUpdate options mirror.parser.screen (note_of mirror.viewers viewer) (Diff text)
diff_update options inside mirror viewer noted text same e is =
    subst (λ (m : MirrorValue). IsUpdate options m.parser.screen (note_of m.viewers viewer) (Diff text)) same
    (subst (λ (o : Option ScreenValue). IsUpdate options inside.parser.screen o (Diff text)) (sym e) is)

full_one : (options : DiffOptions) (self noted : ScreenValue) (update : Update) → options.scroll ≡ true →
    (IsSteady (display noted) → ⊥) → IsFullUpdate (form_with options) self update →
    IsUpdate options self (Some noted) update
full_one options self noted (Full rows cols text) scrolls unsteady is =
    record { scrolls = scrolls; unsteady = unsteady; full = is }
full_one options self noted (Diff text) scrolls unsteady is = absurd is

-- A full redraw is an update with `scroll` for a viewer whose recorded screen is not steady.
pub full_update : (options : DiffOptions) (inside mirror : MirrorValue) (viewer : ℕ) (noted : ScreenValue)
    (result : Result Update Error)
    → inside ≡ mirror → note_of inside.viewers viewer ≡ Some noted → options.scroll ≡ true
    → (IsSteady (display noted) → ⊥)
    → IfOk result (λ update. IsFullUpdate (form_with options) mirror.parser.screen update)
    → IfOk result (λ update. IsUpdate options mirror.parser.screen (note_of mirror.viewers viewer) update)
full_update options inside mirror viewer noted (Ok update) same e scrolls unsteady is =
    subst (λ (o : Option ScreenValue). IsUpdate options mirror.parser.screen o update)
    (sym (subst (λ (m : MirrorValue). note_of m.viewers viewer ≡ Some noted) same e))
    (full_one options mirror.parser.screen noted update scrolls unsteady is)
full_update options inside mirror viewer noted (Err error) same e scrolls unsteady is = tt

-- ---- portable updates

portable_form : (portable : Bool) → IsTrue portable → form_of portable ≡ Portable
portable_form true is = refl
portable_form false never = absurd cc

pub portable_update : (options : DiffOptions) (self : ScreenValue) (noted : Option ScreenValue) (update : Update) →
    IsTrue options.portable → IsUpdate options self noted update → IsPortableUpdate self noted update
portable_update options self None (Full rows cols text) asked is = is.portable (portable_form options.portable asked)
portable_update options self None (Diff text) asked is = absurd is
portable_update options self (Some prev) (Full rows cols text) asked is =
    is.full.portable (portable_form options.portable asked)
portable_update options self (Some prev) (Diff text) asked is =
    is.portable asked
