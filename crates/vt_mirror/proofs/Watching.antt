-- A viewer displays the screen as it was at its last update.
use Rattle.std.proofs.Common.{◌≡◌, ℕ, ◌+◌, Bool, true, false, List, [], ◌∷◌}
use Rattle.std.proofs.Common.{length, Option, Some, None, refl, sym, ap, subst, ◌∙◌}
use Rattle.std.specs.Prelude.{Result, Ok, Err, IfSome, string_bytes}
use Rattle.std.specs.List.{FoldsTo}
use Rattle.vt_cells.specs.declared.error.Error.{Error}
use Rattle.vt_redraw.specs.Picture.{SamePictureSize}
use Rattle.vt_redraw.specs.Steady.{IsSteady}
use Rattle.vt_redraw.specs.declared.form.Form.{Form}
use Rattle.vt_scan.specs.Automaton.{start}
use Rattle.vt_scan.specs.Scanner.{StandsFor}
use Rattle.vt_screen.specs.Diffs.{form_with}
use Rattle.vt_screen.specs.Pages.{has_size, screen_after_resize}
use Rattle.vt_screen.specs.Reading.{terminal_after, terminal}
use Rattle.vt_screen.specs.Screen.{IsScreen, ScreenValue}
use Rattle.vt_screen.specs.Shown.{IsPlain, IsReader, IsReaderOf, KeepsRest, Redraws, display}
use Rattle.vt_screen.specs.declared.diff_options.DiffOptions.{DiffOptions}
use Rattle.vt_screen.proofs.Shown.{same_shown}
use Rattle.vt100.specs.Parser.{ParserValue}
use Rattle.vt100.specs.Pieces.{HasRead, IsPlainParser}
use Rattle.vt100.proofs.Quiet.{read_pieces}
use Rattle.vt_mirror.specs.Calls.{Asks, GivesUpdate, IsDiffFor, IsFull, IsUpdate, JoinsMirror, Resizes}
use Rattle.vt_mirror.specs.Mirror.{MirrorValue, Puts, ViewersValue, next_number, note_of}
use Rattle.vt_mirror.specs.Watching.{Ask, CountUp, Goes, IsFresh, IsLeft, IsNew, IsTakenBy, MirrorDoes, Watches}
use Rattle.vt_mirror.specs.Watching.{Join, Leave, MirrorCall, Process, ReadsText, Sees, SetSize, ShowsSeen}
use Rattle.vt_mirror.specs.Watching.{TakesUpdate, TakesSize, Watching, numbers_given}
use Rattle.vt_mirror.specs.declared.update.Update.{Update}
use Rattle.vt_mirror.specs.declared.update.Update.TheVariants.{Diff, Full}
use Rattle.vt_mirror.proofs.Bookkeeping.{by_number, none_some}
use Rattle.vt_screen.proofs.SizeRuns.{resized_is, resized_plain, resized_size}

-- ---- the screen recorded for a number whose viewer gets no update: the same as before, or none

abbrev pub NotedBefore : ℕ → MirrorValue → MirrorValue → Type 0
NotedBefore number old new =
    (screen : ScreenValue) → note_of new.viewers number ≡ Some screen → note_of old.viewers number ≡ Some screen

pub before_same : (number : ℕ) (old new : MirrorValue) → new.viewers ≡ old.viewers → NotedBefore number old new
before_same number old new same screen e = ap (λ (v : ViewersValue). note_of v number) (sym same) ∙ e

pub before_equal : (number : ℕ) (old new : MirrorValue) → new ≡ old → NotedBefore number old new
before_equal number old new same = before_same number old new (ap (λ (m : MirrorValue). m.viewers) same)

pub before_none : (number viewer : ℕ) (is : Bool) (old new : MirrorValue) →
    Puts old.viewers viewer is None new.viewers → NotedBefore number old new
before_none number viewer is old new p screen e =
    by_number viewer number
    (λ here. absurd (none_some screen (sym p.note_here ∙ (ap (note_of new.viewers) (sym here) ∙ e))))
    (λ other. sym (p.other_notes number other) ∙ e)

pub before_resize : (number : ℕ) (old new : MirrorValue) (rows cols : ℕ) (answer : Result (Unit {0}) Error) →
    Resizes old rows cols answer new → NotedBefore number old new
before_resize number old new rows cols answer r = by_test (has_size rows cols old.parser.screen) refl answer r where
  by_test : (b : Bool) → has_size rows cols old.parser.screen ≡ b →
      (answer : Result (Unit {0}) Error) → Resizes old rows cols answer new → NotedBefore number old new
  by_test true e answer r = before_equal number old new (r.same e).1
  by_test false e (Ok u) r =
      λ (screen : ScreenValue) noted. absurd
      (none_some screen (ap (λ (m : MirrorValue). note_of m.viewers number) (sym (r.other e)) ∙ noted))
  by_test false e (Err error) r = before_equal number old new r.refused.1

pub before_join : (number : ℕ) (old new : MirrorValue) (answer : Result ℕ Error) →
    JoinsMirror old.viewers answer new.viewers → NotedBefore number old new
before_join number old new (Ok viewer) j = before_none number viewer true old new j.puts
before_join number old new (Err error) j = before_same number old new j.refused

-- ---- a viewer reads

same_end : {S : Type 0} (text : List ℕ) (p q : ParserValue S) (after : ScreenValue) → IsPlainParser p → ReadsText text p q →
    terminal_after (terminal start p.screen) text ≡ Some (terminal start after) → HasRead p (terminal start after) q
same_end text p q after plain t reads =
    (read_pieces p q t.calls start (terminal start after) plain.is_failed
    plain.scanner (ap (terminal_after (terminal start p.screen)) t.whole ∙ reads) t.reads).1

-- The terminal is valid and plain, and displays the given screen.
record Plainly {S : Type 0} (self : ScreenValue) (viewer : ParserValue S) : Type 0 where
  pub plain : IsPlainParser viewer
  pub shows : display viewer.screen ≡ display self

reads_redraw : {S : Type 0} (self : ScreenValue) (Reader : ScreenValue → Type 0) (text : List ℕ) (p q : ParserValue S) →
    IsSteady (display self) → Redraws (display self) Reader KeepsRest text → IsPlainParser p →
    Reader p.screen → ReadsText text p q → Plainly self q
reads_redraw self Reader text p q steady r plain reader t =
    let reads = r.quiet steady p.screen reader in
    let all = same_end text p q reads.0 plain t reads.1 in
    let made = r.shows steady p.screen reads.0 reader reads.1 in
    record {
      plain =
          record { is_failed = all.is_failed; scanner = all.scanner; screen = subst IsPlain (sym all.screen) made.0 };
      shows = ap display all.screen ∙ made.1;
    }

reads_diff : {S : Type 0} (options : DiffOptions) (self prev : ScreenValue) (text : List ℕ) (p q : ParserValue S)
    → IsDiffFor options self prev text → IsSteady (display self)
    → IsScreen p.screen → IsPlainParser p → display p.screen ≡ display prev → ReadsText text p q → Plainly self q
reads_diff options self prev text p q diff steady sound plain shows t =
    reads_redraw self (IsReaderOf (display self) (display prev)) text p q steady diff.redraws plain (record {
      is = record {
        sound = sound;
        plain = plain.screen;
        size = subst (SamePictureSize (display self)) (sym shows) (same_shown self prev diff.size);
      };
      shows = shows;
    }) t

-- The terminal is valid and plain, and has the given size.
pub record Sized {S : Type 0} (rows cols : ℕ) (q : ParserValue S) : Type 0 where
  pub sound : IsScreen q.screen
  pub plain : IsPlainParser q
  pub wide : q.screen.page.width ≡ cols
  pub tall : length q.screen.page.rows ≡ rows

pub takes_size : {S : Type 0} (form : Form) (self : ScreenValue) (rows cols : ℕ) (text : List ℕ) (p q : ParserValue S) →
    IsFull form self rows cols text → TakesSize rows cols p q → IsScreen p.screen → IsPlainParser p → Sized rows cols q
takes_size {S} form self rows cols text p q full t sound plain =
    let size = resized_size rows cols p.screen in
    let same : q.screen ≡ screen_after_resize rows cols p.screen = ap (λ (r : ParserValue S). r.screen) t in
    record {
      sound =
          subst IsScreen (sym same)
          (resized_is rows cols p.screen full.has_rows full.few_rows full.has_columns full.few_columns sound);
      plain = record {
        is_failed = ap (λ (r : ParserValue S). r.is_failed) t ∙ plain.is_failed;
        scanner = subst (λ (r : ParserValue S). StandsFor r.scanner start) (sym t) plain.scanner;
        screen = subst IsPlain (sym same) (resized_plain rows cols p.screen full.has_rows plain.screen);
      };
      wide = ap (λ (s : ScreenValue). s.page.width) same ∙ size.0;
      tall = ap (λ (s : ScreenValue). length s.page.rows) same ∙ size.1;
    }

reads_full : {S : Type 0} (form : Form) (self : ScreenValue) (rows cols : ℕ) (text : List ℕ) (p sized q : ParserValue S)
    → IsFull form self rows cols text → IsSteady (display self)
    → IsScreen p.screen → IsPlainParser p → TakesSize rows cols p sized → ReadsText text sized q → Plainly self q
reads_full form self rows cols text p sized q full steady sound plain takes t =
    let s = takes_size form self rows cols text p sized full takes sound plain in
    reads_redraw self (IsReader (display self)) text sized q steady full.redraws s.plain
    (record {
      sound = s.sound;
      plain = s.plain.screen;
      size =
          same_shown self sized.screen (record { width = sym (s.wide ∙ full.wide); height = sym (s.tall ∙ full.tall) });
    })
    t

sound_after : {S : Type 0} (update : Update) (p q : ParserValue S) → TakesUpdate update p q → IsScreen q.screen
sound_after (Diff text) p q t = t.sound
sound_after (Full rows cols text) p q t = t.2.sound

-- A viewer that displays the recorded screen, if there is one, displays the new screen after it reads an update.
takes_update : {S : Type 0} (options : DiffOptions) (self : ScreenValue) (noted : Option ScreenValue)
    (update : Update) (p q : ParserValue S)
    → ((prev : ScreenValue) → noted ≡ Some prev → display p.screen ≡ display prev)
    → IsUpdate options self noted update → IsSteady (display self) → IsScreen p.screen
    → IsPlainParser p → TakesUpdate update p q → Plainly self q
takes_update options self (Some prev) (Diff text) p q shows is steady sound plain t =
    reads_diff options self prev (string_bytes text) p q is steady sound plain (shows prev refl) t
takes_update options self None (Full rows cols text) p q shows is steady sound plain t =
    reads_full (form_with options) self rows cols (string_bytes text) p t.0 q is steady sound plain t.1 t.2
takes_update options self (Some prev) (Full rows cols text) p q shows is steady sound plain t =
    reads_full (form_with options) self rows cols (string_bytes text) p t.0 q is.full steady sound plain t.1 t.2
takes_update options self None (Diff text) p q shows is steady sound plain t = absurd is

-- ---- one call

-- The viewer is plain and displays the screen of its last update, which is the recorded screen if there is one.
record Holds {S : Type 0} (number : ℕ) (w : Watching S) : Type 0 where
  pub sound : IsScreen w.viewer.screen
  pub plain : IsPlainParser w.viewer
  pub noted : (screen : ScreenValue) → note_of w.mirror.viewers number ≡ Some screen → w.seen ≡ Some screen
  pub shows : IfSome w.seen (λ screen. display w.viewer.screen ≡ display screen)

holds_left : {S : Type 0} (number : ℕ) (old new : Watching S) →
    NotedBefore number old.mirror new.mirror → IsLeft old new → Holds number old → Holds number new
holds_left {S} number old new before l h = record {
  sound = subst (λ (p : ParserValue S). IsScreen p.screen) (sym l.viewer) h.sound;
  plain = subst IsPlainParser (sym l.viewer) h.plain;
  noted = λ screen e. l.seen ∙ h.noted screen (before screen e);
  shows = subst (λ (p : ParserValue S). IfSome new.seen (λ screen. display p.screen ≡ display screen)) (sym l.viewer)
      (subst (λ (o : Option ScreenValue). IfSome o (λ screen. display old.viewer.screen ≡ display screen))
      (sym l.seen) h.shows);
}

holds_own : {S : Type 0} (options : DiffOptions) (number : ℕ) (update : Update) (old new : Watching S) →
    GivesUpdate options old.mirror number update new.mirror → Sees update old new → Holds number old → Holds number new
holds_own {S} options number update old new t s h =
    let self = old.mirror.parser.screen in
    let shows_prev : (prev : ScreenValue) →
    note_of old.mirror.viewers number ≡ Some prev → display old.viewer.screen ≡ display prev
    = λ prev e. subst (λ (o : Option ScreenValue). IfSome o (λ screen. display old.viewer.screen ≡ display screen))
    (h.noted prev e) h.shows in
    let p = takes_update options self (note_of old.mirror.viewers number) update
    old.viewer new.viewer shows_prev t.text s.steady h.sound h.plain s.takes in
    record {
      sound = sound_after update old.viewer new.viewer s.takes;
      plain = p.plain;
      noted = λ screen e. s.seen ∙ (sym t.puts.note_here ∙ e);
      shows =
          subst (λ (o : Option ScreenValue). IfSome o (λ screen. display new.viewer.screen ≡ display screen))
          (sym s.seen) p.shows;
    }

holds_taken : {S : Type 0} (options : DiffOptions) (number asked : ℕ) (update : Update) (old new : Watching S) →
    GivesUpdate options old.mirror asked update new.mirror →
    IsTakenBy number asked update old new → Holds number old → Holds number new
holds_taken {S} options number asked update old new t taken h =
    by_number number asked
    (λ own. holds_own options number update old new
    (subst (λ (n : ℕ). GivesUpdate options old.mirror n update new.mirror) own t) (taken.own own) h)
    (λ other. holds_left number old new
    (λ screen e. sym (t.puts.other_notes number (λ same. other (sym same))) ∙ e) (taken.others other) h)

holds_ask : {S : Type 0} (options : DiffOptions) (number asked : ℕ) (answer : Result (Option Update) Error) (old new : Watching S) →
    Asks options old.mirror asked answer new.mirror →
    Watches number old (Ask options asked answer) new → Holds number old → Holds number new
holds_ask options number asked (Ok (Some update)) old new a f h = holds_taken options number asked update old new a.answers f h
holds_ask options number asked (Ok None) old new a f h =
    holds_left number old new (before_equal number old.mirror new.mirror a.answers.1) f h
holds_ask options number asked (Err error) old new a f h =
    holds_left number old new (before_equal number old.mirror new.mirror a.refused.1) f h

holds_call : {S : Type 0} (number : ℕ) (call : MirrorCall) (old new : Watching S) →
    MirrorDoes old.mirror call new.mirror → Watches number old call new → Holds number old → Holds number new
holds_call number (Process bytes answer) old new d f h =
    holds_left number old new (before_same number old.mirror new.mirror d.viewers) f h
holds_call number (SetSize rows cols answer) old new d f h =
    holds_left number old new (before_resize number old.mirror new.mirror rows cols answer d) f h
holds_call number (Join answer) old new d f h =
    holds_left number old new (before_join number old.mirror new.mirror answer d.1) f h
holds_call number (Leave viewer answer) old new d f h =
    holds_left number old new (before_none number viewer false old.mirror new.mirror d.1.puts) f h
holds_call number (Ask options viewer answer) old new d f h = holds_ask options number viewer answer old new d f h

-- ---- all calls

holds_all : {S : Type 0} (number : ℕ) (calls : List MirrorCall) (old new : Watching S) →
    FoldsTo (Goes number) old calls new → Holds number old → Holds number new
holds_all {S} number [] old new f h = subst (λ (w : Watching S). Holds number w) f h
holds_all {S} number (call ∷ calls) old new f h =
    let mid : Watching S = f.0 in
    holds_all number calls mid new f.2 (holds_call number call old mid f.1.0 f.1.1 h)

fresh_holds : {S : Type 0} (number : ℕ) (w : Watching S) → IsFresh w.mirror → IsNew w → Holds number w
fresh_holds {S} number w fresh new = record {
  sound = new.sound;
  plain = new.plain;
  noted =
      λ screen e. absurd
      (none_some screen (ap
      (λ (notes : List (ℕ × ScreenValue)). note_of (record (w.mirror.viewers) { notes = notes }) number)
      (sym fresh.notes)
      ∙ e));
  shows =
      subst (λ (o : Option ScreenValue). IfSome o (λ screen. display w.viewer.screen ≡ display screen)) (sym new.seen) tt;
}

pub viewer_shows : {S : Type 0} (number : ℕ) (calls : List MirrorCall) (old new : Watching S) →
    IsFresh old.mirror → IsNew old → FoldsTo (Goes number) old calls new → ShowsSeen new
viewer_shows number calls old new fresh is f =
    let h = holds_all number calls old new f (fresh_holds number old fresh is) in
    record { plain = h.plain; shows = h.shows }

-- ---- numbers

-- After a call that returns no number, the numbers still count up from the same number.
last_stays : (old new : MirrorValue) (n : ℕ) (numbers : List ℕ) → new.viewers.last ≡ old.viewers.last →
    next_number old.viewers.last ≡ n → CountUp (next_number new.viewers.last) numbers → CountUp n numbers
last_stays old new n numbers same e c = subst (λ (k : ℕ). CountUp k numbers) (ap next_number same ∙ e) c

last_resize : (old new : MirrorValue) (rows cols : ℕ) (answer : Result (Unit {0}) Error) →
    Resizes old rows cols answer new → new.viewers.last ≡ old.viewers.last
last_resize old new rows cols answer r = by_test (has_size rows cols old.parser.screen) refl answer r where
  by_test : (b : Bool) → has_size rows cols old.parser.screen ≡ b → (answer : Result (Unit {0}) Error) →
      Resizes old rows cols answer new → new.viewers.last ≡ old.viewers.last
  by_test true e answer r = ap (λ (m : MirrorValue). m.viewers.last) (r.same e).1
  by_test false e (Ok u) r = ap (λ (m : MirrorValue). m.viewers.last) (r.other e)
  by_test false e (Err error) r = ap (λ (m : MirrorValue). m.viewers.last) r.refused.1

last_ask : (options : DiffOptions) (old new : MirrorValue) (viewer : ℕ) (answer : Result (Option Update) Error) →
    Asks options old viewer answer new → new.viewers.last ≡ old.viewers.last
last_ask options old new viewer (Ok (Some update)) a = a.answers.last
last_ask options old new viewer (Ok None) a = ap (λ (m : MirrorValue). m.viewers.last) a.answers.1
last_ask options old new viewer (Err error) a = ap (λ (m : MirrorValue). m.viewers.last) a.refused.1

pub numbers_count : (old new : MirrorValue) (calls : List MirrorCall) →
    FoldsTo MirrorDoes old calls new → CountUp (next_number old.viewers.last) (numbers_given calls)
numbers_count old new [] f = tt
numbers_count old new (Process bytes answer ∷ calls) f =
    last_stays old f.0 (next_number old.viewers.last) (numbers_given calls)
    (ap (λ (v : ViewersValue). v.last) f.1.viewers) refl (numbers_count f.0 new calls f.2)
numbers_count old new (SetSize rows cols answer ∷ calls) f =
    last_stays old f.0 (next_number old.viewers.last) (numbers_given calls)
    (last_resize old f.0 rows cols answer f.1) refl (numbers_count f.0 new calls f.2)
numbers_count old new (Join (Ok viewer) ∷ calls) f =
    let mid : MirrorValue = f.0 in (
      f.1.1.number,
      subst (λ (k : ℕ). CountUp k (numbers_given calls))
          (ap next_number f.1.1.last ∙ ap (λ (k : ℕ). k + 1) f.1.1.number) (numbers_count mid new calls f.2),
    )
numbers_count old new (Join (Err error) ∷ calls) f =
    last_stays old f.0 (next_number old.viewers.last) (numbers_given calls)
    (ap (λ (v : ViewersValue). v.last) f.1.1.refused) refl (numbers_count f.0 new calls f.2)
numbers_count old new (Leave viewer answer ∷ calls) f =
    last_stays old f.0 (next_number old.viewers.last)
    (numbers_given calls) f.1.1.last refl (numbers_count f.0 new calls f.2)
numbers_count old new (Ask options viewer answer ∷ calls) f =
    last_stays old f.0 (next_number old.viewers.last) (numbers_given calls)
    (last_ask options old f.0 viewer answer f.1) refl (numbers_count f.0 new calls f.2)
