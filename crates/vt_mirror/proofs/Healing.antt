-- A viewer recovers: it displays the screen of its last update if that screen was steady, whatever came before.
use Rattle.std.proofs.Common.{◌≡◌, ℕ, true, false, List, [], ◌∷◌, Option, Some, None, refl, sym, ap, subst, ◌∙◌}
use Rattle.std.specs.Prelude.{Result, Ok, Err, IfSome, string_bytes}
use Rattle.std.specs.List.{FoldsTo}
use Rattle.vt_cells.specs.declared.error.Error.{Error}
use Rattle.vt_grid.specs.Page.{SameSize}
use Rattle.vt_redraw.specs.Picture.{SamePictureSize}
use Rattle.vt_redraw.specs.Steady.{IsSteady}
use Rattle.vt_redraw.specs.declared.form.Form.{Form}
use Rattle.vt_scan.specs.Automaton.{State, start, run}
use Rattle.vt_scan.specs.Scanner.{StandsFor}
use Rattle.vt_screen.specs.Again.{LeavesPlain}
use Rattle.vt_screen.specs.Diffs.{form_with}
use Rattle.vt_screen.specs.Run.{CallRelation}
use Rattle.vt_screen.specs.Screen.{IsScreen, ScreenValue}
use Rattle.vt_screen.specs.Shown.{IsPlain, IsReader, IsReaderOf, KeepsRest, Redraws, RedrawsFrom, display}
use Rattle.vt_screen.specs.declared.diff_options.DiffOptions.{DiffOptions}
use Rattle.vt_screen.proofs.CallsNone.{reported_events}
use Rattle.vt_screen.proofs.Shown.{same_shown}
use Rattle.vt100.specs.Parser.{ParserValue, Ran, stage}
use Rattle.vt100.specs.Pieces.{IsPlainParser}
use Rattle.vt100.proofs.Quiet.{ran_read}
use Rattle.vt100.proofs.Running.{ran_joined}
use Rattle.vt_mirror.specs.Calls.{Asks, GivesUpdate, IsFull, IsUpdate}
use Rattle.vt_mirror.specs.Healing.{GoesAny, IsTakenFine, ReadsFine, SeesAny, ShowsSteady, TakesFine, WatchesAny}
use Rattle.vt_mirror.specs.Mirror.{note_of}
use Rattle.vt_mirror.specs.Watching.{Ask, IsFresh, IsLeft, IsNew, Join, Leave, MirrorCall, MirrorDoes, Process, SetSize}
use Rattle.vt_mirror.specs.Watching.{TakesSize, Watching}
use Rattle.vt_mirror.specs.declared.update.Update.{Update}
use Rattle.vt_mirror.specs.declared.update.Update.TheVariants.{Diff, Full}
use Rattle.vt_mirror.proofs.Bookkeeping.{by_number, none_some}
use Rattle.vt_mirror.proofs.Watching.{NotedBefore, before_equal, before_join, before_none, before_resize, before_same}
use Rattle.vt_mirror.proofs.Watching.{takes_size}

-- ---- a viewer reads

-- The viewer is plain again, and displays the screen `self` if it is steady.
record Heals {S : Type 0} (self : ScreenValue) (viewer : ParserValue S) : Type 0 where
  pub sound : IsScreen viewer.screen
  pub plain : IsPlainParser viewer
  pub shows : IsSteady (display self) → display viewer.screen ≡ display self

plain_after : {S : Type 0} (does : CallRelation S) (p q : ParserValue S) (text : List ℕ) → StandsFor p.scanner start →
    LeavesPlain text p.screen → Ran does p text q → q.is_failed ≡ false → IsPlainParser q
plain_after does p q text stands leaves ran fine =
    let (scanner, folds) = ran start stands in
    let told = reported_events does (run start text).events (stage p) (stage q) leaves.steps folds in record {
      is_failed = fine;
      scanner = subst (λ (s : State). StandsFor q.scanner s) leaves.ground scanner;
      screen = subst IsPlain (sym told.shown) leaves.plain;
    }

heals_by : {S : Type 0} (does : CallRelation S) (self : ScreenValue) (Reader : ScreenValue → Type 0) (text : List ℕ)
    (p q : ParserValue S) → LeavesPlain text p.screen → Redraws (display self) Reader KeepsRest text → IsPlainParser p →
    Reader p.screen → ReadsFine does text p q → Heals self q
heals_by {S} does self Reader text p q leaves r plain reader t =
    let ran : Ran does p text q = subst (λ (b : List ℕ). Ran does p b q) t.whole (ran_joined does p q t.chunks t.ran) in
    record {
      sound = t.sound;
      plain = plain_after does p q text plain.scanner leaves ran t.works;
      shows = λ steady.
          let reads = r.quiet steady p.screen reader in
          ap display (ran_read does p q text start _ plain.scanner reads.1 ran t.works).screen
          ∙ (r.shows steady p.screen reads.0 reader reads.1).1;
    }

heals_diff : {S : Type 0} (does : CallRelation S) (self prev : ScreenValue) (text : List ℕ) (p q : ParserValue S)
    → LeavesPlain text p.screen → SameSize self.page prev.page → RedrawsFrom prev self text
    → IsScreen p.screen → IsPlainParser p → display p.screen ≡ display prev
    → ReadsFine does text p q → Heals self q
heals_diff does self prev text p q leaves size redraws sound plain shows t =
    heals_by does self (IsReaderOf (display self) (display prev)) text p q leaves redraws plain (record {
      is = record {
        sound = sound;
        plain = plain.screen;
        size = subst (SamePictureSize (display self)) (sym shows) (same_shown self prev size);
      };
      shows = shows;
    }) t

heals_full : {S : Type 0} (does : CallRelation S) (form : Form) (self : ScreenValue) (rows cols : ℕ) (text : List ℕ)
    (p sized q : ParserValue S) → IsFull form self rows cols text → IsScreen p.screen → IsPlainParser p
    → TakesSize rows cols p sized → ReadsFine does text sized q → Heals self q
heals_full does form self rows cols text p sized q full sound plain takes t =
    let s = takes_size form self rows cols text p sized full takes sound plain in
    heals_by does self (IsReader (display self)) text sized q (full.again sized.screen s.plain.screen) full.redraws s.plain
    (record {
      sound = s.sound;
      plain = s.plain.screen;
      size =
          same_shown self sized.screen (record { width = sym (s.wide ∙ full.wide); height = sym (s.tall ∙ full.tall) });
    })
    t

-- Reading an update makes the viewer recover, if it displays the recorded screen whenever that is steady.
heals_update : {S : Type 0} (does : CallRelation S) (options : DiffOptions) (self : ScreenValue) (noted : Option ScreenValue)
    (update : Update) (p q : ParserValue S) → options.scroll ≡ true
    → ((prev : ScreenValue) → noted ≡ Some prev → IsSteady (display prev) → display p.screen ≡ display prev)
    → IsUpdate options self noted update → IsScreen p.screen → IsPlainParser p → TakesFine does update p q
    → Heals self q
heals_update does options self None (Full rows cols text) p q moves shows is sound plain t =
    heals_full does (form_with options) self rows cols (string_bytes text) p t.0 q is sound plain t.1 t.2
heals_update does options self None (Diff text) p q moves shows is sound plain t = absurd is
heals_update does options self (Some prev) (Diff text) p q moves shows is sound plain t =
    heals_diff does self prev (string_bytes text) p q (is.again p.screen sound plain.screen) is.size is.redraws sound plain
    (shows prev refl (is.from_steady moves)) t
heals_update does options self (Some prev) (Full rows cols text) p q moves shows is sound plain t =
    heals_full does (form_with options) self rows cols (string_bytes text) p t.0 q is.full sound plain t.1 t.2

-- ---- one call

record Holds {S : Type 0} (number : ℕ) (w : Watching S) : Type 0 where
  pub sound : IsScreen w.viewer.screen
  pub plain : IsPlainParser w.viewer
  pub noted : (screen : ScreenValue) → note_of w.mirror.viewers number ≡ Some screen → w.seen ≡ Some screen
  pub shows : IfSome w.seen (λ screen. IsSteady (display screen) → display w.viewer.screen ≡ display screen)

abbrev ShowsIfSteady : {S : Type 0} → ParserValue S → Option ScreenValue → Type 0
ShowsIfSteady {S} p o = IfSome o (λ screen. IsSteady (display screen) → display p.screen ≡ display screen)

holds_left : {S : Type 0} (number : ℕ) (old new : Watching S) →
    NotedBefore number old.mirror new.mirror → IsLeft old new → Holds number old → Holds number new
holds_left {S} number old new before l h = record {
  sound = subst (λ (p : ParserValue S). IsScreen p.screen) (sym l.viewer) h.sound;
  plain = subst IsPlainParser (sym l.viewer) h.plain;
  noted = λ screen e. l.seen ∙ h.noted screen (before screen e);
  shows =
      subst (λ (p : ParserValue S). ShowsIfSteady p new.seen) (sym l.viewer)
      (subst (λ (o : Option ScreenValue). ShowsIfSteady old.viewer o) (sym l.seen) h.shows);
}

holds_own : {S : Type 0} (does : CallRelation S) (options : DiffOptions) (number : ℕ) (update : Update) (old new : Watching S) →
    GivesUpdate options old.mirror number update new.mirror → SeesAny does options update old new → Holds number old →
    Holds number new
holds_own {S} does options number update old new t s h =
    let self = old.mirror.parser.screen in
    let noted = note_of old.mirror.viewers number in
    let p = heals_update does options self noted update old.viewer new.viewer s.scrolling
    (λ prev e. subst (λ (o : Option ScreenValue). ShowsIfSteady old.viewer o) (h.noted prev e) h.shows)
    t.text h.sound h.plain s.takes in
    record {
      sound = p.sound;
      plain = p.plain;
      noted = λ screen e. s.seen ∙ (sym t.puts.note_here ∙ e);
      shows = subst (λ (o : Option ScreenValue). ShowsIfSteady new.viewer o) (sym s.seen) p.shows;
    }

holds_taken : {S : Type 0} (does : CallRelation S) (options : DiffOptions) (number asked : ℕ) (update : Update)
    (old new : Watching S) → GivesUpdate options old.mirror asked update new.mirror →
    IsTakenFine does number options asked update old new → Holds number old → Holds number new
holds_taken {S} does options number asked update old new t taken h =
    by_number number asked
    (λ own. holds_own does options number update old new
    (subst (λ (n : ℕ). GivesUpdate options old.mirror n update new.mirror) own t) (taken.own own) h)
    (λ other. holds_left number old new
    (λ screen e. sym (t.puts.other_notes number (λ same. other (sym same))) ∙ e) (taken.others other) h)

holds_ask : {S : Type 0} (does : CallRelation S) (options : DiffOptions) (number asked : ℕ)
    (answer : Result (Option Update) Error) (old new : Watching S) → Asks options old.mirror asked answer new.mirror →
    WatchesAny does number old (Ask options asked answer) new → Holds number old → Holds number new
holds_ask does options number asked (Ok (Some update)) old new a f h =
    holds_taken does options number asked update old new a.answers f h
holds_ask does options number asked (Ok None) old new a f h =
    holds_left number old new (before_equal number old.mirror new.mirror a.answers.1) f h
holds_ask does options number asked (Err error) old new a f h =
    holds_left number old new (before_equal number old.mirror new.mirror a.refused.1) f h

holds_call : {S : Type 0} (does : CallRelation S) (number : ℕ) (call : MirrorCall) (old new : Watching S) →
    MirrorDoes old.mirror call new.mirror → WatchesAny does number old call new → Holds number old → Holds number new
holds_call does number (Process bytes answer) old new d f h =
    holds_left number old new (before_same number old.mirror new.mirror d.viewers) f h
holds_call does number (SetSize rows cols answer) old new d f h =
    holds_left number old new (before_resize number old.mirror new.mirror rows cols answer d) f h
holds_call does number (Join answer) old new d f h =
    holds_left number old new (before_join number old.mirror new.mirror answer d.1) f h
holds_call does number (Leave viewer answer) old new d f h =
    holds_left number old new (before_none number viewer false old.mirror new.mirror d.1.puts) f h
holds_call does number (Ask options viewer answer) old new d f h = holds_ask does options number viewer answer old new d f h

-- ---- all calls

holds_all : {S : Type 0} (does : CallRelation S) (number : ℕ) (calls : List MirrorCall) (old new : Watching S) →
    FoldsTo (GoesAny does number) old calls new → Holds number old → Holds number new
holds_all {S} does number [] old new f h = subst (λ (w : Watching S). Holds number w) f h
holds_all {S} does number (call ∷ calls) old new f h =
    let mid : Watching S = f.0 in
    holds_all does number calls mid new f.2 (holds_call does number call old mid f.1.0 f.1.1 h)

fresh_holds : {S : Type 0} (number : ℕ) (w : Watching S) → IsFresh w.mirror → IsNew w → Holds number w
fresh_holds {S} number w fresh new = record {
  sound = new.sound;
  plain = new.plain;
  noted =
      λ screen e. absurd
      (none_some screen (ap
      (λ (notes : List (ℕ × ScreenValue)). note_of (record (w.mirror.viewers) { notes = notes }) number)
      (sym fresh.notes)
      ∙ e));
  shows = subst (λ (o : Option ScreenValue). ShowsIfSteady w.viewer o) (sym new.seen) tt;
}

pub viewer_heals : {S : Type 0} (does : CallRelation S) (number : ℕ) (calls : List MirrorCall) (old new : Watching S) →
    IsFresh old.mirror → IsNew old → FoldsTo (GoesAny does number) old calls new → ShowsSteady new
viewer_heals does number calls old new fresh is f =
    let h = holds_all does number calls old new f (fresh_holds number old fresh is) in
    record { plain = h.plain; shows = h.shows }
