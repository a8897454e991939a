-- The terminal of a viewer displays the mirror's screen as it was at the viewer's last update.
use Rattle.std.proofs.Common.{◌≡◌, ℕ, List, [], ◌∷◌, ◌++◌, Option, Some, None, true, false, refl, sym, ap, subst, ◌∙◌}
use Rattle.std.specs.Prelude.{Result, Ok, Err, IfOk, IfSome}
use Rattle.std.specs.List.{FoldsTo}
use Rattle.vt_cells.specs.declared.error.Error.{Error}
use Rattle.vt_screen.specs.Screen.{ScreenValue}
use Rattle.vt_screen.specs.Shown.{display}
use Rattle.vt_screen.specs.declared.diff_options.DiffOptions.{DiffOptions}
use Rattle.vt_mirror.specs.Calls.{Asks, GivesUpdate, IsUpdate}
use Rattle.vt_mirror.specs.Mirror.{MirrorValue, note_of}
use Rattle.vt_mirror.specs.Watching.{Ask, IsFresh, Join, Leave, MirrorCall, MirrorDoes, Process, SetSize}
use Rattle.vt_mirror.specs.declared.update.Update.{Update}
use Rattle.vt_mirror.specs.declared.update.Update.TheVariants.{Diff, Full}
use Rattle.vt_mirror.proofs.Bookkeeping.{by_number, none_some}
use Rattle.vt_mirror.proofs.Watching.{NotedBefore, before_equal, before_join, before_none, before_resize, before_same}
use Rattle.vt_terminals.specs.BlackBox.{BlackBox, IsLawful, ShowsAfter}
use Rattle.vt_terminals.specs.Terminal.{Positions}
use Rattle.vt_terminals.proofs.Boxes.{box_next_shows, box_redraw_shows}
use Rattle.vt_everywhere.specs.Chains.{CanShowScreen}
use Rattle.vt_everywhere.specs.Viewers.{IsReadBy, IsUnread, ReadsUpdate, ShowsLast, ShowsUpdate, ViewerGoes, Viewing}
use Rattle.vt_everywhere.specs.Viewers.{Views, portable_options}
use Rattle.vt_everywhere.proofs.Screens.{picture_shows}

-- ==== One update

shows_one : (self : ScreenValue) (noted : Option ScreenValue) (update : Update) →
    IsUpdate portable_options self noted update → ShowsUpdate self noted update
shows_one self (Some prev) (Diff text) is box lawful near before can ready shows =
    let was = shows prev refl in
    subst (λ (z : List ℕ). ShowsAfter box near (display self) (before ++ z)) (sym (is.is.repeats ∙ is.is.diff))
    (box_next_shows box lawful near (display self) (display prev) before (picture_shows box near prev was.0)
    (picture_shows box near self can) was.1)
shows_one self (Some prev) (Full rows cols text) is box lawful near before can ready shows =
    let scrolls = is.scrolls in absurd (cc)
shows_one self None (Full rows cols text) is box lawful near before can ready shows =
    subst (λ (z : List ℕ). ShowsAfter box near (display self) (before ++ z)) (sym is.is)
    (box_redraw_shows box lawful near (display self) before (picture_shows box near self can) ready)
shows_one self None (Diff text) is box lawful near before can ready shows = absurd is

pub shows_update : (old : MirrorValue) (viewer : ℕ) (answer : Result (Option Update) Error) (new : MirrorValue) →
    Asks portable_options old viewer answer new →
    IfOk answer (λ update. IfSome update (ShowsUpdate old.parser.screen (note_of old.viewers viewer)))
shows_update old viewer (Ok (Some update)) new asks =
    shows_one old.parser.screen (note_of old.viewers viewer) update asks.answers.text
shows_update old viewer (Ok None) new asks = tt
shows_update old viewer (Err error) new asks = tt

-- ==== One call

record Holds (box : BlackBox) (near : Positions) (number : ℕ) (w : Viewing) : Type 0 where
  pub ready : box.is_ready w.read ≡ true
  pub noted : (screen : ScreenValue) → note_of w.mirror.viewers number ≡ Some screen → w.seen ≡ Some screen
  pub shows : (screen : ScreenValue) → w.seen ≡ Some screen →
      CanShowScreen box near screen × ShowsAfter box near (display screen) w.read

holds_left : (box : BlackBox) (near : Positions) (number : ℕ) (old new : Viewing) →
    NotedBefore number old.mirror new.mirror → IsUnread old new → Holds box near number old → Holds box near number new
holds_left box near number old new before left h = record {
  ready = ap box.is_ready left.read ∙ h.ready;
  noted = λ screen e. left.seen ∙ h.noted screen (before screen e);
  shows = λ screen e. let was = h.shows screen (sym left.seen ∙ e) in
      (was.0, subst (λ (z : List ℕ). ShowsAfter box near (display screen) z) (sym left.read) was.1);
}

abbrev screen_or : ScreenValue → Option ScreenValue → ScreenValue
screen_or other (Some screen) = screen
screen_or other None = other

some_screen : (a b : ScreenValue) → Some a ≡ Some b → a ≡ b
some_screen a b e = ap (screen_or a) e

holds_own : (box : BlackBox) → IsLawful box → (near : Positions) (options : DiffOptions) (number : ℕ) (update : Update)
    (old new : Viewing) → GivesUpdate options old.mirror number update new.mirror →
    Views box near options update old new → Holds box near number old → Holds box near number new
holds_own box lawful near options number update old new gives views h =
    let self = old.mirror.parser.screen in
    let is : IsUpdate portable_options self (note_of old.mirror.viewers number) update =
    subst (λ (o : DiffOptions). IsUpdate o self (note_of old.mirror.viewers number) update) views.portable gives.text in
    let shown : ShowsAfter box near (display self) new.read =
    subst (λ (z : List ℕ). ShowsAfter box near (display self) z) (sym views.read)
    (shows_one self (note_of old.mirror.viewers number) update is box lawful near old.read views.can h.ready
    (λ prev e. h.shows prev (h.noted prev e))) in
    record {
      ready = shown.0;
      noted = λ screen e. views.seen ∙ (sym gives.puts.note_here ∙ e);
      shows = λ screen e.
          subst (λ (s : ScreenValue). CanShowScreen box near s × ShowsAfter box near (display s) new.read)
          (some_screen self screen (sym views.seen ∙ e)) (views.can, shown);
    }

holds_read : (box : BlackBox) → IsLawful box → (near : Positions) (options : DiffOptions) (number asked : ℕ)
    (update : Update) (old new : Viewing) → GivesUpdate options old.mirror asked update new.mirror →
    IsReadBy box near number asked options update old new → Holds box near number old → Holds box near number new
holds_read box lawful near options number asked update old new gives read h =
    by_number number asked
    (λ own. holds_own box lawful near options number update old new
    (subst (λ (n : ℕ). GivesUpdate options old.mirror n update new.mirror) own gives) (read.own own) h)
    (λ other. holds_left box near number old new
    (λ screen e. sym (gives.puts.other_notes number (λ same. other (sym same))) ∙ e) (read.others other) h)

holds_ask : (box : BlackBox) → IsLawful box → (near : Positions) (options : DiffOptions) (number asked : ℕ)
    (answer : Result (Option Update) Error) (old new : Viewing) → Asks options old.mirror asked answer new.mirror →
    ReadsUpdate box near number old (Ask options asked answer) new → Holds box near number old →
    Holds box near number new
holds_ask box lawful near options number asked (Ok (Some update)) old new asks reads h =
    holds_read box lawful near options number asked update old new asks.answers reads h
holds_ask box lawful near options number asked (Ok None) old new asks reads h =
    holds_left box near number old new (before_equal number old.mirror new.mirror asks.answers.1) reads h
holds_ask box lawful near options number asked (Err error) old new asks reads h =
    holds_left box near number old new (before_equal number old.mirror new.mirror asks.refused.1) reads h

holds_call : (box : BlackBox) → IsLawful box → (near : Positions) (number : ℕ) (call : MirrorCall) (old new : Viewing) →
    MirrorDoes old.mirror call new.mirror → ReadsUpdate box near number old call new → Holds box near number old →
    Holds box near number new
holds_call box lawful near number (Process bytes answer) old new does reads h =
    holds_left box near number old new (before_same number old.mirror new.mirror does.viewers) reads h
holds_call box lawful near number (SetSize rows cols answer) old new does reads h =
    holds_left box near number old new (before_resize number old.mirror new.mirror rows cols answer does) reads h
holds_call box lawful near number (Join answer) old new does reads h =
    holds_left box near number old new (before_join number old.mirror new.mirror answer does.1) reads h
holds_call box lawful near number (Leave viewer answer) old new does reads h =
    holds_left box near number old new (before_none number viewer false old.mirror new.mirror does.1.puts) reads h
holds_call box lawful near number (Ask options viewer answer) old new does reads h =
    holds_ask box lawful near options number viewer answer old new does reads h

-- ==== All calls

holds_all : (box : BlackBox) → IsLawful box → (near : Positions) (number : ℕ) (calls : List MirrorCall)
    (old new : Viewing) → FoldsTo (ViewerGoes box near number) old calls new → Holds box near number old →
    Holds box near number new
holds_all box lawful near number [] old new goes h = subst (λ (w : Viewing). Holds box near number w) goes h
holds_all box lawful near number (call ∷ calls) old new goes h =
    holds_all box lawful near number calls goes.0 new goes.2
    (holds_call box lawful near number call old goes.0 goes.1.0 goes.1.1 h)

pub viewer_everywhere : (box : BlackBox) → IsLawful box → (near : Positions) → (number : ℕ) →
    (calls : List MirrorCall) → (old new : Viewing) → IsFresh old.mirror → box.is_ready old.read ≡ true →
    old.seen ≡ None → FoldsTo (ViewerGoes box near number) old calls new → ShowsLast box near new
viewer_everywhere box lawful near number calls old new fresh ready unseen goes screen e =
    ((holds_all box lawful near number calls old new goes start).shows screen e).1
  where
    start : Holds box near number old
    start = record {
      ready = ready;
      noted = λ screen e. absurd
          (none_some screen (ap
          (λ (notes : List (ℕ × ScreenValue)). note_of (record (old.mirror.viewers) { notes = notes }) number)
          (sym fresh.notes) ∙ e));
      shows = λ screen e. absurd (none_some screen (sym unseen ∙ e));
    }
