-- The copies and texts that viewers share, the viewers that are current, and mirrors in other threads.
use Rattle.std.proofs.Common.{◌≡◌, ◌⊎◌, ◌-◌, ℕ, Bool, true, false, List, [], Option, Some, None, inl, inr, refl, sym}
use Rattle.std.proofs.Common.{ap, subst, arith, ◌<◌, ◌&&◌, ◌||◌, ◌∷◌, ◌∙◌}
use Rattle.std.specs.Prelude.{IfSome, IsTrue, string_bytes, cond, filter}
use Rattle.std.proofs.Math.Path.{fun_ext}
use Rattle.std.proofs.lemmas.Bool.{false≢true}
use Rattle.std.proofs.lemmas.Bool.Decides.{nat_tests}
use Rattle.std.specs.BTreeMap as map
use Rattle.std.specs.BTreeMap.{BTreeMap, is_at}
use Rattle.std.specs.Cmp.{unsigned_tied}
use Rattle.std.specs.List.{list_any}
use Rattle.std.specs.Ordering.{nat_cmp}
use Rattle.std.proofs.Crossing as heap
use Rattle.std.proofs.MapsCrossing as maps
use Rattle.std.proofs.MapsCrossingOver as over
use denote.Param.Send.{AllSend, AllSync, IsSend, IsSync, recorded_send, recorded_sync, sendable, struct_send}
use denote.Param.Send.{struct_sync, view_send, view_sync}
use denote.Struct.Declared.{fields, shape}
use denote.Struct.Struct.{Struct}
use Rattle.vt_grid.specs.Page.{SameSize}
use Rattle.vt_redraw.specs.Steady.{IsSteady}
use Rattle.vt_redraw.specs.declared.form.Form.{Form}
use Rattle.vt_redraw.specs.declared.form.Form.TheVariants.{Portable}
use Rattle.vt_screen.specs.Again.{KeepsPlain}
use Rattle.vt_screen.specs.Diffs.{IsDiff, diff_controls, diff_finals, finals_with, form_with}
use Rattle.vt_screen.specs.MadeOf.{IsMadeOf, drawing_controls, drawing_finals}
use Rattle.vt_screen.specs.Portable.{IsPortableAnywhere}
use Rattle.vt_screen.specs.Screen.{IsColored, IsScreen, ScreenValue}
use Rattle.vt_screen.specs.Shown.{IsReader, KeepsRest, Redraws, display, display_change, form_of, shown_text_in}
use Rattle.vt_screen.specs.declared.diff_options.DiffOptions.{DiffOptions}
use Rattle.vt_screen.proofs.ReadRedraws.{difference_redraws, difference_none}
use Rattle.vt_screen.proofs.AgainForms.{difference_none_in}
use Rattle.vt_screen.proofs.MadeOf.{made_nothing}
use Rattle.vt_screen.proofs.AgainPlain.{difference_keeps}
use Rattle.vt_screen.proofs.RepeatRead.{repeats_itself}
use Rattle.vt_screen.proofs.RepeatDiffs.{to_may_repeat}
use Rattle.vt_screen.proofs.TouchReads.{difference_touches}
use Rattle.vt_screen.proofs.Shown.{same_shown}
use Rattle.vt_screen.proofs.screen.Screen.TheSendSync as screen
use Rattle.vt100.specs.Parser.{ParserValue}
use Rattle.vt100.proofs.parser.Parser.TheSendSync as parser
use Rattle.vt_mirror.specs.Calls.{IsDiffFor}
use Rattle.vt_mirror.specs.Kept.{HoldsDiff, IsKeptAs, IsRedrawKeptAs, KeptValue, no_texts, AreTexts, IsRedraw}
use Rattle.vt_mirror.specs.Kept.{IsSharing, AreShared, Copies, HasVersion, IsCurrentNote, IsRenewed, current_in}
use Rattle.vt_mirror.specs.Kept.{have_one_version, is_of_current, noted_at, screen_of, screens_of}
use Rattle.vt_mirror.specs.Mirror.{IsMirror, note_of, AreViewers, PutsAmong, ViewersValue, is_among, is_viewer}
use Rattle.vt_mirror.specs.declared.texts.KeptDiff.{KeptDiff}
use Rattle.vt_mirror.specs.declared.texts.KeptRedraw.{KeptRedraw}
use Rattle.vt_mirror.specs.declared.copies.Note.{Note}
use Rattle.vt_mirror.specs.declared.texts.Texts.{Texts}
use Rattle.vt_mirror.specs.contracts.copies.DisplayCopy.{the_row as display_row}
use Rattle.vt_mirror.specs.contracts.copies.DisplayCopy.TheInside as display
use Rattle.vt_mirror.specs.contracts.copies.SharedCopy.{the_row as shared_row}
use Rattle.vt_mirror.specs.contracts.copies.SharedCopy.TheInside as shared
use Rattle.vt_mirror.specs.contracts.copies.Note as Note
use Rattle.vt_mirror.specs.contracts.texts.KeptDiff as KeptDiff
use Rattle.vt_mirror.specs.contracts.texts.Texts as Texts
use Rattle.vt_mirror.specs.contracts.viewers.Viewers.{the_row as viewers_row}
use Rattle.vt_mirror.specs.contracts.viewers.Viewers.TheInside as viewers
use Rattle.vt_mirror.specs.contracts.mirror.Mirror.{the_row as mirror_row}
use Rattle.vt_mirror.specs.contracts.mirror.Mirror.TheInside as mirror
use Rattle.vt_mirror.proofs.Keeping.{holds_none, note_is}
use Rattle.vt_mirror.proofs.Bookkeeping.{noted_none, noted_parser, own_size, at_other, same_number}

-- ==== The copies and stored texts of a mirror stay valid in each call.

-- ---- the diff of a screen from itself is empty

none_in : (form : Form) (scroll : Bool) (self : ScreenValue) → IsDiff form scroll self self []
none_in form true self = inl (record {
  plain = [];
  moving = inl (inl (sym (difference_none_in form (display self) (display self) refl)));
  short = record { same = λ reader is_reader. refl; shorter = omega arith };
})
none_in form false self = sym (difference_none_in form (display self) (display self) refl)

pub none_for : (options : DiffOptions) (self : ScreenValue) → IsScreen self → IsColored self →
    (options.scroll ≡ true → IsSteady (display self)) → IsDiffFor options self self []
none_for options self is colored steady =
    let none : [] ≡ display_change self self = sym (difference_none (display self) (display self) refl) in
    let size = same_shown self self (own_size self.page) in
    let again : KeepsPlain [] = subst KeepsPlain (sym none) (difference_keeps self self is colored colored) in
    record {
      size = own_size self.page;
      from_steady = steady;
      is = record {
        plain = [];
        diff = none_in (form_with options) options.scroll self;
        controls = made_nothing (diff_finals options.scroll) (diff_controls options.scroll);
        again = again;
        touches = λ _ _ steady. difference_touches self self [] none is colored steady is colored size;
        repeats =
            to_may_repeat options.repeat self [] []
            (repeats_itself options.repeat self.page.width (self.page.width - self.page.column) []);
      };
      controls = made_nothing (finals_with options.repeat options.scroll) (diff_controls options.scroll);
      rows = λ reader reads. tt;
      again = λ reader sound plain. again reader plain;
      shorter = omega arith;
      redraw = λ moves. omega arith;
      redraws = difference_redraws self self [] none is colored is colored size;
      empty = λ _ _. refl;
      none = λ _. refl;
      portable = λ asked steady reader reads. tt;
    }

-- ---- the kept values

abbrev pub CopiesScreen : ParserValue (Unit {0}) → Option ScreenValue → Type 0
CopiesScreen parser o = IfSome o (λ screen. screen ≡ parser.screen)

abbrev HasRedraw : ScreenValue → Option KeptRedraw → Type 0
HasRedraw self o = IfSome o (λ redraw. IsRedraw (form_of redraw.portable) self (string_bytes redraw.text))

-- The stored texts are valid if there are none.
no_texts_are : (self : ScreenValue) → AreTexts self no_texts
no_texts_are self = record { diffs = λ diff held. absurd (holds_none diff held); redraw = tt }

-- If the form is the portable one, portable output was requested.
is_portable : (portable : Bool) → form_of portable ≡ Portable → IsTrue portable
is_portable true e = refl
is_portable false e = absurd cc

-- The text of `Screen::contents_formatted_with` is a redraw.
pub redraw_of : (portable : Bool) (self : ScreenValue) (text : List ℕ) → text ≡ shown_text_in (form_of portable) self
    → Redraws (display self) (IsReader (display self)) KeepsRest text
    → IsMadeOf drawing_finals drawing_controls text → KeepsPlain text → (IsTrue portable → IsPortableAnywhere self text)
    → IsRedraw (form_of portable) self text
redraw_of portable self text is redraws controls again asked = record {
  is = is;
  redraws = redraws;
  controls = controls;
  again = again;
  portable = λ e. asked (is_portable portable e);
}

-- The copies and texts of a mirror stay valid after a redraw is stored, or if nothing changes.
pub sharing_redrawn : (parser : ParserValue (Unit {0})) (old new : KeptValue) (portable : Bool) (text : List ℕ)
    → (new ≡ old) ⊎ ((kept : KeptRedraw) × (new ≡ record old { texts = record (old.texts) { redraw = Some kept } })
    × IsRedrawKeptAs portable text kept)
    → IsRedraw (form_of portable) parser.screen text → IsSharing parser old → IsSharing parser new
sharing_redrawn parser old new portable text (inl same) is s = subst (λ (k : KeptValue). IsSharing parser k) (sym same) s
sharing_redrawn parser old new portable text (inr it) is s =
    subst (λ (k : KeptValue). IsSharing parser k) (sym it.1) (record {
      sized = s.sized;
      current = s.current;
      texts = record {
        diffs = s.texts.diffs;
        redraw =
            subst (λ (b : Bool). IsRedraw (form_of b) parser.screen (string_bytes it.0.text)) (sym it.2.form_is)
            (subst (IsRedraw (form_of portable) parser.screen) (sym it.2.text_is) is);
      };
    })

-- A stored redraw in the requested form is the redraw of the screen in that form.
pub shared_redraw : (parser : ParserValue (Unit {0})) (kept : KeptValue) (portable : Bool) (text : List ℕ)
    (redraw : KeptRedraw) → kept.texts.redraw ≡ Some redraw → IsRedrawKeptAs portable text redraw → IsSharing parser kept →
    IsRedraw (form_of portable) parser.screen text
shared_redraw parser kept portable text redraw e kept_as s =
    subst (λ (b : Bool). IsRedraw (form_of b) parser.screen text) kept_as.form_is
    (subst (IsRedraw (form_of redraw.portable) parser.screen) kept_as.text_is
    (subst (HasRedraw parser.screen) e s.texts.redraw))

-- The copies and texts of a mirror stay valid after the screen changes but keeps its size.
pub sharing_changed : (parser after : ParserValue (Unit {0})) (old new : KeptValue)
    → new ≡ record old { current = None; texts = no_texts; current_viewers = [] }
    → SameSize after.screen.page parser.screen.page → IsSharing parser old → IsSharing after new
sharing_changed parser after old new e size s =
    subst (λ (k : KeptValue). IsSharing after k) (sym e) (record {
      sized =
          noted_parser (record { parser = parser; viewers = old.viewers; current = old.current_viewers })
          (record { parser = after; viewers = old.viewers; current = [] }) refl size s.sized;
      current = tt;
      texts = no_texts_are after.screen;
    })

-- The copies and texts of a mirror stay valid after the screen and its size change.
pub sharing_resized : (after : ParserValue (Unit {0})) (old new : KeptValue)
    → new ≡ record {
      viewers = record (old.viewers) { notes = [] };
      current = None;
      texts = no_texts;
      current_viewers = [];
    }
    → IsSharing after new
sharing_resized after old new e =
    subst (λ (k : KeptValue). IsSharing after k) (sym e) (record {
      sized = noted_none (record { parser = after; viewers = record (old.viewers) { notes = [] }; current = [] }) refl;
      current = tt;
      texts = no_texts_are after.screen;
    })

-- The copies and texts of a mirror stay valid if the parser is unchanged.
pub sharing_parser : (parser after : ParserValue (Unit {0})) (kept : KeptValue) → after ≡ parser →
    IsSharing parser kept → IsSharing after kept
sharing_parser parser after kept same s = subst (λ (p : ParserValue (Unit {0})). IsSharing p kept) (sym same) s

-- The copies and texts of a mirror stay valid after viewers join or leave.
pub sharing_viewers : (parser : ParserValue (Unit {0})) (old new : KeptValue)
    → new ≡ record old { viewers = new.viewers; current_viewers = new.current_viewers }
    → IsMirror (record { parser = parser; viewers = new.viewers; current = new.current_viewers }) → IsSharing parser old → IsSharing parser new
sharing_viewers parser old new e sized s = record {
  sized = sized;
  current = subst (CopiesScreen parser) (sym (ap (λ (k : KeptValue). k.current) e)) s.current;
  texts = subst (AreTexts parser.screen) (sym (ap (λ (k : KeptValue). k.texts) e)) s.texts;
}

-- The copies and texts of a mirror stay valid after the current screen is recorded for a viewer.
pub sharing_noted : (parser : ParserValue (Unit {0})) (old new : KeptValue)
    → IsMirror (record { parser = parser; viewers = new.viewers; current = new.current_viewers }) → CopiesScreen parser new.current
    → new.texts ≡ old.texts → IsSharing parser old → IsSharing parser new
sharing_noted parser old new sized current e s =
    record { sized = sized; current = current; texts = subst (AreTexts parser.screen) (sym e) s.texts }

-- The copies and texts of a mirror stay valid after a diff from the screen recorded for a viewer is stored.
pub sharing_kept : (parser : ParserValue (Unit {0})) (old new : KeptValue) (viewer : ℕ) (options : DiffOptions)
    (text : List ℕ) → new ≡ record old { texts = new.texts } → new.texts.redraw ≡ old.texts.redraw
    → ((diff : KeptDiff) → HoldsDiff new.texts diff → HoldsDiff old.texts diff
    ⊎ ((note_of old.viewers viewer ≡ Some diff.from.screen) × IsKeptAs options text diff))
    → ((screen : ScreenValue) → note_of old.viewers viewer ≡ Some screen → IsDiffFor options parser.screen screen text)
    → IsSharing parser old → IsSharing parser new
sharing_kept parser old new viewer options text e f kept is s =
    subst (λ (k : KeptValue). IsSharing parser k) (sym e) (record {
      sized = s.sized;
      current = s.current;
      texts = record {
        diffs = λ diff held. by_side diff (kept diff held);
        redraw = subst (HasRedraw parser.screen) (sym f) s.texts.redraw;
      };
    }) where
      by_side : (diff : KeptDiff)
          → HoldsDiff old.texts diff ⊎ ((note_of old.viewers viewer ≡ Some diff.from.screen) × IsKeptAs options text diff)
          → IsDiffFor diff.options parser.screen diff.from.screen (string_bytes diff.text)
      by_side diff (inl held) = s.texts.diffs diff held
      by_side diff (inr it) =
          subst (λ (o : DiffOptions). IsDiffFor o parser.screen diff.from.screen (string_bytes diff.text))
          (sym it.1.options_are)
          (subst (IsDiffFor options parser.screen diff.from.screen) (sym it.1.text_is) (is diff.from.screen it.0))

-- A stored diff with the requested options is a diff with these options.
pub shared_diff : (parser : ParserValue (Unit {0})) (kept : KeptValue) (options : DiffOptions) (text : List ℕ)
    (diff : KeptDiff) → HoldsDiff kept.texts diff → IsKeptAs options text diff → IsSharing parser kept →
    IsDiffFor options parser.screen diff.from.screen text
shared_diff parser kept options text diff held kept_as s =
    subst (λ (o : DiffOptions). IsDiffFor o parser.screen diff.from.screen text) kept_as.options_are
    (subst (IsDiffFor diff.options parser.screen diff.from.screen) kept_as.text_is (s.texts.diffs diff held))

-- ==== The viewers that are current: those that received an update since the screen last changed.

-- ---- numbers that pass a test

same_at : (v q : ℕ) → is_at (nat_cmp v) q ≡ true → v ≡ q
same_at v q e = same_number v q (sym (unsigned_tied v q) ∙ e)

any_first : (b : Bool) (test : ℕ → Bool) (x : ℕ) (rest : List ℕ) →
    list_any test (cond b (x ∷ rest) rest) ≡ cond b (test x || list_any test rest) (list_any test rest)
any_first true test x rest = refl
any_first false test x rest = refl

one_number : (b here rest is found : Bool) → found ≡ (rest && is) → (here ≡ true → is ≡ b) →
    cond b (here || found) found ≡ ((here || rest) && is)
one_number true true rest is found e same = sym (same refl)
one_number true false rest is found e same = e
one_number false true true is found e same = e
one_number false true false is found e same = e ∙ sym (same refl)
one_number false false rest is found e same = e

among : (p : ℕ → Bool) (numbers : List ℕ) (viewer : ℕ) →
    list_any (is_at (nat_cmp viewer)) (filter p numbers) ≡ (list_any (is_at (nat_cmp viewer)) numbers && p viewer)
among p [] viewer = refl
among p (x ∷ xs) viewer =
    any_first (p x) (is_at (nat_cmp viewer)) x (filter p xs)
    ∙ one_number (p x) (is_at (nat_cmp viewer) x) (list_any (is_at (nat_cmp viewer)) xs) (p viewer)
    (list_any (is_at (nat_cmp viewer)) (filter p xs)) (among p xs viewer)
    (λ here. ap p (same_at viewer x here))

none_of : (numbers : List ℕ) → filter (λ _. false) numbers ≡ []
none_of [] = refl
none_of (x ∷ xs) = none_of xs

-- ---- a viewer is current if a copy of the current screen is noted for it

pub no_current : (current : Option Note) → is_of_current current None ≡ false
no_current None = refl
no_current (Some copy) = refl

noted_current : (current note : Option Note) → is_of_current current note ≡ true → (n : Note) × (note ≡ Some n)
noted_current None other e = absurd (false≢true e)
noted_current (Some copy) None e = absurd (false≢true e)
noted_current (Some copy) (Some n) e = (n, refl)

both : (a p : Bool) → (p ≡ true → a ≡ true) → (a && p) ≡ p
both true p f = refl
both false true f = f refl
both false false f = refl

pub current_is : (viewers : ViewersValue) (notes : List (ℕ × Note)) (current : Option Note) (viewer : ℕ)
    → AreViewers viewers → viewers.notes ≡ screens_of notes
    → list_any (is_at (nat_cmp viewer)) (current_in viewers.numbers notes current)
    ≡ is_of_current current (noted_at notes viewer)
current_is viewers notes current viewer a e =
    among (λ v. is_of_current current (noted_at notes v)) viewers.numbers viewer
    ∙ both (is_viewer viewers viewer) (is_of_current current (noted_at notes viewer)) views where
      views : is_of_current current (noted_at notes viewer) ≡ true → is_viewer viewers viewer ≡ true
      views is =
          let noted = noted_current current (noted_at notes viewer) is in
          a.notes viewer noted.0.screen (note_is viewers notes viewer e ∙ ap screen_of noted.1)

-- Whether the code finds a viewer current agrees with the model of the mirror.
pub seen_current : (viewers : ViewersValue) (notes : List (ℕ × Note)) (current : Option Note) (seen : List ℕ)
    (viewer : ℕ) (found : Option Note)
    → AreViewers viewers → viewers.notes ≡ screens_of notes
    → current_in viewers.numbers notes current ≡ seen → found ≡ noted_at notes viewer
    → is_of_current current found ≡ is_among seen viewer
seen_current viewers notes current seen viewer found a e is noted =
    ap (λ (o : Option Note). is_of_current current o) noted
    ∙ (sym (current_is viewers notes current viewer a e)
    ∙ ap (λ (numbers : List ℕ). list_any (is_at (nat_cmp viewer)) numbers) is)

-- ---- and what becomes of it

-- The kept values after the screen changed: neither the copy of the current screen nor a text is kept.
abbrev kept_after : ViewersValue → Texts → List ℕ → KeptValue
kept_after viewers texts current_viewers =
    record { viewers = viewers; current = None; texts = texts; current_viewers = current_viewers }

pub kept_changed : (viewers : ViewersValue) (notes : List (ℕ × Note)) (seen : ViewersValue) (texts : Texts)
    → record viewers { notes = screens_of notes } ≡ seen → texts ≡ no_texts
    → kept_after (record viewers { notes = screens_of notes }) texts (current_in viewers.numbers notes None)
    ≡ kept_after seen no_texts []
kept_changed viewers notes seen texts e f = λ j. kept_after (e j) (f j) (none_of viewers.numbers j)

own_version : (note : Note) → 0 < note.version → have_one_version note note ≡ true
own_version note numbered = grind (arith, nat_tests, numbered)

older : (note copy : Note) → note.version < copy.version → have_one_version note copy ≡ false
older note copy less = grind (arith, nat_tests, less)

-- Making a copy of the current screen doesn't change which viewers are current.
renewed_at : (screen : ScreenValue) (copies : Copies) (version after : ℕ) (renewed : Option Note)
    → IsRenewed screen version copies.current after renewed → AreShared copies version → (viewer : ℕ)
    → is_of_current renewed (noted_at copies.notes viewer) ≡ is_of_current copies.current (noted_at copies.notes viewer)
renewed_at screen copies version after renewed (inl same) s viewer =
    ap (λ (o : Option Note). is_of_current o (noted_at copies.notes viewer)) same.0
renewed_at screen copies version after renewed (inr new) s viewer =
    ap (λ (o : Option Note). is_of_current o (noted_at copies.notes viewer)) new.1
    ∙ (by_note (noted_at copies.notes viewer) refl
    ∙ ap (λ (o : Option Note). is_of_current o (noted_at copies.notes viewer)) (sym new.5)) where
      by_note : (o : Option Note) → noted_at copies.notes viewer ≡ o → is_of_current (Some new.0) o ≡ false
      by_note None is = refl
      by_note (Some note) is =
          older note new.0 (omega (arith, s.below note (inl (viewer, is)), new.2, new.3))

pub current_renewed : (numbers : List ℕ) (screen : ScreenValue) (copies : Copies) (version after : ℕ)
    (renewed : Option Note)
    → IsRenewed screen version copies.current after renewed → AreShared copies version
    → current_in numbers copies.notes renewed ≡ current_in numbers copies.notes copies.current
current_renewed numbers screen copies version after renewed is s =
    ap (λ (test : ℕ → Bool). filter test numbers) (fun_ext (renewed_at screen copies version after renewed is s))

-- After a copy of the current screen is recorded for a viewer, this viewer is current, and the other viewers are as
-- before.
pub current_put : (old : List ℕ) (before after : ViewersValue) (had has : BTreeMap ℕ Note) (copies : Copies)
    (viewer : ℕ) (screen : ScreenValue) (version later : ℕ) (renewed : Option Note) (put : Note) (new : List ℕ)
    → AreViewers before → before.notes ≡ screens_of had.entries → AreViewers after → after.notes ≡ screens_of has.entries
    → copies.notes ≡ had.entries → map.UpdatesBy nat_cmp (nat_cmp viewer) had has (Some put)
    → IsRenewed screen version copies.current later renewed → AreShared copies version
    → IsCurrentNote screen renewed put → HasVersion renewed later
    → current_in before.numbers had.entries copies.current ≡ old
    → current_in after.numbers has.entries renewed ≡ new
    → PutsAmong old viewer true new
current_put old before after had has copies viewer screen version later renewed put new a e b f same u is s note numbered
    was becomes = record {
      here =
          sym (seen_current after has.entries renewed new viewer (Some put) b f becomes (sym u.1))
          ∙ (ap (λ (o : Option Note). is_of_current o (Some put)) note.kept
          ∙ own_version put (subst (λ (o : Option Note). HasVersion o later) note.kept numbered));
      others =
          λ other apart. sym (seen_current after has.entries renewed new other (noted_at had.entries other) b f becomes
          (sym (u.2 other (at_other viewer other apart))))
          ∙ (ap (λ (es : List (ℕ × Note)). is_of_current renewed (noted_at es other)) (sym same)
          ∙ (renewed_at screen copies version later renewed is s other
          ∙ (ap (λ (es : List (ℕ × Note)). is_of_current copies.current (noted_at es other)) same
          ∙ seen_current before had.entries copies.current old other (noted_at had.entries other) a e was refl)));
    }

-- After a viewer leaves, it is no longer current, and the other viewers are as before.
pub current_left : (old : List ℕ) (before after : ViewersValue) (had has : BTreeMap ℕ Note) (current : Option Note)
    (viewer : ℕ) (new : List ℕ)
    → AreViewers before → before.notes ≡ screens_of had.entries → AreViewers after → after.notes ≡ screens_of has.entries
    → map.UpdatesBy nat_cmp (nat_cmp viewer) had has None
    → current_in before.numbers had.entries current ≡ old
    → current_in after.numbers has.entries current ≡ new
    → PutsAmong old viewer false new
current_left old before after had has current viewer new a e b f u was becomes = record {
  here = sym (seen_current after has.entries current new viewer None b f becomes (sym u.1)) ∙ no_current current;
  others =
      λ other apart. sym (seen_current after has.entries current new other (noted_at had.entries other) b f becomes
      (sym (u.2 other (at_other viewer other apart))))
      ∙ seen_current before had.entries current old other (noted_at had.entries other) a e was refl;
}

-- After a viewer joins, the same viewers are current as before.
pub current_joined : (old : List ℕ) (before after : ViewersValue) (notes : List (ℕ × Note)) (current : Option Note)
    (new : List ℕ)
    → AreViewers before → before.notes ≡ screens_of notes → AreViewers after → after.notes ≡ screens_of notes
    → current_in before.numbers notes current ≡ old
    → current_in after.numbers notes current ≡ new
    → (viewer : ℕ) → is_among new viewer ≡ is_among old viewer
current_joined old before after notes current new a e b f was becomes viewer =
    sym (seen_current after notes current new viewer (noted_at notes viewer) b f becomes refl)
    ∙ seen_current before notes current old viewer (noted_at notes viewer) a e was refl

-- ==== A mirror may be sent to another thread. The proof goes field by field, because a `search` through all fields
-- runs out of steps.

ruleset crossing = (sendable, heap.crosses, maps.crosses, over.crosses)

display_send : IsSend display_row
display_send =
    let all : AllSend (fields display.the_type) = (search crossing depth 20, (screen.the_send, (search crossing depth 20, tt))) in
    view_send _ _ _ _ _ (recorded_send _ _ _ (display.the_type).to_one (struct_send (shape display.the_type) all))

display_sync : IsSync display_row
display_sync =
    let all : AllSync (fields display.the_type) = (search crossing depth 20, (screen.the_sync, (search crossing depth 20, tt))) in
    view_sync _ _ _ _ _ (recorded_sync _ _ _ (display.the_type).to_one (struct_sync (shape display.the_type) all))

shared_send : IsSend shared_row
shared_send =
    let all : AllSend (fields shared.the_type) = (heap.Arc-send display_row display_send display_sync, tt) in
    view_send _ _ _ _ _ (recorded_send _ _ _ (shared.the_type).to_one (struct_send (shape shared.the_type) all))

note_send : IsSend (Struct (shape Note.the_type))
note_send =
    let all : AllSend (fields Note.the_type) = (search crossing depth 20, (shared_send, tt)) in
    struct_send (shape Note.the_type) all

kept_send : IsSend (Struct (shape KeptDiff.the_type))
kept_send =
    let all : AllSend (fields KeptDiff.the_type) = (note_send, (search crossing depth 20, (search crossing depth 20, tt))) in
    struct_send (shape KeptDiff.the_type) all

texts_send : IsSend (Struct (shape Texts.the_type))
texts_send =
    let a = kept_send in
    let all : AllSend (fields Texts.the_type) =
    (search crossing depth 20, (search crossing depth 20, (search crossing depth 20, tt))) in
    struct_send (shape Texts.the_type) all

viewers_send : IsSend viewers_row
viewers_send =
    let a = note_send in
    let all : AllSend (fields viewers.the_type) = (
      search crossing depth 20,
      (
        search crossing depth 20,
        (
          search crossing depth 20,
          (
            search crossing depth 20,
            (search crossing depth 20, (texts_send, tt)),
          ),
        ),
      ),
    ) in
    view_send _ _ _ _ _ (recorded_send _ _ _ (viewers.the_type).to_one (struct_send (shape viewers.the_type) all))

pub mirror_send : IsSend mirror_row
mirror_send =
    let all : AllSend (fields mirror.the_type) = (
      search crossing depth 20,
      (search (crossing, parser.the_send) depth 20, (viewers_send, tt)),
    ) in
    view_send _ _ _ _ _ (recorded_send _ _ _ (mirror.the_type).to_one (struct_send (shape mirror.the_type) all))
