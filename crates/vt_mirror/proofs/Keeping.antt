-- Copies of screens that viewers share.
use Rattle.std.proofs.Common.{◌≡◌, ◌⊎◌, ℕ, suc, ◌≤◌, true, false, List, [], ◌∷◌, inl, inr}
use Rattle.std.proofs.Common.{Bool, Option, Some, None, refl, sym, ap, subst, ◌∙◌, arith}
use Rattle.std.proofs.lemmas.Bool.{false≢true}
use Rattle.std.specs.BTreeMap as map
use Rattle.std.specs.BTreeMap.{BTreeMap, is_at}
use Rattle.std.specs.BTreeSet as set
use Rattle.std.specs.BTreeSet.{BTreeSet}
use Rattle.std.specs.List.{list_any}
use Rattle.std.specs.Map.{lookup}
use Rattle.std.specs.Map.Calls.{RetainsPairs}
use Rattle.std.specs.Ordering.{nat_cmp}
use Rattle.std.specs.Prelude.{cond, map as list_map}
use Rattle.vt_screen.specs.Screen.{ScreenValue}
use Rattle.vt_screen.specs.declared.diff_options.DiffOptions.{DiffOptions}
use Rattle.vt_mirror.specs.Kept.{AreKept, AreOfOneVersion, AreShared, Copies, HasVersion, HaveNext, HoldsDiff}
use Rattle.vt_mirror.specs.Kept.{IsCurrentNote, IsKept, IsKeptAs, IsRedrawKeptAs, IsRenewed, KeptValue}
use Rattle.vt_mirror.specs.Kept.{no_texts, noted_at, screen_of, screens_of, without_versions}
use Rattle.vt_mirror.specs.Mirror.{AreViewers, Puts, ViewersValue, is_viewer, note_of}
use Rattle.vt_mirror.specs.declared.copies.Note.{Note}
use Rattle.vt_mirror.specs.declared.texts.KeptDiff.{KeptDiff}
use Rattle.vt_mirror.specs.declared.texts.KeptRedraw.{KeptRedraw}
use Rattle.vt_mirror.specs.declared.texts.Texts.{Texts}
use Rattle.vt_mirror.proofs.Bookkeeping.{at_other, by_number, put_viewers}

-- ---- the recorded screens and their copies

lookup_here : (b : Bool) (e : ℕ × Note) (there : Option ScreenValue) (noted : Option Note) → there ≡ screen_of noted →
    cond b (Some e.1.screen) there ≡ screen_of (cond b (Some e.1) noted)
lookup_here true e there noted same = refl
lookup_here false e there noted same = same

pub lookup_screens : (test : ℕ → Bool) (notes : List (ℕ × Note)) →
    lookup test (screens_of notes) ≡ screen_of (lookup test notes)
lookup_screens test [] = refl
lookup_screens test (e ∷ es) =
    lookup_here (test e.0) e (lookup test (screens_of es)) (lookup test es) (lookup_screens test es)

pub note_is : (viewers : ViewersValue) (notes : List (ℕ × Note)) (viewer : ℕ) →
    viewers.notes ≡ screens_of notes → note_of viewers viewer ≡ screen_of (noted_at notes viewer)
note_is viewers notes viewer e =
    ap (λ (entries : List (ℕ × ScreenValue)). lookup (is_at (nat_cmp viewer)) entries) e
    ∙ lookup_screens (is_at (nat_cmp viewer)) notes

-- ---- the copies that are kept

-- Copies stay valid if no copy is added.
pub fewer_kept : (old new : Copies) (version : ℕ) → ((note : Note) → IsKept new note → IsKept old note) →
    AreShared old version → AreShared new version
fewer_kept old new version was s = record {
  below = λ note is. s.below note (was note is);
  agree = λ one other is is_too same. s.agree one other (was one is) (was other is_too) same;
}

-- Copies stay valid if at most one copy is added and it has the next version.
pub one_more_kept : (old new : Copies) (version after : ℕ) (added : Note)
    → added.version ≡ after → after ≡ suc version
    → ((note : Note) → IsKept new note → IsKept old note ⊎ (note ≡ added))
    → AreShared old version → AreShared new after
one_more_kept old new version after added is_next next was s = record {
  below = λ note is. below_one note (was note is);
  agree = λ one other is is_too same. agree_two one other (was one is) (was other is_too) same;
} where
  below_one : (note : Note) → IsKept old note ⊎ (note ≡ added) → note.version ≤ after
  below_one note (inl is) = omega (arith, next, s.below note is)
  below_one note (inr same) = omega (arith, is_next, ap (λ (n : Note). n.version) same)

  apart : (note other : Note) → IsKept old note → other ≡ added → note.version ≡ other.version → ⊥
  apart note other is same e =
      omega (arith, next, is_next, s.below note is, e, ap (λ (n : Note). n.version) same)

  agree_two : (one other : Note) → IsKept old one ⊎ (one ≡ added) → IsKept old other ⊎ (other ≡ added) →
      AreOfOneVersion one other → one.screen ≡ other.screen
  agree_two one other (inl is) (inl is_too) same = s.agree one other is is_too same
  agree_two one other (inl is) (inr new_too) same = absurd (apart one other is new_too same.equal)
  agree_two one other (inr is_same) (inl is_too) same = absurd (apart other one is_too is_same (sym same.equal))
  agree_two one other (inr is_same) (inr new_too) same = ap (λ (n : Note). n.screen) (is_same ∙ sym new_too)

-- ---- changes of the map

same_some : {A : Type 0} (x y : A) → Some x ≡ Some y → x ≡ y
same_some x y e = cc

none_some : {A : Type 0} (x : A) → None ≡ Some x → ⊥
none_some x e = cc

-- After one viewer's note is stored or removed, every other note is one that was there before.
pub noted_after : (viewer : ℕ) (had has : BTreeMap ℕ Note) (put : Option Note) (other : ℕ) (note : Note)
    → map.UpdatesBy nat_cmp (nat_cmp viewer) had has put → noted_at has.entries other ≡ Some note
    → (noted_at had.entries other ≡ Some note) ⊎ (put ≡ Some note)
noted_after viewer had has put other note u e =
    by_number viewer other
    (λ here. inr (sym u.1 ∙ (ap (noted_at has.entries) (sym here) ∙ e)))
    (λ apart. inl (sym (u.2 other (at_other viewer other apart)) ∙ e))

-- Recording a copy of the current screen for a viewer adds no copy to those that are kept.
pub kept_put : (viewer : ℕ) (screen : ScreenValue) (had has : BTreeMap ℕ Note) (old : Copies) (put note : Note)
    → old.notes ≡ had.entries → map.UpdatesBy nat_cmp (nat_cmp viewer) had has (Some put)
    → IsCurrentNote screen old.current put
    → IsKept (record old { notes = has.entries }) note → IsKept old note
kept_put viewer screen had has old put note e u is (inl noted) =
    by_side (noted_after viewer had has (Some put) noted.0 note u noted.1) where
      by_side : (noted_at had.entries noted.0 ≡ Some note) ⊎ (Some put ≡ Some note) → IsKept old note
      by_side (inl before) = inl (noted.0, ap (λ (es : List (ℕ × Note)). noted_at es noted.0) e ∙ before)
      by_side (inr here) = inr (inl (is.kept ∙ here))
kept_put viewer screen had has old put note e u is (inr other) = inr other

-- Removing a viewer's copy adds no copy to those that are kept.
pub kept_left : (viewer : ℕ) (had has : BTreeMap ℕ Note) (old : Copies) (note : Note)
    → old.notes ≡ had.entries → map.UpdatesBy nat_cmp (nat_cmp viewer) had has None
    → IsKept (record old { notes = has.entries }) note → IsKept old note
kept_left viewer had has old note e u (inl noted) =
    by_side (noted_after viewer had has None noted.0 note u noted.1) where
      by_side : (noted_at had.entries noted.0 ≡ Some note) ⊎ (None ≡ Some note) → IsKept old note
      by_side (inl before) = inl (noted.0, ap (λ (es : List (ℕ × Note)). noted_at es noted.0) e ∙ before)
      by_side (inr never) = absurd (none_some note never)
kept_left viewer had has old note e u (inr other) = inr other

-- Copies stay valid when the copy of the current screen is made, if there was none.
pub shared_renewed : (screen : ScreenValue) (old : Copies) (version after : ℕ) (renewed : Option Note)
    → IsRenewed screen version old.current after renewed
    → AreShared old version → AreShared (record old { current = renewed }) after
shared_renewed screen old version after renewed (inl same) s =
    subst (λ (n : ℕ). AreShared (record old { current = renewed }) n) (sym same.1)
    (subst (λ (o : Option Note). AreShared (record old { current = o }) version) (sym same.0) s)
shared_renewed screen old version after renewed (inr new) s =
    one_more_kept old (record old { current = renewed }) version after new.0 new.2 new.3
    (λ note is. old_or_new note is) s where
      old_or_new : (note : Note) → IsKept (record old { current = renewed }) note → IsKept old note ⊎ (note ≡ new.0)
      old_or_new note (inl noted) = inl (inl noted)
      old_or_new note (inr (inl is)) = inr (same_some note new.0 (sym is ∙ new.1))
      old_or_new note (inr (inr diff)) = inl (inr (inr diff))

-- No diff is stored among no texts.
pub holds_none : (diff : KeptDiff) → HoldsDiff no_texts diff → ⊥
holds_none diff (inl e) = none_some diff e
holds_none diff (inr e) = none_some diff e

-- Copies stay valid when the screen changes, and its copy and the stored texts are dropped.
shared_changed : (old : Copies) (version : ℕ) → AreShared old version →
    AreShared (record { notes = old.notes; current = None; texts = no_texts }) version
shared_changed old version s =
    fewer_kept old (record { notes = old.notes; current = None; texts = no_texts }) version was s where
      was : (note : Note) → IsKept (record { notes = old.notes; current = None; texts = no_texts }) note → IsKept old note
      was note (inl noted) = inl noted
      was note (inr (inl never)) = absurd (none_some note never)
      was note (inr (inr it)) = absurd (holds_none it.0 it.1)

-- If a closure changes each value of a map and retains all entries, the result is the map with each value changed.
module _ {F K X : Type 0} (T : F → K → X → Bool → X → F → Type 0) (turn : X → X) where
  pub map_from_retain : ((f : F) (k : K) (v : X) (b : Bool) (w : X) (g : F) → T f k v b w g → (b ≡ true) × (w ≡ turn v))
      → (f : F) (es kept : List (K × X)) → RetainsPairs T f es kept → kept ≡ list_map (λ (e : K × X). (e.0, turn e.1)) es
  map_from_retain told f [] kept s = s
  map_from_retain told f (e ∷ es) kept s =
      let t = told f e.0 e.1 s.0 s.1 s.2 s.4 in
      let rest = map_from_retain told s.2 es s.3 s.5 in
      s.6 ∙ (λ j. cond (t.0 j) ((e.0, t.1 j) ∷ rest j) (rest j))

-- After versions are reset, every note has version 0.
unversioned : (test : ℕ → Bool) (notes : List (ℕ × Note)) (note : Note) →
    lookup test (without_versions notes) ≡ Some note → note.version ≡ 0
unversioned test [] note is = absurd (none_some note is)
unversioned test (e ∷ es) note is = by_test (test e.0) (unversioned test es note) is where
  by_test : (b : Bool) → (lookup test (without_versions es) ≡ Some note → note.version ≡ 0)
      → cond b (Some (record (e.1) { version = 0 })) (lookup test (without_versions es)) ≡ Some note → note.version ≡ 0
  by_test true later here = ap (λ (n : Note). n.version) (sym (same_some (record (e.1) { version = 0 }) note here))
  by_test false later there = later there

shared_anew : (notes : List (ℕ × Note)) →
    AreShared (record { notes = without_versions notes; current = None; texts = no_texts }) 0
shared_anew notes = record {
  below = λ note is. omega (arith, none note is);
  agree = λ one other is is_too same. absurd (numberless one other (none one is) same);
} where
  none : (note : Note) → IsKept (record { notes = without_versions notes; current = None; texts = no_texts }) note →
      note.version ≡ 0
  none note (inl noted) = unversioned (is_at (nat_cmp noted.0)) notes note noted.1
  none note (inr (inl never)) = absurd (none_some note never)
  none note (inr (inr it)) = absurd (holds_none it.0 it.1)

  numberless : (one other : Note) → one.version ≡ 0 → AreOfOneVersion one other → ⊥
  numberless one other zero same = omega (arith, zero, same.numbered)

pub shared_next : (old : Copies) (version after : ℕ) (renewed : List (ℕ × Note))
    → HaveNext version old.notes after renewed → AreShared old version
    → AreShared (record { notes = renewed; current = None; texts = no_texts }) after
shared_next old version after renewed (inl same) s =
    subst (λ (n : ℕ). AreShared (record { notes = renewed; current = None; texts = no_texts }) n)
    (sym same.0)
    (subst (λ (es : List (ℕ × Note)). AreShared (record { notes = es; current = None; texts = no_texts }) version)
    (sym same.1) (shared_changed old version s))
shared_next old version after renewed (inr anew) s =
    subst (λ (n : ℕ). AreShared (record { notes = renewed; current = None; texts = no_texts }) n)
    (sym anew.0)
    (subst (λ (es : List (ℕ × Note)). AreShared (record { notes = es; current = None; texts = no_texts }) 0)
    (sym anew.1) (shared_anew old.notes))

screens_without : (notes : List (ℕ × Note)) → screens_of (without_versions notes) ≡ screens_of notes
screens_without [] = refl
screens_without (e ∷ es) = ap (λ (rest : List (ℕ × ScreenValue)). (e.0, e.1.screen) ∷ rest) (screens_without es)

-- Numbering versions again leaves the recorded screens unchanged.
pub next_screens : (version : ℕ) (notes : List (ℕ × Note)) (after : ℕ) (renewed : List (ℕ × Note)) →
    HaveNext version notes after renewed → screens_of renewed ≡ screens_of notes
next_screens version notes after renewed (inl same) = ap (λ (es : List (ℕ × Note)). screens_of es) same.1
next_screens version notes after renewed (inr anew) =
    ap (λ (es : List (ℕ × Note)). screens_of es) anew.1 ∙ screens_without notes

pub next_numbered : (version : ℕ) (notes : List (ℕ × Note)) (after : ℕ) (renewed : List (ℕ × Note)) →
    HaveNext version notes after renewed → HasVersion None after
next_numbered version notes after renewed (inl same) = omega (arith, same.0, same.2)
next_numbered version notes after renewed (inr anew) = omega (arith, anew.0)

-- A copy of the current screen that was just made has a version.
pub numbered_renewed : (screen : ScreenValue) (version : ℕ) (current : Option Note) (after : ℕ) (renewed : Option Note) →
    IsRenewed screen version current after renewed → HasVersion current version → HasVersion renewed after
numbered_renewed screen version current after renewed (inl same) h =
    subst (λ (n : ℕ). HasVersion renewed n) (sym same.1)
    (subst (λ (o : Option Note). HasVersion o version) (sym same.0) h)
numbered_renewed screen version current after renewed (inr new) h =
    subst (λ (o : Option Note). HasVersion o after) (sym new.1) (omega (arith, new.2, new.3))

-- Copies stay valid when all recorded screens are dropped.
pub shared_cleared : (old : Copies) (notes : List (ℕ × Note)) (version : ℕ) → notes ≡ [] →
    AreShared old version → AreShared (record old { notes = notes }) version
shared_cleared old notes version empty s =
    fewer_kept old (record old { notes = notes }) version was s where
      was : (note : Note) → IsKept (record old { notes = notes }) note → IsKept old note
      was note (inl noted) =
          absurd (none_some note (ap (λ (entries : List (ℕ × Note)). noted_at entries noted.0) (sym empty) ∙ noted.1))
      was note (inr other) = inr other

-- Copies are valid if none is kept.
shared_none : (notes : List (ℕ × Note)) → notes ≡ [] →
    AreShared (record { notes = notes; current = None; texts = no_texts }) 0
shared_none notes empty = record {
  below = λ note is. absurd (never note is);
  agree = λ one other is is_too same. absurd (never one is);
} where
  never : (note : Note) → IsKept (record { notes = notes; current = None; texts = no_texts }) note → ⊥
  never note (inl noted) =
      none_some note (ap (λ (entries : List (ℕ × Note)). noted_at entries noted.0) (sym empty) ∙ noted.1)
  never note (inr (inl none)) = none_some note none
  never note (inr (inr it)) = holds_none it.0 it.1

pub fresh_kept : (numbers : List ℕ) (notes : List (ℕ × Note)) → numbers ≡ [] → notes ≡ [] →
    AreKept (record { last = None; numbers = numbers; notes = screens_of notes })
    (record { notes = notes; current = None; texts = no_texts }) 0
fresh_kept numbers notes e f = record {
  viewers = record {
    numbers =
        λ viewer is. absurd
        (false≢true (ap (λ (ns : List ℕ). list_any (is_at (nat_cmp viewer)) ns) (sym e) ∙ is));
    notes =
        λ viewer screen is. absurd (none_some screen
        (ap (λ (es : List (ℕ × Note)). lookup (is_at (nat_cmp viewer)) (screens_of es)) (sym f) ∙ is));
  };
  shared = shared_none notes f;
  numbered = omega arith;
}

-- The diffs that are stored after the text of a diff from the screen of a copy was stored, or could not be stored.
abbrev pub KeepsDiff : (old : Texts) → Note → DiffOptions → List ℕ → (new : Texts) → Type 0
KeepsDiff old note options text new =
    (diff : KeptDiff) → HoldsDiff new diff → HoldsDiff old diff ⊎ ((diff.from ≡ note) × IsKeptAs options text diff)

-- Copies stay valid if a diff from the screen recorded for a viewer is stored.
pub shared_texts : (old : Copies) (version viewer : ℕ) (note : Note) (options : DiffOptions) (text : List ℕ) (texts : Texts)
    → noted_at old.notes viewer ≡ Some note → KeepsDiff old.texts note options text texts
    → AreShared old version → AreShared (record old { texts = texts }) version
shared_texts old version viewer note options text texts noted kept s =
    fewer_kept old (record old { texts = texts }) version was s where
      by_side : (diff : KeptDiff) (n : Note) → diff.from ≡ n
          → HoldsDiff old.texts diff ⊎ ((diff.from ≡ note) × IsKeptAs options text diff) → IsKept old n
      by_side diff n is (inl held) = inr (inr (diff, held, is))
      by_side diff n is (inr new) = inl (viewer, noted ∙ ap (λ (x : Note). Some x) (sym new.0 ∙ is))

      was : (n : Note) → IsKept (record old { texts = texts }) n → IsKept old n
      was n (inl it) = inl it
      was n (inr (inl is)) = inr (inl is)
      was n (inr (inr it)) = by_side it.0 n it.2 (kept it.0 it.1)

-- The texts that are stored after a redraw was stored, or could not be stored.
abbrev pub KeepsRedraw : (old : Texts) (portable : Bool) (text : List ℕ) (new : Texts) → Type 0
KeepsRedraw old portable text new =
    (new ≡ old) ⊎ ((kept : KeptRedraw) × (new ≡ record old { redraw = Some kept }) × IsRedrawKeptAs portable text kept)

-- Copies stay valid if a redraw is stored.
pub shared_redrawn : (old : Copies) (version : ℕ) (portable : Bool) (text : List ℕ) (texts : Texts) →
    KeepsRedraw old.texts portable text texts → AreShared old version → AreShared (record old { texts = texts }) version
shared_redrawn old version portable text texts (inl same) s =
    subst (λ (t : Texts). AreShared (record old { texts = t }) version) (sym same) s
shared_redrawn old version portable text texts (inr it) s =
    subst (λ (t : Texts). AreShared (record old { texts = t }) version) (sym it.1)
    (fewer_kept old (record old { texts = record (old.texts) { redraw = Some it.0 } }) version (λ note is. is) s)

pub redraw_kept : (seen was : KeptValue) (new : Texts) (portable : Bool) (text : List ℕ)
    → seen ≡ was → KeepsRedraw seen.texts portable text new
    → (record seen { texts = new } ≡ was) ⊎ ((kept : KeptRedraw)
    × (record seen { texts = new } ≡ record was { texts = record (was.texts) { redraw = Some kept } })
    × IsRedrawKeptAs portable text kept)
redraw_kept seen was new portable text e (inl same) = inl (ap (λ (t : Texts). record seen { texts = t }) same ∙ e)
redraw_kept seen was new portable text e (inr it) =
    inr (
      it.0,
      ap (λ (t : Texts). record seen { texts = t }) it.1
          ∙ ap (λ (k : KeptValue). record k { texts = record (k.texts) { redraw = Some it.0 } }) e,
      it.2,
    )

-- ---- changes as a mirror sees them

pub note_put : (old : ViewersValue) (viewer : ℕ) (note : Note) (had has : BTreeMap ℕ Note)
    → old.notes ≡ screens_of had.entries → map.UpdatesBy nat_cmp (nat_cmp viewer) had has (Some note)
    → is_viewer old viewer ≡ true
    → Puts old viewer true (Some note.screen) (record old { notes = screens_of has.entries })
note_put old viewer note had has e u is =
    let new : ViewersValue = record old { notes = screens_of has.entries } in
    record {
      here = is;
      note_here = note_is new has.entries viewer refl ∙ ap screen_of u.1;
      others = λ q h. refl;
      other_notes =
          λ q h. note_is new has.entries q refl
          ∙ (ap screen_of (u.2 q (at_other viewer q h)) ∙ sym (note_is old had.entries q e));
    }

pub note_put_viewers : (old : ViewersValue) (viewer : ℕ) (note : Note) (had has : BTreeMap ℕ Note)
    → old.notes ≡ screens_of had.entries → map.UpdatesBy nat_cmp (nat_cmp viewer) had has (Some note)
    → is_viewer old viewer ≡ true → AreViewers old → AreViewers (record old { notes = screens_of has.entries })
note_put_viewers old viewer note had has e u is a =
    put_viewers old (record old { notes = screens_of has.entries }) viewer true (Some note.screen)
    (note_put old viewer note had has e u is) a (λ _. a.numbers viewer is) (omega arith)
    (λ h. absurd (false≢true (sym h)))

pub note_left : (old : ViewersValue) (viewer : ℕ) (was is : BTreeSet ℕ) (had has : BTreeMap ℕ Note)
    → old.numbers ≡ was.keys → old.notes ≡ screens_of had.entries
    → set.UpdatesBy nat_cmp (nat_cmp viewer) was is false → map.UpdatesBy nat_cmp (nat_cmp viewer) had has None
    → Puts old viewer false None (record old { numbers = is.keys; notes = screens_of has.entries })
note_left old viewer was is had has e f u w =
    let new : ViewersValue = record old { numbers = is.keys; notes = screens_of has.entries } in
    record {
      here = u.1;
      note_here = note_is new has.entries viewer refl ∙ ap screen_of w.1;
      others =
          λ q h. u.2 q (at_other viewer q h) ∙ ap (λ (keys : List ℕ). is_viewer (record old { numbers = keys }) q) (sym e);
      other_notes =
          λ q h. note_is new has.entries q refl
          ∙ (ap screen_of (w.2 q (at_other viewer q h)) ∙ sym (note_is old had.entries q f));
    }

pub note_left_viewers : (old : ViewersValue) (viewer : ℕ) (was is : BTreeSet ℕ) (had has : BTreeMap ℕ Note)
    → old.numbers ≡ was.keys → old.notes ≡ screens_of had.entries
    → set.UpdatesBy nat_cmp (nat_cmp viewer) was is false → map.UpdatesBy nat_cmp (nat_cmp viewer) had has None
    → AreViewers old → AreViewers (record old { numbers = is.keys; notes = screens_of has.entries })
note_left_viewers old viewer was is had has e f u w a =
    put_viewers old (record old { numbers = is.keys; notes = screens_of has.entries }) viewer false None
    (note_left old viewer was is had has e f u w)
    a (λ h. absurd (false≢true h)) (omega arith) (λ _. refl)

-- Viewers stay valid when all recorded screens are dropped.
pub cleared_viewers : (viewers : ViewersValue) (notes : List (ℕ × Note)) → notes ≡ [] → AreViewers viewers →
    AreViewers (record viewers { notes = screens_of notes })
cleared_viewers viewers notes empty a = record {
  numbers = λ viewer is. a.numbers viewer is;
  notes =
      λ viewer screen is. absurd (none_some screen
      (ap (λ (es : List (ℕ × Note)). lookup (is_at (nat_cmp viewer)) (screens_of es)) (sym empty) ∙ is));
}

-- ---- the kept values found for a viewer

pub found_note : (viewers : ViewersValue) (notes : List (ℕ × Note)) (viewer : ℕ) (found : Option Note) →
    viewers.notes ≡ screens_of notes → found ≡ noted_at notes viewer → screen_of found ≡ note_of viewers viewer
found_note viewers notes viewer found e is = ap screen_of is ∙ sym (note_is viewers notes viewer e)

-- If a viewer's copy has the version of a kept copy, both are copies of the same screen.
found_same : (viewers : ViewersValue) (copies : Copies) (version viewer : ℕ) (note copy : Note)
    → viewers.notes ≡ screens_of copies.notes → AreShared copies version → Some note ≡ noted_at copies.notes viewer
    → IsKept copies copy → AreOfOneVersion note copy → note_of viewers viewer ≡ Some copy.screen
found_same viewers copies version viewer note copy e s noted is same =
    sym (found_note viewers copies.notes viewer (Some note) e noted)
    ∙ ap (λ (screen : ScreenValue). Some screen) (s.agree note copy (inl (viewer, sym noted)) is same)

-- If a viewer's copy has the version of the current copy, it is a copy of the current screen.
pub found_current : (viewers : ViewersValue) (copies : Copies) (version : ℕ) (current : Option ScreenValue)
    (viewer : ℕ) (note copy : Note)
    → viewers.notes ≡ screens_of copies.notes → current ≡ screen_of copies.current → AreShared copies version
    → Some note ≡ noted_at copies.notes viewer → copies.current ≡ Some copy → AreOfOneVersion note copy
    → (screen : ScreenValue) × (note_of viewers viewer ≡ Some screen) × (current ≡ Some screen)
found_current viewers copies version current viewer note copy e f s noted is same = (
  copy.screen,
  found_same viewers copies version viewer note copy e s noted (inr (inl is)) same,
  f ∙ ap screen_of is,
)

-- If a viewer's copy has the version of a stored diff, it is a copy of the screen that the diff starts from.
pub found_diff : (viewers : ViewersValue) (copies : Copies) (version viewer : ℕ) (note : Note) (diff : KeptDiff)
    → viewers.notes ≡ screens_of copies.notes → AreShared copies version → Some note ≡ noted_at copies.notes viewer
    → HoldsDiff copies.texts diff → AreOfOneVersion note diff.from → note_of viewers viewer ≡ Some diff.from.screen
found_diff viewers copies version viewer note diff e s noted held same =
    found_same viewers copies version viewer note diff.from e s noted (inr (inr (diff, held, refl))) same

-- A stored diff starts from the screen recorded for the viewer for whom it was stored, or was stored before.
pub kept_noted : (viewers : ViewersValue) (notes : List (ℕ × Note)) (viewer : ℕ) (old new : Texts) (note : Note)
    (options : DiffOptions) (text : List ℕ)
    → viewers.notes ≡ screens_of notes → Some note ≡ noted_at notes viewer → KeepsDiff old note options text new
    → (diff : KeptDiff) → HoldsDiff new diff
    → HoldsDiff old diff ⊎ ((note_of viewers viewer ≡ Some diff.from.screen) × IsKeptAs options text diff)
kept_noted viewers notes viewer old new note options text e noted kept diff held = by_side (kept diff held) where
  by_side : HoldsDiff old diff ⊎ ((diff.from ≡ note) × IsKeptAs options text diff)
      → HoldsDiff old diff ⊎ ((note_of viewers viewer ≡ Some diff.from.screen) × IsKeptAs options text diff)
  by_side (inl before) = inl before
  by_side (inr it) =
      inr (
        sym (found_note viewers notes viewer (Some note) e noted) ∙ ap (λ (n : Note). Some n.screen) (sym it.0),
        it.1,
      )
