-- Redraws and diffs in either form have the same properties, and so has the shorter of the two.
use Rattle.std.proofs.Common.{◌≡◌, ℕ, List, [], refl, sym, ap, ◌∙◌, subst, ◌<◌, ◌≤◌, Bool, true, false, ◌∷◌, length}
use Rattle.std.proofs.Common.{length-append, arith, inl, inr}
use Rattle.std.specs.List.{AllByRecursion}
use Rattle.vt_cells.specs.Op.{bytes_of_all, ClearAttrs, EraseBelow, Hide, MoveTo, bytes_of}
use Rattle.vt_redraw.specs.Fits.{Fits}
use Rattle.vt_redraw.specs.Picture.{Picture, SamePictureSize, with_picture, with_saved}
use Rattle.vt_redraw.specs.Redraw.{difference_in, redraw_in, blank_like, script_in}
use Rattle.vt_redraw.specs.Steady.{IsSteady}
use Rattle.vt_redraw.specs.declared.form.Form.{Form}
use Rattle.vt_redraw.specs.declared.form.Form.TheVariants.{Portable, Fixed}
use Rattle.vt_redraw.specs.Doubts.{doubts_of}
use Rattle.vt_redraw.proofs.Difference.{difference_draws_in}
use Rattle.vt_redraw.proofs.Redrawing.{showing_plain, difference_self_in, redraw_draws_in, page_picture}
use Rattle.vt_redraw.proofs.Redrawing as canvas
use Rattle.vt_redraw.proofs.PictureFits.{difference_fits_in, redraw_fits_in, rows_counted}
use Rattle.vt_redraw.proofs.Saving.{difference_safe_in, redraw_safe_in}
use Rattle.vt_redraw.proofs.PortableScript.{difference_portable, redraw_portable}
use Rattle.vt_screen.specs.Again.{KeepsPlain}
use Rattle.vt_screen.specs.MadeOf.{IsMadeOf, drawing_finals, drawing_controls, shortened_controls, shortened_finals}
use Rattle.vt_screen.specs.Screen.{ScreenValue, IsScreen, IsColored, canvas_of}
use Rattle.vt_screen.specs.Shown.{IsReader, IsReaderOf, KeepsRest, Redraws, RedrawsFrom, display, display_change_in}
use Rattle.vt_screen.specs.Shown.{shown_text_in, IsSameIfEmpty}
use Rattle.vt_screen.specs.Portable.{IsPortable, IsPortableRedraw, IsPortableFrom}
use Rattle.vt_screen.specs.Internals.{HasDiffProperties, IsPlainDiff}
use Rattle.vt_screen.specs.ShortMoves.{IsMovingOrRedrawIn, IsShortMoving, IsShorterWithRedraw}
use Rattle.vt_screen.proofs.ReadRedraws.{redraws, blank_reader, one_picture, Becomes, drawing_read}
use Rattle.vt_screen.proofs.MadeOf.{made_ops, made_more}
use Rattle.vt_screen.proofs.AgainPlain.{ops_keep}
use Rattle.vt_screen.proofs.Shown.{plain_shown, shown_colored, shown_is}
use Rattle.vt_screen.proofs.PortableReads.{ops_portable, redraw_ops_portable}
use Rattle.vt_screen.proofs.MadeContents.{none_refused}

-- ==== Redraws and diffs in either form have the same properties.

-- ---- operations

pub redraw_valid : (form : Form) (self : ScreenValue) → IsScreen self → IsColored self →
    AllByRecursion Fits (redraw_in form (display self))
redraw_valid form self is colored = redraw_fits_in form (display self) (shown_is self is) (shown_colored self is colored)

pub difference_valid : (form : Form) (self prev : ScreenValue) → IsScreen self → IsColored self → IsScreen prev →
    IsColored prev → AllByRecursion Fits (difference_in form (display self) (display prev))
difference_valid form self prev is colored other colored_other =
    difference_fits_in form (display self) (display prev) (shown_is self is) (shown_colored self is colored)
    colored_other.attrs
    (rows_counted form (display prev).width (display prev).rows (shown_is prev other).rows
    (shown_colored prev other colored_other).columns)

-- ---- redraws

pub redraw_redraws_in : (form : Form) (self : ScreenValue) (text : List ℕ) → text ≡ shown_text_in form self →
    IsScreen self → IsColored self → Redraws (display self) (IsReader (display self)) KeepsRest text
redraw_redraws_in form self text told is colored =
    let picture = display self in
    redraws (IsReader picture) picture text (shown_is self is) (λ reader r. r)
    (λ steady reader r.
    let same = subst (SamePictureSize picture) (plain_shown reader r.sound r.plain) r.size in
    subst (λ (t : List ℕ). Becomes picture t reader) (sym told)
    (drawing_read (redraw_in form picture) picture reader (redraw_valid form self is colored)
    (redraw_draws_in form picture (canvas_of reader) (shown_is self is) steady
    (page_picture (canvas_of reader) r.sound.page) r.plain.page same)))

-- If the redraws of two screens are equal, both screens display the same content.
pub redraws_tell_in : (form : Form) (a b : ScreenValue) → IsScreen a → IsColored a → IsSteady (display a) →
    IsScreen b → IsColored b → IsSteady (display b) → SamePictureSize (display a) (display b) →
    shown_text_in form a ≡ shown_text_in form b → display a ≡ display b
redraws_tell_in form a b is colored steady other colored_other steady_other size e =
    let x = display a in
    let y = display b in
    let reader = blank_reader y in
    let plain = showing_plain y (shown_is b other) in
    let one = drawing_read (redraw_in form x) x reader (redraw_valid form a is colored)
    (redraw_draws_in form x (canvas.showing y) (shown_is a is) steady (shown_is b other) plain size) in
    let two = drawing_read (redraw_in form y) y reader (redraw_valid form b other colored_other)
    (redraw_draws_in form y (canvas.showing y) (shown_is b other) steady_other
    (shown_is b other) plain (record { width = refl; height = refl })) in
    one_picture x y (shown_text_in form a) (shown_text_in form b) reader one two e size refl

pub redraw_made_in : (form : Form) (screen : ScreenValue) → IsScreen screen → IsColored screen →
    IsMadeOf drawing_finals drawing_controls (shown_text_in form screen)
redraw_made_in form screen is colored = made_ops (redraw_in form (display screen)) (redraw_valid form screen is colored)

pub redraw_keeps_in : (form : Form) (screen : ScreenValue) → IsScreen screen → IsColored screen →
    KeepsPlain (shown_text_in form screen)
redraw_keeps_in form screen is colored =
    ops_keep (redraw_in form (display screen)) (redraw_valid form screen is colored) (redraw_safe_in form (display screen))

-- ---- diffs

pub difference_redraws_in : (form : Form) (self prev : ScreenValue) (text : List ℕ)
    → text ≡ display_change_in form prev self → IsScreen self → IsColored self
    → IsScreen prev → IsColored prev → SamePictureSize (display self) (display prev)
    → RedrawsFrom prev self text
difference_redraws_in form self prev text told is colored other colored_other size =
    let picture = display self in
    redraws (IsReaderOf picture (display prev)) picture text (shown_is self is) (λ reader r. r.is)
    (λ steady reader r.
    let page = plain_shown reader r.is.sound r.is.plain in
    subst (λ (t : List ℕ). Becomes picture t reader) (sym told)
    (drawing_read (difference_in form picture (display prev)) picture reader
    (difference_valid form self prev is colored other colored_other)
    (difference_draws_in form picture (display prev) (canvas_of reader) (shown_is self is)
    steady (shown_is prev other) size r.is.plain.page (sym page ∙ r.shows))))

-- If the diff between two screens is empty, both screens display the same content.
pub difference_tells_in : (form : Form) (a b : ScreenValue) → IsScreen a → IsColored a → IsSteady (display a) →
    IsScreen b → IsColored b → SamePictureSize (display a) (display b) → display_change_in form b a ≡ [] →
    display a ≡ display b
difference_tells_in form a b is colored steady other colored_other size e =
    let x = display a in
    let y = display b in
    let reader = blank_reader y in
    let plain = showing_plain y (shown_is b other) in
    let one = drawing_read (difference_in form x y) x reader
    (difference_valid form a b is colored other colored_other)
    (difference_draws_in form x y (canvas.showing y) (shown_is a is) steady (shown_is b other) size plain refl) in
    let two : Becomes y [] reader = record {
      saved = record { row = 0; column = 0; origin = reader.page.origin; attrs = reader.saved_attrs };
      last = reader.last;
      reads = refl;
    } in
    one_picture x y (display_change_in form b a) [] reader one two e size refl

-- The diff between equal pictures is empty.
pub difference_none_in : (form : Form) (a b : Picture) → a ≡ b → bytes_of_all (difference_in form a b) ≡ []
difference_none_in form a b e =
    ap (λ (x : Picture). bytes_of_all (difference_in form x b)) e ∙ ap bytes_of_all (difference_self_in form b)

pub difference_made_in : (form : Form) (screen prev : ScreenValue) → IsScreen screen → IsColored screen →
    IsScreen prev → IsColored prev → IsMadeOf drawing_finals drawing_controls (display_change_in form prev screen)
difference_made_in form screen prev is colored other colored_other =
    made_ops (difference_in form (display screen) (display prev))
    (difference_valid form screen prev is colored other colored_other)

pub difference_keeps_in : (form : Form) (screen prev : ScreenValue) → IsScreen screen → IsColored screen →
    IsScreen prev → IsColored prev → KeepsPlain (display_change_in form prev screen)
difference_keeps_in form screen prev is colored other colored_other =
    ops_keep (difference_in form (display screen) (display prev))
    (difference_valid form screen prev is colored other colored_other)
    (difference_safe_in form (display screen) (display prev))

-- ==== Portable redraws and diffs are portable.

pub redraw_is_portable : (self : ScreenValue) → IsScreen self → IsColored self → IsSteady (display self) →
    IsPortableRedraw (display self) (shown_text_in Portable self)
redraw_is_portable self is colored steady =
    let picture = display self in
    redraw_ops_portable picture (redraw_in Portable picture) (redraw_valid Portable self is colored) (λ reader doubts r.
    let canvas = canvas_of reader in
    let same = subst (SamePictureSize picture) (plain_shown reader r.sound r.plain) r.size in
    let whole = page_picture canvas r.sound.page in
    let drawn = redraw_draws_in Portable picture canvas (shown_is self is) steady whole r.plain.page same in (
      with_saved drawn.0 (with_picture picture canvas),
      (drawn.1, redraw_portable picture canvas doubts (shown_is self is) steady whole r.plain.page same),
    ))

pub difference_is_portable : (self prev : ScreenValue) → IsScreen self → IsColored self → IsScreen prev → IsColored
    prev →
    SamePictureSize (display self) (display prev) → IsSteady (display self) →
    IsPortable (display self) (display prev) (display_change_in Portable prev self)
difference_is_portable self prev is colored other colored_other size steady =
    let picture = display self in
    let before = display prev in
    ops_portable picture before (difference_in Portable picture before)
    (difference_valid Portable self prev is colored other colored_other) (λ reader r.
    let canvas = canvas_of reader in
    let shows = sym (plain_shown reader r.is.sound r.is.plain) ∙ r.shows in
    let drawn = difference_draws_in Portable picture before canvas (shown_is self is) steady (shown_is prev other) size
    r.is.plain.page shows in (
      with_saved drawn.0 (with_picture picture canvas),
      (
        drawn.1,
        difference_portable picture before canvas (shown_is self is) steady (shown_is prev other) size r.is.plain.page
            shows,
      ),
    ))

-- ==== The shorter of a scrolling diff and the redraw.

-- What holds for both outputs holds for the shorter.
either : (P : List ℕ → Type 0) (form : Form) (picture : Picture) (old new : List ℕ) →
    IsShorterWithRedraw form picture old new → P old → P (bytes_of_all (redraw_in form picture)) → P new
either P form picture old new (inl is) first second = subst P (sym is.0) first
either P form picture old new (inr is) first second = subst P (sym is.0) second

or_made : (form : Form) (self : ScreenValue) (old new : List ℕ) → IsScreen self → IsColored self →
    IsShorterWithRedraw form (display self) old new → IsMadeOf shortened_finals shortened_controls old →
    IsMadeOf shortened_finals shortened_controls new
or_made form self old new sound colored is made =
    either (IsMadeOf shortened_finals shortened_controls) form (display self) old new is made
    (made_more drawing_finals shortened_finals drawing_controls shortened_controls
    (λ x one. inr (inr (inr (inr (inr one))))) (λ x one. inr (inr one)) (shown_text_in form self)
    (redraw_made_in form self sound colored))

redraws_of : (self prev : ScreenValue) (text : List ℕ) →
    Redraws (display self) (IsReader (display self)) KeepsRest text → RedrawsFrom prev self text
redraws_of self prev text r = record {
  quiet = λ steady reader reads. r.quiet steady reader reads.is;
  shows = λ steady reader after reads. r.shows steady reader after reads.is;
  rows = λ steady reader after reads. r.rows steady reader after reads.is;
  cursor = λ steady reader after reads. r.cursor steady reader after reads.is;
  rest = λ steady reader after reads. r.rest steady reader after reads.is;
}

or_redraws : (form : Form) (self prev : ScreenValue) (old new : List ℕ) → IsScreen self → IsColored self →
    IsShorterWithRedraw form (display self) old new → RedrawsFrom prev self old → RedrawsFrom prev self new
or_redraws form self prev old new sound colored is redraws =
    either (RedrawsFrom prev self) form (display self) old new is redraws
    (redraws_of self prev (shown_text_in form self)
    (redraw_redraws_in form self (shown_text_in form self) refl sound colored))

or_portable : (form : Form) (self prev : ScreenValue) (old new : List ℕ) → IsScreen self → IsColored self →
    IsShorterWithRedraw form (display self) old new → IsPortableFrom prev self old → form ≡ Portable →
    IsPortableFrom prev self new
or_portable Fixed self prev old new sound colored is portable e = absurd cc
or_portable Portable self prev old new sound colored is portable e =
    either (IsPortableFrom prev self) Portable (display self) old new is portable
    (λ steady reader r. redraw_is_portable self sound colored steady reader (doubts_of (display prev)) r.is)

hide_len : (hidden : Bool) → length (bytes_of (Hide hidden)) ≡ 6
hide_len true = refl
hide_len false = refl

-- Every redraw begins by hiding or showing the cursor, resetting the attributes and clearing the screen.
pub redraw_least : (form : Form) (picture : Picture) → 15 ≤ length (bytes_of_all (redraw_in form picture))
unfolding redraw_in
redraw_least form picture =
    let hide = hide_len picture.hidden in
    let size = length-append (bytes_of (Hide picture.hidden))
    (bytes_of_all (ClearAttrs ∷ MoveTo 0 0 ∷ EraseBelow ∷ script_in form picture (blank_like picture))) in
    omega (arith, hide, size)

some : (form : Form) (picture : Picture) → 0 < length (bytes_of_all (redraw_in form picture))
some form picture = let least = redraw_least form picture in omega (arith, least)

or_empty : (form : Form) (self prev : ScreenValue) (old new : List ℕ) →
    IsShorterWithRedraw form (display self) old new → IsSameIfEmpty prev self old → IsSameIfEmpty prev self new
or_empty form self prev old new (inl is) same steady empty = same steady (sym is.0 ∙ empty)
or_empty form self prev old new (inr is) same steady empty =
    absurd (none_refused new empty (subst (λ (xs : List ℕ). 0 < length xs) (sym is.0) (some form (display self))))

or_none : (form : Form) (self : Picture) (old new : List ℕ) → IsShorterWithRedraw form self old new → old ≡ [] → new ≡ []
or_none form self old new (inl is) none = is.0 ∙ none
or_none form self old new (inr is) none =
    let size = ap length none in let less = is.1 in absurd (omega (arith, size, less))

-- The output is not longer than either.
or_shorter : (form : Form) (self : Picture) (old new : List ℕ) → IsShorterWithRedraw form self old new →
    length new ≤ length old
or_shorter form self old new (inl is) = let same = ap length is.0 in omega (arith, same)
or_shorter form self old new (inr is) = let less = is.1 in omega (arith, less)

or_redraw : (form : Form) (self : Picture) (old new : List ℕ) → IsShorterWithRedraw form self old new →
    length new ≤ length (bytes_of_all (redraw_in form self))
or_redraw form self old new (inl is) = let same = ap length is.0 in let less = is.1 in omega (arith, same, less)
or_redraw form self old new (inr is) = let same = ap length is.0 in omega (arith, same)

-- ---- the properties of the shorter output

-- The shorter of a scrolling diff and the redraw has the properties of both.
pub or_plain : (form : Form) (self prev : ScreenValue) (old new : List ℕ) → IsScreen self → IsColored self →
    IsShorterWithRedraw form (display self) old new → IsShortMoving form (display self) (display prev) old →
    HasDiffProperties form true prev self old → IsPlainDiff form true prev self new
or_plain form self prev old new sound colored is moving has = record {
  diff = either (IsMovingOrRedrawIn form (display self) (display prev)) form (display self) old new is (inl moving)
      (inr refl);
  redraw = λ _. or_redraw form (display self) old new is;
  has = record {
    controls = or_made form self old new sound colored is has.controls;
    again = either KeepsPlain form (display self) old new is has.again (redraw_keeps_in form self sound colored);
    shorter =
        let less = or_shorter form (display self) old new is in let long = has.shorter in omega (arith, less, long);
    redraws = or_redraws form self prev old new sound colored is has.redraws;
    empty = or_empty form self prev old new is has.empty;
    none = λ same. or_none form (display self) old new is (has.none same);
    portable = λ e. or_portable form self prev old new sound colored is (has.portable e) e;
    touches = λ _ moves. absurd (cc);
  };
}
