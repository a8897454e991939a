-- A plain terminal that reads a redraw, a diff or a chain of them displays the screen.
use Rattle.std.proofs.Common.{◌≡◌, ℕ, List, Option, Some, sym, ap, subst, ◌∙◌, refl, arith, [], ◌∷◌, ◌++◌, length}
use Rattle.std.specs.List.{AllByRecursion}
use Rattle.std.proofs.lemmas.List.Elements.{recursion_from_All}
use Rattle.std.specs.Prelude.{map}
use Rattle.vt_cells.specs.Op.{Op, bytes_of_all}
use Rattle.vt_cells.proofs.Texts.{bytes_of_all-append}
use Rattle.vt_rows.specs.Row.{RowValue, IsRow}
use Rattle.vt_scan.specs.Automaton.{start}
use Rattle.vt_grid.specs.Canvas.{drawn_all}
use Rattle.vt_redraw.specs.Fits.{Fits}
use Rattle.vt_redraw.specs.Picture.{Picture, SamePictureSize, Saved, with_picture, with_saved, IsPicture, cut_rows}
use Rattle.vt_redraw.specs.Picture.{picture_of, with_cursor_of}
use Rattle.vt_redraw.specs.Redraw.{redraw, difference, cursor_state, differences, last_picture}
use Rattle.vt_redraw.specs.Steady.{IsSteady, IsOfSize}
use Rattle.vt_redraw.proofs.Difference.{difference_draws, flags_end_of, cursor_state_draws}
use Rattle.vt_redraw.proofs.PictureFits.{difference_fits, redraw_fits, cursor_state_fits}
use Rattle.vt_redraw.proofs.Redrawing.{redraw_draws, page_picture, showing_plain, difference_self, chain_draws}
use Rattle.vt_redraw.proofs.Viewing.{cut_same}
use Rattle.vt_redraw.proofs.Redrawing as canvas
use Rattle.vt_screen.specs.Reading.{Terminal, terminal, terminal_after}
use Rattle.vt_screen.specs.Screen.{ScreenValue, IsScreen, IsColored, canvas_of, above_page, fresh_screen, with_canvas}
use Rattle.vt_screen.specs.Shown.{IsReader, IsReaderOf, ReadsTo, display, reader_with_display, IsPlain, ShowsPlainly}
use Rattle.vt_screen.specs.Shown.{HasRows, HasCursor, KeepsRest, Redraws, RedrawsFrom, display_change, shown_text}
use Rattle.vt_screen.specs.Shown.{IsReaderOfRows, TakesCursor, Turns}
use Rattle.vt_screen.specs.Chain.{CanShowOn, chain_text, last_screen, texts_after}
use Rattle.vt_screen.proofs.ReadOperations.{reads_all}
use Rattle.vt_screen.proofs.Shown.{plain_shown, shown_colored, shown_is, none_above, shown_height}

-- ==== A plain terminal that reads a redraw or a diff displays the screen.

-- After reading, the terminal displays the picture; only the saved state and the last character are unspecified.
pub record Became (picture : Picture) (reader after : ScreenValue) : Type 0 where
  pub saved : Saved
  pub last : Option ℕ
  pub is : after ≡ reader_with_display picture saved last reader

-- After reading the output, the terminal displays the picture.
pub record Becomes (picture : Picture) (text : List ℕ) (reader : ScreenValue) : Type 0 where
  pub saved : Saved
  pub last : Option ℕ
  pub reads : ReadsTo text reader (reader_with_display picture saved last reader)

-- Reading operations that draw a picture on a terminal's canvas makes the terminal display it.
pub drawing_read : (ops : List Op) (picture : Picture) (reader : ScreenValue) → AllByRecursion Fits ops
    → (saved : Saved)
    × (drawn_all ops (canvas_of reader) ≡ Some (with_saved saved (with_picture picture (canvas_of reader))))
    → Becomes picture (bytes_of_all ops) reader
drawing_read ops picture reader fits draws =
    let reads = reads_all ops reader (with_saved draws.0 (with_picture picture (canvas_of reader))) fits draws.1 in
    record { saved = draws.0; last = reads.0; reads = reads.1 }

pub redraw_read : (self reader : ScreenValue) → IsScreen self → IsColored self → IsSteady (display self) →
    IsReader (display self) reader → Becomes (display self) (bytes_of_all (redraw (display self))) reader
redraw_read self reader is colored steady r =
    let picture = display self in
    let page = plain_shown reader r.sound r.plain in
    let same = subst (SamePictureSize picture) page r.size in
    drawing_read (redraw picture) picture reader
    (redraw_fits picture (shown_is self is) (shown_colored self is colored))
    (redraw_draws picture (canvas_of reader) (shown_is self is) steady
    (page_picture (canvas_of reader) r.sound.page) r.plain.page same)

pub difference_read : (self prev reader : ScreenValue) → IsScreen self
    → IsColored self → IsSteady (display self) → IsScreen prev → IsColored prev
    → SamePictureSize (display self) (display prev) → IsReaderOf (display self) (display prev) reader
    → Becomes (display self) (bytes_of_all (difference (display self) (display prev))) reader
difference_read self prev reader is colored steady other colored_other size r =
    let picture = display self in
    let page = plain_shown reader r.is.sound r.is.plain in
    drawing_read (difference picture (display prev)) picture reader
    (difference_fits picture (display prev) (shown_is self is) (shown_colored self is colored) colored_other.attrs)
    (difference_draws picture (display prev) (canvas_of reader) (shown_is self is)
    steady (shown_is prev other) size r.is.plain.page (sym page ∙ r.shows))

-- ---- the consequences for each terminal

same_some : {A : Type 0} (x y : A) → Some x ≡ Some y → x ≡ y
same_some x y e = cc

screen_of : Terminal → ScreenValue
screen_of t = t.screen

pub became : (picture : Picture) (text : List ℕ) (reader after : ScreenValue) →
    Becomes picture text reader → ReadsTo text reader after → Became picture reader after
became picture text reader after b reads = record {
  saved = b.saved;
  last = b.last;
  is =
      ap (λ (t : Terminal). t.screen)
      (same_some (terminal start after) (terminal start (reader_with_display picture b.saved b.last reader)) (sym reads ∙ b.reads));
}

-- ==== The terminal that displays a picture after a redraw, part by part; also, equal output comes from equal pictures.

-- A plain screen whose rows, cursor and attributes are replaced by those of a picture displays that picture.
shown_showing : (picture : Picture) (saved : Saved) (last : Option ℕ) (reader : ScreenValue) →
    IsPicture picture → IsReader picture reader → display (reader_with_display picture saved last reader) ≡ picture
shown_showing picture saved last reader is r =
    let width = reader.page.width in
    ap (λ (rows : List RowValue). record picture { rows = cut_rows width rows; width = width })
    (none_above (above_page reader) picture.rows r.plain.offset)
    ∙ (ap (λ (w : ℕ). record picture { rows = cut_rows w picture.rows; width = w }) (sym r.size.width)
    ∙ ap (λ (rows : List RowValue). record picture { rows = rows })
    (cut_same picture.width picture.rows (recursion_from_All (IsRow picture.width) picture.rows is.rows)
    (flags_end_of picture.width picture.rows is.last)))

plain_showing : (picture : Picture) (saved : Saved) (last : Option ℕ) (reader : ScreenValue) →
    IsReader picture reader → IsPlain (reader_with_display picture saved last reader)
plain_showing picture saved last reader r =
    let tall = r.size.height in
    let height = shown_height reader in
    let whole = r.plain.page.whole.1 in
    record {
      page = record { whole = (r.plain.page.whole.0, omega arith); origin = r.plain.page.origin };
      offset = r.plain.offset;
    }

-- ---- the parts

pub shows_plainly : (picture : Picture) (reader after : ScreenValue) → IsPicture picture →
    IsReader picture reader → Became picture reader after → ShowsPlainly picture reader after
shows_plainly picture reader after is r b =
    subst (λ (s : ScreenValue). ShowsPlainly picture reader s) (sym b.is)
    (plain_showing picture b.saved b.last reader r, shown_showing picture b.saved b.last reader is r)

has_rows : (picture : Picture) (reader after : ScreenValue) → Became picture reader after → HasRows picture reader after
has_rows picture reader after b = ap (λ (s : ScreenValue). s.page.rows) b.is

has_cursor : (picture : Picture) (reader after : ScreenValue) →
    Became picture reader after → HasCursor picture reader after
has_cursor picture reader after b =
    subst (λ (s : ScreenValue). HasCursor picture reader s) (sym b.is)
    (record { row = refl; column = refl; attrs = refl; hidden = refl })

pub keeps_rest : (picture : Picture) (reader after : ScreenValue) → Became picture reader after → KeepsRest reader after
keeps_rest picture reader after b =
    subst (KeepsRest reader) (sym b.is) (record {
      but_modes = record {
        other = refl;
        is_alternate = refl;
        scrollback = refl;
        width = refl;
        top = refl;
        bottom = refl;
        origin = refl;
      };
      modes = refl;
    })

-- The output that draws a picture satisfies all parts of the contract of a redraw.
pub redraws : (Reader : ScreenValue → Type 0) (picture : Picture) (text : List ℕ)
    → IsPicture picture → ((reader : ScreenValue) → Reader reader → IsReader picture reader)
    → (IsSteady picture → (reader : ScreenValue) → Reader reader → Becomes picture text reader)
    → Redraws picture Reader KeepsRest text
redraws Reader picture text is readers reads = record {
  quiet = λ steady reader r. let b = reads steady reader r in (reader_with_display picture b.saved b.last reader, b.reads);
  shows =
      λ steady reader after r e. shows_plainly picture reader after is
      (readers reader r) (became picture text reader after (reads steady reader r) e);
  rows =
      λ steady reader after r e. has_rows picture reader after
      (became picture text reader after (reads steady reader r) e);
  cursor =
      λ steady reader after r e. has_cursor picture reader after
      (became picture text reader after (reads steady reader r) e);
  rest =
      λ steady reader after r e. keeps_rest picture reader after
      (became picture text reader after (reads steady reader r) e);
}

pub redraw_redraws : (self : ScreenValue) (text : List ℕ) → text ≡ shown_text self →
    IsScreen self → IsColored self → Redraws (display self) (IsReader (display self)) KeepsRest text
redraw_redraws self text told is colored =
    let picture = display self in
    redraws (IsReader picture) picture text (shown_is self is) (λ reader r. r)
    (λ steady reader r. subst (λ (t : List ℕ). Becomes picture t reader)
    (sym told) (redraw_read self reader is colored steady r))

pub difference_redraws : (self prev : ScreenValue) (text : List ℕ)
    → text ≡ display_change prev self → IsScreen self → IsColored self
    → IsScreen prev → IsColored prev → SamePictureSize (display self) (display prev)
    → RedrawsFrom prev self text
difference_redraws self prev text told is colored other colored_other size =
    let picture = display self in
    redraws (IsReaderOf picture (display prev)) picture text (shown_is self is) (λ reader r. r.is)
    (λ steady reader r. subst (λ (t : List ℕ). Becomes picture t reader) (sym told)
    (difference_read self prev reader is colored steady other colored_other size r))

-- ==== Redraws distinguish displays: equal output comes from equal pictures, and a diff is empty only between equal
-- pictures.

-- A fresh terminal that displays the given picture.
abbrev pub blank_reader : Picture → ScreenValue
blank_reader picture = with_canvas (canvas.showing picture) (fresh_screen 1 1 0)

shows : Terminal → Picture
shows t = picture_of (canvas_of t.screen)

-- If one terminal displays two pictures after reading equal output, the pictures are equal.
pub one_picture : (a b : Picture) (text more : List ℕ) (reader : ScreenValue) → Becomes a text reader →
    Becomes b more reader → text ≡ more → SamePictureSize a b → b.width ≡ reader.page.width → a ≡ b
unfolding shows
one_picture a b text more reader one two e size width =
    let left = terminal start (reader_with_display a one.saved one.last reader) in
    let right = terminal start (reader_with_display b two.saved two.last reader) in
    let same : left ≡ right =
    same_some left right (sym one.reads ∙ (ap (terminal_after (terminal start reader)) e ∙ two.reads)) in
    ap (λ (w : ℕ). record a { width = w }) (size.width ∙ width)
    ∙ (ap shows same ∙ ap (λ (w : ℕ). record b { width = w }) (sym width))

-- If the redraws of two screens are equal, both screens display the same content.
pub redraws_tell : (a b : ScreenValue) → IsScreen a → IsColored a → IsSteady (display a) →
    IsScreen b → IsColored b → IsSteady (display b) → SamePictureSize (display a) (display b) →
    bytes_of_all (redraw (display a)) ≡ bytes_of_all (redraw (display b)) → display a ≡ display b
redraws_tell a b is colored steady other colored_other steady_other size e =
    let x = display a in
    let y = display b in
    let reader = blank_reader y in
    let plain = showing_plain y (shown_is b other) in
    let one = drawing_read (redraw x) x reader (redraw_fits x (shown_is a is) (shown_colored a is colored))
    (redraw_draws x (canvas.showing y) (shown_is a is) steady (shown_is b other) plain size) in
    let two = drawing_read (redraw y) y reader (redraw_fits y (shown_is b other) (shown_colored b other colored_other))
    (redraw_draws y (canvas.showing y) (shown_is b other) steady_other
    (shown_is b other) plain (record { width = refl; height = refl })) in
    one_picture x y (bytes_of_all (redraw x)) (bytes_of_all (redraw y)) reader one two e size refl

-- If the diff between two screens is empty, both screens display the same content.
pub difference_tells : (a b : ScreenValue) → IsScreen a → IsColored a → IsSteady (display a) → IsScreen b → IsColored b →
    SamePictureSize (display a) (display b) → bytes_of_all (difference (display a) (display b)) ≡ [] → display a ≡ display b
difference_tells a b is colored steady other colored_other size e =
    let x = display a in
    let y = display b in
    let reader = blank_reader y in
    let plain = showing_plain y (shown_is b other) in
    let one = drawing_read (difference x y) x reader
    (difference_fits x y (shown_is a is) (shown_colored a is colored) colored_other.attrs)
    (difference_draws x y (canvas.showing y) (shown_is a is) steady (shown_is b other) size plain refl) in
    let two : Becomes y [] reader = record {
      saved = record { row = 0; column = 0; origin = reader.page.origin; attrs = reader.saved_attrs };
      last = reader.last;
      reads = refl;
    } in
    one_picture x y (bytes_of_all (difference x y)) [] reader one two e size refl

-- The diff between equal pictures is empty.
pub difference_none : (a b : Picture) → a ≡ b → bytes_of_all (difference a b) ≡ []
difference_none a b e = ap (λ (x : Picture). bytes_of_all (difference x b)) e ∙ ap bytes_of_all (difference_self b)

-- ==== Reading the output for the cursor sets the cursor of a plain terminal that displays the rows of the picture.

-- The terminal with the position and visibility of a picture's cursor.
abbrev placed : Picture → Saved → Option ℕ → ScreenValue → ScreenValue
placed picture saved last reader =
    record (with_canvas (with_saved saved (with_cursor_of picture (canvas_of reader))) reader) { last = last }

record Places (picture : Picture) (text : List ℕ) (reader : ScreenValue) : Type 0 where
  saved : Saved
  last : Option ℕ
  reads : ReadsTo text reader (placed picture saved last reader)

cursor_read : (self reader : ScreenValue) → IsScreen self → IsColored self → IsSteady (display self) →
    IsReaderOfRows (display self) reader → Places (display self) (bytes_of_all (cursor_state (display self))) reader
cursor_read self reader is colored steady r =
    let picture = display self in
    let page = plain_shown reader r.is.sound r.is.plain in
    let rows : reader.page.rows ≡ picture.rows = sym (ap (λ (p : Picture). p.rows) page) ∙ r.shows in
    let draws = cursor_state_draws picture (canvas_of reader) (shown_is self is)
    steady r.is.plain.page rows (sym r.is.size.width) r.attrs in
    let reads = reads_all (cursor_state picture) reader (with_saved draws.0 (with_cursor_of picture (canvas_of reader)))
    (cursor_state_fits picture (shown_is self is) (shown_colored self is colored)) draws.1 in
    record { saved = draws.0; last = reads.0; reads = reads.1 }

after_is : (picture : Picture) (text : List ℕ) (reader after : ScreenValue) (p : Places picture text reader) →
    ReadsTo text reader after → placed picture p.saved p.last reader ≡ after
after_is picture text reader after p e =
    ap (λ (t : Terminal). t.screen)
    (same_some (terminal start (placed picture p.saved p.last reader)) (terminal start after) (sym p.reads ∙ e))

turns : (picture : Picture) (text : List ℕ) →
    ((reader : ScreenValue) → IsReaderOfRows picture reader → Places picture text reader) →
    Turns (IsReaderOfRows picture) text (TakesCursor picture)
turns picture text reads = record {
  quiet = λ reader r. let p = reads reader r in (placed picture p.saved p.last reader, p.reads);
  made =
      λ reader after r e. subst (TakesCursor picture reader) (after_is picture text reader after (reads reader r) e)
      (record { rows = refl; attrs = refl; row = refl; column = refl; hidden = refl });
  plain =
      λ reader after r e. subst IsPlain (after_is picture text reader after (reads reader r) e)
      (record {
        page = record { whole = r.is.plain.page.whole; origin = r.is.plain.page.origin };
        offset = r.is.plain.offset;
      });
  rest = λ reader after r e. subst (KeepsRest reader) (after_is picture text reader after (reads reader r) e)
      (record {
        but_modes = record {
          other = refl;
          is_alternate = refl;
          scrollback = refl;
          width = refl;
          top = refl;
          bottom = refl;
          origin = refl;
        };
        modes = refl;
      });
}

pub cursor_turns : (self : ScreenValue) (text : List ℕ) → text ≡ bytes_of_all (cursor_state (display self)) →
    IsScreen self → IsColored self → IsSteady (display self) →
    Turns (IsReaderOfRows (display self)) text (TakesCursor (display self))
cursor_turns self text told is colored steady =
    turns (display self) text (λ reader r. subst (λ (t : List ℕ). Places (display self) t reader)
    (sym told) (cursor_read self reader is colored steady r))

-- ==== A redraw and the diffs after it, read by a plain terminal, display the last screen.

fits_append : (xs ys : List Op) → AllByRecursion Fits xs → AllByRecursion Fits ys → AllByRecursion Fits (xs ++ ys)
fits_append [] ys f g = g
fits_append (x ∷ xs) ys f g = (f.0, fits_append xs ys f.1 g)

differences_fit : (reader prev : ScreenValue) (nexts : List ScreenValue) → CanShowOn reader prev →
    AllByRecursion (CanShowOn reader) nexts → AllByRecursion Fits (differences (display prev) (map display nexts))
differences_fit reader prev [] c cs = tt
differences_fit reader prev (x ∷ xs) c cs =
    fits_append (difference (display x) (display prev)) (differences (display x) (map display xs))
    (difference_fits (display x) (display prev) (shown_is x cs.0.sound)
    (shown_colored x cs.0.sound cs.0.colored) c.colored.attrs)
    (differences_fit reader x xs cs.0 cs.1)

after_text : (prev : ScreenValue) (nexts : List ScreenValue) →
    bytes_of_all (differences (display prev) (map display nexts)) ≡ texts_after prev nexts
after_text prev [] = refl
after_text prev (x ∷ xs) =
    bytes_of_all-append (difference (display x) (display prev)) (differences (display x) (map display xs))
    ∙ ap (λ (text : List ℕ). bytes_of_all (difference (display x) (display prev)) ++ text) (after_text x xs)

chain_is : (self : ScreenValue) (nexts : List ScreenValue) →
    bytes_of_all (redraw (display self) ++ differences (display self) (map display nexts)) ≡ chain_text self nexts
chain_is self nexts =
    bytes_of_all-append (redraw (display self)) (differences (display self) (map display nexts))
    ∙ ap (λ (text : List ℕ). bytes_of_all (redraw (display self)) ++ text) (after_text self nexts)

last_is : (self : ScreenValue) (nexts : List ScreenValue) →
    last_picture (display self) (map display nexts) ≡ display (last_screen self nexts)
last_is self [] = refl
last_is self (x ∷ xs) = last_is x xs

of_size : (reader self : ScreenValue) → CanShowOn reader self →
    IsOfSize reader.page.width (length reader.page.rows) (display self)
of_size reader self c = record {
  is = shown_is self c.sound;
  steady = c.steady;
  columns = c.size.width;
  tall = c.size.height ∙ shown_height reader;
}

all_of_size : (reader : ScreenValue) (nexts : List ScreenValue) → AllByRecursion (CanShowOn reader) nexts →
    AllByRecursion (IsOfSize reader.page.width (length reader.page.rows)) (map display nexts)
all_of_size reader [] cs = tt
all_of_size reader (x ∷ xs) cs = (of_size reader x cs.0, all_of_size reader xs cs.1)

last_can : (reader self : ScreenValue) (nexts : List ScreenValue) → CanShowOn reader self →
    AllByRecursion (CanShowOn reader) nexts → CanShowOn reader (last_screen self nexts)
last_can reader self [] c cs = c
last_can reader self (x ∷ xs) c cs = last_can reader x xs cs.0 cs.1

chain_becomes : (self : ScreenValue) (nexts : List ScreenValue) (reader : ScreenValue)
    → IsScreen reader → IsPlain reader → CanShowOn reader self → AllByRecursion (CanShowOn reader) nexts
    → Becomes (display (last_screen self nexts)) (chain_text self nexts) reader
chain_becomes self nexts reader is plain c cs =
    let ops = redraw (display self) ++ differences (display self) (map display nexts) in
    let fits = fits_append (redraw (display self)) (differences (display self) (map display nexts))
    (redraw_fits (display self) (shown_is self c.sound) (shown_colored self c.sound c.colored))
    (differences_fit reader self nexts c cs) in
    let draws = chain_draws (display self) (map display nexts) (canvas_of reader) (of_size reader self c)
    (all_of_size reader nexts cs) (page_picture (canvas_of reader) is.page) plain.page in
    subst (λ (p : Picture). Becomes p (chain_text self nexts) reader) (last_is self nexts)
    (subst (λ (t : List ℕ). Becomes (last_picture (display self) (map display nexts)) t reader) (chain_is self nexts)
    (drawing_read ops (last_picture (display self) (map display nexts)) reader fits draws))

-- A plain terminal that reads the output of a chain displays the last screen and stays plain; its other parts are
-- unchanged.
pub record ChainRead (self : ScreenValue) (nexts : List ScreenValue) (reader : ScreenValue) : Type 0 where
  pub after : ScreenValue
  pub reads : ReadsTo (chain_text self nexts) reader after
  pub shows : ShowsPlainly (display (last_screen self nexts)) reader after
  pub rest : KeepsRest reader after

pub chain_read : (self : ScreenValue) (nexts : List ScreenValue) (reader : ScreenValue) → IsScreen reader →
    IsPlain reader → CanShowOn reader self → AllByRecursion (CanShowOn reader) nexts → ChainRead self nexts reader
chain_read self nexts reader is plain c cs =
    let last = last_screen self nexts in
    let end = last_can reader self nexts c cs in
    let b = chain_becomes self nexts reader is plain c cs in
    let after = reader_with_display (display last) b.saved b.last reader in
    let same : Became (display last) reader after = record { saved = b.saved; last = b.last; is = refl } in
    record {
      after = after;
      reads = b.reads;
      shows =
          shows_plainly (display last) reader after (shown_is last end.sound)
          (record { sound = is; plain = plain; size = end.size }) same;
      rest = keeps_rest (display last) reader after same;
    }
