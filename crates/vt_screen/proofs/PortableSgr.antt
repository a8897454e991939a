-- Intensities in portable output, and elements that are portable after any character.
use Rattle.std.proofs.Common.{◌≡◌, ℕ, ◌+◌, ◌<◌, Bool, true, false, nat_lt, if◌then◌else◌, List, [], ◌∷◌, ◌++◌, map}
use Rattle.std.proofs.Common.{refl, sym, ap, ◌∙◌, arith, ◌≢◌, zero, suc, ◌||◌, not, Option, Some, None, ap₂}
use Rattle.std.proofs.lemmas.Bool.{cond_both}
use Rattle.std.proofs.lemmas.Bool.Decides.{nat_tests}
use Rattle.std.proofs.lemmas.List.{map-append, append_assoc, append-nil}
use Rattle.std.specs.List.{flat_map, list_all}
use Rattle.vt_cells.specs.Attrs.{default_attrs, same_attrs, same_color, same_intensity, same_bool, Attrs}
use Rattle.vt_cells.specs.Op.{FitsColor, FitsAttrs, foreground_numbers, background_numbers, intensity_number, part}
use Rattle.vt_cells.specs.Op.{change_numbers}
use Rattle.vt_cells.specs.declared.attrs.Intensity.{Intensity}
use Rattle.vt_cells.specs.declared.attrs.Intensity.TheVariants.{Normal, Bold, Dim}
use Rattle.vt_cells.specs.declared.color.Color.{Color}
use Rattle.vt_cells.specs.declared.color.Color.TheVariants.{Default, Idx, Rgb}
use Rattle.vt_cells.specs.Glyph.{columns_of}
use Rattle.vt_scan.proofs.ParameterNumbers.{alone}
use Rattle.vt_grid.specs.Canvas.{Canvas}
use Rattle.vt_grid.specs.Page.{Page}
use Rattle.vt_redraw.specs.Uses.{change_intensities, Sgr, Other, Use, Graphic, Cup, Cr, Cha, Cuf, Bs, Lf, Ed, El, Ech}
use Rattle.vt_redraw.specs.Uses.{Lines, Columns, Dectcem, Decsc, Decrc, IsPortableCharacter, IsPortableUse}
use Rattle.vt_redraw.specs.Uses.{doubts_after, may_print, wrap_after_feed}
use Rattle.vt_redraw.specs.Certain.{is_certain}
use Rattle.vt_redraw.specs.Doubts.{Doubts, IsPlaced, Unsure, Wrap}
use Rattle.vt_screen.specs.Controls.{sgr_from, sgr_steps}
use Rattle.vt_screen.specs.Portable.{intensities_set, is_render, sgr_use}
use Rattle.vt_screen.specs.Sgr.{group_read, number_read, setting_read, silent_read, set, color_setting}
use Rattle.vt_screen.specs.Steps.{Step, Render}
use Rattle.vt_screen.specs.declared.sgr.Layer.{Layer}
use Rattle.vt_screen.specs.declared.sgr.Layer.TheVariants.{Front, Back}
use Rattle.vt_screen.specs.declared.sgr.Setting.{Setting}
use Rattle.vt_screen.specs.declared.sgr.Setting.TheVariants.{Foreground, Background, Strength, Italic, Underline}
use Rattle.vt_screen.specs.declared.sgr.Setting.TheVariants.{Inverse}
use Rattle.vt_screen.specs.declared.sgr.Wanted.TheVariants.{Any, Form, Index, Red, Green, Blue}
use Rattle.vt_screen.proofs.ReadSgr.{one_group, number_group, form_rgb, form_index, red_fits, green_fits, blue_fits}
use Rattle.vt_screen.proofs.ReadSgr.{index_fits, foreground_low, foreground_high, background_low, background_high}

-- ==== The intensities that the SGR sequence of a change of attributes sets.

-- ---- the settings that numbers are read as, whatever follows them

abbrev Sets : List ℕ → List Setting → Type 0
Sets ns settings = (groups rest : List (List ℕ)) →
    sgr_from groups Any (alone ns ++ rest) ≡ map Render settings ++ sgr_from groups Any rest

sets_nothing : Sets [] []
sets_nothing groups rest = refl

sets_one : (n : ℕ) (s : Setting) → number_read n ≡ set s → Sets (n ∷ []) (s ∷ [])
sets_one n s e groups rest = one_group groups Any (n ∷ []) rest (set s) (number_group n (set s) e)

sets_then : (ms ns : List ℕ) (ss ts : List Setting) → Sets ms ss → Sets ns ts → Sets (ms ++ ns) (ss ++ ts)
sets_then ms ns ss ts p q groups rest =
    ap (λ (gs : List (List ℕ)). sgr_from groups Any gs)
    (ap (λ (gs : List (List ℕ)). gs ++ rest) (map-append (λ n. n ∷ []) ms ns) ∙ append_assoc (alone ms) (alone ns) rest)
    ∙ (p groups (alone ns ++ rest)
    ∙ (ap (λ (steps : List Step). map Render ss ++ steps) (q groups rest)
    ∙ (sym (append_assoc (map Render ss) (map Render ts) (sgr_from groups Any rest))
    ∙ ap (λ (steps : List Step). steps ++ sgr_from groups Any rest) (sym (map-append Render ss ts)))))

sets_index : (n : ℕ) (layer : Layer) (i : ℕ) → number_read n ≡ silent_read (Form layer) → i < 256 →
    Sets (n ∷ 5 ∷ i ∷ []) (color_setting layer (Idx i) ∷ [])
sets_index n layer i e h groups rest =
    one_group groups Any (n ∷ []) ((5 ∷ []) ∷ (i ∷ []) ∷ rest)
    (silent_read (Form layer)) (number_group n (silent_read (Form layer)) e)
    ∙ (one_group groups (Form layer) (5 ∷ []) ((i ∷ []) ∷ rest) (silent_read (Index layer)) (form_index layer)
    ∙ one_group groups (Index layer) (i ∷ []) rest (set (color_setting layer (Idx i))) (index_fits layer i h))

sets_rgb : (n : ℕ) (layer : Layer) (r g b : ℕ) → number_read n ≡ silent_read (Form layer) → r < 256 → g < 256 →
    b < 256 → Sets (n ∷ 2 ∷ r ∷ g ∷ b ∷ []) (color_setting layer (Rgb r g b) ∷ [])
sets_rgb n layer r g b e red green blue groups rest =
    one_group groups Any (n ∷ []) ((2 ∷ []) ∷ (r ∷ []) ∷ (g ∷ []) ∷ (b ∷ []) ∷ rest)
    (silent_read (Form layer)) (number_group n (silent_read (Form layer)) e)
    ∙ (one_group groups (Form layer) (2 ∷ [])
    ((r ∷ []) ∷ (g ∷ []) ∷ (b ∷ []) ∷ rest) (silent_read (Red layer)) (form_rgb layer)
    ∙ (one_group groups (Red layer) (r ∷ []) ((g ∷ []) ∷ (b ∷ []) ∷ rest)
    (silent_read (Green layer r)) (red_fits layer r red)
    ∙ (one_group groups (Green layer r) (g ∷ []) ((b ∷ []) ∷ rest)
    (silent_read (Blue layer r g)) (green_fits layer r g green)
    ∙ one_group groups (Blue layer r g) (b ∷ []) rest (set (color_setting layer (Rgb r g b))) (blue_fits layer r g b blue))))

-- ---- the six attributes

sets_foreground : (color : Color) → FitsColor color → Sets (foreground_numbers color) (Foreground color ∷ [])
unfolding foreground_numbers number_read
sets_foreground Default h = sets_one 39 (Foreground Default) refl
sets_foreground (Idx i) h =
    cond_both (nat_lt i 8) ((30 + i) ∷ []) (if nat_lt i 16 then (82 + i) ∷ [] else 38 ∷ 5 ∷ i ∷ [])
    (λ ns. Sets ns (Foreground (Idx i) ∷ []))
    (λ (t : nat_lt i 8 ≡ true). sets_one (30 + i) (Foreground (Idx i)) (foreground_low i (grind (arith, nat_tests))))
    (λ (t : nat_lt i 8 ≡ false). cond_both (nat_lt i 16) ((82 + i) ∷ [])
    (38 ∷ 5 ∷ i ∷ []) (λ ns. Sets ns (Foreground (Idx i) ∷ []))
    (λ (u : nat_lt i 16 ≡ true). sets_one (82 + i) (Foreground (Idx i))
    (foreground_high i (grind (arith, nat_tests)) (grind (arith, nat_tests))))
    (λ _. sets_index 38 Front i refl h))
sets_foreground (Rgb r g b) (red, (green, blue)) = sets_rgb 38 Front r g b refl red green blue

sets_background : (color : Color) → FitsColor color → Sets (background_numbers color) (Background color ∷ [])
unfolding background_numbers number_read
sets_background Default h = sets_one 49 (Background Default) refl
sets_background (Idx i) h =
    cond_both (nat_lt i 8) ((40 + i) ∷ []) (if nat_lt i 16 then (92 + i) ∷ [] else 48 ∷ 5 ∷ i ∷ [])
    (λ ns. Sets ns (Background (Idx i) ∷ []))
    (λ (t : nat_lt i 8 ≡ true). sets_one (40 + i) (Background (Idx i)) (background_low i (grind (arith, nat_tests))))
    (λ (t : nat_lt i 8 ≡ false). cond_both (nat_lt i 16) ((92 + i) ∷ [])
    (48 ∷ 5 ∷ i ∷ []) (λ ns. Sets ns (Background (Idx i) ∷ []))
    (λ (u : nat_lt i 16 ≡ true). sets_one (92 + i) (Background (Idx i))
    (background_high i (grind (arith, nat_tests)) (grind (arith, nat_tests))))
    (λ _. sets_index 48 Back i refl h))
sets_background (Rgb r g b) (red, (green, blue)) = sets_rgb 48 Back r g b refl red green blue

sets_intensity : (intensity : Intensity) → Sets (intensity_number intensity ∷ []) (Strength intensity ∷ [])
unfolding number_read
sets_intensity Normal = sets_one 22 (Strength Normal) refl
sets_intensity Bold = sets_one 1 (Strength Bold) refl
sets_intensity Dim = sets_one 2 (Strength Dim) refl

sets_italic : (on : Bool) → Sets ((if on then 3 else 23) ∷ []) (Italic on ∷ [])
unfolding number_read
sets_italic true = sets_one 3 (Italic true) refl
sets_italic false = sets_one 23 (Italic false) refl

sets_underline : (on : Bool) → Sets ((if on then 4 else 24) ∷ []) (Underline on ∷ [])
unfolding number_read
sets_underline true = sets_one 4 (Underline true) refl
sets_underline false = sets_one 24 (Underline false) refl

sets_inverse : (on : Bool) → Sets ((if on then 7 else 27) ∷ []) (Inverse on ∷ [])
unfolding number_read
sets_inverse true = sets_one 7 (Inverse true) refl
sets_inverse false = sets_one 27 (Inverse false) refl

-- The setting, unless the flag is true, which means that the attribute is unchanged.
abbrev setting_part : Bool → Setting → List Setting
setting_part same s = if same then [] else s ∷ []

sets_part : (same : Bool) (ns : List ℕ) (s : Setting) → Sets ns (s ∷ []) → Sets (part same ns) (setting_part same s)
sets_part true ns s p = sets_nothing
sets_part false ns s p = p

-- ---- the whole change

abbrev change_settings : Attrs → Attrs → List Setting
change_settings was new =
    setting_part (same_color was.fgcolor new.fgcolor) (Foreground new.fgcolor)
    ++ (setting_part (same_color was.bgcolor new.bgcolor) (Background new.bgcolor)
    ++ (setting_part (same_intensity was.intensity new.intensity) (Strength new.intensity)
    ++ (setting_part (same_bool was.italic new.italic) (Italic new.italic)
    ++ (setting_part (same_bool was.underline new.underline) (Underline new.underline)
    ++ setting_part (same_bool was.inverse new.inverse) (Inverse new.inverse)))))

sets_changes : (was new : Attrs) → FitsAttrs new → Sets (change_numbers was new) (change_settings was new)
unfolding change_numbers
sets_changes was new fits =
    sets_then _ _ _ _
    (sets_part (same_color was.fgcolor new.fgcolor) _ (Foreground new.fgcolor) (sets_foreground new.fgcolor fits.0))
    (sets_then _ _ _ _
    (sets_part (same_color was.bgcolor new.bgcolor) _ (Background new.bgcolor) (sets_background new.bgcolor fits.1))
    (sets_then _ _ _ _
    (sets_part (same_intensity was.intensity new.intensity) _ (Strength new.intensity) (sets_intensity new.intensity))
    (sets_then _ _ _ _ (sets_part (same_bool was.italic new.italic) _ (Italic new.italic) (sets_italic new.italic))
    (sets_then _ _ _ _
    (sets_part (same_bool was.underline new.underline) _ (Underline new.underline) (sets_underline new.underline))
    (sets_part (same_bool was.inverse new.inverse) _ (Inverse new.inverse) (sets_inverse new.inverse))))))

all_render : (settings : List Setting) → list_all is_render (map Render settings) ≡ true
all_render [] = refl
all_render (s ∷ settings) = all_render settings

-- The intensities among settings.
abbrev among : List Setting → List Intensity
among settings = flat_map intensities_set (map Render settings)

-- A setting that is no intensity adds none.
none_added : (same : Bool) (s : Setting) (rest : List Setting) → intensities_set (Render s) ≡ [] →
    among (setting_part same s ++ rest) ≡ among rest
none_added true s rest e = refl
none_added false s rest e = ap (λ (xs : List Intensity). xs ++ among rest) e

one_added : (same : Bool) (intensity : Intensity) (rest : List Setting) → among rest ≡ [] →
    among (setting_part same (Strength intensity) ++ rest) ≡ (if same then [] else intensity ∷ [])
one_added true intensity rest e = e
one_added false intensity rest e = ap (λ (xs : List Intensity). intensity ∷ xs) e

last_added : (same : Bool) (s : Setting) → intensities_set (Render s) ≡ [] → among (setting_part same s) ≡ []
last_added true s e = refl
last_added false s e = ap (λ (xs : List Intensity). xs ++ []) e

change_among : (was new : Attrs) →
    among (change_settings was new) ≡ (if same_intensity was.intensity new.intensity then [] else new.intensity ∷ [])
change_among was new =
    none_added (same_color was.fgcolor new.fgcolor) (Foreground new.fgcolor) _ refl
    ∙ (none_added (same_color was.bgcolor new.bgcolor) (Background new.bgcolor) _ refl
    ∙ one_added (same_intensity was.intensity new.intensity) new.intensity _
    (none_added (same_bool was.italic new.italic) (Italic new.italic) _ refl
    ∙ (none_added (same_bool was.underline new.underline) (Underline new.underline) _ refl
    ∙ last_added (same_bool was.inverse new.inverse) (Inverse new.inverse) refl)))

-- An SGR sequence that is read as settings is the element with the intensities among them.
sgr_use_is : (groups : List (List ℕ)) (settings : List Setting) → sgr_steps groups ≡ map Render settings →
    sgr_use groups ≡ Sgr (among settings)
sgr_use_is groups settings e =
    ap (λ (steps : List Step). if list_all is_render steps then Sgr (flat_map intensities_set steps) else Other) e
    ∙ ap (λ (b : Bool). if b then Sgr (among settings) else Other) (all_render settings)

-- The SGR sequence with the numbers of a change between different attributes, neither of them the default.
pub change_use : (was new : Attrs) → FitsAttrs new → same_attrs new default_attrs ≡ false →
    sgr_use (alone (change_numbers was new)) ≡ Sgr (change_intensities was new)
change_use was new fits plain =
    let groups : List (List ℕ) = alone (change_numbers was new) in
    let settings : List Setting = change_settings was new in
    let steps : sgr_steps groups ≡ map Render settings =
    ap (λ (gs : List (List ℕ)). sgr_from groups Any gs) (sym (append-nil groups))
    ∙ (sets_changes was new fits groups [] ∙ append-nil (map Render settings)) in
    sgr_use_is groups settings steps
    ∙ ap (λ (is : List Intensity). Sgr is) (change_among was new)
    ∙ ap (λ (b : Bool). Sgr (if b then Normal ∷ []
    else if same_intensity was.intensity new.intensity then [] else new.intensity ∷ [])) (sym plain)

-- An SGR sequence without a number.
pub clear_use : sgr_use ((0 ∷ []) ∷ []) ≡ Sgr (Normal ∷ [])
unfolding group_read setting_read number_read
clear_use = refl

-- ==== Portable output in which runs are written with REP.

-- ---- elements that do not depend on whether a character was printed just before

-- Terminals agree as much on the position of the cursor, and on whether a wrap is pending.
pub record IsAsPlaced (was now : Doubts) : Type 0 where
  pub wrap : now.wrap ≡ was.wrap
  pub place : now.is_shifted ≡ was.is_shifted

pub record IsFree (element : Use) : Type 0 where
  pub allowed : (was now : Doubts) (canvas : Canvas) → IsAsPlaced was now → IsPortableUse element was canvas →
      IsPortableUse element now canvas
  pub after : (was now : Doubts) (canvas : Canvas) → IsAsPlaced was now →
      doubts_after element was canvas ≡ doubts_after element now canvas

abbrev doubts_with : Wrap → Bool → Bool → Doubts
doubts_with wrap shifted after = record { wrap = wrap; is_shifted = shifted; is_after_character = after }

after_it : (was now : Doubts) → IsAsPlaced was now → doubts_with was.wrap was.is_shifted false ≡ doubts_with now.wrap now.is_shifted false
after_it was now p = ap₂ (λ (w : Wrap) (s : Bool). doubts_with w s false) (sym p.wrap) (sym p.place)

placed_too : (was now : Doubts) → IsAsPlaced was now → IsPlaced was → IsPlaced now
placed_too was now p q = record { wrap = p.wrap ∙ q.wrap; place = p.place ∙ q.place }

free_character : (columns : Option ℕ) (c : ℕ) (was now : Doubts) (page : Page) → columns ≢ Some 0 → IsAsPlaced was now →
    IsPortableCharacter columns c was page → IsPortableCharacter columns c now page
free_character None c was now page other p h = h
free_character (Some zero) c was now page other p h = absurd (other refl)
free_character (Some (suc n)) c was now page other p h = (ap₂ (may_print c) p.wrap p.place ∙ h.0, h.1)

pub free_graphic : (c : ℕ) → columns_of c ≢ Some 0 → IsFree (Graphic c)
free_graphic c other = record {
  allowed = λ was now canvas p h. free_character (columns_of c) c was now canvas.page other p h;
  after = λ was now canvas p.
      ap (λ (s : Bool). record (doubts_after (Graphic c) was canvas) { is_shifted = s || not (is_certain c) }) (sym p.place);
}

pub free_other : IsFree Other
free_other = record { allowed = λ was now canvas p h. h; after = λ was now canvas p. after_it was now p }

pub free_if : (b : Bool) (x y : Use) → IsFree x → IsFree y → IsFree (if b then x else y)
free_if true x y h k = h
free_if false x y h k = k

pub free_unless : (b : Bool) (x y : Use) → b ≡ false → IsFree y → IsFree (if b then x else y)
free_unless true x y e h = absurd cc
free_unless false x y e h = h

pub free_cup : IsFree Cup
free_cup = record { allowed = λ was now canvas p h. tt; after = λ was now canvas p. refl }

pub free_cr : IsFree Cr
free_cr = record { allowed = λ was now canvas p h. p.place ∙ h; after = λ was now canvas p. refl }

pub free_cha : IsFree Cha
free_cha = record { allowed = λ was now canvas p h. p.place ∙ h; after = λ was now canvas p. refl }

pub free_cuf : IsFree Cuf
free_cuf = record { allowed = λ was now canvas p h. placed_too was now p h; after = λ was now canvas p. refl }

pub free_bs : IsFree Bs
free_bs = record { allowed = λ was now canvas p h. (placed_too was now p h.0, h.1); after = λ was now canvas p. refl }

pub free_lf : IsFree Lf
free_lf = record {
  allowed = λ was now canvas p h. (p.place ∙ h.0, h.1);
  after = λ was now canvas p.
      ap₂ (λ (w : Wrap) (s : Bool). doubts_with (wrap_after_feed w) s false) (sym p.wrap) (sym p.place);
}

pub free_ed : IsFree Ed
free_ed = record {
  allowed = λ was now canvas p h. (placed_too was now p h.0, h.1);
  after = λ was now canvas p. after_it was now p;
}

pub free_el : IsFree El
free_el = record {
  allowed = λ was now canvas p h. (placed_too was now p h.0, h.1);
  after = λ was now canvas p. after_it was now p;
}

pub free_ech : (count : ℕ) → IsFree (Ech count)
free_ech count = record {
  allowed = λ was now canvas p h. (placed_too was now p h.0, h.1);
  after = λ was now canvas p. after_it was now p;
}

pub free_lines : IsFree Lines
free_lines = record {
  allowed = λ was now canvas p h. (placed_too was now p h.0, h.1);
  after = λ was now canvas p. after_it was now p;
}

pub free_columns : IsFree Columns
free_columns = record {
  allowed = λ was now canvas p h. (placed_too was now p h.0, h.1);
  after = λ was now canvas p. after_it was now p;
}

pub free_sgr : (groups : List (List ℕ)) → IsFree (sgr_use groups)
free_sgr groups =
    free_if (list_all is_render (sgr_steps groups)) (Sgr (flat_map intensities_set (sgr_steps groups))) Other (record {
      allowed = λ was now canvas p h. h;
      after = λ was now canvas p. after_it was now p;
    }) free_other

pub free_dectcem : IsFree Dectcem
free_dectcem = record { allowed = λ was now canvas p h. tt; after = λ was now canvas p. after_it was now p }

pub free_decsc : IsFree Decsc
free_decsc = record { allowed = λ was now canvas p h. p.place ∙ h; after = λ was now canvas p. after_it was now p }

pub free_decrc : IsFree Decrc
free_decrc = record {
  allowed = λ was now canvas p h. h;
  after = λ was now canvas p. ap (λ (s : Bool). doubts_with Unsure s false) (sym p.place);
}
