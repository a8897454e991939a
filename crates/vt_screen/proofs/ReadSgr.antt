-- Reading SGR back: the numbers of a change of attributes, each in its own group, make that change.
use Rattle.std.proofs.Common.{◌≡◌, ℕ, zero, suc, ◌+◌, ◌-◌, ◌<◌, ◌≤◌, Bool, true, false, nat_lt, if◌then◌else◌, List, []}
use Rattle.std.proofs.Common.{◌∷◌, ◌++◌, Some, refl, sym, ap, ◌∙◌, arith}
use Rattle.std.proofs.lemmas.Bool.{cond_both}
use Rattle.std.proofs.lemmas.Bool.Decides.{nat_tests}
use Rattle.std.proofs.lemmas.List.{map-append, append_assoc, append-nil, length-append}
use Rattle.std.specs.List.{AllByRecursion}
use Rattle.std.specs.Prelude.{◌&&◌, length}
use Rattle.vt_cells.specs.Op.{FitsColor, FitsAttrs, foreground_numbers, background_numbers, intensity_number, part}
use Rattle.vt_cells.specs.Op.{change_numbers}
use Rattle.vt_cells.specs.Attrs.{default_attrs, same_attrs, same_color, same_intensity, same_bool, changed_attrs, Attrs}
use Rattle.vt_cells.specs.declared.attrs.Intensity.{Intensity}
use Rattle.vt_cells.specs.declared.attrs.Intensity.TheVariants.{Normal, Bold, Dim}
use Rattle.vt_cells.specs.declared.color.Color.{Color}
use Rattle.vt_cells.specs.declared.color.Color.TheVariants.{Default, Idx, Rgb}
use Rattle.vt_scan.proofs.ParameterNumbers.{alone}
use Rattle.vt_screen.specs.declared.sgr.Setting.{Setting}
use Rattle.vt_screen.specs.declared.sgr.Setting.TheVariants.{Foreground, Background, Strength, Italic, Underline}
use Rattle.vt_screen.specs.declared.sgr.Setting.TheVariants.{Inverse}
use Rattle.vt_screen.specs.declared.sgr.Layer.{Layer}
use Rattle.vt_screen.specs.declared.sgr.Layer.TheVariants.{Front, Back}
use Rattle.vt_screen.specs.declared.sgr.Wanted.{Wanted}
use Rattle.vt_screen.specs.declared.sgr.Wanted.TheVariants.{Any, Form, Index, Red, Green, Blue}
use Rattle.vt_screen.specs.Sgr.{GroupRead, group_read, number_read, setting_read, form_read, part_read, silent_read}
use Rattle.vt_screen.specs.Sgr.{set, color_setting, attrs_after_setting}
use Rattle.vt_screen.specs.Screen.{ScreenValue}
use Rattle.vt_screen.specs.Controls.{sgr_from, sgr_steps, reading_steps}
use Rattle.vt_screen.specs.Steps.{Step}
use Rattle.vt_screen.specs.Reading.{quiet_steps}

-- ---- one group

pub one_group : (groups : List (List ℕ)) (wanted : Wanted) (group : List ℕ) (rest : List (List ℕ)) (r : GroupRead)
    → group_read wanted group ≡ r
    → sgr_from groups wanted (group ∷ rest) ≡ reading_steps groups r.reading ++ sgr_from groups r.wanted rest
one_group groups wanted group rest r e =
    ap (λ (q : GroupRead). reading_steps groups q.reading ++ sgr_from groups q.wanted rest) e

pub number_group : (n : ℕ) (r : GroupRead) → number_read n ≡ r → group_read Any (n ∷ []) ≡ r
unfolding group_read setting_read
number_group n r e = e

part_fits : (n : ℕ) (next : ℕ → GroupRead) → n < 256 → part_read (n ∷ []) next ≡ next n
part_fits n next h = let t : nat_lt n 256 ≡ true = grind (arith, nat_tests) in rw t refl

-- ---- the readings of the numbers 0 to 7, one by one

below_8 : (P : ℕ → Type 0) → P 0 → P 1 → P 2 → P 3 → P 4 → P 5 → P 6 → P 7 → (i : ℕ) → i < 8 → P i
below_8 P a b c d e f g h zero l = a
below_8 P a b c d e f g h (suc zero) l = b
below_8 P a b c d e f g h (suc (suc zero)) l = c
below_8 P a b c d e f g h (suc (suc (suc zero))) l = d
below_8 P a b c d e f g h (suc (suc (suc (suc zero)))) l = e
below_8 P a b c d e f g h (suc (suc (suc (suc (suc zero))))) l = f
below_8 P a b c d e f g h (suc (suc (suc (suc (suc (suc zero)))))) l = g
below_8 P a b c d e f g h (suc (suc (suc (suc (suc (suc (suc zero))))))) l = h
below_8 P a b c d e f g h (suc (suc (suc (suc (suc (suc (suc (suc n)))))))) l = absurd (omega arith)

pub foreground_low : (i : ℕ) → i < 8 → number_read (30 + i) ≡ set (Foreground (Idx i))
unfolding number_read
foreground_low = below_8 (λ i. number_read (30 + i) ≡ set (Foreground (Idx i))) refl refl refl refl refl refl refl refl

pub background_low : (i : ℕ) → i < 8 → number_read (40 + i) ≡ set (Background (Idx i))
unfolding number_read
background_low = below_8 (λ i. number_read (40 + i) ≡ set (Background (Idx i))) refl refl refl refl refl refl refl refl

pub foreground_bright : (j : ℕ) → j < 8 → number_read (90 + j) ≡ set (Foreground (Idx (8 + j)))
unfolding number_read
foreground_bright =
    below_8 (λ j. number_read (90 + j) ≡ set (Foreground (Idx (8 + j)))) refl refl refl refl refl refl refl refl

pub background_bright : (j : ℕ) → j < 8 → number_read (100 + j) ≡ set (Background (Idx (8 + j)))
unfolding number_read
background_bright =
    below_8 (λ j. number_read (100 + j) ≡ set (Background (Idx (8 + j)))) refl refl refl refl refl refl refl refl

-- The numbers 90 to 97 set the foreground colours 8 to 15.
pub foreground_high : (i : ℕ) → 8 ≤ i → i < 16 → number_read (82 + i) ≡ set (Foreground (Idx i))
foreground_high i low high =
    let e : 82 + i ≡ 90 + (i - 8) = omega arith in
    let f : 8 + (i - 8) ≡ i = omega arith in
    ap number_read e ∙ (foreground_bright (i - 8) (omega arith) ∙ ap (λ k. set (Foreground (Idx k))) f)

pub background_high : (i : ℕ) → 8 ≤ i → i < 16 → number_read (92 + i) ≡ set (Background (Idx i))
background_high i low high =
    let e : 92 + i ≡ 100 + (i - 8) = omega arith in
    let f : 8 + (i - 8) ≡ i = omega arith in
    ap number_read e ∙ (background_bright (i - 8) (omega arith) ∙ ap (λ k. set (Background (Idx k))) f)

-- ---- the effect of numbers on attributes, whatever follows them

abbrev pub Renders : List ℕ → (Attrs → Attrs) → Type 0
Renders ns f =
    (groups rest : List (List ℕ)) (screen : ScreenValue)
    → quiet_steps (sgr_from groups Any (alone ns ++ rest)) screen
    ≡ quiet_steps (sgr_from groups Any rest) (record screen { attrs = f (screen.attrs) })

renders_nothing : Renders [] (λ a. a)
renders_nothing groups rest screen = refl

renders_one : (n : ℕ) (s : Setting) → number_read n ≡ set s → Renders (n ∷ []) (attrs_after_setting s)
renders_one n s e groups rest screen =
    ap (λ (steps : List Step). quiet_steps steps screen)
    (one_group groups Any (n ∷ []) rest (set s) (number_group n (set s) e))

renders_then : (ms ns : List ℕ) (f g : Attrs → Attrs) → Renders ms f → Renders ns g → Renders (ms ++ ns) (λ a. g (f a))
renders_then ms ns f g p q groups rest screen =
    ap (λ (gs : List (List ℕ)). quiet_steps (sgr_from groups Any gs) screen)
    (ap (λ (gs : List (List ℕ)). gs ++ rest) (map-append (λ n. n ∷ []) ms ns) ∙ append_assoc (alone ms) (alone ns) rest)
    ∙ (p groups (alone ns ++ rest) screen ∙ q groups rest (record screen { attrs = f (screen.attrs) }))

-- ---- extended colours

pub form_rgb : (layer : Layer) → group_read (Form layer) (2 ∷ []) ≡ silent_read (Red layer)
unfolding group_read form_read
form_rgb layer = refl

pub form_index : (layer : Layer) → group_read (Form layer) (5 ∷ []) ≡ silent_read (Index layer)
unfolding group_read form_read
form_index layer = refl

pub red_fits : (layer : Layer) (r : ℕ) → r < 256 → group_read (Red layer) (r ∷ []) ≡ silent_read (Green layer r)
unfolding group_read
red_fits layer r h = part_fits r (λ r. silent_read (Green layer r)) h

pub green_fits : (layer : Layer) (r g : ℕ) → g < 256 → group_read (Green layer r) (g ∷ []) ≡ silent_read (Blue layer r g)
unfolding group_read
green_fits layer r g h = part_fits g (λ g. silent_read (Blue layer r g)) h

pub blue_fits : (layer : Layer) (r g b : ℕ) → b < 256 →
    group_read (Blue layer r g) (b ∷ []) ≡ set (color_setting layer (Rgb r g b))
unfolding group_read
blue_fits layer r g b h = part_fits b (λ b. set (color_setting layer (Rgb r g b))) h

pub index_fits : (layer : Layer) (i : ℕ) → i < 256 → group_read (Index layer) (i ∷ []) ≡ set (color_setting layer (Idx i))
unfolding group_read
index_fits layer i h = part_fits i (λ i. set (color_setting layer (Idx i))) h

renders_index : (n : ℕ) (layer : Layer) (i : ℕ) → number_read n ≡ silent_read (Form layer) →
    i < 256 → Renders (n ∷ 5 ∷ i ∷ []) (attrs_after_setting (color_setting layer (Idx i)))
renders_index n layer i e h groups rest screen =
    ap (λ (steps : List Step). quiet_steps steps screen)
    (one_group groups Any (n ∷ []) ((5 ∷ []) ∷ (i ∷ []) ∷ rest)
    (silent_read (Form layer)) (number_group n (silent_read (Form layer)) e)
    ∙ (one_group groups (Form layer) (5 ∷ []) ((i ∷ []) ∷ rest) (silent_read (Index layer)) (form_index layer)
    ∙ one_group groups (Index layer) (i ∷ []) rest (set (color_setting layer (Idx i))) (index_fits layer i h)))

renders_rgb : (n : ℕ) (layer : Layer) (r g b : ℕ) → number_read n ≡ silent_read (Form layer) → r < 256 → g < 256 → b < 256
    → Renders (n ∷ 2 ∷ r ∷ g ∷ b ∷ []) (attrs_after_setting (color_setting layer (Rgb r g b)))
renders_rgb n layer r g b e red green blue groups rest screen =
    ap (λ (steps : List Step). quiet_steps steps screen)
    (one_group groups Any (n ∷ []) ((2 ∷ []) ∷ (r ∷ []) ∷ (g ∷ []) ∷ (b ∷ []) ∷ rest)
    (silent_read (Form layer)) (number_group n (silent_read (Form layer)) e)
    ∙ (one_group groups (Form layer) (2 ∷ [])
    ((r ∷ []) ∷ (g ∷ []) ∷ (b ∷ []) ∷ rest) (silent_read (Red layer)) (form_rgb layer)
    ∙ (one_group groups (Red layer) (r ∷ []) ((g ∷ []) ∷ (b ∷ []) ∷ rest)
    (silent_read (Green layer r)) (red_fits layer r red)
    ∙ (one_group groups (Green layer r) (g ∷ []) ((b ∷ []) ∷ rest)
    (silent_read (Blue layer r g)) (green_fits layer r g green)
    ∙ one_group groups (Blue layer r g) (b ∷ []) rest (set (color_setting layer (Rgb r g b))) (blue_fits layer r g b blue)))))

-- ---- the six attributes

renders_foreground : (color : Color) → FitsColor color →
    Renders (foreground_numbers color) (λ a. record a { fgcolor = color })
unfolding foreground_numbers number_read
renders_foreground Default h = renders_one 39 (Foreground Default) refl
renders_foreground (Idx i) h =
    cond_both (nat_lt i 8) ((30 + i) ∷ []) (if nat_lt i 16 then (82 + i) ∷ [] else 38 ∷ 5 ∷ i ∷ [])
    (λ ns. Renders ns (λ a. record a { fgcolor = Idx i }))
    (λ (t : nat_lt i 8 ≡ true). renders_one (30 + i) (Foreground (Idx i)) (foreground_low i (grind (arith, nat_tests))))
    (λ (t : nat_lt i 8 ≡ false). cond_both (nat_lt i 16) ((82 + i) ∷ [])
    (38 ∷ 5 ∷ i ∷ []) (λ ns. Renders ns (λ a. record a { fgcolor = Idx i }))
    (λ (u : nat_lt i 16 ≡ true). renders_one (82 + i) (Foreground (Idx i))
    (foreground_high i (grind (arith, nat_tests)) (grind (arith, nat_tests))))
    (λ _. renders_index 38 Front i refl h))
renders_foreground (Rgb r g b) (red, (green, blue)) = renders_rgb 38 Front r g b refl red green blue

renders_background : (color : Color) → FitsColor color →
    Renders (background_numbers color) (λ a. record a { bgcolor = color })
unfolding background_numbers number_read
renders_background Default h = renders_one 49 (Background Default) refl
renders_background (Idx i) h =
    cond_both (nat_lt i 8) ((40 + i) ∷ []) (if nat_lt i 16 then (92 + i) ∷ [] else 48 ∷ 5 ∷ i ∷ [])
    (λ ns. Renders ns (λ a. record a { bgcolor = Idx i }))
    (λ (t : nat_lt i 8 ≡ true). renders_one (40 + i) (Background (Idx i)) (background_low i (grind (arith, nat_tests))))
    (λ (t : nat_lt i 8 ≡ false). cond_both (nat_lt i 16) ((92 + i) ∷ [])
    (48 ∷ 5 ∷ i ∷ []) (λ ns. Renders ns (λ a. record a { bgcolor = Idx i }))
    (λ (u : nat_lt i 16 ≡ true). renders_one (92 + i) (Background (Idx i))
    (background_high i (grind (arith, nat_tests)) (grind (arith, nat_tests))))
    (λ _. renders_index 48 Back i refl h))
renders_background (Rgb r g b) (red, (green, blue)) = renders_rgb 48 Back r g b refl red green blue

renders_intensity : (intensity : Intensity) →
    Renders (intensity_number intensity ∷ []) (λ a. record a { intensity = intensity })
unfolding number_read
renders_intensity Normal = renders_one 22 (Strength Normal) refl
renders_intensity Bold = renders_one 1 (Strength Bold) refl
renders_intensity Dim = renders_one 2 (Strength Dim) refl

renders_italic : (on : Bool) → Renders ((if on then 3 else 23) ∷ []) (λ a. record a { italic = on })
unfolding number_read
renders_italic true = renders_one 3 (Italic true) refl
renders_italic false = renders_one 23 (Italic false) refl

renders_underline : (on : Bool) → Renders ((if on then 4 else 24) ∷ []) (λ a. record a { underline = on })
unfolding number_read
renders_underline true = renders_one 4 (Underline true) refl
renders_underline false = renders_one 24 (Underline false) refl

renders_inverse : (on : Bool) → Renders ((if on then 7 else 27) ∷ []) (λ a. record a { inverse = on })
unfolding number_read
renders_inverse true = renders_one 7 (Inverse true) refl
renders_inverse false = renders_one 27 (Inverse false) refl

-- The numbers for each attribute set it, unless it is equal in both sets of attributes.

part_foreground : (same : Bool) (color : Color) → FitsColor color
    → Renders (part same (foreground_numbers color)) (λ a. record a { fgcolor = if same then a.fgcolor else color })
part_foreground true color h = renders_nothing
part_foreground false color h = renders_foreground color h

part_background : (same : Bool) (color : Color) → FitsColor color
    → Renders (part same (background_numbers color)) (λ a. record a { bgcolor = if same then a.bgcolor else color })
part_background true color h = renders_nothing
part_background false color h = renders_background color h

part_intensity : (same : Bool) (intensity : Intensity)
    → Renders (part same (intensity_number intensity ∷ []))
    (λ a. record a { intensity = if same then a.intensity else intensity })
part_intensity true intensity = renders_nothing
part_intensity false intensity = renders_intensity intensity

part_italic : (same on : Bool) →
    Renders (part same ((if on then 3 else 23) ∷ [])) (λ a. record a { italic = if same then a.italic else on })
part_italic true on = renders_nothing
part_italic false on = renders_italic on

part_underline : (same on : Bool) →
    Renders (part same ((if on then 4 else 24) ∷ [])) (λ a. record a { underline = if same then a.underline else on })
part_underline true on = renders_nothing
part_underline false on = renders_underline on

part_inverse : (same on : Bool) →
    Renders (part same ((if on then 7 else 27) ∷ [])) (λ a. record a { inverse = if same then a.inverse else on })
part_inverse true on = renders_nothing
part_inverse false on = renders_inverse on

-- ---- the whole change

-- Reading the numbers of a change applies each attribute that differs and leaves the others unchanged.
renders_changes : (was new : Attrs) → FitsAttrs new → Renders (change_numbers was new) (λ a. record {
  fgcolor = if same_color was.fgcolor new.fgcolor then a.fgcolor else new.fgcolor;
  bgcolor = if same_color was.bgcolor new.bgcolor then a.bgcolor else new.bgcolor;
  intensity = if same_intensity was.intensity new.intensity then a.intensity else new.intensity;
  italic = if same_bool was.italic new.italic then a.italic else new.italic;
  underline = if same_bool was.underline new.underline then a.underline else new.underline;
  inverse = if same_bool was.inverse new.inverse then a.inverse else new.inverse;
})
unfolding change_numbers
renders_changes was new fits =
    let fore : Attrs → Attrs =
    λ a. record a { fgcolor = if same_color was.fgcolor new.fgcolor then a.fgcolor else new.fgcolor } in
    let back : Attrs → Attrs =
    λ a. record a { bgcolor = if same_color was.bgcolor new.bgcolor then a.bgcolor else new.bgcolor } in
    let strength : Attrs → Attrs =
    λ a. record a { intensity = if same_intensity was.intensity new.intensity then a.intensity else new.intensity } in
    let slant : Attrs → Attrs =
    λ a. record a { italic = if same_bool was.italic new.italic then a.italic else new.italic } in
    let line : Attrs → Attrs =
    λ a. record a { underline = if same_bool was.underline new.underline then a.underline else new.underline } in
    let swap : Attrs → Attrs =
    λ a. record a { inverse = if same_bool was.inverse new.inverse then a.inverse else new.inverse } in
    let six : List ℕ = part (same_bool was.inverse new.inverse) ((if new.inverse then 7 else 27) ∷ []) in
    let five : List ℕ = part (same_bool was.underline new.underline) ((if new.underline then 4 else 24) ∷ []) in
    let four : List ℕ = part (same_bool was.italic new.italic) ((if new.italic then 3 else 23) ∷ []) in
    let three : List ℕ = part (same_intensity was.intensity new.intensity) (intensity_number new.intensity ∷ []) in
    let two : List ℕ = part (same_color was.bgcolor new.bgcolor) (background_numbers new.bgcolor) in
    let one : List ℕ = part (same_color was.fgcolor new.fgcolor) (foreground_numbers new.fgcolor) in
    renders_then one (two ++ (three ++ (four ++ (five ++ six)))) fore (λ a. swap (line (slant (strength (back a)))))
    (part_foreground (same_color was.fgcolor new.fgcolor) new.fgcolor fits.0)
    (renders_then two (three ++ (four ++ (five ++ six))) back (λ a. swap (line (slant (strength a))))
    (part_background (same_color was.bgcolor new.bgcolor) new.bgcolor fits.1)
    (renders_then three (four ++ (five ++ six)) strength (λ a. swap (line (slant a)))
    (part_intensity (same_intensity was.intensity new.intensity) new.intensity)
    (renders_then four (five ++ six) slant (λ a. swap (line a))
    (part_italic (same_bool was.italic new.italic) new.italic)
    (renders_then five six line swap
    (part_underline (same_bool was.underline new.underline) new.underline)
    (part_inverse (same_bool was.inverse new.inverse) new.inverse)))))

-- An SGR sequence with the numbers of a change makes that change.
pub sgr_change : (was new : Attrs) → FitsAttrs new → same_attrs was new ≡ false → same_attrs new default_attrs ≡ false
    → (screen : ScreenValue)
    → quiet_steps (sgr_steps (alone (change_numbers was new))) screen
    ≡ Some (record screen { attrs = changed_attrs was new (screen.attrs) })
unfolding changed_attrs
sgr_change was new fits differs plain screen =
    rw (differs, plain)
    (ap (λ (gs : List (List ℕ)). quiet_steps (sgr_from (alone (change_numbers was new)) Any gs) screen)
    (sym (append-nil (alone (change_numbers was new))))
    ∙ renders_changes was new fits (alone (change_numbers was new)) [] screen)

-- An SGR sequence without a number sets the default attributes.
pub sgr_clear : (screen : ScreenValue) →
    quiet_steps (sgr_steps ((0 ∷ []) ∷ [])) screen ≡ Some (record screen { attrs = default_attrs })
unfolding group_read setting_read number_read
sgr_clear screen = refl

-- ---- the number of numbers, and their sizes

pub record FewNumbers (most : ℕ) (ns : List ℕ) : Type 0 where
  pub few : length ns ≤ most
  pub small : AllByRecursion (λ n. n ≤ 65535) ns

small_then : (ms ns : List ℕ) → AllByRecursion (λ n. n ≤ 65535) ms →
    AllByRecursion (λ n. n ≤ 65535) ns → AllByRecursion (λ n. n ≤ 65535) (ms ++ ns)
small_then [] ns p q = q
small_then (m ∷ ms) ns (p, ps) q = (p, small_then ms ns ps q)

few_then : (k l : ℕ) (ms ns : List ℕ) → FewNumbers k ms → FewNumbers l ns → FewNumbers (k + l) (ms ++ ns)
few_then k l ms ns p q = record {
  few = let e = length-append ms ns in omega arith;
  small = small_then ms ns p.small q.small;
}

few_part : (k : ℕ) (same : Bool) (ns : List ℕ) → FewNumbers k ns → FewNumbers k (part same ns)
few_part k true ns p = record { few = omega arith; small = tt }
few_part k false ns p = p

few_one : (n : ℕ) → n ≤ 65535 → FewNumbers 1 (n ∷ [])
few_one n h = record { few = omega arith; small = (h, tt) }

few_foreground : (color : Color) → FitsColor color → FewNumbers 5 (foreground_numbers color)
unfolding foreground_numbers
few_foreground Default h = record { few = omega arith; small = (omega arith, tt) }
few_foreground (Idx i) h =
    cond_both (nat_lt i 8) ((30 + i) ∷ []) (if nat_lt i 16 then (82 + i) ∷ [] else 38 ∷ 5 ∷ i ∷ []) (FewNumbers 5)
    (λ (t : nat_lt i 8 ≡ true). record { few = omega arith; small = (grind (arith, nat_tests), tt) })
    (λ _. cond_both (nat_lt i 16) ((82 + i) ∷ []) (38 ∷ 5 ∷ i ∷ []) (FewNumbers 5)
    (λ (t : nat_lt i 16 ≡ true). record { few = omega arith; small = (grind (arith, nat_tests), tt) })
    (λ _. record { few = omega arith; small = (omega arith, (omega arith, (omega arith, tt))) }))
few_foreground (Rgb r g b) (red, (green, blue)) =
    record { few = omega arith; small = (omega arith, (omega arith, (omega arith, (omega arith, (omega arith, tt))))) }

few_background : (color : Color) → FitsColor color → FewNumbers 5 (background_numbers color)
unfolding background_numbers
few_background Default h = record { few = omega arith; small = (omega arith, tt) }
few_background (Idx i) h =
    cond_both (nat_lt i 8) ((40 + i) ∷ []) (if nat_lt i 16 then (92 + i) ∷ [] else 48 ∷ 5 ∷ i ∷ []) (FewNumbers 5)
    (λ (t : nat_lt i 8 ≡ true). record { few = omega arith; small = (grind (arith, nat_tests), tt) })
    (λ _. cond_both (nat_lt i 16) ((92 + i) ∷ []) (48 ∷ 5 ∷ i ∷ []) (FewNumbers 5)
    (λ (t : nat_lt i 16 ≡ true). record { few = omega arith; small = (grind (arith, nat_tests), tt) })
    (λ _. record { few = omega arith; small = (omega arith, (omega arith, (omega arith, tt))) }))
few_background (Rgb r g b) (red, (green, blue)) =
    record { few = omega arith; small = (omega arith, (omega arith, (omega arith, (omega arith, (omega arith, tt))))) }

few_intensity : (intensity : Intensity) → FewNumbers 1 (intensity_number intensity ∷ [])
few_intensity Normal = few_one 22 (omega arith)
few_intensity Bold = few_one 1 (omega arith)
few_intensity Dim = few_one 2 (omega arith)

few_either : (on : Bool) (m n : ℕ) → m ≤ 65535 → n ≤ 65535 → FewNumbers 1 ((if on then m else n) ∷ [])
few_either true m n p q = few_one m p
few_either false m n p q = few_one n q

pub few_changes : (was new : Attrs) → FitsAttrs new → FewNumbers 14 (change_numbers was new)
unfolding change_numbers
few_changes was new fits =
    few_then 5 9 _ _ (few_part 5 (same_color was.fgcolor new.fgcolor) _ (few_foreground new.fgcolor fits.0))
    (few_then 5 4 _ _ (few_part 5 (same_color was.bgcolor new.bgcolor) _ (few_background new.bgcolor fits.1))
    (few_then 1 3 _ _ (few_part 1 (same_intensity was.intensity new.intensity) _ (few_intensity new.intensity))
    (few_then 1 2 _ _
    (few_part 1 (same_bool was.italic new.italic) _ (few_either new.italic 3 23 (omega arith) (omega arith)))
    (few_then 1 1 _ _
    (few_part 1 (same_bool was.underline new.underline) _ (few_either new.underline 4 24 (omega arith) (omega arith)))
    (few_part 1 (same_bool was.inverse new.inverse) _ (few_either new.inverse 7 27 (omega arith) (omega arith)))))))

-- ---- a change has at least one number

some_part : (same others : Bool) (ns ms : List ℕ) → (same && others) ≡ false →
    0 < length ns → (others ≡ false → 0 < length ms) → 0 < length (part same ns ++ ms)
some_part true others ns ms e p q = q e
some_part false others ns ms e p q = let l = length-append ns ms in omega arith

some_foreground : (color : Color) → 0 < length (foreground_numbers color)
unfolding foreground_numbers
some_foreground Default = omega arith
some_foreground (Idx i) =
    cond_both (nat_lt i 8) ((30 + i) ∷ []) (if nat_lt i 16 then (82 + i) ∷ [] else 38 ∷ 5 ∷ i ∷ [])
    (λ (ns : List ℕ). 0 < length ns) (λ _. omega arith)
    (λ _. cond_both (nat_lt i 16) ((82 + i) ∷ []) (38 ∷ 5 ∷ i ∷ [])
    (λ (ns : List ℕ). 0 < length ns) (λ _. omega arith) (λ _. omega arith))
some_foreground (Rgb r g b) = omega arith

some_background : (color : Color) → 0 < length (background_numbers color)
unfolding background_numbers
some_background Default = omega arith
some_background (Idx i) =
    cond_both (nat_lt i 8) ((40 + i) ∷ []) (if nat_lt i 16 then (92 + i) ∷ [] else 48 ∷ 5 ∷ i ∷ [])
    (λ (ns : List ℕ). 0 < length ns) (λ _. omega arith)
    (λ _. cond_both (nat_lt i 16) ((92 + i) ∷ []) (48 ∷ 5 ∷ i ∷ [])
    (λ (ns : List ℕ). 0 < length ns) (λ _. omega arith) (λ _. omega arith))
some_background (Rgb r g b) = omega arith

some_last : (same : Bool) (n : ℕ) → same ≡ false → 0 < length (part same (n ∷ []))
some_last true n e = absurd cc
some_last false n e = omega arith

pub some_changes : (was new : Attrs) → same_attrs was new ≡ false → 0 < length (change_numbers was new)
unfolding change_numbers same_attrs
some_changes was new differs =
    some_part (same_color was.fgcolor new.fgcolor) _ _ _ differs (some_foreground new.fgcolor)
    (λ e. some_part (same_color was.bgcolor new.bgcolor) _ _ _ e (some_background new.bgcolor)
    (λ e. some_part (same_intensity was.intensity new.intensity) _ _ _ e (omega arith)
    (λ e. some_part (same_bool was.italic new.italic) _ _ _ e (omega arith)
    (λ e. some_part (same_bool was.underline new.underline) _ _ _ e (omega arith)
    (λ e. some_last (same_bool was.inverse new.inverse) _ e)))))
