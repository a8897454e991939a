-- Attributes: the meaning of `==` on them, and the parameters of an SGR change.
use Rattle.std.proofs.Common.{◌≡◌, ◌≢◌, ◌&&◌, Bool, true, false, if◌then◌else◌, refl, arith, ap, sym, eqb-true, ℕ, ◌≤◌}
use Rattle.std.proofs.Common.{◌<◌, List, [], ◌∷◌, ◌++◌, length, nat_lt, decimal, append-nil, rules}
use Rattle.std.proofs.lemmas.Bool.Decides.{nat_tests}
use Rattle.std.proofs.lemmas.Bool.{cond_both}
use Rattle.std.specs.List.{AllByRecursion}
use Rattle.std.specs.contracts.prelude.BoolPartialEq.TheImpl as bool
use mathlib.Core.Bool.{beq}
use Rattle.vt_cells.specs.Attrs.{default_attrs, same_color, same_intensity, same_bool, same_attrs, changed_attrs, Attrs}
use Rattle.vt_cells.specs.CellEq.{attrs_eq}
use Rattle.vt_cells.specs.contracts.attrs.IntensityPartialEq.TheImpl as intensity
use Rattle.vt_cells.specs.contracts.color.ColorPartialEq.TheImpl as colors
use Rattle.vt_cells.specs.declared.attrs.Intensity.{Intensity}
use Rattle.vt_cells.specs.declared.attrs.Intensity.TheVariants.{Normal, Bold, Dim}
use Rattle.vt_cells.specs.declared.color.Color.{Color}
use Rattle.vt_cells.specs.declared.color.Color.TheVariants.{Default, Idx, Rgb}
use Rattle.vt_cells.specs.Internals.{numbers_after}
use Rattle.vt_cells.specs.Op.{FitsAttrs, FitsColor, background_numbers, change_numbers, change_text, csi}
use Rattle.vt_cells.specs.Op.{foreground_numbers, intensity_number, semicolon_list, part}

-- ==== The meaning of `==` on attributes and colours.

-- Equality of colours, as `==` computes it.
abbrev pub color_eq : Color → Color → Bool
color_eq = (colors.ghosts).eq

abbrev pub intensity_eq : Intensity → Intensity → Bool
intensity_eq = (intensity.ghosts).eq

pub color_eq-same : (a b : Color) → color_eq a b ≡ same_color a b
unfolding same_color
color_eq-same Default Default = refl
color_eq-same Default (Idx i) = refl
color_eq-same Default (Rgb r g b) = refl
color_eq-same (Idx i) Default = refl
color_eq-same (Idx i) (Idx j) = refl
color_eq-same (Idx i) (Rgb r g b) = refl
color_eq-same (Rgb r g b) Default = refl
color_eq-same (Rgb r g b) (Idx i) = refl
color_eq-same (Rgb r g b) (Rgb s h c) = refl

pub same_color_tested : (a b : Color) (r : Bool) → r ≡ color_eq a b → r ≡ same_color a b
same_color_tested a b r e = rw e (color_eq-same a b)

pub intensity_eq-same : (a b : Intensity) → intensity_eq a b ≡ same_intensity a b
intensity_eq-same Normal Normal = refl
intensity_eq-same Normal Bold = refl
intensity_eq-same Normal Dim = refl
intensity_eq-same Bold Normal = refl
intensity_eq-same Bold Bold = refl
intensity_eq-same Bold Dim = refl
intensity_eq-same Dim Normal = refl
intensity_eq-same Dim Bold = refl
intensity_eq-same Dim Dim = refl

beq-same : (a b : Bool) → beq a b ≡ same_bool a b
beq-same true true = refl
beq-same true false = refl
beq-same false true = refl
beq-same false false = refl

six : (p q r s t u p' q' r' s' t' u' : Bool) → p ≡ p' → q ≡ q' → r ≡ r' → s ≡ s' → t ≡ t' → u ≡ u'
    → (p && (q && (r && (s && (t && u))))) ≡ (p' && (q' && (r' && (s' && (t' && u')))))
six p q r s t u p' q' r' s' t' u' e1 e2 e3 e4 e5 e6 = cc

pub attrs_eq-same : (a b : Attrs) → attrs_eq a b ≡ same_attrs a b
unfolding same_attrs
attrs_eq-same a b =
    six _ _ _ _ _ _ _ _ _ _ _ _ (color_eq-same a.fgcolor b.fgcolor)
    (color_eq-same a.bgcolor b.bgcolor) (intensity_eq-same a.intensity b.intensity)
    (beq-same a.italic b.italic) (beq-same a.underline b.underline) (beq-same a.inverse b.inverse)

pub two_parts : (p q : Bool) → (p && q) ≡ true → (p ≡ true) × (q ≡ true)
two_parts true q e = (refl, e)
two_parts false q e = cc

pub color_of-same : (a b : Color) → same_color a b ≡ true → a ≡ b
unfolding same_color
color_of-same Default Default e = refl
color_of-same Default (Idx i) e = cc
color_of-same Default (Rgb r g b) e = cc
color_of-same (Idx i) Default e = cc
color_of-same (Idx i) (Idx j) e = ap Idx (eqb-true i j e)
color_of-same (Idx i) (Rgb r g b) e = cc
color_of-same (Rgb r g b) Default e = cc
color_of-same (Rgb r g b) (Idx i) e = cc
color_of-same (Rgb r g b) (Rgb s h c) e =
    let whole = two_parts _ _ e in
    let rest = two_parts _ _ whole.1 in
    let red = eqb-true r s whole.0 in
    let green = eqb-true g h rest.0 in
    let blue = eqb-true b c rest.1 in
    cc

pub same_color-itself : (a : Color) → same_color a a ≡ true
unfolding same_color
same_color-itself Default = refl
same_color-itself (Idx i) = grind (arith, nat_tests)
same_color-itself (Rgb r g b) = grind (arith, nat_tests)

pub intensity_of-same : (a b : Intensity) → same_intensity a b ≡ true → a ≡ b
intensity_of-same Normal Normal e = refl
intensity_of-same Normal Bold e = cc
intensity_of-same Normal Dim e = cc
intensity_of-same Bold Normal e = cc
intensity_of-same Bold Bold e = refl
intensity_of-same Bold Dim e = cc
intensity_of-same Dim Normal e = cc
intensity_of-same Dim Bold e = cc
intensity_of-same Dim Dim e = refl

pub same_intensity-itself : (a : Intensity) → same_intensity a a ≡ true
same_intensity-itself Normal = refl
same_intensity-itself Bold = refl
same_intensity-itself Dim = refl

pub bool_of-same : (a b : Bool) → same_bool a b ≡ true → a ≡ b
bool_of-same true b e = sym e
bool_of-same false true e = cc
bool_of-same false false e = refl

pub same_bool-itself : (a : Bool) → same_bool a a ≡ true
same_bool-itself true = refl
same_bool-itself false = refl

six_parts : (p q r s t u : Bool) → (p && (q && (r && (s && (t && u))))) ≡ true
    → (p ≡ true) × (q ≡ true) × (r ≡ true) × (s ≡ true) × (t ≡ true) × (u ≡ true)
six_parts p q r s t u e =
    let (first, e1) = two_parts _ _ e in
    let (second, e2) = two_parts _ _ e1 in
    let (third, e3) = two_parts _ _ e2 in
    let (fourth, e4) = two_parts _ _ e3 in
    let (fifth, sixth) = two_parts _ _ e4 in
    (first, second, third, fourth, fifth, sixth)

-- Attributes that agree in all six components are equal.
pub attrs_of-same : (a b : Attrs) → same_attrs a b ≡ true → a ≡ b
unfolding same_attrs
attrs_of-same a b e =
    let (fgcolor, bgcolor, intensity, italic, underline, inverse) = six_parts _ _ _ _ _ _ e in
    λ i. record {
      fgcolor = color_of-same a.fgcolor b.fgcolor fgcolor i;
      bgcolor = color_of-same a.bgcolor b.bgcolor bgcolor i;
      intensity = intensity_of-same a.intensity b.intensity intensity i;
      italic = bool_of-same a.italic b.italic italic i;
      underline = bool_of-same a.underline b.underline underline i;
      inverse = bool_of-same a.inverse b.inverse inverse i;
    }

pub same_attrs-itself : (a : Attrs) → same_attrs a a ≡ true
unfolding same_attrs
same_attrs-itself a =
    six _ _ _ _ _ _ true true true true true true (same_color-itself a.fgcolor)
    (same_color-itself a.bgcolor) (same_intensity-itself a.intensity)
    (same_bool-itself a.italic) (same_bool-itself a.underline) (same_bool-itself a.inverse)

pub false_of : (b : Bool) → b ≢ true → b ≡ false
false_of b never = elim b as (λ v. (v ≡ true → ⊥) → v ≡ false) [ true ↦ λ h. absurd (h refl) | false ↦ λ _. refl ] never

chosen : {A : Type 0} (b : Bool) (x y : A) → (b ≡ true → x ≡ y) → (if b then x else y) ≡ y
chosen true x y e = e refl
chosen false x y e = refl

third : {A : Type 0} (b c : Bool) (x y z n : A) → (b ≡ true → x ≡ n) →
    (c ≡ true → y ≡ n) → z ≡ n → (if b then x else if c then y else z) ≡ n
third true c x y z n first second last = first refl
third false true x y z n first second last = second refl
third false false x y z n first second last = last

-- The change from one set of attributes to another turns the first one into the second.
pub changed_attrs-new : (was new : Attrs) → changed_attrs was new was ≡ new
unfolding changed_attrs
changed_attrs-new was new =
    third (same_attrs was new) (same_attrs new default_attrs) was default_attrs _ new
    (attrs_of-same was new) (λ e. sym (attrs_of-same new default_attrs e)) (λ i. record {
      fgcolor =
          chosen (same_color was.fgcolor new.fgcolor) was.fgcolor new.fgcolor (color_of-same was.fgcolor new.fgcolor) i;
      bgcolor =
          chosen (same_color was.bgcolor new.bgcolor) was.bgcolor new.bgcolor (color_of-same was.bgcolor new.bgcolor) i;
      intensity =
          chosen (same_intensity was.intensity new.intensity) was.intensity
          new.intensity (intensity_of-same was.intensity new.intensity) i;
      italic = chosen (same_bool was.italic new.italic) was.italic new.italic (bool_of-same was.italic new.italic) i;
      underline =
          chosen (same_bool was.underline new.underline) was.underline
          new.underline (bool_of-same was.underline new.underline) i;
      inverse =
          chosen (same_bool was.inverse new.inverse) was.inverse new.inverse (bool_of-same was.inverse new.inverse) i;
    })

-- A change between equal attributes leaves all attributes unchanged.
pub changed_attrs-none : (attrs others : Attrs) → changed_attrs attrs attrs others ≡ others
unfolding changed_attrs
changed_attrs-none attrs others = rw (same_attrs-itself attrs) refl

-- A change from other attributes to the default ones turns any attributes into the default ones.
pub changed_attrs-default : (was others : Attrs) → same_attrs was default_attrs ≡ false →
    changed_attrs was default_attrs others ≡ default_attrs
unfolding changed_attrs
changed_attrs-default was others differ = rw (differ, same_attrs-itself default_attrs) refl

-- Attributes that are not equal differ in a component.
pub same_attrs-differ : (a b : Attrs) → a ≢ b → same_attrs a b ≡ false
same_attrs-differ a b differ = false_of (same_attrs a b) (λ e. differ (attrs_of-same a b e))

pub same_color-differ : (a b : Color) → a ≢ b → same_color a b ≡ false
same_color-differ a b differ = false_of (same_color a b) (λ e. differ (color_of-same a b e))

-- ==== Changes of attributes: their parameters, and the agreement of `==` in the code with equality in the definitions.

-- `==` on two colours in the code agrees with `same_color`.
pub same_color_is : (a b : Color) → (colors.ghosts).eq a b ≡ same_color a b
unfolding same_color
same_color_is Default Default = refl
same_color_is Default (Idx j) = refl
same_color_is Default (Rgb s h c) = refl
same_color_is (Idx i) Default = refl
same_color_is (Idx i) (Idx j) = refl
same_color_is (Idx i) (Rgb s h c) = refl
same_color_is (Rgb r g b) Default = refl
same_color_is (Rgb r g b) (Idx j) = refl
same_color_is (Rgb r g b) (Rgb s h c) = refl

pub same_intensity_is : (a b : Intensity) → (intensity.ghosts).eq a b ≡ same_intensity a b
same_intensity_is = search rules

pub same_bool_is : (a b : Bool) → (bool.ghosts).eq a b ≡ same_bool a b
same_bool_is = search rules

-- The parameters of the foreground colour in a change.
abbrev pub foreground_part : Attrs → Attrs → List ℕ
foreground_part was new = part (same_color was.fgcolor new.fgcolor) (foreground_numbers new.fgcolor)

abbrev pub background_part : Attrs → Attrs → List ℕ
background_part was new = part (same_color was.bgcolor new.bgcolor) (background_numbers new.bgcolor)

abbrev pub intensity_part : Attrs → Attrs → List ℕ
intensity_part was new = part (same_intensity was.intensity new.intensity) (intensity_number new.intensity ∷ [])

abbrev pub italic_part : Attrs → Attrs → List ℕ
italic_part was new = part (same_bool was.italic new.italic) ((if new.italic then 3 else 23) ∷ [])

abbrev pub underline_part : Attrs → Attrs → List ℕ
underline_part was new = part (same_bool was.underline new.underline) ((if new.underline then 4 else 24) ∷ [])

abbrev pub inverse_part : Attrs → Attrs → List ℕ
inverse_part was new = part (same_bool was.inverse new.inverse) ((if new.inverse then 7 else 27) ∷ [])

-- The list of parameters is nonempty and at most as long as that of an RGB colour.
abbrev IsShort : List ℕ → Type 0
IsShort ns = (0 < length ns) × (length ns ≤ 5)

foreground-length : (c : Color) → IsShort (foreground_numbers c)
unfolding foreground_numbers
foreground-length Default = (omega arith, omega arith)
foreground-length (Idx i) =
    cond_both (nat_lt i 8) _ _ IsShort (λ _. (omega arith, omega arith))
    (λ _. cond_both (nat_lt i 16) _ _ IsShort (λ _. (omega arith, omega arith)) (λ _. (omega arith, omega arith)))
foreground-length (Rgb r g b) = (omega arith, omega arith)

background-length : (c : Color) → IsShort (background_numbers c)
unfolding background_numbers
background-length Default = (omega arith, omega arith)
background-length (Idx i) =
    cond_both (nat_lt i 8) _ _ IsShort (λ _. (omega arith, omega arith))
    (λ _. cond_both (nat_lt i 16) _ _ IsShort (λ _. (omega arith, omega arith)) (λ _. (omega arith, omega arith)))
background-length (Rgb r g b) = (omega arith, omega arith)

-- All numbers of a list are bytes.
abbrev pub AllBytes : List ℕ → Type 0
AllBytes ns = AllByRecursion (λ n. n < 256) ns

AllBytes-append : (ms ns : List ℕ) → AllBytes ms → AllBytes ns → AllBytes (ms ++ ns)
AllBytes-append [] ns p q = q
AllBytes-append (m ∷ ms) ns p q = (p.0, AllBytes-append ms ns p.1 q)

AllBytes-part : (same : Bool) (ns : List ℕ) → AllBytes ns → AllBytes (part same ns)
AllBytes-part true ns p = tt
AllBytes-part false ns p = p

below : (i n : ℕ) → nat_lt i n ≡ true → i < n
below i n e = grind (arith, nat_tests)

AllBytes-foreground : (c : Color) → FitsColor c → AllBytes (foreground_numbers c)
unfolding foreground_numbers
AllBytes-foreground Default h = (omega arith, tt)
AllBytes-foreground (Idx i) h =
    cond_both (nat_lt i 8) _ _ AllBytes (λ e. (omega (arith, below i 8 e), tt))
    (λ _. cond_both (nat_lt i 16) _ _ AllBytes (λ e. (omega (arith, below i 16 e), tt))
    (λ _. (omega arith, (omega arith, (h, tt)))))
AllBytes-foreground (Rgb r g b) h = (omega arith, (omega arith, (h.0, (h.1.0, (h.1.1, tt)))))

AllBytes-background : (c : Color) → FitsColor c → AllBytes (background_numbers c)
unfolding background_numbers
AllBytes-background Default h = (omega arith, tt)
AllBytes-background (Idx i) h =
    cond_both (nat_lt i 8) _ _ AllBytes (λ e. (omega (arith, below i 8 e), tt))
    (λ _. cond_both (nat_lt i 16) _ _ AllBytes (λ e. (omega (arith, below i 16 e), tt))
    (λ _. (omega arith, (omega arith, (h, tt)))))
AllBytes-background (Rgb r g b) h = (omega arith, (omega arith, (h.0, (h.1.0, (h.1.1, tt)))))

AllBytes-intensity : (i : Intensity) → AllBytes (intensity_number i ∷ [])
AllBytes-intensity Normal = (omega arith, tt)
AllBytes-intensity Bold = (omega arith, tt)
AllBytes-intensity Dim = (omega arith, tt)

AllBytes-switch : (same new : Bool) (on off : ℕ) → on < 256 → off < 256 →
    AllBytes (part same ((if new then on else off) ∷ []))
AllBytes-switch true new on off p q = tt
AllBytes-switch false true on off p q = (p, tt)
AllBytes-switch false false on off p q = (q, tt)

-- The parameters of a change are bytes.
pub AllBytes-change_numbers : (was new : Attrs) → FitsAttrs new → AllBytes (change_numbers was new)
unfolding change_numbers
AllBytes-change_numbers was new h =
    AllBytes-append (foreground_part was new) _
    (AllBytes-part (same_color was.fgcolor new.fgcolor) (foreground_numbers new.fgcolor)
    (AllBytes-foreground new.fgcolor h.0))
    (AllBytes-append (background_part was new) _
    (AllBytes-part (same_color was.bgcolor new.bgcolor) (background_numbers new.bgcolor)
    (AllBytes-background new.bgcolor h.1))
    (AllBytes-append (intensity_part was new) _
    (AllBytes-part (same_intensity was.intensity new.intensity) (intensity_number new.intensity ∷ [])
    (AllBytes-intensity new.intensity))
    (AllBytes-append (italic_part was new) _
    (AllBytes-switch (same_bool was.italic new.italic) new.italic 3 23 (omega arith) (omega arith))
    (AllBytes-append (underline_part was new) (inverse_part was new)
    (AllBytes-switch (same_bool was.underline new.underline) new.underline 4 24 (omega arith) (omega arith))
    (AllBytes-switch (same_bool was.inverse new.inverse) new.inverse 7 27 (omega arith) (omega arith))))))

both_empty : (xs ys : List ℕ) → xs ++ ys ≡ [] → (xs ≡ []) × (ys ≡ [])
both_empty [] ys e = (refl, e)
both_empty (x ∷ xs) ys e = absurd (omega (arith, ap length e))

part-none : (same : Bool) (ns : List ℕ) → 0 < length ns → part same ns ≡ [] → same ≡ true
part-none true ns l e = refl
part-none false ns l e = absurd (omega (arith, l, ap length e))

-- If a change has no parameters, both sets of attributes are equal.
pub change_numbers-none : (was new : Attrs) → change_numbers was new ≡ [] → same_attrs was new ≡ true
unfolding change_numbers same_attrs
change_numbers-none was new none =
    let a = both_empty (foreground_part was new) (background_part was new ++ (intensity_part was new
    ++ (italic_part was new ++ (underline_part was new ++ inverse_part was new)))) none in
    let b = both_empty (background_part was new) (intensity_part was new
    ++ (italic_part was new ++ (underline_part was new ++ inverse_part was new))) a.1 in
    let i = both_empty (intensity_part was new)
    (italic_part was new ++ (underline_part was new ++ inverse_part was new)) b.1 in
    let t = both_empty (italic_part was new) (underline_part was new ++ inverse_part was new) i.1 in
    let u = both_empty (underline_part was new) (inverse_part was new) t.1 in
    rw (
      part-none (same_color was.fgcolor new.fgcolor) _ (foreground-length new.fgcolor).0 a.0,
      part-none (same_color was.bgcolor new.bgcolor) _ (background-length new.bgcolor).0 b.0,
      part-none (same_intensity was.intensity new.intensity) _ (omega arith) i.0,
      part-none (same_bool was.italic new.italic) _ (omega arith) t.0,
      part-none (same_bool was.underline new.underline) _ (omega arith) u.0,
      part-none (same_bool was.inverse new.inverse) _ (omega arith) u.1,
    )
    refl

-- Joined numbers are the first number in decimal, followed by each further number after a separator.
pub joined_is : (x : ℕ) (xs : List ℕ) → semicolon_list (x ∷ xs) ≡ decimal x ++ numbers_after 0x3B xs
joined_is x [] = sym (append-nil (decimal x))
joined_is x (y ∷ xs) = ap (λ rest. decimal x ++ 0x3B ∷ rest) (joined_is y xs)

-- The text of a change between two sets of attributes is empty if they are equal by `==` in the code.
pub change_text-same : (was new : Attrs) → attrs_eq was new ≡ true → change_text was new ≡ []
unfolding change_text
change_text-same was new e = rw (sym (attrs_eq-same was new), e) refl

pub change_text-default : (was new : Attrs) → attrs_eq was new ≡ false →
    attrs_eq new default_attrs ≡ true → change_text was new ≡ csi [] 0x6D
unfolding change_text
change_text-default was new e f =
    rw (sym (attrs_eq-same was new), e, sym (attrs_eq-same new default_attrs), f) refl

pub change_text-other : (was new : Attrs) → attrs_eq was new ≡ false →
    attrs_eq new default_attrs ≡ false → change_text was new ≡ csi (semicolon_list (change_numbers was new)) 0x6D
unfolding change_text
change_text-other was new e f =
    rw (sym (attrs_eq-same was new), e, sym (attrs_eq-same new default_attrs), f) refl
