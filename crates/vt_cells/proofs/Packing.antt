-- Packed attributes, shapes and heads: packed values are equal exactly if their words are.
use Rattle.std.proofs.Common.{◌≡◌, ℕ, ◌+◌, ◌*◌, ◌/◌, ◌%◌, ◌<◌, ◌≤◌, ◌==◌, ◌&&◌, zero, suc, Bool, true, false, refl}
use Rattle.std.proofs.Common.{arith, ap, subst, sym, ◌∙◌, eqb-true, if◌then◌else◌, ◌≢◌, nat_le}
use Rattle.std.proofs.lemmas.Bool.Decides.{nat_tests}
use Rattle.vt_cells.specs.Attrs.{Attrs, same_attrs, same_bool, same_color, same_intensity}
use Rattle.vt_cells.specs.Internals.{StyleValue, same_style, style_bits, style_of, color_of_parts, intensity_bits}
use Rattle.vt_cells.specs.Internals.{color_bits, color_of, IsColorBits, attrs_of_bits, attrs_of_word, attrs_word}
use Rattle.vt_cells.specs.Internals.{word_of, word_back, same_switches, intensity_of, IsAttrsWord, HeadValue, IsHead}
use Rattle.vt_cells.specs.Internals.{head_back, head_of, head_word, same_head, ShapeValue, blank_shape, same_shape}
use Rattle.vt_cells.specs.Internals.{shape_bits, shape_of}
use Rattle.vt_cells.specs.Op.{FitsAttrs, FitsColor}
use Rattle.vt_cells.specs.declared.color.Color.{Color}
use Rattle.vt_cells.specs.declared.color.Color.TheVariants.{Idx, Rgb}
use Rattle.vt_cells.specs.declared.attrs.Intensity.{Intensity}
use Rattle.vt_cells.specs.declared.attrs.Intensity.TheVariants.{Normal, Bold, Dim}
use Rattle.vt_cells.proofs.Attributes.{attrs_of-same, color_of-same, same_attrs-itself, same_color-itself, bool_of-same}
use Rattle.vt_cells.proofs.Attributes.{intensity_of-same, same_bool-itself, same_intensity-itself, two_parts}

-- ==== Packed attributes are equal exactly if their words are.

-- Unpacking the packed bits of a style gives the style.
pub style_back : (intensity : Intensity) (italic underline inverse : Bool)
    → style_of
    (style_bits (record { intensity = intensity; italic = italic; underline = underline; inverse = inverse }))
    ≡ record { intensity = intensity; italic = italic; underline = underline; inverse = inverse }
style_back Normal true true true = refl
style_back Normal true true false = refl
style_back Normal true false true = refl
style_back Normal true false false = refl
style_back Normal false true true = refl
style_back Normal false true false = refl
style_back Normal false false true = refl
style_back Normal false false false = refl
style_back Bold true true true = refl
style_back Bold true true false = refl
style_back Bold true false true = refl
style_back Bold true false false = refl
style_back Bold false true true = refl
style_back Bold false true false = refl
style_back Bold false false true = refl
style_back Bold false false false = refl
style_back Dim true true true = refl
style_back Dim true true false = refl
style_back Dim true false true = refl
style_back Dim true false false = refl
style_back Dim false true true = refl
style_back Dim false true false = refl
style_back Dim false false true = refl
style_back Dim false false false = refl

style_of-same : (a b : StyleValue) → same_style a b ≡ true → a ≡ b
unfolding same_style
style_of-same a b e =
    let (intensity, rest) = two_parts _ _ e in
    let (italic, others) = two_parts _ _ rest in
    let (underline, inverse) = two_parts _ _ others in
    λ i. record {
      intensity = intensity_of-same a.intensity b.intensity intensity i;
      italic = bool_of-same a.italic b.italic italic i;
      underline = bool_of-same a.underline b.underline underline i;
      inverse = bool_of-same a.inverse b.inverse inverse i;
    }

same_style-itself : (a : StyleValue) → same_style a a ≡ true
unfolding same_style
same_style-itself a =
    rw (
      same_intensity-itself a.intensity,
      same_bool-itself a.italic,
      same_bool-itself a.underline,
      same_bool-itself a.inverse,
    ) refl

pub alike : (p q : Bool) → (p ≡ true → q ≡ true) → (q ≡ true → p ≡ true) → p ≡ q
alike true q to from = sym (to refl)
alike false true to from = from refl
alike false false to from = refl

pub itself : (n : ℕ) → (n == n) ≡ true
itself n = grind (arith, nat_tests)

-- Two packed styles are equal as numbers exactly if they are equal as styles.
pub style_bits_same : (m n : ℕ) → style_bits (style_of m) ≡ m →
    style_bits (style_of n) ≡ n → (m == n) ≡ same_style (style_of m) (style_of n)
style_bits_same m n p q =
    alike (m == n) (same_style (style_of m) (style_of n))
    (λ e. rw (eqb-true m n e) (same_style-itself (style_of n)))
    (λ e. rw (sym p ∙ ap style_bits (style_of-same (style_of m) (style_of n) e) ∙ q) (itself n))

-- Two packed colours are equal as numbers exactly if they are equal as colours.
pub packed_same : (m n : ℕ) → IsColorBits m → IsColorBits n
    → (m == n) ≡ same_color (color_of m) (color_of n)
packed_same m n p q =
    alike (m == n) (same_color (color_of m) (color_of n))
    (λ e. rw (eqb-true m n e) (same_color-itself (color_of n)))
    (λ e. rw (sym p.back ∙ ap color_bits (color_of-same (color_of m) (color_of n) e) ∙ q.back) (itself n))

-- Unpacking the bits of a palette colour gives the colour.
pub index_of : (i : ℕ) → i < 256 → color_of (1 + 4 * i) ≡ Idx i
index_of i small =
    let kind : (1 + 4 * i) % 4 ≡ 1 = omega arith in
    let first : (1 + 4 * i) / 4 % 256 ≡ i = omega arith in
    λ j. color_of_parts (kind j) (first j) ((1 + 4 * i) / 4 / 256 % 256) ((1 + 4 * i) / 4 / 256 / 256 % 256)

pub index_bits : (i : ℕ) → i < 256 → IsColorBits (1 + 4 * i)
index_bits i small = record { small = omega arith; back = ap color_bits (index_of i small) }

pub rgb_of : (r g b : ℕ) → r < 256 → g < 256 → b < 256
    → color_of (2 + 4 * (r + 256 * (g + 256 * b))) ≡ Rgb r g b
rgb_of r g b red green blue =
    let bits = 2 + 4 * (r + 256 * (g + 256 * b)) in
    let kind : bits % 4 ≡ 2 = omega arith in
    let first : bits / 4 % 256 ≡ r = omega arith in
    let second : bits / 4 / 256 % 256 ≡ g = omega arith in
    let third : bits / 4 / 256 / 256 % 256 ≡ b = omega arith in
    λ j. color_of_parts (kind j) (first j) (second j) (third j)

pub rgb_bits : (r g b : ℕ) → r < 256 → g < 256 → b < 256
    → IsColorBits (2 + 4 * (r + 256 * (g + 256 * b)))
rgb_bits r g b red green blue =
    record { small = omega arith; back = ap color_bits (rgb_of r g b red green blue) }

switch_most : (on : Bool) (n : ℕ) → (if on then n else 0) ≤ n
switch_most true n = omega arith
switch_most false n = omega arith

intensity_most : (intensity : Intensity) → intensity_bits intensity ≤ 2
intensity_most Normal = omega arith
intensity_most Bold = omega arith
intensity_most Dim = omega arith

-- A packed style fits in five bits.
pub style_small : (style : StyleValue) → style_bits style < 32
style_small style =
    omega (
      arith,
      intensity_most style.intensity,
      switch_most style.italic 4,
      switch_most style.underline 8,
      switch_most style.inverse 16,
    )

-- The three parts of a word are the style and the colours that it was made of.
pub parts_of : (style fgcolor bgcolor : ℕ) → style < 32 → fgcolor < 67108864
    → (word_of style fgcolor bgcolor % 32 ≡ style)
    × ((word_of style fgcolor bgcolor / 32 % 67108864 ≡ fgcolor)
    × (word_of style fgcolor bgcolor / 32 / 67108864 ≡ bgcolor))
parts_of style fgcolor bgcolor s f = (omega arith, (omega arith, omega arith))

pub word_sound : (style fgcolor bgcolor : ℕ)
    → style_bits (style_of style) ≡ style → IsColorBits fgcolor → IsColorBits bgcolor
    → IsAttrsWord (word_of style fgcolor bgcolor)
word_sound style fgcolor bgcolor s f b =
    let small : style < 32 = subst (λ n. n < 32) s (style_small (style_of style)) in
    let parts = parts_of style fgcolor bgcolor small f.small in
    record { style = rw (parts.0) s; fgcolor = rw (parts.1.0) f; bgcolor = rw (parts.1.1) b }

pub word_parts : (style fgcolor bgcolor : ℕ) → style < 32 → fgcolor < 67108864
    → attrs_of_word (word_of style fgcolor bgcolor) ≡ attrs_of_bits style fgcolor bgcolor
word_parts style fgcolor bgcolor s f =
    let parts = parts_of style fgcolor bgcolor s f in
    λ i. attrs_of_bits (parts.0 i) (parts.1.0 i) (parts.1.1 i)

-- The attributes that a word stands for are those of the packed style and the two packed colours that it was made of.
pub attrs_made : (style fgcolor bgcolor : ℕ) (v : StyleValue) (front back : Color)
    → style < 32 → IsColorBits fgcolor
    → style_of style ≡ v → color_of fgcolor ≡ front → color_of bgcolor ≡ back
    → attrs_of_word (style + 32 * (fgcolor + 67108864 * bgcolor)) ≡ record {
      fgcolor = front;
      bgcolor = back;
      intensity = v.intensity;
      italic = v.italic;
      underline = v.underline;
      inverse = v.inverse;
    }
attrs_made style fgcolor bgcolor v front back s f is_v is_front is_back =
    word_parts style fgcolor bgcolor s f.small ∙ (λ i. record {
      fgcolor = is_front i;
      bgcolor = is_back i;
      intensity = (is_v i).intensity;
      italic = (is_v i).italic;
      underline = (is_v i).underline;
      inverse = (is_v i).inverse;
    })

-- A packed word of attributes fits in 57 bits.
pub word_small : (word : ℕ) → IsAttrsWord word → word < 144115188075855872
word_small word h =
    let high = h.bgcolor.small in omega arith

-- Two packed words are equal as numbers exactly if they are equal as attributes.
pub words_same : (m n : ℕ) → IsAttrsWord m → IsAttrsWord n
    → (m == n) ≡ same_attrs (attrs_of_word m) (attrs_of_word n)
words_same m n p q =
    alike (m == n) (same_attrs (attrs_of_word m) (attrs_of_word n))
    (λ e. rw (eqb-true m n e) (same_attrs-itself (attrs_of_word n)))
    (λ e. rw (sym (word_back m p) ∙ ap attrs_word (attrs_of-same (attrs_of_word m) (attrs_of_word n) e)
    ∙ word_back n q) (itself n))

unpacked_fits : (kind first second third : ℕ) → first < 256 → second < 256 → third < 256
    → FitsColor (color_of_parts kind first second third)
unpacked_fits zero first second third f s t = tt
unpacked_fits (suc zero) first second third f s t = f
unpacked_fits (suc (suc kind)) first second third f s t = (f, (s, t))

color_fits : (bits : ℕ) → FitsColor (color_of bits)
color_fits bits = unpacked_fits (bits % 4) _ _ _ (omega arith) (omega arith) (omega arith)

-- Attributes that packing preserves have colours whose components are bytes.
pub attrs_fit : (attrs : Attrs) → attrs_of_word (attrs_word attrs) ≡ attrs → FitsAttrs attrs
attrs_fit attrs back =
    subst FitsAttrs back
    (color_fits (attrs_word attrs / 32 % 67108864), color_fits (attrs_word attrs / 32 / 67108864))

low_bits : (style : StyleValue) → style_bits style % 4 ≡ intensity_bits style.intensity
low_bits style =
    by_switches style.intensity style.italic style.underline style.inverse where
      by_switches : (intensity : Intensity) (italic underline inverse : Bool)
          → style_bits (record { intensity = intensity; italic = italic; underline = underline; inverse = inverse }) % 4
          ≡ intensity_bits intensity
      by_switches Normal true true true = refl
      by_switches Normal true true false = refl
      by_switches Normal true false true = refl
      by_switches Normal true false false = refl
      by_switches Normal false true true = refl
      by_switches Normal false true false = refl
      by_switches Normal false false true = refl
      by_switches Normal false false false = refl
      by_switches Bold true true true = refl
      by_switches Bold true true false = refl
      by_switches Bold true false true = refl
      by_switches Bold true false false = refl
      by_switches Bold false true true = refl
      by_switches Bold false true false = refl
      by_switches Bold false false true = refl
      by_switches Bold false false false = refl
      by_switches Dim true true true = refl
      by_switches Dim true true false = refl
      by_switches Dim true false true = refl
      by_switches Dim true false false = refl
      by_switches Dim false true true = refl
      by_switches Dim false true false = refl
      by_switches Dim false false true = refl
      by_switches Dim false false false = refl

-- The low two bits of a packed style are equal exactly if the intensities are equal.
pub intensity_alike : (m n : ℕ) → IsAttrsWord m → IsAttrsWord n
    → (m % 32 % 4 == n % 32 % 4)
    ≡ same_intensity (attrs_of_word m).intensity (attrs_of_word n).intensity
intensity_alike m n p q =
    let a = m % 32 in
    let b = n % 32 in
    let first : a % 4 ≡ intensity_bits (style_of a).intensity =
    ap (λ k. k % 4) (sym p.style) ∙ low_bits (style_of a) in
    let second : b % 4 ≡ intensity_bits (style_of b).intensity =
    ap (λ k. k % 4) (sym q.style) ∙ low_bits (style_of b) in
    alike (a % 4 == b % 4) (same_intensity (style_of a).intensity (style_of b).intensity)
    (λ e. ap (λ k. same_intensity (intensity_of k) (intensity_of (b % 4))) (eqb-true (a % 4) (b % 4) e)
    ∙ same_intensity-itself (intensity_of (b % 4)))
    (λ e. rw (first ∙ ap intensity_bits (intensity_of-same _ _ e) ∙ sym second) (itself (b % 4)))

-- The three bits of italics, underline and inverse, as a number.
switch_number : (italic underline inverse : Bool) → ℕ
switch_number italic underline inverse =
    (if italic then 1 else 0) + (if underline then 2 else 0) + (if inverse then 4 else 0)

high_bits : (intensity : Intensity) (italic underline inverse : Bool)
    → style_bits (record { intensity = intensity; italic = italic; underline = underline; inverse = inverse }) / 4
    ≡ switch_number italic underline inverse
unfolding switch_number
high_bits i true true true = omega (arith, intensity_most i)
high_bits i true true false = omega (arith, intensity_most i)
high_bits i true false true = omega (arith, intensity_most i)
high_bits i true false false = omega (arith, intensity_most i)
high_bits i false true true = omega (arith, intensity_most i)
high_bits i false true false = omega (arith, intensity_most i)
high_bits i false false true = omega (arith, intensity_most i)
high_bits i false false false = omega (arith, intensity_most i)

-- The upper three bits of a packed style are equal exactly if italics, underline and inverse are.
pub switches_alike : (m n : ℕ) → IsAttrsWord m → IsAttrsWord n
    → (m % 32 / 4 == n % 32 / 4) ≡ same_switches (attrs_of_word m) (attrs_of_word n)
unfolding same_switches
switches_alike m n p q =
    let a = m % 32 in
    let b = n % 32 in
    let x = style_of a in
    let y = style_of b in
    let first : a / 4 ≡ switch_number x.italic x.underline x.inverse =
    ap (λ k. k / 4) (sym p.style) ∙ high_bits x.intensity x.italic x.underline x.inverse in
    let second : b / 4 ≡ switch_number y.italic y.underline y.inverse =
    ap (λ k. k / 4) (sym q.style) ∙ high_bits y.intensity y.italic y.underline y.inverse in
    alike (a / 4 == b / 4)
    (same_bool x.italic y.italic && (same_bool x.underline y.underline && same_bool x.inverse y.inverse))
    (λ e.
    let same = eqb-true (a / 4) (b / 4) e in
    let one : a / 4 % 2 ≡ b / 4 % 2 = omega (arith, same) in
    let two : a / 8 % 2 ≡ b / 8 % 2 = omega (arith, same) in
    let four : a / 16 % 2 ≡ b / 16 % 2 = omega (arith, same) in
    rw (
      one,
      two,
      four,
      same_bool-itself (b / 4 % 2 == 1),
      same_bool-itself (b / 8 % 2 == 1),
      same_bool-itself (b / 16 % 2 == 1),
    ) refl)
    (λ e.
    let (italic, rest) = two_parts _ _ e in
    let (underline, inverse) = two_parts _ _ rest in
    let equal : switch_number x.italic x.underline x.inverse ≡ switch_number y.italic y.underline y.inverse =
    λ i. switch_number (bool_of-same x.italic y.italic italic i)
    (bool_of-same x.underline y.underline underline i) (bool_of-same x.inverse y.inverse inverse i) in
    rw (first ∙ equal ∙ sym second) (itself (b / 4)))

-- ==== Packed shapes and heads.

-- Unpacking the packed length and width of a text gives them back.
pub text_back : (len : ℕ) (wide : Bool) → len < 32
    → shape_of (if wide then len + 32 else len) ≡ record { len = len; wide = wide; right_half = false }
text_back len true room =
    let low : (len + 32) % 32 ≡ len = omega arith in
    let flag : (len + 32) / 32 ≡ 1 = omega arith in
    let high : (len + 32) / 64 ≡ 0 = omega arith in
    λ i. record { len = low i; wide = flag i % 2 == 1; right_half = high i == 1 }
text_back len false room =
    let low : len % 32 ≡ len = omega arith in
    let flag : len / 32 ≡ 0 = omega arith in
    let high : len / 64 ≡ 0 = omega arith in
    λ i. record { len = low i; wide = flag i % 2 == 1; right_half = high i == 1 }

pub shape_of-same : (a b : ShapeValue) → same_shape a b ≡ true → a ≡ b
unfolding same_shape
shape_of-same a b e =
    let (len, flags) = two_parts _ _ e in
    let (wide, right) = two_parts _ _ flags in
    λ i. record {
      len = eqb-true a.len b.len len i;
      wide = bool_of-same a.wide b.wide wide i;
      right_half = bool_of-same a.right_half b.right_half right i;
    }

pub same_shape-itself : (a : ShapeValue) → same_shape a a ≡ true
unfolding same_shape
same_shape-itself a = rw (itself a.len, same_bool-itself a.wide, same_bool-itself a.right_half) refl

-- Two packed shapes are equal as numbers exactly if they are equal as shapes.
pub shape_bits_same : (m n : ℕ) → shape_bits (shape_of m) ≡ m →
    shape_bits (shape_of n) ≡ n → (m == n) ≡ same_shape (shape_of m) (shape_of n)
shape_bits_same m n p q =
    alike (m == n) (same_shape (shape_of m) (shape_of n))
    (λ e. rw (eqb-true m n e) (same_shape-itself (shape_of n)))
    (λ e. rw (sym p ∙ ap shape_bits (shape_of-same (shape_of m) (shape_of n) e) ∙ q) (itself n))

-- A packed shape is 0 exactly if it is that of a blank.
pub no_bits : (m : ℕ) → shape_bits (shape_of m) ≡ m → (m == 0) ≡ same_shape (shape_of m) blank_shape
no_bits m p = shape_bits_same m 0 p refl

flag_bits : (flag : Bool) (n : ℕ) → (if flag then n else 0) ≤ n
flag_bits true n = omega arith
flag_bits false n = omega arith

-- A packed shape fits in seven bits.
pub shape_small : (m : ℕ) → shape_bits (shape_of m) ≡ m → m < 128
shape_small m p =
    let wide = flag_bits (m / 32 % 2 == 1) 32 in
    let right = flag_bits (m / 64 == 1) 64 in
    omega (arith, p, wide, right)

head_parts : (low high : ℕ) → low < 128
    → ((low + 128 * high) % 128 ≡ low) × ((low + 128 * high) / 128 ≡ high)
head_parts low high small = (omega arith, omega arith)

-- The head that a word stands for has the packed shape and the packed attributes that the word was made of.
pub head_made : (low high : ℕ) (shape : ShapeValue) (attrs : Attrs) → low < 128 → shape_of low ≡ shape
    → attrs_of_word high ≡ attrs → head_of (low + 128 * high) ≡ record { attrs = attrs; shape = shape }
head_made low high shape attrs small is_shape is_attrs =
    let parts = head_parts low high small in
    (λ i. record { attrs = attrs_of_word (parts.1 i); shape = shape_of (parts.0 i) })
    ∙ (λ i. record { attrs = is_attrs i; shape = is_shape i })

pub head_sound : (low high : ℕ)
    → low < 128 → shape_bits (shape_of low) ≡ low → IsAttrsWord high → IsHead (low + 128 * high)
head_sound low high small s a =
    let parts = head_parts low high small in record { shape = rw (parts.0) s; attrs = rw (parts.1) a }

pub head_of-same : (a b : HeadValue) → same_head a b ≡ true → a ≡ b
unfolding same_head
head_of-same a b e =
    let (shape, attrs) = two_parts _ _ e in
    λ i. record { attrs = attrs_of-same a.attrs b.attrs attrs i; shape = shape_of-same a.shape b.shape shape i }

pub same_head-itself : (a : HeadValue) → same_head a a ≡ true
unfolding same_head
same_head-itself a = rw (same_shape-itself a.shape, same_attrs-itself a.attrs) refl

-- Two packed heads are equal as numbers exactly if they are equal as heads.
pub heads_same : (m n : ℕ) → IsHead m → IsHead n → (m == n) ≡ same_head (head_of m) (head_of n)
heads_same m n p q =
    alike (m == n) (same_head (head_of m) (head_of n))
    (λ e. rw (eqb-true m n e) (same_head-itself (head_of n)))
    (λ e. rw (sym (head_back m p) ∙ ap head_word (head_of-same (head_of m) (head_of n) e) ∙ head_back n q) (itself n))

-- If the two high bits of the length are 0, the text has fewer than eight bytes.
pub short_head : (word : ℕ) → word / 8 % 4 ≡ 0 → word % 128 % 32 < 8
short_head word none = omega arith

-- If one of the two high bits of the length is not 0, the text has more than seven bytes.
pub long_head : (word : ℕ) → word / 8 % 4 ≢ 0 → 7 < word % 128 % 32
long_head word some = omega arith

-- The two high bits of the length, in their places, are 0 exactly if the text has fewer than eight bytes.
pub short_bits : (word : ℕ) → word % 32 / 8 * 8 ≡ 0 → word % 128 % 32 < 8
short_bits word none = omega arith

pub no_long_bits : (word : ℕ) → word % 128 % 32 < 8 → word % 32 / 8 * 8 ≡ 0
no_long_bits word short = omega arith

-- The highest bit of a packed shape is set exactly if the number is at least 64.
pub high_bit : (m : ℕ) → shape_bits (shape_of m) ≡ m → nat_le 64 m ≡ (m / 64 == 1)
high_bit m p =
    let wide = flag_bits (m / 32 % 2 == 1) 32 in
    let right = flag_bits (m / 64 == 1) 64 in
    let small : m < 128 = omega (arith, p, wide, right) in
    grind (arith, nat_tests)
