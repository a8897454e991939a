-- Runs of narrow and wide characters, and the code points of events.
use Rattle.std.proofs.Common.{◌≡◌, ◌≢◌, ℕ, ◌+◌, ◌*◌, ◌%◌, ◌<◌, ◌≤◌, nat_lt, Bool, true, false, List, [], ◌∷◌, ◌++◌}
use Rattle.std.proofs.Common.{refl, sym, subst, rules, arith, not, ◌||◌, Some, ◌-◌, Option, None, length, map, take}
use Rattle.std.proofs.Common.{drop, get_or, ◌∙◌, ap, zero, suc, add-one}
use Rattle.std.specs.Char.{IsScalar}
use Rattle.std.specs.List.{AllByRecursion}
use Rattle.std.specs.Prelude.{if◌then◌else◌, IfSome, All}
use Rattle.std.proofs.lemmas.Bool.Decides.{nat_tests}
use Rattle.ucd_table.specs.Rows.{Range, in_ranges}
use Rattle.ucd_table.proofs.Computing.{tables}
use Rattle.ucd_table.proofs.Facts.{Stepped-always}
use Rattle.ucd_table.proofs.Stepped.{of_ranges, zip_stepped}
use Rattle.std.proofs.lemmas.List.{length-drop, map-append, take_all, take_more, map_more, length-take, get_or-take}
use Rattle.std.proofs.lemmas.List.{get_or_default, append_assoc}
use Rattle.std.proofs.lemmas.List.Elements.{All-nil, All-cons, All-append}
use lib.Utf8.{scalar, low_scalar}
use Rattle.unicode_width.specs.Kind.{kind}
use Rattle.unicode_width.specs.Width.{alone, char_width, of_kind}
use Rattle.unicode_width.specs.declared.kind.Kind.{Kind as WidthKind}
use Rattle.unicode_width.specs.declared.kind.Kind.TheVariants as kinds
use Rattle.unicode_width.proofs.KindLemmas.{kind_stepped}
use Rattle.vt_cells.specs.Glyph.{columns_of}
use Rattle.vt_cells.proofs.Glyphs.{columns_of-ascii}
use Rattle.vt_scan.specs.Automaton.{State, Event, Step, Character, step_after, events_at_end, fresh_step}
use Rattle.vt_scan.specs.Automaton.{character_step, step_in, start, run}
use Rattle.vt_scan.specs.Characters.{is_character, is_beginning, character_of, continues, is_second}
use Rattle.vt_scan.specs.Table.{class_of, transition_of}
use Rattle.vt_scan.specs.declared.table.Class.{Class}
use Rattle.vt_scan.specs.declared.table.Ending.TheVariants as ends
use Rattle.vt_scan.specs.declared.table.Kind.{Kind}
use Rattle.vt_scan.specs.declared.table.Kind.TheVariants.{Ground, Escape, EscapeIntermediate, CsiEntry, CsiParam}
use Rattle.vt_scan.specs.declared.table.Kind.TheVariants.{CsiIntermediate, CsiIgnore, OscString, Skip}
use Rattle.vt_scan.specs.declared.table.Transition.{Transition}
use Rattle.vt_scan.specs.declared.table.Transition.TheVariants.{Collect, Drop, Execute, End}
use Rattle.vt_scan.specs.Texts.{AreNarrow, IsNarrowCharacter, IsNarrowCoded, back_with, IsWideCharacter, three_at}
use Rattle.vt_scan.specs.Texts.{AreWideThrees}
use Rattle.vt_scan.specs.Scanner.{FeedsAll, ScannerValue}
use Rattle.vt_scan.specs.Automaton as automaton
use Rattle.vt_scan.proofs.Steps.{step_in-table, stands_at}
use Rattle.vt_scan.proofs.Readback.{read_ascii, events_then, run-append, at_start, read_whole, whole_fed}
use Rattle.vt_scan.proofs.Leading.{feeds_none}

-- ==== The characters of events are code points of Unicode, whatever the bytes are.

-- If the event is a character, that character is a Unicode scalar value.
abbrev pub IsCoded : Event → Type 0
IsCoded (Character c) = IsScalar c
IsCoded _ = Unit {0}

abbrev pub AreCoded : List Event → Type 0
AreCoded events = AllByRecursion IsCoded events

coded_then : (xs ys : List Event) → AreCoded xs → AreCoded ys → AreCoded (xs ++ ys)
coded_then [] ys a b = b
coded_then (x ∷ xs) ys a b = (a.0, coded_then xs ys a.1 b)

-- ---- Characters of more than one byte

high_scalar : (c : ℕ) → 57344 ≤ c → c < 1114112 → scalar c ≡ true
high_scalar c l h = grind (arith, nat_tests)

two_bytes : (a b : ℕ) → is_character (a ∷ b ∷ []) ≡ true → IsScalar (a % 32 * 64 + b % 64)
unfolding is_character
two_bytes a b e = low_scalar (a % 32 * 64 + b % 64) (omega arith)

three_bytes : (a b c : ℕ) → is_character (a ∷ b ∷ c ∷ []) ≡ true → IsScalar (a % 16 * 4096 + b % 64 * 64 + c % 64)
unfolding is_character
three_bytes a b c e = grind (arith, nat_tests, low_scalar, high_scalar)

four_bytes : (a b c d : ℕ) → is_character (a ∷ b ∷ c ∷ d ∷ []) ≡ true →
    IsScalar (a % 8 * 262144 + b % 64 * 4096 + c % 64 * 64 + d % 64)
unfolding is_character
four_bytes a b c d e = grind (arith, nat_tests, low_scalar, high_scalar)

pub coded_character : (bytes : List ℕ) → is_character bytes ≡ true → IsScalar (character_of bytes)
coded_character [] e = low_scalar 0 (omega arith)
coded_character (a ∷ []) e = low_scalar 0 (omega arith)
coded_character (a ∷ b ∷ []) e = two_bytes a b e
coded_character (a ∷ b ∷ c ∷ []) e = three_bytes a b c e
coded_character (a ∷ b ∷ c ∷ d ∷ []) e = four_bytes a b c d e
coded_character (a ∷ b ∷ c ∷ d ∷ x ∷ xs) e = low_scalar 0 (omega arith)

-- ---- One byte

-- The transition prints a character only in the ground state.
abbrev PrintsIn : Kind → Transition → Type 0
PrintsIn kind (End next ends.Character) = kind ≡ Ground
PrintsIn kind _ = Unit {0}

turn_prints : (kind : Kind) (class : Class) → PrintsIn kind (transition_of kind class)
turn_prints kind class = search rules

coded_given : (kind : Kind) (end : _) (text : List ℕ) (b : ℕ) (next : Kind) →
    PrintsIn kind (End next end) → (kind ≡ Ground → b < 0x80) → AreCoded (events_at_end end text b)
coded_given kind ends.Nothing text b next p h = tt
coded_given kind ends.Character text b next p h = (low_scalar b (let l = h p in omega arith), tt)
coded_given kind ends.Executed text b next p h = (tt, tt)
coded_given kind ends.EscDispatch text b next p h = (tt, tt)
coded_given kind ends.CsiDispatch text b next p h = (tt, tt)
coded_given kind ends.OscDispatch text b next p h = (tt, tt)
coded_given kind ends.OscDispatchAndExecuted text b next p h = (tt, (tt, tt))

coded_after : (kind : Kind) (text : List ℕ) (b : ℕ) (turn : Transition) → PrintsIn kind turn →
    (kind ≡ Ground → b < 0x80) → AreCoded (step_after kind text b turn).events
coded_after kind text b (Collect next) p h = tt
coded_after kind text b Drop p h = tt
coded_after kind text b Execute p h = (tt, tt)
coded_after kind text b (End next end) p h = coded_given kind end text b next p h

coded_if : (b : Bool) (x y : Step) → (b ≡ true → AreCoded x.events) →
    (b ≡ false → AreCoded y.events) → AreCoded (if b then x else y).events
coded_if true x y f g = f refl
coded_if false x y f g = g refl

replacement : IsScalar 0xFFFD
replacement = high_scalar 0xFFFD (omega arith) (omega arith)

coded_fresh : (b : ℕ) → AreCoded (fresh_step b).events
unfolding fresh_step
coded_fresh b =
    coded_if (nat_lt b 0x80) _ _ (λ small. coded_after Ground [] b (transition_of Ground (class_of b))
    (turn_prints Ground (class_of b)) (λ e. grind (arith, nat_tests)))
    (λ large. coded_if (is_beginning (b ∷ [])) _ _ (λ begins. tt) (λ other. (replacement, tt)))

coded_more : (text : List ℕ) (b : ℕ) → AreCoded (character_step text b).events
unfolding character_step
coded_more text b =
    coded_if (is_character (text ++ b ∷ [])) _ _ (λ whole. (coded_character (text ++ b ∷ []) whole, tt))
    (λ more. coded_if (is_beginning (text ++ b ∷ [])) _ _ (λ begins. tt) (λ other. (replacement, coded_fresh b)))

coded_table : (kind : Kind) (text : List ℕ) (b : ℕ) → kind ≢ Ground → AreCoded (step_in kind text b).events
coded_table kind text b other =
    subst (λ (step : Step). AreCoded step.events) (sym (step_in-table kind text b other))
    (coded_after kind text b (transition_of kind (class_of b)) (turn_prints kind (class_of b)) (λ e. absurd (other e)))

coded_step : (kind : Kind) (text : List ℕ) (b : ℕ) → AreCoded (step_in kind text b).events
coded_step Ground [] b = coded_fresh b
coded_step Ground (x ∷ xs) b = coded_more (x ∷ xs) b
coded_step Escape text b = coded_table Escape text b (λ e. cc)
coded_step EscapeIntermediate text b = coded_table EscapeIntermediate text b (λ e. cc)
coded_step CsiEntry text b = coded_table CsiEntry text b (λ e. cc)
coded_step CsiParam text b = coded_table CsiParam text b (λ e. cc)
coded_step CsiIntermediate text b = coded_table CsiIntermediate text b (λ e. cc)
coded_step CsiIgnore text b = coded_table CsiIgnore text b (λ e. cc)
coded_step OscString text b = coded_table OscString text b (λ e. cc)
coded_step Skip text b = coded_table Skip text b (λ e. cc)

-- ---- Several bytes

pub coded_run : (state : State) (bytes : List ℕ) → AreCoded (run state bytes).events
coded_run state [] = tt
coded_run state (b ∷ bytes) =
    let step = step_in state.kind state.collected b in
    coded_then step.events (run step.state bytes).events
    (coded_step state.kind state.collected b) (coded_run step.state bytes)

-- ==== Blocks of Unicode in which every character takes one column.

-- Latin-1 without the soft hyphen, Latin Extended, Greek and Cyrillic without combining characters, box drawing and
-- block elements.
abbrev pub blocks : List Range
blocks = (0xA0, 0xAC) ∷ (0xAE, 0x2FF) ∷ (0x370, 0x482) ∷ (0x48A, 0x52F) ∷ (0x2500, 0x259F) ∷ []

is_one : WidthKind → Bool
is_one kinds.Narrow = true
is_one kinds.Ambiguous = true
is_one _ = false

-- A character is outside the blocks or takes one column, given whether it is in the blocks and how wide it is.
is_fit : Bool → WidthKind → Bool
is_fit inside found = not inside || is_one found

fits : (c : ℕ) → c ≤ 0x10_FFFF → is_fit (in_ranges blocks c) (kind c) ≡ true
unfolding tables kind_stepped is_fit is_one
fits = Stepped-always (λ c. is_fit (in_ranges blocks c) (kind c))
    (zip_stepped is_fit (in_ranges blocks) kind (of_ranges blocks refl) kind_stepped) refl

one : (inside : Bool) (c : ℕ) (found : WidthKind) → is_fit inside found ≡ true → inside ≡ true
    → (of_kind false c found).0 ≡ 1
unfolding is_fit is_one
one true c kinds.Narrow fit is = refl
one true c kinds.Ambiguous fit is = refl
one true c kinds.Wide fit is = cc
one true c kinds.Emoji fit is = cc
one true c kinds.Zero fit is = cc
one true c kinds.Alef fit is = cc
one true c kinds.KhmerLetter fit is = cc
one true c kinds.TifinaghConsonant fit is = cc
one true c kinds.LisuTone fit is = cc
one true c kinds.RegionalIndicator fit is = cc
one true c kinds.EmojiModifier fit is = cc
one true c kinds.Single fit is = cc
one false c found fit is = cc

-- Every character in the blocks takes one column.
columns_of-block : (c : ℕ) → c ≤ 0x10_FFFF → 0xA0 ≤ c → in_ranges blocks c ≡ true → columns_of c ≡ Some 1
unfolding columns_of char_width alone
columns_of-block c last high inside =
    let narrow = one (in_ranges blocks c) c (kind c) (fits c last) inside in
    grind (arith, nat_tests, narrow)

pub latin_1 : (c : ℕ) → 0xA0 ≤ c → c ≤ 0xAC → columns_of c ≡ Some 1
unfolding in_ranges
latin_1 c low high = columns_of-block c (omega arith) (omega arith) (grind (arith, nat_tests))

pub latin : (c : ℕ) → 0xAE ≤ c → c ≤ 0x2FF → columns_of c ≡ Some 1
unfolding in_ranges
latin c low high = columns_of-block c (omega arith) (omega arith) (grind (arith, nat_tests))

pub greek_and_cyrillic : (c : ℕ) → 0x370 ≤ c → c ≤ 0x482 → columns_of c ≡ Some 1
unfolding in_ranges
greek_and_cyrillic c low high = columns_of-block c (omega arith) (omega arith) (grind (arith, nat_tests))

pub cyrillic : (c : ℕ) → 0x48A ≤ c → c ≤ 0x52F → columns_of c ≡ Some 1
unfolding in_ranges
cyrillic c low high = columns_of-block c (omega arith) (omega arith) (grind (arith, nat_tests))

pub box_drawing : (c : ℕ) → 0x2500 ≤ c → c ≤ 0x259F → columns_of c ≡ Some 1
unfolding in_ranges
box_drawing c low high = columns_of-block c (omega arith) (omega arith) (grind (arith, nat_tests))

pub ruleset blocks_narrow = (latin_1, latin, greek_and_cyrillic, cyrillic, box_drawing)

-- ==== A run of narrow characters is read as its characters, one after another.

pub narrow_none : AreNarrow [] []
narrow_none = record { read = refl; narrow = All-nil IsNarrowCharacter }

-- A byte of printable ASCII is parsed as one narrow character.
pub narrow_byte : (b : ℕ) → 0x20 ≤ b → b < 0x7F → AreNarrow (b ∷ []) (b ∷ [])
narrow_byte b low high = record {
  read = read_ascii b low (omega arith);
  narrow =
      All-cons IsNarrowCharacter b []
      (low_scalar b (omega arith), (λ e. absurd (omega (arith, e)), columns_of-ascii b low high))
      (All-nil IsNarrowCharacter);
}

pub narrow_coded : (bytes : List ℕ) (c : ℕ) → IsNarrowCoded bytes c → AreNarrow bytes (c ∷ [])
narrow_coded bytes c is =
    let low = is.low in
    let scalar : IsScalar c = subst IsScalar (sym is.means) (coded_character bytes is.whole) in
    record {
      read = read_whole bytes is.whole ∙ ap (λ (k : ℕ). back_with (Character k ∷ [])) (sym is.means);
      narrow =
          All-cons IsNarrowCharacter c [] (scalar, (λ e. absurd (omega (arith, e, low)), is.narrow))
          (All-nil IsNarrowCharacter);
    }

-- ---- What the code finds

pub whole_two : (a b : ℕ) → 0xC2 ≤ a → a ≤ 0xDF → continues b ≡ true → is_character (a ∷ b ∷ []) ≡ true
unfolding is_character
whole_two a b low high second = grind (arith, nat_tests)

pub whole_three : (a b c : ℕ) → 0xE0 ≤ a → a ≤ 0xEF → is_second a b ≡ true → continues c ≡ true →
    is_character (a ∷ b ∷ c ∷ []) ≡ true
unfolding is_character
whole_three a b c low high second third = rw (second, third) (grind (arith, nat_tests))

pub coded_two : (a b code : ℕ) → is_character (a ∷ b ∷ []) ≡ true → code ≡ character_of (a ∷ b ∷ []) →
    columns_of code ≡ Some 1 → IsNarrowCoded (a ∷ b ∷ []) code
coded_two a b code whole means one =
    record { whole = whole; means = means; low = omega (arith, means); narrow = one }

pub coded_three : (a b c code : ℕ) → 0xE0 ≤ a → a ≤ 0xE2 → is_character (a ∷ b ∷ c ∷ []) ≡ true →
    code ≡ character_of (a ∷ b ∷ c ∷ []) → columns_of code ≡ Some 1 → IsNarrowCoded (a ∷ b ∷ c ∷ []) code
coded_three a b c code low high whole means one =
    record { whole = whole; means = means; low = omega (arith, means, low, high); narrow = one }

pub first_narrow : (bytes : List ℕ) (code : ℕ) → 0 < length bytes → 0x20 ≤ get_or bytes 0 0 → get_or bytes 0 0 < 0x7F →
    code ≡ get_or bytes 0 0 → AreNarrow (take 1 bytes) (code ∷ [])
first_narrow bytes code some low high same =
    subst (λ (bs : List ℕ). AreNarrow bs (code ∷ [])) (sym (take_more bytes 0 0 some))
    (subst (λ (c : ℕ). AreNarrow (get_or bytes 0 0 ∷ []) (c ∷ [])) (sym same) (narrow_byte (get_or bytes 0 0) low high))

pub coded_narrow : (bytes : List ℕ) (found : Option (ℕ × ℕ)) → IfSome found (λ f. IsNarrowCoded (take f.1 bytes) f.0) →
    IfSome found (λ f. AreNarrow (take f.1 bytes) (f.0 ∷ []))
coded_narrow bytes None is = tt
coded_narrow bytes (Some f) is = narrow_coded (take f.1 bytes) f.0 is

-- A slice of a list up to its end is the list without the items before the slice.
pub all_left : (bytes : List ℕ) (k : ℕ) → take (length bytes - k) (drop k bytes) ≡ drop k bytes
all_left bytes k = take_all (length bytes - k) (drop k bytes) (omega (arith, length-drop k bytes))

-- ---- One run after another

pub narrow_then : (a b xs ys : List ℕ) → AreNarrow a xs → AreNarrow b ys → AreNarrow (a ++ b) (xs ++ ys)
narrow_then a b xs ys first second = record {
  read =
      run-append start a b
      ∙ (ap (λ (step : Step). events_then step.events (run step.state b)) first.read
      ∙ (ap (events_then (map Character xs)) second.read
      ∙ ap back_with (sym (map-append Character xs ys))));
  narrow = All-append IsNarrowCharacter xs ys first.narrow second.narrow;
}

pub narrow_fed : (held : ScannerValue) (bytes text : List ℕ) → held.kind ≡ Ground → held.unfinished ≡ [] →
    AreNarrow bytes text → FeedsAll held bytes held (map Character text)
narrow_fed held bytes text is none narrow = λ s stands.
    rw (ap (λ (z : State). run z bytes) (at_start held s is none stands) ∙ narrow.read)
    (stands_at held [] is none, refl)

-- ==== Characters of three bytes and two columns are read one after the other.

feeds_then : (held : ScannerValue) (a b : List ℕ) (xs ys : List automaton.Event) →
    FeedsAll held a held xs → FeedsAll held b held ys → FeedsAll held (a ++ b) held (xs ++ ys)
feeds_then held a b xs ys first second = λ s stands.
    let one = first s stands in
    let two = second (run s a).state one.0 in
    rw (run-append s a b) (
      two.0,
      ap (λ (es : List automaton.Event). es ++ (run (run s a).state b).events) one.1
          ∙ ap (λ (es : List automaton.Event). xs ++ es) two.1,
    )

take_three : (bytes : List ℕ) (m : ℕ) → 3 * suc m ≤ length bytes →
    take (3 * suc m) bytes ≡ take (3 * m) bytes ++ three_at bytes m
take_three bytes m h =
    let i : 3 * suc m ≡ 3 * m + 1 + 1 + 1 = omega arith in
    let j : 3 * m + 1 + 1 ≡ 3 * m + 2 = omega arith in
    let a = get_or bytes (3 * m) 0 in
    let b = get_or bytes (3 * m + 1) 0 in
    let c = get_or bytes (3 * m + 2) 0 in
    let third : take (3 * m + 1 + 1 + 1) bytes ≡ take (3 * m + 1 + 1) bytes ++ c ∷ [] =
    take_more bytes (3 * m + 1 + 1) 0 (omega arith)
    ∙ ap (λ (k : ℕ). take (3 * m + 1 + 1) bytes ++ get_or bytes k 0 ∷ []) j in
    ap (λ (k : ℕ). take k bytes) i
    ∙ (third
    ∙ (ap (λ (xs : List ℕ). xs ++ c ∷ []) (take_more bytes (3 * m + 1) 0 (omega arith))
    ∙ (ap (λ (xs : List ℕ). (xs ++ b ∷ []) ++ c ∷ []) (take_more bytes (3 * m) 0 (omega arith))
    ∙ (ap (λ (xs : List ℕ). xs ++ c ∷ []) (append_assoc (take (3 * m) bytes) (a ∷ []) (b ∷ []))
    ∙ append_assoc (take (3 * m) bytes) (a ∷ b ∷ []) (c ∷ [])))))

pub wide_fed : (n : ℕ) (held : ScannerValue) (bytes text : List ℕ) → held.kind ≡ Ground → held.unfinished ≡ [] →
    3 * n ≤ length bytes → n ≤ length text → AreWideThrees n bytes text →
    FeedsAll held (take (3 * n) bytes) held (map Character (take n text))
wide_fed zero held bytes text is none h r all = feeds_none held
wide_fed (suc m) held bytes text is none h r all =
    let last = all m (omega arith) in
    let before = wide_fed m held bytes text is none (omega arith) (omega arith) (λ k lt. all k (omega (arith, lt))) in
    let own = whole_fed held (three_at bytes m) (get_or text m 0) is none last.whole last.means in
    let events : map Character (take (suc m) text) ≡ map Character (take m text) ++ Character (get_or text m 0) ∷ [] =
    ap (λ (k : ℕ). map Character (take k text)) (sym (add-one m)) ∙ map_more Character text m 0 (omega arith) in
    rw (take_three bytes m h, events)
    (feeds_then held (take (3 * m) bytes) (three_at bytes m) (map Character (take m text))
    (Character (get_or text m 0) ∷ []) before own)

pub wide_all : (n : ℕ) (bytes text : List ℕ) → n ≤ length text → AreWideThrees n bytes text →
    All IsWideCharacter (take n text)
wide_all n bytes text r all = λ k d lt.
    let l : length (take n text) ≡ n = omega (arith, length-take n text) in
    let inside : k < n = omega (arith, lt, l) in
    let one = all k inside in
    let same : get_or (take n text) k d ≡ get_or text k 0 =
    get_or-take n text k d inside ∙ get_or_default text k d 0 (omega (arith, inside, r)) in
    let scalar : IsScalar (get_or text k 0) =
    subst IsScalar (sym one.means) (coded_character (three_at bytes k) one.whole) in
    let low : get_or text k 0 ≢ 0xFFFD = λ e. absurd (omega (arith, e, one.low)) in
    let drawn : IsWideCharacter (get_or text k 0) = (scalar, (low, one.wide)) in
    subst IsWideCharacter (sym same) drawn
