-- The bytes of operations and of SGR changes.
use Rattle.std.proofs.Common.{◌≡◌, ℕ, zero, suc, ◌+◌, ◌<◌, ◌^◌, Bool, true, false, List, [], ◌∷◌, ◌++◌, decimal}
use Rattle.std.proofs.Common.{if◌then◌else◌, true≢false, IsAscii, arith, ◌≢◌, ◌-◌, ◌*◌, ◌/◌, ◌%◌, ◌≤◌, length, refl}
use Rattle.std.proofs.Common.{sym, ap, ◌∙◌, append_assoc, append-nil, length-append}
use Rattle.std.specs.List.{AllByRecursion}
use Rattle.std.proofs.lemmas.Fmt.{IsAscii-decimal, decimal_digit, decimal_step, length-decimal-le}
use Rattle.std.proofs.lemmas.List.Concat.{flat_map-append}
use Rattle.std.proofs.lemmas.Str.Ascii.{IsAscii-cons, IsAscii-nil, IsAscii-push}
use Rattle.vt_cells.specs.Attrs.{default_attrs, same_attrs, Attrs, same_bool, same_color}
use Rattle.vt_cells.specs.Op.{Op, Hide, ClearAttrs, MoveTo, MoveRight, NextRow, LineFeed, Backspace, EraseBelow}
use Rattle.vt_cells.specs.Op.{EraseRest, EraseChars, SaveCursor, RestoreCursor, ChangeAttrs, Print, FitsAttrs, FitsOp}
use Rattle.vt_cells.specs.Op.{bytes_of, bytes_of_all, change_numbers, change_text, counted, csi, is_print}
use Rattle.vt_cells.specs.Op.{semicolon_list, place, part}
use Rattle.vt_cells.specs.Internals.{same_switches, AppendsNumbers, lead_after, numbers_after, style_part}
use Rattle.vt_cells.specs.Internals.{switches_part}
use Rattle.vt_cells.specs.declared.color.Color.{Color}
use Rattle.vt_cells.proofs.Attributes.{AllBytes, AllBytes-change_numbers, background_part, foreground_part, joined_is}
use Rattle.vt_cells.proofs.Attributes.{two_parts}

-- ==== The bytes of lists of operations: they concatenate, and are ASCII except for printed text.

-- The bytes of two concatenated lists of operations are the concatenation of their bytes.
pub bytes_of_all-append : (ops more : List Op) → bytes_of_all (ops ++ more) ≡ bytes_of_all ops ++ bytes_of_all more
bytes_of_all-append ops more = flat_map-append bytes_of ops more

IsAscii-append : (xs ys : List ℕ) → IsAscii xs → IsAscii ys → IsAscii (xs ++ ys)
IsAscii-append [] ys h k = k
IsAscii-append (x ∷ xs) ys h k = IsAscii-cons x (xs ++ ys) (h zero) (IsAscii-append xs ys (λ i. h (suc i)) k)

IsAscii-csi : (parameters : List ℕ) (final : ℕ) → final < 128 → IsAscii parameters → IsAscii (csi parameters final)
IsAscii-csi parameters final l h =
    IsAscii-cons 0x1B (0x5B ∷ (parameters ++ final ∷ [])) (omega arith)
    (IsAscii-cons 0x5B (parameters ++ final ∷ []) (omega arith) (IsAscii-push parameters final h l))

IsAscii-counted : (n final : ℕ) → n < 2 ^ 16 → final < 128 → IsAscii (counted n final)
IsAscii-counted zero final h l = IsAscii-nil
IsAscii-counted (suc zero) final h l = IsAscii-csi [] final l IsAscii-nil
IsAscii-counted (suc (suc n)) final h l =
    IsAscii-csi (decimal (suc (suc n))) final l (IsAscii-decimal (suc (suc n)) (omega arith))

IsAscii-pair : (m n : ℕ) → m < 2 ^ 64 → n < 2 ^ 64 → IsAscii (decimal m ++ 0x3B ∷ decimal n)
IsAscii-pair m n h k =
    IsAscii-append (decimal m) (0x3B ∷ decimal n) (IsAscii-decimal m h)
    (IsAscii-cons 0x3B (decimal n) (omega arith) (IsAscii-decimal n k))

IsAscii-place : (row col : ℕ) → row < 2 ^ 16 → col < 2 ^ 16 → IsAscii (place row col)
IsAscii-place zero zero h k = IsAscii-nil
IsAscii-place zero (suc col) h k = IsAscii-pair (zero + 1) (suc col + 1) (omega arith) (omega arith)
IsAscii-place (suc row) zero h k = IsAscii-pair (suc row + 1) (zero + 1) (omega arith) (omega arith)
IsAscii-place (suc row) (suc col) h k = IsAscii-pair (suc row + 1) (suc col + 1) (omega arith) (omega arith)

IsAscii-joined : (ns : List ℕ) → AllBytes ns → IsAscii (semicolon_list ns)
IsAscii-joined [] h = IsAscii-nil
IsAscii-joined (n ∷ []) h = IsAscii-decimal n (omega (arith, h.0))
IsAscii-joined (n ∷ m ∷ ns) h =
    IsAscii-append (decimal n) (0x3B ∷ semicolon_list (m ∷ ns)) (IsAscii-decimal n (omega (arith, h.0)))
    (IsAscii-cons 0x3B (semicolon_list (m ∷ ns)) (omega arith) (IsAscii-joined (m ∷ ns) h.1))

ascii_if : (b : Bool) (xs ys : List ℕ) → IsAscii xs → IsAscii ys → IsAscii (if b then xs else ys)
ascii_if true xs ys h k = h
ascii_if false xs ys h k = k

IsAscii-change_text : (was new : Attrs) → FitsAttrs new → IsAscii (change_text was new)
unfolding change_text
IsAscii-change_text was new h =
    ascii_if (same_attrs was new) _ _ IsAscii-nil
    (ascii_if (same_attrs new default_attrs) _ _ (IsAscii-csi [] 0x6D (omega arith) IsAscii-nil)
    (IsAscii-csi (semicolon_list (change_numbers was new)) 0x6D (omega arith)
    (IsAscii-joined (change_numbers was new) (AllBytes-change_numbers was new h))))

IsAscii-two : (a b : ℕ) → a < 128 → b < 128 → IsAscii (a ∷ b ∷ [])
IsAscii-two a b h k = IsAscii-cons a (b ∷ []) h (IsAscii-cons b [] k IsAscii-nil)

-- The parameter of DECTCEM is ASCII.
IsAscii-hide : IsAscii (0x3F ∷ 0x32 ∷ 0x35 ∷ [])
IsAscii-hide = IsAscii-cons 0x3F (0x32 ∷ 0x35 ∷ []) (omega arith) (IsAscii-two 0x32 0x35 (omega arith) (omega arith))

-- The bytes of an operation that prints nothing are ASCII.
pub IsAscii-bytes_of : (op : Op) → FitsOp op → is_print op ≡ false → IsAscii (bytes_of op)
IsAscii-bytes_of (Hide true) h p = IsAscii-csi (0x3F ∷ 0x32 ∷ 0x35 ∷ []) 0x6C (omega arith) IsAscii-hide
IsAscii-bytes_of (Hide false) h p = IsAscii-csi (0x3F ∷ 0x32 ∷ 0x35 ∷ []) 0x68 (omega arith) IsAscii-hide
IsAscii-bytes_of ClearAttrs h p = IsAscii-csi [] 0x6D (omega arith) IsAscii-nil
IsAscii-bytes_of (MoveTo row col) h p =
    IsAscii-csi (place row col) 0x48 (omega arith) (IsAscii-place row col h.0 h.1)
IsAscii-bytes_of (MoveRight count) h p = IsAscii-counted count 0x43 h (omega arith)
IsAscii-bytes_of NextRow h p = IsAscii-two 0x0D 0x0A (omega arith) (omega arith)
IsAscii-bytes_of LineFeed h p = IsAscii-cons 0x0A [] (omega arith) IsAscii-nil
IsAscii-bytes_of Backspace h p = IsAscii-cons 0x08 [] (omega arith) IsAscii-nil
IsAscii-bytes_of EraseBelow h p = IsAscii-csi [] 0x4A (omega arith) IsAscii-nil
IsAscii-bytes_of EraseRest h p = IsAscii-csi [] 0x4B (omega arith) IsAscii-nil
IsAscii-bytes_of (EraseChars count) h p = IsAscii-counted count 0x58 h (omega arith)
IsAscii-bytes_of SaveCursor h p = IsAscii-two 0x1B 0x37 (omega arith) (omega arith)
IsAscii-bytes_of RestoreCursor h p = IsAscii-two 0x1B 0x38 (omega arith) (omega arith)
IsAscii-bytes_of (ChangeAttrs was new) h p = IsAscii-change_text was new h.1
IsAscii-bytes_of (Print text) h p = absurd (true≢false p)

-- The bytes of operations that print nothing are ASCII.
pub IsAscii-bytes_of_all : (ops : List Op) → AllByRecursion (λ op. FitsOp op × (is_print op ≡ false)) ops →
    IsAscii (bytes_of_all ops)
IsAscii-bytes_of_all [] h = IsAscii-nil
IsAscii-bytes_of_all (op ∷ ops) h =
    IsAscii-append (bytes_of op) (bytes_of_all ops) (IsAscii-bytes_of op h.0.0 h.0.1) (IsAscii-bytes_of_all ops h.1)

-- ==== The text of an SGR change, appended number by number.

-- A byte has at most three decimal digits.
pub digits_of_byte : (n : ℕ) → n < 256 → length (decimal n) ≤ 3
digits_of_byte n h = length-decimal-le 3 n (omega arith) (omega arith) (omega arith)

-- A number of 32 bits has at most ten decimal digits.
pub digits_of_count : (n : ℕ) → n < 2 ^ 32 → length (decimal n) ≤ 10
digits_of_count n h = length-decimal-le 10 n (omega arith) (omega arith) (omega arith)

pub one_digit : (old : List ℕ) (lead n : ℕ) → n < 10 →
    (old ++ lead ∷ []) ++ (48 + n) ∷ [] ≡ old ++ lead ∷ decimal n
one_digit old lead n h =
    append_assoc old (lead ∷ []) ((48 + n) ∷ [])
    ∙ ap (λ (ds : List ℕ). old ++ lead ∷ ds) (sym (decimal_digit n h))

two_digits : (n : ℕ) → 10 ≤ n → n < 100 → decimal n ≡ (48 + n / 10) ∷ (48 + n % 10) ∷ []
two_digits n lo hi =
    decimal_step n lo (omega arith) ∙ ap (λ (ds : List ℕ). ds ++ (48 + n % 10) ∷ []) (decimal_digit (n / 10) (omega arith))

three_digits : (n : ℕ) → 100 ≤ n → n < 1000 →
    decimal n ≡ (48 + n / 100) ∷ (48 + n / 10 % 10) ∷ (48 + n % 10) ∷ []
three_digits n lo hi =
    let hundreds : n / 10 / 10 ≡ n / 100 = omega arith in
    decimal_step n (omega arith) (omega arith)
    ∙ (ap (λ (ds : List ℕ). ds ++ (48 + n % 10) ∷ []) (two_digits (n / 10) (omega arith) (omega arith))
    ∙ ap (λ (k : ℕ). (48 + k) ∷ (48 + n / 10 % 10) ∷ (48 + n % 10) ∷ []) hundreds)

pub two_more : (old : List ℕ) (lead n : ℕ) → 10 ≤ n → n < 100 →
    ((old ++ lead ∷ []) ++ (48 + n / 10) ∷ []) ++ (48 + n % 10) ∷ [] ≡ old ++ lead ∷ decimal n
two_more old lead n lo hi =
    append_assoc (old ++ lead ∷ []) ((48 + n / 10) ∷ []) ((48 + n % 10) ∷ [])
    ∙ (append_assoc old (lead ∷ []) ((48 + n / 10) ∷ (48 + n % 10) ∷ [])
    ∙ ap (λ (ds : List ℕ). old ++ lead ∷ ds) (sym (two_digits n lo hi)))

hundreds_more : (old : List ℕ) (lead h n : ℕ) → h < 10 → 0 < h → 100 * h ≤ n → n < 100 * h + 100 →
    (((old ++ lead ∷ []) ++ (48 + h) ∷ []) ++ (48 + (n - 100 * h) / 10) ∷ []) ++ (48 + (n - 100 * h) % 10) ∷ []
    ≡ old ++ lead ∷ decimal n
hundreds_more old lead h n digit some lo hi =
    let first : h ≡ n / 100 = omega arith in
    let second : (n - 100 * h) / 10 ≡ n / 10 % 10 = omega arith in
    let third : (n - 100 * h) % 10 ≡ n % 10 = omega arith in
    append_assoc ((old ++ lead ∷ []) ++ (48 + h) ∷ []) ((48 + (n - 100 * h) / 10) ∷ []) ((48 + (n - 100 * h) % 10) ∷ [])
    ∙ (append_assoc (old ++ lead ∷ []) ((48 + h) ∷ []) ((48 + (n - 100 * h) / 10) ∷ (48 + (n - 100 * h) % 10) ∷ [])
    ∙ (append_assoc old (lead ∷ []) ((48 + h) ∷ (48 + (n - 100 * h) / 10) ∷ (48 + (n - 100 * h) % 10) ∷ [])
    ∙ ap (λ (ds : List ℕ). old ++ lead ∷ ds)
    (ap (λ (a : ℕ). (48 + a) ∷ (48 + (n - 100 * h) / 10) ∷ (48 + (n - 100 * h) % 10) ∷ []) first
    ∙ (ap (λ (a : ℕ). (48 + n / 100) ∷ (48 + a) ∷ (48 + (n - 100 * h) % 10) ∷ []) second
    ∙ (ap (λ (a : ℕ). (48 + n / 100) ∷ (48 + n / 10 % 10) ∷ (48 + a) ∷ []) third
    ∙ sym (three_digits n (omega arith) (omega arith)))))))

pub one_hundred_more : (old : List ℕ) (lead n : ℕ) → 100 ≤ n → n < 200 →
    (((old ++ lead ∷ []) ++ 49 ∷ []) ++ (48 + (n - 100) / 10) ∷ []) ++ (48 + (n - 100) % 10) ∷ []
    ≡ old ++ lead ∷ decimal n
one_hundred_more old lead n lo hi = hundreds_more old lead 1 n (omega arith) (omega arith) lo hi

pub two_hundred_more : (old : List ℕ) (lead n : ℕ) → 200 ≤ n → n < 256 →
    (((old ++ lead ∷ []) ++ 50 ∷ []) ++ (48 + (n - 200) / 10) ∷ []) ++ (48 + (n - 200) % 10) ∷ []
    ≡ old ++ lead ∷ decimal n
two_hundred_more old lead n lo hi = hundreds_more old lead 2 n (omega arith) (omega arith) lo (omega arith)

pub tens_more : (old : List ℕ) (lead tens unit : ℕ) → 0 < tens → tens < 10 → unit < 10 →
    ((old ++ lead ∷ []) ++ (48 + tens) ∷ []) ++ (48 + unit) ∷ [] ≡ old ++ lead ∷ decimal (10 * tens + unit)
tens_more old lead tens unit some digit last =
    let n = 10 * tens + unit in
    let first : tens ≡ n / 10 = omega arith in
    let second : unit ≡ n % 10 = omega arith in
    ap (λ (a : ℕ). ((old ++ lead ∷ []) ++ (48 + a) ∷ []) ++ (48 + unit) ∷ []) first
    ∙ (ap (λ (a : ℕ). ((old ++ lead ∷ []) ++ (48 + n / 10) ∷ []) ++ (48 + a) ∷ []) second
    ∙ two_more old lead n (omega arith) (omega arith))

-- Appending the digits of a number one after the other appends the number.
pub ruleset digits_appended = (one_digit, two_more, tens_more, one_hundred_more, two_hundred_more)

pub longer_by_number : (n most lead : ℕ) (old new : List ℕ) → length (decimal n) ≤ most →
    new ≡ old ++ lead ∷ decimal n → length new ≤ length old + (most + 1)
longer_by_number n most lead old new digits e =
    let whole = ap length e in
    let both = length-append old (lead ∷ decimal n) in
    omega arith

-- ---- numbers one after the other

-- After any numbers, the next number is preceded by `;` if the first was.
lead_stays : (ns : List ℕ) → lead_after 0x3B ns ≡ 0x3B
lead_stays [] = refl
lead_stays (n ∷ ns) = refl

numbers_then : (lead : ℕ) (ms ns : List ℕ) →
    numbers_after lead (ms ++ ns) ≡ numbers_after lead ms ++ numbers_after (lead_after lead ms) ns
numbers_then lead [] ns = refl
numbers_then lead (m ∷ ms) ns =
    ap (λ (rest : List ℕ). (lead ∷ decimal m) ++ rest)
    (numbers_then 0x3B ms ns
    ∙ ap (λ (k : ℕ). numbers_after 0x3B ms ++ numbers_after k ns) (lead_stays ms))
    ∙ sym (append_assoc (lead ∷ decimal m) (numbers_after 0x3B ms) (numbers_after 0x3B ns))

lead_then : (lead : ℕ) (ms ns : List ℕ) → lead_after lead (ms ++ ns) ≡ lead_after (lead_after lead ms) ns
lead_then lead [] ns = refl
lead_then lead (m ∷ ms) ns = sym (lead_stays ns)

-- Appending numbers, and then other numbers, appends all of them.
pub appends_then : (old mid new : List ℕ) (lead next last most more : ℕ) (ms ns : List ℕ)
    → AppendsNumbers old mid lead next most ms → AppendsNumbers mid new next last more ns
    → AppendsNumbers old new lead last (most + more) (ms ++ ns)
appends_then old mid new lead next last most more ms ns p q = record {
  text =
      q.text
      ∙ (ap (λ (k : ℕ). mid ++ numbers_after k ns) p.next
      ∙ (ap (λ (xs : List ℕ). xs ++ numbers_after (lead_after lead ms) ns) p.text
      ∙ (append_assoc old (numbers_after lead ms) (numbers_after (lead_after lead ms) ns)
      ∙ ap (λ (xs : List ℕ). old ++ xs) (sym (numbers_then lead ms ns)))));
  next = q.next ∙ (ap (λ (k : ℕ). lead_after k ns) p.next ∙ sym (lead_then lead ms ns));
  room = omega (arith, p.room, q.room);
}

-- If nothing differs, no number is appended.
pub appends_none : (old : List ℕ) (lead most : ℕ) → AppendsNumbers old old lead lead most []
appends_none old lead most = record { text = sym (append-nil old); next = refl; room = omega arith }

pub appends_one : (old new : List ℕ) (lead n most : ℕ) → 4 ≤ most → new ≡ old ++ lead ∷ decimal n →
    length new ≤ length old + 4 → AppendsNumbers old new lead 0x3B most (n ∷ [])
appends_one old new lead n most le e room = record {
  text = e ∙ ap (λ (xs : List ℕ). old ++ xs) (sym (append-nil (lead ∷ decimal n)));
  next = refl;
  room = omega (arith, le, room);
}

pub unchanged_color : (a b : Color) (old ns : List ℕ) (lead most : ℕ) → same_color a b ≡ true →
    AppendsNumbers old old lead lead most (part (same_color a b) ns)
unchanged_color a b old ns lead most e = rw e (appends_none old lead most)

pub changed_color : (a b : Color) (old new ns : List ℕ) (lead most : ℕ) → same_color a b ≡ false →
    AppendsNumbers old new lead 0x3B most ns → AppendsNumbers old new lead 0x3B most (part (same_color a b) ns)
changed_color a b old new ns lead most e h = rw e h

-- If italics, underline and inverse do not differ, they have no parameters.
no_switches : (was new : Attrs) → same_switches was new ≡ true → switches_part was new ≡ []
unfolding same_switches
no_switches was new e =
    let (italic, rest) = two_parts (same_bool was.italic new.italic) _ e in
    let (underline, inverse) =
    two_parts (same_bool was.underline new.underline) (same_bool was.inverse new.inverse) rest in
    rw (italic, underline, inverse) refl

pub unchanged_switches : (was new : Attrs) (old : List ℕ) (lead most : ℕ) → same_switches was new ≡ true →
    AppendsNumbers old old lead lead most (switches_part was new)
unchanged_switches was new old lead most e = rw (no_switches was new e) (appends_none old lead most)

-- The lemmas on the parameters that a change of a color adds.
pub ruleset numbers_appended = (unchanged_color, changed_color, appends_one)

-- ---- the whole sequence

-- The three parts of a change make up its parameters.
pub change_parts : (was new : Attrs)
    → foreground_part was new ++ (background_part was new ++ style_part was new) ≡ change_numbers was new
unfolding change_numbers
change_parts was new = refl

after_numbers : (n : ℕ) (ns : List ℕ) → numbers_after 0x5B (n ∷ ns) ≡ 0x5B ∷ semicolon_list (n ∷ ns)
after_numbers n ns = ap (λ (xs : List ℕ). 0x5B ∷ xs) (sym (joined_is n ns))

-- Numbers after `ESC`, and then the final byte, make up a sequence, if there are numbers.
pub sequence_ended : (old text : List ℕ) (ns : List ℕ) (final lead : ℕ) → lead ≡ lead_after 0x5B ns → lead ≢ 0x5B →
    text ≡ (old ++ 0x1B ∷ []) ++ numbers_after 0x5B ns →
    text ++ final ∷ [] ≡ old ++ csi (semicolon_list ns) final
sequence_ended old text [] final lead e other is = absurd (other e)
sequence_ended old text (n ∷ ns) final lead e other is =
    ap (λ (xs : List ℕ). xs ++ final ∷ []) is
    ∙ (append_assoc (old ++ 0x1B ∷ []) (numbers_after 0x5B (n ∷ ns)) (final ∷ [])
    ∙ (append_assoc old (0x1B ∷ []) (numbers_after 0x5B (n ∷ ns) ++ final ∷ [])
    ∙ ap (λ (xs : List ℕ). old ++ 0x1B ∷ (xs ++ final ∷ [])) (after_numbers n ns)))

-- A sequence without numbers needs its introducer.
pub sequence_without : (old text : List ℕ) (ns : List ℕ) (final lead : ℕ) → lead ≡ lead_after 0x5B ns → lead ≡ 0x5B →
    text ≡ (old ++ 0x1B ∷ []) ++ numbers_after 0x5B ns →
    (text ++ 0x5B ∷ []) ++ final ∷ [] ≡ old ++ csi (semicolon_list ns) final
sequence_without old text [] final lead e same is =
    append_assoc text (0x5B ∷ []) (final ∷ [])
    ∙ (ap (λ (xs : List ℕ). xs ++ 0x5B ∷ final ∷ []) (is ∙ append-nil (old ++ 0x1B ∷ []))
    ∙ append_assoc old (0x1B ∷ []) (0x5B ∷ final ∷ []))
sequence_without old text (n ∷ ns) final lead e same is = absurd (omega (arith, e, same))
