-- The kept numbers of a parameter text, and decimal numbers that are read as they were written.
use Rattle.std.proofs.Common.{◌≡◌, ℕ, ◌+◌, ◌-◌, ◌<◌, ◌≤◌, ◌≢◌, Bool, true, false, nat_lt, List, [], ◌∷◌, ◌++◌, length}
use Rattle.std.proofs.Common.{get_or, set, take, refl, sym, ◌∙◌, ap, arith, zero, suc, ◌*◌, ◌%◌, ◌^◌, ◌==◌, map, min}
use Rattle.std.proofs.Common.{decimal}
use Rattle.std.proofs.lemmas.List.{append_assoc, append-nil, get_or-set_same, length-set, set-get_or, take_more}
use Rattle.std.proofs.lemmas.List.{take_more_set}
use Rattle.std.proofs.lemmas.Bool.Decides.{nat_tests}
use Rattle.std.specs.List.{All, slice_split}
use Rattle.std.proofs.lemmas.Fmt.{decimal_by_steps}
use Rattle.std.proofs.lemmas.List.Splits.{slice_split_at, slice_split_none}
use Rattle.std.proofs.lemmas.List.Elements.{All-head, All-tail, All-push, All-cons, All-nil, All-weaker}
use Rattle.vt_cells.specs.Op.{semicolon_list, place}
use Rattle.vt_scan.specs.Parameters.{GroupTable, groups_of, total, first_numbers, table_of, number_of, numbers_of}
use Rattle.vt_scan.specs.Internals.{groups_from, Ascends}
use Rattle.vt_scan.specs.Texts.{IsParameterText, place_groups}
use Rattle.vt_scan.proofs.Lists.{on_last}
use Rattle.vt_scan.proofs.ParameterGroups.{with_digit, with_number, groups_of-digit, groups_of-colon}
use Rattle.vt_scan.proofs.ParameterGroups.{groups_of-semicolon, groups_of-empty, groups_of-all_some, groups_of-some}
use Rattle.vt_scan.proofs.ParameterGroups.{total-append, total-digit, total-number, first_numbers-all}
use Rattle.vt_scan.proofs.ParameterGroups.{first_numbers-digit, first_numbers-number, first_numbers-groups}
use Rattle.vt_scan.proofs.ParameterGroups.{groups_from-digit, groups_from-number, groups_from-group, groups_from-total}
use Rattle.vt_scan.proofs.ParameterGroups.{Ascends-group, number_of-push, number_of-empty}

-- ==== The kept numbers of a parameter text that grows at its end.

abbrev pub table : List (List ℕ) → Bool → GroupTable
table groups is_cut = record { groups = groups; is_cut = is_cut }

-- If a text has at most 32 numbers, all of them are kept.
pub whole : (text : List ℕ) → total (groups_of text) ≤ 32 → table_of text ≡ table (groups_of text) false
unfolding table_of
whole text h =
    let test : nat_lt 32 (total (groups_of text)) ≡ false = grind (arith, nat_tests) in
    ap (λ g. table g (nat_lt 32 (total (groups_of text))))
    (first_numbers-all 32 (groups_of text) (groups_of-all_some text) h)
    ∙ ap (table (groups_of text)) test

-- If a text has more than 32 numbers, the first 32 are kept.
pub cut : (text : List ℕ) → 32 < total (groups_of text) → table_of text ≡ table (first_numbers 32 (groups_of text)) true
unfolding table_of
cut text h =
    let test : nat_lt 32 (total (groups_of text)) ≡ true = grind (arith, nat_tests) in
    ap (table (first_numbers 32 (groups_of text))) test

groups_is : (text : List ℕ) → (table_of text).groups ≡ first_numbers 32 (groups_of text)
unfolding table_of
groups_is text = refl

cut_is : (text : List ℕ) → (table_of text).is_cut ≡ nat_lt 32 (total (groups_of text))
unfolding table_of
cut_is text = refl

pub is_whole : (groups : List (List ℕ)) (text : List ℕ) →
    table groups false ≡ table_of text → total (groups_of text) ≤ 32
is_whole groups text e =
    let test : nat_lt 32 (total (groups_of text)) ≡ false = sym (ap (λ (t : GroupTable). t.is_cut) e ∙ cut_is text) in
    grind (arith, nat_tests)

pub is_cut : (groups : List (List ℕ)) (text : List ℕ) → table groups true ≡ table_of text → 32 < total (groups_of text)
is_cut groups text e =
    let test : nat_lt 32 (total (groups_of text)) ≡ true = sym (ap (λ (t : GroupTable). t.is_cut) e ∙ cut_is text) in
    grind (arith, nat_tests)

first_is : (groups : List (List ℕ)) (b : Bool) (text : List ℕ) →
    table groups b ≡ table_of text → groups ≡ first_numbers 32 (groups_of text)
first_is groups b text e = ap (λ (t : GroupTable). t.groups) e ∙ groups_is text

pub whole_is : (groups : List (List ℕ)) (text : List ℕ) → table groups false ≡ table_of text → groups ≡ groups_of text
whole_is groups text e =
    first_is groups false text e
    ∙ first_numbers-all 32 (groups_of text) (groups_of-all_some text) (is_whole groups text e)

pub table-empty : table ((0 ∷ []) ∷ []) false ≡ table_of []
table-empty = sym (whole [] (rw groups_of-empty (omega arith)) ∙ ap (λ g. table g false) groups_of-empty)

pub digit_kept : (groups : List (List ℕ)) (text : List ℕ) (b : ℕ) → b < 0x3A → table groups false ≡ table_of text →
    table (on_last (on_last (with_digit b)) groups) false ≡ table_of (text ++ b ∷ [])
digit_kept groups text b h e =
    let more = groups_of-digit text b h in
    let few = is_whole groups text e in
    let fits : total (groups_of (text ++ b ∷ [])) ≤ 32 =
    rw more (omega (arith, total-digit (with_digit b) (groups_of text))) in
    ap (λ g. table (on_last (on_last (with_digit b)) g) false) (whole_is groups text e)
    ∙ ap (λ g. table g false) (sym more)
    ∙ sym (whole (text ++ b ∷ []) fits)

pub digit_cut : (groups : List (List ℕ)) (text : List ℕ) (b : ℕ) → b < 0x3A →
    table groups true ≡ table_of text → table groups true ≡ table_of (text ++ b ∷ [])
digit_cut groups text b h e =
    let more = groups_of-digit text b h in
    let many = is_cut groups text e in
    let passes : 32 < total (groups_of (text ++ b ∷ [])) =
    rw more (omega (arith, total-digit (with_digit b) (groups_of text))) in
    let same = first_numbers-digit (with_digit b) 32 (groups_of text) many in
    ap (λ g. table g true) (first_is groups true text e ∙ sym same ∙ ap (first_numbers 32) (sym more))
    ∙ sym (cut (text ++ b ∷ []) passes)

-- If a table is full, its text has at least 32 numbers.
full : (groups : List (List ℕ)) (b : Bool) (text : List ℕ) →
    table groups b ≡ table_of text → 32 ≤ total groups → 32 ≤ total (groups_of text)
full groups true text e h = let many = is_cut groups text e in omega arith
full groups false text e h = let same = ap total (whole_is groups text e) in omega arith

pub number_kept : (groups : List (List ℕ)) (text : List ℕ) → total groups < 32 →
    table groups false ≡ table_of text → table (on_last with_number groups) false ≡ table_of (text ++ 0x3A ∷ [])
number_kept groups text h e =
    let more = groups_of-colon text in
    let same = whole_is groups text e in
    let few = ap total same in
    let fits : total (groups_of (text ++ 0x3A ∷ [])) ≤ 32 =
    rw more (omega (arith, total-number (groups_of text) (groups_of-some text))) in
    ap (λ g. table (on_last with_number g) false) same
    ∙ ap (λ g. table g false) (sym more) ∙ sym (whole (text ++ 0x3A ∷ []) fits)

pub number_full : (groups : List (List ℕ)) (b : Bool) (text : List ℕ) → 32 ≤ total groups →
    table groups b ≡ table_of text → table groups true ≡ table_of (text ++ 0x3A ∷ [])
number_full groups b text h e =
    let more = groups_of-colon text in
    let many = full groups b text e h in
    let passes : 32 < total (groups_of (text ++ 0x3A ∷ [])) =
    rw more (omega (arith, total-number (groups_of text) (groups_of-some text))) in
    let same = first_numbers-number 32 (groups_of text) many in
    ap (λ g. table g true) (first_is groups b text e ∙ sym same ∙ ap (first_numbers 32) (sym more))
    ∙ sym (cut (text ++ 0x3A ∷ []) passes)

pub group_kept : (groups : List (List ℕ)) (text : List ℕ) → total groups < 32 →
    table groups false ≡ table_of text → table (groups ++ (0 ∷ []) ∷ []) false ≡ table_of (text ++ 0x3B ∷ [])
group_kept groups text h e =
    let more = groups_of-semicolon text in
    let same = whole_is groups text e in
    let few = ap total same in
    let fits : total (groups_of (text ++ 0x3B ∷ [])) ≤ 32 =
    rw more (omega (arith, total-append (groups_of text) ((0 ∷ []) ∷ []))) in
    ap (λ g. table (g ++ (0 ∷ []) ∷ []) false) same
    ∙ ap (λ g. table g false) (sym more) ∙ sym (whole (text ++ 0x3B ∷ []) fits)

pub group_full : (groups : List (List ℕ)) (b : Bool) (text : List ℕ) → 32 ≤ total groups →
    table groups b ≡ table_of text → table groups true ≡ table_of (text ++ 0x3B ∷ [])
group_full groups b text h e =
    let more = groups_of-semicolon text in
    let many = full groups b text e h in
    let passes : 32 < total (groups_of (text ++ 0x3B ∷ [])) =
    rw more (omega (arith, total-append (groups_of text) ((0 ∷ []) ∷ []))) in
    let same = first_numbers-groups 32 (groups_of text) ((0 ∷ []) ∷ []) many in
    ap (λ g. table g true) (first_is groups b text e ∙ sym same ∙ ap (first_numbers 32) (sym more))
    ∙ sym (cut (text ++ 0x3B ∷ []) passes)

-- ---- The steps of the array

pub step_clear : (numbers : List ℕ) → 0 < length numbers →
    table (groups_from 0 [] 1 (set numbers 0 0)) false ≡ table_of []
step_clear numbers h = ap (λ g. table (g ∷ []) false) (take_more_set numbers 0 0 h) ∙ table-empty

pub step_digit : (numbers ends : List ℕ) (len b v : ℕ) (is_cut : Bool) (text : List ℕ) →
    0 < len → len ≤ length numbers → Ascends 0 ends len → b < 0x3A → is_cut ≡ false →
    v ≡ with_digit b (get_or numbers (len - 1) 0) → table (groups_from 0 ends len numbers) is_cut ≡ table_of text →
    table (groups_from 0 ends len (set numbers (len - 1) v)) is_cut ≡ table_of (text ++ b ∷ [])
step_digit numbers ends len b v is_cut text some fits rises digit whole n e =
    ap (λ x. table (groups_from 0 ends len (set numbers (len - 1) x)) is_cut) n
    ∙ ap (table (groups_from 0 ends len (set numbers (len - 1) (with_digit b (get_or numbers (len - 1) 0))))) whole
    ∙ ap (λ g. table g false)
    (groups_from-digit (with_digit b) 0 ends len (len - 1) numbers (omega arith) rises (omega arith))
    ∙ digit_kept (groups_from 0 ends len numbers) text b digit
    (ap (table (groups_from 0 ends len numbers)) (sym whole) ∙ e)

set_twice : (xs : List ℕ) (i a b : ℕ) → set (set xs i a) i b ≡ set xs i b
set_twice [] i a b = refl
set_twice (x ∷ xs) zero a b = refl
set_twice (x ∷ xs) (suc i) a b = ap (λ l. x ∷ l) (set_twice xs i a b)

-- After one more digit of a number that is not yet stored, the table is that of the bytes read so far.
pub more_digits : (numbers ends : List ℕ) (len last n v : ℕ) (is_cut : Bool) (text bytes : List ℕ) (k : ℕ) →
    len ≡ last + 1 → len ≤ length numbers → Ascends 0 ends len → is_cut ≡ false →
    k < length bytes → get_or bytes k 0 < 0x3A → v ≡ with_digit (get_or bytes k 0) n →
    table (groups_from 0 ends len (set numbers last n)) is_cut ≡ table_of (text ++ take k bytes) →
    table (groups_from 0 ends len (set numbers last v)) is_cut ≡ table_of (text ++ take (k + 1) bytes)
more_digits numbers ends len last n v is_cut text bytes k at fits rises whole inside digit value e =
    let place : len - 1 ≡ last = omega arith in
    let size : length (set numbers last n) ≡ length numbers = length-set numbers last n in
    let here : get_or (set numbers last n) (len - 1) 0 ≡ n =
    ap (λ i. get_or (set numbers last n) i 0) place ∙ get_or-set_same numbers last n 0 (omega arith) in
    ap (λ l. table (groups_from 0 ends len l) is_cut)
    (sym (ap (λ i. set (set numbers last n) i v) place ∙ set_twice numbers last n v))
    ∙ step_digit (set numbers last n) ends len (get_or bytes k 0) v is_cut (text ++ take k bytes)
    (omega arith) (omega (arith, size, fits)) rises digit whole
    (value ∙ ap (with_digit (get_or bytes k 0)) (sym here)) e
    ∙ ap table_of (append_assoc text (take k bytes) (get_or bytes k 0 ∷ [])
    ∙ ap (λ t. text ++ t) (sym (take_more bytes k 0 inside)))

-- Before its first digit is read, a number that is not yet stored is the one in the array.
pub no_digits : (numbers ends : List ℕ) (len last n : ℕ) (is_cut : Bool) (text : List ℕ) →
    n ≡ get_or numbers last 0 → table (groups_from 0 ends len numbers) is_cut ≡ table_of text →
    table (groups_from 0 ends len (set numbers last n)) is_cut ≡ table_of (text ++ [])
no_digits numbers ends len last n is_cut text same e =
    ap (λ l. table (groups_from 0 ends len l) is_cut)
    (ap (set numbers last) same ∙ set-get_or numbers last 0)
    ∙ e ∙ ap table_of (sym (append-nil text))

pub step_digit_cut : (groups : List (List ℕ)) (b : ℕ) (is_cut : Bool) (text : List ℕ) → b < 0x3A →
    is_cut ≡ true → table groups is_cut ≡ table_of text → table groups is_cut ≡ table_of (text ++ b ∷ [])
step_digit_cut groups b is_cut text digit cuts e =
    ap (table groups) cuts ∙ digit_cut groups text b digit (ap (table groups) (sym cuts) ∙ e)

pub not_cut : (is_cut : Bool) (len : ℕ) → (is_cut ≡ true → len ≡ 32) → len ≢ 32 → is_cut ≡ false
not_cut true len f n = absurd (n (f refl))
not_cut false len f n = refl

pub step_number : (numbers ends : List ℕ) (len : ℕ) (is_cut : Bool) (text : List ℕ) →
    len < 32 → length numbers ≡ 32 → Ascends 0 ends len → (is_cut ≡ true → len ≡ 32) →
    table (groups_from 0 ends len numbers) is_cut ≡ table_of text →
    table (groups_from 0 ends (len + 1) (set numbers len 0)) is_cut ≡ table_of (text ++ 0x3A ∷ [])
step_number numbers ends len is_cut text room size rises cuts e =
    let whole = not_cut is_cut len cuts (λ (k : len ≡ 32). omega arith) in
    let few : total (groups_from 0 ends len numbers) < 32 =
    omega (arith, groups_from-total 0 ends len numbers rises (omega arith)) in
    ap (table (groups_from 0 ends (len + 1) (set numbers len 0))) whole
    ∙ ap (λ g. table g false) (groups_from-number 0 ends len numbers rises (omega arith))
    ∙ number_kept (groups_from 0 ends len numbers) text few
    (ap (table (groups_from 0 ends len numbers)) (sym whole) ∙ e)

pub step_number_full : (numbers ends : List ℕ) (len : ℕ) (is_cut : Bool) (text : List ℕ) →
    len ≡ 32 → length numbers ≡ 32 → Ascends 0 ends len →
    table (groups_from 0 ends len numbers) is_cut ≡ table_of text →
    table (groups_from 0 ends len numbers) true ≡ table_of (text ++ 0x3A ∷ [])
step_number_full numbers ends len is_cut text full size rises e =
    number_full (groups_from 0 ends len numbers) is_cut text
    (omega (arith, groups_from-total 0 ends len numbers rises (omega arith))) e

pub step_group : (numbers ends : List ℕ) (closed len : ℕ) (is_cut : Bool) (text : List ℕ) → len < 32 →
    length numbers ≡ 32 → closed < length ends → Ascends 0 (take closed ends) len → (is_cut ≡ true → len ≡ 32) →
    table (groups_from 0 (take closed ends) len numbers) is_cut ≡ table_of text →
    table (groups_from 0 (take (closed + 1) (set ends closed len)) (len + 1) (set numbers len 0)) is_cut
    ≡ table_of (text ++ 0x3B ∷ [])
step_group numbers ends closed len is_cut text room size more rises cuts e =
    let whole = not_cut is_cut len cuts (λ (k : len ≡ 32). omega arith) in
    let few : total (groups_from 0 (take closed ends) len numbers) < 32 =
    omega (arith, groups_from-total 0 (take closed ends) len numbers rises (omega arith)) in
    ap (table (groups_from 0 (take (closed + 1) (set ends closed len)) (len + 1) (set numbers len 0))) whole
    ∙ ap (λ l. table (groups_from 0 l (len + 1) (set numbers len 0)) false) (take_more_set ends closed len more)
    ∙ ap (λ g. table g false) (groups_from-group 0 (take closed ends) len numbers rises (omega arith))
    ∙ group_kept (groups_from 0 (take closed ends) len numbers) text few
    (ap (table (groups_from 0 (take closed ends) len numbers)) (sym whole) ∙ e)

pub step_group_full : (numbers ends : List ℕ) (len : ℕ) (is_cut : Bool) (text : List ℕ) →
    len ≡ 32 → length numbers ≡ 32 → Ascends 0 ends len →
    table (groups_from 0 ends len numbers) is_cut ≡ table_of text →
    table (groups_from 0 ends len numbers) true ≡ table_of (text ++ 0x3B ∷ [])
step_group_full numbers ends len is_cut text full size rises e =
    group_full (groups_from 0 ends len numbers) is_cut text
    (omega (arith, groups_from-total 0 ends len numbers rises (omega arith))) e

pub step_ends : (ends : List ℕ) (closed len : ℕ) → closed < length ends →
    Ascends 0 (take closed ends) len → Ascends 0 (take (closed + 1) (set ends closed len)) (len + 1)
step_ends ends closed len more rises =
    rw (take_more_set ends closed len more) (Ascends-group 0 (take closed ends) len rises)

-- ==== Decimal numbers, joined by `;`, are read as they were written.

-- The byte is an ASCII digit.
abbrev pub IsDigit : ℕ → Type 0
IsDigit b = (0x30 ≤ b) × (b ≤ 0x39)

pub decimal_digits : (n : ℕ) → n < 2 ^ 64 → All IsDigit (decimal n)
decimal_digits = decimal_by_steps (λ n text. All IsDigit text)
    (λ n small. All-cons IsDigit (48 + n) [] (omega arith, omega arith) (All-nil IsDigit))
    (λ n text large rest. All-push IsDigit text (48 + n % 10) rest (omega arith, omega arith))

number_of-one : (b : ℕ) → number_of (b ∷ []) ≡ min 65535 (10 * 0 + (b - 0x30))
number_of-one b = number_of-push [] b ∙ ap (λ k. min 65535 (10 * k + (b - 0x30))) number_of-empty

decimal_number_min : (n : ℕ) → n < 2 ^ 64 → number_of (decimal n) ≡ min 65535 n
decimal_number_min = decimal_by_steps (λ n text. number_of text ≡ min 65535 n)
    (λ n small. omega (arith, number_of-one (48 + n)))
    (λ n text large rest. omega (arith, number_of-push text (48 + n % 10), rest))

pub decimal_number : (n : ℕ) → n ≤ 65535 → number_of (decimal n) ≡ n
decimal_number n small = omega (arith, decimal_number_min n (omega arith))

no_colon : (b : ℕ) → IsDigit b → (b == 0x3A) ≡ false
no_colon b d = let high : b ≤ 0x39 = d.1 in grind (arith, nat_tests)

no_semicolon : (b : ℕ) → IsDigit b → (b == 0x3B) ≡ false
no_semicolon b d = let high : b ≤ 0x39 = d.1 in grind (arith, nat_tests)

decimal_numbers : (n : ℕ) → n ≤ 65535 → numbers_of (decimal n) ≡ n ∷ []
unfolding numbers_of
decimal_numbers n small =
    ap (map number_of) (slice_split_none (λ b. b == 0x3A) (decimal n)
    (All-weaker IsDigit (λ b. (b == 0x3A) ≡ false) no_colon (decimal n) (decimal_digits n (omega arith))))
    ∙ ap (λ k. k ∷ []) (decimal_number n small)

decimal_no_semicolon : (n : ℕ) → n ≤ 65535 → All (λ b. (b == 0x3B) ≡ false) (decimal n)
decimal_no_semicolon n small =
    All-weaker IsDigit (λ b. (b == 0x3B) ≡ false) no_semicolon (decimal n) (decimal_digits n (omega arith))

pub groups_of-decimal : (n : ℕ) → n ≤ 65535 → groups_of (decimal n) ≡ (n ∷ []) ∷ []
unfolding groups_of
groups_of-decimal n small =
    ap (map numbers_of) (slice_split_none (λ b. b == 0x3B) (decimal n) (decimal_no_semicolon n small))
    ∙ ap (λ g. g ∷ []) (decimal_numbers n small)

pub groups_of-further : (n : ℕ) (text : List ℕ) → n ≤ 65535 →
    groups_of (decimal n ++ 0x3B ∷ text) ≡ (n ∷ []) ∷ groups_of text
unfolding groups_of
groups_of-further n text small =
    ap (map numbers_of) (slice_split_at (λ b. b == 0x3B) (decimal n) 0x3B text (decimal_no_semicolon n small) refl)
    ∙ ap (λ g. g ∷ map numbers_of (slice_split (λ b. b == 0x3B) text)) (decimal_numbers n small)

-- The numbers, each in a group of its own.
abbrev pub alone : List ℕ → List (List ℕ)
alone ns = map (λ n. n ∷ []) ns

groups_of-joined : (n : ℕ) (ns : List ℕ) → All (λ k. k ≤ 65535) (n ∷ ns) → groups_of (semicolon_list (n ∷ ns)) ≡ alone (n ∷ ns)
groups_of-joined n [] small = groups_of-decimal n (All-head (λ k. k ≤ 65535) n [] small)
groups_of-joined n (m ∷ ns) small =
    groups_of-further n (semicolon_list (m ∷ ns)) (All-head (λ k. k ≤ 65535) n (m ∷ ns) small)
    ∙ ap (λ g. (n ∷ []) ∷ g) (groups_of-joined m ns (All-tail (λ k. k ≤ 65535) n (m ∷ ns) small))

total-alone : (ns : List ℕ) → total (alone ns) ≡ length ns
total-alone [] = refl
total-alone (n ∷ ns) = omega (arith, total-alone ns)

kept : (text : List ℕ) (groups : List (List ℕ)) → groups_of text ≡ groups →
    total groups ≤ 32 → (table_of text).groups ≡ groups
kept text groups e few =
    let fits : total (groups_of text) ≤ 32 = rw e few in
    ap (λ t. t.groups) (whole text fits) ∙ e

-- An empty parameter text is read as the single number 0.
pub empty_groups : (table_of []).groups ≡ (0 ∷ []) ∷ []
empty_groups = kept [] ((0 ∷ []) ∷ []) groups_of-empty (omega arith)

pub decimal_groups : (n : ℕ) → n ≤ 65535 → (table_of (decimal n)).groups ≡ (n ∷ []) ∷ []
decimal_groups n small = kept (decimal n) ((n ∷ []) ∷ []) (groups_of-decimal n small) (omega arith)

pub joined_groups : (ns : List ℕ) → 0 < length ns → length ns ≤ 32 →
    All (λ k. k ≤ 65535) ns → (table_of (semicolon_list ns)).groups ≡ map (λ n. n ∷ []) ns
joined_groups [] some few small = absurd (omega arith)
joined_groups (n ∷ ns) some few small =
    kept (semicolon_list (n ∷ ns)) (alone (n ∷ ns)) (groups_of-joined n ns small) (omega (arith, total-alone (n ∷ ns)))

two_groups : (n m : ℕ) → n ≤ 65535 → m ≤ 65535 →
    (table_of (decimal n ++ 0x3B ∷ decimal m)).groups ≡ (n ∷ []) ∷ (m ∷ []) ∷ []
two_groups n m small fits =
    kept (decimal n ++ 0x3B ∷ decimal m) ((n ∷ []) ∷ (m ∷ []) ∷ [])
    (groups_of-further n (decimal m) small ∙ ap (λ g. (n ∷ []) ∷ g) (groups_of-decimal m fits)) (omega arith)

-- The parameters of CUP for a position on a screen are read as the groups for that position.
pub place_groups_are : (row col : ℕ) → row < 65535 → col < 65535 →
    (table_of (place row col)).groups ≡ place_groups row col
place_groups_are zero zero r c = empty_groups
place_groups_are zero (suc col) r c = two_groups (zero + 1) (suc col + 1) (omega arith) (omega arith)
place_groups_are (suc row) col r c = two_groups (suc row + 1) (col + 1) (omega arith) (omega arith)

-- ---- The numbers are parameter bytes

parameters_from : (text : List ℕ) → All IsDigit text → IsParameterText text
parameters_from [] all = tt
parameters_from (b ∷ text) all =
    let digit = All-head IsDigit b text all in
    let high : b ≤ 0x39 = digit.1 in
    (digit.0, omega arith, parameters_from text (All-tail IsDigit b text all))

pub parameters-append : (text more : List ℕ) → IsParameterText text →
    IsParameterText more → IsParameterText (text ++ more)
parameters-append [] more is are = are
parameters-append (b ∷ text) more is are = (is.0, is.1, parameters-append text more is.2 are)

pub decimal_is_parameter : (n : ℕ) → n ≤ 65535 → IsParameterText (decimal n)
decimal_is_parameter n small = parameters_from (decimal n) (decimal_digits n (omega arith))

further_is_parameter : (n : ℕ) (text : List ℕ) → n ≤ 65535 →
    IsParameterText text → IsParameterText (decimal n ++ 0x3B ∷ text)
further_is_parameter n text small is =
    parameters-append (decimal n) (0x3B ∷ text) (decimal_is_parameter n small) (omega arith, omega arith, is)

pub joined_is_parameter : (ns : List ℕ) → All (λ k. k ≤ 65535) ns → IsParameterText (semicolon_list ns)
joined_is_parameter [] small = tt
joined_is_parameter (n ∷ []) small = decimal_is_parameter n (All-head (λ k. k ≤ 65535) n [] small)
joined_is_parameter (n ∷ m ∷ ns) small =
    further_is_parameter n (semicolon_list (m ∷ ns)) (All-head (λ k. k ≤ 65535) n (m ∷ ns) small)
    (joined_is_parameter (m ∷ ns) (All-tail (λ k. k ≤ 65535) n (m ∷ ns) small))

pub place_is_parameter : (row col : ℕ) → row < 65535 → col < 65535 → IsParameterText (place row col)
place_is_parameter zero zero r c = tt
place_is_parameter zero (suc col) r c =
    further_is_parameter (zero + 1) (decimal (suc col + 1))
    (omega arith) (decimal_is_parameter (suc col + 1) (omega arith))
place_is_parameter (suc row) col r c =
    further_is_parameter (suc row + 1) (decimal (col + 1)) (omega arith) (decimal_is_parameter (col + 1) (omega arith))
