-- The numbers and groups of a parameter text that grows at its end.
use Rattle.std.proofs.Common.{◌≡◌, ℕ, ◌+◌, ◌*◌, ◌<◌, ◌==◌, false, List, [], ◌∷◌, ◌++◌, map, min, length, refl, ◌∙◌, ap}
use Rattle.std.proofs.Common.{arith, zero, suc, ◌-◌, ◌≤◌, true, nat_lt, cond, get_or, set, take, drop, sym, subst, ◌⊎◌}
use Rattle.std.proofs.Common.{inl, inr, length-append}
use Rattle.std.proofs.lemmas.List.{map-append, length-map, take-append-le, take_all, take-set-le, drop-set-add}
use Rattle.std.proofs.lemmas.List.{take_more, take_more_set, get_or-drop, get_or-take, drop_more, drop_all, length-drop}
use Rattle.std.proofs.lemmas.List.{length-take}
use Rattle.std.proofs.lemmas.Int.Digits.{number_push}
use Rattle.std.proofs.lemmas.Bool.Decides.{nat_tests}
use Rattle.std.specs.List.{slice_split}
use Rattle.std.proofs.Math.Logic.{⊎_elim}
use Rattle.std.proofs.lemmas.Bool.{cases_lt}
use Rattle.vt_scan.specs.Parameters.{digit_of, number_of, numbers_of, groups_of, total, first_numbers}
use Rattle.vt_scan.specs.Internals.{groups_from, Ascends}
use Rattle.vt_scan.proofs.Lists.{on_last, map-on_last, slice_split-some, slice_split-push, slice_split-push_cut}
use Rattle.vt_scan.proofs.Lists.{on_last-push, length-on_last}

-- ==== The numbers of a parameter text that grows at its end.

-- The value of a number after one more decimal digit is read.
abbrev pub with_digit : ℕ → ℕ → ℕ
with_digit b n = min 65535 (10 * n + digit_of b)

abbrev pub with_number : List ℕ → List ℕ
with_number group = group ++ 0 ∷ []

pub number_of-push : (digits : List ℕ) (b : ℕ) → number_of (digits ++ b ∷ []) ≡ with_digit b (number_of digits)
unfolding number_of
number_of-push digits b =
    rw (map-append digit_of digits (b ∷ []), number_push 10 (map digit_of digits) (digit_of b)) (omega arith)

pub number_of-empty : number_of [] ≡ 0
unfolding number_of
number_of-empty = refl

pub numbers_of-digit : (group : List ℕ) (b : ℕ) → b < 0x3A →
    numbers_of (group ++ b ∷ []) ≡ on_last (with_digit b) (numbers_of group)
unfolding numbers_of
numbers_of-digit group b h =
    let other : (b == 0x3A) ≡ false = grind (arith, nat_tests) in
    ap (map number_of) (slice_split-push (λ byte. byte == 0x3A) group b other)
    ∙ map-on_last number_of (λ part. part ++ b ∷ []) (with_digit b)
    (λ part. number_of-push part b) (slice_split (λ byte. byte == 0x3A) group)

pub numbers_of-colon : (group : List ℕ) → numbers_of (group ++ 0x3A ∷ []) ≡ with_number (numbers_of group)
unfolding numbers_of
numbers_of-colon group =
    ap (map number_of) (slice_split-push_cut (λ byte. byte == 0x3A) group 0x3A refl)
    ∙ map-append number_of (slice_split (λ byte. byte == 0x3A) group) ([] ∷ [])
    ∙ ap (λ n. map number_of (slice_split (λ byte. byte == 0x3A) group) ++ n ∷ []) number_of-empty

pub numbers_of-empty : numbers_of [] ≡ 0 ∷ []
unfolding numbers_of
numbers_of-empty = ap (λ n. n ∷ []) number_of-empty

pub numbers_of-some : (group : List ℕ) → 0 < length (numbers_of group)
unfolding numbers_of
numbers_of-some group = omega (
  arith,
  length-map (slice_split (λ byte. byte == 0x3A) group) number_of,
  slice_split-some (λ byte. byte == 0x3A) group,
)

pub groups_of-digit : (text : List ℕ) (b : ℕ) → b < 0x3A →
    groups_of (text ++ b ∷ []) ≡ on_last (on_last (with_digit b)) (groups_of text)
unfolding groups_of
groups_of-digit text b h =
    let other : (b == 0x3B) ≡ false = grind (arith, nat_tests) in
    ap (map numbers_of) (slice_split-push (λ byte. byte == 0x3B) text b other)
    ∙ map-on_last numbers_of (λ part. part ++ b ∷ []) (on_last (with_digit b))
    (λ part. numbers_of-digit part b h) (slice_split (λ byte. byte == 0x3B) text)

pub groups_of-colon : (text : List ℕ) → groups_of (text ++ 0x3A ∷ []) ≡ on_last with_number (groups_of text)
unfolding groups_of
groups_of-colon text =
    ap (map numbers_of) (slice_split-push (λ byte. byte == 0x3B) text 0x3A refl)
    ∙ map-on_last numbers_of (λ part. part ++ 0x3A ∷ []) with_number
    numbers_of-colon (slice_split (λ byte. byte == 0x3B) text)

pub groups_of-semicolon : (text : List ℕ) → groups_of (text ++ 0x3B ∷ []) ≡ groups_of text ++ (0 ∷ []) ∷ []
unfolding groups_of
groups_of-semicolon text =
    ap (map numbers_of) (slice_split-push_cut (λ byte. byte == 0x3B) text 0x3B refl)
    ∙ map-append numbers_of (slice_split (λ byte. byte == 0x3B) text) ([] ∷ [])
    ∙ ap (λ g. map numbers_of (slice_split (λ byte. byte == 0x3B) text) ++ g ∷ []) numbers_of-empty

pub groups_of-empty : groups_of [] ≡ (0 ∷ []) ∷ []
unfolding groups_of
groups_of-empty = ap (λ g. g ∷ []) numbers_of-empty

-- Each group has at least one number.
abbrev pub AllSome : List (List ℕ) → Type 0
AllSome [] = Unit {0}
AllSome (group ∷ groups) = (0 < length group) × AllSome groups

pub AllSome-map : (parts : List (List ℕ)) → AllSome (map numbers_of parts)
AllSome-map [] = tt
AllSome-map (part ∷ parts) = (numbers_of-some part, AllSome-map parts)

pub groups_of-all_some : (text : List ℕ) → AllSome (groups_of text)
unfolding groups_of
groups_of-all_some text = AllSome-map (slice_split (λ byte. byte == 0x3B) text)

pub groups_of-some : (text : List ℕ) → 0 < length (groups_of text)
unfolding groups_of
groups_of-some text = omega (
  arith,
  length-map (slice_split (λ byte. byte == 0x3B) text) numbers_of,
  slice_split-some (λ byte. byte == 0x3B) text,
)

-- ==== The first numbers of groups that grow at their end, and groups in an array with the indices of their ends.

pub total-append : (groups more : List (List ℕ)) → total (groups ++ more) ≡ total groups + total more
total-append [] more = omega arith
total-append (group ∷ groups) more = omega (arith, total-append groups more)

pub total-digit : (f : ℕ → ℕ) (groups : List (List ℕ)) → total (on_last (on_last f) groups) ≡ total groups
total-digit f [] = refl
total-digit f (group ∷ []) = omega (arith, length-on_last f group)
total-digit f (group ∷ other ∷ groups) = omega (arith, total-digit f (other ∷ groups))

pub total-number : (groups : List (List ℕ)) → 0 < length groups → total (on_last with_number groups) ≡ total groups + 1
total-number [] h = absurd (omega arith)
total-number (group ∷ []) h = omega (arith, length-append group (0 ∷ []))
total-number (group ∷ other ∷ groups) h = omega (arith, total-number (other ∷ groups) (omega arith))

pub first_numbers-zero : (groups : List (List ℕ)) → first_numbers 0 groups ≡ []
first_numbers-zero [] = refl
first_numbers-zero (group ∷ groups) = refl

-- The first n numbers of a list of groups are taken from its first group, and then from the groups after it (n is not
-- 0).
first_numbers-step : (n : ℕ) (group : List ℕ) (groups : List (List ℕ)) → 0 < n →
    first_numbers n (group ∷ groups) ≡ take n group ∷ first_numbers (n - length group) groups
first_numbers-step n group groups h = let e : (n == 0) ≡ false = grind (arith, nat_tests) in rw e refl

none_or_some : (n : ℕ) → (n ≡ 0) ⊎ (0 < n)
none_or_some zero = inl refl
none_or_some (suc n) = inr (omega arith)

-- If a list of groups has at most n numbers, its first n numbers are all of them.
pub first_numbers-all : (n : ℕ) (groups : List (List ℕ)) →
    AllSome groups → total groups ≤ n → first_numbers n groups ≡ groups
first_numbers-all n [] s h = refl
first_numbers-all n (group ∷ groups) s h =
    let some : 0 < length group = s.0 in
    let fits : length group ≤ n = omega arith in
    first_numbers-step n group groups (omega arith)
    ∙ ap (λ g. g ∷ first_numbers (n - length group) groups) (take_all n group fits)
    ∙ ap (λ l. group ∷ l) (first_numbers-all (n - length group) groups s.1 (omega arith))

take-on_last : (f : ℕ → ℕ) (k : ℕ) (xs : List ℕ) → k < length xs → take k (on_last f xs) ≡ take k xs
take-on_last f zero xs l = refl
take-on_last f (suc k) [] l = refl
take-on_last f (suc k) (x ∷ []) l = absurd (omega arith)
take-on_last f (suc k) (x ∷ y ∷ ys) l = ap (λ t. x ∷ t) (take-on_last f k (y ∷ ys) (omega arith))

first_numbers-at_zero : (n : ℕ) (groups others : List (List ℕ)) →
    n ≡ 0 → first_numbers n groups ≡ first_numbers n others
first_numbers-at_zero n groups others e =
    ap (λ k. first_numbers k groups) e ∙ first_numbers-zero groups
    ∙ sym (ap (λ k. first_numbers k others) e ∙ first_numbers-zero others)

-- Adding a digit to a number after the first n numbers leaves those n numbers unchanged.
pub first_numbers-digit : (f : ℕ → ℕ) (n : ℕ) (groups : List (List ℕ)) → n < total groups →
    first_numbers n (on_last (on_last f) groups) ≡ first_numbers n groups
first_numbers-digit f n [] h = refl
first_numbers-digit f n (group ∷ []) h =
    ⊎_elim
    (first_numbers-at_zero n (on_last f group ∷ []) (group ∷ []))
    (λ some. first_numbers-step n (on_last f group) [] some
    ∙ ap (λ g. g ∷ []) (take-on_last f n group (omega arith)) ∙ sym (first_numbers-step n group [] some))
    (none_or_some n)
first_numbers-digit f n (group ∷ other ∷ groups) h =
    ⊎_elim
    (first_numbers-at_zero n (group ∷ on_last (on_last f) (other ∷ groups)) (group ∷ other ∷ groups))
    (λ some. first_numbers-step n group (on_last (on_last f) (other ∷ groups)) some
    ∙ ap (λ l. take n group ∷ l)
    (⊎_elim
    (first_numbers-at_zero (n - length group) (on_last (on_last f) (other ∷ groups)) (other ∷ groups))
    (λ more. first_numbers-digit f (n - length group) (other ∷ groups) (omega arith))
    (none_or_some (n - length group)))
    ∙ sym (first_numbers-step n group (other ∷ groups) some))
    (none_or_some n)

-- Adding a number after the first n numbers leaves those n numbers unchanged.
pub first_numbers-number : (n : ℕ) (groups : List (List ℕ)) → n ≤ total groups →
    first_numbers n (on_last with_number groups) ≡ first_numbers n groups
first_numbers-number n [] h = refl
first_numbers-number n (group ∷ []) h =
    ⊎_elim
    (first_numbers-at_zero n (with_number group ∷ []) (group ∷ []))
    (λ some.
    let fits : n ≤ length group = omega arith in
    first_numbers-step n (with_number group) [] some
    ∙ ap (λ g. g ∷ []) (take-append-le n group (0 ∷ []) fits) ∙ sym (first_numbers-step n group [] some))
    (none_or_some n)
first_numbers-number n (group ∷ other ∷ groups) h =
    ⊎_elim
    (first_numbers-at_zero n (group ∷ on_last with_number (other ∷ groups)) (group ∷ other ∷ groups))
    (λ some. first_numbers-step n group (on_last with_number (other ∷ groups)) some
    ∙ ap (λ l. take n group ∷ l) (first_numbers-number (n - length group) (other ∷ groups) (omega arith))
    ∙ sym (first_numbers-step n group (other ∷ groups) some))
    (none_or_some n)

-- Adding groups after the first n numbers leaves those n numbers unchanged.
pub first_numbers-groups : (n : ℕ) (groups more : List (List ℕ)) →
    n ≤ total groups → first_numbers n (groups ++ more) ≡ first_numbers n groups
first_numbers-groups n [] more h =
    let e : n ≡ 0 = omega arith in ap (λ k. first_numbers k more) e ∙ first_numbers-zero more
first_numbers-groups n (group ∷ groups) more h =
    ⊎_elim
    (first_numbers-at_zero n (group ∷ (groups ++ more)) (group ∷ groups))
    (λ some. first_numbers-step n group (groups ++ more) some
    ∙ ap (λ l. take n group ∷ l) (first_numbers-groups (n - length group) groups more (omega arith))
    ∙ sym (first_numbers-step n group groups some))
    (none_or_some n)

-- A part of a list before index i is unaffected by a change at i.
part-set : (from to i : ℕ) (xs : List ℕ) (v : ℕ) → to ≤ i → from ≤ to →
    take (to - from) (drop from (set xs i v)) ≡ take (to - from) (drop from xs)
part-set from to i xs v h l =
    let at : i ≡ from + (i - from) = omega arith in
    ap (λ k. take (to - from) (drop from (set xs k v))) at
    ∙ ap (take (to - from)) (drop-set-add from xs (i - from) v)
    ∙ take-set-le (to - from) (drop from xs) (i - from) v (omega arith)

-- If the item directly after a slice of a list is set to v, extending the slice by one item appends v to it.
part-more : (from to : ℕ) (xs : List ℕ) (v : ℕ) → from ≤ to → to < length xs →
    take (to + 1 - from) (drop from (set xs to v)) ≡ take (to - from) (drop from xs) ++ v ∷ []
part-more from to xs v l h =
    let at : to ≡ from + (to - from) = omega arith in
    let long : to + 1 - from ≡ to - from + 1 = omega arith in
    ap (λ k. take (to + 1 - from) (drop from (set xs k v))) at
    ∙ ap (take (to + 1 - from)) (drop-set-add from xs (to - from) v)
    ∙ ap (λ k. take k (set (drop from xs) (to - from) v)) long
    ∙ take_more_set (drop from xs) (to - from) v (omega (arith, length-drop from xs))

pub part-last : (from to : ℕ) (xs : List ℕ) → from ≤ to → to < length xs →
    take (to + 1 - from) (drop from xs) ≡ take (to - from) (drop from xs) ++ get_or xs to 0 ∷ []
part-last from to xs l h =
    let at : from + (to - from) ≡ to = omega arith in
    let long : to + 1 - from ≡ to - from + 1 = omega arith in
    ap (λ k. take k (drop from xs)) long
    ∙ take_more (drop from xs) (to - from) 0 (omega (arith, length-drop from xs))
    ∙ ap (λ x. take (to - from) (drop from xs) ++ x ∷ [])
    (get_or-drop from xs (to - from) 0 ∙ ap (λ k. get_or xs k 0) at)

groups_from-front : (f : List ℕ → List ℕ) (x : List ℕ) (from : ℕ) (ends : List ℕ) (len : ℕ) (numbers : List ℕ) →
    on_last f (x ∷ groups_from from ends len numbers) ≡ x ∷ on_last f (groups_from from ends len numbers)
groups_from-front f x from [] len numbers = refl
groups_from-front f x from (to ∷ ends) len numbers = refl

pub Ascends-below : (from : ℕ) (ends : List ℕ) (len : ℕ) → Ascends from ends len → from < len
Ascends-below from [] len a = a
Ascends-below from (to ∷ ends) len a = omega (arith, Ascends-below to ends len a.1)

-- The number of groups is one more than the number of stored ends.
pub length-groups_from : (from : ℕ) (ends : List ℕ) (len : ℕ) (numbers : List ℕ) →
    length (groups_from from ends len numbers) ≡ length ends + 1
length-groups_from from [] len numbers = refl
length-groups_from from (to ∷ ends) len numbers = omega (arith, length-groups_from to ends len numbers)

pub groups_from-digit : (f : ℕ → ℕ) (from : ℕ) (ends : List ℕ) (len at : ℕ) (numbers : List ℕ) →
    len ≡ at + 1 → Ascends from ends len → at < length numbers →
    groups_from from ends len (set numbers at (f (get_or numbers at 0)))
    ≡ on_last (on_last f) (groups_from from ends len numbers)
groups_from-digit f from [] len at numbers e a h =
    let below : from < len = a in
    ap (λ g. g ∷ [])
    (ap (λ k. take (k - from) (drop from (set numbers at (f (get_or numbers at 0))))) e
    ∙ part-more from at numbers (f (get_or numbers at 0)) (omega arith) h
    ∙ sym (on_last-push f (take (at - from) (drop from numbers)) (get_or numbers at 0))
    ∙ ap (on_last f)
    (sym (ap (λ k. take (k - from) (drop from numbers)) e ∙ part-last from at numbers (omega arith) h)))
groups_from-digit f from (to ∷ ends) len at numbers e a h =
    let rises : from < to = a.0 in
    let below : to < len = Ascends-below to ends len a.1 in
    ap (λ g. g ∷ groups_from to ends len (set numbers at (f (get_or numbers at 0))))
    (part-set from to at numbers (f (get_or numbers at 0)) (omega arith) (omega arith))
    ∙ ap (λ l. take (to - from) (drop from numbers) ∷ l) (groups_from-digit f to ends len at numbers e a.1 h)
    ∙ sym (groups_from-front (on_last f) (take (to - from) (drop from numbers)) to ends len numbers)

-- Adding a number at the end of the array adds it to the last group.
pub groups_from-number : (from : ℕ) (ends : List ℕ) (len : ℕ) (numbers : List ℕ) →
    Ascends from ends len → len < length numbers →
    groups_from from ends (len + 1) (set numbers len 0) ≡ on_last with_number (groups_from from ends len numbers)
groups_from-number from [] len numbers a h =
    let below : from < len = a in
    ap (λ g. g ∷ []) (part-more from len numbers 0 (omega arith) h)
groups_from-number from (to ∷ ends) len numbers a h =
    let rises : from < to = a.0 in
    let below : to < len = Ascends-below to ends len a.1 in
    ap (λ g. g ∷ groups_from to ends (len + 1) (set numbers len 0))
    (part-set from to len numbers 0 (omega arith) (omega arith))
    ∙ ap (λ l. take (to - from) (drop from numbers) ∷ l) (groups_from-number to ends len numbers a.1 h)
    ∙ sym (groups_from-front with_number (take (to - from) (drop from numbers)) to ends len numbers)

-- Adding an end and a number begins a new group.
pub groups_from-group : (from : ℕ) (ends : List ℕ) (len : ℕ) (numbers : List ℕ) →
    Ascends from ends len → len < length numbers →
    groups_from from (ends ++ len ∷ []) (len + 1) (set numbers len 0)
    ≡ groups_from from ends len numbers ++ (0 ∷ []) ∷ []
groups_from-group from [] len numbers a h =
    let below : from < len = a in
    let one : len - len ≡ 0 = omega arith in
    ap (λ g. g ∷ take (len + 1 - len) (drop len (set numbers len 0)) ∷ [])
    (part-set from len len numbers 0 (omega arith) (omega arith))
    ∙ ap (λ g. take (len - from) (drop from numbers) ∷ g ∷ [])
    (part-more len len numbers 0 (omega arith) h ∙ ap (λ k. take k (drop len numbers) ++ 0 ∷ []) one)
groups_from-group from (to ∷ ends) len numbers a h =
    let rises : from < to = a.0 in
    let below : to < len = Ascends-below to ends len a.1 in
    ap (λ g. g ∷ groups_from to (ends ++ len ∷ []) (len + 1) (set numbers len 0))
    (part-set from to len numbers 0 (omega arith) (omega arith))
    ∙ ap (λ l. take (to - from) (drop from numbers) ∷ l) (groups_from-group to ends len numbers a.1 h)

-- The groups have as many numbers as the array has in use from their start.
pub groups_from-total : (from : ℕ) (ends : List ℕ) (len : ℕ) (numbers : List ℕ) →
    Ascends from ends len → len ≤ length numbers → total (groups_from from ends len numbers) ≡ len - from
groups_from-total from [] len numbers a h =
    omega (arith, length-take (len - from) (drop from numbers), length-drop from numbers)
groups_from-total from (to ∷ ends) len numbers a h =
    let rises : from < to = a.0 in
    let below : to < len = Ascends-below to ends len a.1 in
    omega (
      arith,
      length-take (to - from) (drop from numbers),
      length-drop from numbers,
      groups_from-total to ends len numbers a.1 h,
    )

-- The ends of groups stay ascending when a number is added to the last group.
pub Ascends-number : (from : ℕ) (ends : List ℕ) (len : ℕ) → Ascends from ends len → Ascends from ends (len + 1)
Ascends-number from [] len a = omega arith
Ascends-number from (to ∷ ends) len a = (a.0, Ascends-number to ends len a.1)

pub Ascends-group : (from : ℕ) (ends : List ℕ) (len : ℕ) →
    Ascends from ends len → Ascends from (ends ++ len ∷ []) (len + 1)
Ascends-group from [] len a = (a, omega arith)
Ascends-group from (to ∷ ends) len a = (a.0, Ascends-group to ends len a.1)

-- The stored ends from group i on are the end of group i and the stored ends after it.
next_place : (ends : List ℕ) (i closed : ℕ) → i < closed → closed ≤ length ends →
    drop i (take closed ends) ≡ get_or ends i 0 ∷ drop (i + 1) (take closed ends)
next_place ends i closed below fits =
    drop_more (take closed ends) i 0 (omega (arith, length-take closed ends))
    ∙ ap (λ e. e ∷ drop (i + 1) (take closed ends)) (get_or-take closed ends i 0 below)

pub next_rises : (start : ℕ) (ends : List ℕ) (i closed len : ℕ) → i < closed →
    closed ≤ length ends → Ascends start (drop i (take closed ends)) len →
    (start < get_or ends i 0) × (get_or ends i 0 < len)
    × Ascends (get_or ends i 0) (drop (i + 1) (take closed ends)) len
next_rises start ends i closed len below fits rises =
    let now : Ascends start (get_or ends i 0 ∷ drop (i + 1) (take closed ends)) len =
    subst (λ (l : List ℕ). Ascends start l len) (next_place ends i closed below fits) rises in
    (now.0, Ascends-below (get_or ends i 0) (drop (i + 1) (take closed ends)) len now.1, now.1)

pub next_group : (start : ℕ) (ends : List ℕ) (i closed len : ℕ) (numbers : List ℕ) → i < closed → closed ≤ length ends →
    groups_from start (drop i (take closed ends)) len numbers
    ≡ take (get_or ends i 0 - start) (drop start numbers)
    ∷ groups_from (get_or ends i 0) (drop (i + 1) (take closed ends)) len numbers
next_group start ends i closed len numbers below fits =
    ap (λ l. groups_from start l len numbers) (next_place ends i closed below fits)

pub last_group : (start : ℕ) (ends : List ℕ) (closed len : ℕ) (numbers : List ℕ) →
    groups_from start (drop closed (take closed ends)) len numbers ≡ take (len - start) (drop start numbers) ∷ []
last_group start ends closed len numbers =
    ap (λ l. groups_from start l len numbers)
    (drop_all closed (take closed ends) (omega (arith, length-take closed ends)))

-- ---- One group, by its index

-- The index at which group i ends.
abbrev pub end_at : List ℕ → ℕ → ℕ → ℕ
end_at [] len i = len
end_at (to ∷ ends) len zero = to
end_at (to ∷ ends) len (suc i) = end_at ends len i

group_at : (from : ℕ) (ends : List ℕ) (len : ℕ) (numbers : List ℕ) (i : ℕ) → i ≤ length ends →
    get_or (groups_from from ends len numbers) i []
    ≡ take (end_at ends len i - get_or (from ∷ ends) i 0) (drop (get_or (from ∷ ends) i 0) numbers)
group_at from [] len numbers zero h = refl
group_at from [] len numbers (suc i) h = absurd (omega (arith, h))
group_at from (to ∷ ends) len numbers zero h = refl
group_at from (to ∷ ends) len numbers (suc i) h = group_at to ends len numbers i (omega (arith, h))

places_rise : (from : ℕ) (ends : List ℕ) (len i : ℕ) → Ascends from ends len → i ≤ length ends →
    (get_or (from ∷ ends) i 0 < end_at ends len i) × (end_at ends len i ≤ len)
places_rise from [] len zero a h = (a, omega arith)
places_rise from [] len (suc i) a h = absurd (omega (arith, h))
places_rise from (to ∷ ends) len zero a h = (a.0, omega (arith, Ascends-below to ends len a.1))
places_rise from (to ∷ ends) len (suc i) a h = places_rise to ends len i a.1 (omega (arith, h))

end_inside : (ends : List ℕ) (len i : ℕ) → i < length ends → end_at ends len i ≡ get_or ends i 0
end_inside [] len i h = absurd (omega (arith, h))
end_inside (to ∷ ends) len zero h = refl
end_inside (to ∷ ends) len (suc i) h = end_inside ends len i (omega (arith, h))

end_last : (ends : List ℕ) (len i : ℕ) → length ends ≤ i → end_at ends len i ≡ len
end_last [] len i h = refl
end_last (to ∷ ends) len zero h = absurd (omega (arith, h))
end_last (to ∷ ends) len (suc i) h = end_last ends len i (omega (arith, h))

start_is : (ends : List ℕ) (closed i : ℕ) → i ≤ closed → get_or (0 ∷ ends) i 0 ≡ get_or (0 ∷ take closed ends) i 0
start_is ends closed zero h = refl
start_is ends closed (suc i) h = sym (get_or-take closed ends i 0 (omega (arith, h)))

end_is : (ends : List ℕ) (closed len i : ℕ) → closed ≤ length ends → i ≤ closed →
    cond (nat_lt i closed) (get_or ends i 0) len ≡ end_at (take closed ends) len i
end_is ends closed len i fits h =
    let size : length (take closed ends) ≡ closed = omega (arith, length-take closed ends) in
    ⊎_elim
    (λ (inside : i < closed).
    let test : nat_lt i closed ≡ true = grind (arith, nat_tests) in
    rw test (sym (get_or-take closed ends i 0 inside)
    ∙ sym (end_inside (take closed ends) len i (omega (arith, size, inside)))))
    (λ (last : closed ≤ i).
    let test : nat_lt i closed ≡ false = grind (arith, nat_tests) in
    rw test (sym (end_last (take closed ends) len i (omega (arith, size, last)))))
    (cases_lt i closed)

-- A group consists of the numbers between its start and its end, and has at least one.
pub record Lies (start end len : ℕ) (numbers group : List ℕ) : Type 0 where
  pub rises : start < end
  pub inside : end ≤ len
  pub part : take (end - start) (drop start numbers) ≡ group
  pub first : get_or numbers start 0 ≡ get_or group 0 0

lies : (start end len : ℕ) (numbers group : List ℕ) → start < end → end ≤ len →
    group ≡ take (end - start) (drop start numbers) → Lies start end len numbers group
lies start end len numbers group rises inside part =
    let at : start ≡ start + 0 = omega arith in record {
      rises = rises;
      inside = inside;
      part = sym part;
      first =
          ap (λ k. get_or numbers k 0) at ∙ sym (get_or-drop start numbers 0 0)
          ∙ sym (get_or-take (end - start) (drop start numbers) 0 0 (omega (arith, rises)))
          ∙ ap (λ g. get_or g 0 0) (sym part);
    }

pub group_lies : (ends : List ℕ) (closed len : ℕ) (numbers : List ℕ) (i : ℕ) → closed ≤ length ends →
    Ascends 0 (take closed ends) len → i ≤ closed →
    Lies (get_or (0 ∷ ends) i 0) (cond (nat_lt i closed) (get_or ends i 0) len) len numbers
    (get_or (groups_from 0 (take closed ends) len numbers) i [])
group_lies ends closed len numbers i fits rises h =
    let size : length (take closed ends) ≡ closed = omega (arith, length-take closed ends) in
    let few : i ≤ length (take closed ends) = omega (arith, size, h) in
    let places = places_rise 0 (take closed ends) len i rises few in
    rw (start_is ends closed i h, end_is ends closed len i fits h)
    (lies (get_or (0 ∷ take closed ends) i 0) (end_at (take closed ends) len i) len numbers
    (get_or (groups_from 0 (take closed ends) len numbers) i []) places.0 places.1
    (group_at 0 (take closed ends) len numbers i few))

pub group_none : (groups : List (List ℕ)) (i : ℕ) → length groups ≤ i → get_or groups i [] ≡ []
group_none [] i h = refl
group_none (group ∷ groups) zero h = absurd (omega (arith, h))
group_none (group ∷ groups) (suc i) h = group_none groups i (omega (arith, h))

pub groups_count : (ends : List ℕ) (closed len : ℕ) (numbers : List ℕ) → closed ≤ length ends →
    length (groups_from 0 (take closed ends) len numbers) ≡ closed + 1
groups_count ends closed len numbers fits =
    omega (arith, length-groups_from 0 (take closed ends) len numbers, length-take closed ends)
