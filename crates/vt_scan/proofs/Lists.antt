-- Lists and texts that grow at their end, are cut at a byte, or are searched for one.
use Rattle.std.proofs.Common.{ℕ, suc, ◌+◌, ◌-◌, drop, get_or, take, ◌≡◌, ◌<◌, Bool, true, false, cond, List, [], ◌∷◌}
use Rattle.std.proofs.Common.{◌++◌, map, length, refl, sym, ◌∙◌, ap, arith, ◌≤◌, ◌≢◌, ◌==◌, zero, subst, ◌*◌, ◌%◌, ◌^◌}
use Rattle.std.proofs.Common.{leb, not, replicate, w8, inl, inr}
use Rattle.std.proofs.Math.Seq.{take-add}
use Rattle.std.proofs.lemmas.List.{append_assoc, length-drop, take_all, take_more, drop_more, drop-drop, get_or-drop}
use Rattle.std.proofs.lemmas.List.{length-take, take-append-drop, take-append-le, length-map}
use Rattle.std.specs.List.{slice_split, onto_first, All, AllByRecursion, prefix_len}
use Rattle.std.proofs.lemmas.List.Elements.{All-weaker, All-from_get_or}
use Rattle.std.proofs.lemmas.List.Splits.{slice_split_at, slice_split_none}
use Rattle.std.proofs.lemmas.Bool.Decides.{nat_tests}
use Rattle.std.proofs.lemmas.Bool.{cases_eq, cases_lt}
use Rattle.std.proofs.lemmas.Grind.{common_steps}
use Rattle.std.proofs.lemmas.Simd.{zip2_splat, map-map, bitmask_splat, none_from_empty_mask, run_in_chunk_fails}
use Rattle.std.proofs.lemmas.Simd.{run_in_chunk_le, run_in_chunk_stops, trailing_mask_l, length-chunk}
use Rattle.std.proofs.lemmas.List.Sums.{prefix_len-le-length}
use lib.Lanes.{zip2, mask_l, top, chunk}
use lib.Count.{count_trailing_zeros}
use Rattle.vt_scan.specs.Internals.{groups_from, Ascends, IsUnended, is_in_range}
use Rattle.vt_scan.specs.Scanner.{IsPrintableByte}

-- ==== Lists that change at their last item, and texts that are split while they grow at their end.

-- The list after a function is applied to its last item.
abbrev pub on_last : {A : Type 0} → (A → A) → List A → List A
on_last f [] = []
on_last f (x ∷ []) = f x ∷ []
on_last f (x ∷ y ∷ ys) = x ∷ on_last f (y ∷ ys)

pub on_last-push : {A : Type 0} (f : A → A) (xs : List A) (x : A) → on_last f (xs ++ x ∷ []) ≡ xs ++ f x ∷ []
on_last-push f [] x = refl
on_last-push f (y ∷ []) x = refl
on_last-push f (y ∷ z ∷ xs) x = ap (λ l. y ∷ l) (on_last-push f (z ∷ xs) x)

-- Changing the last item of a list commutes with mapping the list.
pub map-on_last : {A B : Type 0} (h : A → B) (f : A → A) (g : B → B) →
    ((x : A) → h (f x) ≡ g (h x)) → (xs : List A) → map h (on_last f xs) ≡ on_last g (map h xs)
map-on_last h f g e [] = refl
map-on_last h f g e (x ∷ []) = ap (λ y. y ∷ []) (e x)
map-on_last h f g e (x ∷ y ∷ ys) = ap (λ l. h x ∷ l) (map-on_last h f g e (y ∷ ys))

pub length-on_last : {A : Type 0} (f : A → A) (xs : List A) → length (on_last f xs) ≡ length xs
length-on_last f [] = refl
length-on_last f (x ∷ []) = refl
length-on_last f (x ∷ y ∷ ys) = omega (arith, length-on_last f (y ∷ ys))

pub on_last-front : {A : Type 0} (f : A → A) (x : A) (xs : List A) →
    0 < length xs → on_last f (x ∷ xs) ≡ x ∷ on_last f xs
on_last-front f x [] h = absurd (omega arith)
on_last-front f x (y ∷ ys) h = refl

-- An item prepended to the first part stays there when the last part changes.
on_last-onto_first : {A : Type 0} (b c : A) (parts : List (List A)) → 0 < length parts →
    onto_first b (on_last (λ part. part ++ c ∷ []) parts) ≡ on_last (λ part. part ++ c ∷ []) (onto_first b parts)
on_last-onto_first b c [] h = absurd (omega arith)
on_last-onto_first b c (part ∷ []) h = refl
on_last-onto_first b c (part ∷ other ∷ parts) h = refl

onto_first-append : {A : Type 0} (b : A) (parts more : List (List A)) →
    0 < length parts → onto_first b (parts ++ more) ≡ onto_first b parts ++ more
onto_first-append b [] more h = absurd (omega arith)
onto_first-append b (part ∷ parts) more h = refl

length-onto_first : {A : Type 0} (b : A) (parts : List (List A)) → 0 < length (onto_first b parts)
length-onto_first b [] = omega arith
length-onto_first b (part ∷ parts) = omega arith

pub slice_split-some : {A : Type 0} (p : A → Bool) (xs : List A) → 0 < length (slice_split p xs)
slice_split-some p [] = omega arith
slice_split-some {A = A} p (x ∷ xs) = by (p x)
  where
    by : (t : Bool) → 0 < length (cond t ([] ∷ slice_split p xs) (onto_first x (slice_split p xs)))
    by true = omega arith
    by false = length-onto_first x (slice_split p xs)

-- Appending an item that is no separator to a list appends it to the last part of the split list.
pub slice_split-push : {A : Type 0} (p : A → Bool) (xs : List A) (c : A) → p c ≡ false →
    slice_split p (xs ++ c ∷ []) ≡ on_last (λ part. part ++ c ∷ []) (slice_split p xs)
slice_split-push p [] c h = rw h refl
slice_split-push {A = A} p (x ∷ xs) c h = by (p x) (slice_split-push p xs c h)
  where
    by : (t : Bool) → slice_split p (xs ++ c ∷ []) ≡ on_last (λ part. part ++ c ∷ []) (slice_split p xs)
        → cond t ([] ∷ slice_split p (xs ++ c ∷ [])) (onto_first x (slice_split p (xs ++ c ∷ [])))
        ≡ on_last (λ part. part ++ c ∷ []) (cond t ([] ∷ slice_split p xs) (onto_first x (slice_split p xs)))
    by true e =
        ap (λ l. [] ∷ l) e ∙ sym (on_last-front (λ part. part ++ c ∷ []) [] (slice_split p xs) (slice_split-some p xs))
    by false e = ap (onto_first x) e ∙ on_last-onto_first x c (slice_split p xs) (slice_split-some p xs)

-- Appending a separator to a list appends an empty part to the split list.
pub slice_split-push_cut : {A : Type 0} (p : A → Bool) (xs : List A) (c : A) →
    p c ≡ true → slice_split p (xs ++ c ∷ []) ≡ slice_split p xs ++ [] ∷ []
slice_split-push_cut p [] c h = rw h refl
slice_split-push_cut {A = A} p (x ∷ xs) c h = by (p x) (slice_split-push_cut p xs c h)
  where
    by : (t : Bool) → slice_split p (xs ++ c ∷ []) ≡ slice_split p xs ++ [] ∷ []
        → cond t ([] ∷ slice_split p (xs ++ c ∷ [])) (onto_first x (slice_split p (xs ++ c ∷ [])))
        ≡ cond t ([] ∷ slice_split p xs) (onto_first x (slice_split p xs)) ++ [] ∷ []
    by true e = ap (λ l. [] ∷ l) e
    by false e = ap (onto_first x) e ∙ onto_first-append x (slice_split p xs) ([] ∷ []) (slice_split-some p xs)

-- A slice of a list up to its end is the list without the items before the slice.
pub all_left : (bytes : List ℕ) (k : ℕ) → take (length bytes - k) (drop k bytes) ≡ drop k bytes
all_left bytes k = take_all (length bytes - k) (drop k bytes) (omega (arith, length-drop k bytes))

-- The bytes before index k, the byte at k and n further bytes form a prefix of length k + 1 + n.
pub take_past : (bytes : List ℕ) (k n : ℕ) → k < length bytes →
    take (k + (1 + n)) bytes ≡ take k bytes ++ get_or bytes k 0 ∷ take n (drop (k + 1) bytes)
take_past bytes k n h =
    let at : k + (1 + n) ≡ (k + 1) + n = omega arith in
    ap (λ m. take m bytes) at ∙ take-add (k + 1) n bytes
    ∙ ap (λ l. l ++ take n (drop (k + 1) bytes)) (take_more bytes k 0 h)
    ∙ append_assoc (take k bytes) (get_or bytes k 0 ∷ []) (take n (drop (k + 1) bytes))

pub take_next : (bytes : List ℕ) (n : ℕ) → 0 < length bytes →
    take (1 + n) bytes ≡ get_or bytes 0 0 ∷ take n (drop 1 bytes)
take_next [] n h = absurd (omega (arith, h))
take_next (b ∷ bytes) n h = let at : 1 + n ≡ suc n = omega arith in rw at refl

-- ==== Groups of one number each.

-- The end of the last group exceeds the start of the first by at least the number of groups.
rises_by : (from : ℕ) (ends : List ℕ) (len : ℕ) → Ascends from ends len → from + length ends + 1 ≤ len
rises_by from [] len a = omega (arith, a)
rises_by from (to ∷ ends) len a = omega (arith, a.0, rises_by to ends len a.1)

-- If there are as many numbers as groups, each group has exactly one number.
pub lone_groups : (from : ℕ) (ends : List ℕ) (len : ℕ) (numbers : List ℕ) → Ascends from ends len →
    len ≤ length numbers → len ≡ from + length ends + 1 →
    groups_from from ends len numbers ≡ map (λ (number : ℕ). number ∷ []) (take (len - from) (drop from numbers))
lone_groups from [] len numbers a fits size =
    let one : len - from ≡ 1 = omega arith in
    rw (one, drop_more numbers from 0 (omega arith)) refl
lone_groups from (to ∷ ends) len numbers a fits size =
    let least = rises_by to ends len a.1 in
    let first : from < to = a.0 in
    let next : to ≡ from + 1 = omega (arith, least, first) in
    let one : to - from ≡ 1 = omega (arith, next) in
    let more : len - from ≡ suc (len - to) = omega (arith, next, least) in
    let here = drop_more numbers from 0 (omega (arith, least, first)) in
    ap (λ k. take k (drop from numbers) ∷ groups_from to ends len numbers) one
    ∙ ap (λ l. take 1 l ∷ groups_from to ends len numbers) here
    ∙ ap (λ l. (get_or numbers from 0 ∷ []) ∷ l)
    (lone_groups to ends len numbers a.1 fits (omega (arith, next, size)))
    ∙ sym (ap (λ k. map (λ (number : ℕ). number ∷ []) (take k (drop from numbers))) more
    ∙ ap (λ l. map (λ (number : ℕ). number ∷ []) (take (suc (len - to)) l)) here
    ∙ ap (λ k. (get_or numbers from 0 ∷ []) ∷ map (λ (number : ℕ). number ∷ []) (take (len - to) (drop k numbers)))
    (sym next))

-- ==== The parts of a text that is cut at each `;`.

-- The parts of the text are those so far, and those of the rest.
abbrev pub Cuts : List (List ℕ) → ℕ → List ℕ → Type 0
Cuts all start text = all ++ slice_split (λ b. b == 0x3B) (drop start text) ≡ slice_split (λ b. b == 0x3B) text

-- The part from `start` up to `end`, which ends before a `;` or with the text.
pub record IsPart (start end : ℕ) (text : List ℕ) : Type 0 where
  pub order : start ≤ end
  pub inside : end ≤ length text
  pub whole : All (λ b. b ≢ 0x3B) (take (end - start) (drop start text))
  pub next : end < length text → get_or text end 0 ≡ 0x3B

no_cut : (text : List ℕ) → All (λ b. b ≢ 0x3B) text → All (λ b. (b == 0x3B) ≡ false) text
no_cut text all =
    All-weaker (λ b. b ≢ 0x3B) (λ b. (b == 0x3B) ≡ false) (λ b other. grind (arith, nat_tests)) text all

drop_next : (text : List ℕ) (k : ℕ) → k < length text → drop k text ≡ get_or text k 0 ∷ drop (k + 1) text
drop_next [] k h = absurd (omega (arith, h))
drop_next (b ∷ text) zero h = refl
drop_next (b ∷ text) (suc k) h =
    let at : suc (k + 1) ≡ suc k + 1 = omega arith in
    drop_next text k (omega (arith, h)) ∙ ap (λ n. get_or text k 0 ∷ drop n (b ∷ text)) at

-- What is found in the rest of a text.
pub next_part : (start n : ℕ) (text : List ℕ) → start ≤ length text →
    n ≤ length (take (length text - start) (drop start text)) →
    All (λ b. b ≢ 0x3B) (take n (take (length text - start) (drop start text))) →
    (n < length (take (length text - start) (drop start text)) →
    get_or (take (length text - start) (drop start text)) n 0 ≡ 0x3B) →
    IsPart start (start + n) text
next_part start n text h inside all next =
    let left = all_left text start in
    let rest : length (take (length text - start) (drop start text)) ≡ length text - start =
    ap length left ∙ length-drop start text in
    let size : start + n - start ≡ n = omega arith in record {
      order = omega arith;
      inside = omega (arith, h, inside, rest);
      whole = subst (λ (k : ℕ). All (λ b. b ≢ 0x3B) (take k (drop start text))) (sym size)
          (subst (λ (l : List ℕ). All (λ b. b ≢ 0x3B) (take n l)) left all);
      next = λ lt.
          sym (get_or-drop start text n 0)
          ∙ (ap (λ (l : List ℕ). get_or l n 0) (sym left) ∙ next (omega (arith, lt, rest)));
    }

-- A part, the `;` after it, and the rest.
rest_of : (start end : ℕ) (text : List ℕ) → start ≤ end → end < length text →
    drop start text ≡ take (end - start) (drop start text) ++ get_or text end 0 ∷ drop (end + 1) text
rest_of start end text order h =
    let at : start + (end - start) ≡ end = omega (arith, order) in
    sym (take-append-drop (end - start) (drop start text))
    ∙ ap (λ l. take (end - start) (drop start text) ++ l)
    (drop-drop (end - start) start text ∙ (ap (λ k. drop k text) at ∙ drop_next text end h))

pub cut_next : (all : List (List ℕ)) (start end : ℕ) (text : List ℕ) → IsPart start end text → end < length text →
    Cuts all start text → Cuts (all ++ take (end - start) (drop start text) ∷ []) (end + 1) text
cut_next all start end text part h cuts =
    let cut : (get_or text end 0 == 0x3B) ≡ true = let is = part.next h in grind (arith, nat_tests) in
    append_assoc all (take (end - start) (drop start text) ∷ []) (slice_split (λ b. b == 0x3B) (drop (end + 1) text))
    ∙ (ap (λ l. all ++ l)
    (sym (slice_split_at (λ b. b == 0x3B) (take (end - start) (drop start text)) (get_or text end 0)
    (drop (end + 1) text) (no_cut _ part.whole) cut)
    ∙ ap (slice_split (λ b. b == 0x3B)) (sym (rest_of start end text part.order h)))
    ∙ cuts)

-- The last part.
pub cut_last : (all : List (List ℕ)) (start end : ℕ) (text : List ℕ) → IsPart start end text → length text ≤ end →
    Cuts all start text →
    take 16 (all ++ take (end - start) (drop start text) ∷ []) ≡ take 16 (slice_split (λ b. b == 0x3B) text)
cut_last all start end text part over cuts =
    let rest : take (end - start) (drop start text) ≡ drop start text =
    take_all (end - start) (drop start text) (omega (arith, over, length-drop start text)) in
    ap (take 16)
    (ap (λ l. all ++ l)
    (sym (slice_split_none (λ b. b == 0x3B) (take (end - start) (drop start text)) (no_cut _ part.whole))
    ∙ ap (slice_split (λ b. b == 0x3B)) rest)
    ∙ cuts)

-- There are 16 parts, so that further ones are dropped.
pub cut_full : (all : List (List ℕ)) (start : ℕ) (part text : List ℕ) → 16 ≤ length (take 16 all) →
    Cuts all start text → take 16 (all ++ part ∷ []) ≡ take 16 (slice_split (λ b. b == 0x3B) text)
cut_full all start part text full cuts =
    let many : 16 ≤ length all = omega (arith, full, length-take 16 all) in
    take-append-le 16 all (part ∷ []) many
    ∙ (sym (take-append-le 16 all (slice_split (λ b. b == 0x3B) (drop start text)) many) ∙ ap (take 16) cuts)

-- ==== A search for a byte in a range, sixteen lanes at a time.

abbrev pub wrapped : ℕ → ℕ → ℕ
wrapped a b = (a + (256 - b)) % 256

abbrev pub at_most : ℕ → ℕ → ℕ
at_most a b = cond (leb a b) 255 0

pub range_mask : (low width : ℕ) (v : List ℕ) → length v ≡ 16
    → mask_l (map (top 7) (zip2 at_most (zip2 wrapped v (replicate 16 low)) (replicate 16 width))) % 2 ^ 64
    ≡ mask_l (map (is_in_range low width) v)
range_mask low width v long =
    ap (λ l. mask_l (map (top 7) (zip2 at_most l (replicate 16 width))) % 2 ^ 64)
    (zip2_splat wrapped v 16 low long)
    ∙ bitmask_splat w8 leb (map (λ x. wrapped x low) v) 16 width
    (length-map v (λ x. wrapped x low) ∙ long) (omega arith)
    ∙ ap mask_l (map-map (λ x. leb x width) (λ x. wrapped x low) v)

-- The bytes before this index are not found.
abbrev pub IsRun : (ℕ → Bool) → List ℕ → ℕ → Type 0
IsRun found bytes n = (k : ℕ) → k < n → found (get_or bytes k 0) ≡ false

pub run_more : (found : ℕ → Bool) (bytes : List ℕ) (i : ℕ) → i + 16 ≤ length bytes → IsRun found bytes i →
    mask_l (map found (chunk i 16 bytes)) ≡ 0 → IsRun found bytes (i + 16)
run_more found bytes i room run none k lt = run_at (leb i k) refl
  where
    run_at : (b : Bool) → leb i k ≡ b → found (get_or bytes k 0) ≡ false
    run_at true e = none_from_empty_mask found bytes i 16 0 room none k (grind (arith, nat_tests)) lt
    run_at false e = run k (grind (arith, nat_tests))

pub run_next : (found : ℕ → Bool) (bytes : List ℕ) (i : ℕ) → IsRun found bytes i →
    found (get_or bytes i 0) ≡ false → IsRun found bytes (i + 1)
run_next found bytes i run next k lt = elim (cases_eq k i) [
  | inl same ↦ ap (λ (j : ℕ). found (get_or bytes j 0)) same ∙ next
  | inr other ↦ run k (omega (arith, lt, other))
]

none_fails : (b : Bool) (n l m : ℕ) → n ≤ l → cond (not b) (1 + n) 0 ≡ 1 + l → (n ≡ l → m ≡ 0)
    → cond b 1 0 + 2 * m ≡ 0
none_fails true n l m le e ih = absurd (omega arith)
none_fails false n l m le e ih = let z = ih (omega arith) in omega arith

all_pass : (found : ℕ → Bool) (xs : List ℕ) → prefix_len (λ x. not (found x)) xs ≡ length xs →
    mask_l (map found xs) ≡ 0
all_pass found [] e = refl
all_pass found (x ∷ xs) e =
    none_fails (found x) _ (length xs) _ (prefix_len-le-length (λ y. not (found y)) xs) (omega arith)
    (all_pass found xs)

-- If a lane is found, the run ends at the first such lane.
module _ (found : ℕ → Bool) (bytes : List ℕ) (i mask : ℕ)
    (room : i + 16 ≤ length bytes) (run : IsRun found bytes i)
    (is : mask ≡ mask_l (map found (chunk i 16 bytes))) (some : 0 < mask) where
  counted : count_trailing_zeros 64 mask ≡ prefix_len (λ x. not (found x)) (chunk i 16 bytes)
  counted =
      ap (count_trailing_zeros 64) is
      ∙ trailing_mask_l found 64 (chunk i 16 bytes) (omega (arith, length-chunk i 16 bytes room))
      (omega (arith, is))

  most : count_trailing_zeros 64 mask ≤ 16
  most = run_in_chunk_le found bytes i 16 (count_trailing_zeros 64 mask) 0 room counted

  below : count_trailing_zeros 64 mask < 16
  below =
      elim (cases_eq (count_trailing_zeros 64 mask) 16) [
        | inl full ↦
            let whole = sym counted ∙ full ∙ sym (length-chunk i 16 bytes room) in
            let none = all_pass found (chunk i 16 bytes) whole in
            absurd (omega (arith, is, none))
        | inr other ↦ omega (arith, most, other)
      ]

  pub ends_inside : i + count_trailing_zeros 64 mask ≤ length bytes
  ends_inside = omega (arith, most)

  pub ends_run : IsRun found bytes (i + count_trailing_zeros 64 mask)
  ends_run k lt = run_at (leb i k) refl
    where
      run_at : (b : Bool) → leb i k ≡ b → found (get_or bytes k 0) ≡ false
      run_at true e = run_in_chunk_fails found bytes i 16 _ 0 room counted k (grind (arith, nat_tests)) lt
      run_at false e = run k (grind (arith, nat_tests))

  pub ends_here : found (get_or bytes (i + count_trailing_zeros 64 mask) 0) ≡ true
  ends_here = run_in_chunk_stops found bytes i 16 _ 0 room counted below

-- ---- All bytes of a run

pub All-run : (P : ℕ → Type 0) (bytes : List ℕ) (n : ℕ) → ((k : ℕ) → k < n → P (get_or bytes k 0)) → n ≤ length bytes →
    All P (take n bytes)
All-run P bytes n each inside =
    All-from_get_or P (take n bytes) 0 (λ i lt. grind (arith, common_steps, each i))

pub AllByRecursion-run : (P : ℕ → Type 0) (bytes : List ℕ) (n : ℕ) → ((k : ℕ) → k < n → P (get_or bytes k 0)) →
    n ≤ length bytes → AllByRecursion P (take n bytes)
AllByRecursion-run P bytes zero each inside = tt
AllByRecursion-run P [] (suc n) each inside = absurd (omega (arith, inside))
AllByRecursion-run P (b ∷ bytes) (suc n) each inside =
    (each 0 (omega arith), AllByRecursion-run P bytes n (λ k lt. each (suc k) (omega (arith, lt))) (omega (arith, inside)))

-- ---- The bytes of each range

pub unprintable : (b : ℕ) → b < 256 → is_in_range 0x7F 0xA0 b ≡ false → IsPrintableByte b
unprintable b small e = (grind (arith, nat_tests), grind (arith, nat_tests))

pub control : (b : ℕ) → b < 256 → is_in_range 0 0x1F b ≡ false → 0x20 ≤ b
control b small e = grind (arith, nat_tests)

pub semicolon : (b : ℕ) → b < 256 → is_in_range 0x3B 0 b ≡ false → b ≢ 0x3B
semicolon b small e = λ is. grind (arith, nat_tests)

pub may_end : (b : ℕ) → b < 256 → is_in_range 0x18 3 b ≡ false → IsUnended b
may_end b small e = ((λ is. grind (arith, nat_tests)), (λ is. grind (arith, nat_tests)), (λ is. grind (arith, nat_tests)))

-- ---- The bytes of a string that is ignored

rest_at : (bytes : List ℕ) (i j : ℕ) →
    get_or (take (length bytes - (i + 1)) (drop (i + 1) bytes)) j 0 ≡ get_or bytes (i + 1 + j) 0
rest_at bytes i j =
    ap (λ (left : List ℕ). get_or left j 0) (all_left bytes (i + 1)) ∙ get_or-drop (i + 1) bytes j 0

-- EM, and a run after it.
pub unended_more : (bytes : List ℕ) (i n : ℕ) → ((k : ℕ) → get_or bytes k 0 < 256) → get_or bytes i 0 ≡ 0x19 →
    ((k : ℕ) → k < i → IsUnended (get_or bytes k 0)) →
    ((k : ℕ) → k < n →
    is_in_range 0x18 3 (get_or (take (length bytes - (i + 1)) (drop (i + 1) bytes)) k 0) ≡ false) →
    (k : ℕ) → k < i + (1 + n) → IsUnended (get_or bytes k 0)
unended_more bytes i n small here before behind k lt = elim (cases_lt k i) [
  | inl less ↦ before k less
  | inr more ↦ elim (cases_eq k i) [
    | inl same ↦
        let is : get_or bytes k 0 ≡ 0x19 = ap (λ (j : ℕ). get_or bytes j 0) same ∙ here in (
          (λ e. absurd (omega (arith, is, e))),
          (λ e. absurd (omega (arith, is, e))),
          (λ e. absurd (omega (arith, is, e))),
        )
    | inr other ↦
        let at : i + 1 + (k - (i + 1)) ≡ k = omega (arith, more, other) in
        may_end _ (small k)
        (ap (λ (j : ℕ). is_in_range 0x18 3 (get_or bytes j 0)) (sym at)
        ∙ (ap (is_in_range 0x18 3) (sym (rest_at bytes i (k - (i + 1))))
        ∙ behind (k - (i + 1)) (omega (arith, lt, more, other))))
  ]
]

pub unended_next : (bytes : List ℕ) (i n : ℕ) →
    (n < length (take (length bytes - (i + 1)) (drop (i + 1) bytes)) →
    is_in_range 0x18 3 (get_or (take (length bytes - (i + 1)) (drop (i + 1) bytes)) n 0) ≡ true) →
    i + (1 + n) < length bytes → is_in_range 0x18 3 (get_or bytes (i + (1 + n)) 0) ≡ true
unended_next bytes i n next lt =
    let at : i + (1 + n) ≡ i + 1 + n = omega arith in
    let rest : length (take (length bytes - (i + 1)) (drop (i + 1) bytes)) ≡ length bytes - (i + 1) =
    ap length (all_left bytes (i + 1)) ∙ length-drop (i + 1) bytes in
    ap (λ (j : ℕ). is_in_range 0x18 3 (get_or bytes j 0)) at
    ∙ (ap (is_in_range 0x18 3) (sym (rest_at bytes i n)) ∙ next (omega (arith, lt, rest)))
