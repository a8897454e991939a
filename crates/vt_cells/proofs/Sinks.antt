-- Sinks and buffers: strings gathered before they are written, and writes that a sink stopped.
use Rattle.std.proofs.Common.{◌≡◌, ℕ, ◌+◌, ◌<◌, ◌≤◌, List, [], ◌∷◌, ◌++◌, length, drop, refl, sym, subst, ap, ◌∙◌}
use Rattle.std.proofs.Common.{arith, append_assoc, append-nil, length-append, take, slice_index_or, slice_set, zero}
use Rattle.std.proofs.Common.{suc, IsUtf8}
use Rattle.std.specs.Result.{OnErr}
use Rattle.std.specs.declared.result.Result.{Result}
use Rattle.std.specs.declared.result.Result.TheVariants.{Ok, Err}
use Rattle.std.proofs.lemmas.Slice.{take-put_mid}
use Rattle.std.proofs.lemmas.Str.{IsUtf8-append, IsUtf8-from_ascii}
use Rattle.std.proofs.lemmas.Str.Ascii.{IsAscii-cons, IsAscii-nil}
use borrow.Rule.Slice.PartMut.{put_mid}
use Rattle.vt_cells.specs.Internals.{buffered_text, IsBuffer}
use Rattle.vt_cells.specs.Sinks.{IsStopped}

-- ==== Writes that a sink stopped.

-- A statement that holds in any case holds after an error.
pub on_err : {T E P : Type 0} (r : Result T E) → P → OnErr r P
on_err (Ok x) p = tt
on_err (Err e) p = p

-- If writing the first part of a text failed, writing the whole text stopped there.
pub stopped_first : (refuses : List ℕ → List ℕ → List ℕ → Type 0) (before offered rest after : List ℕ)
    → 0 < length offered → refuses before offered after → IsStopped refuses before (offered ++ rest) after
stopped_first refuses before offered rest after some refused = record {
  taken = [];
  offered = offered;
  rest = rest;
  parts = refl;
  nonempty = some;
  refused = subst (λ (xs : List ℕ). refuses xs offered after) (sym (append-nil before)) refused;
}

head_same : (x y : ℕ) (xs ys : List ℕ) → x ∷ xs ≡ y ∷ ys → x ≡ y
head_same x y xs ys e = cc

tail_same : (x y : ℕ) (xs ys : List ℕ) → x ∷ xs ≡ y ∷ ys → xs ≡ ys
tail_same x y xs ys e = cc

-- A text written to a sink consists of the bytes that the sink has gained and of those still to be written.
between : (old mid more whole : List ℕ) → mid ++ more ≡ old ++ whole → length old ≤ length mid
    → (old ++ drop (length old) mid ≡ mid) × (drop (length old) mid ++ more ≡ whole)
between [] mid more whole e le = (refl, e)
between (x ∷ old) [] more whole e le = let none : ⊥ = omega (arith, le) in absurd none
between (x ∷ old) (y ∷ mid) more whole e le =
    let first = head_same y x (mid ++ more) (old ++ whole) e in
    let part = between old mid more whole (tail_same y x (mid ++ more) (old ++ whole) e) (omega (arith, le)) in
    (ap (λ (xs : List ℕ). x ∷ xs) part.0 ∙ ap (λ (z : ℕ). z ∷ mid) (sym first), part.1)

-- If writing a part of a text stopped, writing the whole text stopped there.
pub stopped_in : (refuses : List ℕ → List ℕ → List ℕ → Type 0) (old mid text rest whole after : List ℕ)
    → mid ++ (text ++ rest) ≡ old ++ whole → length old ≤ length mid
    → IsStopped refuses mid text after → IsStopped refuses old whole after
stopped_in refuses old mid text rest whole after e le stopped =
    let part = between old mid (text ++ rest) whole e le in
    let front = drop (length old) mid in
    record {
      taken = front ++ stopped.taken;
      offered = stopped.offered;
      rest = stopped.rest ++ rest;
      parts =
          sym part.1
          ∙ ap (λ (xs : List ℕ). front ++ (xs ++ rest)) stopped.parts
          ∙ ap (λ (xs : List ℕ). front ++ xs) (append_assoc stopped.taken (stopped.offered ++ stopped.rest) rest
          ∙ ap (λ (xs : List ℕ). stopped.taken ++ xs) (append_assoc stopped.offered stopped.rest rest))
          ∙ sym (append_assoc front stopped.taken (stopped.offered ++ (stopped.rest ++ rest)));
      nonempty = stopped.nonempty;
      refused =
          subst (λ (xs : List ℕ). refuses xs stopped.offered after)
          (ap (λ (xs : List ℕ). xs ++ stopped.taken) (sym part.0) ∙ append_assoc old front stopped.taken)
          stopped.refused;
    }

-- If writing buffered bytes and the first of two texts stopped, writing both texts stopped there.
pub stopped_before : (refuses : List ℕ → List ℕ → List ℕ → Type 0) (before buffer text rest after : List ℕ)
    → IsStopped refuses before (buffer ++ text) after → IsStopped refuses before (buffer ++ (text ++ rest)) after
stopped_before refuses before buffer text rest after stopped =
    stopped_in refuses before before (buffer ++ text) rest (buffer ++ (text ++ rest)) after
    (ap (λ (xs : List ℕ). before ++ xs) (append_assoc buffer text rest)) (omega arith) stopped

-- If writing the second of two texts stopped after the first one was gathered, writing both texts stopped there.
pub stopped_behind : (refuses : List ℕ → List ℕ → List ℕ → Type 0) (old mid was buffer text more after : List ℕ)
    → buffered_text mid buffer ≡ buffered_text old was ++ text → length old ≤ length mid
    → IsStopped refuses mid (buffer ++ more) after → IsStopped refuses old (was ++ (text ++ more)) after
unfolding buffered_text
stopped_behind refuses old mid was buffer text more after e le stopped =
    stopped_in refuses old mid (buffer ++ more) [] (was ++ (text ++ more)) after
    (ap (λ (xs : List ℕ). mid ++ xs) (append-nil (buffer ++ more))
    ∙ sym (append_assoc mid buffer more)
    ∙ ap (λ (xs : List ℕ). xs ++ more) (e ∙ append_assoc old was text)
    ∙ append_assoc old (was ++ text) more
    ∙ ap (λ (xs : List ℕ). old ++ xs) (append_assoc was text more))
    le stopped

-- If writing one of many texts stopped after all texts before it were gathered, writing all of them stopped there.
pub stopped_among : (refuses : List ℕ → List ℕ → List ℕ → Type 0) (old mid buffer text rest whole after : List ℕ)
    → buffered_text mid buffer ++ (text ++ rest) ≡ old ++ whole → length old ≤ length mid
    → IsStopped refuses mid (buffer ++ text) after → IsStopped refuses old whole after
unfolding buffered_text
stopped_among refuses old mid buffer text rest whole after e le stopped =
    stopped_in refuses old mid (buffer ++ text) rest whole after
    (ap (λ (xs : List ℕ). mid ++ xs) (append_assoc buffer text rest)
    ∙ sym (append_assoc mid buffer (text ++ rest)) ∙ e)
    le stopped

-- A text is not empty if its next part, including the buffered bytes, is not empty.
pub some_among : (old mid buffer text rest whole : List ℕ)
    → buffered_text mid buffer ++ (text ++ rest) ≡ old ++ whole → length old ≤ length mid
    → 0 < length buffer + length text → 0 < length whole
unfolding buffered_text
some_among old mid buffer text rest whole e le some =
    let wrote = length-append (mid ++ buffer) (text ++ rest) in
    let first = length-append mid buffer in
    let more = length-append text rest in
    let all = length-append old whole in
    let same : length ((mid ++ buffer) ++ (text ++ rest)) ≡ length (old ++ whole) = ap (λ (xs : List ℕ). length xs) e in
    omega arith

-- If writing a text stopped after the sink accepted an earlier text, writing both texts stopped there.
pub stopped_after : (refuses : List ℕ → List ℕ → List ℕ → Type 0) (old mid first text after : List ℕ)
    → mid ≡ old ++ first → IsStopped refuses mid text after → IsStopped refuses old (first ++ text) after
stopped_after refuses old mid first text after e stopped =
    let long = length-append old first in
    let same : length mid ≡ length (old ++ first) = ap (λ (xs : List ℕ). length xs) e in
    stopped_in refuses old mid text [] (first ++ text) after
    (ap (λ (xs : List ℕ). mid ++ xs) (append-nil text) ∙ ap (λ (xs : List ℕ). xs ++ text) e
    ∙ append_assoc old first text)
    (omega arith) stopped

-- ==== Strings gathered in a buffer.

-- If two lists have one item each, setting the item of the first list to that of the second gives the second list.
pub one_set : (xs ys : List ℕ) → length xs ≡ length ys → length ys ≡ 1 → slice_set xs 0 (slice_index_or ys 0 0) ≡ ys
one_set (x ∷ []) (y ∷ []) e f = refl
one_set (x ∷ (z ∷ xs)) (y ∷ []) e f = let none : ⊥ = omega (arith, e) in absurd none
one_set [] (y ∷ ys) e f = let none : ⊥ = omega (arith, e) in absurd none
one_set xs [] e f = let none : ⊥ = omega (arith, f) in absurd none
one_set xs (y ∷ (z ∷ ys)) e f = let none : ⊥ = omega (arith, f) in absurd none

-- If two lists have two items each, setting both items of the first list to those of the second gives the second list.
pub two_set : (xs ys : List ℕ) → length xs ≡ length ys → length ys ≡ 2 →
    slice_set (slice_set xs 0 (slice_index_or ys 0 0)) 1 (slice_index_or ys 1 0) ≡ ys
two_set (x ∷ (z ∷ [])) (y ∷ (w ∷ [])) e f = refl
two_set [] ys e f = let none : ⊥ = omega (arith, e, f) in absurd none
two_set (x ∷ []) ys e f = let none : ⊥ = omega (arith, e, f) in absurd none
two_set (x ∷ (z ∷ (v ∷ xs))) ys e f = let none : ⊥ = omega (arith, e, f) in absurd none
two_set (x ∷ (z ∷ [])) [] e f = let none : ⊥ = omega (arith, f) in absurd none
two_set (x ∷ (z ∷ [])) (y ∷ []) e f = let none : ⊥ = omega (arith, f) in absurd none
two_set (x ∷ (z ∷ [])) (y ∷ (w ∷ (v ∷ ys))) e f = let none : ⊥ = omega (arith, f) in absurd none

pub three_set : (xs ys : List ℕ) → length xs ≡ length ys → length ys ≡ 3 →
    slice_set (slice_set (slice_set xs 0 (slice_index_or ys 0 0)) 1 (slice_index_or ys 1 0)) 2 (slice_index_or ys 2 0)
    ≡ ys
three_set (x ∷ (z ∷ (v ∷ []))) (y ∷ (w ∷ (u ∷ []))) e f = refl
three_set [] ys e f = let none : ⊥ = omega (arith, e, f) in absurd none
three_set (x ∷ []) ys e f = let none : ⊥ = omega (arith, e, f) in absurd none
three_set (x ∷ (z ∷ [])) ys e f = let none : ⊥ = omega (arith, e, f) in absurd none
three_set (x ∷ (z ∷ (v ∷ (t ∷ xs)))) ys e f = let none : ⊥ = omega (arith, e, f) in absurd none
three_set (x ∷ (z ∷ (v ∷ []))) [] e f = let none : ⊥ = omega (arith, f) in absurd none
three_set (x ∷ (z ∷ (v ∷ []))) (y ∷ []) e f = let none : ⊥ = omega (arith, f) in absurd none
three_set (x ∷ (z ∷ (v ∷ []))) (y ∷ (w ∷ [])) e f = let none : ⊥ = omega (arith, f) in absurd none
three_set (x ∷ (z ∷ (v ∷ []))) (y ∷ (w ∷ (u ∷ (t ∷ ys)))) e f = let none : ⊥ = omega (arith, f) in absurd none

longer : (old text : List ℕ) (n : ℕ) → IsBuffer (length old) old →
    n ≡ length old + length text → n ≤ 256 → IsUtf8 text → IsBuffer n (old ++ text)
longer old text n buffer e fits utf8 = record {
  bounded = fits;
  measured = length-append old text ∙ sym e;
  utf8 = IsUtf8-append old text buffer.utf8 utf8;
}

-- A buffer stays valid when a string that fits is copied to the end of its bytes.
pub pushed : (len k : ℕ) (bytes copied text : List ℕ) → IsBuffer len (take len bytes)
    → len ≤ length bytes → length (take len bytes) + length text ≤ 256 → copied ≡ text → IsUtf8 text
    → IsBuffer (len + length text) (take (len + length text) (put_mid len k bytes copied))
pushed len k bytes copied text buffer inside fits same utf8 =
    subst (λ (whole : List ℕ). IsBuffer (len + length text) whole)
    (sym (take-put_mid len k bytes copied (len + length text) (ap (λ (xs : List ℕ). len + length xs) (sym same)) inside
    ∙ ap (λ (xs : List ℕ). take len bytes ++ xs) same))
    (longer (take len bytes) text (len + length text)
    (subst (λ (n : ℕ). IsBuffer n (take len bytes)) (sym buffer.measured) buffer)
    (ap (λ (n : ℕ). n + length text) (sym buffer.measured))
    (subst (λ (n : ℕ). n + length text ≤ 256) buffer.measured fits) utf8)

pub nothing_gathered : (text : List ℕ) → buffered_text text [] ≡ text
unfolding buffered_text
nothing_gathered text = append-nil text

-- Setting the item after the first `n` items appends it to them.
set_next : (n : ℕ) (xs : List ℕ) (b : ℕ) → n < length xs → take (suc n) (slice_set xs n b) ≡ take n xs ++ b ∷ []
set_next n [] b h = absurd (omega (arith, h))
set_next zero (x ∷ xs) b h = refl
set_next (suc n) (x ∷ xs) b h = ap (λ (ys : List ℕ). x ∷ ys) (set_next n xs b (omega arith))

pub next_byte : (len : ℕ) (bytes : List ℕ) (b : ℕ) → length bytes ≡ 256 → len + 1 ≤ 256
    → take (len + 1) (slice_set bytes len b) ≡ take len bytes ++ b ∷ []
next_byte len bytes b size fits =
    let more : len + 1 ≡ suc len = omega arith in
    ap (λ (n : ℕ). take n (slice_set bytes len b)) more ∙ set_next len bytes b (omega (arith, size, fits))

-- A buffer stays valid when an ASCII character that fits is set after its bytes.
pub byte_pushed : (len : ℕ) (bytes : List ℕ) (b : ℕ) → IsBuffer len (take len bytes) → length bytes ≡ 256
    → len + 1 ≤ 256 → b < 128 → IsBuffer (len + 1) (take (len + 1) (slice_set bytes len b))
byte_pushed len bytes b buffer size fits ascii =
    subst (λ (whole : List ℕ). IsBuffer (len + 1) whole) (sym (next_byte len bytes b size fits))
    (longer (take len bytes) (b ∷ []) (len + 1)
    (subst (λ (n : ℕ). IsBuffer n (take len bytes)) (sym buffer.measured) buffer)
    (ap (λ (n : ℕ). n + 1) (sym buffer.measured)) fits
    (IsUtf8-from_ascii (b ∷ []) (IsAscii-cons b [] ascii IsAscii-nil)))

-- After a flush, the sink has all of the text.
pub all_buffered : (text whole : List ℕ) → text ≡ whole → buffered_text text [] ≡ whole
unfolding buffered_text
all_buffered text whole e = append-nil text ∙ e

-- After a flush, the sink's text is not shorter.
pub longer_flushed : (old buffer text : List ℕ) → text ≡ buffered_text old buffer → length old ≤ length text
unfolding buffered_text
longer_flushed old buffer text e =
    let whole = ap length e in
    let both = length-append old buffer in
    omega arith

-- Appending to the buffer appends to the text.
pub gathered_then : (text old more : List ℕ) → buffered_text text (old ++ more) ≡ buffered_text text old ++ more
unfolding buffered_text
gathered_then text old more = sym (append_assoc text old more)
