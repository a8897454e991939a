-- Runs of items with equal styles.
use Rattle.std.proofs.Common.{◌≡◌, ℕ, ◌+◌, ◌<◌, ◌≤◌, ◌&&◌, Bool, true, false, List, [], ◌∷◌, ◌++◌, length, get_or, refl, sym, ap}
use Rattle.std.proofs.Common.{◌∙◌, arith, append_assoc, append-nil, zero, suc, replicate, add-one, subst}
use Rattle.std.specs.Prelude.{nat_lt, slice_set, if◌then◌else◌}
use Rattle.std.proofs.lemmas.Bool.Decides.{nat_tests}
use Rattle.vt_cells.specs.Attrs.{same_attrs, same_bool}
use Rattle.vt_cells.proofs.Attributes.{attrs_of-same}
use Rattle.vt_packed.specs.Items.{Style}
use Rattle.vt_packed.specs.Packed.{AreCounted, extends, run_of, run_style, runs_after, runs_of, styles_of}
use Rattle.vt_packed.specs.declared.runs.Run.{Run}
use Rattle.vt_packed.specs.Internals.{last_or, pushed}

bool_same : (a b : Bool) → same_bool a b ≡ true → a ≡ b
bool_same true true e = refl
bool_same true false e = absurd (cc)
bool_same false true e = absurd (cc)
bool_same false false e = refl

parts_true : (a b c : Bool) → (a && (b && c)) ≡ true → (a ≡ true) × ((b ≡ true) × (c ≡ true))
parts_true true true true e = (refl, (refl, refl))
parts_true true true false e = absurd (cc)
parts_true true false c e = absurd (cc)
parts_true false b c e = absurd (cc)

-- An item that is added to a run has the style of the run.
style_same : (run : Run) (style : Style) → extends style run ≡ true → style ≡ run_style run
style_same run style e =
    let parts = parts_true (nat_lt run.count 65535) (same_bool run.wide style.wide) (same_attrs run.attrs style.attrs) e in
    λ i. record {
      attrs = sym (attrs_of-same run.attrs style.attrs parts.1.1) i;
      wide = sym (bool_same run.wide style.wide parts.1.0) i;
    }

-- One more copy at the end of a list of copies.
replicate_more : (n : ℕ) (style : Style) → replicate (suc n) style ≡ replicate n style ++ style ∷ []
replicate_more zero style = refl
replicate_more (suc n) style = ap (λ (xs : List Style). style ∷ xs) (replicate_more n style)

-- ==== The styles of runs

styles_after : (run : Run) (styles : List Style) →
    styles_of (runs_after run styles) ≡ replicate run.count (run_style run) ++ styles
styles_after run [] = refl
styles_after run (style ∷ styles) =
    by_extends (extends style run) refl (styles_after (record run { count = run.count + 1 }) styles)
    (styles_after (run_of style) styles) where
      by_extends : (b : Bool) → extends style run ≡ b →
          styles_of (runs_after (record run { count = run.count + 1 }) styles) ≡ replicate (run.count + 1) (run_style run) ++ styles →
          styles_of (runs_after (run_of style) styles) ≡ style ∷ styles →
          styles_of (if b then runs_after (record run { count = run.count + 1 }) styles else run ∷ runs_after (run_of style) styles)
          ≡ replicate run.count (run_style run) ++ style ∷ styles
      by_extends true e joined begun =
          joined
          ∙ (ap (λ (n : ℕ). replicate n (run_style run) ++ styles) (add-one run.count)
          ∙ (ap (λ (xs : List Style). xs ++ styles) (replicate_more run.count (run_style run))
          ∙ (append_assoc (replicate run.count (run_style run)) (run_style run ∷ []) styles
          ∙ ap (λ (s : Style). replicate run.count (run_style run) ++ s ∷ styles) (sym (style_same run style e)))))
      by_extends false e joined begun = ap (λ (xs : List Style). replicate run.count (run_style run) ++ xs) begun

-- The runs of items with some styles have these styles.
pub styles_back : (styles : List Style) → styles_of (runs_of styles) ≡ styles
styles_back [] = refl
styles_back (style ∷ styles) = styles_after (run_of style) styles

counted_after : (run : Run) (styles : List Style) → 0 < run.count → AreCounted (runs_after run styles)
counted_after run [] h = (h, tt)
counted_after run (style ∷ styles) h =
    by_extends (extends style run) (counted_after (record run { count = run.count + 1 }) styles (omega arith))
    (counted_after (run_of style) styles (omega arith)) where
      by_extends : (b : Bool) → AreCounted (runs_after (record run { count = run.count + 1 }) styles) →
          AreCounted (runs_after (run_of style) styles) →
          AreCounted (if b then runs_after (record run { count = run.count + 1 }) styles else run ∷ runs_after (run_of style) styles)
      by_extends true joined begun = joined
      by_extends false joined begun = (h, begun)

pub counted_runs : (styles : List Style) → AreCounted (runs_of styles)
counted_runs [] = tt
counted_runs (style ∷ styles) = counted_after (run_of style) styles (omega arith)

-- ==== Runs to which an item is added

-- A run before others stays.
pushed_below : (run next : Run) (styles : List Style) (style : Style) →
    pushed (run ∷ runs_after next styles) style ≡ run ∷ pushed (runs_after next styles) style
pushed_below run next [] style = refl
pushed_below run next (first ∷ styles) style =
    by_extends (extends first next) (pushed_below run (record next { count = next.count + 1 }) styles style) where
      by_extends : (b : Bool) →
          pushed (run ∷ runs_after (record next { count = next.count + 1 }) styles) style
          ≡ run ∷ pushed (runs_after (record next { count = next.count + 1 }) styles) style →
          pushed (run ∷ (if b then runs_after (record next { count = next.count + 1 }) styles
          else next ∷ runs_after (run_of first) styles)) style
          ≡ run ∷ pushed (if b then runs_after (record next { count = next.count + 1 }) styles
          else next ∷ runs_after (run_of first) styles) style
      by_extends true joined = joined
      by_extends false joined = refl

after_more : (run : Run) (styles : List Style) (style : Style) →
    runs_after run (styles ++ style ∷ []) ≡ pushed (runs_after run styles) style
after_more run [] style = refl
after_more run (first ∷ styles) style =
    by_extends (extends first run) (after_more (record run { count = run.count + 1 }) styles style)
    (after_more (run_of first) styles style) where
      by_extends : (b : Bool) →
          runs_after (record run { count = run.count + 1 }) (styles ++ style ∷ [])
          ≡ pushed (runs_after (record run { count = run.count + 1 }) styles) style →
          runs_after (run_of first) (styles ++ style ∷ []) ≡ pushed (runs_after (run_of first) styles) style →
          (if b then runs_after (record run { count = run.count + 1 }) (styles ++ style ∷ [])
          else run ∷ runs_after (run_of first) (styles ++ style ∷ []))
          ≡ pushed (if b then runs_after (record run { count = run.count + 1 }) styles
          else run ∷ runs_after (run_of first) styles) style
      by_extends true joined begun = joined
      by_extends false joined begun =
          ap (λ (rs : List Run). run ∷ rs) begun ∙ sym (pushed_below run (run_of first) styles style)

-- The runs of some items and one more.
pub runs_more : (styles : List Style) (style : Style) → runs_of (styles ++ style ∷ []) ≡ pushed (runs_of styles) style
runs_more [] style = refl
runs_more (first ∷ styles) style = after_more (run_of first) styles style

-- The item is added to the last run.
pub pushed_joined : (runs : List Run) (k : ℕ) (run : Run) (style : Style) → k + 1 ≡ length runs → run ≡ get_or runs k run →
    extends style run ≡ true → slice_set runs k (record run { count = run.count + 1 }) ≡ pushed runs style
pushed_joined [] k run style len is e = absurd (omega (arith, len))
pushed_joined (first ∷ []) zero run style len is e =
    subst (λ (r : Run). record run { count = run.count + 1 } ∷ [] ≡ pushed (r ∷ []) style) is (rw e refl)
pushed_joined (first ∷ []) (suc k) run style len is e = absurd (omega (arith, len))
pushed_joined (first ∷ second ∷ runs) zero run style len is e = absurd (omega (arith, len))
pushed_joined (first ∷ second ∷ runs) (suc k) run style len is e =
    ap (λ (rs : List Run). first ∷ rs) (pushed_joined (second ∷ runs) k run style (omega (arith, len)) is e)

-- The item begins a run after the last one.
pub pushed_begun : (runs : List Run) (k : ℕ) (run : Run) (style : Style) → k + 1 ≡ length runs → run ≡ get_or runs k run →
    extends style run ≡ false → runs ++ run_of style ∷ [] ≡ pushed runs style
pushed_begun [] k run style len is e = absurd (omega (arith, len))
pushed_begun (first ∷ []) zero run style len is e =
    subst (λ (r : Run). r ∷ run_of style ∷ [] ≡ pushed (r ∷ []) style) is (rw e refl)
pushed_begun (first ∷ []) (suc k) run style len is e = absurd (omega (arith, len))
pushed_begun (first ∷ second ∷ runs) zero run style len is e = absurd (omega (arith, len))
pushed_begun (first ∷ second ∷ runs) (suc k) run style len is e =
    ap (λ (rs : List Run). first ∷ rs) (pushed_begun (second ∷ runs) k run style (omega (arith, len)) is e)

-- The item begins the first run.
pub pushed_first : (runs : List Run) (style : Style) → length runs ≡ 0 → runs ++ run_of style ∷ [] ≡ pushed runs style
pushed_first [] style e = refl
pushed_first (first ∷ runs) style e = absurd (omega (arith, e))

-- ==== The number of runs

pushed_longer : (runs : List Run) (style : Style) → length runs ≤ length (pushed runs style)
pushed_longer [] style = omega arith
pushed_longer (run ∷ []) style = by_extends (extends style run) where
  by_extends : (b : Bool) →
      1 ≤ length (if b then record run { count = run.count + 1 } ∷ [] else run ∷ run_of style ∷ [])
  by_extends true = omega arith
  by_extends false = omega arith
pushed_longer (run ∷ next ∷ runs) style = let more = pushed_longer (next ∷ runs) style in omega (arith, more)

-- More items have no fewer runs.
pub runs_longer : (styles more : List Style) → length (runs_of styles) ≤ length (runs_of (styles ++ more))
runs_longer styles [] = let e = ap (λ (ss : List Style). length (runs_of ss)) (append-nil styles) in omega (arith, e)
runs_longer styles (style ∷ more) =
    let one = pushed_longer (runs_of styles) style in
    let pushed = ap (λ (rs : List Run). length rs) (runs_more styles style) in
    let rest = runs_longer (styles ++ style ∷ []) more in
    let all = ap (λ (ss : List Style). length (runs_of ss)) (append_assoc styles (style ∷ []) more) in
    omega (arith, one, pushed, rest, all)

-- What becomes of the last run, and of the number of runs, when an item is added.
pub record Adds (run : Run) (runs : List Run) (count : ℕ) (last : Run) (style : Style) : Type 0 where
  pub has_count : length (pushed runs style) ≡ length runs + count
  pub is_last : last ≡ last_or run (pushed runs style)

joins : (run first : Run) (runs : List Run) (style : Style) → extends style (last_or first runs) ≡ true →
    Adds run (first ∷ runs) 0 (record (last_or first runs) { count = (last_or first runs).count + 1 }) style
joins run first [] style e = record { has_count = rw e refl; is_last = rw e refl }
joins run first (next ∷ runs) style e =
    let adds = joins first next runs style e in
    let count = adds.has_count in record { has_count = omega (arith, count); is_last = adds.is_last }

-- The item is added to the last run.
pub joins_last : (run : Run) (runs : List Run) (style : Style) → run.count ≡ 65535 → extends style (last_or run runs) ≡ true →
    Adds run runs 0 (record (last_or run runs) { count = (last_or run runs).count + 1 }) style
joins_last run [] style full e =
    let lt : nat_lt run.count 65535 ≡ true =
    (parts_true (nat_lt run.count 65535) (same_bool run.wide style.wide) (same_attrs run.attrs style.attrs) e).0 in
    absurd (grind (arith, nat_tests))
joins_last run (first ∷ runs) style full e = joins run first runs style e

-- The item begins a run.
pub begins_last : (run : Run) (runs : List Run) (style : Style) → extends style (last_or run runs) ≡ false →
    Adds run runs 1 (run_of style) style
begins_last run [] style e = record { has_count = refl; is_last = refl }
begins_last run (first ∷ []) style e = record { has_count = rw e refl; is_last = rw e refl }
begins_last run (first ∷ next ∷ runs) style e =
    let adds = begins_last first (next ∷ runs) style e in
    let count = adds.has_count in record { has_count = omega (arith, count); is_last = adds.is_last }
