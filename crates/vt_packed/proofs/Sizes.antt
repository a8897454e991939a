-- The numbers of runs and of bytes of a packed row.
use Rattle.std.proofs.Common.{◌≡◌, ℕ, ◌+◌, ◌*◌, ◌<◌, ◌≤◌, Bool, true, false, List, [], ◌∷◌, length, replicate, map, refl, sym, ap, ap₂, ◌∙◌, arith, suc}
use Rattle.std.proofs.Common.{inl, inr}
use Rattle.std.specs.Prelude.{if◌then◌else◌, min}
use Rattle.std.specs.List.{AllByRecursion}
use Rattle.std.proofs.Math.Nat.{min-eq_left, min-eq_right}
use Rattle.std.proofs.lemmas.Bool.{cases_lt}
use Rattle.std.proofs.lemmas.List.{length-append, length-replicate}
use Rattle.vt_cells.specs.Attrs.{Attrs}
use Rattle.vt_cells.specs.Cell.{CellValue}
use Rattle.vt_rows.specs.Row.{RowValue, cells_without_end}
use Rattle.vt_packed.specs.Items.{Item, IsItem, Style, cells_of, cells_of_parts, item_cells, items_of, is_single}
use Rattle.vt_packed.specs.Items.{stored_text, stored_texts}
use Rattle.vt_packed.specs.Packed.{AreCounted, FitsIn, IsPacked, PackedSize, items_from, packed_runs, packed_size, packed_text}
use Rattle.vt_packed.specs.Packed.{padded, run_style, runs_of, styles_of}
use Rattle.vt_packed.specs.declared.runs.Run.{Run}
use Rattle.vt_packed.proofs.PackedCells.{items_again}
use Rattle.vt_packed.proofs.Stored.{short_item}
use Rattle.vt_packed.proofs.Written.{trimmed_padded}

runs_few : (runs : List Run) → AreCounted runs → length runs ≤ length (styles_of runs)
runs_few [] all = omega arith
runs_few (run ∷ runs) all =
    let few = runs_few runs all.1 in
    let some = all.0 in
    let sum = length-append (replicate run.count (run_style run)) (styles_of runs) in
    let count = length-replicate run.count (run_style run) in
    omega (arith, few, some, sum, count)

length-items : (styles : List Style) (bytes : List ℕ) → length (items_from styles bytes) ≡ length styles
length-items [] bytes = refl
length-items (style ∷ styles) bytes = ap suc (length-items styles _)

some_cells : (wide : Bool) (text : List ℕ) (attrs : Attrs) → 1 ≤ length (cells_of_parts wide text attrs)
some_cells true text attrs = omega arith
some_cells false [] attrs = omega arith
some_cells false (byte ∷ text) attrs = omega arith

cells_many : (items : List Item) → length items ≤ length (cells_of items)
cells_many [] = omega arith
cells_many (item ∷ items) =
    let many = cells_many items in
    let some = some_cells item.style.wide item.text item.style.attrs in
    let sum = length-append (item_cells item) (cells_of items) in
    omega (arith, many, some, sum)

stored_small : (text : List ℕ) → length text ≤ 29 → length (stored_text text) ≤ 30
unfolding stored_text
stored_small text h = by_single (is_single text) where
  by_single : (b : Bool) → length (if b then text else (0x80 + length text) ∷ text) ≤ 30
  by_single true = omega arith
  by_single false = omega arith

texts_small : (items : List Item) → AllByRecursion IsItem items → length (stored_texts items) ≤ 30 * length items
texts_small [] all = omega arith
texts_small (item ∷ items) all =
    let more = texts_small items all.1 in
    let small = stored_small item.text (short_item item all.0) in
    let sum = length-append (stored_text item.text) (stored_texts items) in
    omega (arith, more, small, sum)

styles_from : (styles : List Style) (bytes : List ℕ) → map (λ (i : Item). i.style) (items_from styles bytes) ≡ styles
styles_from [] bytes = refl
styles_from (style ∷ styles) bytes = ap (λ (ss : List Style). style ∷ ss) (styles_from styles _)

-- A packed row has at most one run and 30 bytes of text for each column.
pub packed_small : (runs : List Run) (text : List ℕ) (cols : ℕ) → IsPacked runs text cols →
    (length runs ≤ cols) × (length text ≤ 30 * cols)
packed_small runs text cols p =
    let items = items_from (styles_of runs) text in
    let few = runs_few runs p.counted in
    let count = length-items (styles_of runs) text in
    let many = cells_many items in
    let inside = p.inside in
    let small = texts_small items p.items.sound in
    let size = ap (λ (bytes : List ℕ). length bytes) p.items.stored in
    (omega (arith, few, count, many, inside), omega (arith, count, many, inside, small, size))

-- The size of a packed row is the one that its cells determine.
pub packed_own : (runs : List Run) (text : List ℕ) (cols : ℕ) (wrapped : Bool) (n m : ℕ) → IsPacked runs text cols →
    length runs ≡ n → length text ≡ m →
    packed_size (record { cells = padded cols (cells_of (items_from (styles_of runs) text)); wrapped = wrapped })
    ≡ record { runs = n; text = m }
unfolding packed_size
packed_own runs text cols wrapped n m p has_runs has_text =
    let items = items_from (styles_of runs) text in
    let kept = trimmed_padded cols (cells_of items) p.ends in
    let again = ap items_of kept ∙ items_again items in
    let own : runs_of (map (λ (i : Item). i.style) items) ≡ runs = ap runs_of (styles_from (styles_of runs) text) ∙ sym p.joined in
    ap (λ (is : List Item). size (length (runs_of (map (λ (i : Item). i.style) is))) (length (stored_texts is))) again
    ∙ ap₂ size (ap (λ (rs : List Run). length rs) own ∙ has_runs)
    (ap (λ (bytes : List ℕ). length bytes) (sym p.items.stored) ∙ has_text) where
      size : ℕ → ℕ → PackedSize
      size runs text = record { runs = runs; text = text }

-- A row that fits in the memory of a packed row has no more runs and no longer text.
pub fits_old : (cells kept : List CellValue) (new_wrapped : Bool) (runs : List Run) (text : List ℕ) (cols : ℕ) (wrapped : Bool)
    (old : RowValue) → kept ≡ cells_without_end cells → IsPacked runs text cols →
    record { cells = padded cols (cells_of (items_from (styles_of runs) text)); wrapped = wrapped } ≡ old →
    FitsIn (packed_size (record { cells = cells; wrapped = new_wrapped })) (packed_size old) →
    (length (packed_runs kept) ≤ length runs) × (length (packed_text kept) ≤ length text)
unfolding packed_size
fits_old cells kept new_wrapped runs text cols wrapped old is p is_old fits =
    let size = ap packed_size (sym is_old) ∙ packed_own runs text cols wrapped (length runs) (length text) p refl refl in
    let few = ap (λ (s : PackedSize). s.runs) size in
    let short = ap (λ (s : PackedSize). s.text) size in
    let own_runs = ap (λ (xs : List CellValue). length (packed_runs xs)) is in
    let own_text = ap (λ (xs : List CellValue). length (packed_text xs)) is in
    (omega (arith, fits.0, few, own_runs), omega (arith, fits.1, short, own_text))

-- ==== Sums that stop at a bound

pub bounded_sum : (a b sum next bound : ℕ) → sum ≡ min a bound → next ≡ min (sum + b) bound → next ≡ min (a + b) bound
bounded_sum a b sum next bound is more = elim (cases_lt a bound) [
  | inl lt ↦
      let le : a ≤ bound = omega (arith, lt) in
      more ∙ ap (λ (n : ℕ). min (n + b) bound) (is ∙ min-eq_left le)
  | inr ge ↦
      let full : sum ≡ bound = is ∙ min-eq_right ge in
      let le : bound ≤ sum + b = omega (arith, full) in
      let all : bound ≤ a + b = omega (arith, ge) in
      more ∙ (min-eq_right le ∙ sym (min-eq_right all))
]

-- What is below a bound once it is cut at the bound was below the bound before.
pub bounded_le : (a bound most : ℕ) → min a bound ≤ most → most < bound → a ≤ most
bounded_le a bound most le lt = elim (cases_lt a bound) [
  | inl below ↦
      let all : a ≤ bound = omega (arith, below) in
      let same : min a bound ≡ a = min-eq_left all in
      omega (arith, same, le)
  | inr ge ↦
      let same : min a bound ≡ bound = min-eq_right ge in
      absurd (omega (arith, same, le, lt))
]
