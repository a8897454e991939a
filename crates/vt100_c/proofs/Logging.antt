-- The record that a call adds to the log, and the rows that the log keeps.
use Rattle.std.proofs.Common.{◌≡◌, ℕ, Bool, true, false, List, [], ◌∷◌, ◌++◌, length, All, ◌∙◌, ◌-◌, ap, arith, sym}
use Rattle.std.proofs.Common.{subst, rules, zero, suc, ◌<◌, get_or, take}
use Rattle.std.specs.Prelude.{if◌then◌else◌, All, Option, Some, None}
use Rattle.std.proofs.lemmas.List.Elements.{All-append, All-cons, All-nil, All-take}
use Rattle.std.proofs.lemmas.List.{append_assoc, length-append}
use Rattle.vt100_c.specs.Records.{Logged, cells_size, is_bare, record_of, rows_with, with_record}
use Rattle.vt_rows.specs.Row.{IsRow, RowValue, trimmed_row}
use Rattle.vt_screen.specs.Calls.{OnScroll}
use Rattle.vt_screen.specs.Meanings.{call_of}
use Rattle.vt_screen.specs.declared.callbacks.Call.{Call}
use Rattle.std.specs.List.{slice_get}

-- A call that reports no row adds no row to the log.
pub no_row : (call : Call) (rows : List RowValue) → rows_with (call_of call) rows ≡ rows
no_row call rows = search rules

-- A call that reports no row has the same record whether or not rows are recorded without text.
pub no_text : (bare : Bool) (call : Call) → record_of bare (call_of call) ≡ record_of false (call_of call)
no_text bare call = search rules

pub no_cells : (call : Call) → cells_size (call_of call) ≡ 0
no_cells call = search rules

-- Appending the record of a call that reports no row gives the log that the model describes.
pub one_more : (call : Call) (old : Logged) (records : List ℕ) (room : ℕ)
    → records ≡ old.records ++ record_of false (call_of call)
    → room ≡ old.room - (length records - length old.records)
    → record old { records = records; room = room } ≡ with_record (call_of call) old
one_more call old records room is left =
    let made = record_of (is_bare old) (call_of call) in
    let all : records ≡ old.records ++ made =
    is ∙ ap (λ (text : List ℕ). old.records ++ text) (sym (no_text (is_bare old) call)) in
    let size : room ≡ old.room - length made - cells_size (call_of call) =
    omega (arith, left, ap length all, length-append old.records made, no_cells call) in
    λ i. record old { records = all i; rows = sym (no_row call old.rows) i; room = size i }

-- Appending the report of a row gives the log that the model describes.
pub one_row : (row : RowValue) (alternate : Bool) (old : Logged) (records : List ℕ) (rows : List RowValue) (room : ℕ)
    → records ≡ old.records ++ record_of (is_bare old) (OnScroll row alternate)
    → rows ≡ old.rows ++ trimmed_row row ∷ []
    → room ≡ old.room - (length records - length old.records) - cells_size (OnScroll row alternate)
    → record old { records = records; rows = rows; room = room } ≡ with_record (OnScroll row alternate) old
one_row row alternate old records rows room is kept left =
    let made = record_of (is_bare old) (OnScroll row alternate) in
    let cells = cells_size (OnScroll row alternate) in
    let size : room ≡ old.room - length made - cells =
    left ∙ ap (λ (n : ℕ). old.room - n - cells) (omega (arith, ap length is, length-append old.records made)) in
    λ i. record old { records = is i; rows = kept i; room = size i }

-- Five texts that are appended one after the other are appended as one.
pub put_five : (old a b c d e : List ℕ) →
    ((((old ++ a) ++ b) ++ c) ++ d) ++ e ≡ old ++ (a ++ (b ++ (c ++ (d ++ e))))
put_five old a b c d e =
    append_assoc (((old ++ a) ++ b) ++ c) d e
    ∙ (append_assoc ((old ++ a) ++ b) c (d ++ e)
    ∙ (append_assoc (old ++ a) b (c ++ (d ++ e)) ∙ append_assoc old a (b ++ (c ++ (d ++ e)))))

-- Rows stay valid when a valid row is appended, or when its allocation fails.
pub sound_with : (rows : List RowValue) (row : RowValue) (new : List RowValue) (ok : Bool)
    → All (λ (r : RowValue). IsRow (length r.cells) r) rows → IsRow (length row.cells) row
    → new ≡ (if ok then rows ++ row ∷ [] else rows) → All (λ (r : RowValue). IsRow (length r.cells) r) new
sound_with rows row new true all one e =
    subst (All (λ (r : RowValue). IsRow (length r.cells) r)) (sym e)
    (All-append (λ (r : RowValue). IsRow (length r.cells) r) rows (row ∷ []) all (All-cons (λ (r : RowValue). IsRow (length r.cells) r) row [] one (All-nil (λ (r : RowValue). IsRow (length r.cells) r))))
sound_with rows row new false all one e = subst (All (λ (r : RowValue). IsRow (length r.cells) r)) (sym e) all

row_or : RowValue → Option RowValue → RowValue
row_or row None = row
row_or row (Some found) = found

record IsAt (rows : List RowValue) (index : ℕ) (row : RowValue) : Type 0 where
  inside : index < length rows
  is : get_or rows index row ≡ row

kept_at : (rows : List RowValue) (index : ℕ) (row : RowValue) → slice_get rows index ≡ Some row → IsAt rows index row
unfolding row_or
kept_at [] index row e = absurd (cc e)
kept_at (first ∷ rows) zero row e = record { inside = omega arith; is = ap (row_or row) e }
kept_at (first ∷ rows) (suc index) row e =
    let at = kept_at rows index row e in
    let inside : index < length rows = at.inside in
    record { inside = omega arith; is = at.is }

-- Each row that the log keeps is valid.
pub kept_sound : (rows : List RowValue) (index : ℕ) (row : RowValue) →
    All (λ (r : RowValue). IsRow (length r.cells) r) rows → slice_get rows index ≡ Some row → IsRow (length row.cells) row
kept_sound rows index row all e =
    let at = kept_at rows index row e in
    subst (λ (r : RowValue). IsRow (length r.cells) r) at.is (all index row at.inside)

-- Each of the first rows that the log keeps is valid.
pub first_sound : (rows : List RowValue) (count index : ℕ) (row : RowValue) →
    All (λ (r : RowValue). IsRow (length r.cells) r) rows → slice_get (take count rows) index ≡ Some row
    → IsRow (length row.cells) row
first_sound rows count index row all =
    kept_sound (take count rows) index row
    (All-take (λ (r : RowValue). IsRow (length r.cells) r) count rows all)
