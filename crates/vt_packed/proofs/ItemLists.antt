-- Lists of items, read one by one.
use Rattle.std.proofs.Common.{◌≡◌, ℕ, ◌+◌, ◌-◌, ◌<◌, ◌≤◌, List, [], ◌∷◌, ◌++◌, length, replicate, map}
use Rattle.std.proofs.Common.{refl, sym, ap, ap₂, ◌∙◌, arith, zero, suc, subst}
use Rattle.std.specs.Prelude.{slice_index}
use Rattle.std.specs.List.{AllByRecursion}
use Rattle.vt_packed.specs.Items.{Item, Style, IsItem, IsItemText, skipped_len, text_len, stored_texts}
use Rattle.vt_packed.specs.Items.{first_text, after_first}
use Rattle.vt_packed.specs.Packed.{AreItems, items_from, run_style, styles_of}
use Rattle.vt_packed.specs.declared.runs.Run.{Run}
use Rattle.vt_packed.proofs.Stored.{stored_read, stored_whole, short_item}

-- The first of the styles of some items of one style and of those after them.
pub left_first : (n : ℕ) (style : Style) (styles : List Style) → 0 < n →
    replicate n style ++ styles ≡ style ∷ (replicate (n - 1) style ++ styles)
left_first zero style styles h = absurd (omega arith)
left_first (suc n) style styles h =
    let e : suc n - 1 ≡ n = omega arith in
    ap (λ (m : ℕ). style ∷ (replicate m style ++ styles)) (sym e)

-- The first of the styles of a list of runs.
pub runs_first : (runs rest : List Run) (run : Run) (n : ℕ) (style : Style) → n ≤ 0 → runs ≡ run ∷ rest → 0 < run.count →
    replicate n style ++ styles_of runs
    ≡ run_style run ∷ (replicate (run.count - 1) (run_style run) ++ styles_of rest)
runs_first runs rest run n style none e h =
    let nothing : n ≡ 0 = omega arith in
    ap (λ (m : ℕ). replicate m style ++ styles_of runs) nothing
    ∙ (ap styles_of e ∙ left_first run.count (run_style run) (styles_of rest) h)

-- What is known of the first stored text of some items, and of the rest.
pub record Unread (style : Style) (styles : List Style) (bytes : List ℕ) : Type 0 where
  pub nonempty : 0 < length bytes
  pub whole : skipped_len (slice_index bytes 0) + text_len (slice_index bytes 0) ≤ length bytes
  pub first : IsItemText style.wide (first_text bytes)
  pub rest : AreItems (items_from styles (after_first bytes)) (after_first bytes)

pub unread : (style : Style) (styles : List Style) (bytes : List ℕ) →
    AreItems (items_from (style ∷ styles) bytes) bytes → Unread style styles bytes
unread style styles bytes h =
    let text = first_text bytes in
    let more = stored_texts (items_from styles (after_first bytes)) in
    let short : length text < 64 =
    omega (arith, short_item (record { style = style; text = text }) h.sound.0) in
    let whole = stored_whole text more short in
    record {
      nonempty = subst (λ (bs : List ℕ). 0 < length bs) (sym h.stored) whole.0;
      whole =
          subst (λ (bs : List ℕ). skipped_len (slice_index bs 0) + text_len (slice_index bs 0) ≤ length bs)
          (sym h.stored) whole.1;
      first = h.sound.0;
      rest = record {
        stored = ap after_first h.stored ∙ (stored_read text more short).1;
        sound = h.sound.1;
      };
    }

-- Items are the same once their texts are stored and read back.
pub items_back : (items : List Item) → AllByRecursion IsItem items →
    items_from (map (λ item. item.style) items) (stored_texts items) ≡ items
items_back [] all = refl
items_back (item ∷ items) all =
    let short : length item.text < 64 = omega (arith, short_item item all.0) in
    let back = stored_read item.text (stored_texts items) short in
    ap₂ (λ (text rest : List ℕ).
    record { style = item.style; text = text } ∷ items_from (map (λ (i : Item). i.style) items) rest) back.0 back.1
    ∙ ap (λ (rest : List Item). item ∷ rest) (items_back items all.1)
