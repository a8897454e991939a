-- Concatenating texts and storing the position at which each of them ends.
use Rattle.std.proofs.Common.{◌≡◌, ℕ, suc, ◌+◌, ◌<◌, List, [], ◌∷◌, ◌++◌, length, set, refl, sym, ap, subst, ◌∙◌, arith}
use Rattle.std.proofs.lemmas.List.{append-nil, append_assoc, length-append, length_push, take_more_set}
use Rattle.std.proofs.lemmas.List.Folds.{concat-append}
use Rattle.std.specs.List.{concat}
use Rattle.std.specs.Prelude.{Some, Ok, Result, String, string_bytes}
use Rattle.vt_cells.specs.declared.error.Error.{Error}
use Rattle.vt_screen.specs.RowsShown.{GivesText}
use Rattle.vt100_c.specs.Rows.{IsJoined, ends_from}

concat-push : (texts : List (List ℕ)) (text : List ℕ) → concat (texts ++ text ∷ []) ≡ concat texts ++ text
concat-push texts text =
    concat-append texts (text ∷ []) ∙ ap (λ (more : List ℕ). concat texts ++ more) (append-nil text)

-- Appending a text to a list of texts appends its end position to theirs.
ends-push : (at : ℕ) (texts : List (List ℕ)) (text : List ℕ) →
    ends_from at (texts ++ text ∷ []) ≡ ends_from at texts ++ (at + length (concat texts) + length text) ∷ []
ends-push at [] text =
    let e : at + length text ≡ at + 0 + length text = omega arith in ap (λ (end : ℕ). end ∷ []) e
ends-push at (first ∷ texts) text =
    let l : length (first ++ concat texts) ≡ length first + length (concat texts) =
    length-append first (concat texts) in
    let e : at + length first + length (concat texts) + length text
    ≡ at + length (first ++ concat texts) + length text = omega arith in
    ap (λ (ends : List ℕ). (at + length first) ∷ ends)
    (ends-push (at + length first) texts text
    ∙ ap (λ (end : ℕ). ends_from (at + length first) texts ++ end ∷ []) e)

-- Before any text is joined, the joined text and the list of ends are empty.
pub joined_none : (all : List (List ℕ)) (ends : List ℕ) → IsJoined all all 0 [] ends
joined_none all ends = record { done = []; parts = refl; count_is = refl; text = refl; ends_are = refl }

-- After one more text is joined, its end position is stored.
pub joined_more : (all left : List (List ℕ)) (text : List ℕ) (count : ℕ) (joined ends : List ℕ) →
    count < length ends → IsJoined all (text ∷ left) count joined ends →
    IsJoined all left (count + 1) (joined ++ text) (set ends count (length (joined ++ text)))
joined_more all left text count joined ends inside j =
    let l : length (joined ++ text) ≡ length joined + length text = length-append joined text in
    let m : length joined ≡ length (concat j.done) = ap length j.text in
    let e : length (joined ++ text) ≡ 0 + length (concat j.done) + length text = omega arith in
    record {
      done = j.done ++ text ∷ [];
      parts = j.parts ∙ sym (append_assoc j.done (text ∷ []) left);
      count_is = length_push j.done text ∙ ap (λ (n : ℕ). n + 1) j.count_is;
      text = ap (λ (bytes : List ℕ). bytes ++ text) j.text ∙ sym (concat-push j.done text);
      ends_are =
          take_more_set ends count (length (joined ++ text)) inside
          ∙ (ap (λ (some : List ℕ). some ++ length (joined ++ text) ∷ []) j.ends_are
          ∙ (ap (λ (end : ℕ). ends_from 0 j.done ++ end ∷ []) e ∙ sym (ends-push 0 j.done text)));
    }

-- If a text remains to be joined, there is an index left for its end position.
pub joined_inside : (all left : List (List ℕ)) (text : List ℕ) (count : ℕ) (joined ends : List ℕ) →
    IsJoined all (text ∷ left) count joined ends → count < length all
joined_inside all left text count joined ends j =
    let e : length all ≡ length (j.done ++ text ∷ left) = ap length j.parts in
    let l : length (j.done ++ text ∷ left) ≡ length j.done + suc (length left) =
    length-append j.done (text ∷ left) in
    let c : length j.done ≡ count = j.count_is in
    omega arith

-- ---- texts of an iterator

module _ {S A : Type 0} (left : S → List (List ℕ)) where
  -- The text of the item that the iterator returned.
  given : (old new : S) (item : Result (String A) Error) (text : String A) → GivesText left old (Some item) new →
      item ≡ Ok text → GivesText left old (Some (Ok text)) new
  given old new item text gives is =
      subst (λ (r : Result (String A) Error). GivesText left old (Some r) new) is gives

  -- There is an index for the end position of the item's text.
  pub joined_place : (old new : S) (item : Result (String A) Error) (text : String A) →
      GivesText left old (Some item) new → item ≡ Ok text →
      (all : List (List ℕ)) (count : ℕ) (joined ends : List ℕ) →
      IsJoined all (left old) count joined ends → count < length all
  joined_place old new item text gives is all count joined ends j =
      let g = given old new item text gives is in
      joined_inside all (left new) g.0 count joined ends
      (subst (λ (some : List (List ℕ)). IsJoined all some count joined ends) g.1 j)

  -- The item's text is joined to the texts before it.
  pub joined_next : (old new : S) (item : Result (String A) Error) (text : String A) →
      GivesText left old (Some item) new → item ≡ Ok text →
      (all : List (List ℕ)) (count : ℕ) (joined joined' ends ends' : List ℕ) →
      IsJoined all (left old) count joined ends → joined' ≡ joined ++ string_bytes text →
      ends' ≡ set ends count (length (joined ++ string_bytes text)) → count < length ends →
      IsJoined all (left new) (count + 1) joined' ends'
  joined_next old new item text gives is all count joined joined' ends ends' j grown noted inside =
      let g = given old new item text gives is in
      let bytes = g.0 in
      let there : IsJoined all (bytes ∷ left new) count joined ends =
      subst (λ (some : List (List ℕ)). IsJoined all some count joined ends) g.1 j in
      let more = joined_more all (left new) bytes count joined ends inside there in
      let same : string_bytes text ≡ bytes = g.2 in
      subst (λ (bs : List ℕ). IsJoined all (left new) (count + 1) bs ends')
      (sym (grown ∙ ap (λ (bs : List ℕ). joined ++ bs) same))
      (subst (λ (some : List ℕ). IsJoined all (left new) (count + 1) (joined ++ bytes) some)
      (sym (noted ∙ ap (λ (bs : List ℕ). set ends count (length (joined ++ bs))) same)) more)
