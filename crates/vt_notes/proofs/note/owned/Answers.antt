-- One more slice is copied.
use Rattle.std.proofs.Common.{◌≡◌, ℕ, ◌+◌, ◌<◌, List, [], ◌∷◌, ◌++◌, length, map, take, get_or, sym, ap, ◌∙◌}
use Rattle.std.proofs.lemmas.List.{map_more, map_push, take_all}
use Rattle.vt_notes.proofs.note.owned.Goals as goal

copied_more : {A B C : Type 0} (f : A → C) (g : B → C) (xs : List A) (x : A) (ys : List B) (i : ℕ) (d : B) →
    i < length ys → map f xs ≡ map g (take i ys) →
    f x ≡ g (get_or ys i d) → map f (xs ++ x ∷ []) ≡ map g (take (i + 1) ys)
copied_more {A} {B} {C} f g xs x ys i d inside same here =
    map_push f xs x
    ∙ (ap (λ (zs : List C). zs ++ f x ∷ []) same
    ∙ (ap (λ (z : C). map g (take i ys) ++ z ∷ []) here ∙ sym (map_more g ys i d inside)))

pub loop-list-preserved : goal.loop-list-preserved
loop-list-preserved g c =
    ap (map (λ copy. copy.items)) c.in_ok-push.ensures.items
    ∙ copied_more (λ copy. copy.items) (λ list. list.now) c.loop-list.copies.items c.in_ok-from_slice.field-0
    c.args.lists.now c.loop-list.list-index c.list-item.result c.loop-list-test.true
    c.loop-list.invariant (c.in_ok-from_slice.ensures.items ∙ ap (λ list. list.now) c.list-item.is)

pub returns : goal.returns
returns g c =
    c.loop-list.invariant
    ∙ ap (map (λ list. list.now)) (take_all c.loop-list.list-index c.args.lists.now c.loop-list-test.false)
