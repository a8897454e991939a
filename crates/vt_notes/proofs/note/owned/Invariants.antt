-- The loop invariant: the slices before the current one were copied.
use Rattle.std.proofs.Common.{◌≡◌, map, take}
use Rattle.vt_notes.proofs.note.owned.Given as goal

abbrev pub invariant-loop-list : goal.invariant-loop-list
invariant-loop-list g l = map (λ copy. copy.items) l.copies.items ≡ map (λ list. list.now) (take l.list-index l.lists)
