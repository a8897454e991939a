-- A handle and its parts own what a box of the same types owns.
use Rattle.std.proofs.Common.{◌≡◌, refl}
use mir.Syntax.{impl, tnil, dnil}
use mathlib.Core.List.{[]}
use denote.Signature.{Slot, plain}
use Rattle.std.specs.Prelude.{Option, Some, None, IsSome}
use Rattle.std.proofs.BoxSteps.Form.{Bx}
use Rattle.std_heap.specs.contracts.Global as Heap
use Rattle.std_heap.specs.contracts.GlobalAllocator.TheImpl.{ghosts, dict}
use Rattle.std_heap.proofs.Global.TheLaws as heap
use Rattle.vt100_c.specs.contracts.object.Object as Object
use Rattle.vt100_c.proofs.object.Object.TheLaws as object
use Rattle.vt100_c.specs.contracts.parts.Parts as Parts

abbrev pub E : Bx
E = record { row = Object.the_row; laws = object.the_row_laws; al = record { row = Heap.the_row; laws = heap.the_row_laws; g = ghosts; d = dict; drops = impl [] tnil dnil } }

abbrev pub OfParts : Slot 1
OfParts = plain (λ _. Parts.the_row Object.the_row Heap.the_row ghosts)

abbrev pub OfHeap : Slot 1
OfHeap = plain (λ _. Heap.the_row)

pub some_of : {A : Type 0} (o : Option A) → IsSome o → (x : A) × (o ≡ Some x)
some_of None e = absurd (cc e)
some_of (Some x) e = (x, refl)
