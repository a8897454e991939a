-- A terminal that obeys the laws follows a tidy and portable list of operations.
use Rattle.std.proofs.Common.{◌≡◌, ℕ, ◌<◌, Bool, true, false, List, [], ◌∷◌, ◌++◌, refl, subst, Option, Some, None}
use Rattle.std.proofs.Common.{arith}
use Rattle.vt_cells.specs.Op.{Op}
use Rattle.vt_rows.specs.Cells.{ends_blank}
use Rattle.vt_grid.specs.Canvas.{Canvas, and_then, canvas_after_op, drawn_all}
use Rattle.vt_grid.specs.Page.{cursor_row}
use Rattle.vt_redraw.specs.Doubts.{Doubts, Wrap, NotPending, Pending, Unsure}
use Rattle.vt_redraw.specs.Picture.{picture_of}
use Rattle.vt_redraw.specs.Uses.{PortableOps, doubts_after_op}
use Rattle.vt_redraw.proofs.Touched.{some_same}
use Rattle.vt_terminals.specs.Element.{Element}
use Rattle.vt_terminals.specs.Laws.{Laws}
use Rattle.vt_terminals.specs.Sound.{IsSound}
use Rattle.vt_terminals.specs.Terminal.{Displays, ReadsAll, Terminal, Positions}
use Rattle.vt_terminals.proofs.Agrees.{Agrees, CursorAgrees, TidyTo, nowhere, torn_after}
use Rattle.vt_terminals.proofs.Elements.{elements_of, elements_of_all}
use Rattle.vt_terminals.proofs.Flags.{op_shift, shifts_all}
use Rattle.vt_terminals.proofs.Ops.{op_agrees}
use Rattle.vt_terminals.proofs.Sure.{AllSure, Sure, op_sure}

pub reads_append : (T : Terminal) (xs ys : List Element) (s t : T.State) → ReadsAll T (xs ++ ys) s t →
    (m : T.State) × (ReadsAll T xs s m × ReadsAll T ys m t)
reads_append T [] ys s t reads = (s, (refl, reads))
reads_append T (x ∷ xs) ys s t reads =
    let rest = reads_append T xs ys reads.0 t reads.1.1 in (rest.0, ((reads.0, (reads.1.0, rest.1.0)), rest.1.1))

-- What holds after a list of operations. If `Calm` holds, terminals do not differ in whether a wrap is pending in a row
-- that ends with a glyph.
pub record Followed (T : Terminal) (near : Positions) (flag : Bool) (Calm : Type 0) (last : Canvas) (t : T.State) :
    Type 0 where
  pub shifted : Bool
  pub is_shifted : shifted ≡ flag
  pub wrap : Wrap
  pub agrees : Agrees T near nowhere shifted wrap last t
  pub sound : IsSound last.page
  pub sure : Calm → wrap ≡ Unsure → ends_blank (cursor_row last.page).cells ≡ true

all_settled : (T : Terminal) (near torn : Positions) (shifted : Bool) (wrap : Wrap) (canvas : Canvas) (s : T.State) →
    ((r k : ℕ) → near r k ≡ false → torn r k ≡ true → false ≡ true) → Agrees T near torn shifted wrap canvas s →
    Agrees T near nowhere shifted wrap canvas s
all_settled T near torn shifted wrap canvas s none agrees = record {
  width = agrees.width;
  height = agrees.height;
  cells = λ r k low inside clear settled. agrees.cells r k low inside clear (by_torn r k clear (torn r k) refl);
  begins = agrees.begins;
  attrs = agrees.attrs;
  hidden = agrees.hidden;
  saved = agrees.saved;
  cursor = agrees.cursor;
  calm = agrees.calm;
} where
  by_torn : (r k : ℕ) → near r k ≡ false → (b : Bool) → torn r k ≡ b → torn r k ≡ false
  by_torn r k clear true e = let none_here = none r k clear e in absurd (cc)
  by_torn r k clear false e = e

pub follows : (T : Terminal) → Laws T → (ops : List Op) (near torn : Positions) (doubts : Doubts) (canvas last : Canvas)
    (s t : T.State) →
    IsSound canvas.page → Agrees T near torn doubts.is_shifted doubts.wrap canvas s → PortableOps ops doubts canvas →
    TidyTo near ops torn canvas nowhere →
    drawn_all ops canvas ≡ Some last → ReadsAll T (elements_of_all ops) s t → (Calm : Type 0) → (Calm → AllSure ops) →
    (Calm → Sure doubts canvas) → Followed T near (shifts_all ops doubts.is_shifted) Calm last t
follows T laws [] near torn doubts canvas last s t sound agrees portable tidy drawn reads Calm calm sure =
    let same = some_same canvas last drawn in record {
      shifted = doubts.is_shifted;
      is_shifted = refl;
      wrap = doubts.wrap;
      agrees = subst (λ (k : Canvas). Agrees T near nowhere doubts.is_shifted doubts.wrap k t) same
          (subst (λ (u : T.State). Agrees T near nowhere doubts.is_shifted doubts.wrap canvas u) reads
          (all_settled T near torn doubts.is_shifted doubts.wrap canvas s tidy agrees));
      sound = subst (λ (k : Canvas). IsSound k.page) same sound;
      sure = λ q. subst (λ (k : Canvas). Sure doubts k) same (sure q);
    }
follows T laws (op ∷ ops) near torn doubts canvas last s t sound agrees portable tidy drawn reads Calm calm sure =
    subst (λ (b : Bool). Followed T near (shifts_all ops b) Calm last t) (op_shift op doubts canvas)
    (by_next (canvas_after_op op canvas) refl drawn
    (λ next m. follows T laws ops near (torn_after op torn canvas) (doubts_after_op op doubts canvas) next last m t))
  where
    by_next : (o : Option Canvas) → canvas_after_op op canvas ≡ o → and_then (drawn_all ops) o ≡ Some last →
        ((next : Canvas) (m : T.State) → IsSound next.page →
        Agrees T near (torn_after op torn canvas) (doubts_after_op op doubts canvas).is_shifted
        (doubts_after_op op doubts canvas).wrap next m →
        PortableOps ops (doubts_after_op op doubts canvas) next →
        TidyTo near ops (torn_after op torn canvas) next nowhere →
        drawn_all ops next ≡ Some last → ReadsAll T (elements_of_all ops) m t → (Calm : Type 0) → (Calm → AllSure ops) →
        (Calm → Sure (doubts_after_op op doubts canvas) next) →
        Followed T near (shifts_all ops (doubts_after_op op doubts canvas).is_shifted) Calm last t) →
        Followed T near (shifts_all ops (doubts_after_op op doubts canvas).is_shifted) Calm last t
    by_next None e h more = absurd (cc)
    by_next (Some next) e h more =
        let parts = reads_append T (elements_of op) (elements_of_all ops) s t reads in
        let step = op_agrees T laws op near torn doubts canvas next s parts.0 sound agrees portable.0 tidy.0 e parts.1.0
        in
        more next parts.0 step.sound step.agrees (portable.1 next e) (tidy.1 next e) h parts.1.1 Calm (λ q. (calm q).1)
        (λ q. op_sure op doubts canvas next (calm q).0 portable.0 e (sure q))

-- A terminal that agrees with a canvas displays its picture.
pub agrees_displays : (T : Terminal) → Laws T →
    (near : Positions) (shifted : Bool) (wrap : Wrap) (canvas : Canvas) (s : T.State) →
    shifted ≡ false → Agrees T near nowhere shifted wrap canvas s →
    (canvas.page.column ≡ canvas.page.width → ends_blank (cursor_row canvas.page).cells ≡ false → wrap ≡ Unsure → ⊥) →
    Displays T near (picture_of canvas) s
agrees_displays T laws near shifted wrap canvas s flat agrees sure = record {
  cells = λ r c low inside clear. agrees.cells r c low inside clear refl;
  begins = agrees.begins;
  attrs = agrees.attrs;
  hidden = agrees.hidden;
  cursor = placed wrap (agrees.cursor flat);
  pending = λ last full. pending wrap (agrees.cursor flat) last (sure last full);
  ended = ended wrap (agrees.cursor flat);
} where
  placed : (wrap : Wrap) → CursorAgrees T wrap canvas.page s → canvas.page.column < canvas.page.width →
      T.IsAt s canvas.page.row canvas.page.column
  placed NotPending h inside = h.1
  placed Pending h inside = let last = h.0 in absurd (omega (arith, last, inside))
  placed Unsure h inside = let last = h.0 in absurd (omega (arith, last, inside))

  pending : (wrap : Wrap) → CursorAgrees T wrap canvas.page s → canvas.page.column ≡ canvas.page.width →
      (wrap ≡ Unsure → ⊥) → T.IsPending s canvas.page.row
  pending NotPending h last sure = let inside = h.0 in absurd (omega (arith, inside, last))
  pending Pending h last sure = h.1
  pending Unsure h last sure = absurd (sure refl)

  ended : (wrap : Wrap) → CursorAgrees T wrap canvas.page s → canvas.page.column ≡ canvas.page.width →
      T.IsAtEnd s canvas.page.row
  ended NotPending h last = let inside = h.0 in absurd (omega (arith, inside, last))
  ended Pending h last = laws.pending_ended s canvas.page.row h.1
  ended Unsure h last = h.1
