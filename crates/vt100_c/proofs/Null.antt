-- A handle holds an object if and only if its pointer is not null. Assumes `Logic`.
use Rattle.std.proofs.Common.{◌≡◌, ℕ, zero, ◌<◌, ◌^◌, Bool, true, false, not, [], ◌∷◌, refl, sym, subst, lit<}
use Rattle.std.specs.Prelude.{Option, Some, None, is_some}
use lib.Dec.{T}
use seplogic.Ra.Ura.{Ura}
use mir.Raw.{raw as bare}
use mir.Syntax.{ty_ptr, ptr_eq}
use mir.Val.{vbool, vnull, op2_val, has_ty, WT}
use base.Logic.{ent, sep, emp, never, fst∗}
use base.Fml.{feq}
use types.Logic.{Logic, sem}
use contract.Monad.{fact, fact_i, fact_use}
use types.Kit.{‵, raw, ◌$◌, ◌∵◌, !, qed, done, move, keep, use0, use1, fsplit, feq_l}
use denote.RawPtr.{Ptr, block_ptr, null_ptr, ptr_val, count_of, Testable, in_a_block}
use denote.Steps.{heard}
use Rattle.std.proofs.GlobalToken.{dealloc_token_start}
use Rattle.std_alloc.specs.Box.Ownership.{box_owns}
use Rattle.std.proofs.BoxSteps.Form.{τ}
use Rattle.vt100_c.specs.contracts.object.Object as Object
use Rattle.vt100_c.specs.Held.{heap, may_free, held_at}
use Rattle.vt100_c.proofs.AsBox.{E}

abbrev pub X : Type 0
X = Object.the_row.Denot

-- The result of comparing a handle's pointer with null, given what the handle holds.
abbrev pub AnswersHeld : Ptr → Option X → Type 0
AnswersHeld p o = (y : Bool) × (op2_val ptr_eq (ptr_val p) vnull ≡ vbool y) × Testable p × (not y ≡ is_some o)

pub ptr_typed : (p : Ptr) → T (has_ty ty_ptr (ptr_val p)) × WT (ptr_val p)
ptr_typed (block_ptr b o) = (tt, tt)
ptr_typed null_ptr = (tt, record { fits = lit< tt })

module _ {M : Type 1} {𝓤 : Ura M} (𝓛 : Logic 𝓤) where
  held_answered : (p : Ptr) (o : Option X) → ent 𝓤 (sem 𝓛 (held_at p o)) (fact 𝓤 (AnswersHeld p o))
  held_answered p None =
      qed 𝓛 (‵ (feq Ptr p null_ptr) ∷ []) ∵ feq_l ! (λ e.
      let is : AnswersHeld null_ptr None = (true, refl, lit< tt, refl) in
      use0 𝓛 (raw (fact 𝓤 (AnswersHeld p None))) (fact_i 𝓤 (AnswersHeld p None) (emp 𝓤) (subst (λ (q : Ptr). AnswersHeld q None) (sym e) is)) $ done !)
  held_answered p (Some x) =
      qed 𝓛 (‵ (box_owns may_free Object.the_row p x) ∷ []) ∵
      in_a_block ! p (λ q. box_owns may_free Object.the_row q x) (fst∗ 𝓤 (never 𝓤) (sem 𝓛 (may_free (bare (τ E)) null_ptr))) (λ b o e. fsplit ! $ move ! (1 ∷ []) $
      use1 𝓛 (raw (fact 𝓤 (count_of (block_ptr b o) ≡ zero))) (dealloc_token_start 𝓛 heap (bare (τ E)) (block_ptr b o)) $ heard ! _ (λ first.
      let low : o < 2 ^ 63 = subst (λ (k : ℕ). k < 2 ^ 63) (sym first) (lit< tt) in
      let is : AnswersHeld (block_ptr b o) (Some x) = (false, refl, low, refl) in
      use0 𝓛 (raw (fact 𝓤 (AnswersHeld p (Some x)))) (fact_i 𝓤 (AnswersHeld p (Some x)) (emp 𝓤) (subst (λ (q : Ptr). AnswersHeld q (Some x)) (sym e) is)) $ keep ! (0 ∷ []) $ done !))

  -- The result of comparing a handle's pointer with null follows from what the handle holds, which is kept.
  pub answers_held : (p : Ptr) (o : Option X) → ent 𝓤 (sem 𝓛 (held_at p o)) (sep 𝓤 (fact 𝓤 (AnswersHeld p o)) (sem 𝓛 (held_at p o)))
  answers_held p o =
      fact_use 𝓤 (AnswersHeld p o) (held_answered p o) (λ t. qed 𝓛 (‵ (held_at p o) ∷ []) ∵ use0 𝓛 (raw (fact 𝓤 (AnswersHeld p o))) (fact_i 𝓤 (AnswersHeld p o) (emp 𝓤) t) $ done !)
