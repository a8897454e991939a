-- `is_full` compares the pointer with null, and changes nothing.
use Rattle.std.proofs.Common.{List, [], ◌∷◌, not, refl, sym}
use Rattle.std.proofs.raw_atomic.Walks.{proved}
use base.Fraction.{full_share}
use base.Fml.{ftrue, flft}
use mir.Syntax.{named}
use mir.Val.{Val, vbool}
use contract.Monad.{fact}
use contract.Running.{tables}
use types.Kit.{‵, raw, ◌⊛◌, ◌$◌, ◌∵◌, !, qed, done, move, keep, use1, split, join, fsplit, fsplit3, fjoin, feq_i, rewrite, suffices}
use types.Part.{whole, sub, look_in}
use types.Run.{enter, load, of_opd, bin, un, lit, stop, fld, returns}
use types.ByLocal.{alloc_all, pass_all, free_all, look_at, get, through, sets, is}
use denote.Laws.{shows}
use denote.Memory.{cell_at}
use denote.RawPtr.{tests_null}
use denote.Ref.{MutRef, mut_vals, mut_Tells}
use denote.Signature.{plain}
use denote.Steps.{nothing, opens, closes, peeks, heard}
use denote.Triple.Walked.{Stays, walk_of, says, stay_ref, Goes-ref, ends_at}
use Rattle.vt100_c.specs.Held.{held_at}
use Rattle.vt100_c.proofs.Null.{AnswersHeld, answers_held, ptr_typed}
use Rattle.vt100_c.specs.contracts.handle.Handle.{the_row as S}
use Rattle.vt100_c.proofs.handle.Handle.TheLaws.{lowers}
use Rattle.vt100_c.specs.contracts.handle.Handle.is_full as f
use Rattle.vt100_c.proofs.handle.Handle.is_full.Statement.{statement}
use Rattle.vt100_c.proofs.handle.Handle.is_full.Code as code

abbrev stayed : Stays f.ended.signature.params f.ended.kept
stayed = (stay_ref (0 ∷ []) tt (plain (λ _. S)), tt)

pub is_full_spec : {M : Type 1} → statement M
is_full_spec 𝓤 𝓛 𝓜 𝓡 wired =
    let c = f.clauses 𝓛 𝓜.mem 𝓡.returns in let W = walk_of 𝓛 f.ended stayed c in let 𝓣 = tables 𝓤 𝓛.H 𝓜 𝓡 𝓡.env in
    proved 𝓛 f.ended stayed c 𝓜 𝓡 (Goes-ref 𝓛 1 0 tt (plain (λ _. S)), tt)
    f.Key.name code.function (code.unfolded 𝓤 𝓛.H 𝓜 𝓡 wired)
    (λ κs. (mut_vals, tt)) (λ κs. (mut_Tells (named 0) κs.0 S, tt)) (λ κs qs bounds a _ are.
    let b = a.0.ref_ptr.0 in let o = a.0.ref_ptr.1 in let h = a.0.now in let vs = mut_vals a.0 in
    let z : W.Ghost = ((κs, qs, bounds, a, (vs, tt)), tt) in
    qed 𝓛 (((‵ (flft κs.0 qs.0) ⊛ ‵ ftrue) ⊛ ‵ ((MutRef (named 0) κs.0 S).own_val a.0 vs) ⊛ ‵ ftrue) ∷ ‵ ftrue ∷ []) ∵
    split ! $ split ! $ move ! (2 ∷ []) $ split ! $ keep ! (0 ∷ 2 ∷ []) $
    enter ! _ _ _ _ _ $ alloc_all ! (λ l. pass_all ! refl ((tt, tt), tt) $
    fsplit3 ! $ move ! (1 ∷ 2 ∷ 3 ∷ []) $ opens ! tt S b o (λ us. move ! (1 ∷ []) $ peeks ! S _ (shows 𝓛 S) h us (λ seen. fsplit ! $ move ! (1 ∷ []) $
    use1 𝓛 (raw (fact 𝓤 (AnswersHeld h.at h.held)) ⊛ ‵ (held_at h.at h.held)) (answers_held 𝓛 h.at h.held) $ split ! $ heard ! _ (λ it.
    let Cell = λ (ws : List Val). ‵ (cell_at full_share S.mir ws b o) in let y = it.0 in
    rewrite ! 2 Cell (lowers.val_is h us seen) refl $
    -- [what the handle owns; what the fields own; the struct's cell; the open borrow, in three entries; self's first part]
    sets ! (of_opd ! (load ! (through ! refl (fld ! refl (stop !))) (look_in ! 2 (sub ! 0 refl (whole !))))) refl (ptr_typed h.at) $
    sets ! (is ! (bin ! (get ! refl) (lit ! tt) (tests_null h.at it.2)) it.1) refl (tt, tt) $
    sets ! (un ! (get ! refl) tt) refl (tt, tt) $
    rewrite ! 2 Cell (sym (lowers.val_is h us seen)) refl $
    move ! (1 ∷ []) $ fjoin ! $ move ! (1 ∷ []) $ closes ! tt S h us b o $
    -- [two parts of self; the token; self's first part]
    returns ! (look_at ! 0 refl) $ free_all ! refl $
    suffices ! _ (ends_at 𝓛 f.ended stayed c z (vbool (not y)) (not y) (h, tt) (tt, tt)) $ says ! (refl, it.3) $
    move ! (0 ∷ 1 ∷ 3 ∷ 2 ∷ []) $ fjoin ! $ move ! (1 ∷ 0 ∷ []) $ fjoin ! $
    -- [self; the token]
    nothing ! $ move ! (1 ∷ 0 ∷ []) $ fjoin ! $
    feq_i ! (List Val) (vbool (not y) ∷ []) (vbool (not y) ∷ []) refl $ move ! (1 ∷ 0 ∷ []) $ join ! $
    nothing ! $ move ! (2 ∷ 0 ∷ []) $ join ! $ join ! $ done !)))))
