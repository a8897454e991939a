-- `put` writes the pointer, and the handle owns what the parts owned.
use Rattle.std.proofs.Common.{List, [], ◌∷◌, ◌++◌, refl, sym, subst}
use Rattle.std.specs.Prelude.{Some}
use Rattle.std.proofs.raw_atomic.Walks.{proved_at}
use base.Fraction.{full_share}
use base.Logic.{SProp, ent, id⊢}
use base.Fml.{ftrue, flft}
use mir.Syntax.{named}
use mir.Val.{Val, vptr, vunit, vstruct, vcons, vnil}
use prog.Wp.{WpFn}
use contract.Running.{tables}
use types.Kit.{‵, ◌⊛◌, ◌$◌, ◌∵◌, !, qed, done, move, keep, drop, split, join, fsplit, fsplit3, fjoin, fpack, feq_i, feq_l, rewrite, suffices}
use types.Part.{whole, sub, store_in}
use types.Run.{enter, of_opd, unit_lit, stop, fld, returns, assigns}
use types.ByLocal.{alloc_all, pass_all, free_all, look_at, get, get_in, through, sets}
use denote.Builtin.{RawPtr}
use denote.Exit.{yes}
use denote.Laws.{shows}
use denote.Memory.{cell_at}
use denote.RattleType.{Valss}
use denote.RawPtr.{block_ptr}
use denote.Ref.{MutRef}
use denote.Signature.{plain}
use denote.Steps.{nothing, opens, closes, peeks}
use denote.Struct.Owning.{shape}
use denote.Struct.Struct.{within}
use denote.Triple.Walked.{Stays, walk_of, says, stay_dropped, stay_ref, Goes-dropped, Goes-ref, ends_at}
use Rattle.std.proofs.BoxSteps.Form.{D, B, word, box_typed}
use Rattle.std.proofs.BoxSteps.Steps.{box_out}
use Rattle.vt100_c.proofs.AsBox.{E, OfParts}
use Rattle.vt100_c.specs.contracts.handle.Handle.{the_row as S, the_type as T}
use Rattle.vt100_c.proofs.handle.Handle.TheLaws.{lowers}
use Rattle.vt100_c.specs.contracts.handle.Handle.put as f
use Rattle.vt100_c.proofs.handle.Handle.put.Statement.{statement}
use Rattle.vt100_c.proofs.handle.Handle.put.Code as code

abbrev stayed : Stays f.ended.signature.params f.ended.kept
stayed = (stay_ref (0 ∷ []) tt (plain (λ _. S)), (stay_dropped OfParts yes, tt))

pub put_spec : {M : Type 1} → statement M
put_spec 𝓤 𝓛 𝓜 𝓡 wired =
    let H = 𝓛.H in let 𝓣 = tables 𝓤 H 𝓜 𝓡 𝓡.env in let c = f.clauses 𝓛 𝓜.mem 𝓡.returns in let W = walk_of 𝓛 f.ended stayed c in
    proved_at 𝓛 f.ended stayed c 𝓜 𝓡 (Goes-ref 𝓛 1 0 tt (plain (λ _. S)), (Goes-dropped 𝓛 1 OfParts yes (λ κs x w. refl), tt))
    f.Key.name code.function (code.unfolded 𝓤 H 𝓜 𝓡 wired) (λ z are.
    let κ = z.0.0.0 in let q = z.0.1.0 in let r = z.0.3.0 in let p = z.0.3.1.0 in let b = r.ref_ptr.0 in let o = r.ref_ptr.1 in let h = r.now in
    let v : D E = record { ptr = p.at; alloc = p.alloc; value = p.value } in
    let Run : List Val → SProp 𝓤 = λ ws. WpFn 𝓤 H 𝓣.C 𝓣.Λ code.function ws (W.post z) in
    qed 𝓛 (((‵ (flft κ q) ⊛ ‵ ftrue) ⊛ ‵ ((MutRef (named 0) κ S).own_val r z.0.4.0) ⊛ ‵ ((B E).own_val v z.0.4.1.0) ⊛ ‵ ftrue) ∷ ‵ ftrue ∷ []) ∵
    split ! $ split ! $ move ! (2 ∷ []) $ split ! $ move ! (1 ∷ []) $ split ! $
    box_out E ! v z.0.4.1.0 (λ b' o' hv e ew fa. fjoin ! $
    move ! (3 ∷ []) $ fsplit3 ! $ feq_l ! (λ eb.
    keep ! (0 ∷ 1 ∷ 5 ∷ 2 ∷ []) $
    let given = vptr b o ∷ word E hv b' o' ∷ [] in
    suffices ! (Run given) (subst (λ (us : List Val). ent 𝓤 (Run given) (Run us)) (sym (λ i. eb i ++ (ew i ++ []))) (id⊢ 𝓤 (Run given))) $
    enter ! 𝓣.C 𝓣.Λ code.function given (W.post z) $ alloc_all ! (λ l. pass_all ! refl ((tt, tt), (box_typed E hv b' o' fa, tt)) $
    -- [two parts of self; the token; the box; the locals]
    opens ! tt S b o (λ us. move ! (1 ∷ []) $ peeks ! S _ (shows 𝓛 S) h us (λ is. fsplit ! $
    rewrite ! 2 (λ (ws : List Val). ‵ (cell_at full_share S.mir ws b o)) (lowers.val_is h us is) refl $
    -- [what the fields own; what the handle owned; the struct's cell; the open borrow, in three entries; the box]
    sets ! (of_opd ! (get_in ! (fld ! refl (stop !)) (sub ! 0 refl (whole !)))) refl (tt, tt) $
    sets ! (of_opd ! (get ! refl)) refl (tt, tt) $
    assigns ! (of_opd ! (get ! refl)) (through ! refl (fld ! refl (stop !))) (store_in ! 2 (sub ! 0 refl (whole !)) (tt, tt)) $
    sets ! (of_opd ! (unit_lit !)) refl (tt, tt) $
    let made : S.Denot = record h { at = block_ptr b' o'; held = Some v.value } in
    let w : Val = vstruct (vcons (vptr b' o') vnil) in
    drop ! $ drop ! $ move ! (4 ∷ []) $
    -- [the box; the struct's cell; the open borrow]
    nothing ! $ feq_i ! (List Val) (vptr b' o' ∷ []) (vptr b' o' ∷ []) refl $ fjoin ! $ feq_i ! (List Val) (w ∷ []) (w ∷ []) refl $ fjoin ! $
    fpack ! (Valss (RawPtr ∷ [])) (within (shape T) (block_ptr b' o', tt) (w ∷ [])) (vptr b' o' ∷ [], tt) $ fjoin ! $
    move ! (1 ∷ []) $ closes ! tt S made (w ∷ []) b o $
    -- [two parts of self; the token]
    returns ! (look_at ! 0 refl) $ free_all ! refl $
    suffices ! _ (ends_at 𝓛 f.ended stayed c z vunit tt (made, (tt, tt)) (tt, (tt, tt))) $ says ! refl $
    feq_i ! (List Val) z.0.4.0 (vptr b o ∷ []) eb $ move ! (1 ∷ 2 ∷ 0 ∷ []) $ fjoin ! $ move ! (1 ∷ 0 ∷ []) $ fjoin ! $
    -- [self; the token]
    nothing ! $ nothing ! $ fjoin ! $ move ! (1 ∷ 0 ∷ []) $ fjoin ! $
    feq_i ! _ (vunit ∷ []) _ refl $ move ! (1 ∷ 0 ∷ []) $ join ! $
    nothing ! $ move ! (2 ∷ 0 ∷ []) $ join ! $ join ! $ done !))))))
