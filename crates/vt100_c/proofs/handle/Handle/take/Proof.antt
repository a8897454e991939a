-- `take` reads the pointer, and the parts own what the handle owned.
use Rattle.std.proofs.Common.{List, [], ◌∷◌, ◌++◌, refl, sym, ap, ◌∙◌, subst, lit<}
use Rattle.std.specs.Prelude.{Option, None, IsSome}
use Rattle.std.proofs.raw_atomic.Walks.{proved_at}
use base.Fraction.{full_share}
use base.Logic.{SProp, ent, never, id⊢, fst∗}
use base.Fml.{ftrue, flft}
use mir.Syntax.{named}
use mir.Val.{Val, vptr, vnull, vstruct, vcons, vnil}
use prog.Wp.{WpFn}
use types.Logic.{sem}
use contract.Monad.{fact}
use contract.Running.{tables}
use types.Kit.{‵, raw, ◌⊛◌, ◌$◌, ◌∵◌, !, qed, done, move, keep, drop, use1, split, join, fsplit, fsplit3, fjoin, fpack, feq_i, feq_l, rewrite, suffices}
use types.Part.{whole, sub, look_in, store_in, agg}
use types.Run.{enter, of_opd, lit, load, stop, assigns, fld, no_more, and_then, returns}
use types.ByLocal.{alloc_all, pass_all, free_all, look_at, get, through, sets}
use denote.Builtin.{RawPtr}
use denote.Exit.{yes}
use denote.Laws.{shows}
use denote.RattleType.{Valss}
use denote.Struct.Owning.{shape}
use denote.Struct.Struct.{within}
use denote.Memory.{cell_at}
use denote.RawPtr.{Ptr, block_ptr, null_ptr, in_a_block}
use denote.Ref.{MutRef}
use denote.Signature.{plain, type_at}
use denote.Steps.{nothing, opens, closes, peeks, heard}
use denote.Triple.Walked.{Stays, walk_of, says, stay_dropped, stay_ref, Goes-dropped, Goes-ref, ends_at}
use mir.Raw.{raw as bare}
use Rattle.std.proofs.alloc.Calls.{handle_tells}
use Rattle.std.proofs.BoxSteps.Form.{D, τ, word, box_typed}
use Rattle.std.proofs.BoxSteps.Steps.{box_in}
use Rattle.std_alloc.specs.Box.Ownership.{box_owns}
use Rattle.vt100_c.specs.Held.{may_free}
use Rattle.std_heap.specs.contracts.Global as Heap
use Rattle.vt100_c.specs.contracts.object.Object as Object
use Rattle.vt100_c.specs.Held.{held_at}
use Rattle.vt100_c.proofs.AsBox.{E, OfHeap, some_of}
use Rattle.vt100_c.specs.contracts.handle.Handle.{the_row as S, the_type as T}
use Rattle.vt100_c.proofs.handle.Handle.TheLaws.{lowers}
use Rattle.vt100_c.specs.contracts.handle.Handle.take as f
use Rattle.vt100_c.proofs.handle.Handle.take.Statement.{statement}
use Rattle.vt100_c.proofs.handle.Handle.take.Code as code

abbrev stayed : Stays f.ended.signature.params f.ended.kept
stayed = (stay_ref (0 ∷ []) tt (plain (λ _. S)), (stay_dropped OfHeap yes, tt))

pub take_spec : {M : Type 1} → statement M
take_spec 𝓤 𝓛 𝓜 𝓡 wired =
    let H = 𝓛.H in let 𝓣 = tables 𝓤 H 𝓜 𝓡 𝓡.env in let c = f.clauses 𝓛 𝓜.mem 𝓡.returns in let W = walk_of 𝓛 f.ended stayed c in
    proved_at 𝓛 f.ended stayed c 𝓜 𝓡 (Goes-ref 𝓛 1 0 tt (plain (λ _. S)), (Goes-dropped 𝓛 1 OfHeap yes (λ κs x w. refl), tt))
    f.Key.name code.function (code.unfolded 𝓤 H 𝓜 𝓡 wired) (λ z are.
    let κ = z.0.0.0 in let q = z.0.1.0 in let r = z.0.3.0 in let a = z.0.3.1.0 in let b = r.ref_ptr.0 in let o = r.ref_ptr.1 in let h = r.now in
    let Run : List Val → SProp 𝓤 = λ ws. WpFn 𝓤 H 𝓣.C 𝓣.Λ code.function ws (W.post z) in
    qed 𝓛 (((‵ (flft κ q) ⊛ ‵ ftrue) ⊛ ‵ ((MutRef (named 0) κ S).own_val r z.0.4.0) ⊛ ‵ (Heap.the_row.own_val a z.0.4.1.0) ⊛ ‵ ftrue) ∷ raw (fact 𝓤 (IsSome h.held)) ∷ []) ∵
    split ! $ split ! $ move ! (2 ∷ []) $ split ! $ move ! (1 ∷ []) $ split ! $
    move ! (5 ∷ []) $ heard ! _ (λ some.
    handle_tells E.al ! a z.0.4.1.0 (λ hv ea fa.
    move ! (2 ∷ []) $ fsplit3 ! $ feq_l ! (λ eb.
    keep ! (0 ∷ 1 ∷ 4 ∷ 2 ∷ []) $
    suffices ! (Run (vptr b o ∷ hv ∷ [])) (subst (λ (us : List Val). ent 𝓤 (Run (vptr b o ∷ hv ∷ [])) (Run us)) (sym (λ i. eb i ++ (ea i ++ []))) (id⊢ 𝓤 (Run (vptr b o ∷ hv ∷ [])))) $
    enter ! 𝓣.C 𝓣.Λ code.function (vptr b o ∷ hv ∷ []) (W.post z) $ alloc_all ! (λ l. pass_all ! refl ((tt, tt), (fa, tt)) $
    -- [two parts of self; the token; the allocator; the locals]
    opens ! tt S b o (λ us. move ! (1 ∷ []) $ peeks ! S _ (shows 𝓛 S) h us (λ is. fsplit ! $ move ! (1 ∷ []) $
    let it = some_of h.held some in let x = it.0 in
    rewrite ! 0 (λ (held : Option Object.the_row.Denot). ‵ (held_at h.at held)) it.1 refl $
    in_a_block ! h.at (λ p. box_owns may_free Object.the_row p x) (fst∗ 𝓤 (never 𝓤) (sem 𝓛 (may_free (bare (τ E)) null_ptr))) (λ b' o' e.
    let at_block = lowers.val_is h us is ∙ ap (λ (p : Ptr). lowers.lowered (record h { at = p }) ∷ []) e in
    let Cell = λ (ws : List Val). ‵ (cell_at full_share S.mir ws b o) in
    rewrite ! 2 Cell at_block refl $
    -- [the box; what the fields own; the struct's cell; the open borrow, in three entries; the allocator]
    sets ! (of_opd ! (load ! (through ! refl (fld ! refl (stop !))) (look_in ! 2 (sub ! 0 refl (whole !))))) refl (tt, tt) $
    sets ! (of_opd ! (get ! refl)) refl (tt, tt) $
    assigns ! (of_opd ! (lit ! tt)) (through ! refl (fld ! refl (stop !))) (store_in ! 2 (sub ! 0 refl (whole !)) (tt, record { fits = lit< tt })) $
    sets ! (agg ! (and_then ! (get ! refl) (and_then ! (get ! refl) (no_more !)))) refl (box_typed E hv b' o' fa) $
    fsplit ! $ move ! (0 ∷ 1 ∷ 7 ∷ []) $
    let d : D E = record { ptr = block_ptr b' o'; alloc = a; value = x } in
    let To = type_at (f.signature).result z.0.0 in
    let made : To.Denot = record { at = block_ptr b' o'; alloc = a; value = x } in
    let left : S.Denot = record h { at = null_ptr; held = None } in
    box_in E ! d b' o' x refl refl $ use1 𝓛 (‵ (To.own_val made (word E hv b' o' ∷ []))) (id⊢ 𝓤 _) $
    -- [the parts; what the fields own; the struct's cell; the open borrow]
    move ! (1 ∷ []) $ drop ! $ let w : Val = vstruct (vcons vnull vnil) in
    feq_i ! Ptr null_ptr null_ptr refl $ nothing ! $ feq_i ! (List Val) (vnull ∷ []) (vnull ∷ []) refl $ fjoin ! $ feq_i ! (List Val) (w ∷ []) (w ∷ []) refl $ fjoin ! $
    fpack ! (Valss (RawPtr ∷ [])) (within (shape T) (null_ptr, tt) (w ∷ [])) (vnull ∷ [], tt) $ fjoin ! $
    move ! (2 ∷ 0 ∷ 3 ∷ 4 ∷ 5 ∷ []) $ closes ! tt S left (w ∷ []) b o $
    -- [two parts of self; the token; the parts]
    returns ! (look_at ! 0 refl) $ free_all ! refl $
    suffices ! _ (ends_at 𝓛 f.ended stayed c z (word E hv b' o') made (left, (tt, tt)) (tt, (tt, tt))) $ says ! (it.1, refl) $
    feq_i ! (List Val) z.0.4.0 (vptr b o ∷ []) eb $ move ! (1 ∷ 2 ∷ 0 ∷ []) $ fjoin ! $ move ! (1 ∷ 0 ∷ []) $ fjoin ! $
    -- [self; the token; the parts]
    nothing ! $ nothing ! $ fjoin ! $ move ! (1 ∷ 0 ∷ []) $ fjoin ! $ move ! (0 ∷ 2 ∷ []) $ join ! $
    nothing ! $ move ! (2 ∷ 0 ∷ []) $ join ! $ join ! $ done !))))))))
