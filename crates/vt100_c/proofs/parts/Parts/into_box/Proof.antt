-- `into_box` passes what the parts own to the library function that makes a box.
use mathlib.Core.Path.{◌≡◌, refl, sym, subst, ap}
use mathlib.Core.List.{List, [], ◌∷◌, ◌++◌}
use lib.Dec.{T}
use base.Logic.{SProp, ent, id⊢}
use base.Fml.{ftrue, fsep, flft}
use contract.BorrowLft.{◌⊑◌}
use contract.Monad.{fact}
use contract.Running.{tables}
use denote.Exit.{no}
use denote.RattleType.{RattleType}
use denote.RawPtr.{block_ptr}
use denote.Signature.{plain}
use denote.Steps.{heard, nothing, only}
use denote.Triple.Call.{calls_at_last}
use denote.Triple.Clauses.{Ended}
use denote.Triple.Spec.{triple_of}
use denote.Triple.Statement.{Contract}
use denote.Triple.Table.{framed}
use denote.Triple.Walked.{Stays, ends_at, says, stay_dropped, walk_of}
use mir.MapTy.{inst_fn}
use mir.Syntax.{Body, Fn, assign, copy, place, return, rv_opd, seq}
use mir.Val.{Val, WT, has_ty, vptr}
use prog.Wp.{WpFn}
use types.ByLocal.{alloc_all, env, free_all, get, get_in, lands_last, look_at, pass_all, sets}
use types.Kit.{Item, at_ret, ‵, raw, ◌⊛◌, some, later, ◌$◌, ◌∵◌, !, qed, await, done, drop, feq_i, fjoin, fsplit, join, move, pick, rewrite, split, split3, suffices, use1}
use types.Part.{sub, whole}
use types.Run.{and_then, blocks, enter, exec, first, fld, no_more, of_opd, returns, stop}
use Rattle.std.proofs.alloc.Calls.{Goes-blank}
use Rattle.std.proofs.raw_atomic.Walks.{proved_at}
use Rattle.std_alloc.proofs.BoxSteps.Form.{B, Bx, D, P, R, args, box_ty, box_typed, word}
use Rattle.std_alloc.proofs.BoxSteps.Steps.{box_in, box_out}
use Rattle.std_alloc.proofs.boxed.Box.from_raw.Met.{met}
use Rattle.std_alloc.specs.contracts.boxed.Box.from_raw as callee
use Rattle.vt100_c.specs.contracts.parts.Parts.{the_row}
use Rattle.vt100_c.specs.contracts.parts.Parts.into_box as f
use Rattle.vt100_c.proofs.parts.Parts.into_box.Code as code
use Rattle.vt100_c.proofs.parts.Parts.into_box.Statement.{statement}

abbrev ended : Bx → Ended
ended E = f.ended E.row E.al.row E.al.g E.al.d E.al.drops

-- The type of the parts.
abbrev Given : Bx → RattleType
Given E = the_row (R E) (P E) E.al.g

abbrev stayed : (E : Bx) → Stays (ended E).signature.params (ended E).kept
stayed E = (stay_dropped (plain (λ _. Given E)) no, tt)

-- The statements after the block.
abbrev rest : Body
rest = seq (assign (place 0 []) (rv_opd (copy (place 4 [])))) return

pub into_box_spec : {M : Type 1} → statement M
into_box_spec 𝓤 𝓛 𝓜 𝓡 wired X Z LX LZ g d dd allocator md =
    let E : Bx = record { row = X; laws = LX; al = record { row = Z; laws = LZ; g = g; d = d; drops = dd } } in
    let 𝓣 = tables 𝓤 𝓛.H 𝓜 𝓡 𝓡.env in let fn : Fn = inst_fn (args E) code.function in
    let c = f.clauses X Z g d dd 𝓛 𝓜.mem 𝓡.returns in let W = walk_of 𝓛 (ended E) (stayed E) c in
    let G : Contract 𝓤 = triple_of 𝓛 (callee.signature X Z g d dd) (callee.spec X Z g d dd 𝓛 𝓜.mem 𝓡.returns) in
    proved_at 𝓛 (ended E) (stayed E) c 𝓜 𝓡 (Goes-blank 𝓛 2 (plain (λ _. Given E)) no (λ κs x w. tt), tt)
    (f.Key.name (args E)) fn (code.unfolded 𝓤 𝓛.H 𝓜 𝓡 wired (X, (Z, tt)) d dd) (λ z are.
    let κs = z.0.0 in let qs = z.0.1 in let parts = z.0.3.0 in let a = parts.alloc in let x = parts.value in
    let is : D E = record { ptr = parts.at; alloc = a; value = x } in
    let Run : List Val → SProp 𝓤 = λ us. WpFn 𝓤 𝓛.H 𝓣.C 𝓣.Λ fn us (W.post z) in
    let tokens : Item 𝓤 = ‵ (flft κs.0 qs.0) ⊛ ‵ (flft κs.1.0 qs.1.0) ⊛ ‵ ftrue in
    let outlived : Item 𝓤 = raw (fact 𝓤 (κs.0 ⊑ X.lives)) ⊛ raw (fact 𝓤 (κs.1.0 ⊑ Z.lives)) ⊛ ‵ ftrue in
    qed 𝓛 ((tokens ⊛ ‵ (fsep ((B E).own_val is z.0.4.0) ftrue)) ∷ outlived ∷ []) ∵
    split ! $ move ! (1 ∷ []) $ fsplit ! $
    box_out E ! is z.0.4.0 (λ b o hv at ew fits. fjoin ! $
    let given = word E hv b o ∷ [] in
    suffices ! (Run given) (subst (λ (us : List Val). ent 𝓤 (Run given) (Run us)) (sym (λ i. ew i ++ [])) (id⊢ 𝓤 (Run given))) $
    enter ! 𝓣.C 𝓣.Λ fn given (W.post z) $ alloc_all ! (λ l. pass_all ! refl (box_typed E hv b o fits, tt) $
    -- [what the parts own; the allocator; nothing; the tokens; what is outlived; the locals]
    sets ! (of_opd ! (get_in ! (fld ! refl (stop !)) (sub ! 0 refl (whole !)))) refl (tt, tt) $
    sets ! (of_opd ! (get_in ! (fld ! refl (stop !)) (sub ! 1 refl (whole !)))) refl fits $
    first ! $ blocks ! $ sets ! (of_opd ! (get ! refl)) refl fits $
    let y : G.Ghost = ((κs, qs, tt, (a, (block_ptr b o, tt)), (hv ∷ [], (vptr b o ∷ [], tt))), x) in
    move ! (4 ∷ []) $ split3 ! $ move ! (2 ∷ []) $ drop ! $ move ! (1 ∷ 2 ∷ []) $ join ! $ move ! (1 ∷ 0 ∷ []) $ join ! $
    -- [what is required; the allocator; nothing; the tokens; the locals]
    move ! (2 ∷ []) $ feq_i ! (List Val) (vptr b o ∷ []) (vptr b o ∷ []) refl $ fjoin ! $ move ! (2 ∷ 0 ∷ []) $ fjoin ! $
    move ! (2 ∷ 0 ∷ []) $ join ! $ join ! $ use1 𝓛 (raw (G.pre y)) (id⊢ 𝓤 _) $
    calls_at_last ! (framed 𝓤 𝓛.H 𝓜 𝓣) G
    (met 𝓤 𝓛 𝓜 𝓡 (code.calls-std_alloc::boxed::Box::from_raw 𝓡.env wired) X Z LX LZ g d dd allocator md) y
    (and_then ! (get ! refl) (and_then ! (get ! refl) (no_more !))) (λ u.
    use1 𝓛 (later (some (λ (r : D E). (tokens ⊛ ‵ ((B E).own_val r (u ∷ []))) ⊛
    some (λ (_ : Unit {0} × (Unit {0} × Unit {0})). ‵ (fsep ftrue (fsep ftrue ftrue)) ⊛
    (raw (fact 𝓤 (r.value ≡ x)) ⊛ raw (fact 𝓤 (r.alloc ≡ a))))))) (id⊢ 𝓤 _) $
    await ! tt $ pick ! (λ r. split ! $ move ! (1 ∷ []) $ pick ! (λ _. split3 ! $ drop ! $ heard ! (r.value ≡ x) (λ same. drop ! $
    -- [the tokens with the box]
    split ! $ move ! (1 ∷ []) $ box_out E ! r (u ∷ []) (λ b' o' hw at' eu fits'. box_in E ! r b' o' r.value at' refl $
    rewrite ! 0 (λ (us : List Val). ‵ ((B E).own_val r us)) (sym eu) refl $
    let typed : T (has_ty (box_ty E) u) × WT u =
    subst (λ (s : Val). T (has_ty (box_ty E) s) × WT s) (sym (ap only eu)) (box_typed E hw b' o' fits') in
    lands_last ! refl typed $ exec ! 𝓣.C 𝓣.Λ (env fn.locals l) rest (at_ret (env fn.locals l) (W.post z)) $
    sets ! (of_opd ! (get ! refl)) refl typed $ returns ! (look_at ! 0 refl) $ free_all ! refl $
    suffices ! _ (ends_at 𝓛 (ended E) (stayed E) c z u r ((tt, (tt, tt)), tt) (tt, tt)) $ says ! same $
    nothing ! $ nothing ! $ fjoin ! $ join ! $ move ! (1 ∷ 0 ∷ []) $ join ! $ done !))))))))
