-- `of` takes a box apart with the library function for this, and the parts own what the box owned.
use mathlib.Core.Path.{◌≡◌, refl, sym, subst, ap, ◌∙◌}
use mathlib.Core.List.{List, [], ◌∷◌, ◌++◌}
use base.Logic.{SProp, ent, id⊢, never, fst∗}
use base.Fml.{ftrue, fsep, flft}
use contract.BorrowLft.{◌⊑◌}
use contract.Monad.{fact}
use contract.Running.{tables}
use denote.Exit.{no}
use denote.Param.{bounded}
use denote.RattleType.{RattleType}
use denote.RawPtr.{Ptr, RawPtr, block_ptr, null_ptr, ptr_val, in_a_block}
use denote.Signature.{plain}
use denote.Steps.{heard, nothing, only}
use denote.Struct.Tuple.{Tuple}
use denote.Triple.Call.{calls_at}
use denote.Triple.Clauses.{Ended}
use denote.Triple.Spec.{triple_of}
use denote.Triple.Statement.{Contract}
use denote.Triple.Table.{framed}
use denote.Triple.Walked.{Stays, ends_at, says, stay_dropped, walk_of}
use mir.MapTy.{inst_fn}
use mir.Raw.{raw as bare}
use mir.Syntax.{Args, Dict, Fn, a_type, dcons, dnil}
use mir.Val.{Val, of_list, vstruct}
use prog.Wp.{WpFn}
use types.ByLocal.{alloc_all, free_all, get, get_in, lands_as, look_at, pass_all, sets}
use types.Kit.{Item, ‵, raw, ◌⊛◌, some, later, ◌$◌, ◌∵◌, !, qed, await, done, drop, feq_l, fjoin, fpick, fsplit, join, move, pick, rewrite, split, split3, suffices, use1}
use types.Logic.{sem}
use types.Part.{agg, sub, whole}
use types.Run.{and_then, enter, fld, no_more, of_opd, returns, stop}
use Rattle.std.proofs.alloc.Calls.{Goes-blank, handle_tells, token}
use Rattle.std.proofs.raw_atomic.Walks.{proved_at}
use Rattle.std_alloc.proofs.BoxSteps.Form.{B, Bx, D, P, R, box_typed, word, τ}
use Rattle.std_alloc.proofs.BoxSteps.Steps.{box_in, box_out}
use Rattle.std_alloc.proofs.boxed.Box.into_raw_with_allocator.Met.{met}
use Rattle.std_alloc.specs.Box.Ownership.{box_owns}
use Rattle.std_alloc.specs.contracts.boxed.Box.into_raw_with_allocator as callee
use Rattle.vt100_c.specs.contracts.parts.Parts.{the_row}
use Rattle.vt100_c.specs.contracts.parts.Parts.of as f
use Rattle.vt100_c.proofs.parts.Parts.of.Code as code
use Rattle.vt100_c.proofs.parts.Parts.of.Statement.{statement}

abbrev args_of : Bx → Dict → Args
args_of E dx = bounded (a_type ∷ a_type ∷ []) (E.row, (E.al.row, tt)) (dcons E.al.d (dcons E.al.drops (dcons dx dnil)))

abbrev ended : Bx → Dict → Ended
ended E dx = f.ended E.row E.al.row E.al.g E.al.d E.al.drops dx

abbrev stayed : (E : Bx) (dx : Dict) → Stays (ended E dx).signature.params (ended E dx).kept
stayed E dx = (stay_dropped (plain (λ _. B E)) no, tt)

-- The type of the parts.
abbrev Made : Bx → RattleType
Made E = the_row (R E) (P E) E.al.g

pub of_spec : {M : Type 1} → statement M
of_spec 𝓤 𝓛 𝓜 𝓡 wired X Z LX LZ g d dd dx allocator md glue =
    let E : Bx = record { row = X; laws = LX; al = record { row = Z; laws = LZ; g = g; d = d; drops = dd } } in
    let 𝓣 = tables 𝓤 𝓛.H 𝓜 𝓡 𝓡.env in let fn : Fn = inst_fn (args_of E dx) code.function in
    let c = f.clauses X Z g d dd dx 𝓛 𝓜.mem 𝓡.returns in let W = walk_of 𝓛 (ended E dx) (stayed E dx) c in
    let G : Contract 𝓤 = triple_of 𝓛 (callee.signature X Z g d dd dx) (callee.spec X Z g d dd dx 𝓛 𝓜.mem 𝓡.returns) in
    proved_at 𝓛 (ended E dx) (stayed E dx) c 𝓜 𝓡 (Goes-blank 𝓛 2 (plain (λ _. B E)) no (λ κs x w. tt), tt)
    (f.Key.name (args_of E dx)) fn (code.unfolded 𝓤 𝓛.H 𝓜 𝓡 wired (X, (Z, tt)) d dd dx) (λ z are.
    let κs = z.0.0 in let qs = z.0.1 in let whole_box = z.0.3.0 in let a = whole_box.alloc in let x = whole_box.value in
    let Run : List Val → SProp 𝓤 = λ us. WpFn 𝓤 𝓛.H 𝓣.C 𝓣.Λ fn us (W.post z) in
    let tokens : Item 𝓤 = ‵ (flft κs.0 qs.0) ⊛ ‵ (flft κs.1.0 qs.1.0) ⊛ ‵ ftrue in
    let outlived : Item 𝓤 = raw (fact 𝓤 (κs.0 ⊑ X.lives)) ⊛ raw (fact 𝓤 (κs.1.0 ⊑ Z.lives)) ⊛ ‵ ftrue in
    let Owned : Ptr → Item 𝓤 = λ p. ‵ (box_owns (token E.al a) (R E) p x) in
    qed 𝓛 ((tokens ⊛ ‵ (fsep ((B E).own_val whole_box z.0.4.0) ftrue)) ∷ outlived ∷ []) ∵
    split ! $ move ! (1 ∷ []) $ fsplit ! $
    box_out E ! whole_box z.0.4.0 (λ b o hv first ew fits. box_in E ! whole_box b o x first refl $
    let given = word E hv b o ∷ [] in
    suffices ! (Run given) (subst (λ (us : List Val). ent 𝓤 (Run given) (Run us)) (sym (λ i. ew i ++ [])) (id⊢ 𝓤 (Run given))) $
    enter ! 𝓣.C 𝓣.Λ fn given (W.post z) $ alloc_all ! (λ l. pass_all ! refl (box_typed E hv b o fits, tt) $
    -- [the box; nothing; the tokens; what is outlived; the locals]
    sets ! (of_opd ! (get ! refl)) refl (box_typed E hv b o fits) $
    let y : G.Ghost = ((κs, qs, tt, (whole_box, tt), (given, tt)), tt) in
    fjoin ! $ move ! (1 ∷ 0 ∷ []) $ join ! $ join ! $ use1 𝓛 (raw (G.pre y)) (id⊢ 𝓤 _) $
    calls_at ! (framed 𝓤 𝓛.H 𝓜 𝓣) G
    (met 𝓤 𝓛 𝓜 𝓡 (code.calls-std_alloc::boxed::Box::into_raw_with_allocator 𝓡.env wired) X Z LX LZ g d dd dx allocator md glue) y
    (and_then ! (get ! refl) (no_more !)) (λ u.
    use1 𝓛 (later (some (λ (r : Ptr × Z.Denot). (tokens ⊛ ‵ ((Tuple (RawPtr ∷ P E ∷ [])).own_val r (u ∷ []))) ⊛
    some (λ (_ : (Unit {0} × (Unit {0} × Unit {0})) × Unit {0}). ‵ (fsep (fsep ftrue (fsep ftrue ftrue)) ftrue) ⊛
    (raw (fact 𝓤 (r.1 ≡ a)) ⊛ Owned r.0))))) (id⊢ 𝓤 _) $
    await ! tt $ pick ! (λ r. split ! $ move ! (1 ∷ []) $ pick ! (λ _. split3 ! $ drop ! $ heard ! (r.1 ≡ a) (λ same.
    in_a_block ! r.0 (λ p. box_owns (token E.al a) (R E) p x) (fst∗ 𝓤 (never 𝓤) (sem 𝓛 (token E.al a (bare (τ E)) null_ptr))) (λ b' o' at.
    -- [what the box owned; the tokens with the pair]
    move ! (1 ∷ []) $ split ! $ move ! (1 ∷ []) $ fpick ! (λ words. fsplit ! $ feq_l ! (λ paired. fsplit ! $ feq_l ! (λ first'. fsplit ! $
    rewrite ! 0 (λ (s : Z.Denot). ‵ (Z.own_val s words.1.0)) same refl $ handle_tells E.al ! a words.1.0 (λ hw second fits'.
    let is : D E = record { ptr = block_ptr b' o'; alloc = a; value = x } in
    let made : (Made E).Denot = record { at = block_ptr b' o'; alloc = a; value = x } in
    lands_as ! (ap only (paired ∙ (λ j. vstruct (of_list ((first' ∙ ap (λ (p : Ptr). ptr_val p ∷ []) at) j ++ (second j ++ []))) ∷ [])))
    refl (box_typed E hw b' o' fits') $
    sets ! (of_opd ! (get_in ! (fld ! refl (stop !)) (sub ! 0 refl (whole !)))) refl (tt, tt) $
    sets ! (of_opd ! (get_in ! (fld ! refl (stop !)) (sub ! 1 refl (whole !)))) refl fits' $
    sets ! (of_opd ! (get ! refl)) refl fits' $
    sets ! (agg ! (and_then ! (get ! refl) (and_then ! (get ! refl) (no_more !)))) refl (box_typed E hw b' o' fits') $
    returns ! (look_at ! 0 refl) $ free_all ! refl $
    -- [the allocator; nothing; the tokens; what the box owned]
    move ! (3 ∷ []) $ fsplit ! $ box_in E ! is b' o' x refl refl $
    use1 𝓛 (‵ ((Made E).own_val made (word E hw b' o' ∷ []))) (id⊢ 𝓤 _) $ move ! (1 ∷ []) $ drop ! $
    suffices ! _ (ends_at 𝓛 (ended E dx) (stayed E dx) c z (word E hw b' o') made ((tt, (tt, tt)), tt) (tt, tt)) $ says ! refl $
    nothing ! $ nothing ! $ fjoin ! $ join ! $ move ! (1 ∷ 0 ∷ []) $ join ! $ done !))))))))))))
