-- Both the screen and the callbacks are mutably borrowed, and the parser changes with them. Its other three fields stay
-- inside the borrow, together with the way back from all five. Assumes `Logic`.
use mathlib.Core.Path.{◌≡◌, refl, sym, ap, subst}
use Prim.Native.Nat.{ℕ, ◌+◌}
use mathlib.Core.List.{List, [], ◌∷◌, ◌++◌}
use seplogic.Ra.Ura.{Ura}
use base.Fraction.{full_share}
use base.Logic.{SProp, ent, sep, wand, via, fst∗, id⊢, emp, all_e, apply∗}
use base.Fml.{Fml, GName, Lft, Share, ftrue, fsep, flft, fobs, fbor}
use contract.Lifetimes.{Lfts, Shares, AllOutlive}
use contract.Monad.{Fun, fact_i}
use contract.Running.{tables, tables_of}
use denote.Builtin as builtin
use denote.Exit.{no}
use denote.Follow.{both_by}
use denote.Laws.{Lawfuls}
use denote.Memory.{part_at, part_of, mem, lone}
use denote.Model.Fields.{view_owns, view_made, plain_out, Plain-in}
use denote.Param.{bounded, param}
use denote.Param.Laws.{Laws, param_laws}
use denote.RattleType.{RattleType, Denots, Valss, owns}
use denote.Ref.{MutBor, MutRef}
use denote.Signature.{plain, mut_ref_to}
use denote.Steps.{nothing}
use denote.Struct.Declared.{shape}
use denote.Struct.Members.{Member, rows_of, parts_at}
use denote.Struct.Parts.{shape_of, PartsBack, Struct-parts}
use denote.Struct.Struct.{Struct, within}
use denote.Struct.Tuple.{tuple_type}
use denote.Triple.Clauses.{Clauses, Ended, closing}
use denote.Triple.Entry.{on_entry}
use denote.Triple.Spec.{Meets, triple_of}
use denote.Triple.Table.{entered}
use denote.Triple.Walked.{Stays, stay_dropped, walk_of, ends_at, says, Goes-spent_ref, walk_Meets}
use mir.MapTy.{inst_fn}
use mir.Syntax.{Args, Dict, Fn, Ty, a_type, dcons, dnil, named}
use mir.Val.{Val, vcons, vnil, vptr, vstruct}
use prog.Memory.{Memory, align, size, up}
use prog.Routine.{Routine}
use prog.Wp.{Calls, Loops, Tables, WpFn}
use sound.WpLaws.{WpFn-mono}
use types.ByLocal.{alloc_all, free_all, get, look_at, pass_all, sets, through}
use types.Follow.{after₂, takes_two}
use types.Kit.{Item, ⋆, ‵, raw, ◌⊛◌, some, later, ◌$◌, ◌∵◌, !, qed, by, move, keep, use0, use1, use2, split, split3}
use types.Kit.{join, group, pick, fsplit, fsplit3, fjoin, fjoin3, fpack, feq_i, feq_l, frame, suffices, await, done}
use types.Logic.{Logic, sem}
use types.Mut.{open_ref}
use types.Part.{agg}
use types.Run.{addr, and_then, enter, fld, no_more, returns, stop}
use types.SemTy.{Body as Borrowed}
use Rattle.vt_scan.specs.contracts.automaton.Scanner as scanner
use Rattle.vt_screen.specs.contracts.screen.Screen as screen
use Rattle.vt_screen.specs.declared.callbacks.Callbacks as declared
use Rattle.vt100.specs.contracts.parser.Parser as parser
use Rattle.vt100.specs.contracts.parser.Parser.TheInside as inside
use Rattle.vt100.specs.contracts.parser.Parser.screen_and_callbacks_mut as contract'
use Rattle.vt100.specs.contracts.parser.Parser.screen_and_callbacks_mut.Key.{name as #self}
use Rattle.vt100.proofs.parser.Parser.TheInside.TheLaws as inside-laws
use Rattle.vt100.proofs.parser.Parser.screen_and_callbacks_mut.Code as code
use Rattle.vt100.proofs.parser.Parser.screen_and_callbacks_mut.Statement as stated

module _ (T : RattleType) (laws : Laws T) (g : declared.Ghosts T.Denot) (d : Dict) where
  abbrev args : Args
  args = bounded (a_type ∷ []) (T, tt) (dcons d dnil)

  abbrev function : Fn
  function = inst_fn args code.function

  abbrev end : Ended
  end = contract'.ended T g d

  abbrev Kept : RattleType
  Kept = param 0 T

  abbrev Scanned : RattleType
  Scanned = scanner.the_row

  abbrev Shown : RattleType
  Shown = screen.the_row

  abbrev Whole : RattleType
  Whole = parser.the_row Kept g

  abbrev Inside : RattleType
  Inside = inside.the_row Kept g

  abbrev stayed : Stays end.signature.params end.kept
  stayed = (stay_dropped (mut_ref_to (0 ∷ []) tt (plain (λ _. Whole))) no, tt)

  -- The five fields of a parser, with their bounds.
  abbrev members : List Member
  members =
      record { row = Scanned; ty = lone Scanned.mir } ∷ record { row = Shown; ty = lone Shown.mir }
      ∷ record { row = Kept; ty = lone Kept.mir } ∷ record { row = builtin.bool; ty = lone (builtin.bool).mir }
      ∷ record { row = builtin.u64; ty = lone (builtin.u64).mir } ∷ []

  abbrev past : Ty → ℕ → ℕ
  past τ e = up (align τ) e + size τ

  abbrev screen_at : ℕ
  screen_at = up (align (lone Shown.mir)) (past (lone Scanned.mir) 0)

  abbrev callbacks_at : ℕ
  callbacks_at = up (align (lone Kept.mir)) (past (lone Shown.mir) (past (lone Scanned.mir) 0))

  abbrev failed_at : ℕ
  failed_at =
      up (align (lone (builtin.bool).mir)) (past (lone Kept.mir) (past (lone Shown.mir) (past (lone Scanned.mir) 0)))

  abbrev counted_at : ℕ
  counted_at =
      up (align (lone (builtin.u64).mir)) (past (lone (builtin.bool).mir) (past (lone Kept.mir) (past (lone Shown.mir)
      (past (lone Scanned.mir) 0))))

  abbrev values : Inside.Denot → Denots (rows_of members)
  values a = (a.scanner, (a.screen, (a.callbacks, (a.is_failed, (a.erasures, tt)))))

  abbrev view : Inside.Denot → Whole.Denot
  view = parser.the_view Kept g

  abbrev good : Inside.Denot → Type 0
  good = parser.the_invariant Kept g

  abbrev lawful : {M : Type 1} {𝓤 : Ura M} (𝓛 : Logic 𝓤) → Lawfuls 𝓛 (rows_of members)
  lawful 𝓛 =
      let each = inside-laws.the_loose Kept g (param_laws 0 T laws) in
      (each.0.lawful 𝓛, (each.1.0.lawful 𝓛, (each.1.1.0.lawful 𝓛, (each.1.1.1.0.lawful 𝓛, (each.1.1.1.1.0.lawful 𝓛, tt)))))

module _ (T : RattleType) (laws : Laws T) (g : declared.Ghosts T.Denot) (d : Dict)
    {M : Type 1} {𝓤 : Ura M} (𝓛 : Logic 𝓤) (at : Memory → SProp 𝓤) (run : Routine → Fun 𝓤) where
  open 𝓛 use {H}

  abbrev spec : Clauses 𝓤 (end T laws g d)
  spec = contract'.clauses T g d 𝓛 at run

  module _ (κs : Lfts 2) (qs : Shares 2) (bounds : AllOutlive 2 (end T laws g d).signature.outlives κs)
      (b o : ℕ) (γ : GName) (x : (Whole T laws g d).Denot) (ps : List Val) where
    abbrev P : RattleType
    P = Whole T laws g d

    abbrev I : RattleType
    I = Inside T laws g d

    abbrev S : RattleType
    S = Shown T laws g d

    abbrev C : RattleType
    C = Kept T laws g d

    abbrev κ : Lft
    κ = κs.0

    abbrev q : Share
    q = qs.0

    abbrev self : MutBor P.Denot
    self = record { ref_ptr = (b, o); ghost_name = γ; now = x }

    abbrev bound : (walk_of 𝓛 (end T laws g d) (stayed T laws g d) spec).Ghost
    bound = ((κs, qs, bounds, (self, tt), (ps, tt)), tt)

    abbrev Post : Val → SProp 𝓤
    Post = (walk_of 𝓛 (end T laws g d) (stayed T laws g d) spec).post bound

    abbrev new : S.Denot → C.Denot → P.Denot
    new shown called = record x { screen = shown; callbacks = called }

    abbrev s : ℕ
    s = o + screen_at T laws g d

    abbrev h : ℕ
    h = o + callbacks_at T laws g d

    abbrev Back : SProp 𝓤
    Back = PartsBack 𝓛 full_share [] (members T laws g d) b o

    module _ (a : I.Denot) where
      abbrev scanner_in : Fml
      scanner_in =
          part_at (Scanned T laws g d) full_share a.scanner b (o + up (align (lone (Scanned T laws g d).mir)) 0)

      abbrev failed_in : Fml
      failed_in = part_at builtin.bool full_share a.is_failed b (o + failed_at T laws g d)

      abbrev counted_in : Fml
      counted_in = part_at builtin.u64 full_share a.erasures b (o + counted_at T laws g d)

      abbrev Rest : SProp 𝓤
      Rest = sep 𝓤 (sem 𝓛 scanner_in) (sep 𝓤 (sem 𝓛 failed_in) (sep 𝓤 (sem 𝓛 counted_in) Back))

      apart : ent 𝓤 (sem 𝓛 (part_at I full_share a b o))
          (sep 𝓤 (sem 𝓛 (part_at S full_share a.screen b s))
          (sep 𝓤 (sem 𝓛 (part_at C full_share a.callbacks b h)) Rest))
      unfolding part_of
      apart =
          let shown = part_at S full_share a.screen b s in
          let called = part_at C full_share a.callbacks b h in
          qed 𝓛 (‵ (part_at I full_share a b o) ∷ []) ∵
          use1 𝓛 (‵ (fsep scanner_in (fsep shown (fsep called (fsep failed_in (fsep counted_in ftrue))))) ⊛ raw Back)
          (Struct-parts 𝓛 full_share [] (members T laws g d) (lawful T laws g d 𝓛) (values T laws g d a) b o) $
          split ! $
          fsplit3 ! $ move ! (2 ∷ []) $ fsplit3 ! $ move ! (2 ∷ []) $ fsplit ! $
          keep ! (5 ∷ 2 ∷ 4 ∷ 3 ∷ 0 ∷ 6 ∷ []) $ done !

      back : view T laws g d a ≡ x → (w : S.Denot) (v : C.Denot)
          → ent 𝓤 (sep 𝓤 (sem 𝓛 ((mem S).own_at w b s)) (sep 𝓤 (sem 𝓛 ((mem C).own_at v b h)) Rest))
          (sem 𝓛 ((mem P).own_at (new w v) b o))
      unfolding part_of
      back seen w v =
          let t : I.Denot = record a { screen = w; callbacks = v } in
          let parts = parts_at full_share (members T laws g d) 0 (values T laws g d t) b o in
          let whole = λ (z : Denots (rows_of (members T laws g d))). part_at
          (Struct (shape_of [] (members T laws g d))) full_share z b o in
          let way = λ (z : Denots (rows_of (members T laws g d))). wand 𝓤
          (sem 𝓛 (parts_at full_share (members T laws g d) 0 z b o)) (sem 𝓛 (whole z)) in
          qed 𝓛
          (‵ (part_at S full_share w b s) ∷ ‵ (part_at C full_share v b h) ∷ ‵ scanner_in ∷ ‵ failed_in ∷ ‵ counted_in
          ∷ raw Back ∷ [])
          ∵
          use0 𝓛 (‵ ftrue) (id⊢ 𝓤 (emp 𝓤)) $
          move ! (5 ∷ 0 ∷ []) $ fjoin ! $ move ! (4 ∷ 0 ∷ []) $ fjoin ! $ move ! (2 ∷ 0 ∷ []) $ fjoin ! $
          move ! (1 ∷ 0 ∷ []) $ fjoin ! $ move ! (1 ∷ 0 ∷ []) $ fjoin ! $
          move ! (1 ∷ []) $ use1 𝓛 (raw (way (values T laws g d t))) (all_e 𝓤 way (values T laws g d t)) $
          move ! (1 ∷ 0 ∷ []) $
          use2 𝓛 (‵ (part_at I full_share t b o)) (apply∗ 𝓤 (sem 𝓛 parts) (sem 𝓛 (whole (values T laws g d t)))) $
          by ! (Plain-in P I (view_owns I P.Denot P.coded (view T laws g d) (good T laws g d)) 𝓛 full_share (new w v) t
          (view_made I P.Denot P.coded (view T laws g d) (good T laws g d) 𝓛 (new w v) t
          (ap (λ (p : P.Denot). record p { screen = w; callbacks = v }) seen, tt)) b o)

    abbrev others : Item 𝓤
    others = ‵ (flft κs.1.0 qs.1.0) ⊛ ‵ ftrue

    abbrev Had : List (Item 𝓤)
    Had = ‵ (fobs γ (P.coded.code x)) ∷ ‵ (fbor κ (Borrowed (mem P) b o γ)) ∷ ‵ (flft κ q) ∷ others ∷ []

    module _ (Cs : Calls 𝓤 H) (Λ : Loops 𝓤 H) where
      walk : ent 𝓤 (⋆ 𝓛 Had) (WpFn 𝓤 H Cs Λ (function T laws g d) (vptr b o ∷ []) Post)
      unfolding both_by
      walk =
          let code = P.coded.code x in
          let out : Val = vstruct (vcons (vptr b s) (vcons (vptr b h) vnil)) in
          qed 𝓛 Had ∵ enter ! Cs Λ (function T laws g d) (vptr b o ∷ []) _ $
          alloc_all ! (λ l. pass_all ! refl ((tt, tt), tt) $
          open_ref ! tt (mem P) {x = x} {b = b} {o = o} $
          use1 𝓛 (some
          (λ (a : (a : I.Denot) × ((view T laws g d a ≡ x) × good T laws g d a)). ‵ (part_at I full_share a.0 b o)))
          (plain_out P I (view_owns I P.Denot P.coded (view T laws g d) (good T laws g d)) 𝓛 full_share x b o) $
          pick ! (λ y.
          let a = y.0 in
          use1 𝓛 (‵ (part_at S full_share a.screen b s) ⊛ ‵ (part_at C full_share a.callbacks b h) ⊛ raw (Rest a))
          (apart a) $
          split3 ! $
          -- [the screen; the callbacks; the rest; the open borrow; obs; auth; the other tokens]
          move ! (3 ∷ 4 ∷ 5 ∷ 0 ∷ 1 ∷ 2 ∷ []) $ group ! 6 $
          use1 𝓛 (later
          (some (λ (δ : GName × GName). (‵ (fobs δ.0 (S.coded.code a.screen)) ⊛ ‵ (fbor κ (Borrowed (mem S) b s δ.0)))
          ⊛ (‵ (fobs δ.1 (C.coded.code a.callbacks)) ⊛ ‵ (fbor κ (Borrowed (mem C) b h δ.1)))
          ⊛ ‵ (flft κ q) ⊛ ‵ (after₂ (mem P) (mem S) (mem C) γ δ.0 δ.1 new))))
          (takes_two 𝓛 (mem P) (mem S) (mem C) new κ q b o b s b h γ
          (Rest a) (back a y.1.0) code code a.screen a.callbacks) $
          await ! tt $ pick ! (λ δ.
          let one : MutBor S.Denot = record { ref_ptr = (b, s); ghost_name = δ.0; now = a.screen } in
          let two : MutBor C.Denot = record { ref_ptr = (b, h); ghost_name = δ.1; now = a.callbacks } in
          split3 ! $ split ! $ feq_i ! (List Val) (vptr b s ∷ []) (vptr b s ∷ []) refl $ fjoin3 ! $
          move ! (1 ∷ []) $ split ! $ feq_i ! (List Val) (vptr b h ∷ []) (vptr b h ∷ []) refl $ fjoin3 ! $
          -- [the callbacks' loan; the screen's loan; the token and what follows; the other tokens]
          nothing ! $ move ! (1 ∷ 0 ∷ []) $ fjoin ! $ move ! (1 ∷ 0 ∷ []) $ fjoin ! $
          feq_i ! (List Val) (out ∷ []) (out ∷ []) refl $ fjoin ! $
          fpack ! (Valss (MutRef (named 0) κ S ∷ MutRef (named 0) κ C ∷ []))
          (within (shape (tuple_type (MutRef (named 0) κ S ∷ MutRef (named 0) κ C ∷ []))) (one, (two, tt)) (out ∷ []))
          (vptr b s ∷ [], (vptr b h ∷ [], tt)) $ move ! (1 ∷ []) $ split ! $
          -- [the token; what follows; the pair; the other tokens]
          sets ! (addr ! (through ! refl (fld ! refl (stop !)))) refl (tt, tt) $
          sets ! (addr ! (through ! refl (fld ! refl (stop !)))) refl (tt, tt) $
          sets ! (agg ! (and_then ! (get ! refl) (and_then ! (get ! refl) (no_more !)))) refl (tt, (tt, (tt, tt))) $
          returns ! (look_at ! 0 refl) $ free_all ! refl $
          suffices ! _ (ends_at 𝓛 (end T laws g d) (stayed T laws g d) spec bound out (one, two) (tt, tt) (tt, tt)) $
          move ! (2 ∷ 0 ∷ 1 ∷ 3 ∷ []) $ nothing ! $ nothing ! $
          fjoin ! $ join ! $ move ! (1 ∷ 3 ∷ []) $ join ! $ join ! $
          frame ! $ frame ! $ says ! (ap (λ (p : P.Denot). p.callbacks) y.1.0) $
          by ! (fact_i 𝓤 _ (emp 𝓤) (ap (λ (p : P.Denot). p.screen) y.1.0)))))

      entry : ent 𝓤 (on_entry 𝓛 (end T laws g d).signature κs qs (self, tt) (ps, tt))
          (WpFn 𝓤 H Cs Λ (function T laws g d) (ps ++ []) Post)
      entry =
          qed 𝓛 ((‵ (flft κ q) ⊛ others) ∷ ‵ (owns (MutRef (named 0) κ P ∷ []) (self, tt) (ps, tt)) ∷ []) ∵
          split ! $ move ! (2 ∷ []) $ fsplit ! $ fsplit3 ! $ feq_l ! (λ e. keep ! (0 ∷ 1 ∷ 3 ∷ 4 ∷ []) $
          by ! (subst (λ (ws : List Val). ent 𝓤 (⋆ 𝓛 Had) (WpFn 𝓤 H Cs Λ (function T laws g d) (ws ++ []) Post))
          (sym e) walk))

  meets : (𝓣 : Tables 𝓤 H) →
      Meets 𝓛 (end T laws g d).signature (WpFn 𝓤 H 𝓣.C 𝓣.Λ (function T laws g d)) (closing 𝓛 (end T laws g d) spec)
  meets 𝓣 =
      walk_Meets 𝓛 (end T laws g d) (stayed T laws g d)
      (Goes-spent_ref 𝓛 2 (0 ∷ []) tt (plain (λ _. Whole T laws g d)), tt) spec
      (WpFn 𝓤 H 𝓣.C 𝓣.Λ (function T laws g d)) (WpFn-mono 𝓤 H 𝓛.laws 𝓣 (function T laws g d))
      (λ z. let r = z.0.3.0 in via 𝓤 _ (fst∗ 𝓤 _ ((spec z.0.0 z.0.3).requires z.1))
      (entry z.0.0 z.0.1 z.0.2 r.ref_ptr.0 r.ref_ptr.1 r.ghost_name r.now z.0.4.0 𝓣.C 𝓣.Λ))

pub screen_and_callbacks_mut_spec : {M : Type 1} → stated.statement M
unfolding tables_of
screen_and_callbacks_mut_spec 𝓤 𝓛 𝓜 𝓡 wired T laws g d met =
    let 𝓣 : Tables 𝓤 𝓛.H = tables_of 𝓤 𝓛.H 𝓜 (tables 𝓤 𝓛.H 𝓜 𝓡 𝓡.env) in
    entered 𝓤 𝓛.H
    (triple_of 𝓛 (end T laws g d).signature (closing 𝓛 (end T laws g d) (spec T laws g d 𝓛 𝓜.mem 𝓡.returns)))
    𝓣.C 𝓣.Λ (#self (args T laws g d)) (function T laws g d) (code.unfolded 𝓤 𝓛.H 𝓜 𝓡 wired (T, tt) d)
    (meets T laws g d 𝓛 𝓜.mem 𝓡.returns 𝓣)
