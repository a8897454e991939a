-- Input that designates nothing but ASCII is unchanged.
use Rattle.std.proofs.Common.{◌≡◌, ◌∙◌, ap, refl, sym, ℕ, ◌-◌, ◌==◌, ◌&&◌, Bool, true, false, nat_le, nat_lt, List, [], ◌∷◌, ◌++◌, slice_index_or, cond, Option, Some, None}
use Rattle.std.proofs.lemmas.Bool.{eqb-true, false≢true}
use Rattle.vt_scan.specs.Automaton.{intermediates_of, parameter_text}
use Rattle.vt_scan.specs.Parameters.{table_of}
use Rattle.vt_scan.specs.Table.{class_of, transition_of}
use Rattle.vt_scan.specs.declared.table.Kind.{Kind}
use Rattle.vt_scan.specs.declared.table.Transition.{Transition}
use Rattle.vt_scan.specs.declared.table.Transition.TheVariants.{Collect, Drop, Execute, End}
use Rattle.vt_scan.specs.declared.table.Ending as ending
use Rattle.vt_scan.specs.declared.table.Ending.TheVariants as ends
use Rattle.vt_charsets.specs.Ascii.{AreAscii, IsAscii, DesignatesNoGraphics, designates_graphics}
use Rattle.vt_charsets.specs.Sets.{after_character, after_control, after_designating_escape, after_designation, after_escape, after_group, after_locking_shift, after_mode, after_modes, after_page_mode, after_page_switch, after_plain_escape, after_private, after_restore, after_save, after_sequence, after_single_shift, after_soft_reset, initial_sets, initial_state, set_for, set_in, set_named, sets_with}
use Rattle.vt_charsets.specs.Translation.{Reading, glyphs, next_reading, is_ground, is_graphics, reading_after, reading_by, state_at_end, translation}
use Rattle.vt_charsets.specs.declared.sets.Charset.{Charset}
use Rattle.vt_charsets.specs.declared.sets.Charset.TheVariants.{Ascii, Graphics}
use Rattle.vt_charsets.specs.declared.sets.CharsetState.{CharsetState}
use Rattle.vt_charsets.specs.declared.sets.Sets.{Sets}
use Rattle.vt_charsets.specs.declared.sets.Slot.{Slot}
use Rattle.vt_charsets.specs.declared.sets.Slot.TheVariants.{G0, G1, G2, G3}

-- ==== While ASCII is designated everywhere, bytes are written as they are.

ascii_in : (sets : Sets) (slot : Slot) → AreAscii sets → set_in sets slot ≡ Ascii
ascii_in sets G0 p = p.g0
ascii_in sets G1 p = p.g1
ascii_in sets G2 p = p.g2
ascii_in sets G3 p = p.g3

ascii_for : (sets : Sets) (single : Option Slot) → AreAscii sets → set_for sets single ≡ Ascii
ascii_for sets (Some slot) p = ascii_in sets slot p
ascii_for sets None p = ascii_in sets sets.shift p

as_is : (a b g x : Bool) (u v : List ℕ) → x ≡ false → cond (a && (b && (g && x))) u v ≡ v
as_is true true true x u v e = ap (λ t. cond t u v) e
as_is true true false x u v e = refl
as_is true false g x u v e = refl
as_is false b g x u v e = refl

-- ==== Nothing but a designation of DEC Special Graphics changes that.

one_of : {A : Type 0} (P : A → Type 0) (t : Bool) (x y : A) → P x → P y → P (cond t x y)
one_of P true x y p q = p
one_of P false x y p q = q

pick : (P : CharsetState → Type 0) (t : Bool) (x y : CharsetState) → (t ≡ true → P x) → P y → P (cond t x y)
pick P true x y p q = p refl
pick P false x y p q = q

initial_are : AreAscii initial_sets
initial_are = record { g0 = refl; g1 = refl; g2 = refl; g3 = refl }

with_are : (sets : Sets) (slot : Slot) (set : Charset) → AreAscii sets → set ≡ Ascii → AreAscii (sets_with sets slot set)
with_are sets G0 set p e = record { g0 = e; g1 = p.g1; g2 = p.g2; g3 = p.g3 }
with_are sets G1 set p e = record { g0 = p.g0; g1 = e; g2 = p.g2; g3 = p.g3 }
with_are sets G2 set p e = record { g0 = p.g0; g1 = p.g1; g2 = e; g3 = p.g3 }
with_are sets G3 set p e = record { g0 = p.g0; g1 = p.g1; g2 = p.g2; g3 = e }

designation_is : (d : CharsetState) (slot : Slot) (set : Charset) → IsAscii d → set ≡ Ascii → IsAscii (after_designation d slot set)
designation_is d slot set p e = record { sets = with_are d.sets slot set p.sets e; main = p.main; alternate = p.alternate }

shift_is : (d : CharsetState) (slot : Slot) → IsAscii d → IsAscii (after_locking_shift d slot)
shift_is d slot p = record {
  sets = record { g0 = p.sets.g0; g1 = p.sets.g1; g2 = p.sets.g2; g3 = p.sets.g3 };
  main = p.main;
  alternate = p.alternate;
}

save_is : (d : CharsetState) → IsAscii d → IsAscii (after_save d)
save_is d p =
    one_of IsAscii d.is_alternate (record d { alternate = d.sets }) (record d { main = d.sets })
    (record { sets = p.sets; main = p.main; alternate = p.sets })
    (record { sets = p.sets; main = p.sets; alternate = p.alternate })

restore_is : (d : CharsetState) → IsAscii d → IsAscii (after_restore d)
restore_is d p = record {
  sets = one_of AreAscii d.is_alternate d.alternate d.main p.alternate p.main;
  main = p.main;
  alternate = p.alternate;
}

same_is : (d e : CharsetState) → e.sets ≡ d.sets → e.main ≡ d.main → e.alternate ≡ d.alternate → IsAscii d → IsAscii e
same_is d e sets main alternate p = record {
  sets = rw sets p.sets;
  main = rw main p.main;
  alternate = rw alternate p.alternate;
}

reset_is : (d : CharsetState) → IsAscii d → IsAscii (after_soft_reset d)
reset_is d p = save_is _ (record { sets = initial_are; main = p.main; alternate = p.alternate })

pub initial_is : IsAscii initial_state
initial_is = record { sets = initial_are; main = initial_are; alternate = initial_are }

control_is : (d : CharsetState) (b : ℕ) → IsAscii d → IsAscii (after_control d b)
unfolding after_control
control_is d b p =
    one_of IsAscii (b == 0x0E) _ _ (shift_is d G1 p) (one_of IsAscii (b == 0x0F) _ _ (shift_is d G0 p) p)

single_is : (d : CharsetState) (slot : Slot) → IsAscii d → IsAscii (after_single_shift d slot)
single_is d slot p = same_is d (after_single_shift d slot) refl refl refl p

plain_is : (d : CharsetState) (b : ℕ) → IsAscii d → IsAscii (after_plain_escape d b)
unfolding after_plain_escape
plain_is d b p =
    one_of IsAscii (b == 0x37) _ _ (save_is d p)
    (one_of IsAscii (b == 0x38) _ _ (restore_is d p)
    (one_of IsAscii (b == 0x4E) _ _ (single_is d G2 p)
    (one_of IsAscii (b == 0x4F) _ _ (single_is d G3 p)
    (one_of IsAscii (b == 0x63) _ _ initial_is
    (one_of IsAscii (b == 0x6E) _ _ (shift_is d G2 p)
    (one_of IsAscii (b == 0x6F) _ _ (shift_is d G3 p) p))))))

designating_is : (d : CharsetState) (i : ℕ) (set : Charset) → IsAscii d →
    ((nat_le 0x28 i && nat_le i 0x2B) ≡ true → set ≡ Ascii) → IsAscii (after_designating_escape d i set)
unfolding after_designating_escape
designating_is d i set p e =
    pick IsAscii (i == 0x28) _ _ (λ t. designation_is d G0 set p (e (rw (eqb-true i 0x28 t) refl)))
    (pick IsAscii (i == 0x29) _ _ (λ t. designation_is d G1 set p (e (rw (eqb-true i 0x29 t) refl)))
    (pick IsAscii (i == 0x2A) _ _ (λ t. designation_is d G2 set p (e (rw (eqb-true i 0x2A t) refl)))
    (pick IsAscii (i == 0x2B) _ _ (λ t. designation_is d G3 set p (e (rw (eqb-true i 0x2B t) refl)))
    (one_of IsAscii (i == 0x2D) _ _ (designation_is d G1 Ascii p refl)
    (one_of IsAscii (i == 0x2E) _ _ (designation_is d G2 Ascii p refl)
    (one_of IsAscii (i == 0x2F) _ _ (designation_is d G3 Ascii p refl) p))))))

named : (in_range is_zero : Bool) → (in_range && is_zero) ≡ false → in_range ≡ true →
    cond is_zero Graphics Ascii ≡ Ascii
named true true none e = absurd (false≢true (sym none))
named true false none e = refl
named false is_zero none e = absurd (false≢true e)

escape_is : (d : CharsetState) (kind : Kind) (intermediates : List ℕ) (b : ℕ) → IsAscii d →
    designates_graphics (End kind ends.EscDispatch) intermediates b ≡ false → IsAscii (after_escape d intermediates b)
escape_is d kind [] b p none = plain_is d b p
escape_is d kind (i ∷ []) b p none =
    designating_is d i (set_named [] b) p (named (nat_le 0x28 i && nat_le i 0x2B) (b == 0x30) none)
escape_is d kind (i ∷ (j ∷ rest)) b p none = designating_is d i Ascii p (λ _. refl)

switch_is : (d : CharsetState) (on : Bool) → IsAscii d → IsAscii (after_page_switch d on)
switch_is d on p = same_is d (after_page_switch d on) refl refl refl p

page_mode_is : (d : CharsetState) (on : Bool) → IsAscii d → IsAscii (after_page_mode d on)
page_mode_is d on p =
    one_of IsAscii on _ _ (switch_is _ true (save_is d p)) (restore_is _ (switch_is d false p))

mode_is : (d : CharsetState) (on : Bool) (number : ℕ) → IsAscii d → IsAscii (after_mode d on number)
unfolding after_mode
mode_is d on number p =
    one_of IsAscii (number == 47) _ _ (switch_is d on p)
    (one_of IsAscii (number == 1047) _ _ (switch_is d on p)
    (one_of IsAscii (number == 1048) _ _ (one_of IsAscii on _ _ (save_is d p) (restore_is d p))
    (one_of IsAscii (number == 1049) _ _ (page_mode_is d on p) p)))

group_is : (d : CharsetState) (on : Bool) (group : List ℕ) → IsAscii d → IsAscii (after_group d on group)
group_is d on [] p = p
group_is d on (number ∷ []) p = mode_is d on number p
group_is d on (number ∷ (sub ∷ rest)) p = p

modes_is : (d : CharsetState) (on : Bool) (groups : List (List ℕ)) → IsAscii d → IsAscii (after_modes d on groups)
modes_is d on [] p = p
modes_is d on (group ∷ groups) p = modes_is (after_group d on group) on groups (group_is d on group p)

private_is : (d : CharsetState) (groups : List (List ℕ)) (i b : ℕ) → IsAscii d → IsAscii (after_private d groups i b)
unfolding after_private
private_is d groups i b p =
    one_of IsAscii (i == 0x3F) _ _
    (one_of IsAscii (b == 0x68) _ _ (modes_is d true groups p)
    (one_of IsAscii (b == 0x6C) _ _ (modes_is d false groups p) p))
    (one_of IsAscii (i == 0x21) _ _ (one_of IsAscii (b == 0x70) _ _ (reset_is d p) p) p)

sequence_is : (d : CharsetState) (groups : List (List ℕ)) (intermediates : List ℕ) (b : ℕ) → IsAscii d →
    IsAscii (after_sequence d groups intermediates b)
sequence_is d groups [] b p = p
sequence_is d groups (i ∷ []) b p = private_is d groups i b p
sequence_is d groups (i ∷ (j ∷ rest)) b p = p

end_is : (end : ending.Ending) (kind : Kind) (d : CharsetState) (groups : List (List ℕ)) (intermediates : List ℕ) (b : ℕ) →
    IsAscii d → designates_graphics (End kind end) intermediates b ≡ false →
    IsAscii (state_at_end end d groups intermediates b)
end_is ends.Nothing kind d groups intermediates b p none = p
end_is ends.Character kind d groups intermediates b p none = same_is d (after_character d) refl refl refl p
end_is ends.Executed kind d groups intermediates b p none = p
end_is ends.EscDispatch kind d groups intermediates b p none = escape_is d kind intermediates b p none
end_is ends.CsiDispatch kind d groups intermediates b p none = sequence_is d groups intermediates b p
end_is ends.OscDispatch kind d groups intermediates b p none = p
end_is ends.OscDispatchAndExecuted kind d groups intermediates b p none = p

step_is : (r : Reading) (b : ℕ) (t : Transition) → IsAscii r.state →
    designates_graphics t (intermediates_of r.collected) b ≡ false → IsAscii (reading_by r b t).state
step_is r b (Collect kind) p none = p
step_is r b Drop p none = p
step_is r b Execute p none = control_is r.state b p
step_is r b (End kind end) p none =
    end_is end kind r.state (table_of (parameter_text r.collected)).groups (intermediates_of r.collected) b p none

-- ==== Over whole input.

pub ascii_after : (r : Reading) (bytes : List ℕ) → IsAscii r.state → DesignatesNoGraphics r bytes →
    IsAscii (reading_after r bytes).state
ascii_after r [] p none = p
ascii_after r (b ∷ bytes) p (first, rest) =
    ascii_after (next_reading r b) bytes (step_is r b (transition_of r.kind (class_of b)) p first) rest

pub ascii_identity : (r : Reading) (bytes : List ℕ) → IsAscii r.state → DesignatesNoGraphics r bytes →
    translation r bytes ≡ bytes
ascii_identity r [] p none = refl
ascii_identity r (b ∷ bytes) p (first, rest) =
    ap (λ (l : List ℕ). l ++ translation (next_reading r b) bytes)
    (as_is (nat_le 0x5F b) (nat_lt b 0x7F) (is_ground r.kind) (is_graphics (set_for r.state.sets r.state.single))
    (slice_index_or glyphs (b - 0x5F) []) (b ∷ []) (ap is_graphics (ascii_for r.state.sets r.state.single p.sets)))
    ∙ ap (λ (l : List ℕ). b ∷ l)
    (ascii_identity (next_reading r b) bytes (step_is r b (transition_of r.kind (class_of b)) p first) rest)
