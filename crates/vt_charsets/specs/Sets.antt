-- The effect of controls and sequences on the designated and invoked character sets (ECMA-35, and DEC's terminals).
use Rattle.std.specs.Prelude.{ℕ, Bool, true, false, ◌==◌, List, [], ◌∷◌, Option, Some, None, if◌then◌else◌}
use Rattle.vt_charsets.specs.declared.sets.Charset.{Charset}
use Rattle.vt_charsets.specs.declared.sets.Charset.TheVariants.{Ascii, Graphics}
use Rattle.vt_charsets.specs.declared.sets.Slot.{Slot}
use Rattle.vt_charsets.specs.declared.sets.Slot.TheVariants.{G0, G1, G2, G3}
use Rattle.vt_charsets.specs.declared.sets.Sets.{Sets}
use Rattle.vt_charsets.specs.declared.sets.CharsetState.{CharsetState}

-- ASCII is designated to every slot, and G0 is invoked.
abbrev pub initial_sets : Sets
initial_sets = record { g0 = Ascii; g1 = Ascii; g2 = Ascii; g3 = Ascii; shift = G0 }

abbrev pub initial_state : CharsetState
initial_state =
    record { sets = initial_sets; single = None; main = initial_sets; alternate = initial_sets; is_alternate = false }

abbrev pub set_in : Sets → Slot → Charset
set_in sets G0 = sets.g0
set_in sets G1 = sets.g1
set_in sets G2 = sets.g2
set_in sets G3 = sets.g3

abbrev pub sets_with : Sets → Slot → Charset → Sets
sets_with sets G0 set = record sets { g0 = set }
sets_with sets G1 set = record sets { g1 = set }
sets_with sets G2 set = record sets { g2 = set }
sets_with sets G3 set = record sets { g3 = set }

abbrev pub after_designation : CharsetState → Slot → Charset → CharsetState
after_designation d slot set = record d { sets = sets_with d.sets slot set }

abbrev pub after_locking_shift : CharsetState → Slot → CharsetState
after_locking_shift d slot = record d { sets = record d.sets { shift = slot } }

abbrev pub after_single_shift : CharsetState → Slot → CharsetState
after_single_shift d slot = record d { single = Some slot }

-- A character ends a single shift.
abbrev pub after_character : CharsetState → CharsetState
after_character d = record d { single = None }

abbrev pub set_for : Sets → Option Slot → Charset
set_for sets (Some slot) = set_in sets slot
set_for sets None = set_in sets sets.shift

-- The set in which the next character is printed.
abbrev pub current_set : CharsetState → Charset
current_set d = set_for d.sets d.single

-- Each page has a saved cursor of its own, with which the sets are saved.
abbrev pub after_save : CharsetState → CharsetState
after_save d = if d.is_alternate then record d { alternate = d.sets } else record d { main = d.sets }

-- Restoring a cursor also ends a single shift.
abbrev pub after_restore : CharsetState → CharsetState
after_restore d = record d { sets = (if d.is_alternate then d.alternate else d.main); single = None }

abbrev pub after_page_switch : CharsetState → Bool → CharsetState
after_page_switch d to_alternate = record d { is_alternate = to_alternate }

-- DECSTR resets the sets, and the sets saved with the cursor of the active page.
abbrev pub after_soft_reset : CharsetState → CharsetState
after_soft_reset d = after_save (record d { sets = initial_sets; single = None })

-- SO and SI.
unfoldable pub after_control : CharsetState → ℕ → CharsetState
after_control d b =
    if b == 0x0E then after_locking_shift d G1 else if b == 0x0F then after_locking_shift d G0 else d

-- DECSC, DECRC, SS2, SS3, RIS, LS2 and LS3.
unfoldable pub after_plain_escape : CharsetState → ℕ → CharsetState
after_plain_escape d b =
    if b == 0x37 then after_save d
    else if b == 0x38 then after_restore d
    else if b == 0x4E then after_single_shift d G2
    else if b == 0x4F then after_single_shift d G3
    else if b == 0x63 then initial_state
    else if b == 0x6E then after_locking_shift d G2
    else if b == 0x6F then after_locking_shift d G3
    else d

-- The set of 94 characters with the given name: the final byte and any intermediates before it. The name of DEC Special
-- Graphics is `0` alone.
abbrev pub set_named : List ℕ → ℕ → Charset
set_named [] b = if b == 0x30 then Graphics else Ascii
set_named (_ ∷ _) b = Ascii

-- A designation of a set of 94 characters by `(`, `)`, `*` or `+`, or of one of 96 by `-`, `.` or `/`. DEC Special
-- Graphics has 94 characters.
unfoldable pub after_designating_escape : CharsetState → ℕ → Charset → CharsetState
after_designating_escape d intermediate set =
    if intermediate == 0x28 then after_designation d G0 set
    else if intermediate == 0x29 then after_designation d G1 set
    else if intermediate == 0x2A then after_designation d G2 set
    else if intermediate == 0x2B then after_designation d G3 set
    else if intermediate == 0x2D then after_designation d G1 Ascii
    else if intermediate == 0x2E then after_designation d G2 Ascii
    else if intermediate == 0x2F then after_designation d G3 Ascii
    else d

abbrev pub after_escape : CharsetState → List ℕ → ℕ → CharsetState
after_escape d [] b = after_plain_escape d b
after_escape d (intermediate ∷ rest) b = after_designating_escape d intermediate (set_named rest b)

-- Mode 1048 saves or restores the cursor of the active page.
abbrev pub after_cursor_mode : CharsetState → Bool → CharsetState
after_cursor_mode d on = if on then after_save d else after_restore d

-- Mode 1049 saves the cursor of the active page and activates the alternate page, or activates the main page and
-- restores its cursor.
abbrev pub after_page_mode : CharsetState → Bool → CharsetState
after_page_mode d on =
    if on then after_page_switch (after_save d) true else after_restore (after_page_switch d false)

-- The private modes 47, 1047, 1048 and 1049.
unfoldable pub after_mode : CharsetState → Bool → ℕ → CharsetState
after_mode d on number =
    if number == 47 then after_page_switch d on
    else if number == 1047 then after_page_switch d on
    else if number == 1048 then after_cursor_mode d on
    else if number == 1049 then after_page_mode d on
    else d

-- A group with subparameters names no mode.
abbrev pub after_group : CharsetState → Bool → List ℕ → CharsetState
after_group d on (number ∷ []) = after_mode d on number
after_group d on _ = d

abbrev pub after_modes : CharsetState → Bool → List (List ℕ) → CharsetState
after_modes d on [] = d
after_modes d on (group ∷ groups) = after_modes (after_group d on group) on groups

-- A control sequence with one private marker or intermediate: DECSET and DECRST by `?`, and DECSTR by `!`.
unfoldable pub after_private : CharsetState → List (List ℕ) → ℕ → ℕ → CharsetState
after_private d groups intermediate b =
    if intermediate == 0x3F then
    (if b == 0x68 then after_modes d true groups
    else if b == 0x6C then after_modes d false groups
    else d)
    else if intermediate == 0x21 then (if b == 0x70 then after_soft_reset d else d)
    else d

abbrev pub after_sequence : CharsetState → List (List ℕ) → List ℕ → ℕ → CharsetState
after_sequence d groups (intermediate ∷ []) b = after_private d groups intermediate b
after_sequence d groups _ b = d
