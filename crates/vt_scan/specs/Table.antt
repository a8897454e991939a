-- The scanner's automaton, except for UTF-8: the transition for each kind of state and each class of bytes. It
-- follows Paul Williams' parser for ANSI terminals, with control sequences as in ECMA-48, section 5.4, and escape
-- sequences as in ECMA-35.
use Rattle.std.specs.Prelude.{ℕ, ◌==◌, ◌||◌, nat_lt, if◌then◌else◌}
use Rattle.vt_scan.specs.declared.table.Kind.{Kind}
use Rattle.vt_scan.specs.declared.table.Kind.TheVariants.{Ground, Escape, EscapeIntermediate, CsiEntry, CsiParam}
use Rattle.vt_scan.specs.declared.table.Kind.TheVariants.{CsiIntermediate, CsiIgnore, OscString, Skip}
use Rattle.vt_scan.specs.declared.table.Class.{Class}
use Rattle.vt_scan.specs.declared.table.Class.TheVariants.{Control, Bell, Cancel, Introducer, Intermediate, Parameter}
use Rattle.vt_scan.specs.declared.table.Class.TheVariants.{Marker, Final, CsiStart, OscStart, SkipStart, Delete, High}
use Rattle.vt_scan.specs.declared.table.Transition.{Transition}
use Rattle.vt_scan.specs.declared.table.Transition.TheVariants.{Collect, Drop, Execute, End}
use Rattle.vt_scan.specs.declared.table.Ending.TheVariants.{Nothing, Character, Executed, EscDispatch}
use Rattle.vt_scan.specs.declared.table.Ending.TheVariants.{CsiDispatch, OscDispatch, OscDispatchAndExecuted}

-- The class of a byte: the columns of ECMA-48's code table that contain the byte, or a separate class if the byte has a
-- special meaning.
unfoldable pub class_of : ℕ → Class
class_of b =
    if nat_lt b 0x20 then
    (if b == 0x07 then Bell
    else if b == 0x18 || b == 0x1A then Cancel
    else if b == 0x1B then Introducer
    else Control)
    else if nat_lt b 0x30 then Intermediate
    else if nat_lt b 0x3C then Parameter
    else if nat_lt b 0x40 then Marker
    else if nat_lt b 0x7F then
    (if b == 0x5B then CsiStart
    else if b == 0x5D then OscStart
    else if b == 0x50 || (b == 0x58 || (b == 0x5E || b == 0x5F)) then SkipStart
    else Final)
    else if b == 0x7F then Delete
    else High

-- The transition for a kind of state and a class of bytes; the first matching equation applies. In the ground state,
-- bytes from 0x80 on are decoded as UTF-8 and are not looked up here.
abbrev pub transition_of : Kind → Class → Transition
transition_of OscString Bell = End Ground OscDispatch
transition_of OscString Cancel = End Ground OscDispatchAndExecuted
transition_of OscString Introducer = End Escape OscDispatch
transition_of OscString Control = Drop
transition_of OscString _ = Collect OscString
transition_of _ Cancel = End Ground Executed
transition_of _ Introducer = End Escape Nothing
transition_of Skip _ = Drop
transition_of _ Control = Execute
transition_of _ Bell = Execute
transition_of Ground _ = End Ground Character
transition_of _ Delete = Drop
transition_of _ High = Drop
transition_of Escape Intermediate = Collect EscapeIntermediate
transition_of Escape CsiStart = End CsiEntry Nothing
transition_of Escape OscStart = End OscString Nothing
transition_of Escape SkipStart = End Skip Nothing
transition_of Escape _ = End Ground EscDispatch
transition_of EscapeIntermediate Intermediate = Collect EscapeIntermediate
transition_of EscapeIntermediate _ = End Ground EscDispatch
transition_of CsiIgnore Intermediate = Drop
transition_of CsiIgnore Parameter = Drop
transition_of CsiIgnore Marker = Drop
transition_of CsiIgnore _ = End Ground Nothing
transition_of _ Intermediate = Collect CsiIntermediate
transition_of CsiIntermediate Parameter = End CsiIgnore Nothing
transition_of CsiIntermediate Marker = End CsiIgnore Nothing
transition_of _ Parameter = Collect CsiParam
transition_of CsiEntry Marker = Collect CsiParam
transition_of _ Marker = End CsiIgnore Nothing
transition_of _ _ = End Ground CsiDispatch
