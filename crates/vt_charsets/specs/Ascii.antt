-- Input that designates nothing but ASCII.
use Rattle.std.specs.Prelude.{◌≡◌, ℕ, Bool, false, ◌==◌, ◌&&◌, nat_le, List, [], ◌∷◌}
use Rattle.vt_scan.specs.Automaton.{intermediates_of}
use Rattle.vt_scan.specs.Table.{class_of, transition_of}
use Rattle.vt_scan.specs.declared.table.Transition.{Transition}
use Rattle.vt_scan.specs.declared.table.Transition.TheVariants.{End}
use Rattle.vt_scan.specs.declared.table.Ending.TheVariants.{EscDispatch}
use Rattle.vt_charsets.specs.Translation.{Reading, next_reading}
use Rattle.vt_charsets.specs.declared.sets.Charset.TheVariants.{Ascii}
use Rattle.vt_charsets.specs.declared.sets.Sets.{Sets}
use Rattle.vt_charsets.specs.declared.sets.CharsetState.{CharsetState}

-- ASCII is designated to every slot.
pub record AreAscii (sets : Sets) : Type 0 where
  pub g0 : sets.g0 ≡ Ascii
  pub g1 : sets.g1 ≡ Ascii
  pub g2 : sets.g2 ≡ Ascii
  pub g3 : sets.g3 ≡ Ascii

-- ASCII is designated to every slot, also in the saved sets.
pub record IsAscii (d : CharsetState) : Type 0 where
  pub sets : AreAscii d.sets
  pub main : AreAscii d.main
  pub alternate : AreAscii d.alternate

-- The transition ends an escape sequence that designates DEC Special Graphics: one of `(`, `)`, `*` and `+` as its only
-- intermediate, and the final byte `0`.
abbrev pub designates_graphics : Transition → List ℕ → ℕ → Bool
designates_graphics (End kind EscDispatch) (intermediate ∷ []) b =
    (nat_le 0x28 intermediate && nat_le intermediate 0x2B) && (b == 0x30)
designates_graphics _ _ b = false

-- No escape sequence that ends in the bytes designates DEC Special Graphics.
abbrev pub DesignatesNoGraphics : Reading → List ℕ → Type 0
DesignatesNoGraphics r [] = Unit {0}
DesignatesNoGraphics r (b ∷ bytes) =
    (designates_graphics (transition_of r.kind (class_of b)) (intermediates_of r.collected) b ≡ false)
    × DesignatesNoGraphics (next_reading r b) bytes
