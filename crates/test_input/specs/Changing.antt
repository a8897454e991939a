-- The effects of callbacks that change the screen.
use Rattle.std.specs.Prelude.{ℕ, ◌≡◌, ◌⊎◌, ◌<◌, Bool, true}
use Rattle.vt_screen.specs.Calls.{CallValue, Resize, AudibleBell}
use Rattle.vt_screen.specs.Pages.{screen_after_resize}
use Rattle.vt_screen.specs.Screen.{ScreenValue, scrolled_back}

-- The callbacks and the screen are unchanged.
pub record Stays {S : Type 0} (old : S) (before : ScreenValue) (new : S) (after : ScreenValue) : Type 0 where
  pub callbacks : new ≡ old
  pub screen : after ≡ before

-- The screen becomes `wanted`. If an allocation fails, the callbacks record the failure and the screen is unchanged.
abbrev pub Becomes : (wanted : ScreenValue) → Bool → ScreenValue → Bool → ScreenValue → Type 0
Becomes wanted old before new after = ((new ≡ old) × (after ≡ wanted)) ⊎ ((new ≡ true) × (after ≡ before))

-- The screen is resized as the program requests, if the size has at least one row and one column. The callbacks record
-- whether an allocation for a resize has ever failed.
pub record Obeys (rows cols : ℕ) (old : Bool) (before : ScreenValue) (new : Bool) (after : ScreenValue) : Type 0 where
  pub sized : 0 < rows → 0 < cols → Becomes (screen_after_resize rows cols before) old before new after
  pub no_rows : rows ≡ 0 → Stays old before new after
  pub no_cols : cols ≡ 0 → Stays old before new after

abbrev pub Resizes : CallValue → Bool → ScreenValue → Bool → ScreenValue → Type 0
Resizes (Resize rows cols) old before new after = Obeys rows cols old before new after
Resizes _ old before new after = Stays old before new after

-- An audible bell swaps the screen with the screen stored in the callbacks.
abbrev pub Exchanges : CallValue → ScreenValue → ScreenValue → ScreenValue → ScreenValue → Type 0
Exchanges AudibleBell kept before new after = (new ≡ before) × (after ≡ kept)
Exchanges _ kept before new after = Stays kept before new after

-- An audible bell sets the scrollback offset to 1, which displays the newest scrollback row. The callbacks record
-- whether an allocation for scrolling back has ever failed.
abbrev pub LooksBack : CallValue → Bool → ScreenValue → Bool → ScreenValue → Type 0
LooksBack AudibleBell old before new after = Becomes (scrolled_back 1 before) old before new after
LooksBack _ old before new after = Stays old before new after
