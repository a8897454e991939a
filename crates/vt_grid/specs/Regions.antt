-- The scroll region (VT510 manual: DECSTBM).
use Rattle.std.specs.Prelude.{ℕ, ◌-◌, ◌&&◌, nat_le, nat_lt, Bool, length, min, if◌then◌else◌}
use Rattle.vt_grid.specs.Page.{Page}

-- The cursor is in the scroll region.
abbrev pub in_region : Page → Bool
in_region page = nat_le page.top page.row && nat_le page.row page.bottom

-- The index of the last row of a page.
abbrev pub last_row : Page → ℕ
last_row page = length page.rows - 1

-- `region_set top bottom page` is the page after its scroll region is set to rows `top` to `bottom` (DECSTBM). `bottom`
-- is clamped to the last row; if the range then has fewer than two rows, the region becomes the whole page. The cursor
-- moves to the first column of the region's first row.
unfoldable pub region_set : ℕ → ℕ → Page → Page
region_set top bottom page =
    if nat_lt top (min bottom (last_row page))
    then record page { top = top; bottom = min bottom (last_row page); row = top; column = 0 }
    else record page { top = 0; bottom = last_row page; row = 0; column = 0 }
