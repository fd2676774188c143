-- When the sheet that is handed in fits the book.
use Rattle.std.specs.Prelude.{ℕ, ◌*◌, Bool, ◌&&◌, List, length, ◌==◌, nat_le}
use Rattle.std.specs.List.{list_all}
use Rattle.forms.specs.Bounds.{most_groups, power_bound}
use Rattle.forms.specs.Slots.{slots}
use Rattle.settlement.specs.Sheets.{sheet_size}

-- no word is above the bound on powers
unfoldable pub all_powers : List ℕ → Bool
all_powers words = list_all (λ w. nat_le w power_bound) words

-- a sheet for g groups: its length, and each of its words
abbrev pub sheet_fits : ℕ → List ℕ → Bool
sheet_fits g sheet = length sheet == sheet_size g && all_powers sheet

-- the flags of the slots of as many groups as there may be
abbrev pub all_flags : ℕ
all_flags = most_groups * slots most_groups
