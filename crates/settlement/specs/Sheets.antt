-- The sheet of words: the slots of each group in order.
use Rattle.std.specs.Prelude.{◌≡◌, ℕ, ◌+◌, ◌*◌, ◌≤◌, Bool, false, List, length, Option, slice_index, slice_index_or}
use Rattle.std.specs.Bool.{then_some}
use Rattle.std.specs.Option.{unwrap_or}
use Rattle.forms.specs.Bounds.{most_groups, power_bound}
use Rattle.forms.specs.Slots.{Slot, slots, slot_number, Within}

-- words of a slot, one for each quarter hour of the longest day
abbrev pub words_per_slot : ℕ
words_per_slot = 96

abbrev pub sheet_size : ℕ → ℕ
sheet_size g = g * slots g * words_per_slot

-- the place of slot s of group a in the whole sheet
abbrev pub slot_place : ℕ → ℕ → Slot → ℕ
slot_place g a s = a * slots g + slot_number g s

-- slots of different groups or of different series have different places
abbrev pub SlotsApart : Type 0
SlotsApart = (g a b : ℕ) (r s : Slot) → Within g r → Within g s → slot_place g a r ≡ slot_place g b s → (a ≡ b) × (r ≡ s)

-- what the slot at a place holds at a quarter hour: nothing unless it was sent
abbrev pub held : List Bool → List ℕ → ℕ → ℕ → Option ℕ
held sent words place t = then_some (slice_index_or sent place false) (slice_index words (place * words_per_slot + t))

-- What the groups have sent for a day: of group a, in slot s, at quarter hour t; zero where nothing was sent.
abbrev pub Statements : Type 0
Statements = ℕ → Slot → ℕ → ℕ

-- the statements that stand in a sheet of g groups
unfoldable pub on_sheet : ℕ → List Bool → List ℕ → Statements
on_sheet g sent words a s t = unwrap_or (held sent words (slot_place g a s) t) 0

-- a sheet and its presence flags for g groups, and no word above the bound on powers
pub record SheetOf (g : ℕ) (sent : List Bool) (words : List ℕ) : Type 0 where
  pub few : g ≤ most_groups
  pub flags : g * slots g ≤ length sent
  pub room : length words ≡ sheet_size g
  pub low : (k : ℕ) → slice_index words k ≤ power_bound
