-- Which series of a message is about what, and the values that the message states.
use Rattle.std.specs.Prelude.{◌≡◌, ℕ, zero, suc, ◌<◌, Bool, true, false, cond, ◌&&◌, List, is_some, Some, None, Option, ◌==◌, slice_index_or}
use Rattle.std.specs.Option.{option_or, option_map_or}
use Rattle.forms.specs.Slots.{Slot, kind_of, counter_of, slot_number, Within}
use Rattle.message.specs.Form.{series_count, kind_at, counter_at, value_at}

-- the first of 0, 1, .., n - 1 that meets the test
unfoldable pub first_of : (ℕ → Bool) → ℕ → Option ℕ
first_of test zero = None
first_of test (suc n) = option_or (first_of test n) (cond (test n) (Some n) None)

-- What that says: the place found meets the test and none before it does; where none is found, none does.
abbrev pub IsFirst : (ℕ → Bool) → ℕ → Option ℕ → Type 0
IsFirst test n (Some i) = (i < n) × (test i ≡ true) × ((k : ℕ) → k < i → test k ≡ false)
IsFirst test n None = (k : ℕ) → k < n → test k ≡ false

-- the head of series i has this kind and counter
abbrev pub head_is : List ℕ → ℕ → ℕ → ℕ → Bool
head_is s kind counter i = kind_at s i == kind && counter_at s i == counter

-- the first series with a head of this kind and counter
unfoldable pub place_under : List ℕ → ℕ → ℕ → Option ℕ
place_under s kind counter = first_of (head_is s kind counter) (series_count s)

-- the first series that is about this slot
abbrev pub place_of : List ℕ → Slot → Option ℕ
place_of s slot = place_under s (kind_of slot) (counter_of slot)

-- a list, by the slots' numbers among g groups, of the first series about each slot
abbrev pub ListsPlaces : ℕ → List ℕ → List (Option ℕ) → Type 0
ListsPlaces g s places = (slot : Slot) → Within g slot → slice_index_or places (slot_number g slot) None ≡ place_of s slot

-- the message has a series about this slot
abbrev pub sent_in : List ℕ → Slot → Bool
sent_in s slot = is_some (place_of s slot)

-- the value at t of the series under this head, 0 where the message has none
unfoldable pub value_under : ℕ → List ℕ → ℕ → ℕ → ℕ → ℕ
value_under q s kind counter t = option_map_or (λ i. value_at q s i t) (place_under s kind counter) 0

-- what the message states for this slot at t, 0 where it has no such series
abbrev pub stated : ℕ → List ℕ → Slot → ℕ → ℕ
stated q s slot t = value_under q s (kind_of slot) (counter_of slot) t
