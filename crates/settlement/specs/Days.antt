-- The trades of a whole day, as two lists of sums.
use Rattle.std.specs.Prelude.{◌≡◌, ℕ, ◌+◌, ◌^◌, ◌<◌, ◌≤◌, List, [], length, replicate, ℤ, pos, ◌-ℤ◌, slice_index, slice_index_or}
use Rattle.forms.specs.Bounds.{most_groups}
use Rattle.settlement.specs.Sheets.{words_per_slot}

-- what is taken less what is given, in quarter hour t
abbrev pub day_net : List ℕ → List ℕ → ℕ → ℤ
day_net taken given t = pos (slice_index taken t) -ℤ pos (slice_index given t)

-- a list of sums that has room for a slot's words
abbrev pub HasRoom : List ℕ → Type 0
HasRoom sums = (length sums ≡ words_per_slot) × ((t : ℕ) → slice_index sums t ≤ 2 ^ 30)

-- the sums after it are as many, and none has grown by more than a word
abbrev pub GrowsAtMostAWord : List ℕ → List ℕ → Type 0
GrowsAtMostAWord sums after = (length after ≡ length sums) × ((t : ℕ) → slice_index after t ≤ slice_index sums t + 2 ^ 24)

-- in the first q quarter hours these words are added
abbrev pub Adds : ℕ → (ℕ → ℕ) → List ℕ → List ℕ → Type 0
Adds q words sums after = (t : ℕ) → t < q → slice_index after t ≡ slice_index sums t + words t

-- of lists of sums for each group, the one of group a
abbrev pub sums_of : List (List ℕ) → ℕ → List ℕ
sums_of lists a = slice_index_or lists a []

-- of every group, nothing yet
abbrev pub AreBlank : List (List ℕ) → Type 0
AreBlank lists = lists ≡ replicate most_groups (replicate words_per_slot 0)
