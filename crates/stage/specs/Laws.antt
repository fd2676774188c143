-- The laws of stages, and what holds of both rules.
use Rattle.std.specs.Prelude.{◌≡◌, ℕ, ◌≤◌, Bool, true, List, length}
use Rattle.forms.specs.Calendar.{year_days}
use Rattle.stage.specs.Marked.{on_day, Under}
use Rattle.stage.specs.Rules.{Meaning, rolling, run}

-- over the marks of a year at most, no stage is more than a year has days
abbrev pub Bounded : Meaning → Type 0
Bounded m = (xs : List Bool) → length xs ≤ year_days → m xs ≤ year_days

-- and marking more of the same days never lowers it
abbrev pub Monotone : Meaning → Type 0
Monotone m = (xs ys : List Bool) → length xs ≤ year_days → Under xs ys → m xs ≤ m ys

-- a marked day has stage 1 or more, since it counts itself
abbrev pub MarkedDayCounts : Type 0
MarkedDayCounts = (w : ℕ) (xs : List Bool) → 1 ≤ w → on_day xs (length xs) ≡ true → (1 ≤ rolling w xs) × (1 ≤ run w xs)
