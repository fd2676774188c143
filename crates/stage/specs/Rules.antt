-- What the two rules count, in the marks xs of the days from day 1 to the given day, which is the last of xs.
use Rattle.std.specs.Prelude.{ℕ, zero, suc, ◌+◌, Bool, false, cond, not, ◌&&◌, ◌||◌, List, length, nat_le, nat_lt}
use Rattle.stage.specs.Marked.{on_day}

-- a stage rule by its meaning: the stage that it makes of marks
abbrev pub Meaning : Type 0
Meaning = List Bool → ℕ

-- how many of the days 1 to n pass a test
unfoldable pub days_where : (ℕ → Bool) → ℕ → ℕ
days_where test zero = 0
days_where test (suc n) = days_where test n + cond (test (suc n)) 1 0

-- whether one of the days 1 to n passes it
unfoldable pub some_day : (ℕ → Bool) → ℕ → Bool
some_day test zero = false
some_day test (suc n) = test (suc n) || some_day test n

-- day d, one of the days up to day n, is marked, and is day n or one of the w - 1 days before it
unfoldable pub in_window : ℕ → List Bool → ℕ → ℕ → Bool
in_window w xs n d = on_day xs d && nat_lt n (d + w)

-- the count of marked days among the given day and the w - 1 days before it
unfoldable pub rolling : ℕ → List Bool → ℕ
rolling w xs = days_where (in_window w xs (length xs)) (length xs)

-- the w days that follow day s are unmarked, and the last of them is no later than day n
unfoldable pub unmarked_after : ℕ → List Bool → ℕ → ℕ → Bool
unmarked_after w xs n s = nat_le (s + w) n && not (some_day (λ k. on_day xs (s + k)) w)

-- w consecutive unmarked days lie after day d, up to and including day n
unfoldable pub gap_after : ℕ → List Bool → ℕ → ℕ → Bool
gap_after w xs n d = some_day (λ s. nat_le d s && unmarked_after w xs n s) n

-- day d is marked, and no such gap lies after it
unfoldable pub in_run : ℕ → List Bool → ℕ → ℕ → Bool
in_run w xs n d = on_day xs d && not (gap_after w xs n d)

-- the count of marked days d such that no w consecutive unmarked days lie after d, up to and including day n
unfoldable pub run_on : ℕ → List Bool → ℕ → ℕ
run_on w xs n = days_where (in_run w xs n) n

-- the same up to and including the given day
unfoldable pub run : ℕ → List Bool → ℕ
run w xs = run_on w xs (length xs)
