-- A marked day counts itself, under both rules.
use Rattle.std.proofs.Common.{◌≡◌, ℕ, zero, suc, ◌+◌, ◌≤◌, Bool, true, List, length, ap, ◌∙◌, arith}
use Rattle.std.proofs.lemmas.Bool.{and_from, lt-ltb}
use Rattle.stage.specs.Laws.{MarkedDayCounts}
use Rattle.stage.specs.Marked.{on_day}
use Rattle.stage.specs.Rules.{days_where, in_window, rolling, in_run, run_on, run}
use Rattle.stage.specs.LawProofs.Counts.{one_if}
use Rattle.stage.specs.LawProofs.Gaps.{run_at_end}

last_counts : (test : ℕ → Bool) (n : ℕ) → 1 ≤ n → test n ≡ true → 1 ≤ days_where test n
unfolding days_where
last_counts test zero l e = absurd (omega arith)
last_counts test (suc n) l e = omega (arith, ap one_if e)

some_day_last : (xs : List Bool) (n : ℕ) → on_day xs n ≡ true → 1 ≤ n
some_day_last xs zero e = absurd (cc)
some_day_last xs (suc n) e = omega arith

in_rolling : (w : ℕ) (xs : List Bool) → 1 ≤ w → on_day xs (length xs) ≡ true → 1 ≤ rolling w xs
unfolding rolling in_window
in_rolling w xs l e =
    last_counts (in_window w xs (length xs)) (length xs) (some_day_last xs (length xs) e)
    (and_from (on_day xs (length xs)) _ e (lt-ltb (length xs) (length xs + w) (omega arith)))

in_run_last : (w : ℕ) (xs : List Bool) → 1 ≤ w → on_day xs (length xs) ≡ true → 1 ≤ run w xs
unfolding run run_on
in_run_last w xs l e =
    last_counts (in_run w xs (length xs)) (length xs) (some_day_last xs (length xs) e) (run_at_end w xs (length xs) (omega arith) ∙ e)

pub marked_day_counts : MarkedDayCounts
marked_day_counts w xs l e = (in_rolling w xs l e, in_run_last w xs l e)
