-- The account as it is reckoned from a journal: groups and quarter hours count from 0, days from 1.
use Rattle.std.specs.Prelude.{ℕ, ◌+◌, Bool, List, map, ℤ, Option}
use Rattle.std.specs.List.{range_with_len}
use Rattle.forms.specs.Calendar.{quarters}
use Rattle.forms.specs.Figures.{Terms, group_count, figures_at}
use Rattle.stage.specs.Rules.{Meaning}
use Rattle.settlement.specs.Amounts.{is_marked, row_for, penalty, balance_by}
use Rattle.settlement.specs.Positions.{confirmed_open, beyond_by, excess_by}
use Rattle.settlement.specs.Sums.{sumℕ, sumℤ}
use Rattle.book.specs.Rows.{Row}
use Rattle.book.specs.Tallies.{tally}
use Rattle.journal.specs.Journals.{Journal, closes, cut_offs, today, phase, at_cut_off, at_close, closing_form, says}

-- group a's confirmed open position at the cut-off of a day, in quarter hour t
abbrev pub open_at : Terms → Journal → ℕ → ℕ → ℕ → ℤ
open_at terms j a day t = confirmed_open (says (at_cut_off day j)) (figures_at terms a) (group_count terms) t a

-- E of a day, whether the day is marked, and the marks of days 1 to a day
unfoldable pub excess_on : Terms → Journal → ℕ → ℕ → ℕ
excess_on terms j a day = excess_by terms (says (at_cut_off day j)) a (quarters day)

abbrev pub mark : Terms → Journal → ℕ → ℕ → Bool
mark terms j a day = is_marked (excess_on terms j a day)

unfoldable pub marks_to : Terms → Journal → ℕ → ℕ → List Bool
marks_to terms j a day = map (λ k. mark terms j a (k + 1)) (range_with_len 0 day)

-- the stage and the penalty of a day, and the penalties of all cut-offs
abbrev pub stage : Meaning → Terms → Journal → ℕ → ℕ → ℕ
stage m terms j a day = m (marks_to terms j a day)

unfoldable pub penalty_on : Meaning → Terms → Journal → ℕ → ℕ → ℕ
penalty_on m terms j a day = penalty (row_for terms.tariff (stage m terms j a day)) (excess_on terms j a day)

unfoldable pub penalties : Meaning → Terms → Journal → ℕ → ℕ
penalties m terms j a = sumℕ (λ k. penalty_on m terms j a (k + 1)) (cut_offs j)

-- the balance amount of a day, by its closing form, and of all closes
unfoldable pub balance_on : Terms → Journal → ℕ → ℕ → ℤ
balance_on terms j a day = balance_by (says (at_close day j)) (group_count terms) (closing_form day j) a (quarters day)

unfoldable pub balance : Terms → Journal → ℕ → ℤ
balance terms j a = sumℤ (λ k. balance_on terms j a (k + 1)) (closes j)

-- the row of group a for a day
unfoldable pub row : Meaning → Terms → Journal → ℕ → ℕ → Row
row m terms j day a = record {
  day = day;
  group = a + 1;
  mark = mark terms j a day;
  stage = stage m terms j a day;
  penalty = penalty_on m terms j a day;
  balance = balance_on terms j a day;
}

-- a quarter hour in which group a's open position, as it stands stated, is beyond the limit of the phase
abbrev pub beyond : Terms → Journal → ℕ → ℕ → Bool
beyond terms j a t = beyond_by terms (says j) (phase j) a t

-- how many there are, and the first, from 1
unfoldable pub count_beyond : Terms → Journal → ℕ → ℕ × Option ℕ
count_beyond terms j a = tally (beyond terms j a) (quarters (today j))
