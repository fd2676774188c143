use Rattle.std.proofs.Common.{◌≡◌, ℕ, ◌<◌, ◌≤◌, map, get_or, take}
use Rattle.std.specs.List.{range_with_len}
use Rattle.book.specs.Closes.{day_row}
use Rattle.book.specs.Kept.{most_balance}
use Rattle.book.specs.Rows.{row_of, amount_in}
use Rattle.book.specs.States.{state_of}
use Rattle.book.proofs.closing_day.ClosingDay.fill_rows.Given as goal

abbrev pub invariant-loop-a : goal.invariant-loop-a
invariant-loop-a g l =
    (map row_of (take l.a l.rows) ≡ map (day_row (g.R.StageRule.meaning l.rule) (state_of l.self.day.ledger.now) l.self.day.sheet.now l.self.form.bytes.now) (range_with_len 0 l.a))
    × ((k : ℕ) → k < l.a → get_or (map amount_in l.rows) k 0 ≤ most_balance)
