use Rattle.std.proofs.Common.{◌≡◌, ℕ, ◌+◌, ◌*◌, ◌≤◌, map, length, get_or, take}
use Rattle.std.specs.List.{range_with_len}
use Rattle.book.specs.Closes.{closed_group}
use Rattle.book.specs.Kept.{days_in, penalties_in, balance_in, most_penalty, most_balance}
use Rattle.book.specs.Rows.{balance_in_row}
use Rattle.book.specs.States.{state_of, account_of}
use Rattle.book.proofs.closing_day.ClosingDay.next_day.Given as goal

abbrev pub invariant-loop-a : goal.invariant-loop-a
invariant-loop-a l =
    (length l.accounts ≡ 16)
    × (map account_of (take l.a l.accounts) ≡ map (closed_group (state_of l.self.day.ledger.now) (balance_in_row l.rows)) (range_with_len 0 l.a))
    × ((k : ℕ) → get_or (map days_in l.accounts) k 0 ≤ l.self.day.ledger.now.closed + 1)
    × ((k : ℕ) → get_or (map penalties_in l.accounts) k 0 ≤ (l.self.day.ledger.now.closed + 1) * most_penalty)
    × ((k : ℕ) → get_or (map balance_in l.accounts) k 0 ≤ (l.self.day.ledger.now.closed + 1) * most_balance)
