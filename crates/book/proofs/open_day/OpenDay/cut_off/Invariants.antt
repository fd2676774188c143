use Rattle.std.proofs.Common.{◌≡◌, ◌+◌, ◌++◌, map, take, drop}
use Rattle.std.specs.List.{range_with_len}
use Rattle.book.specs.Cuts.{past_cut_off}
use Rattle.book.specs.States.{state_of, size, account_of}
use Rattle.book.proofs.Accounts.{Within}
use Rattle.book.proofs.open_day.OpenDay.cut_off.Given as goal

abbrev pub invariant-loop-a : goal.invariant-loop-a
invariant-loop-a g l =
    (map account_of (take l.a l.account-items) ≡ map (past_cut_off (g.R.StageRule.meaning l.rule) (state_of l.self.ledger.now) l.self.sheet.now) (range_with_len 0 l.a))
    × Within (l.self.ledger.now.closed + 1) l.self.ledger.now.closed (l.account-items ++ drop (size (state_of l.self.ledger.now)) l.self.ledger.now.accounts)
