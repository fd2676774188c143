-- How far a book has come, and how large its totals can be by then.
use Rattle.std.specs.Prelude.{ℕ, ◌+◌, unsigned_abs}
use Rattle.settlement.specs.declared.phase.Phase.{Phase}
use Rattle.settlement.specs.declared.phase.Phase.TheVariants.{Ahead, Near, After}
use Rattle.book.specs.declared.group_account.GroupAccount.{GroupAccount}

-- the days past their cut-off, of so many closed days and in this phase of the next
abbrev pub cut_offs : ℕ → Phase → ℕ
cut_offs closed Ahead = closed
cut_offs closed Near = closed
cut_offs closed After = closed + 1

-- no day's penalty, and no day's balance amount, is above these, each 2 ^ 52
abbrev pub most_penalty : ℕ
most_penalty = 4503599627370496

abbrev pub most_balance : ℕ
most_balance = 4503599627370496

abbrev pub days_in : GroupAccount → ℕ
days_in a = a.marks.days

abbrev pub penalties_in : GroupAccount → ℕ
penalties_in a = a.penalties

abbrev pub balance_in : GroupAccount → ℕ
balance_in a = unsigned_abs a.balance
