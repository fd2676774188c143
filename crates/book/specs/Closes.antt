-- What close does.
use Rattle.std.specs.Prelude.{◌≡◌, ℕ, ◌+◌, Bool, false, not, List, map, length, replicate, ℤ, ◌+ℤ◌, Ok, ◌==◌}
use Rattle.std.specs.Result.{result_and}
use Rattle.std.specs.List.{range_with_len}
use Rattle.forms.specs.declared.fault.Fault.TheVariants.{WrongPhase, WrongBuffer}
use Rattle.forms.specs.Checks.{Verdict, refuse_if, if_passed}
use Rattle.forms.specs.Closings.{ClosingFormed, closing_sizes, closing_check, feed_in, long_price, short_price}
use Rattle.stage.specs.Marked.{on_day}
use Rattle.settlement.specs.declared.phase.Phase.TheVariants.{Ahead}
use Rattle.settlement.specs.Amounts.{quarter_cost, balance_by}
use Rattle.book.specs.Rows.{Row}
use Rattle.book.specs.Queries.{day_check}
use Rattle.book.specs.States.{State, GroupState, size, kept, today, day_quarters, statements, is_after}
use Rattle.book.specs.Sheets.{all_flags}

-- What the caller lends a call.
pub record Lent : Type 0 where
  pub sheet : List ℕ
  pub rows : List Row

-- a closing form of the book's groups and the day's quarter hours that has passed its own checks
pub record Closing (s : State) (g q : ℕ) (form : List ℕ) : Type 0 where
  pub groups : g ≡ size s
  pub quarters : q ≡ day_quarters s
  pub formed : ClosingFormed g q form
  pub lawful : closing_check g q form ≡ Ok tt

-- what a group's imbalance of a quarter hour of the current day costs, by the closing form
unfoldable pub quarter_today : State → List ℕ → List ℕ → ℕ → ℕ → ℤ
quarter_today s sheet form a t =
    quarter_cost (statements s sheet) (size s) a (feed_in (day_quarters s) form a)
    (long_price (size s) (day_quarters s) form) (short_price (size s) (day_quarters s) form) t

-- the balance amount of the current day
unfoldable pub balance_today : State → List ℕ → List ℕ → ℕ → ℤ
balance_today s sheet form a = balance_by (statements s sheet) (size s) form a (day_quarters s)

-- the result row of a group: mark, stage and penalty as fixed at the cut-off, and a balance amount
abbrev pub row_with : (List Bool → ℕ) → State → ℕ → ℤ → Row
row_with m s a balance = record {
  day = today s;
  group = a + 1;
  mark = on_day (kept s a).marks (today s);
  stage = m (kept s a).marks;
  penalty = (kept s a).due;
  balance = balance;
}

unfoldable pub day_row : (List Bool → ℕ) → State → List ℕ → List ℕ → ℕ → Row
day_row m s sheet form a = row_with m s a (balance_today s sheet form a)

-- a group when its day is closed, by the day's balance amount
abbrev pub day_done : GroupState → ℤ → GroupState
day_done k amount = record { version = 0; marks = k.marks; due = 0; penalties = k.penalties; balance = k.balance +ℤ amount }

unfoldable pub closed_group : State → (ℕ → ℤ) → ℕ → GroupState
closed_group s amounts a = day_done (kept s a) (amounts a)

-- the next day, ahead, with nothing sent, by the balance amount of each group
unfoldable pub day_closed : State → (ℕ → ℤ) → State
day_closed s amounts = record {
  terms = s.terms;
  closed = s.closed + 1;
  phase = Ahead;
  sent = replicate all_flags false;
  groups = map (closed_group s amounts) (range_with_len 0 (size s));
}

unfoldable pub day_rows : (List Bool → ℕ) → State → List ℕ → List ℕ → List Row
day_rows m s sheet form = map (day_row m s sheet form) (range_with_len 0 (size s))

-- the tests of a closing form, in rising number; rows is how many result rows are lent
abbrev pub close_check : State → List ℕ → ℕ → List ℕ → Verdict
close_check s sheet rows form =
    result_and (closing_sizes (size s) (day_quarters s) form)
    (result_and (refuse_if (not (is_after s.phase)) WrongPhase)
    (result_and (day_check s sheet)
    (result_and (refuse_if (not (rows == size s)) WrongBuffer) (closing_check (size s) (day_quarters s) form))))

-- what close answers, the state after it, and what it leaves in what was lent
abbrev pub closed_by : (List Bool → ℕ) → State → Lent → List ℕ → Verdict × State × Lent
closed_by m s lent form =
    let check = close_check s lent.sheet (length lent.rows) form in (
      check,
      if_passed check (day_closed s (balance_today s lent.sheet form)) s,
      if_passed check (record { sheet = replicate (length lent.sheet) 0; rows = day_rows m s lent.sheet form }) lent,
    )

-- the same, but for the sheet
abbrev pub closed_but_sheet : (List Bool → ℕ) → State → Lent → List ℕ → Verdict × State × List Row
closed_but_sheet m s lent form = let closed = closed_by m s lent form in (closed.0, closed.1, closed.2.rows)
