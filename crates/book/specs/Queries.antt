-- What the questions answer. None of them changes anything.
use Rattle.std.specs.Prelude.{◌≡◌, ℕ, ◌-◌, ◌<◌, ◌≤◌, Bool, not, ◌&&◌, List, take, ℤ, Result, ◌==◌}
use Rattle.std.specs.Int.{is_in_range}
use Rattle.std.specs.Result.{result_and, result_map_both}
use Rattle.forms.specs.declared.fault.Fault.{Fault}
use Rattle.forms.specs.declared.fault.Fault.TheVariants.{WrongPhase, WrongBuffer, WrongGroup, WrongDay, OutOfRange}
use Rattle.forms.specs.Checks.{Verdict, refuse_if, answer_if, Finds}
use Rattle.stage.specs.Marked.{on_day}
use Rattle.settlement.specs.Positions.{confirmed, positions_by}
use Rattle.book.specs.declared.answers.Standing.{Standing}
use Rattle.book.specs.declared.answers.Total.{Total}
use Rattle.book.specs.Kept.{cut_offs}
use Rattle.book.specs.Sheets.{sheet_fits}
use Rattle.book.specs.States.{State, size, kept, day_quarters, year_over, statements}

-- a number that passed its check has a place from 0, below n
abbrev pub Numbered : Result ℕ Fault → Verdict → ℕ → ℕ → Type 0
Numbered r check x n = Finds r check (λ place. (place ≡ x - 1) × (1 ≤ x) × (place < n))

-- the book can still be asked of the current day, and the sheet fits it
abbrev pub day_check : State → List ℕ → Verdict
day_check s sheet =
    result_and (refuse_if (year_over s) WrongPhase)
    (refuse_if (not (sheet_fits (size s) sheet)) WrongBuffer)

abbrev pub group_check : State → ℕ → Verdict
group_check s group = refuse_if (not (is_in_range 1 (size s) group)) WrongGroup

abbrev pub quarter_check : State → ℕ → Verdict
quarter_check s quarter = refuse_if (not (is_in_range 1 (day_quarters s) quarter)) (OutOfRange 0 0)

-- Group and quarter hour, from 1: the stated open position, the confirmed one, and the confirmed net purchases.
abbrev pub position_check : State → List ℕ → ℕ → ℕ → Verdict
position_check s sheet group quarter =
    result_and (day_check s sheet)
    (result_and (group_check s group) (quarter_check s quarter))

abbrev pub position_of : State → List ℕ → ℕ → ℕ → ℤ × ℤ × ℤ
position_of s sheet a t = positions_by s.terms (statements s sheet) a t

abbrev pub position_answer : State → List ℕ → ℕ → ℕ → Result (ℤ × ℤ × ℤ) Fault
position_answer s sheet group quarter = answer_if (position_check s sheet group quarter) (position_of s sheet (group - 1) (quarter - 1))

-- the confirmed trade from one group to another
abbrev pub trade_check : State → List ℕ → ℕ → ℕ → ℕ → Verdict
trade_check s sheet from to quarter =
    result_and (day_check s sheet)
    (result_and (refuse_if (not (is_in_range 1 (size s) from && is_in_range 1 (size s) to && not (from == to))) WrongGroup) (quarter_check s quarter))

abbrev pub trade_answer : State → List ℕ → ℕ → ℕ → ℕ → Result ℕ Fault
trade_answer s sheet from to quarter =
    answer_if (trade_check s sheet from to quarter) (confirmed (statements s sheet) (quarter - 1) (from - 1) (to - 1))

-- mark and stage of a group on a day past its cut-off: the stage is the rule's answer to the marks up to that day
abbrev pub standing_check : State → ℕ → ℕ → Verdict
standing_check s group day =
    result_and (group_check s group)
    (refuse_if (not (is_in_range 1 (cut_offs s.closed s.phase) day)) WrongDay)

abbrev pub standing_answer : (List Bool → ℕ) → State → ℕ → ℕ → Result (Bool × ℕ) Fault
standing_answer m s group day =
    answer_if (standing_check s group day) (on_day (kept s (group - 1)).marks day, m (take day (kept s (group - 1)).marks))

-- a group's penalties up to the last cut-off and its balance up to the last close
abbrev pub total_answer : State → ℕ → Result (ℕ × ℤ) Fault
total_answer s group =
    answer_if (group_check s group) ((kept s (group - 1)).penalties, (kept s (group - 1)).balance)

-- the same answers as the code holds them
abbrev pub standing_of : Result Standing Fault → Result (Bool × ℕ) Fault
standing_of r = result_map_both (λ x. (x.mark, x.stage)) (λ e. e) r

abbrev pub total_of : Result Total Fault → Result (ℕ × ℤ) Fault
total_of r = result_map_both (λ x. (x.penalties, x.balance)) (λ e. e) r
