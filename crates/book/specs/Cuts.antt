-- What advance does.
use Rattle.std.specs.Prelude.{ℕ, ◌+◌, Bool, List, [], ◌∷◌, ◌++◌, map}
use Rattle.std.specs.Result.{result_and}
use Rattle.std.specs.List.{range_with_len}
use Rattle.forms.specs.declared.fault.Fault.TheVariants.{WrongPhase}
use Rattle.forms.specs.Figures.{RateFigures}
use Rattle.forms.specs.Checks.{Verdict, refuse_if, if_passed}
use Rattle.settlement.specs.declared.phase.Phase.{Phase}
use Rattle.settlement.specs.declared.phase.Phase.TheVariants.{Ahead, Near, After}
use Rattle.settlement.specs.Positions.{excess_by}
use Rattle.settlement.specs.Amounts.{is_marked, row_for, penalty}
use Rattle.book.specs.Queries.{day_check}
use Rattle.book.specs.States.{State, GroupState, size, kept, is_after, day_quarters, statements}

-- E of the current day
abbrev pub excess_today : State → List ℕ → ℕ → ℕ
excess_today s sheet a = excess_by s.terms (statements s sheet) a (day_quarters s)

-- a group once its day's excess is known: one mark more, its penalty by the stage that the rule gives to the marks
abbrev pub charged : (List Bool → ℕ) → List RateFigures → GroupState → ℕ → GroupState
charged m tariff k E =
    let marks = k.marks ++ is_marked E ∷ [] in
    let due = penalty (row_for tariff (m marks)) E in
    record { version = k.version; marks = marks; due = due; penalties = k.penalties + due; balance = k.balance }

-- group a past the cut-off of the current day
unfoldable pub past_cut_off : (List Bool → ℕ) → State → List ℕ → ℕ → GroupState
past_cut_off m s sheet a = charged m s.terms.tariff (kept s a) (excess_today s sheet a)

-- the cut-off: mark, stage and penalty of each group are fixed
unfoldable pub cut_off : (List Bool → ℕ) → State → List ℕ → State
cut_off m s sheet = record {
  terms = s.terms;
  closed = s.closed;
  phase = After;
  sent = s.sent;
  groups = map (past_cut_off m s sheet) (range_with_len 0 (size s));
}

abbrev pub in_phase : State → Phase → State
in_phase s p = record { terms = s.terms; closed = s.closed; phase = p; sent = s.sent; groups = s.groups }

abbrev pub next_phase : (List Bool → ℕ) → State → List ℕ → Phase → State
next_phase m s sheet Ahead = in_phase s Near
next_phase m s sheet Near = cut_off m s sheet
next_phase m s sheet After = s

abbrev pub advance_check : State → List ℕ → Verdict
advance_check s sheet =
    result_and (refuse_if (is_after s.phase) WrongPhase) (day_check s sheet)

-- what advance answers, and the state after it
abbrev pub advanced : (List Bool → ℕ) → State → List ℕ → Verdict × State
advanced m s sheet = (advance_check s sheet, if_passed (advance_check s sheet) (next_phase m s sheet s.phase) s)
