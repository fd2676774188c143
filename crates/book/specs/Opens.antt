-- What open does, and what a place holds.
use Rattle.std.specs.Prelude.{ℕ, false, not, List, length, replicate, Some, Option}
use Rattle.std.specs.Option.{option_map}
use Rattle.std.specs.Result.{result_and}
use Rattle.forms.specs.declared.fault.Fault.TheVariants.{WrongBuffer}
use Rattle.forms.specs.Checks.{Verdict, refuse_if, if_passed}
use Rattle.forms.specs.Figures.{Terms, group_count}
use Rattle.forms.specs.Openings.{sizes_check, rows_check, groups_told, terms_of}
use Rattle.settlement.specs.declared.phase.Phase.TheVariants.{Ahead}
use Rattle.book.specs.declared.opened.Opened.{Opened}
use Rattle.book.specs.Sheets.{sheet_fits}
use Rattle.book.specs.States.{State, nothing_kept, state_of}
use Rattle.book.specs.Sheets.{all_flags}

-- a new book under these terms: day 1, ahead, no marks, no totals, nothing sent
unfoldable pub new_book : Terms → State
new_book terms = record {
  terms = terms;
  closed = 0;
  phase = Ahead;
  sent = replicate all_flags false;
  groups = replicate (group_count terms) nothing_kept;
}

-- what a place holds: nothing, or a rule and a state
abbrev pub held_in : {R : Type 0} → Option (Opened R) → Option (R × State)
held_in place = option_map (λ b. (b.rule, state_of b.ledger)) place

abbrev pub open_check : List ℕ → List ℕ → Verdict
open_check form sheet =
    result_and (sizes_check form)
    (result_and (refuse_if (not (sheet_fits (groups_told form) sheet)) WrongBuffer) (rows_check form))

-- what open answers, what the place holds then, and the sheet: zero everywhere
abbrev pub opened_by : {R : Type 0} → Option (R × State) → R → List ℕ → List ℕ → Verdict × Option (R × State) × List ℕ
opened_by place rule form sheet = (
  open_check form sheet,
  if_passed (open_check form sheet) (Some (rule, new_book (terms_of form))) place,
  if_passed (open_check form sheet) (replicate (length sheet) 0) sheet,
)
