-- What each call makes of a place, empty or with a book. A call on an empty place is refused, ahead of every other test.
use Rattle.std.specs.Prelude.{ℕ, Bool, List, ℤ, Some, None, Err, Option, Result}
use Rattle.std.specs.Option.{option_map_or}
use Rattle.forms.specs.declared.fault.Fault.{Fault}
use Rattle.forms.specs.declared.fault.Fault.TheVariants.{WrongPhase}
use Rattle.forms.specs.Checks.{Verdict}
use Rattle.book.specs.Closes.{Lent, closed_by}
use Rattle.book.specs.Cuts.{advanced}
use Rattle.book.specs.Messages.{submitted}
use Rattle.book.specs.Queries.{position_answer, trade_answer, standing_answer, total_answer}
use Rattle.book.specs.Kept.{cut_offs}
use Rattle.book.specs.States.{State, size}

-- a place with its rule and its state, or an empty one
abbrev pub Place : Type 0 → Type 0
Place R = Option (R × State)

abbrev pub submits : {R : Type 0} → Place R → List ℕ → List ℕ → Result (ℕ × Option ℕ) Fault × Place R × List ℕ
submits None sheet form = (Err WrongPhase, None, sheet)
submits (Some p) sheet form = ((submitted p.1 sheet form).0, Some (p.0, (submitted p.1 sheet form).1), (submitted p.1 sheet form).2)

abbrev pub advances : {R : Type 0} → (R → List Bool → ℕ) → Place R → List ℕ → Verdict × Place R
advances m None sheet = (Err WrongPhase, None)
advances m (Some p) sheet = ((advanced (m p.0) p.1 sheet).0, Some (p.0, (advanced (m p.0) p.1 sheet).1))

abbrev pub closes : {R : Type 0} → (R → List Bool → ℕ) → Place R → Lent → List ℕ → Verdict × Place R × Lent
closes m None lent form = (Err WrongPhase, None, lent)
closes m (Some p) lent form =
    ((closed_by (m p.0) p.1 lent form).0, Some (p.0, (closed_by (m p.0) p.1 lent form).1), (closed_by (m p.0) p.1 lent form).2)

abbrev pub asks_position : {R : Type 0} → Place R → List ℕ → ℕ → ℕ → Result (ℤ × ℤ × ℤ) Fault
asks_position None sheet group quarter = Err WrongPhase
asks_position (Some p) sheet group quarter = position_answer p.1 sheet group quarter

abbrev pub asks_trade : {R : Type 0} → Place R → List ℕ → ℕ → ℕ → ℕ → Result ℕ Fault
asks_trade None sheet from to quarter = Err WrongPhase
asks_trade (Some p) sheet from to quarter = trade_answer p.1 sheet from to quarter

abbrev pub asks_standing : {R : Type 0} → (R → List Bool → ℕ) → Place R → ℕ → ℕ → Result (Bool × ℕ) Fault
asks_standing m None group day = Err WrongPhase
asks_standing m (Some p) group day = standing_answer (m p.0) p.1 group day

abbrev pub asks_total : {R : Type 0} → Place R → ℕ → Result (ℕ × ℤ) Fault
asks_total None group = Err WrongPhase
asks_total (Some p) group = total_answer p.1 group

-- how many groups a place has, and how many days past their cut-off
abbrev pub groups_in : {R : Type 0} → Place R → ℕ
groups_in place = option_map_or (λ p. size p.1) place 0

abbrev pub days_cut_in : {R : Type 0} → Place R → ℕ
days_cut_in place = option_map_or (λ p. cut_offs p.1.closed p.1.phase) place 0
