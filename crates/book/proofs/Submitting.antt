-- The outcome of a message, once its tests have passed.
use Rattle.std.proofs.Common.{◌≡◌, ℕ, ◌-◌, true, eqb, List, length, Ok, Option, Result}
use Rattle.std.proofs.lemmas.Bool.{and_parts, eqb-true}
use Rattle.settlement.specs.Sheets.{sheet_size}
use Rattle.forms.specs.Checks.{verdict, refuse_if}
use Rattle.forms.specs.declared.fault.Fault.TheVariants.{WrongPhase, WrongBuffer}
use Rattle.forms.proofs.Firsts.{passed_left, passed_right, allowed}
use Rattle.message.specs.Form.{header_of}
use Rattle.book.specs.Queries.{day_check}
use Rattle.book.specs.Sheets.{all_powers, sheet_fits}
use Rattle.forms.specs.declared.fault.Fault.{Fault}
use Rattle.message.specs.Form.{said}
use Rattle.book.specs.Messages.{submit_check, submitted, beyond_count, state_with, sheet_after}
use Rattle.book.specs.States.{State, size, day_quarters, year_over}

pub submit_accepted : (s : State) (sheet form : List ℕ) (x : ℕ × Option ℕ) (after : State) (left : List ℕ) → submit_check s sheet form ≡ Ok tt
    → x ≡ beyond_count s ((said form).group - 1) form
    → after ≡ state_with s ((said form).group - 1) (said form).version form
    → left ≡ sheet_after (size s) (day_quarters s) ((said form).group - 1) form sheet
    → ◌≡◌ {A = Result (ℕ × Option ℕ) Fault × State × List ℕ} (Ok x, after, left) (submitted s sheet form)
submit_accepted s sheet form x after left h a b c = rw h (λ j. (Ok (a j), b j, c j))

-- the sheet of a message that has passed all tests fits the book
pub sheet_passed : (s : State) (sheet form : List ℕ) → submit_check s sheet form ≡ Ok tt → (length sheet ≡ sheet_size (size s)) × (all_powers sheet ≡ true)
sheet_passed s sheet form h =
    let day = passed_left (day_check s sheet) _ (passed_right (verdict (header_of (day_quarters s) form)) _ h) in
    let fits : sheet_fits (size s) sheet ≡ true = allowed _ WrongBuffer (passed_right (refuse_if (year_over s) WrongPhase) _ day) in
    let parts = and_parts (eqb (length sheet) (sheet_size (size s))) (all_powers sheet) fits in
    (eqb-true _ _ parts.0, parts.1)
