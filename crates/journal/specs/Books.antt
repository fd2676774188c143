-- What a journal of a book is: each call works on that book, its rule and, unless it is refused, on the sheet given to open.
use Rattle.std.specs.Prelude.{◌≡◌, ℕ, List, [], ◌∷◌, length, Some, Ok, Option, OnOk}
use Rattle.book.specs.Closes.{closed_by}
use Rattle.book.specs.Cuts.{advanced}
use Rattle.book.specs.Messages.{submitted}
use Rattle.book.specs.Opens.{opened_by}
use Rattle.book.specs.Queries.{position_answer, trade_answer, standing_answer, total_answer}
use Rattle.forms.specs.Checks.{answer_if, if_passed}
use Rattle.book.specs.Rows.{Row}
use Rattle.book.specs.States.{State}
use Rattle.journal.specs.Journals.{Entry, submit, advance, close, position_asked, trade, standing, total, Journal}
use Rattle.stage.specs.Rules.{Meaning}

-- book and sheet are as they were: so a question leaves them
pub record Unchanged (s : State) (w : List ℕ) (after : State) (left : List ℕ) : Type 0 where
  pub book : after ≡ s
  pub sheet : left ≡ w

-- Book and sheet before an entry, and after it. An accepted call had the book's own sheet; a refused one may have had another.
-- Answers and outcomes are those that the calls' contracts cite; only an accepted message or close has changed the sheet. What
-- stood in the rows that a close was lent has no part in it.
abbrev pub Stepped : Meaning → Entry → State → List ℕ → State → List ℕ → Type 0
Stepped m (submit form given answer) s w after left =
    let o = submitted s given form in
    OnOk answer (given ≡ w) × (answer ≡ o.0) × (after ≡ o.1) × (left ≡ if_passed answer o.2 w)
Stepped m (advance given answer) s w after left =
    let o = advanced m s given in
    OnOk answer (given ≡ w) × (answer ≡ o.0) × (after ≡ o.1) × (left ≡ w)
Stepped m (close form given rows answer) s w after left =
    (lent : List Row)
    × (let o = closed_by m s (record { sheet = given; rows = lent }) form in
    OnOk answer (given ≡ w) × (length lent ≡ rows) × (answer ≡ answer_if o.0 o.2.rows) × (after ≡ o.1) × (left ≡ if_passed answer o.2.sheet w))
Stepped m (position_asked given group quarter answer) s w after left = OnOk answer (given ≡ w) × (answer ≡ position_answer s given group quarter) × Unchanged s w after left
Stepped m (trade given from to quarter answer) s w after left = OnOk answer (given ≡ w) × (answer ≡ trade_answer s given from to quarter) × Unchanged s w after left
Stepped m (standing group day answer) s w after left = (answer ≡ standing_answer m s group day) × Unchanged s w after left
Stepped m (total group answer) s w after left = (answer ≡ total_answer s group) × Unchanged s w after left

-- The journal brings a book opened by this form, under a rule of this meaning, to this state with this sheet; whatever the place held before.
abbrev pub Brings : Meaning → List ℕ → Journal → State → List ℕ → Type 0
Brings m form [] s w = (place : Option (Meaning × State)) × (given : List ℕ) × (opened_by place m form given ≡ (Ok tt, Some (m, s), w))
Brings m form (e ∷ j) s w = (before : State) × (sheet : List ℕ) × Brings m form j before sheet × Stepped m e before sheet s w

abbrev pub JournalOf : Meaning → List ℕ → Journal → Type 0
JournalOf m form j = (s : State) × (w : List ℕ) × Brings m form j s w
