-- Every list of calls on the book's own sheet has exactly one journal.
use Rattle.std.specs.Prelude.{◌≡◌, ℕ, List, [], ◌∷◌, map, Ok}
use Rattle.book.specs.Opens.{open_check}
use Rattle.book.specs.States.{State}
use Rattle.journal.specs.Books.{Brings}
use Rattle.journal.specs.Journals.{Entry, Journal}
use Rattle.stage.specs.Rules.{Meaning}

-- What a call asks for: an entry without its sheet and without its answer.
pub data Call : Type 0 where
  -- the message
  submit : List ℕ → Call
  advance : Call
  -- the closing form, and how many rows are handed in
  close : List ℕ → ℕ → Call
  -- group and quarter hour
  position_asked : ℕ → ℕ → Call
  -- from, to, quarter hour
  trade : ℕ → ℕ → ℕ → Call
  -- group and day
  standing : ℕ → ℕ → Call
  -- group
  total : ℕ → Call

abbrev pub call_of : Entry → Call
call_of (Entry.submit form sheet answer) = submit form
call_of (Entry.advance sheet answer) = advance
call_of (Entry.close form sheet rows answer) = close form rows
call_of (Entry.position_asked sheet group quarter answer) = position_asked group quarter
call_of (Entry.trade sheet from to quarter answer) = trade from to quarter
call_of (Entry.standing group day answer) = standing group day
call_of (Entry.total group answer) = total group

-- the sheet that was handed in, where a call has one, is this
abbrev pub Handed : Entry → List ℕ → Type 0
Handed (Entry.submit form sheet answer) own = sheet ≡ own
Handed (Entry.advance sheet answer) own = sheet ≡ own
Handed (Entry.close form sheet rows answer) own = sheet ≡ own
Handed (Entry.position_asked sheet group quarter answer) own = sheet ≡ own
Handed (Entry.trade sheet from to quarter answer) own = sheet ≡ own
Handed (Entry.standing group day answer) own = Unit {0}
Handed (Entry.total group answer) own = Unit {0}

-- each call, refused or not, was handed the book's own sheet as it stood before the call
abbrev pub OwnSheet : (m : Meaning) (form : List ℕ) (j : Journal) (s : State) (w : List ℕ) → Brings m form j s w → Type 0
OwnSheet m form [] s w brings = Unit {0}
OwnSheet m form (e ∷ j) s w brings = Handed e brings.1 × OwnSheet m form j brings.0 brings.1 brings.2

-- a journal of a book opened by this form that was asked these calls, newest first, on its own sheet
pub record Asked (m : Meaning) (form : List ℕ) (calls : List Call) (j : Journal) : Type 0 where
  pub as_called : map call_of j ≡ calls
  pub book : State
  pub sheet : List ℕ
  pub brings : Brings m form j book sheet
  pub own : OwnSheet m form j book sheet brings

pub record ExactlyOne (m : Meaning) (form : List ℕ) (calls : List Call) : Type 0 where
  pub journal : Journal
  pub asked : Asked m form calls journal
  pub only : (other : Journal) → Asked m form calls other → other ≡ journal

-- 6. of every opening that is accepted, every rule and every list of calls
abbrev pub OneJournal : Type 0
OneJournal = (form given : List ℕ) → open_check form given ≡ Ok tt → (m : Meaning) (calls : List Call) → ExactlyOne m form calls
