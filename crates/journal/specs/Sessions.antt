-- What a session does is a journal of the book that it opened: so the theorem speaks of what a session does. A program serves at most so many groups.
use Rattle.std.specs.Prelude.{◌≡◌, ◌≢◌, ℕ, Bool, true, false, cond, List, [], ◌∷◌, ◌++◌, map, length, is_some, Some, None, Ok, Option, ◌==◌}
use Rattle.std.specs.Result.{result_unwrap_or}
use Rattle.forms.specs.Checks.{verdict}
use Rattle.forms.specs.Figures.{group_count}
use Rattle.forms.specs.Openings.{terms_of}
use Rattle.stage.specs.Asked.{rule_asked}
use Rattle.stage.specs.Rules.{Meaning}
use Rattle.book.specs.Calls.{asks_position, asks_trade, asks_standing, asks_total}
use Rattle.book.specs.Rows.{Row}
use Rattle.book.specs.States.{State}
use Rattle.session.specs.declared.letter.Letter.TheVariants.{Rule, Opening, Message, Advance, Closing}
use Rattle.session.specs.Letters.{code_of}
use Rattle.session.specs.Replies.{Told, stop, refused, done, taken, closed, plainly, message_told, close_told}
use Rattle.session.specs.Runs.{Frame, told_at, state_after, session_from, session_after}
use Rattle.session.specs.Views.{SessionState}
use Rattle.journal.specs.Books.{Brings}
use Rattle.journal.specs.Exists.{Call, call_of, OwnSheet}
use Rattle.journal.specs.Journals.{Entry, Journal}
use Rattle.journal.specs.Theorem.{Lawful}

abbrev pub rule_frame : List ℕ → Frame
rule_frame form = record { letter = code_of Rule; body = form }

abbrev pub opening_frame : List ℕ → Frame
opening_frame form = record { letter = code_of Opening; body = form }

abbrev pub is_stop : Told → Bool
is_stop stop = true
is_stop (refused fault) = false
is_stop done = false
is_stop (taken count first) = false
is_stop closed = false

-- the call of a frame: a message, an advance, or a close with so many rows handed in
abbrev pub call_by : Frame → ℕ → Option Call
call_by f rows =
    cond (f.letter == code_of Message) (Some (Call.submit f.body))
    (cond (f.letter == code_of Advance) (Some Call.advance)
    (cond (f.letter == code_of Closing) (Some (Call.close f.body rows)) None))

-- What passes at a frame: its call, what is told, and the rows that an accepted close gives.
pub record Exchange : Type 0 where
  pub call : Option Call
  pub told : Told
  pub rows : List Row

-- the rows that a session holds are given after an accepted close alone
abbrev pub rows_given : Told → List Row → List Row
rows_given stop rows = []
rows_given (refused fault) rows = []
rows_given done rows = []
rows_given (taken count first) rows = []
rows_given closed rows = rows

abbrev pub exchange_at : ℕ → SessionState → Frame → Exchange
exchange_at most x f = record {
  call = call_by f (length x.rows);
  told = told_at most x f;
  rows = rows_given (told_at most x f) (state_after most x f).rows;
}

-- what an answer has a session tell; no frame asks a question
abbrev pub told_of : Entry → Told
told_of (Entry.submit form sheet answer) = message_told answer
told_of (Entry.advance sheet answer) = plainly answer
told_of (Entry.close form sheet rows answer) = close_told (verdict answer)
told_of (Entry.position_asked sheet group quarter answer) = plainly (verdict answer)
told_of (Entry.trade sheet from to quarter answer) = plainly (verdict answer)
told_of (Entry.standing group day answer) = plainly (verdict answer)
told_of (Entry.total group answer) = plainly (verdict answer)

-- the rows of an answer
abbrev pub rows_of : Entry → List Row
rows_of (Entry.submit form sheet answer) = []
rows_of (Entry.advance sheet answer) = []
rows_of (Entry.close form sheet rows answer) = result_unwrap_or answer []
rows_of (Entry.position_asked sheet group quarter answer) = []
rows_of (Entry.trade sheet from to quarter answer) = []
rows_of (Entry.standing group day answer) = []
rows_of (Entry.total group answer) = []

abbrev pub exchange_of : Entry → Exchange
exchange_of e = record { call = Some (call_of e); told = told_of e; rows = rows_of e }

-- The session holds a book, opened by this form under this rule, that the journal brought to its state. Each call was handed the session's own
-- sheet, and the session has a row for each group.
pub record Holds (m : Meaning) (form : List ℕ) (j : Journal) (x : SessionState) : Type 0 where
  pub book : State
  pub rule : x.rule ≡ Some m
  pub place : x.place ≡ Some (m, book)
  pub brings : Brings m form j book x.sheet
  pub own : OwnSheet m form j book x.sheet brings
  pub rows : length x.rows ≡ group_count (terms_of form)

-- A frame that opens a book begins its journal, under the rule that the session has.
abbrev pub OpeningBegins : ℕ → Type 0
OpeningBegins most =
    (x : SessionState) (form : List ℕ) → told_at most x (opening_frame form) ≡ done
    → (m : Meaning) × (x.rule ≡ Some m) × Holds m form [] (state_after most x (opening_frame form))

-- Any frame after it that does not stop the session is a call, and the newest entry of the journal: what passes is what the entry says.
abbrev pub FramesGoOn : ℕ → Type 0
FramesGoOn most =
    (m : Meaning) (form : List ℕ) (j : Journal) (x : SessionState) (f : Frame) → Holds m form j x → told_at most x f ≢ stop
    → (e : Entry) × (exchange_of e ≡ exchange_at most x f) × Holds m form (e ∷ j) (state_after most x f)

-- A frame that stops the session changes nothing.
abbrev pub StopsChangeNothing : ℕ → Type 0
StopsChangeNothing most = (x : SessionState) (f : Frame) → told_at most x f ≡ stop → state_after most x f ≡ x

-- Each question to the session's book, on the session's own sheet, is an entry with the book's answer, and changes nothing.
abbrev pub QuestionsGoOn : Type 0
QuestionsGoOn =
    (m : Meaning) (form : List ℕ) (j : Journal) (x : SessionState) → Holds m form j x
    → ((group quarter : ℕ) → Holds m form (Entry.position_asked x.sheet group quarter (asks_position x.place x.sheet group quarter) ∷ j) x)
    × ((from to quarter : ℕ) → Holds m form (Entry.trade x.sheet from to quarter (asks_trade x.place x.sheet from to quarter) ∷ j) x)
    × ((group day : ℕ) → Holds m form (Entry.standing group day (asks_standing (λ r. r) x.place group day) ∷ j) x)
    × ((group : ℕ) → Holds m form (Entry.total group (asks_total x.place group) ∷ j) x)

-- what passed at those frames that did not stop
abbrev pub exchanges_from : ℕ → SessionState → List Frame → List Exchange
exchanges_from most x [] = []
exchanges_from most x (f ∷ fs) =
    let y = session_from most x fs in
    cond (is_stop (told_at most y f)) (exchanges_from most x fs) (exchange_at most y f ∷ exchanges_from most x fs)

-- one of a session's frames, with such a form, was accepted
pub record Accepted (most : ℕ) (such : List ℕ → Frame) (frames : List Frame) : Type 0 where
  pub later : List Frame
  pub form : List ℕ
  pub earlier : List Frame
  pub in_order : frames ≡ later ++ such form ∷ earlier
  pub told : told_at most (session_after most earlier) (such form) ≡ done

-- One of them opened the book, under the lawful rule that one before it asked for, and what passed at the later ones is a journal of this book.
pub record Recorded (most : ℕ) (frames : List Frame) : Type 0 where
  pub opening : Accepted most opening_frame frames
  pub ruling : Accepted most rule_frame opening.earlier
  pub rule : Meaning
  pub asked : rule_asked ruling.form ≡ Ok rule
  pub lawful : Lawful rule
  pub journal : Journal
  pub holds : Holds rule opening.form journal (session_after most frames)
  pub as_passed : map exchange_of journal ≡ exchanges_from most (session_after most (opening_frame opening.form ∷ opening.earlier)) opening.later

-- so of every session from its first frame on, once a book is open
abbrev pub RunsAreJournals : ℕ → Type 0
RunsAreJournals most = (frames : List Frame) → is_some (session_after most frames).place ≡ true → Recorded most frames

-- 8. of every program, whatever the most groups that it serves
abbrev pub SessionsAreJournals : Type 0
SessionsAreJournals = (most : ℕ) → OpeningBegins most × FramesGoOn most × StopsChangeNothing most × QuestionsGoOn × RunsAreJournals most
