-- A journal: what one book was asked since it was opened, and what each call was answered. The newest entry stands first.
use Rattle.std.specs.Prelude.{ℕ, zero, suc, ◌+◌, ◌-◌, ◌*◌, ◌/◌, Bool, false, cond, ◌&&◌, List, [], ◌∷◌, ℤ, None, Option, Result, is_ok, count_by, ◌==◌}
use Rattle.std.specs.Bool.{then_some}
use Rattle.std.specs.Option.{option_or, option_map_or}
use Rattle.forms.specs.declared.fault.Fault.{Fault}
use Rattle.forms.specs.Calendar.{quarters}
use Rattle.forms.specs.Checks.{Verdict}
use Rattle.message.specs.Form.{said}
use Rattle.message.specs.Places.{stated}
use Rattle.settlement.specs.declared.phase.Phase.{Phase}
use Rattle.settlement.specs.declared.phase.Phase.TheVariants.{Ahead, Near, After}
use Rattle.settlement.specs.Sheets.{Statements}
use Rattle.book.specs.Rows.{Row}

-- An entry holds a call's whole input, with the sheet that was handed in where there is one, and the answer.
pub data Entry : Type 0 where
  -- the message
  submit : List ℕ → List ℕ → Result (ℕ × Option ℕ) Fault → Entry
  advance : List ℕ → Verdict → Entry
  -- the closing form, and how many rows were handed in; the answer is the rows
  close : List ℕ → List ℕ → ℕ → Result (List Row) Fault → Entry
  -- group and quarter hour
  position_asked : List ℕ → ℕ → ℕ → Result (ℤ × ℤ × ℤ) Fault → Entry
  -- from, to, quarter hour
  trade : List ℕ → ℕ → ℕ → ℕ → Result ℕ Fault → Entry
  -- group and day
  standing : ℕ → ℕ → Result (Bool × ℕ) Fault → Entry
  -- group
  total : ℕ → Result (ℕ × ℤ) Fault → Entry

abbrev pub Journal : Type 0
Journal = List Entry

-- an accepted advance; that a call was accepted is read off its answer
abbrev pub advanced_here : Entry → Bool
advanced_here (submit form sheet answer) = false
advanced_here (advance sheet answer) = is_ok answer
advanced_here (close form sheet rows answer) = false
advanced_here (position_asked sheet group quarter answer) = false
advanced_here (trade sheet from to quarter answer) = false
advanced_here (standing group day answer) = false
advanced_here (total group answer) = false

-- an accepted close
abbrev pub closed_here : Entry → Bool
closed_here (submit form sheet answer) = false
closed_here (advance sheet answer) = false
closed_here (close form sheet rows answer) = is_ok answer
closed_here (position_asked sheet group quarter answer) = false
closed_here (trade sheet from to quarter answer) = false
closed_here (standing group day answer) = false
closed_here (total group answer) = false

-- accepted advances and accepted closes; every second advance is a cut-off
abbrev pub advances : Journal → ℕ
advances j = count_by advanced_here j

abbrev pub closes : Journal → ℕ
closes j = count_by closed_here j

abbrev pub cut_offs : Journal → ℕ
cut_offs j = advances j / 2

-- the current day; past the last close of the year there is none
abbrev pub today : Journal → ℕ
today j = closes j + 1

-- its phase, by the advances since the last close: each closed day had two
abbrev pub phase_of : ℕ → Phase
phase_of zero = Ahead
phase_of (suc zero) = Near
phase_of (suc (suc n)) = After

abbrev pub phase : Journal → Phase
phase j = phase_of (advances j - 2 * closes j)

-- the entries before the one that is such and has n such before it
unfoldable pub before : (Entry → Bool) → ℕ → Journal → Journal
before p n [] = []
before p n (e ∷ j) = cond (p e && count_by p j == n) j (before p n j)

-- the journal when the cut-off, and the close, of a day was called
abbrev pub at_cut_off : ℕ → Journal → Journal
at_cut_off day j = before advanced_here (2 * day - 1) j

abbrev pub at_close : ℕ → Journal → Journal
at_close day j = before closed_here (day - 1) j

-- the closing form of an entry, and of a day's close
abbrev pub form_in : Entry → List ℕ
form_in (submit form sheet answer) = []
form_in (advance sheet answer) = []
form_in (close form sheet rows answer) = form
form_in (position_asked sheet group quarter answer) = []
form_in (trade sheet from to quarter answer) = []
form_in (standing group day answer) = []
form_in (total group answer) = []

unfoldable pub closing_form : ℕ → Journal → List ℕ
closing_form day [] = []
closing_form day (e ∷ j) = cond (closed_here e && closes j == day - 1) (form_in e) (closing_form day j)

-- the message of group a that an entry has, if it was accepted
abbrev pub message_in : ℕ → Entry → Option (List ℕ)
message_in a (submit form sheet answer) = then_some (is_ok answer && (said form).group == a + 1) form
message_in a (advance sheet answer) = None
message_in a (close form sheet rows answer) = None
message_in a (position_asked sheet group quarter answer) = None
message_in a (trade sheet from to quarter answer) = None
message_in a (standing group day answer) = None
message_in a (total group answer) = None

-- the last message of group a that was accepted since the last close
unfoldable pub last_message : ℕ → Journal → Option (List ℕ)
last_message a [] = None
last_message a (e ∷ j) = cond (closed_here e) None (option_or (message_in a e) (last_message a j))

-- what each group last had accepted today: the series of its last message; any other series is zero
unfoldable pub says : Journal → Statements
says j a slot t = option_map_or (λ form. stated (quarters (today j)) form slot t) (last_message a j) 0
