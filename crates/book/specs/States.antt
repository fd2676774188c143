-- What a book stands for. Groups and quarter hours count from 0, days from 1.
use Rattle.std.specs.Prelude.{ℕ, ◌+◌, Bool, true, false, List, [], map, take, ℤ, pos, nat_le, slice_index_or}
use Rattle.forms.specs.Calendar.{year_days, quarters}
use Rattle.forms.specs.Figures.{GroupFigures, Terms, group_count, figures_at}
use Rattle.forms.specs.Openings.{terms_in}
use Rattle.stage.specs.Marked.{marks_of}
use Rattle.settlement.specs.declared.phase.Phase.{Phase}
use Rattle.settlement.specs.declared.phase.Phase.TheVariants.{Ahead, Near, After}
use Rattle.settlement.specs.Sheets.{Statements, on_sheet}
use Rattle.book.specs.declared.group_account.GroupAccount.{GroupAccount}
use Rattle.book.specs.declared.ledger.Ledger.{Ledger}

-- what is kept for a group
pub record GroupState : Type 0 where
  -- of the last message accepted today, 0 if there is none
  pub version : ℕ
  -- of the days past their cut-off, from day 1
  pub marks : List Bool
  -- the penalty fixed at today's cut-off
  pub due : ℕ
  -- the penalties up to the last cut-off and the balance amounts up to the last close
  pub penalties : ℕ
  pub balance : ℤ

pub record State : Type 0 where
  pub terms : Terms
  -- how many days are closed
  pub closed : ℕ
  pub phase : Phase
  -- which slots were sent today, by their place in the sheet (there is room for 16 groups)
  pub sent : List Bool
  pub groups : List GroupState

abbrev pub account_of : GroupAccount → GroupState
account_of a = record { version = a.version; marks = marks_of a.marks; due = a.due; penalties = a.penalties; balance = a.balance }

-- Of a ledger's accounts, which have room for 16 groups, the book's own are taken; no call reads the others.
unfoldable pub own_accounts : ℕ → List GroupAccount → List GroupState
own_accounts g accounts = take g (map account_of accounts)

-- what a ledger stands for
abbrev pub state_of : Ledger → State
state_of l = record {
  terms = terms_in l.opening;
  closed = l.closed;
  phase = l.phase;
  sent = l.sent;
  groups = own_accounts (group_count (terms_in l.opening)) l.accounts;
}

-- how many groups there are, and what the opening form says of one
abbrev pub size : State → ℕ
size s = group_count s.terms

abbrev pub figures : State → ℕ → GroupFigures
figures s a = figures_at s.terms a

-- what is kept for a group before anything has happened
abbrev pub nothing_kept : GroupState
nothing_kept = record { version = 0; marks = []; due = 0; penalties = 0; balance = pos 0 }

abbrev pub kept : State → ℕ → GroupState
kept s a = slice_index_or s.groups a nothing_kept

-- the current day, and how many quarter hours it has
abbrev pub today : State → ℕ
today s = s.closed + 1

abbrev pub day_quarters : State → ℕ
day_quarters s = quarters (today s)

-- the cut-off of the current day is past
abbrev pub is_after : Phase → Bool
is_after Ahead = false
is_after Near = false
is_after After = true

-- all days are closed
abbrev pub year_over : State → Bool
year_over s = nat_le year_days s.closed

-- what the groups have sent today, by the sheet as it is given
abbrev pub statements : State → List ℕ → Statements
statements s sheet = on_sheet (size s) s.sent sheet
