-- What submit does.
use Rattle.std.specs.Prelude.{◌≡◌, ℕ, ◌+◌, ◌-◌, ◌*◌, ◌/◌, ◌%◌, ◌<◌, Bool, false, cond, not, ◌&&◌, ◌||◌, List, map, length, is_some, Ok, Option, Result, ◌==◌, nat_le, nat_lt, slice_index, slice_index_or, slice_set}
use Rattle.std.specs.Result.{result_and, result_map_both}
use Rattle.std.specs.List.{range_with_len}
use Rattle.forms.specs.declared.fault.Fault.{Fault}
use Rattle.forms.specs.declared.fault.Fault.TheVariants.{WrongDay, WrongVersion, MissingSeries, GrowingPosition}
use Rattle.forms.specs.Checks.{Verdict, verdict, refuse_if, each_of, answer_if, if_passed}
use Rattle.forms.specs.Bytes.{be32}
use Rattle.forms.specs.Slots.{Slot, cons, prod, pump, slots, slot_at}
use Rattle.message.specs.Form.{Formed, header_of, said}
use Rattle.message.specs.Heads.{heads_check}
use Rattle.message.specs.Values.{values_check}
use Rattle.message.specs.Places.{first_of, sent_in, stated}
use Rattle.settlement.specs.declared.phase.Phase.TheVariants.{After}
use Rattle.settlement.specs.Positions.{stated_open, no_farther, beyond_by}
use Rattle.settlement.specs.Sheets.{Statements, words_per_slot}
use Rattle.book.specs.declared.answers.Submitted.{Submitted}
use Rattle.book.specs.Queries.{day_check, group_check}
use Rattle.book.specs.States.{State, GroupState, size, figures, kept, today, day_quarters, statements, is_after}
use Rattle.book.specs.Tallies.{tally}

-- a message by itself: what the group that sends it says, and zero of every other
unfoldable pub by_message : ℕ → ℕ → List ℕ → Statements
by_message own q form a slot t = cond (a == own) (stated q form slot t) 0

-- a message of group own that is read for the current day, of the right length and with lawful heads
pub record Read (s : State) (own q : ℕ) (form : List ℕ) : Type 0 where
  pub sender : own < size s
  pub quarters : q ≡ day_quarters s
  pub formed : Formed q form
  pub heads : heads_check (size s) own form ≡ Ok tt

-- the series of slot k was accepted today and is not in the message
abbrev pub left_out : State → ℕ → List ℕ → ℕ → Bool
left_out s own form k = slice_index_or s.sent (own * slots (size s) + k) false && not (sent_in form (slot_at (size s) k))

-- 11: a series accepted today is left out, or a metered group lacks a forecast
abbrev pub incomplete : State → ℕ → List ℕ → Bool
incomplete s own form =
    is_some (first_of (left_out s own form) (slots (size s)))
    || ((figures s own).metered && not (sent_in form cons && (sent_in form prod && sent_in form pump)))

-- 15: after the cut-off a trading group's stated open position is beyond its limit, and farther out than the last accepted
unfoldable pub grows_at : State → List ℕ → ℕ → List ℕ → ℕ → Bool
grows_at s sheet own form t =
    beyond_by s.terms (by_message own (day_quarters s) form) After own t
    && not (no_farther (stated_open (by_message own (day_quarters s) form) (figures s own) (size s) t own) (stated_open (statements s sheet) (figures s own) (size s) t own))

-- the first of n quarter hours at which it does is named
abbrev pub grown_at : State → List ℕ → ℕ → List ℕ → ℕ → Verdict
grown_at s sheet own form t = refuse_if (grows_at s sheet own form t) (GrowingPosition (t + 1))

abbrev pub each_growth : State → List ℕ → ℕ → List ℕ → ℕ → Verdict
each_growth s sheet own form n = each_of (grown_at s sheet own form) n

abbrev pub growth_check : State → List ℕ → ℕ → List ℕ → Verdict
growth_check s sheet own form =
    cond (is_after s.phase && not (figures s own).metered) (each_growth s sheet own form (day_quarters s)) (Ok tt)

-- The tests of a message, in rising number. First its group, day and version, then its series; own is the sender.
abbrev pub sender_check : State → ℕ → ℕ → ℕ → Verdict
sender_check s group day version =
    result_and (group_check s group)
    (result_and (refuse_if (not (day == today s)) WrongDay)
    (refuse_if (not (version == (kept s (group - 1)).version + 1)) WrongVersion))

abbrev pub series_check : State → List ℕ → ℕ → List ℕ → Verdict
series_check s sheet own form =
    result_and (heads_check (size s) own form)
    (result_and (refuse_if (incomplete s own form) MissingSeries)
    (result_and (values_check (day_quarters s) (figures s own).metered form)
    (growth_check s sheet own form)))

abbrev pub submit_check : State → List ℕ → List ℕ → Verdict
submit_check s sheet form =
    result_and (verdict (header_of (day_quarters s) form))
    (result_and (day_check s sheet)
    (result_and (sender_check s (said form).group (said form).day (said form).version) (series_check s sheet ((said form).group - 1) form)))

-- Its series stand in their slots: a place belongs to the sender, and the message has the series of that slot.
abbrev pub owns : ℕ → ℕ → ℕ → Bool
owns g own place = nat_le (own * slots g) place && nat_lt place ((own + 1) * slots g)

abbrev pub own_slot : ℕ → ℕ → ℕ → Slot
own_slot g own place = slot_at g (place - own * slots g)

abbrev pub sent_after : ℕ → ℕ → List ℕ → List Bool → ℕ → Bool
sent_after g own form sent place = cond (owns g own place) (sent_in form (own_slot g own place)) (slice_index_or sent place false)

abbrev pub word_after : ℕ → ℕ → ℕ → List ℕ → List ℕ → ℕ → ℕ
word_after g q own form sheet k =
    cond (owns g own (k / words_per_slot) && (sent_in form (own_slot g own (k / words_per_slot)) && nat_lt (k % words_per_slot) q))
    (stated q form (own_slot g own (k / words_per_slot)) (k % words_per_slot))
    (slice_index sheet k)

unfoldable pub sheet_after : ℕ → ℕ → ℕ → List ℕ → List ℕ → List ℕ
sheet_after g q own form sheet = map (word_after g q own form sheet) (range_with_len 0 (length sheet))

-- one series in it: the first n values of its bytes stand from `at` on, and no other word has changed
unfoldable pub series_laid : List ℕ → ℕ → ℕ → List ℕ → ℕ → ℕ
series_laid bytes at n sheet k = cond (nat_le at k && nat_lt k (at + n)) (be32 bytes (4 * (k - at))) (slice_index sheet k)

unfoldable pub flags_after : ℕ → ℕ → List ℕ → List Bool → List Bool
flags_after g own form sent = map (sent_after g own form sent) (range_with_len 0 (length sent))

abbrev pub with_version : GroupState → ℕ → GroupState
with_version k version = record { version = version; marks = k.marks; due = k.due; penalties = k.penalties; balance = k.balance }

-- the book once a message of group own is accepted
abbrev pub state_with : State → ℕ → ℕ → List ℕ → State
state_with s own version form = record {
  terms = s.terms;
  closed = s.closed;
  phase = s.phase;
  sent = flags_after (size s) own form s.sent;
  groups = slice_set s.groups own (with_version (kept s own) version);
}

-- a quarter hour in which group own's stated open position, by the sheet, is beyond the limit of the phase
unfoldable pub beyond_now : State → List ℕ → ℕ → ℕ → Bool
beyond_now s sheet own t = beyond_by s.terms (statements s sheet) s.phase own t

-- the same by the message
abbrev pub beyond_at : State → ℕ → List ℕ → ℕ → Bool
beyond_at s own form t = beyond_by s.terms (by_message own (day_quarters s) form) s.phase own t

-- how many there are, and the first, from 1
abbrev pub beyond_count : State → ℕ → List ℕ → ℕ × Option ℕ
beyond_count s own form = tally (beyond_at s own form) (day_quarters s)

-- what submit answers, and the state and the sheet after it
abbrev pub submitted : State → List ℕ → List ℕ → Result (ℕ × Option ℕ) Fault × State × List ℕ
submitted s sheet form = (
  answer_if (submit_check s sheet form) (beyond_count s ((said form).group - 1) form),
  if_passed (submit_check s sheet form) (state_with s ((said form).group - 1) (said form).version form) s,
  if_passed (submit_check s sheet form) (sheet_after (size s) (day_quarters s) ((said form).group - 1) form sheet) sheet,
)

-- the same answer as the code holds it
abbrev pub submitted_of : Result Submitted Fault → Result (ℕ × Option ℕ) Fault
submitted_of r = result_map_both (λ x. (x.beyond, x.first)) (λ e. e) r
