-- The two journals, by computing their figures.
use Rattle.std.proofs.Common.{◌≡◌, ℕ, ◌<◌, Bool, true, false, List, [], ◌∷◌, ◌++◌, replicate, ℤ, pos, nat_abs, Some, None, Ok, sym, refl, ap, ◌∙◌, arith}
use Rattle.std.proofs.lemmas.Bool.{le-leb}
use Rattle.forms.specs.Calendar.{quarters}
use Rattle.forms.specs.Checks.{each_of, if_passed}
use Rattle.forms.specs.Figures.{Terms, group_count}
use Rattle.forms.specs.Openings.{terms_of, group_at, row_at}
use Rattle.message.specs.Form.{value_at}
use Rattle.message.specs.Places.{first_of, place_under, value_under}
use Rattle.stage.specs.Rules.{rolling, days_where, in_window, Meaning}
use Rattle.stage.specs.LawProofs.Windows.{rolling_le, rolling_under}
use Rattle.settlement.specs.declared.phase.Phase.{Phase}
use Rattle.settlement.specs.declared.phase.Phase.TheVariants.{Ahead, Near}
use Rattle.settlement.specs.Positions.{confirmed, confirmed_with, stated_with, stated_open, confirmed_open, day_excess}
use Rattle.settlement.specs.Sheets.{on_sheet}
use Rattle.settlement.specs.Sums.{sumℕ, sumℤ}
use Rattle.book.specs.Cuts.{cut_off, past_cut_off}
use Rattle.book.specs.Messages.{submit_check, beyond_count, state_with, sheet_after, flags_after, by_message}
use Rattle.book.specs.Opens.{open_check, new_book}
use Rattle.book.specs.Queries.{day_check, standing_answer, total_answer}
use Rattle.book.specs.Sheets.{all_powers}
use Rattle.book.specs.States.{State, GroupState, nothing_kept}
use Rattle.book.specs.Tallies.{count_where}
use Rattle.book.proofs.Submitting.{submit_accepted}
use Rattle.journal.specs.Books.{Unchanged, Stepped, Brings, JournalOf}
use Rattle.journal.specs.Exhibit.{FartherCostsMore, opening, message, unsent, laid, idle, short}
use Rattle.journal.specs.Journals.{Journal, submit, advance, standing, total, before, last_message, says, cut_offs}
use Rattle.journal.specs.Reckoned.{open_at, excess_on, marks_to, penalty_on, penalties, stage}
use Rattle.journal.specs.Theorem.{Lawful, FartherAtCutOffs}
use Rattle.journal.proofs.Replay.{opens}

abbrev m : Meaning
m = rolling 30

lawful : Lawful m
lawful = record { bounded = λ xs l. omega (arith, rolling_le 30 xs); monotone = λ xs ys l u. rolling_under 30 xs ys u }

abbrev terms : Terms
terms = terms_of opening

-- what is opened to read the forms and the message, to settle a day by them, and to reckon it from a journal
reading : Unit {0}
unfolding terms_of group_at row_at quarters each_of value_at value_under place_under first_of all_powers
reading = tt

settling : Unit {0}
unfolding reading day_excess sumℕ sumℤ confirmed_open confirmed_with confirmed rolling days_where in_window
settling = tt

by_book : Unit {0}
unfolding settling cut_off past_cut_off on_sheet
by_book = tt

by_journal : Unit {0}
unfolding settling penalties penalty_on marks_to excess_on says last_message before
by_journal = tt

-- the book on day 1
abbrev on_day_one : Phase → List Bool → List GroupState → State
on_day_one phase flags groups = record { terms = terms; closed = 0; phase = phase; sent = flags; groups = groups }

abbrev new : State
new = on_day_one Ahead (replicate 560 false) (nothing_kept ∷ nothing_kept ∷ [])

checked : open_check opening unsent ≡ Ok tt
unfolding reading
checked = refl

brings_new : Brings m opening [] new unsent
unfolding reading new_book
brings_new = (None, unsent, opens m opening unsent checked)

-- and with the message
abbrev sent : State
sent =
    on_day_one Ahead (replicate 4 false ++ (true ∷ true ∷ true ∷ replicate 553 false))
    (record { version = 1; marks = []; due = 0; penalties = 0; balance = pos 0 } ∷ nothing_kept ∷ [])

message_checked : submit_check new unsent message ≡ Ok tt
unfolding reading
message_checked = refl

counted : (96, Some 1) ≡ beyond_count new 0 message
unfolding reading count_where sumℕ by_message stated_open stated_with sumℤ
counted = refl

state_sent : sent ≡ state_with new 0 1 message
unfolding reading flags_after
state_sent = refl

sheet_laid : laid ≡ sheet_after 2 96 0 message unsent
unfolding reading sheet_after
sheet_laid = refl

submits : Stepped m (submit message unsent (Ok (96, Some 1))) new unsent sent laid
unfolding terms_of quarters
submits =
    let o = submit_accepted new unsent message (96, Some 1) sent laid message_checked counted state_sent sheet_laid in
    (refl, ap (λ r. r.0) o, ap (λ r. r.1) o, ap (λ r. r.2) o)

-- two advances, and what is answered then
module _ (flags : List Bool) (groups : List GroupState) (w : List ℕ) (j : Journal) (x : Bool × ℕ) (y : ℕ × ℤ) where
  abbrev ahead : State
  ahead = on_day_one Ahead flags groups

  abbrev near : State
  near = on_day_one Near flags groups

  abbrev after : State
  after = cut_off m near w

  past_one_day : Brings m opening j ahead w → day_check ahead w ≡ Ok tt → Ok x ≡ standing_answer m after 1 1 → Ok y ≡ total_answer after 1
      → JournalOf m opening (total 1 (Ok y) ∷ standing 1 1 (Ok x) ∷ advance w (Ok tt) ∷ advance w (Ok tt) ∷ j)
  past_one_day b fits stands owes =
      let to-near : Stepped m (advance w (Ok tt)) ahead w near w = (refl, sym fits, ap (λ v. if_passed v near ahead) (sym fits), refl) in
      let to-after : Stepped m (advance w (Ok tt)) near w after w = (refl, sym fits, ap (λ v. if_passed v after near) (sym fits), refl) in
      let still : Unchanged after w after w = record { book = refl; sheet = refl } in
      (after, w, (after, w, (after, w, (near, w, (ahead, w, b, to-near), to-after), (stands, still)), (owes, still)))

idle_journal : JournalOf m opening idle
unfolding by_book
idle_journal = past_one_day new.sent new.groups unsent [] (false, 0) (0, pos 0) brings_new refl refl refl

short_journal : JournalOf m opening short
unfolding by_book
short_journal =
    past_one_day sent.sent sent.groups laid (submit message unsent (Ok (96, Some 1)) ∷ []) (true, 1) (50192, pos 0) (new, unsent, brings_new, submits) refl refl refl

-- what is reckoned of the day
one_cut_off : (cut_offs idle ≡ 1) × (cut_offs short ≡ 1)
unfolding by_journal
one_cut_off = (refl, refl)

idle_reckoned : (stage m terms idle 0 1 ≡ 0) × (penalties m terms idle 0 ≡ 0)
unfolding by_journal
idle_reckoned = (refl, refl)

short_reckoned : (stage m terms short 0 1 ≡ 1) × (penalties m terms short 0 ≡ 50192)
unfolding by_journal
short_reckoned = (refl, refl)

nothing_open : (t : ℕ) → nat_abs (open_at terms idle 0 1 t) ≡ 0
unfolding by_journal
nothing_open t = refl

farther : FartherAtCutOffs terms idle short 0
farther day t l h b =
    let one : 1 ≡ day = omega (arith, one_cut_off.0) in
    let none = ap (λ d. nat_abs (open_at terms idle 0 d t)) (sym one) ∙ nothing_open t in
    le-leb (nat_abs (open_at terms idle 0 day t)) (nat_abs (open_at terms short 0 day t)) (omega (arith, none))

there : 0 < group_count terms
unfolding reading
there = omega arith

pub farther_costs_more : FartherCostsMore
farther_costs_more = record {
  lawful = lawful;
  first = idle_journal;
  second = short_journal;
  there = there;
  passed = one_cut_off.0 ∙ sym one_cut_off.1;
  farther = farther;
  stage_higher = omega (arith, ap (stage m terms idle 0) one_cut_off.0, ap (stage m terms short 0) one_cut_off.0, idle_reckoned.0, short_reckoned.0);
  penalties_higher = omega (arith, idle_reckoned.1, short_reckoned.1);
}
