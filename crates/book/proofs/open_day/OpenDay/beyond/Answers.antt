use Rattle.std.proofs.Common.{◌≡◌, ℕ, ◌<◌, ap, ◌∙◌, arith}
use Rattle.settlement.specs.Positions.{stated_check, stated_open, open_position, is_beyond}
use Rattle.settlement.specs.Sheets.{on_sheet}
use Rattle.settlement.proofs.Bands.{day_near}
use Rattle.book.specs.Messages.{beyond_now}
use Rattle.book.specs.States.{State, state_of, today, day_quarters}
use Rattle.book.specs.Tallies.{tally, is_outside_at}
use Rattle.book.proofs.Accepted.{tally_same}
use Rattle.book.proofs.Days.{quarters_fit}
use Rattle.book.proofs.open_day.OpenDay.beyond.Goals as goal

pub returns : goal.returns
unfolding beyond_now stated_open
returns c =
    let s : State = state_of c.args.self.now.ledger.now in
    let own = c.args.own in
    let band = c.new-band.result in
    let checks = c.stated_checks-checks.result in
    let on = c.on_sheet.ensures in
    let f = c.figures.ensures in
    let same : (t : ℕ) → t < day_quarters s → is_outside_at band checks t ≡ beyond_now s c.args.self.now.sheet.now own t =
    λ t l.
    let check = c.stated_checks-checks.ensures t (omega (arith, quarters_fit (today s))) ∙ (λ j. stated_check (on_sheet (on.groups j) (on.sent j) (on.words j)) (on.groups j) t own) in
    c.new-band.ensures _ (day_near checks t) ∙ (λ j. is_beyond (f j) s.phase (open_position (f j) (check j))) in
    c.tally_outside.ensures ∙ ap (tally (is_outside_at band checks)) c.quarters.ensures.value ∙ tally_same _ _ (day_quarters s) same
