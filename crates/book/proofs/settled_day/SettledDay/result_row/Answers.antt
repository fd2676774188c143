use Rattle.std.proofs.Common.{ℕ, ◌+◌, ◌<◌, Bool, List, nat_abs, ap, ◌∙◌, arith, w64, rules}
use Rattle.std.proofs.lemmas.Int.{to_z-of_z}
use Rattle.forms.proofs.OpeningLaws.{lawful_in}
use Rattle.stage.specs.Marked.{on_day}
use Rattle.book.specs.Closes.{day_row}
use Rattle.book.specs.States.{State, GroupState, state_of}
use Rattle.book.proofs.settled_day.SettledDay.result_row.Goals as goal

pub overflow_cast-result : goal.overflow_cast-result
overflow_cast-result g c = let l : c.args.a < 16 = omega (arith, (lawful_in c.args.self.now.day.ledger.now.opening).groups_most) in search rules

pub overflow_add-result : goal.overflow_add-result
overflow_add-result g c = let l : c.args.a < 16 = omega (arith, (lawful_in c.args.self.now.day.ledger.now.opening).groups_most) in search rules

pub returns : goal.returns
unfolding day_row
returns g c =
    let amount = to_z-of_z w64 c.balance.result (search rules) ∙ c.balance.ensures.value in
    let s : State = state_of c.args.self.now.day.ledger.now in
    let m : List Bool → ℕ = g.R.StageRule.meaning c.args.rule.now in
    let account = c.account-account.ensures.value in
    let marks = ap (λ (k : GroupState). k.marks) account in
    let mark-is = c.marked.ensures ∙ (λ j. on_day (marks j) (c.day-day.ensures j)) in
    let stage_is = c.stage.ensures ∙ ap m marks in
    let due = ap (λ (k : GroupState). k.due) account in
    record { row = λ j. record { day = c.day-day.ensures j; group = c.args.a + 1; mark = mark-is j; stage = stage_is j; penalty = due j; balance = amount j }; bound = omega (arith, ap nat_abs amount, ap nat_abs c.balance.ensures.value, c.balance.ensures.bound) }
