use Rattle.std.proofs.Common.{◌≡◌, nat_abs, sym, ap, ◌∙◌, arith, w64, to_z, of_z, rules}
use Rattle.std.proofs.lemmas.Int.{to_z-of_z}
use Rattle.settlement.specs.Amounts.{to_cents}
use Rattle.book.specs.Closes.{balance_today}
use Rattle.book.specs.States.{State, state_of, day_quarters}
use Rattle.book.proofs.Costs.{cost_today, cost_none, cost_more}
use Rattle.book.proofs.settled_day.SettledDay.balance.Goals as goal

pub loop-t-init : goal.loop-t-init
loop-t-init c = (sym (cost_none _ _ _ _), omega arith)

pub loop-t-preserved : goal.loop-t-preserved
loop-t-preserved c = search (rules, cost_more)

pub returns : goal.returns
unfolding balance_today cost_today
returns c =
    let s : State = state_of c.args.self.now.day.ledger.now in
    let cost = cost_today s c.args.self.now.day.sheet.now c.args.self.now.form.bytes.now c.args.a in
    let all : c.loop-t.t ≡ day_quarters s = omega (arith, c.quarters-t-end.ensures.value, c.loop-t-test.false, c.loop-t.auto.t-end) in
    let same : to_z w64 (of_z w64 c.to_cents.result) ≡ c.to_cents.result = to_z-of_z w64 c.to_cents.result (search rules) in
    record {
      value = same ∙ c.to_cents.ensures.value ∙ ap to_cents (c.loop-t.invariant.0 ∙ ap cost all);
      bound = omega (arith, ap nat_abs same, c.to_cents.ensures.bound);
    }
