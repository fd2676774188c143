use Rattle.std.proofs.Common.{ap, ◌∙◌, rules}
use Rattle.forms.specs.Slots.{out_to, in_from}
use Rattle.settlement.specs.Positions.{stated_with}
use Rattle.book.specs.Messages.{by_message}
use Rattle.book.specs.States.{state_of, day_quarters}
use Rattle.book.proofs.ByMessage.{by_sender}
use Rattle.book.proofs.growth.Stating.trades.Goals as goal

pub returns-clause-value : goal.returns-clause-value
unfolding stated_with
returns-clause-value c =
    let x = c.args.self.now.sending.now in
    let S = by_message x.own x.series.message.quarters x.series.message.bytes.now x.own in
    λ t l.
    c.with_others.ensures.value (day_quarters (state_of x.day.ledger.now)) (λ b t. S (in_from b) t) (λ b t. S (out_to b) t) (λ b y z u v h p. search (rules, by_sender)) t l
    ∙ ap (stated_with (by_message x.own x.series.message.quarters x.series.message.bytes.now) t x.own) c.groups.ensures.value
