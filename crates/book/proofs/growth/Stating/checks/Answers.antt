use Rattle.std.proofs.Common.{arith}
use Rattle.std.proofs.lemmas.Int.{ints}
use Rattle.forms.specs.Slots.{cons}
use Rattle.book.proofs.ByMessage.{by_sender}
use Rattle.book.proofs.growth.Stating.checks.Goals as goal

pub returns : goal.returns
returns c = λ t l.
    let x = c.args.self.now.sending.now in
    omega (arith, ints, c.add_series.ensures.value t l, c.trades-checks.ensures.value t l, by_sender x.own x.series.message.quarters x.series.message.bytes.now cons t)
