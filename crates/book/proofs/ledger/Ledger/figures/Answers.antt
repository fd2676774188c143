use Rattle.std.proofs.Common.{arith}
use Rattle.forms.proofs.OpeningLaws.{count_in}
use Rattle.book.proofs.ledger.Ledger.figures.Goals as goal

pub group-requires : goal.group-requires
group-requires c = omega (arith, count_in c.args.self.now.opening)
