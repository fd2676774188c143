use Rattle.std.proofs.Common.{rules}
use Rattle.settlement.proofs.Trading.{stated_none, stated_more, stated_skip, confirmed_none, confirmed_more, confirmed_skip}
use Rattle.settlement.proofs.sheet.WholeSheet.sums.Goals as goal

pub loop-b-init : goal.loop-b-init
loop-b-init c = search (rules, stated_none, confirmed_none)

pub loop-b-preserved-then-b-a : goal.loop-b-preserved-then-b-a
loop-b-preserved-then-b-a c = search (rules, stated_skip, confirmed_skip)

pub loop-b-preserved : goal.loop-b-preserved
loop-b-preserved c = search (rules, stated_more, confirmed_more)
