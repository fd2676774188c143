use Rattle.std.proofs.Common.{sym}
use Rattle.message.specs.Values.{opposed_check}
use Rattle.message.proofs.Passes.{all_pass}
use Rattle.message.proofs.SeriesLaws.{trades_apart}
use Rattle.message.proofs.scan.Scan.check_trades.Goals as goal

pub returns-then-self : goal.returns-then-self
returns-then-self c =
    let scan = c.args.self.now in
    let x = scan.series.now in
    let q = x.message.quarters in
    let s = x.message.bytes.now in
    sym (all_pass q s (opposed_check q s) (trades_apart x.groups x.own q s x.passed (scan.unopposed c.if-self.true)))
