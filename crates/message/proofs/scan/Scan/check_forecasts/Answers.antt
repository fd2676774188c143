use Rattle.std.proofs.Common.{sym, arith}
use Rattle.message.proofs.Passes.{forecasts_metered, forecasts_nothing}
use Rattle.message.proofs.SeriesLaws.{forecasts_zero}
use Rattle.message.proofs.scan.Scan.check_forecasts.Goals as goal
use Rattle.message.proofs.scan.Scan.check_forecasts.Goals.{then-metered-via-then-metered, then-metered-via-else-metered+then-self-eq0}

pub returns-then-metered : goal.returns-then-metered
returns-then-metered c =
    let scan = c.args.self.now in
    let x = scan.series.now in
    let q = x.message.quarters in
    let s = x.message.bytes.now in
    elim c.then-metered.branch [
      | then-metered-via-then-metered w ↦ sym (forecasts_metered q s c.args.metered w.if-metered.true)
      | then-metered-via-else-metered+then-self-eq0 w ↦
          let none = w.if-self-eq0.true in
          sym (forecasts_nothing q s c.args.metered (forecasts_zero x.groups x.own q s x.passed
          (λ t l. omega (arith, none, scan.of_cons t l)) (λ t l. omega (arith, none, scan.of_prod t l)) (λ t l. omega (arith, none, scan.of_pump t l))))
    ]
