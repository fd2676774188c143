use Rattle.std.proofs.Common.{sym, arith}
use Rattle.forms.specs.Bounds.{power_bound}
use Rattle.forms.specs.Slots.{Slot}
use Rattle.message.specs.Values.{StatesAtMost}
use Rattle.message.proofs.Passes.{ranges_pass}
use Rattle.message.proofs.SeriesLaws.{each_slot, values_within}
use Rattle.message.proofs.scan.Scan.check_ranges.Goals as goal

pub returns-then-self-le-POWER_BOUND-2 : goal.returns-then-self-le-POWER_BOUND-2
returns-then-self-le-POWER_BOUND-2 c =
    let scan = c.args.self.now in
    let x = scan.series.now in
    let q = x.message.quarters in
    let s = x.message.bytes.now in
    let P : Slot → Type 0 = λ slot. StatesAtMost q s slot power_bound in
    let low = each_slot P x.groups
    (λ b l t m. omega (arith, scan.outs b l t m)) (λ b l t m. omega (arith, scan.intos b l t m))
    (λ t m. omega (arith, scan.of_cons t m)) (λ t m. omega (arith, scan.of_prod t m)) (λ t m. omega (arith, scan.of_pump t m)) in
    sym (ranges_pass q s (values_within x.groups x.own q s x.passed power_bound low))
