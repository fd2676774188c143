use Rattle.std.proofs.Common.{◌≡◌, ◌*◌, ◌^◌, ◌≤◌, nat_abs}
use Rattle.settlement.specs.Statements.{sent_on}
use Rattle.settlement.specs.Positions.{confirmed_with, stated_with}
use Rattle.settlement.proofs.sheet.WholeSheet.sums.Given as goal

abbrev pub invariant-loop-b : goal.invariant-loop-b
invariant-loop-b l =
    (l.stated ≡ stated_with (sent_on l.self) l.t l.a l.b)
    × (l.confirmed ≡ confirmed_with (sent_on l.self) l.t l.a l.b)
    × (nat_abs l.stated ≤ 2 ^ 32 * l.b)
    × (nat_abs l.confirmed ≤ 2 ^ 32 * l.b)
