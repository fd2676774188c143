use Rattle.std.proofs.Common.{◌≡◌, ℕ, ◌*◌, ◌^◌, ◌<◌, ◌≤◌, length, get_or, pos, ◌-ℤ◌}
use Rattle.settlement.specs.Days.{day_net, Adds}
use Rattle.settlement.specs.Sums.{with_others}
use Rattle.settlement.specs.Sheets.{words_per_slot}
use Rattle.settlement.proofs.day.DayTrades.with_others.Given as goal

abbrev pub invariant-loop-b : goal.invariant-loop-b
invariant-loop-b g l = record {
  taken-long : length l.taken ≡ words_per_slot;
  given-long : length l.given ≡ words_per_slot;
  taken-low : (t : ℕ) → get_or l.taken t 0 ≤ 2 ^ 24 * l.b;
  given-low : (t : ℕ) → get_or l.given t 0 ≤ 2 ^ 24 * l.b;
  net : (q : ℕ) (i o : ℕ → ℕ → ℕ)
      → ((b : ℕ) (x y u v : _) → b < l.fn.groups → goal.F-post g l.fn.add b x y tt u v → Adds q (i b) x.now u.now × Adds q (o b) y.now v.now)
      → (t : ℕ) → t < q → day_net l.taken l.given t ≡ with_others (λ b. pos (i b t) -ℤ pos (o b t)) l.own l.b;
}
