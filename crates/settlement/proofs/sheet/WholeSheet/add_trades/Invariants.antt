use Rattle.std.proofs.Common.{◌≡◌, ℕ, ◌*◌, ◌^◌, ◌<◌, ◌≤◌, length, get_or}
use Rattle.forms.specs.Bounds.{most_groups}
use Rattle.settlement.specs.Days.{GrowsAtMostAWord, Adds, sums_of}
use Rattle.settlement.specs.Positions.{given_to}
use Rattle.settlement.specs.Sheets.{words_per_slot}
use Rattle.settlement.specs.Statements.{sent_on}
use Rattle.settlement.specs.Sums.{sumℕ}
use Rattle.settlement.proofs.sheet.WholeSheet.add_trades.Given as goal

abbrev pub invariant-loop-b : goal.invariant-loop-b
invariant-loop-b l = record {
  given-long : length l.given ≡ words_per_slot;
  given-low : (t : ℕ) → get_or l.given t 0 ≤ 2 ^ 24 * l.b;
  given : (t : ℕ) → t < words_per_slot → get_or l.given t 0 ≡ sumℕ (given_to (sent_on l.self) t l.a) l.b;
  lists : length l.taken ≡ most_groups;
  bound : (k : ℕ) → GrowsAtMostAWord (sums_of l.initial.taken k) (sums_of l.taken k);
  kept : (k : ℕ) → l.b ≤ k → sums_of l.taken k ≡ sums_of l.initial.taken k;
  taken : (k : ℕ) → k < l.b → Adds words_per_slot (λ t. given_to (sent_on l.self) t l.a k) (sums_of l.initial.taken k) (sums_of l.taken k);
}
