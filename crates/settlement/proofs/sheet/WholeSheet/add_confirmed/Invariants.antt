use Rattle.std.proofs.Common.{◌≡◌, ℕ, ◌*◌, ◌^◌, ◌<◌, ◌≤◌, length, get_or, replicate}
use Rattle.forms.specs.Bounds.{most_groups}
use Rattle.settlement.specs.Days.{sums_of}
use Rattle.settlement.specs.Positions.{given_to}
use Rattle.settlement.specs.Sheets.{words_per_slot}
use Rattle.settlement.specs.Statements.{sent_on}
use Rattle.settlement.specs.Sums.{sumℕ}
use Rattle.settlement.proofs.sheet.WholeSheet.add_confirmed.Given as goal

abbrev pub invariant-loop-a : goal.invariant-loop-a
invariant-loop-a l = record {
  givers : length l.given ≡ most_groups;
  blank : (k : ℕ) → l.a ≤ k → k < most_groups → sums_of l.given k ≡ replicate words_per_slot 0;
  given : (k t : ℕ) → k < l.a → t < words_per_slot → get_or (sums_of l.given k) t 0 ≡ sumℕ (given_to (sent_on l.self) t k) l.self.groups;
  long : (k : ℕ) → k < most_groups → length (sums_of l.taken k) ≡ words_per_slot;
  low : (k t : ℕ) → k < most_groups → get_or (sums_of l.taken k) t 0 ≤ 2 ^ 24 * l.a;
  taken : (k t : ℕ) → k < l.self.groups → t < words_per_slot → get_or (sums_of l.taken k) t 0 ≡ sumℕ (λ b. given_to (sent_on l.self) t b k) l.a;
}
