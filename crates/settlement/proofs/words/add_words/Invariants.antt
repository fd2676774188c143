use Rattle.std.proofs.Common.{◌≡◌, ℕ, ◌+◌, ◌^◌, ◌<◌, ◌≤◌, length, get_or}
use Rattle.settlement.proofs.words.add_words.Given as goal

abbrev pub invariant-loop-t : goal.invariant-loop-t
invariant-loop-t g l = record {
  kept : (k : ℕ) → l.t ≤ k → get_or l.sums k 0 ≡ get_or l.initial.sums k 0;
  low : (k : ℕ) → get_or l.sums k 0 ≤ get_or l.initial.sums k 0 + 2 ^ 24;
  value : (words : ℕ → ℕ) → ((t w : ℕ) → t < length l.initial.sums → goal.F-post g l.fn.word t w → w ≡ words t)
      → (k : ℕ) → k < l.t → get_or l.sums k 0 ≡ get_or l.initial.sums k 0 + words k;
}
