use Rattle.std.proofs.Common.{◌≡◌, ℕ, ◌+◌, ◌^◌, ◌<◌, ◌≤◌, length, get_or}
use Rattle.settlement.proofs.words.add_to_both.Given as goal

abbrev pub invariant-loop-t : goal.invariant-loop-t
invariant-loop-t g l = record {
  given-kept : (k : ℕ) → l.t ≤ k → get_or l.given k 0 ≡ get_or l.initial.given k 0;
  taken-kept : (k : ℕ) → l.t ≤ k → get_or l.taken k 0 ≡ get_or l.initial.taken k 0;
  given-low : (k : ℕ) → get_or l.given k 0 ≤ get_or l.initial.given k 0 + 2 ^ 24;
  taken-low : (k : ℕ) → get_or l.taken k 0 ≤ get_or l.initial.taken k 0 + 2 ^ 24;
  value : (words : ℕ → ℕ) → ((t w : ℕ) → t < length l.initial.given → goal.F-post g l.fn.word t w → w ≡ words t)
      → (k : ℕ) → k < l.t → (get_or l.given k 0 ≡ get_or l.initial.given k 0 + words k) × (get_or l.taken k 0 ≡ get_or l.initial.taken k 0 + words k);
}
