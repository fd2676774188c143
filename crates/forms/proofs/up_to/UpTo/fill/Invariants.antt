use Rattle.std.proofs.Common.{ℕ, ◌≡◌, ◌<◌, length, get_or}
use Rattle.forms.proofs.up_to.UpTo.fill.Given as goal

abbrev pub invariant-loop-i : goal.invariant-loop-i
invariant-loop-i g l = record {
  wide : length l.place-items ≡ l.count;
  held : (k : ℕ) → k < l.i → goal.F-post g l.item k (get_or l.place-items k l.fn.blank);
}
