use Rattle.std.proofs.Common.{ℕ, ◌<◌, Ok}
use Rattle.forms.proofs.checks.in_order.Given as goal

abbrev pub invariant-loop-i : goal.invariant-loop-i
invariant-loop-i g l = (k : ℕ) → k < l.i → goal.F-post g l.check k (Ok tt)
