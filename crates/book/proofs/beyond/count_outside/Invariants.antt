use Rattle.std.proofs.Common.{◌≡◌, ◌≤◌}
use Rattle.book.specs.Tallies.{count_where, is_outside_at}
use Rattle.book.proofs.beyond.count_outside.Given as goal

abbrev pub invariant-loop-t : goal.invariant-loop-t
invariant-loop-t l = (l.outside ≤ l.t) × (l.outside ≡ count_where (is_outside_at l.band l.checks) l.t)
