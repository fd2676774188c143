use Rattle.std.proofs.Common.{◌≡◌, None}
use Rattle.message.specs.Places.{first_of}
use Rattle.book.specs.Tallies.{is_outside_at}
use Rattle.book.proofs.beyond.first_outside.Given as goal

abbrev pub invariant-loop-t : goal.invariant-loop-t
invariant-loop-t l = first_of (is_outside_at l.band l.checks) l.t ≡ None
