use Rattle.std.proofs.Common.{◌≡◌, ℕ, get_or}
use Rattle.message.specs.Read.{as_read, bytes_of}
use Rattle.book.specs.Messages.{series_laid}
use Rattle.book.proofs.lay.lay_series.Given as goal

abbrev pub invariant-loop-t : goal.invariant-loop-t
invariant-loop-t l = (k : ℕ) → get_or l.sheet k 0 ≡ series_laid (bytes_of (as_read l.series)) l.at l.t l.initial.sheet k
