-- How many bytes the input buffer has.
use Rattle.std.specs.Prelude.{ℕ}

abbrev pub capacity : ℕ
capacity = 131072
