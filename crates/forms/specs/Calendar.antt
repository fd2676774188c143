-- Days and their quarter hours.
use Rattle.std.specs.Prelude.{ℕ}

-- a book keeps this many days
abbrev pub year_days : ℕ
year_days = 366

-- how many quarter hours a day has
unfoldable pub quarters : ℕ → ℕ
quarters day = 96
