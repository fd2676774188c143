-- The arguments of the program.
use Rattle.std.specs.Prelude.{◌≡◌, ℕ, ◌^◌, ◌<◌, List, Some, None, Option}
use Rattle.std.specs.Str.Parse.{IsNumeral, digits_value}

-- a text is read just where it is one decimal digit or more and nothing else, and their number fits 16 bits
abbrev pub QuarterRead : Option ℕ → List ℕ → Type 0
QuarterRead (Some q) text = IsNumeral 10 text × (digits_value 10 text < 2 ^ 16) × (q ≡ digits_value 10 text)
QuarterRead None text = IsNumeral 10 text × (digits_value 10 text < 2 ^ 16) → ⊥
