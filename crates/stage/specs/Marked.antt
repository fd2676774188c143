-- The marks of a group's days as a list. Days count from 1: the first mark is that of day 1.
use Rattle.std.specs.Prelude.{◌≡◌, ℕ, zero, suc, ◌/◌, ◌%◌, Bool, true, false, List, map, ◌==◌, slice_index, slice_index_or}
use Rattle.std.specs.Int.{bit_at}
use Rattle.std.specs.List.{AllZip, range_with_len}
use Rattle.stage.specs.declared.marks.Marks.{Marks}

-- bit k of a word
abbrev pub bit : ℕ → ℕ → Bool
bit w k = bit_at w k == 1

-- bit i of words of 64 bits
abbrev pub flag : List ℕ → ℕ → Bool
flag ws i = bit (slice_index ws (i / 64)) (i % 64)

-- the marks as the code holds them
unfoldable pub marks_of : Marks → List Bool
marks_of m = map (flag m.words) (range_with_len 0 m.days)

-- the mark of a day, where there is no mark of day 0 or of a day past the last
abbrev pub on_day : List Bool → ℕ → Bool
on_day xs zero = false
on_day xs (suc i) = slice_index_or xs i false

-- of the same days, the second marks at least those that the first marks
abbrev pub Under : List Bool → List Bool → Type 0
Under xs ys = AllZip (λ x y. x ≡ true → y ≡ true) xs ys
