-- What a close writes for a group.
use Rattle.std.specs.Prelude.{ℕ, Bool, false, cond, List, ◌++◌, map, ℤ, pos, codes, decimal, slice_index_or, unsigned_abs}
use Rattle.std.specs.Fmt.{signed_decimal}
use Rattle.book.specs.declared.result_row.ResultRow.{ResultRow}

pub record Row : Type 0 where
  pub day : ℕ
  pub group : ℕ
  pub mark : Bool
  pub stage : ℕ
  pub penalty : ℕ
  pub balance : ℤ

-- the same row as the code holds it
abbrev pub row_of : ResultRow → Row
row_of r = record { day = r.day; group = r.group; mark = r.mark; stage = r.stage; penalty = r.penalty; balance = r.balance }

-- how far its balance amount is from zero
abbrev pub amount_in : ResultRow → ℕ
amount_in r = unsigned_abs r.balance

-- a row before anything is written
abbrev pub no_row : Row
no_row = record { day = 0; group = 0; mark = false; stage = 0; penalty = 0; balance = pos 0 }

-- the balance amount of the row of group a
unfoldable pub balance_in_row : List ResultRow → ℕ → ℤ
balance_in_row rows a = (slice_index_or (map row_of rows) a no_row).balance

-- its six fields with one blank between, the mark as 1 or 0
abbrev pub shown_fields : Row → List ℕ
shown_fields r =
    decimal r.day ++ (codes " " ++ (decimal r.group ++ (codes " " ++ (decimal (cond r.mark 1 0) ++ (codes " "
    ++ (decimal r.stage ++ (codes " " ++ (decimal r.penalty ++ (codes " " ++ signed_decimal r.balance)))))))))

abbrev pub shown_row : ResultRow → List ℕ
shown_row r = shown_fields (row_of r)
