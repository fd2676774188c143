-- What is printed for a frame.
use Rattle.std.specs.Prelude.{ℕ, List, [], ◌∷◌, ◌++◌}
use Rattle.std.specs.List.{flat_map}
use Rattle.book.specs.Rows.{Row, shown_fields}
use Rattle.session.specs.Replies.{Told, closed, line}
use Rattle.session.specs.Views.{SessionState}

-- each row on a line of its own
abbrev pub row_lines : List Row → List ℕ
row_lines rows = flat_map (λ r. shown_fields r ++ 10 ∷ []) rows

-- the line of what is told, or after a close the session's rows
abbrev pub answer : Told → SessionState → List ℕ
answer closed x = row_lines x.rows
answer told x = line told ++ 10 ∷ []
