-- What is printed, row after row.
use Rattle.std.proofs.Common.{◌≡◌, ℕ, ◌+◌, ◌<◌, ◌∷◌, ◌++◌, [], List, Some, None, Option, map, take, length, get_or, sym, ap, ◌∙◌}
use Rattle.std.proofs.lemmas.Grind.{flat_map-append}
use Rattle.std.proofs.lemmas.List.{append-nil, map_more}
use Rattle.std.specs.Io.KnownBytes.{Appends}
use Rattle.book.specs.declared.result_row.ResultRow.{ResultRow}
use Rattle.book.specs.Rows.{Row, row_of, shown_fields, shown_row}
use Rattle.serve.specs.Printed.{row_lines}

pub appends_nothing : (a : Option (List ℕ)) → Appends a a []
appends_nothing None = tt
appends_nothing (Some xs) = sym (append-nil xs)

-- one row more is one line more
pub row_lines_more : (rows : List ResultRow) (i : ℕ) (d : ResultRow) → i < length rows
    → row_lines (map row_of (take (i + 1) rows)) ≡ row_lines (map row_of (take i rows)) ++ (shown_row (get_or rows i d) ++ 10 ∷ [])
row_lines_more rows i d l =
    let line : Row → List ℕ = λ r. shown_fields r ++ 10 ∷ [] in
    ap row_lines (map_more row_of rows i d l)
    ∙ flat_map-append line (map row_of (take i rows)) (row_of (get_or rows i d) ∷ [])
    ∙ ap (λ b. row_lines (map row_of (take i rows)) ++ b) (append-nil (line (row_of (get_or rows i d))))
