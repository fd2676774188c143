-- Result rows that are written one after another.
use Rattle.std.proofs.Common.{◌≡◌, ℕ, ◌+◌, ◌<◌, ◌≤◌, Bool, false, List, map, length, get_or, set, replicate, sym, ap, ◌∙◌, inl, inr, arith}
use Rattle.std.proofs.lemmas.List.{map-set, get_or-set_same, get_or-set_other, length-map, same_lists}
use Rattle.std.proofs.lemmas.List.FromFn.{length-map-range_with_len, get_or-map-range_with_len}
use Rattle.std.specs.List.{range_with_len}
use Rattle.settlement.specs.declared.phase.Phase.TheVariants.{Ahead}
use Rattle.std.proofs.lemmas.Bool.{cases_eq}
use Rattle.book.specs.declared.result_row.ResultRow.{ResultRow}
use Rattle.book.specs.Closes.{day_row, day_rows, day_done, closed_group, day_closed, balance_today}
use Rattle.book.specs.Kept.{most_balance}
use Rattle.book.specs.Rows.{Row, row_of, amount_in, balance_in_row, no_row}
use Rattle.book.specs.States.{State, size, kept}
use Rattle.book.specs.Sheets.{all_flags}

pub amounts_more : (xs : List ResultRow) (i : ℕ) (v : ResultRow) → i < length xs → amount_in v ≤ most_balance
    → ((k : ℕ) → k < i → get_or (map amount_in xs) k 0 ≤ most_balance) → (k : ℕ) → k < i + 1 → get_or (map amount_in (set xs i v)) k 0 ≤ most_balance
amounts_more xs i v l p h k m =
    let written = ap (λ ys. get_or ys k 0) (map-set amount_in xs i v) in
    elim (cases_eq k i) [
      | inl e ↦ omega (arith, written, ap (λ n. get_or (set (map amount_in xs) i (amount_in v)) n 0) e, get_or-set_same (map amount_in xs) i (amount_in v) 0 (omega (arith, length-map xs amount_in)))
      | inr f ↦ omega (arith, written, get_or-set_other (map amount_in xs) i k (amount_in v) 0 f, h k (omega arith))
    ]

-- a list by a function of the index, where another function gives the same below n
pub map_counting_same : {X : Type 0} (f h : ℕ → X) (n : ℕ) → ((k : ℕ) → k < n → f k ≡ h k) → map f (range_with_len 0 n) ≡ map h (range_with_len 0 n)
map_counting_same f h n e =
    same_lists (map f (range_with_len 0 n)) (map h (range_with_len 0 n)) (length-map-range_with_len f 0 n ∙ sym (length-map-range_with_len h 0 n))
    (λ k d l.
    let m : k < n = omega (arith, length-map-range_with_len f 0 n) in
    get_or-map-range_with_len f 0 n k k d m (omega arith) ∙ e k m ∙ sym (get_or-map-range_with_len h 0 n k k d m (omega arith)))

-- the day closed by the balances of its own rows
pub closed_by_rows : (m : List Bool → ℕ) (s : State) (sheet form : List ℕ) (rows : List ResultRow) → map row_of rows ≡ day_rows m s sheet form
    → day_closed s (balance_in_row rows) ≡ day_closed s (balance_today s sheet form)
unfolding day_closed closed_group day_rows day_row balance_in_row
closed_by_rows m s sheet form rows e =
    let each : (a : ℕ) → a < size s → day_done (kept s a) (balance_in_row rows a) ≡ day_done (kept s a) (balance_today s sheet form a) =
    λ a l. ap (λ (r : Row). day_done (kept s a) r.balance) (ap (λ rs. get_or rs a no_row) e ∙ get_or-map-range_with_len (day_row m s sheet form) 0 (size s) a a no_row l (omega arith)) in
    let groups = map_counting_same (closed_group s (balance_in_row rows)) (closed_group s (balance_today s sheet form)) (size s) each in
    λ j. record { terms = s.terms; closed = s.closed + 1; phase = Ahead; sent = replicate all_flags false; groups = groups j }
