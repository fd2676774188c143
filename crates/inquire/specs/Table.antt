-- The table of what a book answers at the end of a session.
use Rattle.std.specs.Prelude.{ℕ, cond, List, [], ◌∷◌, ◌++◌, ◌==◌}
use Rattle.std.specs.List.{range_with_len, flat_map}
use Rattle.book.specs.Calls.{asks_position, asks_trade, asks_standing, asks_total, groups_in, days_cut_in}
use Rattle.session.specs.Views.{SessionState}
use Rattle.inquire.specs.Entries.{TableEntry, position_asked, trade, standing, total}

-- what f has for 1, for 2, and so on up to n, one after the other
abbrev pub each_to : ℕ → (ℕ → List TableEntry) → List TableEntry
each_to n f = flat_map f (range_with_len 1 n)

abbrev groups : SessionState → ℕ
groups s = groups_in s.place

-- the positions of all groups at a quarter hour
abbrev pub position_at : SessionState → ℕ → ℕ → List TableEntry
position_at s quarter a = position_asked quarter a (asks_position s.place s.sheet a quarter) ∷ []

abbrev pub positions : SessionState → ℕ → List TableEntry
positions s quarter = each_to (groups s) (position_at s quarter)

-- the trades of a seller with each other group, and of all sellers
abbrev pub trade_at : SessionState → ℕ → ℕ → ℕ → List TableEntry
trade_at s quarter a b = cond (b == a) [] (trade quarter a b (asks_trade s.place s.sheet a b quarter) ∷ [])

abbrev pub sales : SessionState → ℕ → ℕ → List TableEntry
sales s quarter a = each_to (groups s) (trade_at s quarter a)

abbrev pub trades : SessionState → ℕ → List TableEntry
trades s quarter = each_to (groups s) (sales s quarter)

-- the standings of all groups on a day, and on each day past its cut-off
abbrev pub standing_at : SessionState → ℕ → ℕ → List TableEntry
standing_at s day a = standing day a (asks_standing (λ m. m) s.place a day) ∷ []

abbrev pub day_standings : SessionState → ℕ → List TableEntry
day_standings s day = each_to (groups s) (standing_at s day)

abbrev pub standings : SessionState → List TableEntry
standings s = each_to (days_cut_in s.place) (day_standings s)

abbrev pub total_at : SessionState → ℕ → List TableEntry
total_at s a = total a (asks_total s.place a) ∷ []

abbrev pub totals : SessionState → List TableEntry
totals s = each_to (groups s) (total_at s)

-- The whole table: a part for each quarter hour as they stand, then standings, then totals. Without a book it is empty.
abbrev pub quarter_part : SessionState → ℕ → List TableEntry
quarter_part s quarter = positions s quarter ++ trades s quarter

abbrev pub table : SessionState → List ℕ → List TableEntry
table s quarters = flat_map (quarter_part s) quarters ++ (standings s ++ totals s)
