-- The worked figures of the two rules.
use Rattle.std.specs.Prelude.{◌≡◌, ℕ, Bool, List, [], ◌∷◌, map, ◌==◌}
use Rattle.std.specs.List.{range_with_len, list_any}
use Rattle.stage.specs.Rules.{rolling, run}

-- the marks of the days 1 to n, of which these are marked
abbrev pub marks_on : ℕ → List ℕ → List Bool
marks_on n marked = map (λ d. list_any (λ x. d == x) marked) (range_with_len 1 n)

-- rolling 30 on day 31, with days 1 and 31 marked, and with days 2 and 31;
-- run 30 on day 31, with days 1 and 31 marked, and on day 32, with days 1 and 32
abbrev pub StageFigures : Type 0
StageFigures =
    (rolling 30 (marks_on 31 (1 ∷ 31 ∷ [])) ≡ 1)
    × (rolling 30 (marks_on 31 (2 ∷ 31 ∷ [])) ≡ 2)
    × (run 30 (marks_on 31 (1 ∷ 31 ∷ [])) ≡ 2)
    × (run 30 (marks_on 32 (1 ∷ 32 ∷ [])) ≡ 1)
