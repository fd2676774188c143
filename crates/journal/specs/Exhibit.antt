-- Two journals in which standing farther out does cost more.
use Rattle.std.specs.Prelude.{◌≡◌, ℕ, zero, suc, ◌<◌, true, false, List, [], ◌∷◌, ◌++◌, replicate, pos, Some, Ok}
use Rattle.forms.specs.Figures.{group_count}
use Rattle.forms.specs.Openings.{terms_of}
use Rattle.stage.specs.Rules.{rolling, Meaning}
use Rattle.journal.specs.Books.{JournalOf}
use Rattle.journal.specs.Journals.{Journal, submit, advance, standing, total, cut_offs}
use Rattle.journal.specs.Reckoned.{stage, penalties}
use Rattle.journal.specs.Theorem.{Lawful, FartherAtCutOffs}

-- Two books under one rule and one form have passed equally many cut-offs, and group a stands at least as far out in the second:
-- there its stage on the last of these days and its penalties are higher.
pub record CostsMore (m : Meaning) (form : List ℕ) (j k : Journal) (a : ℕ) : Type 0 where
  pub lawful : Lawful m
  pub first : JournalOf m form j
  pub second : JournalOf m form k
  pub there : a < group_count (terms_of form)
  pub passed : cut_offs j ≡ cut_offs k
  pub farther : FartherAtCutOffs (terms_of form) j k a
  pub stage_higher : stage m (terms_of form) j a (cut_offs j) < stage m (terms_of form) k a (cut_offs j)
  pub penalties_higher : penalties m (terms_of form) j a < penalties m (terms_of form) k a

-- Two groups, of which the first has metering points; no production, no pump, every limit 0. Tariff (0, 0), (50,000, 8,000).
abbrev pub opening : List ℕ
opening = 2 ∷ 2 ∷ (1 ∷ replicate 20 0) ++ (replicate 21 0 ++ (replicate 8 0 ++ (0 ∷ 0 ∷ 195 ∷ 80 ∷ 0 ∷ 0 ∷ 31 ∷ 64 ∷ [])))

-- n values of x kW, for x below 256
abbrev pub values : ℕ → ℕ → List ℕ
values x zero = []
values x (suc n) = 0 ∷ 0 ∷ 0 ∷ x ∷ values x n

-- group 1, version 1, day 1: a consumption of 1 kW all day, no production, no pump power
abbrev pub message : List ℕ
message = 3 ∷ 96 ∷ 0 ∷ 1 ∷ 0 ∷ 1 ∷ 0 ∷ 1 ∷ 3 ∷ 0 ∷ 4 ∷ 0 ∷ 5 ∷ 0 ∷ values 1 96 ++ values 0 192

-- the sheet as it is opened, and with the message: the consumption stands in the fifth of 14 slots
abbrev pub unsent : List ℕ
unsent = replicate 1344 0

abbrev pub laid : List ℕ
laid = replicate 384 0 ++ (replicate 96 1 ++ replicate 864 0)

-- nobody sends anything
abbrev pub idle : Journal
idle = total 1 (Ok (0, pos 0)) ∷ standing 1 1 (Ok (false, 0)) ∷ advance unsent (Ok tt) ∷ advance unsent (Ok tt) ∷ []

-- group 1 sends the message, and has bought nothing
abbrev pub short : Journal
short =
    total 1 (Ok (50192, pos 0)) ∷ standing 1 1 (Ok (true, 1)) ∷ advance laid (Ok tt) ∷ advance laid (Ok tt)
    ∷ submit message unsent (Ok (96, Some 1)) ∷ []

-- 7. Under rolling 30 the second of the two stands farther out and costs more.
abbrev pub FartherCostsMore : Type 0
FartherCostsMore = CostsMore (rolling 30) opening idle short 0
