-- The opening form: a byte g (groups), a byte k (tariff rows), g group rows, k tariff rows. Groups and rows count from 0 here.
use Rattle.std.specs.Prelude.{◌≡◌, ℕ, ◌+◌, ◌-◌, ◌*◌, ◌≤◌, Bool, not, ◌&&◌, ◌||◌, List, map, length, take, ◌==◌, nat_le, nat_lt}
use Rattle.std.specs.Result.{result_and}
use Rattle.std.specs.List.{range_with_len}
use Rattle.forms.specs.declared.terms.Opening.{Opening}
use Rattle.forms.specs.declared.fault.Fault.TheVariants.{ShortForm, WrongSize, WrongLength, UnlawfulGroup, UnlawfulTariff}
use Rattle.forms.specs.Bounds.{least_groups, most_groups, least_rows, most_rows}
use Rattle.forms.specs.Bytes.{byte, be32}
use Rattle.forms.specs.Checks.{Verdict, refuse_if, each_of}
use Rattle.forms.specs.Figures.{GroupFigures, RateFigures, Terms}
use Rattle.forms.specs.Lawful.{terms_from}
pub use Rattle.forms.specs.Lawful.{groups_may_be, rows_may_be, powers_within, plants_metered, rates_within, no_fall, LawfulTerms}

-- the bytes of the header, of a group row and of a tariff row
abbrev pub opening_header : ℕ
opening_header = 2

abbrev pub group_bytes : ℕ
group_bytes = 21

abbrev pub row_bytes : ℕ
row_bytes = 8

-- how many groups and tariff rows a form says that it has
abbrev pub groups_told : List ℕ → ℕ
groups_told s = byte s 0

abbrev pub rows_told : List ℕ → ℕ
rows_told s = byte s 1

abbrev pub opening_length : ℕ → ℕ → ℕ
opening_length g k = opening_header + group_bytes * g + row_bytes * k

-- the header is there, its sizes are such as a form may have, and the length is what they give
abbrev pub sizes_check : List ℕ → Verdict
sizes_check s =
    result_and (refuse_if (nat_lt (length s) opening_header) ShortForm)
    (result_and (refuse_if (not (groups_may_be (groups_told s) && rows_may_be (rows_told s))) WrongSize)
    (refuse_if (not (length s == opening_length (groups_told s) (rows_told s))) WrongLength))

-- what a form with lawful sizes has
pub record OpeningFormed (s : List ℕ) : Type 0 where
  pub groups_least : least_groups ≤ groups_told s
  pub groups_most : groups_told s ≤ most_groups
  pub rows_least : least_rows ≤ rows_told s
  pub rows_most : rows_told s ≤ most_rows
  pub long : length s ≡ opening_length (groups_told s) (rows_told s)

-- where the row of a group begins, and a tariff row behind g groups
abbrev pub group_place : ℕ → ℕ
group_place a = opening_header + group_bytes * a

abbrev pub row_place : ℕ → ℕ → ℕ
row_place g r = opening_header + group_bytes * g + row_bytes * r

-- what the row of group a says
unfoldable pub group_at : List ℕ → ℕ → GroupFigures
group_at s a = record {
  metered = (byte s (group_place a) == 1);
  prod_max = be32 s (group_place a + 1);
  pump_depth = be32 s (group_place a + 5);
  limits = record { ahead = be32 s (group_place a + 9); near = be32 s (group_place a + 13); after = be32 s (group_place a + 17) };
}

-- what tariff row r behind g groups says
unfoldable pub row_at : List ℕ → ℕ → ℕ → RateFigures
row_at s g r = record { fee = be32 s (row_place g r); rate = be32 s (row_place g r + 4) }

-- a group row by its flag byte and its figures
abbrev pub lawful_group : ℕ → GroupFigures → Bool
lawful_group flag f = nat_le flag 1 && (powers_within f && plants_metered f)

abbrev pub group_row_check : List ℕ → ℕ → Verdict
group_row_check s a = refuse_if (not (lawful_group (byte s (group_place a)) (group_at s a))) (UnlawfulGroup (a + 1))

-- tariff row r behind g groups: within the bounds, and from the second on no fall from the row before
abbrev pub lawful_row : List ℕ → ℕ → ℕ → Bool
lawful_row s g r = rates_within (row_at s g r) && (r == 0 || no_fall (row_at s g (r - 1)) (row_at s g r))

-- in a fault the tariff rows count on behind the groups
abbrev pub row_check : List ℕ → ℕ → ℕ → Verdict
row_check s g r = refuse_if (not (lawful_row s g r)) (UnlawfulTariff (g + r + 1))

-- every group row, then every tariff row
abbrev pub rows_check : List ℕ → Verdict
rows_check s = result_and (each_of (group_row_check s) (groups_told s)) (each_of (row_check s (groups_told s)) (rows_told s))

-- what the bytes of an opening form say, as values
unfoldable pub terms_of : List ℕ → Terms
terms_of s = record {
  groups = map (group_at s) (range_with_len 0 (groups_told s));
  tariff = map (row_at s (groups_told s)) (range_with_len 0 (rows_told s));
}

-- the same as the code holds it
unfoldable pub terms_in : Opening → Terms
terms_in o = terms_from (take o.groups.count o.groups.places) (take o.tariff.count o.tariff.places)
