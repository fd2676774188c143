-- What is known of a form whose checks have passed, and of its terms.
use Rattle.std.proofs.Common.{◌≡◌, ℕ, zero, suc, ◌-◌, ◌<◌, ◌≤◌, true, List, length, get_or, Ok, inl, inr, arith}
use Rattle.std.proofs.lemmas.List.FromFn.{length-map-range_with_len, get_or-map-range_with_len}
use Rattle.std.proofs.lemmas.Bool.{cases_eq}
use Rattle.std.proofs.lemmas.Bool.Decides.{nat_tests}
use Rattle.forms.specs.Bytes.{byte}
use Rattle.forms.specs.Checks.{each_of}
use Rattle.forms.specs.Figures.{GroupFigures, RateFigures}
use Rattle.forms.specs.Openings.{OpeningFormed, sizes_check, rows_check, groups_told, rows_told, group_place, group_at, row_at, lawful_group, lawful_row, powers_within, plants_metered, rates_within, no_fall, group_row_check, row_check, LawfulTerms, terms_of}
use Rattle.forms.proofs.Firsts.{each_passed, passed_left, passed_right, allowed}

pub opening_formed : (s : List ℕ) → sizes_check s ≡ Ok tt → OpeningFormed s
opening_formed s e = record {
  groups_least = grind (arith, nat_tests);
  groups_most = grind (arith, nat_tests);
  rows_least = grind (arith, nat_tests);
  rows_most = grind (arith, nat_tests);
  long = grind (arith, nat_tests);
}

no_fall_same : (r : RateFigures) → no_fall r r ≡ true
no_fall_same r = grind (arith, nat_tests)

no_fall_on : (r s u : RateFigures) → no_fall r s ≡ true → no_fall s u ≡ true → no_fall r u ≡ true
no_fall_on r s u h k = grind (arith, nat_tests)

-- where no row falls behind the one before it, none falls behind an earlier one
rises : (f : ℕ → RateFigures) (n : ℕ) → ((j : ℕ) → suc j < n → no_fall (f j) (f (suc j)) ≡ true) → (i j : ℕ) → i ≤ j → j < n → no_fall (f i) (f j) ≡ true
rises f n step i zero h l = let e : i ≡ zero = omega arith in rw e (no_fall_same (f zero))
rises f n step i (suc j) h l =
    elim (cases_eq i (suc j)) [
      | inl e ↦ rw e (no_fall_same (f (suc j)))
      | inr ne ↦ no_fall_on (f i) (f j) (f (suc j)) (rises f n step i j (omega arith) (omega arith)) (step j l)
    ]

module _ (s : List ℕ) where
  pub length_groups : length (terms_of s).groups ≡ groups_told s
  unfolding terms_of
  length_groups = length-map-range_with_len (group_at s) 0 (groups_told s)

  pub length_tariff : length (terms_of s).tariff ≡ rows_told s
  unfolding terms_of
  length_tariff = length-map-range_with_len (row_at s (groups_told s)) 0 (rows_told s)

  pub get_or_groups : (a : ℕ) (d : GroupFigures) → a < groups_told s → get_or (terms_of s).groups a d ≡ group_at s a
  unfolding terms_of
  get_or_groups a d h = get_or-map-range_with_len (group_at s) 0 (groups_told s) a a d h (omega arith)

  pub get_or_tariff : (r : ℕ) (d : RateFigures) → r < rows_told s → get_or (terms_of s).tariff r d ≡ row_at s (groups_told s) r
  unfolding terms_of
  get_or_tariff r d h = get_or-map-range_with_len (row_at s (groups_told s)) 0 (rows_told s) r r d h (omega arith)

module _ (s : List ℕ) (passed : rows_check s ≡ Ok tt) where
  group_lawful : (a : ℕ) → a < groups_told s → lawful_group (byte s (group_place a)) (group_at s a) ≡ true
  group_lawful a h =
      allowed (lawful_group (byte s (group_place a)) (group_at s a)) _
      (each_passed (group_row_check s) (groups_told s) a (passed_left (each_of (group_row_check s) (groups_told s)) _ passed) h)

  row_lawful : (r : ℕ) → r < rows_told s → lawful_row s (groups_told s) r ≡ true
  row_lawful r h =
      allowed (lawful_row s (groups_told s) r) _
      (each_passed (row_check s (groups_told s)) (rows_told s) r (passed_right (each_of (group_row_check s) (groups_told s)) _ passed) h)

  powers_at : (a : ℕ) → a < groups_told s → powers_within (group_at s a) ≡ true
  powers_at a h = let e = group_lawful a h in grind (arith, nat_tests)

  plants_at : (a : ℕ) → a < groups_told s → plants_metered (group_at s a) ≡ true
  plants_at a h = let e = group_lawful a h in grind (arith, nat_tests)

  rates_at : (r : ℕ) → r < rows_told s → rates_within (row_at s (groups_told s) r) ≡ true
  rates_at r h = let e = row_lawful r h in grind (arith, nat_tests)

  no_fall_at : (j : ℕ) → suc j < rows_told s → no_fall (row_at s (groups_told s) j) (row_at s (groups_told s) (suc j)) ≡ true
  no_fall_at j h =
      let back : suc j - 1 ≡ j = omega arith in
      let e = rw back at (row_lawful (suc j) h) in
      grind (arith, nat_tests)

  rows_rise : (i j : ℕ) → i ≤ j → j < rows_told s → no_fall (row_at s (groups_told s) i) (row_at s (groups_told s) j) ≡ true
  rows_rise = rises (row_at s (groups_told s)) (rows_told s) no_fall_at

pub formed_terms : (s : List ℕ) → OpeningFormed s → rows_check s ≡ Ok tt → LawfulTerms (terms_of s)
formed_terms s f rows =
    let m = length_groups s in
    let n = length_tariff s in
    record {
      groups_least = omega arith;
      groups_most = omega arith;
      rows_least = omega arith;
      rows_most = omega arith;
      powers = λ a d h. rw (get_or_groups s a d (omega arith)) (powers_at s rows a (omega arith));
      plants = λ a d h. rw (get_or_groups s a d (omega arith)) (plants_at s rows a (omega arith));
      rates = λ r d h. rw (get_or_tariff s r d (omega arith)) (rates_at s rows r (omega arith));
      rises = λ i j d h l. rw (get_or_tariff s i d (omega arith), get_or_tariff s j d (omega arith)) (rows_rise s rows i j h (omega arith));
    }

pub lawful_terms : (s : List ℕ) → sizes_check s ≡ Ok tt → rows_check s ≡ Ok tt → LawfulTerms (terms_of s)
lawful_terms s sizes rows = formed_terms s (opening_formed s sizes) rows
