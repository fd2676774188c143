-- What the values of an opening say of its terms.
use Rattle.std.proofs.Common.{◌≡◌, ℕ, ◌<◌, ◌≤◌, List, map, length, get_or, true, take, sym, refl, ◌∙◌, inl, inr, arith}
use Rattle.std.specs.List.{range_with_len}
use Rattle.std.proofs.lemmas.Bool.{cases_lt}
use Rattle.std.proofs.lemmas.Bool.Decides.{nat_tests}
use Rattle.std.proofs.lemmas.List.{length-map, length-take-le, get_or-map, get_or_past, same_lists}
use Rattle.std.proofs.lemmas.List.FromFn.{length-map-range_with_len, get_or-map-range_with_len}
use Rattle.forms.specs.declared.group.Group.{Group}
use Rattle.forms.specs.declared.group.TariffRow.{TariffRow}
use Rattle.forms.specs.declared.terms.Opening.{Opening}
use Rattle.forms.specs.declared.up_to.UpTo.{UpTo}
use Rattle.forms.specs.Bounds.{fee_bound, rate_bound}
use Rattle.forms.specs.Figures.{figures_of, rates_of}
use Rattle.forms.specs.Lawful.{rates_within, LawfulTerms, terms_from}
use Rattle.forms.specs.Openings.{groups_told, rows_told, group_at, row_at, terms_of, terms_in}

-- items that each say what h says of their place
pub filled : {X Y : Type 0} (f : X → Y) (h : ℕ → Y) (xs : List X) (n : ℕ) (d : X) → length xs ≡ n
    → ((i : ℕ) → i < n → f (get_or xs i d) ≡ h i) → map f xs ≡ map h (range_with_len 0 n)
filled f h xs n d l e =
    same_lists (map f xs) (map h (range_with_len 0 n)) (length-map xs f ∙ l ∙ sym (length-map-range_with_len h 0 n))
    (λ k y m. get_or-map f xs k d y (omega (arith, length-map xs f))
    ∙ e k (omega (arith, length-map xs f, l))
    ∙ sym (get_or-map-range_with_len h 0 n k k y (omega (arith, length-map xs f, l)) (omega arith)))

-- groups and tariff rows that say what the form says of each
pub terms_read : (s : List ℕ) (groups : UpTo Group 16) (tariff : UpTo TariffRow 10) (d : Group) (e : TariffRow)
    → groups.count ≡ groups_told s → ((a : ℕ) → a < groups_told s → figures_of (get_or (take groups.count groups.places) a d) ≡ group_at s a)
    → tariff.count ≡ rows_told s → ((r : ℕ) → r < rows_told s → rates_of (get_or (take tariff.count tariff.places) r e) ≡ row_at s (groups_told s) r)
    → terms_from (take groups.count groups.places) (take tariff.count tariff.places) ≡ terms_of s
unfolding terms_of
terms_read s groups tariff d e m g n t =
    let gs = filled figures_of (group_at s) (take groups.count groups.places) (groups_told s) d (length-take-le _ _ groups.room ∙ m) g in
    let rs = filled rates_of (row_at s (groups_told s)) (take tariff.count tariff.places) (rows_told s) e (length-take-le _ _ tariff.room ∙ n) t in
    λ j. record { groups = gs j; tariff = rs j }

-- no row of lawful terms is out of bounds, nor is what stands for a row that is not there
module _ (groups : List Group) (tariff : List TariffRow) (lawful : LawfulTerms (terms_from groups tariff)) where
  row_within : (k : ℕ) → rates_within (rates_of (get_or tariff k (record { fee = 0; rate = 0 }))) ≡ true
  row_within k =
      elim (cases_lt k (length tariff)) [
        | inl l ↦ rw (get_or-map rates_of tariff k (record { fee = 0; rate = 0 }) (record { fee = 0; rate = 0 }) l) at (lawful.rates k (record { fee = 0; rate = 0 }) (omega (arith, length-map tariff rates_of)))
        | inr g ↦ rw (get_or_past tariff k (record { fee = 0; rate = 0 }) g) refl
      ]

  pub fee_within : (k : ℕ) → (get_or tariff k (record { fee = 0; rate = 0 })).fee ≤ fee_bound
  fee_within k = let e = row_within k in grind (arith, nat_tests)

  pub rate_within : (k : ℕ) → (get_or tariff k (record { fee = 0; rate = 0 })).rate ≤ rate_bound
  rate_within k = let e = row_within k in grind (arith, nat_tests)

module _ (o : Opening) where
  pub lawful_in : LawfulTerms (terms_in o)
  unfolding terms_in
  lawful_in = o.lawful

  pub count_in : length (terms_in o).groups ≡ o.groups.count
  unfolding terms_in
  count_in = length-map (take o.groups.count o.groups.places) figures_of ∙ length-take-le o.groups.count o.groups.places o.groups.room
