-- Checks that have nothing to look for.
use Rattle.std.proofs.Common.{◌≡◌, ℕ, ◌+◌, ◌<◌, ◌≤◌, Bool, true, false, not, ◌&&◌, eqb, ltb, leb, List, is_ok, None, Ok, Err, sym, refl, ap, ◌∙◌, add-one, arith}
use Rattle.std.specs.Result.{result_and}
use Rattle.std.proofs.lemmas.Bool.{and_left, and_right, cond-false, le-ltb}
use Rattle.std.proofs.lemmas.Bool.Decides.{nat_tests}
use Rattle.forms.specs.declared.kind.Kind.TheVariants.{Out, In}
use Rattle.forms.specs.Kinds.{number_of}
use Rattle.forms.specs.Checks.{Verdict, refuse_if, each_of}
use Rattle.forms.specs.declared.fault.Fault.{Fault}
use Rattle.forms.proofs.Firsts.{each_none, each_all}
use Rattle.forms.specs.Bounds.{power_bound}
use Rattle.message.specs.Form.{series_count, kind_at, counter_at, value_at}
use Rattle.message.specs.Read.{is_forecast}
use Rattle.message.specs.Places.{place_under}
use Rattle.message.specs.Values.{in_series, in_message, range_check, forecast_check, opposed_check}
use Rattle.message.proofs.Stated.{value_missing}

-- whether all pass, one check after another
pub ok_none : (f : ℕ → Verdict) → true ≡ is_ok (each_of f 0)
ok_none f = ap is_ok (sym (each_none f))

both_ok : (r q : Verdict) → is_ok (result_and r q) ≡ (is_ok r && is_ok q)
both_ok (Ok _) q = refl
both_ok (Err e) q = refl

pub ok_more : (f : ℕ → Verdict) (n : ℕ) (b c : Bool) → b ≡ is_ok (each_of f n) → c ≡ is_ok (f n) → (b && c) ≡ is_ok (each_of f (n + 1))
unfolding each_of
ok_more f n b c p q = rw (add-one n) ((λ j. p j && q j) ∙ sym (both_ok (each_of f n) (f n)))

refuse_ok : (b : Bool) (e : Fault) → not b ≡ is_ok (refuse_if b e)
refuse_ok true e = refl
refuse_ok false e = refl

leb_not : (v b : ℕ) → leb v b ≡ not (ltb b v)
leb_not v b = grind (arith, nat_tests)

-- a value within the bound
pub range_ok : (q : ℕ) (s : List ℕ) (i t v : ℕ) → v ≡ value_at q s i t → leb v power_bound ≡ is_ok (range_check q s i t)
range_ok q s i t v e = ap (λ x. leb x power_bound) e ∙ leb_not (value_at q s i t) power_bound ∙ refuse_ok (ltb power_bound (value_at q s i t)) _

pub refuse_none : (b : Bool) (e : Fault) → b ≡ false → refuse_if b e ≡ Ok tt
refuse_none b e h = cond-false b (Err e) (Ok tt) h

module _ (q : ℕ) (s : List ℕ) (i : ℕ) where
  pub forecast_other : (metered : Bool) → is_forecast (kind_at s i) ≡ false → in_series q (forecast_check q metered s) i ≡ Ok tt
  forecast_other metered h = each_all _ q (λ t l. refuse_none _ _ (and_right (not metered) _ (and_left _ _ h)))

  pub opposed_other : eqb (kind_at s i) (number_of Out) ≡ false → in_series q (opposed_check q s) i ≡ Ok tt
  opposed_other h = each_all _ q (λ t l. refuse_none _ _ (and_left _ _ h))

  pub opposed_alone : place_under s (number_of In) (counter_at s i) ≡ None → in_series q (opposed_check q s) i ≡ Ok tt
  opposed_alone h = each_all _ q (λ t l. let none = value_missing q s (number_of In) (counter_at s i) t h in grind (arith, nat_tests))

-- no forecast of the message is above 0
abbrev pub ForecastsNothing : ℕ → List ℕ → Type 0
ForecastsNothing q s = (i t : ℕ) → i < series_count s → t < q → (is_forecast (kind_at s i) && ltb 0 (value_at q s i t)) ≡ false

module _ (q : ℕ) (s : List ℕ) where
  -- a check that each value passes
  pub all_pass : (check : ℕ → ℕ → Verdict) → ((i t : ℕ) → i < series_count s → t < q → check i t ≡ Ok tt) → in_message q s check ≡ Ok tt
  all_pass check h = each_all (in_series q check) (series_count s) (λ i l. each_all (check i) q (λ t m. h i t l m))

  pub ranges_pass : ((i t : ℕ) → i < series_count s → t < q → value_at q s i t ≤ power_bound) → in_message q s (range_check q s) ≡ Ok tt
  ranges_pass low = all_pass (range_check q s) (λ i t l m. refuse_none _ _ (le-ltb power_bound (value_at q s i t) (low i t l m)))

  pub forecasts_metered : (metered : Bool) → metered ≡ true → in_message q s (forecast_check q metered s) ≡ Ok tt
  forecasts_metered metered h = all_pass (forecast_check q metered s) (λ i t l m. refuse_none _ _ (rw h refl))

  pub forecasts_nothing : (metered : Bool) → ForecastsNothing q s → in_message q s (forecast_check q metered s) ≡ Ok tt
  forecasts_nothing metered h = all_pass (forecast_check q metered s) (λ i t l m. refuse_none _ _ (and_right (not metered) _ (h i t l m)))
