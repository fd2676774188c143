-- What a series as read says of the message that it is a part of.
use Rattle.std.proofs.Common.{◌≡◌, ℕ, ◌+◌, ◌-◌, ◌*◌, ◌<◌, ◌≤◌, true, false, ◌&&◌, eqb, ltb, ◌⊎◌, List, length, Some, None, Ok, sym, refl, ap, ◌∙◌, subst, inl, inr, arith}
use Rattle.std.proofs.lemmas.Bool.{cases_Bool, cases_eq, and_left, and_right, le-ltb, eqb-true}
use Rattle.std.proofs.lemmas.Bool.Decides.{nat_tests}
use Rattle.forms.specs.Bytes.{be32}
use Rattle.forms.specs.declared.kind.Kind.TheVariants.{Out, In}
use Rattle.forms.specs.Kinds.{number_of}
use Rattle.forms.specs.Slots.{Slot, out_to, in_from, cons, prod, pump, Within}
use Rattle.message.specs.Form.{Formed, series_count, kind_at, counter_at, value_at, values_at}
use Rattle.message.specs.Read.{SeriesRead, trade, forecast, is_trade, is_forecast, bytes_of, Names, slot_under, slot_read, series_of}
use Rattle.forms.specs.Checks.{each_of}
use Rattle.message.specs.Heads.{head_check, heads_check}
use Rattle.message.specs.Places.{place_under, place_of, value_under, stated}
use Rattle.message.specs.Values.{opposed_check, StatesAtMost, Unopposed}
use Rattle.message.proofs.Stated.{about}
use Rattle.message.proofs.HeadLaws.{head_lawful, heads_lawful, within, stated_about}
use Rattle.message.proofs.Passes.{ForecastsNothing, refuse_none}
use Rattle.message.proofs.Spans.{value_of_bytes, length_values}

-- what a forecast is about does not depend on the counter
forecast_slot : (kind counter : ℕ) → is_forecast kind ≡ true → slot_under kind 0 ≡ slot_under kind counter
forecast_slot kind counter h = grind (arith, nat_tests)

module _ (q : ℕ) (s : List ℕ) (i : ℕ) where
  abbrev as-trade : SeriesRead
  as-trade = trade (i + 1) (kind_at s i) (counter_at s i) (values_at q s i)

  abbrev as-forecast : SeriesRead
  as-forecast = forecast (i + 1) (kind_at s i) (values_at q s i)

  series_trade : is_trade (kind_at s i) ≡ true → series_of q s i ≡ Some as-trade
  series_trade h = rw h refl

  series_forecast : is_trade (kind_at s i) ≡ false → is_forecast (kind_at s i) ≡ true → series_of q s i ≡ Some as-forecast
  series_forecast h k = rw (h, k) refl

  series_none : is_trade (kind_at s i) ≡ false → is_forecast (kind_at s i) ≡ false → series_of q s i ≡ None
  series_none h k = rw (h, k) refl

  -- a series as read is the trade or the forecast that its head says
  either_told : (x : SeriesRead) → series_of q s i ≡ Some x
      → ((is_trade (kind_at s i) ≡ true) × (x ≡ as-trade)) ⊎ ((is_forecast (kind_at s i) ≡ true) × (x ≡ as-forecast))
  either_told x h =
      elim (cases_Bool (is_trade (kind_at s i))) [
        | inl e ↦ let d = series_trade e in inl (e, cc)
        | inr e ↦ elim (cases_Bool (is_forecast (kind_at s i))) [
          | inl f ↦ let d = series_forecast e f in inr (f, cc)
          | inr f ↦ let d = series_none e f in absurd (cc)
        ]
      ]

  -- a forecast as read has a forecast's head
  pub forecast_told : (place kind : ℕ) (bytes : List ℕ) → series_of q s i ≡ Some (forecast place kind bytes) → (place ≡ i + 1) × (is_forecast (kind_at s i) ≡ true)
  forecast_told place kind bytes h = elim (either_told (forecast place kind bytes) h) [ inl e ↦ let d = e.1 in absurd cc | inr e ↦ (cc, e.0) ]

  -- and a trade a trade's
  pub trade_told : (place kind counter : ℕ) (bytes : List ℕ) → series_of q s i ≡ Some (trade place kind counter bytes) → (place ≡ i + 1) × (kind ≡ kind_at s i) × (counter ≡ counter_at s i)
  trade_told place kind counter bytes h = elim (either_told (trade place kind counter bytes) h) [
    | inl e ↦ let d = e.1 in (cc, cc, cc)
    | inr e ↦ let d = e.1 in absurd cc
  ]

  module _ (x : SeriesRead) (shown : series_of q s i ≡ Some x) where
    bytes_told : bytes_of x ≡ values_at q s i
    bytes_told = elim (either_told x shown) [ inl e ↦ ap bytes_of e.1 | inr e ↦ ap bytes_of e.1 ]

    -- so its value at t is that of series i
    pub value_told : (t : ℕ) → t < q → be32 (bytes_of x) (4 * t) ≡ value_at q s i t
    value_told t m = ap (λ b. be32 b (4 * t)) bytes_told ∙ value_of_bytes q s i t m

    pub length_told : Formed q s → i < series_count s → length (bytes_of x) ≡ 4 * q
    length_told f l = ap length bytes_told ∙ length_values q s i f l

    pub slot_told : slot_read x ≡ about s i
    slot_told = elim (either_told x shown) [ inl e ↦ ap slot_read e.1 | inr e ↦ ap slot_read e.1 ∙ forecast_slot (kind_at s i) (counter_at s i) e.0 ]

-- Once every head is lawful, each series is there, and a trade names a group.
module _ (g own q : ℕ) (s : List ℕ) (lawful : each_of (head_check g own s) (series_count s) ≡ Ok tt) (i : ℕ) (there : i < series_count s) where
  pub series_there : series_of q s i ≡ None → ⊥
  series_there h =
      elim (cases_Bool (is_trade (kind_at s i))) [
        | inl e ↦ let d = series_trade q s i e in cc
        | inr e ↦ elim (cases_Bool (is_forecast (kind_at s i))) [
          | inl f ↦ let d = series_forecast q s i e f in cc
          | inr f ↦ let d = head_lawful g own s lawful i there in grind (arith, nat_tests)
        ]
      ]

  trade_named : is_trade (kind_at s i) ≡ true → 1 ≤ counter_at s i
  trade_named e = let d = head_lawful g own s lawful i there in grind (arith, nat_tests)

  pub names_told : (x : SeriesRead) → series_of q s i ≡ Some x → Names x
  names_told x shown =
      elim (either_told q s i x shown) [
        | inl e ↦ subst Names (sym e.1) (trade_named e.0)
        | inr e ↦ subst Names (sym e.1) tt
      ]

-- a forecast is of one of the three slots of forecasts
forecast_of : (P : Slot → Type 0) (kind counter : ℕ) → P cons → P prod → P pump → is_forecast kind ≡ true → P (slot_under kind counter)
forecast_of P kind counter c d u h =
    elim (cases_eq kind 3) [
      | inl e ↦ let is : slot_under kind counter ≡ cons = rw e refl in subst P (sym is) c
      | inr n ↦ elim (cases_eq kind 4) [
        | inl e ↦ let is : slot_under kind counter ≡ prod = rw e refl in subst P (sym is) d
        | inr m ↦ let e : kind ≡ 5 = grind (arith, nat_tests) in let is : slot_under kind counter ≡ pump = rw e refl in subst P (sym is) u
      ]
    ]

-- what holds of each slot, one by one
pub each_slot : (P : Slot → Type 0) (g : ℕ) → ((b : ℕ) → b < g → P (out_to b)) → ((b : ℕ) → b < g → P (in_from b)) → P cons → P prod → P pump
    → (slot : Slot) → Within g slot → P slot
each_slot P g outs intos c d u (out_to b) l = outs b l
each_slot P g outs intos c d u (in_from b) l = intos b l
each_slot P g outs intos c d u cons l = c
each_slot P g outs intos c d u prod l = d
each_slot P g outs intos c d u pump l = u

-- Once the heads have passed, a series has what its message states for its slot.
module _ (g own q : ℕ) (s : List ℕ) (passed : heads_check g own s ≡ Ok tt) where
  -- so where nothing stated is above a bound, no value is
  pub values_within : (b : ℕ) → ((slot : Slot) → Within g slot → StatesAtMost q s slot b) → (i t : ℕ) → i < series_count s → t < q → value_at q s i t ≤ b
  values_within b low i t there l =
      omega (arith, low (about s i) (within g own s (heads_lawful g own s passed) i there) t l, stated_about g own s passed q i t there)

  -- and where nothing is stated for the forecasts, none is above 0
  pub forecasts_zero : ((t : ℕ) → t < q → stated q s cons t ≡ 0) → ((t : ℕ) → t < q → stated q s prod t ≡ 0) → ((t : ℕ) → t < q → stated q s pump t ≡ 0)
      → ForecastsNothing q s
  forecasts_zero c d u i t there l =
      elim (cases_Bool (is_forecast (kind_at s i))) [
        | inl e ↦
            let zero = forecast_of (λ slot. stated q s slot t ≡ 0) (kind_at s i) (counter_at s i) (c t l) (d t l) (u t l) e in
            and_right (is_forecast (kind_at s i)) _ (le-ltb 0 (value_at q s i t) (omega (arith, stated_about g own s passed q i t there, zero)))
        | inr e ↦ and_left _ _ e
      ]

-- the counter of a trade out, as read, names a group
pub counter_of_out : (g own : ℕ) (s : List ℕ) → heads_check g own s ≡ Ok tt → (i : ℕ) → i < series_count s → (counter : ℕ) → number_of Out ≡ kind_at s i → counter ≡ counter_at s i
    → (1 ≤ counter) × (counter - 1 < g)
counter_of_out g own s passed i there counter out is =
    let d = head_lawful g own s (heads_lawful g own s passed) i there in
    grind (arith, nat_tests)

-- under it the trades in from that group are found
pub opposite_place : (s : List ℕ) (i counter : ℕ) → counter ≡ counter_at s i → 1 ≤ counter → place_under s (number_of In) (counter_at s i) ≡ place_of s (in_from (counter - 1))
opposite_place s i counter is named = let e : counter_at s i ≡ counter - 1 + 1 = omega arith in ap (place_under s (number_of In)) e

-- where trades out to a group and in from it are never above 0 at once, no trade out is refused
module _ (g own q : ℕ) (s : List ℕ) (passed : heads_check g own s ≡ Ok tt) where
  pub trades_apart : ((b : ℕ) → b < g → Unopposed q s b) → (i t : ℕ) → i < series_count s → t < q → opposed_check q s i t ≡ Ok tt
  trades_apart h i t there l =
      elim (cases_Bool (eqb (kind_at s i) (number_of Out))) [
        | inl e ↦
            let out : kind_at s i ≡ number_of Out = eqb-true _ _ e in
            let counter = counter_of_out g own s passed i there (counter_at s i) (sym out) refl in
            let b = counter_at s i - 1 in
            let given : stated q s (out_to b) t ≡ value_at q s i t =
            ap (λ k. stated q s (slot_under k (counter_at s i)) t) (sym out) ∙ stated_about g own s passed q i t there in
            let taken : stated q s (in_from b) t ≡ value_under q s (number_of In) (counter_at s i) t =
            ap (λ k. value_under q s (number_of In) k t) (let d : b + 1 ≡ counter_at s i = omega (arith, counter.0) in d) in
            refuse_none _ _ (and_right (eqb (kind_at s i) (number_of Out)) _ ((λ j. ltb 0 (sym given j) && ltb 0 (sym taken j)) ∙ h b counter.1 t l))
        | inr e ↦ refuse_none _ _ (and_left _ _ e)
      ]
