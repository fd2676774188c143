-- Trades, check values, open positions and excesses, of what the groups have sent. Powers are whole kW.
use Rattle.std.specs.Prelude.{◌≡◌, ℕ, ◌-◌, ◌<◌, min, Bool, cond, List, ℤ, pos, ◌+ℤ◌, ◌-ℤ◌, neg_ℤ, ◌==◌, int_lt, nat_le, nat_lt, unsigned_abs}
use Rattle.forms.specs.Slots.{out_to, in_from, cons}
use Rattle.forms.specs.Figures.{GroupFigures, Terms, group_count, figures_at}
use Rattle.settlement.specs.declared.phase.Phase.{Phase}
use Rattle.settlement.specs.declared.phase.Phase.TheVariants.{Ahead, Near, After}
use Rattle.settlement.specs.Days.{day_net, sums_of}
use Rattle.settlement.specs.Sheets.{Statements, words_per_slot}
use Rattle.settlement.specs.Sums.{sumℕ, with_others}

-- the confirmed trade from group a to group b: the lower of a's out and b's in
unfoldable pub confirmed : Statements → ℕ → ℕ → ℕ → ℕ
confirmed S t a b = min (S a (out_to b) t) (S b (in_from a) t)

-- what group a gives to group b: the confirmed trade, and nothing to itself
unfoldable pub given_to : Statements → ℕ → ℕ → ℕ → ℕ
given_to S t a b = cond (a == b) 0 (confirmed S t a b)

-- Group a's trades with the first n groups, itself left out: in less out. Confirmed, and as a itself has stated them.
unfoldable pub confirmed_with : Statements → ℕ → ℕ → ℕ → ℤ
confirmed_with S t a n = with_others (λ b. pos (confirmed S t b a) -ℤ pos (confirmed S t a b)) a n

unfoldable pub stated_with : Statements → ℕ → ℕ → ℕ → ℤ
stated_with S t a n = with_others (λ b. pos (S a (in_from b) t) -ℤ pos (S a (out_to b) t)) a n

-- confirmed net purchases of group a among g groups
abbrev pub net_purchases : Statements → ℕ → ℕ → ℕ → ℤ
net_purchases S g t a = confirmed_with S t a g

-- these sums, for each of g groups, are its confirmed trades of a day: what it takes less what it gives are its net purchases
abbrev pub AreConfirmed : Statements → ℕ → List (List ℕ) → List (List ℕ) → Type 0
AreConfirmed S g taken given =
    (a t : ℕ) → a < g → t < words_per_slot → day_net (sums_of taken a) (sums_of given a) t ≡ net_purchases S g t a

-- the check value: trades in, less trades out, less the consumption forecast
abbrev pub stated_check : Statements → ℕ → ℕ → ℕ → ℤ
stated_check S g t a = stated_with S t a g -ℤ pos (S a cons t)

abbrev pub confirmed_check : Statements → ℕ → ℕ → ℕ → ℤ
confirmed_check S g t a = net_purchases S g t a -ℤ pos (S a cons t)

-- how far a check value lies below minus the production maximum (short) or above the pump depth (long)
abbrev pub open_position : GroupFigures → ℤ → ℤ
open_position f v =
    cond (int_lt v (neg_ℤ (pos f.prod_max))) (v +ℤ pos f.prod_max)
    (cond (int_lt (pos f.pump_depth) v) (v -ℤ pos f.pump_depth) (pos 0))

-- group a's open position, as it has stated its trades, and as they are confirmed
unfoldable pub stated_open : Statements → GroupFigures → ℕ → ℕ → ℕ → ℤ
stated_open S f g t a = open_position f (stated_check S g t a)

unfoldable pub confirmed_open : Statements → GroupFigures → ℕ → ℕ → ℕ → ℤ
confirmed_open S f g t a = open_position f (confirmed_check S g t a)

-- the limit that applies to an open position in a phase
abbrev pub limit_for : GroupFigures → Phase → ℤ → ℕ
limit_for f Ahead o = f.limits.ahead
limit_for f Near o = f.limits.near
limit_for f After o = f.limits.after

-- how far an open position lies beyond its limit
abbrev pub excess : GroupFigures → Phase → ℤ → ℕ
excess f p o = unsigned_abs o - limit_for f p o

-- an open position is beyond the limit of a phase
abbrev pub is_beyond : GroupFigures → Phase → ℤ → Bool
is_beyond f p o = nat_lt 0 (excess f p o)

-- the first open position is no farther out than the second: the second is at least as far from zero
abbrev pub no_farther : ℤ → ℤ → Bool
no_farther o p = nat_le (unsigned_abs o) (unsigned_abs p)

-- E: a day's sum of the excesses of the confirmed open position over the limit of the phase after
unfoldable pub day_excess : Statements → GroupFigures → ℕ → ℕ → ℕ → ℕ
day_excess S f g a q = sumℕ (λ t. excess f After (confirmed_open S f g t a)) q

-- By the terms of a book, of group a: its stated and its confirmed open position and its net purchases in quarter hour t
abbrev pub positions_by : Terms → Statements → ℕ → ℕ → ℤ × ℤ × ℤ
positions_by terms S a t = (
  stated_open S (figures_at terms a) (group_count terms) t a,
  confirmed_open S (figures_at terms a) (group_count terms) t a,
  net_purchases S (group_count terms) t a,
)

-- whether the stated one is beyond the limit of a phase
abbrev pub beyond_by : Terms → Statements → Phase → ℕ → ℕ → Bool
beyond_by terms S p a t = is_beyond (figures_at terms a) p (stated_open S (figures_at terms a) (group_count terms) t a)

-- and E of a day of q quarter hours
abbrev pub excess_by : Terms → Statements → ℕ → ℕ → ℕ
excess_by terms S a q = day_excess S (figures_at terms a) (group_count terms) a q
