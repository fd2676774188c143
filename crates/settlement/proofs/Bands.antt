-- An open position is beyond a limit where its check value is outside of both bounds together.
use Rattle.std.proofs.Common.{◌≡◌, ℕ, ◌+◌, ◌-◌, ◌^◌, ◌≤◌, min, cond, ltb, ◌||◌, ℤ, pos, ◌+ℤ◌, ◌-ℤ◌, nat_abs, refl, ◌∙◌, arith}
use Rattle.std.specs.Prelude.{neg_ℤ}
use Rattle.forms.specs.Figures.{GroupFigures}
use Rattle.settlement.specs.declared.day.DayTrades.{DayTrades}
use Rattle.settlement.specs.declared.phase.Phase.{Phase}
use Rattle.settlement.specs.declared.phase.Phase.TheVariants.{Ahead, Near, After}
use Rattle.settlement.specs.Days.{day_net}
use Rattle.settlement.specs.Positions.{open_position, limit_for, is_beyond}
use Rattle.std.specs.Int.Signed.{lt_z}
use Rattle.std.proofs.lemmas.Int.{ints}
use Rattle.std.proofs.lemmas.Bool.Decides.{nat_tests}

pub band : (most depth limit : ℕ) (v : ℤ) → (lt_z (pos depth +ℤ pos limit) v || lt_z v (pos 0 -ℤ (pos most +ℤ pos limit)))
    ≡ ltb 0 (nat_abs (cond (lt_z v (neg_ℤ (pos most))) (v +ℤ pos most) (cond (lt_z (pos depth) v) (v -ℤ pos depth) (pos 0))) - limit)
band most depth limit v = grind (arith, ints, nat_tests)

pub band_of : (f : GroupFigures) (p : Phase) (v : ℤ)
    → (lt_z (pos f.pump_depth +ℤ pos (limit_for f p v)) v || lt_z v (pos 0 -ℤ (pos f.prod_max +ℤ pos (limit_for f p v)))) ≡ is_beyond f p (open_position f v)
band_of f Ahead v = band f.prod_max f.pump_depth f.limits.ahead v
band_of f Near v = band f.prod_max f.pump_depth f.limits.near v
band_of f After v = band f.prod_max f.pump_depth f.limits.after v

-- the limit does not look at the position
pub one_limit : (f : GroupFigures) (p : Phase) (u v : ℤ) → limit_for f p u ≡ limit_for f p v
one_limit f Ahead u v = refl
one_limit f Near u v = refl
one_limit f After u v = refl

-- the same by bounds that are cut off where no check value comes
pub band_near : (f : GroupFigures) (p : Phase) (v : ℤ) → nat_abs v ≤ 2 ^ 30
    → (lt_z (pos (min (f.pump_depth + limit_for f p v) (2 ^ 30))) v || lt_z v (pos 0 -ℤ pos (min (f.prod_max + limit_for f p v) (2 ^ 30)))) ≡ is_beyond f p (open_position f v)
band_near f p v near = cut f.prod_max f.pump_depth (limit_for f p v) v near ∙ band_of f p v
  where
    cut : (most depth limit : ℕ) (v : ℤ) → nat_abs v ≤ 2 ^ 30
        → (lt_z (pos (min (depth + limit) (2 ^ 30))) v || lt_z v (pos 0 -ℤ pos (min (most + limit) (2 ^ 30)))) ≡ (lt_z (pos depth +ℤ pos limit) v || lt_z v (pos 0 -ℤ (pos most +ℤ pos limit)))
    cut most depth limit v near = grind (arith, ints, nat_tests)

-- and no check value of a day's sums comes there
pub day_near : (day : DayTrades) (t : ℕ) → nat_abs (day_net day.taken day.given t) ≤ 2 ^ 30
day_near day t = let taken = day.taken_low t in let given = day.given_low t in omega (arith, ints)
