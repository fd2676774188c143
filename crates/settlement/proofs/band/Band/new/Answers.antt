use Rattle.std.proofs.Common.{◌≡◌, ◌+◌, ◌^◌, ◌||◌, min, pos, ◌-ℤ◌, to_z, w32, ap, ◌∙◌, arith, rules}
use Rattle.std.specs.Int.Signed.{lt_z}
use Rattle.std.proofs.lemmas.Int.{to_z-of_z, to_z_pos}
use Rattle.forms.specs.Figures.{figures_of}
use Rattle.settlement.specs.Positions.{limit_for}
use Rattle.settlement.proofs.Bands.{band_near, one_limit}
use Rattle.settlement.proofs.band.Band.new.Goals as goal

pub returns : goal.returns
returns c = λ v near.
    let f = figures_of c.args.figures.now in
    let by_short = c.from-short.ensures ∙ c.limit_for.ensures ∙ one_limit f c.args.phase _ v in
    let by_long = c.from-long.ensures ∙ c.limit_for-2.ensures ∙ one_limit f c.args.phase _ v in
    let above : c.min-above.result ≡ min (f.pump_depth + limit_for f c.args.phase v) (2 ^ 30) = c.min-above.ensures ∙ (λ j. min (c.from-2.ensures j + by_long j) (2 ^ 30)) in
    let below : c.min-below.result ≡ min (f.prod_max + limit_for f c.args.phase v) (2 ^ 30) = c.min-below.ensures ∙ (λ j. min (c.from.ensures j + by_short j) (2 ^ 30)) in
    let high = to_z_pos w32 c.min-above.result (omega (arith, above)) ∙ ap pos above in
    let short = to_z_pos w32 c.min-below.result (omega (arith, below)) ∙ ap pos below in
    let low = to_z-of_z w32 (pos 0 -ℤ to_z w32 c.min-below.result) (search rules) ∙ (λ j. pos 0 -ℤ short j) in
    (λ j. lt_z (high j) v || lt_z v (low j)) ∙ band_near f c.args.phase v near
