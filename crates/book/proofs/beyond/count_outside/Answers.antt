use Rattle.std.proofs.Common.{◌≡◌, ◌+◌, sym, ap, ◌∙◌, arith, to_z, of_z, w32, rules}
use mir.Val.{bool_byte}
use Rattle.std.proofs.lemmas.Int.{to_z-of_z}
use Rattle.settlement.specs.Bands.{is_outside}
use Rattle.settlement.specs.Days.{day_net}
use Rattle.book.specs.Tallies.{count_where, is_outside_at}
use Rattle.book.proofs.Counting.{count_none, count_next, at_most_one}
use Rattle.book.proofs.beyond.count_outside.Goals as goal

pub loop-t-init : goal.loop-t-init
loop-t-init c = (omega arith, sym (count_none _))

pub loop-t-preserved : goal.loop-t-preserved
loop-t-preserved c =
    let band = c.args.band.now in
    let day = c.args.checks.now in
    let p = is_outside_at band day in
    let same : to_z w32 (of_z w32 c.net.result) ≡ c.net.result = to_z-of_z w32 c.net.result (search rules) in
    let known : c.is_outside.result ≡ p c.loop-t.t =
    c.is_outside.ensures ∙ ap (is_outside band) (same ∙ c.net.ensures.value ∙ ap (day_net day.taken day.given) c.from.ensures) in
    let one : c.from-outside.result ≡ bool_byte (p c.loop-t.t) = c.from-outside.ensures ∙ ap bool_byte known in (
      omega (arith, one, at_most_one (p c.loop-t.t), c.loop-t.invariant.0),
      (λ j. c.loop-t.invariant.1 j + one j) ∙ count_next p c.loop-t.t,
    )

pub returns : goal.returns
returns c =
    let all : c.loop-t.t ≡ c.args.quarters = omega (arith, c.loop-t.auto.t-end, c.loop-t-test.false, c.from-t-end.ensures) in
    c.loop-t.invariant.1 ∙ ap (count_where (is_outside_at c.args.band.now c.args.checks.now)) all
