use Rattle.std.proofs.Common.{◌≡◌, ◌+◌, sym, ap, ◌∙◌, arith, to_z, of_z, w32, rules}
use Rattle.std.proofs.lemmas.Int.{to_z-of_z}
use Rattle.settlement.specs.Bands.{is_outside}
use Rattle.settlement.specs.Days.{day_net}
use Rattle.std.specs.Option.{option_map}
use Rattle.message.specs.Places.{first_of}
use Rattle.message.proofs.Search.{first_none, first_found, first_no}
use Rattle.book.specs.Tallies.{is_outside_at}
use Rattle.book.proofs.beyond.first_outside.Goals as goal

pub loop-t-init : goal.loop-t-init
loop-t-init c = first_none _

pub loop-t-preserved : goal.loop-t-preserved
loop-t-preserved c =
    let band = c.args.band.now in
    let day = c.args.checks.now in
    let p = is_outside_at band day in
    let same : to_z w32 (of_z w32 c.net.result) ≡ c.net.result = to_z-of_z w32 c.net.result (search rules) in
    let known : c.is_outside.result ≡ p c.loop-t.t =
    c.is_outside.ensures ∙ ap (is_outside band) (same ∙ c.net.ensures.value ∙ ap (day_net day.taken day.given) c.from.ensures) in
    first_no p c.loop-t.t (sym known ∙ c.if-is_outside.false) ∙ c.loop-t.invariant

pub returns-then-is_outside : goal.returns-then-is_outside
returns-then-is_outside c =
    let band = c.args.band.now in
    let day = c.args.checks.now in
    let p = is_outside_at band day in
    let same : to_z w32 (of_z w32 c.net.result) ≡ c.net.result = to_z-of_z w32 c.net.result (search rules) in
    let known : c.is_outside.result ≡ p c.loop-t.t =
    c.is_outside.ensures ∙ ap (is_outside band) (same ∙ c.net.ensures.value ∙ ap (day_net day.taken day.given) c.from.ensures) in
    sym (ap (option_map (λ k. k + 1)) (first_found p c.args.quarters c.loop-t.t (omega (arith, c.loop-t-test.true, c.from-t-end.ensures)) c.loop-t.invariant (sym known ∙ c.if-is_outside.true)))

pub returns : goal.returns
returns c =
    let p = is_outside_at c.args.band.now c.args.checks.now in
    let all : c.args.quarters ≡ c.loop-t.t = omega (arith, c.loop-t.auto.t-end, c.loop-t-test.false, c.from-t-end.ensures) in
    sym (ap (option_map (λ k. k + 1)) (ap (first_of p) all ∙ c.loop-t.invariant))
