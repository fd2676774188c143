use Rattle.std.proofs.Common.{◌≡◌, ◌<◌, length, get_or, set, pos, ap, ◌∙◌, arith, to_z, of_z, w32, rules}
use Rattle.std.proofs.lemmas.Int.{to_z-of_z}
use Rattle.std.proofs.lemmas.List.{length-set}
use Rattle.std.proofs.lemmas.List.Edits.{fill_by_more}
use Rattle.forms.specs.Closings.{long_price, short_price}
use Rattle.book.proofs.prices.Prices.of.Goals as goal

pub loop-t-preserved : goal.loop-t-preserved
loop-t-preserved c =
    let form = c.args.form.now in
    let t = c.loop-t.t in
    let inv = c.loop-t.invariant in
    let long : to_z w32 (of_z w32 c.long_price.result) ≡ long_price form.groups form.quarters form.bytes.now t = to_z-of_z w32 c.long_price.result (search rules) ∙ c.long_price.ensures in
    let short : to_z w32 (of_z w32 c.short_price.result) ≡ short_price form.groups form.quarters form.bytes.now t = to_z-of_z w32 c.short_price.result (search rules) ∙ c.short_price.ensures in
    let in_long : t < length c.loop-t.long = omega (arith, c.loop-t-test.true, c.from-t-end.ensures, c.requires.1) in
    let in_short : t < length c.loop-t.short = omega (arith, c.loop-t-test.true, c.from-t-end.ensures, c.requires.1) in (
      length-set c.loop-t.long t _ ∙ inv.0,
      length-set c.loop-t.short t _ ∙ inv.1,
      λ k l. ap (λ z. get_or (set c.loop-t.long t z) k (pos 0)) long ∙ fill_by_more (long_price form.groups form.quarters form.bytes.now) c.loop-t.long t (pos 0) in_long inv.2 k l,
      λ k l. ap (λ z. get_or (set c.loop-t.short t z) k (pos 0)) short ∙ fill_by_more (short_price form.groups form.quarters form.bytes.now) c.loop-t.short t (pos 0) in_short inv.3 k l,
    )

pub returns : goal.returns
returns c = record {
  long = λ t l. c.loop-t.invariant.2 t (omega (arith, c.loop-t-test.false, c.from-t-end.ensures, c.requires.0));
  short = λ t l. c.loop-t.invariant.3 t (omega (arith, c.loop-t-test.false, c.from-t-end.ensures, c.requires.0));
}
