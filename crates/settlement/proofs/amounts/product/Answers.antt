use Rattle.std.proofs.Common.{◌≡◌, ◌≤◌, ◌*ℤ◌, nat_abs, arith, w64, SFits, rules}
use Rattle.std.proofs.lemmas.Int.{to_z-of_z, fits_signed_mul, unsigned_abs-mul}
use Rattle.std.proofs.lemmas.Nat.{mul-le}
use Rattle.forms.specs.Bounds.{price_bound}
use Rattle.settlement.specs.Amounts.{most_imbalance}
use Rattle.settlement.proofs.amounts.product.Goals as goal

price-is : (c : goal.After-from) → c.from.result ≡ c.args.price
price-is c = search rules

pub returns : goal.returns
returns c =
    let i = c.args.imbalance in
    let price = c.from.result in
    let low : nat_abs price ≤ price_bound = search rules in
    let f = c.ranges.imbalance in
    let g : SFits w64 price = search rules in
    let p : SFits w64 (i *ℤ price) = fits_signed_mul w64 i price most_imbalance price_bound c.requires.0 low (omega arith) in
    record {
      value = simp to_z-of_z (rw (price-is c));
      bound = simp to_z-of_z (omega (arith, unsigned_abs-mul i price, mul-le (nat_abs i) (nat_abs price) most_imbalance price_bound c.requires.0 low));
    }
