use Rattle.std.proofs.Common.{◌≡◌, ℕ, ltb, sym, arith}
use Rattle.std.proofs.lemmas.Bool.{and_left, and_right, le-ltb}
use Rattle.forms.specs.Slots.{out_to, in_from}
use Rattle.message.specs.Places.{stated}
use Rattle.message.proofs.Stated.{stated_unsent}
use Rattle.message.proofs.by_slot.SeriesBySlot.scan_trades.Goals as goal

pub returns-in-Some-None : goal.returns-in-Some-None
returns-in-Some-None c =
    let m = c.args.self.now.message in
    let outs = stated m.quarters m.bytes.now (out_to c.args.b) in
    let intos = stated m.quarters m.bytes.now (in_from c.args.b) in
    let none : (t : ℕ) → intos t ≡ 0 = λ t. stated_unsent m.quarters m.bytes.now (in_from c.args.b) t (sym c.in-Some-None.ensures'.there) in
    record {
      outs = λ t l. omega (arith, c.all_bits.ensures t (omega (arith, c.in-Some-None.ensures.count)), c.in-Some-None.ensures.each t l);
      intos = λ t l. omega (arith, none t);
      apart = λ t l. and_right (ltb 0 (outs t)) (ltb 0 (intos t)) (le-ltb 0 (intos t) (omega (arith, none t)));
    }

pub returns-in-None-Some : goal.returns-in-None-Some
returns-in-None-Some c =
    let m = c.args.self.now.message in
    let outs = stated m.quarters m.bytes.now (out_to c.args.b) in
    let intos = stated m.quarters m.bytes.now (in_from c.args.b) in
    let none : (t : ℕ) → outs t ≡ 0 = λ t. stated_unsent m.quarters m.bytes.now (out_to c.args.b) t (sym c.in-None-Some.ensures.there) in
    record {
      outs = λ t l. omega (arith, none t);
      intos = λ t l. omega (arith, c.all_bits-in-None-Some.ensures t (omega (arith, c.in-None-Some.ensures'.count)), c.in-None-Some.ensures'.each t l);
      apart = λ t l. and_left (ltb 0 (outs t)) (ltb 0 (intos t)) (le-ltb 0 (outs t) (omega (arith, none t)));
    }

pub returns-in-None-None : goal.returns-in-None-None
returns-in-None-None c =
    let m = c.args.self.now.message in
    let outs = stated m.quarters m.bytes.now (out_to c.args.b) in
    let intos = stated m.quarters m.bytes.now (in_from c.args.b) in
    let none : (t : ℕ) → outs t ≡ 0 = λ t. stated_unsent m.quarters m.bytes.now (out_to c.args.b) t (sym c.in-None-None.ensures.there) in
    record {
      outs = λ t l. omega (arith, none t);
      intos = λ t l. omega (arith, stated_unsent m.quarters m.bytes.now (in_from c.args.b) t (sym c.in-None-None.ensures'.there));
      apart = λ t l. and_left (ltb 0 (outs t)) (ltb 0 (intos t)) (le-ltb 0 (outs t) (omega (arith, none t)));
    }
