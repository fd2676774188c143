use Rattle.std.proofs.Common.{sym, ◌∙◌, arith}
use Rattle.std.proofs.lemmas.Bool.{le-leb}
use Rattle.book.proofs.Powers.{bits_within}
use Rattle.book.proofs.whole_sheet.all_powers.Goals as goal

pub returns-then-all_bits-le-POWER_BOUND : goal.returns-then-all_bits-le-POWER_BOUND
returns-then-all_bits-le-POWER_BOUND c =
    let within = c.if-all_bits-le-POWER_BOUND.true in
    le-leb c.all_bits.result 10000000 within ∙ sym (bits_within 0 c.args.words.now (omega (arith, c.all_bits.ensures, within)))
