use Rattle.std.proofs.Common.{◌≤◌, length, sym, ap, ◌∙◌, arith}
use Rattle.settlement.specs.Sheets.{sheet_size}
use Rattle.book.specs.Sheets.{all_powers}
use Rattle.book.proofs.Days.{flags_enough}
use Rattle.book.proofs.Staying.{each_word}
use Rattle.book.proofs.open_day.OpenDay.on_sheet.Goals as goal

pub whole-requires : goal.whole-requires
whole-requires c =
    let g = c.new.result.groups in
    let day = c.args.self.now in
    let few : g ≤ 16 = omega (arith, c.new.ensures.groups, c.groups.ensures.few) in record {
      few = few;
      flags = omega (arith, flags_enough g few, ap length c.new.ensures.sent, day.ledger.now.flags);
      room = ap length c.new.ensures.words ∙ day.room ∙ ap sheet_size (sym (c.new.ensures.groups ∙ c.groups.ensures.value));
      low = λ k. each_word c.new.result.words.now k (ap all_powers c.new.ensures.words ∙ day.lawful);
    }
